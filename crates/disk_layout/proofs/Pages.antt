-- What recovery makes of the first entries of whole transactions.
use Rattle.std.proofs.Common.{◌≡◌, ◌<◌, ◌≤◌, ◌⊎◌, ℕ, zero, suc, ◌+◌, List, [], ◌∷◌, ◌++◌, length, take, inl, inr, ⊎_elim, refl, sym, ◌∙◌, ap, subst, rules, arith}
use Rattle.std.specs.Prelude.{Bool, true, false, ◌==◌, ◌&&◌, ◌||◌, not, if◌then◌else◌}
use Rattle.std.proofs.lemmas.List.{append-nil}
use Rattle.std.proofs.lemmas.Bool.Decides.{nat_tests}
use Rattle.disk_layout.specs.declared.entry.Entry.{Entry}
use Rattle.disk_layout.specs.declared.entry.Entry.TheVariants.{Update, End}
use Rattle.disk_layout.specs.Pages.{redone, is_ended, undone, recovered, firsts, ends_in, AreWholeFrom, AreWhole}

abbrev set_page : ℕ → List ℕ → (ℕ → List ℕ) → ℕ → List ℕ
set_page page new pages q = if page == q then new else pages q

pub redone-append : (xs ys : List Entry) (pages : ℕ → List ℕ) (p : ℕ) → redone (xs ++ ys) pages p ≡ redone ys (redone xs pages) p
redone-append [] ys pages p = refl
redone-append (Update t page old new ∷ xs) ys pages p = redone-append xs ys (set_page page new pages) p
redone-append (End t ∷ xs) ys pages p = redone-append xs ys pages p

-- parts of tests
or_so : {a b : Bool} (c : Bool) → (a ≡ true → b ≡ true) → (c || a) ≡ true → (c || b) ≡ true
or_so true so is = refl
or_so false so is = so is

and_false : (b : Bool) → (b && false) ≡ false
and_false true = refl
and_false false = refl

or_right : {c : Bool} (b : Bool) → c ≡ true → (b || c) ≡ true
or_right true e = refl
or_right false e = e

-- an update under undo
undone_ended : (named ended : Bool) (old rest : List ℕ) → ended ≡ true → (if named && not ended then old else rest) ≡ rest
undone_ended named ended old rest is = λ j. if ((λ i. named && not (is i)) ∙ and_false named) j then old else rest

undone_begun : (page p : ℕ) (ended : Bool) (old rest : List ℕ) → ended ≡ false
    → ((page ≡ p) × ((if (page == p) && not ended then old else rest) ≡ old)) ⊎ (((page == p) ≡ false) × ((if (page == p) && not ended then old else rest) ≡ rest))
undone_begun page p ended old rest not_so = by (page == p) refl
  where
    by : (b : Bool) → (page == p) ≡ b → ((page ≡ p) × ((if (page == p) && not ended then old else rest) ≡ old)) ⊎ (((page == p) ≡ false) × ((if (page == p) && not ended then old else rest) ≡ rest))
    by true e = inl (grind (arith, nat_tests, e), λ j. if e j && not (not_so j) then old else rest)
    by false e = inr (e, λ j. if e j && not (not_so j) then old else rest)

ended_left : (t : ℕ) (xs ys : List Entry) → is_ended t xs ≡ true → is_ended t (xs ++ ys) ≡ true
ended_left t [] ys is = absurd (search (rules, is))
ended_left t (Update u page old new ∷ xs) ys is = ended_left t xs ys is
ended_left t (End u ∷ xs) ys is = or_so (u == t) (ended_left t xs ys) is

ended_here : (t : ℕ) (xs : List Entry) → is_ended t (End t ∷ xs) ≡ true
ended_here t xs = let e : (t == t) ≡ true = grind (arith, nat_tests) in λ j. e j || is_ended t xs

ended_later : (t u : ℕ) (xs : List Entry) → u < t → is_ended t (End u ∷ xs) ≡ is_ended t xs
ended_later t u xs lt = let e : (u == t) ≡ false = grind (arith, nat_tests) in λ j. e j || is_ended t xs

-- a transaction that has begun ends
begun_ends : (before now : ℕ → List ℕ) (first at : ℕ) (xs : List Entry) → AreWholeFrom before now first at xs → first < at → is_ended first xs ≡ true
begun_ends before now first at [] whole lt = absurd (omega arith)
begun_ends before now first at (Update t page old new ∷ xs) whole lt = begun_ends before (set_page page new now) first (suc at) xs whole.2 (omega arith)
begun_ends before now first at (End t ∷ xs) whole lt = (λ j. is_ended first (End (whole.0 j) ∷ xs)) ∙ ended_here first xs

-- no update of an ended transaction is undone
ended_stay : (all : List Entry) (before now : ℕ → List ℕ) (first at : ℕ) (xs ys : List Entry) → AreWholeFrom before now first at xs → first ≤ at
    → ((t : ℕ) → is_ended t xs ≡ true → is_ended t all ≡ true) → (pages : ℕ → List ℕ) (p : ℕ) → undone all (xs ++ ys) pages p ≡ undone all ys pages p
ended_stay all before now first at [] ys whole le so pages p = refl
ended_stay all before now first at (Update t page old new ∷ xs) ys whole le so pages p =
    let ended : is_ended t all ≡ true = ap (λ (u : ℕ). is_ended u all) whole.0 ∙ so first (begun_ends before (set_page page new now) first (suc at) xs whole.2 (omega arith)) in
    undone_ended (page == p) (is_ended t all) old _ ended ∙ ended_stay all before (set_page page new now) first (suc at) xs ys whole.2 (omega arith) so pages p
ended_stay all before now first at (End t ∷ xs) ys whole le so pages p =
    ended_stay all now now (suc at) (suc at) xs ys whole.1 (omega arith) (λ u is. so u (or_right (t == u) is)) pages p

-- earlier ends are not those of later transactions
earlier_ends : (before now : ℕ → List ℕ) (first at : ℕ) (xs ys : List Entry) → AreWholeFrom before now first at xs → first ≤ at → (t : ℕ) → at + length xs ≤ t → is_ended t (xs ++ ys) ≡ is_ended t ys
earlier_ends before now first at [] ys whole le t from = refl
earlier_ends before now first at (Update u page old new ∷ xs) ys whole le t from = earlier_ends before (set_page page new now) first (suc at) xs ys whole.2 (omega arith) t (omega arith)
earlier_ends before now first at (End u ∷ xs) ys whole le t from =
    ended_later t u (xs ++ ys) (let e : u ≡ first = whole.0 in omega arith) ∙ earlier_ends now now (suc at) (suc at) xs ys whole.1 (omega arith) t (omega arith)

module _ (all : List Entry) where
  abbrev Left : (before now : ℕ → List ℕ) (first : ℕ) (xs part : List Entry) → Type 0
  Left before now first xs part =
      ((k : ℕ) × (suc k ≤ ends_in xs) × (is_ended first all ≡ true) × ((p : ℕ) → undone all part (redone part now) p ≡ redone (firsts (suc k) xs) now p))
      ⊎ ((is_ended first all ≡ false) × ((p : ℕ) → (undone all part (redone part now) p ≡ before p) ⊎ (undone all part (redone part now) p ≡ now p)))

  -- of whole transactions of which some first entries are left
  left_of : (before now : ℕ → List ℕ) (first at : ℕ) (xs : List Entry) (j : ℕ) → AreWholeFrom before now first at xs → first ≤ at
      → ((t : ℕ) → first ≤ t → is_ended t all ≡ is_ended t (take j xs)) → Left before now first xs (take j xs)
  unfolding firsts
  left_of before now first at xs zero whole le same = inr (same first (omega arith), λ p. inr refl)
  left_of before now first at [] (suc j) whole le same = inr (same first (omega arith), λ p. inr refl)
  left_of before now first at (Update t page old new ∷ xs) (suc j) whole le same =
      ⊎_elim (λ some. inl (some.0, some.1, some.2, λ p. kept some.2 p ∙ some.3 p)) (λ none. inr (none.0, λ p. gone none.0 p (none.1 p)))
      (left_of before next first (suc at) xs j whole.2 (omega arith) same)
    where
      next : ℕ → List ℕ
      next = set_page page new now

      kept : is_ended first all ≡ true → (p : ℕ) → undone all (Update t page old new ∷ take j xs) (redone (take j xs) next) p ≡ undone all (take j xs) (redone (take j xs) next) p
      kept is p = undone_ended (page == p) (is_ended t all) old _ (ap (λ (u : ℕ). is_ended u all) whole.0 ∙ is)

      gone : is_ended first all ≡ false → (p : ℕ) → (undone all (take j xs) (redone (take j xs) next) p ≡ before p) ⊎ (undone all (take j xs) (redone (take j xs) next) p ≡ next p)
          → (undone all (Update t page old new ∷ take j xs) (redone (take j xs) next) p ≡ before p) ⊎ (undone all (Update t page old new ∷ take j xs) (redone (take j xs) next) p ≡ now p)
      gone not_so p rest =
          ⊎_elim (λ here. inl (here.1 ∙ whole.1 ∙ ap before here.0))
          (λ other. ⊎_elim (λ e. inl (other.1 ∙ e)) (λ e. inr (other.1 ∙ e ∙ (λ j. if other.0 j then new else now p))) rest)
          (undone_begun page p (is_ended t all) old _ (ap (λ (u : ℕ). is_ended u all) whole.0 ∙ not_so))
  left_of before now first at (End t ∷ xs) (suc j) whole le same =
      inl (⊎_elim (λ some. (suc some.0, omega (arith, some.1), here, λ p. some.3 p)) (λ none. (0, omega arith, here, λ p. ⊎_elim (λ e. e) (λ e. e) (none.1 p)))
      (left_of now now (suc at) (suc at) xs j whole.1 (omega arith) (λ u from. same u (omega arith) ∙ ended_later u t (take j xs) (let e : t ≡ first = whole.0 in omega arith))))
    where
      here : is_ended first all ≡ true
      here = same first (omega arith) ∙ (λ i. is_ended first (End (whole.0 i) ∷ take j xs)) ∙ ended_here first (take j xs)

-- whole transactions are redone
pub whole_recovered : (held : List Entry) (pages : ℕ → List ℕ) (p : ℕ) → AreWhole pages 0 held → recovered held pages p ≡ redone held pages p
unfolding recovered
whole_recovered held pages p whole =
    ap (λ (l : List Entry). undone held l (redone held pages) p) (sym (append-nil held)) ∙ ended_stay held pages pages 0 0 held [] whole (omega arith) (λ t is. is) (redone held pages) p

-- behind whole transactions the first entries of others leave the first of these
pub first_recovered : (held news : List Entry) (pages : ℕ → List ℕ) (j : ℕ) → AreWhole pages 0 held → AreWhole (redone held pages) (length held) news
    → (k : ℕ) × (k ≤ ends_in news) × ((p : ℕ) → recovered (held ++ take j news) pages p ≡ redone (firsts k news) (redone held pages) p)
unfolding recovered firsts
first_recovered held news pages j whole news_whole =
    ⊎_elim (λ some. (suc some.0, some.1, λ p. begin p ∙ some.3 p)) (λ none. (0, omega arith, λ p. begin p ∙ ⊎_elim (λ e. e) (λ e. e) (none.1 p)))
    (left_of all middle middle (length held) (length held) news j news_whole (omega arith) (λ t from. earlier_ends pages pages 0 0 held (take j news) whole (omega arith) t (omega arith)))
  where
    all : List Entry
    all = held ++ take j news

    middle : ℕ → List ℕ
    middle = redone held pages

    begin : (p : ℕ) → undone all all (redone all pages) p ≡ undone all (take j news) (redone (take j news) middle) p
    begin p =
        ended_stay all pages pages 0 0 held (take j news) whole (omega arith) (λ t is. ended_left t held (take j news) is) (redone all pages) p
        ∙ (λ i. undone all (take j news) (λ (q : ℕ). redone-append held (take j news) pages q i) p)

firsts_update : (n t page : ℕ) (old new : List ℕ) (xs : List Entry) → 0 < n → firsts n (Update t page old new ∷ xs) ≡ Update t page old new ∷ firsts n xs
unfolding firsts
firsts_update zero t page old new xs lt = absurd (omega arith)
firsts_update (suc n) t page old new xs lt = refl

some_end : (before now : ℕ → List ℕ) (first at : ℕ) (xs : List Entry) → AreWholeFrom before now first at xs → first < at → 0 < ends_in xs
some_end before now first at [] whole lt = absurd (omega arith)
some_end before now first at (Update t page old new ∷ xs) whole lt = some_end before (set_page page new now) first (suc at) xs whole.2 (omega arith)
some_end before now first at (End t ∷ xs) whole lt = omega arith

firsts_from : (before now : ℕ → List ℕ) (first at : ℕ) (xs : List Entry) → AreWholeFrom before now first at xs → first ≤ at → firsts (ends_in xs) xs ≡ xs
unfolding firsts
firsts_from before now first at [] whole le = refl
firsts_from before now first at (Update t page old new ∷ xs) whole le =
    firsts_update (ends_in xs) t page old new xs (some_end before (set_page page new now) first (suc at) xs whole.2 (omega arith))
    ∙ ap (λ (l : List Entry). Update t page old new ∷ l) (firsts_from before (set_page page new now) first (suc at) xs whole.2 (omega arith))
firsts_from before now first at (End t ∷ xs) whole le = ap (λ (l : List Entry). End t ∷ l) (firsts_from now now (suc at) (suc at) xs whole.1 (omega arith))

-- all of them are their first, counted by their ends
pub firsts_all : (held : List Entry) (pages : ℕ → List ℕ) (at : ℕ) → AreWhole pages at held → firsts (ends_in held) held ≡ held
firsts_all held pages at whole = firsts_from pages pages at at held whole (omega arith)

append_from : (before now : ℕ → List ℕ) (first at : ℕ) (xs ys : List Entry) → AreWholeFrom before now first at xs → first ≤ at → (first ≡ at → before ≡ now)
    → (after : ℕ) → after ≡ at + length xs → AreWhole (λ (q : ℕ). redone xs now q) after ys → AreWholeFrom before now first at (xs ++ ys)
append_from before now first at [] ys whole le same after is behind =
    let e : after ≡ first = omega (arith, is, whole) in
    let f : after ≡ at = omega (arith, is) in
    let named = subst (λ (n : ℕ). AreWholeFrom now now n after ys) e behind in
    let placed = subst (λ (n : ℕ). AreWholeFrom now now first n ys) f named in
    subst (λ (b : ℕ → List ℕ). AreWholeFrom b now first at ys) (sym (same whole)) placed
append_from before now first at (Update t page old new ∷ xs) ys whole le same after is behind =
    (whole.0, whole.1, append_from before (set_page page new now) first (suc at) xs ys whole.2 (omega arith) (λ e. absurd (omega arith)) after (omega arith) behind)
append_from before now first at (End t ∷ xs) ys whole le same after is behind =
    (whole.0, append_from now now (suc at) (suc at) xs ys whole.1 (omega arith) (λ e. refl) after (omega arith) behind)

-- whole transactions behind whole ones
pub whole-append : (held news : List Entry) (pages : ℕ → List ℕ) (at : ℕ) → AreWhole pages at held → AreWhole (λ (q : ℕ). redone held pages q) (at + length held) news → AreWhole pages at (held ++ news)
whole-append held news pages at first behind = append_from pages pages at at held news first (omega arith) (λ e. refl) (at + length held) refl behind

pub redone_at : (held : List Entry) (a b : ℕ → List ℕ) (p : ℕ) → a p ≡ b p → redone held a p ≡ redone held b p
redone_at [] a b p same = same
redone_at (Update t page old new ∷ held) a b p same = redone_at held (set_page page new a) (set_page page new b) p (λ j. if page == p then new else same j)
redone_at (End t ∷ held) a b p same = redone_at held a b p same

pub undone_at : (all held : List Entry) (a b : ℕ → List ℕ) (p : ℕ) → a p ≡ b p → undone all held a p ≡ undone all held b p
undone_at all [] a b p same = same
undone_at all (Update t page old new ∷ held) a b p same = λ j. if (page == p) && not (is_ended t all) then old else undone_at all held a b p same j
undone_at all (End t ∷ held) a b p same = undone_at all held a b p same

-- what recovery makes of a page depends on no other
pub recovered_at : (held : List Entry) (a b : ℕ → List ℕ) (p : ℕ) → a p ≡ b p → recovered held a p ≡ recovered held b p
unfolding recovered
recovered_at held a b p same = undone_at held held (redone held a) (redone held b) p (redone_at held a b p same)

abbrev pub AreBelow : ℕ → List Entry → Type 0
AreBelow n [] = Unit {0}
AreBelow n (Update transaction page old new ∷ rest) = (page < n) × AreBelow n rest
AreBelow n (End transaction ∷ rest) = AreBelow n rest

-- whole transactions stay whole where other pages change
pub whole_agree : (n : ℕ) (xs : List Entry) (before before_2 now now_2 : ℕ → List ℕ) (first at : ℕ) → ((p : ℕ) → p < n → before_2 p ≡ before p) → ((p : ℕ) → p < n → now_2 p ≡ now p)
    → AreBelow n xs → AreWholeFrom before now first at xs → AreWholeFrom before_2 now_2 first at xs
whole_agree n [] before before_2 now now_2 first at same_before same_now below whole = whole
whole_agree n (Update t page old new ∷ xs) before before_2 now now_2 first at same_before same_now below whole =
    (whole.0, whole.1 ∙ sym (same_before page below.0), whole_agree n xs before before_2 (set_page page new now) (set_page page new now_2) first (suc at) same_before (λ p lt j. if page == p then new else same_now p lt j) below.1 whole.2)
whole_agree n (End t ∷ xs) before before_2 now now_2 first at same_before same_now below whole = (whole.0, whole_agree n xs now now_2 now now_2 (suc at) (suc at) same_now same_now below whole.1)

-- more transactions behind some leave the first of these
pub firsts_left : (k : ℕ) (xs ys : List Entry) → k ≤ ends_in xs → firsts k (xs ++ ys) ≡ firsts k xs
unfolding firsts
firsts_left zero xs ys le = refl
firsts_left (suc k) [] ys le = absurd (omega arith)
firsts_left (suc k) (Update t page old new ∷ xs) ys le = ap (λ (l : List Entry). Update t page old new ∷ l) (firsts_left (suc k) xs ys le)
firsts_left (suc k) (End t ∷ xs) ys le = ap (λ (l : List Entry). End t ∷ l) (firsts_left k xs ys (omega arith))

right_from : (before now : ℕ → List ℕ) (first at k : ℕ) (xs ys : List Entry) (n : ℕ) → n ≡ ends_in xs + k → AreWholeFrom before now first at xs → first ≤ at → firsts n (xs ++ ys) ≡ xs ++ firsts k ys
unfolding firsts
right_from before now first at k [] ys n is whole le = let e : n ≡ k = omega arith in ap (λ (m : ℕ). firsts m ys) e
right_from before now first at k (Update t page old new ∷ xs) ys n is whole le =
    let some = some_end before (set_page page new now) first (suc at) xs whole.2 (omega arith) in
    firsts_update n t page old new (xs ++ ys) (omega arith)
    ∙ ap (λ (l : List Entry). Update t page old new ∷ l) (right_from before (set_page page new now) first (suc at) k xs ys n is whole.2 (omega arith))
right_from before now first at k (End t ∷ xs) ys zero is whole le = absurd (omega arith)
right_from before now first at k (End t ∷ xs) ys (suc n) is whole le = ap (λ (l : List Entry). End t ∷ l) (right_from now now (suc at) (suc at) k xs ys n (omega arith) whole.1 (omega arith))

-- and the first behind all of them
pub firsts_right : (k : ℕ) (xs ys : List Entry) (pages : ℕ → List ℕ) (at : ℕ) → AreWhole pages at xs → firsts (ends_in xs + k) (xs ++ ys) ≡ xs ++ firsts k ys
firsts_right k xs ys pages at whole = right_from pages pages at at k xs ys (ends_in xs + k) refl whole (omega arith)
