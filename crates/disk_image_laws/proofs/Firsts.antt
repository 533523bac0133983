-- Sums over the pages of anodes, slot by slot, and over what is named for the first time.
use Rattle.std.proofs.Common.{◌≡◌, ◌≢◌, ◌<◌, ℕ, zero, suc, ◌+◌, ◌-◌, ◌*◌, ◌%◌, List, [], ◌∷◌, ◌++◌, refl, sym, ◌∙◌, ap, arith}
use Rattle.std.specs.Prelude.{Bool, true, false, ◌==◌, ◌&&◌, ◌||◌, not, if◌then◌else◌, nat_lt, nat_le, count_by, cond}
use Rattle.std.proofs.lemmas.Bool.Decides.{nat_tests}
use Rattle.std.proofs.lemmas.List.Sums.{sum_by-append}
use Rattle.disk_anode.specs.Node.{is_pointer}
use Rattle.disk_anode.specs.Room.{one, how_many}
use Rattle.disk_anode.proofs.Cells.{pointer_facts}
use Rattle.disk_image.specs.Joined.{listed, total, some_below}
use Rattle.disk_image_laws.proofs.Sums.{count_joined}
use Rattle.disk_objects.specs.Holds.{sum_below, is_anode, is_indirect}
use Rattle.disk_objects.proofs.Sums.{sum_same, sum_but, sum_zero}

-- sums in two words, and counts of listed values
pub total_sum : (f : ℕ → ℕ) (n : ℕ) → total f n ≡ sum_below f n
unfolding total sum_below
total_sum f zero = refl
total_sum f (suc n) = let rest = total_sum f n in λ i. rest i + f n

pub count_listed : {X : Type 0} (test : X → Bool) (value : ℕ → X) (n : ℕ) → count_by test (listed value n) ≡ how_many (λ k. test (value k)) n
unfolding total how_many
count_listed test value n = count_joined test (λ k. value k ∷ []) n ∙ by n
  where
    single : (b : Bool) → 0 + cond {A = ℕ} b 1 0 ≡ one b
    single true = refl
    single false = refl

    by : (n : ℕ) → total (λ k. count_by test (value k ∷ [])) n ≡ how_many (λ k. test (value k)) n
    by zero = refl
    by (suc n) = let rest = by n in let here = single (test (value n)) in λ i. rest i + here i

pub count_append : {X : Type 0} (test : X → Bool) (xs ys : List X) → count_by test (xs ++ ys) ≡ count_by test xs + count_by test ys
count_append test xs ys = sum_by-append (λ y. cond (test y) 1 0) xs ys

-- the numbers behind some
sum_split : (f : ℕ → ℕ) (m n : ℕ) → sum_below f (m + n) ≡ sum_below f m + sum_below (λ j. f (m + j)) n
unfolding sum_below
sum_split f m zero = (let e : m + 0 ≡ m = omega arith in λ i. sum_below f (e i)) ∙ omega arith
sum_split f m (suc n) =
    let rest = sum_split f m n in
    let e : m + suc n ≡ suc (m + n) = omega arith in
    let here : sum_below f (m + suc n) ≡ sum_below f (m + n) + f (m + n) = (λ i. sum_below f (e i)) in
    omega (arith, rest, here)

pub some_split : (t : ℕ → Bool) (m n : ℕ) → some_below t (m + n) ≡ (some_below t m || some_below (λ j. t (m + j)) n)
unfolding some_below
some_split t m zero = (let e : m + 0 ≡ m = omega arith in λ i. some_below t (e i)) ∙ right_false (some_below t m)
  where
    right_false : (b : Bool) → b ≡ (b || false)
    right_false true = refl
    right_false false = refl
some_split t m (suc n) =
    let rest = some_split t m n in
    let e : m + suc n ≡ suc (m + n) = omega arith in
    (λ i. some_below t (e i)) ∙ (λ i. rest i || t (m + n)) ∙ regroup (some_below t m) (some_below (λ j. t (m + j)) n) (t (m + n))
  where
    regroup : (a b c : Bool) → (a || b || c) ≡ (a || (b || c))
    regroup true b c = refl
    regroup false b c = refl

pub some_same : (t u : ℕ → Bool) (n : ℕ) → ((k : ℕ) → k < n → t k ≡ u k) → some_below t n ≡ some_below u n
unfolding some_below
some_same t u zero same = refl
some_same t u (suc n) same = let rest = some_same t u n (λ k lt. same k (omega arith)) in let here = same n (omega arith) in λ i. rest i || here i

some_none : (t : ℕ → Bool) (n : ℕ) → ((k : ℕ) → k < n → t k ≡ false) → some_below t n ≡ false
unfolding some_below
some_none t zero none = refl
some_none t (suc n) none = let rest = some_none t n (λ k lt. none k (omega arith)) in let here = none n (omega arith) in λ i. rest i || here i

-- some number passes a test exactly where more than none do
pub some_many : (t : ℕ → Bool) (n : ℕ) → some_below t n ≡ nat_lt 0 (how_many t n)
unfolding some_below how_many
some_many t zero = refl
some_many t (suc n) = by (some_below t n) (t n) (how_many t n) (some_many t n)
  where
    by : (a b : Bool) (h : ℕ) → a ≡ nat_lt 0 h → (a || b) ≡ nat_lt 0 (h + one b)
    by true b h e =
        let some : 0 < h = grind (arith, nat_tests, e) in
        let more : 0 < h + one b = omega (arith, some) in
        sym (grind (arith, nat_tests, more))
    by false true h e = let more : 0 < h + one true = omega arith in sym (grind (arith, nat_tests, more))
    by false false h e = e ∙ (let z : h ≡ h + one false = omega arith in λ i. nat_lt 0 (z i))

-- what isn't an anode's page counts for nothing: the pages of the slots below one
abbrev pub page_at : ℕ → ℕ → ℕ
page_at slot i = 4 + 66 * slot + i

not_anode : (n j : ℕ) → j < 2 → is_anode (2 + 66 * n + j) ≡ false
not_anode n j lt =
    let e : nat_le 2 ((2 + 66 * n + j - 2) % 66) ≡ false = (let f : (2 + 66 * n + j - 2) % 66 < 2 = omega (arith, lt) in grind (arith, nat_tests, f)) in
    by (nat_le 2 (2 + 66 * n + j) && nat_lt (2 + 66 * n + j) 1058) e
  where
    by : (a : Bool) → nat_le 2 ((2 + 66 * n + j - 2) % 66) ≡ false → (a && nat_le 2 ((2 + 66 * n + j - 2) % 66)) ≡ false
    by true e = e
    by false e = refl

before_slots : (p : ℕ) → p < 2 → is_anode p ≡ false
before_slots p lt = let e : nat_le 2 p ≡ false = grind (arith, nat_tests, lt) in λ i. e i && nat_lt p 1058 && nat_le 2 ((p - 2) % 66)

module _ (f : ℕ → ℕ) (off : (p : ℕ) → is_anode p ≡ false → f p ≡ 0) where
  pub slots_sum : (n : ℕ) → sum_below f (2 + 66 * n) ≡ sum_below (λ slot. sum_below (λ i. f (page_at slot i)) 64) n
  unfolding sum_below
  slots_sum zero = sum_zero f (2 + 66 * 0) (λ j lt. off j (before_slots j (omega (arith, lt))))
  slots_sum (suc n) =
      let e : 2 + 66 * suc n ≡ 2 + 66 * n + (2 + 64) = omega arith in
      let a = sum_split f (2 + 66 * n) (2 + 64) in
      let b = sum_split (λ j. f (2 + 66 * n + j)) 2 64 in
      let c = sum_zero (λ j. f (2 + 66 * n + j)) 2 (λ j lt. off (2 + 66 * n + j) (not_anode n j lt)) in
      let d = sum_same (λ j. f (2 + 66 * n + (2 + j))) (λ i. f (page_at n i)) 64 (λ i lt. (let z : 2 + 66 * n + (2 + i) ≡ page_at n i = omega arith in ap f z)) in
      let rest = slots_sum n in
      (λ i. sum_below f (e i)) ∙ omega (arith, a, b, c, d, rest)

module _ (t : ℕ → Bool) (off : (p : ℕ) → is_anode p ≡ false → t p ≡ false) where
  some_slots : (n : ℕ) → some_below t (2 + 66 * n) ≡ some_below (λ slot. some_below (λ i. t (page_at slot i)) 64) n
  unfolding some_below
  some_slots zero = some_none t (2 + 66 * 0) (λ j lt. off j (before_slots j (omega (arith, lt))))
  some_slots (suc n) =
      let e : 2 + 66 * suc n ≡ 2 + 66 * n + (2 + 64) = omega arith in
      let rest = some_slots n in
      let here = behind n 64 in
      (λ i. some_below t (e i)) ∙ some_split t (2 + 66 * n) (2 + 64) ∙ (λ i. rest i || here i)
    where
      behind : (n m : ℕ) → some_below (λ j. t (2 + 66 * n + j)) (2 + m) ≡ some_below (λ i. t (page_at n i)) m
      behind n m =
          let c = some_none (λ j. t (2 + 66 * n + j)) 2 (λ j lt. off (2 + 66 * n + j) (not_anode n j lt)) in
          let d = some_same (λ j. t (2 + 66 * n + (2 + j))) (λ i. t (page_at n i)) m (λ i lt. (let z : 2 + 66 * n + (2 + i) ≡ page_at n i = omega arith in ap t z)) in
          some_split (λ j. t (2 + 66 * n + j)) 2 m ∙ (λ i. c i || d i)

  -- the pages before that of an anode
  pub some_before : (slot i : ℕ) → some_below t (page_at slot i) ≡ (some_below (λ before. some_below (λ k. t (page_at before k)) 64) slot || some_below (λ k. t (page_at slot k)) i)
  some_before slot i =
      let e : page_at slot i ≡ 2 + 66 * slot + (2 + i) = omega arith in
      let c = some_none (λ j. t (2 + 66 * slot + j)) 2 (λ j lt. off (2 + 66 * slot + j) (not_anode slot j lt)) in
      let d = some_same (λ j. t (2 + 66 * slot + (2 + j))) (λ k. t (page_at slot k)) i (λ k lt. (let z : 2 + 66 * slot + (2 + k) ≡ page_at slot k = omega arith in ap t z)) in
      let rest = some_slots slot in
      (λ j. some_below t (e j)) ∙ some_split t (2 + 66 * slot) (2 + i) ∙ (λ j. rest j || some_split (λ k. t (2 + 66 * slot + k)) 2 i j) ∙ (λ j. some_below (λ before. some_below (λ k. t (page_at before k)) 64) slot || (c j || d j))

-- Blocks that are named as indirect ones, counted by their first pages. `indirect` has the pointer of each page.
module _ (indirect maps : ℕ → ℕ) (blocks : ℕ) where
  abbrev pub is_seen : ℕ → ℕ → Bool
  is_seen pointer p = some_below (λ q. indirect q == pointer) p

  abbrev pub first_map : ℕ → ℕ
  first_map p = if is_pointer blocks (indirect p) && not (is_seen (indirect p) p) then maps (indirect p - 1) else 0

  abbrev seen_map : ℕ → ℕ → ℕ
  seen_map n m = if is_seen (m + 1) n then maps m else 0

  seen_more : (n m : ℕ) → is_seen (m + 1) (suc n) ≡ (is_seen (m + 1) n || (indirect n == m + 1))
  unfolding some_below
  seen_more n m = refl

  stays : (n m : ℕ) → indirect n ≢ m + 1 → seen_map n m ≡ seen_map (suc n) m
  stays n m apart =
      let off : (indirect n == m + 1) ≡ false = grind (arith, nat_tests, apart) in
      λ i. if sym (seen_more n m ∙ (λ j. is_seen (m + 1) n || off j) ∙ right_false (is_seen (m + 1) n)) i then maps m else 0
    where
      right_false : (b : Bool) → (b || false) ≡ b
      right_false true = refl
      right_false false = refl

  step : (n : ℕ) → sum_below (seen_map (suc n)) blocks ≡ sum_below (seen_map n) blocks + first_map n
  step n = by (is_pointer blocks (indirect n)) refl
    where
      by : (a : Bool) → is_pointer blocks (indirect n) ≡ a → sum_below (seen_map (suc n)) blocks ≡ sum_below (seen_map n) blocks + first_map n
      by false e =
          let same = sum_same (seen_map n) (seen_map (suc n)) blocks (λ m lt. stays n m (λ is. grind (arith, nat_tests, e, is, lt))) in
          let none : first_map n ≡ 0 = (λ i. if e i && not (is_seen (indirect n) n) then maps (indirect n - 1) else 0) in
          omega (arith, same, none)
      by true e =
          let facts = pointer_facts blocks (indirect n) e in
          let some = facts.0 in let within = facts.1 in
          let but = sum_but (seen_map n) (seen_map (suc n)) (indirect n - 1) blocks (omega (arith, some, within)) (λ m lt apart. stays n m (λ is. apart (omega (arith, is)))) in
          let z : indirect n - 1 + 1 ≡ indirect n = omega (arith, some) in
          let on : (indirect n == indirect n - 1 + 1) ≡ true = (let y : indirect n ≡ indirect n - 1 + 1 = sym z in grind (arith, nat_tests, y)) in
          let after : seen_map (suc n) (indirect n - 1) ≡ maps (indirect n - 1) = (λ i. if (seen_more n (indirect n - 1) ∙ (λ j. is_seen (indirect n - 1 + 1) n || on j) ∙ right_true (is_seen (indirect n - 1 + 1) n)) i then maps (indirect n - 1) else 0) in
          let before : seen_map n (indirect n - 1) ≡ (if is_seen (indirect n) n then maps (indirect n - 1) else 0) = (λ i. if is_seen (z i) n then maps (indirect n - 1) else 0) in
          let here : first_map n ≡ (if not (is_seen (indirect n) n) then maps (indirect n - 1) else 0) = (λ i. if e i && not (is_seen (indirect n) n) then maps (indirect n - 1) else 0) in
          at (is_seen (indirect n) n) but after before here
        where
          right_true : (b : Bool) → (b || true) ≡ true
          right_true true = refl
          right_true false = refl

          at : (seen : Bool) → sum_below (seen_map (suc n)) blocks + seen_map n (indirect n - 1) ≡ sum_below (seen_map n) blocks + seen_map (suc n) (indirect n - 1)
              → seen_map (suc n) (indirect n - 1) ≡ maps (indirect n - 1) → seen_map n (indirect n - 1) ≡ (if seen then maps (indirect n - 1) else 0)
              → first_map n ≡ (if not seen then maps (indirect n - 1) else 0) → sum_below (seen_map (suc n)) blocks ≡ sum_below (seen_map n) blocks + first_map n
          at true but after before here = omega (arith, but, after, before, here)
          at false but after before here = omega (arith, but, after, before, here)

  firsts : (n : ℕ) → sum_below (seen_map n) blocks ≡ sum_below first_map n
  unfolding sum_below some_below
  firsts zero = sum_zero (seen_map 0) blocks (λ m lt. none m)
    where
      none : (m : ℕ) → seen_map 0 m ≡ 0
      none m = refl
  firsts (suc n) = let rest = firsts n in let here = step n in omega (arith, rest, here)

  -- so many pointers there are in indirect blocks, each counted once
  pub maps_sum : sum_below (λ m. if is_indirect indirect m then maps m else 0) blocks ≡ sum_below first_map 1058
  maps_sum =
      sum_same (λ m. if is_indirect indirect m then maps m else 0) (seen_map 1058) blocks (λ m lt. (λ i. if sym (some_many (λ q. indirect q == m + 1) 1058) i then maps m else 0))
      ∙ firsts 1058
