-- Nodes are dealt out to workers, and collected again.
use Rattle.std.proofs.Common.{◌≡◌, ◌⊎◌, ⊎_elim, inl, inr, ℕ, zero, suc, ◌+◌, ◌<◌, ◌≤◌, ◌==◌, Bool, true, false, cond}
use Rattle.std.proofs.Common.{List}
use Rattle.std.proofs.Common.{[], ◌∷◌, ◌++◌, length, map, get_or, set, refl, sym, ap, ◌∙◌, subst, arith, eqb-true}
use Rattle.std.proofs.Common.{eq-eqb}
use Rattle.std.proofs.Common.{append_assoc, append-nil, ◌-◌, mod-lt, nat_lt}
use Rattle.std.proofs.lemmas.List.{get_or-set_same, get_or-set_other, length-set, length-append}
use Rattle.run_rules.specs.Past.{In}
use Rattle.hub_drive.specs.Dealt.{AreDealt, HasMoved, stack, worker_at}
use Rattle.hub_drive.specs.Seats.{EachAt, PairsAt}
use Rattle.hub_drive.proofs.Lists.{defaults, each_in, in_each, map_here, map_set, map_size, pairs_map, same_or_not}
use Rattle.hub_drive.proofs.Members.{in_append, in_back}

stack_own : {A : Type 0} (of : ℕ → ℕ) (worker place : ℕ) (x : A) (xs : List A) → worker ≡ of place
    → stack of worker place (x ∷ xs) ≡ stack of worker (place + 1) xs ++ x ∷ []
stack_own of worker place x xs e =
    ap (λ (b : Bool). cond b (stack of worker (place + 1) xs ++ x ∷ []) (stack of worker (place + 1) xs))
    (eq-eqb (of place) worker (sym e))

stack_other : {A : Type 0} (of : ℕ → ℕ) (worker place : ℕ) (x : A) (xs : List A) → (worker ≡ of place → ⊥)
    → stack of worker place (x ∷ xs) ≡ stack of worker (place + 1) xs
stack_other of worker place x xs differ =
    ap (λ (b : Bool). cond b (stack of worker (place + 1) xs ++ x ∷ []) (stack of worker (place + 1) xs))
    (is_false (of place == worker) (λ e. differ (sym (eqb-true (of place) worker e))))
  where
    is_false : (b : Bool) → (b ≡ true → ⊥) → b ≡ false
    is_false true wrong = absurd (wrong refl)
    is_false false wrong = refl

snoc_parts : {A : Type 0} (xs ys : List A) (x y : A) → xs ++ x ∷ [] ≡ ys ++ y ∷ [] → (xs ≡ ys) × (x ≡ y)
snoc_parts [] [] x y e = let same : x ≡ y = cc in (refl, same)
snoc_parts [] (b ∷ []) x y e = absurd (cc)
snoc_parts [] (b ∷ (c ∷ ys)) x y e = absurd (cc)
snoc_parts (a ∷ []) [] x y e = absurd (cc)
snoc_parts (a ∷ (c ∷ xs)) [] x y e = absurd (cc)
snoc_parts (a ∷ xs) (b ∷ ys) x y e =
    let first : a ≡ b = cc in
    let rest : xs ++ x ∷ [] ≡ ys ++ y ∷ [] = cc in
    let again = snoc_parts xs ys x y rest in ((λ i. first i ∷ again.0 i), again.1)

module _ {A : Type 0} where
  -- nothing has been dealt out
  pub none_dealt : (of : ℕ → ℕ) (place : ℕ) (bundles : List (List A)) → EachAt (λ (b : List A). b ≡ []) bundles
      → AreDealt of place [] bundles
  none_dealt of place bundles empty worker d lt = empty worker d lt

  -- one more is dealt out
  pub dealt_more : (of : ℕ → ℕ) (place : ℕ) (x : A) (xs : List A) (bundles : List (List A)) (k : ℕ) (b : List A)
      → k ≡ of place → k < length bundles → ((d : List A) → b ≡ get_or bundles k d ++ x ∷ [])
      → AreDealt of (place + 1) xs bundles → AreDealt of place (x ∷ xs) (set bundles k b)
  dealt_more of place x xs bundles k b own here is dealt worker d lt = ⊎_elim
      (λ (e : worker ≡ k).
      subst (λ (w : ℕ). get_or (set bundles k b) w d ≡ stack of w place (x ∷ xs)) (sym e)
      (get_or-set_same bundles k b d here ∙ is d ∙ ap (λ l. l ++ x ∷ []) (dealt k d here)
      ∙ sym (stack_own of k place x xs own)))
      (λ (differ : worker ≡ k → ⊥).
      let size = length-set bundles k b in
      get_or-set_other bundles k worker b d differ ∙ dealt worker d (omega (arith, lt, size))
      ∙ sym (stack_other of worker place x xs (λ e. differ (e ∙ sym own))))
      (same_or_not worker k)

  -- one is taken back
  pub dealt_less : (of : ℕ → ℕ) (place : ℕ) (x y : A) (xs : List A) (bundles : List (List A)) (k : ℕ) (b : List A)
      → k ≡ of place → k < length bundles → ((d : List A) → get_or bundles k d ≡ b ++ y ∷ [])
      → AreDealt of place (x ∷ xs) bundles → (y ≡ x) × AreDealt of (place + 1) xs (set bundles k b)
  dealt_less of place x y xs bundles k b own here is dealt = (parts.1, rest)
    where
      parts : (b ≡ stack of k (place + 1) xs) × (y ≡ x)
      parts = snoc_parts b (stack of k (place + 1) xs) y x
          (sym (is []) ∙ dealt k [] here ∙ stack_own of k place x xs own)

      rest : AreDealt of (place + 1) xs (set bundles k b)
      rest worker d lt = ⊎_elim
          (λ (e : worker ≡ k).
          subst (λ (w : ℕ). get_or (set bundles k b) w d ≡ stack of w (place + 1) xs) (sym e)
          (get_or-set_same bundles k b d here ∙ parts.0))
          (λ (differ : worker ≡ k → ⊥).
          let size = length-set bundles k b in
          get_or-set_other bundles k worker b d differ ∙ dealt worker d (omega (arith, lt, size))
          ∙ stack_other of worker place x xs (λ e. differ (e ∙ sym own)))
          (same_or_not worker k)

  -- there is one to be taken back
  pub some_left : (of : ℕ → ℕ) (place : ℕ) (x : A) (xs : List A) (bundles : List (List A)) (k : ℕ) (d : List A)
      → k ≡ of place → k < length bundles → AreDealt of place (x ∷ xs) bundles → 0 < length (get_or bundles k d)
  some_left of place x xs bundles k d own here dealt =
      let size = ap (λ (l : List A). length l) (dealt k d here ∙ stack_own of k place x xs own) in
      let more = length-append (stack of k (place + 1) xs) (x ∷ []) in omega arith

  -- what is so of all is so of those of a worker
  in_stack : (of : ℕ → ℕ) (worker place : ℕ) (xs : List A) (y : A) → In y (stack of worker place xs) → In y xs
  in_stack of worker place [] y i = absurd i
  in_stack of worker place (x ∷ xs) y i =
      by_test (of place == worker) (λ k. in_stack of worker (place + 1) xs y k) i
    where
      by_test : (b : Bool) → (In y (stack of worker (place + 1) xs) → In y xs)
          → In y (cond b (stack of worker (place + 1) xs ++ x ∷ []) (stack of worker (place + 1) xs))
          → In y (x ∷ xs)
      by_test true again i = ⊎_elim (λ (k : In y (stack of worker (place + 1) xs)). inr (again k))
          (λ (k : In y (x ∷ [])). ⊎_elim (λ (e : y ≡ x). inl e) (λ (none : ⊥). absurd none) k)
          (in_append y (stack of worker (place + 1) xs) (x ∷ []) i)
      by_test false again i = inr (again i)

  pub each_dealt : (P : A → Type 0) (of : ℕ → ℕ) (place : ℕ) (all front xs : List A) (bundles : List (List A))
      → EachAt P all → all ≡ front ++ xs → AreDealt of place xs bundles → EachAt (λ (b : List A). EachAt P b) bundles
  each_dealt P of place all front xs bundles each are dealt worker d lt =
      subst (EachAt P) (sym (dealt worker d lt)) (in_each P (stack of worker place xs)
      (λ y i. each_in P all y each (subst (In y) (sym are) (in_back y front xs (in_stack of worker place xs y i)))))

-- whether the last has moved
pub has_moved : {A : Type 0} (a b c d : List A) (r : Bool) → r ≡ true → HasMoved a b c d r
    → (x : A) × (a ≡ b ++ x ∷ []) × (d ≡ c ++ x ∷ [])
has_moved a b c d true e h = h
has_moved a b c d false e h = absurd (cc)

pub stays_there : {A : Type 0} (a b c d : List A) (r : Bool) → r ≡ false → HasMoved a b c d r → (b ≡ a) × (d ≡ c)
stays_there a b c d true e h = absurd (cc)
stays_there a b c d false e h = h

-- two lists, one by one
abbrev Pairs : {A : Type 0} → (A → A → Type 0) → List A → List A → Type 0
Pairs R [] [] = Unit {0}
Pairs R (x ∷ xs) (y ∷ ys) = R x y × Pairs R xs ys
Pairs R _ _ = ⊥

module _ {A : Type 0} (R : A → A → Type 0) where
  pairs_in : (xs ys : List A) → PairsAt R xs ys → Pairs R xs ys
  pairs_in [] [] h = tt
  pairs_in [] (y ∷ ys) h = let n = h.count in absurd (omega arith)
  pairs_in (x ∷ xs) [] h = let n = h.count in absurd (omega arith)
  pairs_in (x ∷ xs) (y ∷ ys) h = let n = h.count in (
    h.each 0 x (omega arith),
    pairs_in xs ys (record { count = omega (arith, n); each = λ i d lt. h.each (suc i) d (omega (arith, lt)) }),
  )

  in_pairs : (xs ys : List A) → Pairs R xs ys → PairsAt R xs ys
  in_pairs [] [] h = record { count = refl; each = λ i d lt. absurd (omega (arith, lt)) }
  in_pairs [] (y ∷ ys) h = absurd h
  in_pairs (x ∷ xs) [] h = absurd h
  in_pairs (x ∷ xs) (y ∷ ys) h =
      let rest = in_pairs xs ys h.1 in record { count = ap suc rest.count; each = at rest }
    where
      at : PairsAt R xs ys → (i : ℕ) (d : A) → i < length (x ∷ xs) → R (get_or (x ∷ xs) i d) (get_or (y ∷ ys) i d)
      at rest zero d lt = h.0
      at rest (suc i) d lt = rest.each i d (omega (arith, lt))

  pairs_front : (so : (a : A) → R a a) (front xs ys : List A) → Pairs R xs ys → Pairs R (front ++ xs) (front ++ ys)
  pairs_front so [] xs ys h = h
  pairs_front so (a ∷ front) xs ys h = (so a, pairs_front so front xs ys h)

  -- the last of each
  pairs_last : (xs : List A) (x : A) (zs : List A) → Pairs R (xs ++ x ∷ []) zs
      → (ys : List A) × (y : A) × (zs ≡ ys ++ y ∷ []) × Pairs R xs ys × R x y
  pairs_last [] x [] h = absurd h
  pairs_last [] x (z ∷ []) h = ([], z, refl, tt, h.0)
  pairs_last [] x (z ∷ (w ∷ zs)) h = absurd h.1
  pairs_last (a ∷ xs) x [] h = absurd h
  pairs_last (a ∷ xs) x (z ∷ zs) h =
      let again = pairs_last xs x zs h.1 in
      (z ∷ again.0, again.1, ap (λ l. z ∷ l) again.2, (h.0, again.3), again.4)

  -- what has become of each worker's has become of all
  became : (of : ℕ → ℕ) (workers : ℕ) → ((place : ℕ) → of place < workers) → (place : ℕ) (xs : List A)
      (news : ℕ → List A) → ((worker : ℕ) → worker < workers → Pairs R (stack of worker place xs) (news worker))
      → (ys : List A) × Pairs R xs ys × ((worker : ℕ) → worker < workers → news worker ≡ stack of worker place ys)
  became of workers within place [] news pairs = ([], tt, λ worker lt. nothing (news worker) (pairs worker lt))
    where
      nothing : (zs : List A) → Pairs R [] zs → zs ≡ []
      nothing [] h = refl
      nothing (z ∷ zs) h = absurd h
  became of workers within place (x ∷ xs) news pairs =
      let again = became of workers within (place + 1) xs less
      (λ worker lt. paired worker lt (same_or_not worker own)) in (
        last.1 ∷ again.0,
        (last.4, again.1),
        (λ worker lt. are again.0 worker lt (same_or_not worker own) (again.2 worker lt)),
      )
    where
      own : ℕ
      own = of place

      last : (ys : List A) × (y : A) × (news own ≡ ys ++ y ∷ []) × Pairs R (stack of own (place + 1) xs) ys × R x y
      last = pairs_last (stack of own (place + 1) xs) x (news own)
          (subst (λ l. Pairs R l (news own)) (stack_own of own place x xs refl) (pairs own (within place)))

      choice : (worker : ℕ) → (worker ≡ own) ⊎ (worker ≡ own → ⊥) → List A
      choice worker (inl e) = last.0
      choice worker (inr differ) = news worker

      less : ℕ → List A
      less worker = choice worker (same_or_not worker own)

      paired : (worker : ℕ) → worker < workers → (c : (worker ≡ own) ⊎ (worker ≡ own → ⊥))
          → Pairs R (stack of worker (place + 1) xs) (choice worker c)
      paired worker lt (inl e) = subst (λ w. Pairs R (stack of w (place + 1) xs) last.0) (sym e) last.3
      paired worker lt (inr differ) =
          subst (λ l. Pairs R l (news worker)) (stack_other of worker place x xs differ) (pairs worker lt)

      are : (ys : List A) (worker : ℕ) → worker < workers → (c : (worker ≡ own) ⊎ (worker ≡ own → ⊥))
          → choice worker c ≡ stack of worker (place + 1) ys → news worker ≡ stack of worker place (last.1 ∷ ys)
      are ys worker lt (inl e) h = subst (λ w. news w ≡ stack of w place (last.1 ∷ ys)) (sym e)
          (last.2 ∙ ap (λ l. l ++ last.1 ∷ []) (subst (λ w. last.0 ≡ stack of w (place + 1) ys) e h)
          ∙ sym (stack_own of own place last.1 ys refl))
      are ys worker lt (inr differ) h = h ∙ sym (stack_other of worker place last.1 ys differ)

  -- and so when they are collected again, behind those that weren't dealt out
  pub collected : ((a : A) → R a a) → (of : ℕ → ℕ) → (place : ℕ) (front xs : List A) (olds news : List (List A))
      → ((place : ℕ) → of place < length olds) → AreDealt of place xs olds → PairsAt (PairsAt R) olds news
      → (ys : List A) × PairsAt R (front ++ xs) (front ++ ys) × AreDealt of place ys news × (length ys ≡ length xs)
  collected so of place front xs olds news within dealt pairs = (
    all.0,
    in_pairs (front ++ xs) (front ++ all.0) (pairs_front so front xs all.0 all.1),
    (λ worker d lt. defaults news worker d [] lt ∙ all.2 worker (let n = pairs.count in omega (arith, lt, n))),
    (in_pairs xs all.0 all.1).count,
  )
    where
      paired : (worker : ℕ) → worker < length olds → Pairs R (stack of worker place xs) (get_or news worker [])
      paired worker lt = pairs_in (stack of worker place xs) (get_or news worker [])
          (subst (λ l. PairsAt R l (get_or news worker [])) (dealt worker [] lt) (pairs.each worker [] lt))

      all : (ys : List A) × Pairs R xs ys
          × ((worker : ℕ) → worker < length olds → get_or news worker [] ≡ stack of worker place ys)
      all = became of (length olds) within place xs (λ worker. get_or news worker []) paired

-- the same of lists of which contracts speak
module _ {V A : Type 0} (items : V → List A) where
  at_map : (bundles : List V) (k : ℕ) (old : V) (d : List A) → k < length bundles → old ≡ get_or bundles k old
      → items old ≡ get_or (map items bundles) k d
  at_map bundles k old d lt is = ap items is ∙ sym (map_here items bundles k old d lt)

  in_map : (bundles : List V) (k : ℕ) → k < length bundles → k < length (map items bundles)
  in_map bundles k lt = let size = map_size items bundles in omega arith

  -- nothing is dealt out
  pub none_of : (of : ℕ → ℕ) (place : ℕ) (bundles : List V) → EachAt (λ (b : V). items b ≡ []) bundles
      → AreDealt of place [] (map items bundles)
  none_of of place [] empty worker d lt = absurd (omega (arith, lt))
  none_of of place (b ∷ bundles) empty worker d lt =
      let size = map_size items (b ∷ bundles) in
      let here : worker < length (b ∷ bundles) = omega (arith, lt, size) in
      map_here items (b ∷ bundles) worker b d here ∙ empty worker b here

  -- nothing moves
  pub dealt_still : (of : ℕ → ℕ) (place : ℕ) (rest : List A) (bundles : List V) (k : ℕ) (old new : V)
      → k < length bundles → old ≡ get_or bundles k old → items new ≡ items old
      → AreDealt of place rest (map items bundles) → AreDealt of place rest (map items (set bundles k new))
  dealt_still of place rest bundles k old new lt is put dealt =
      subst (AreDealt of place rest) (sym (map_set items bundles k new)) still
    where
      all : List (List A)
      all = map items bundles

      still : AreDealt of place rest (set all k (items new))
      still worker d low = ⊎_elim
          (λ (e : worker ≡ k).
          subst (λ (w : ℕ). get_or (set all k (items new)) w d ≡ stack of w place rest) (sym e)
          (get_or-set_same all k (items new) d (in_map bundles k lt) ∙ put ∙ at_map bundles k old d lt is
          ∙ dealt k d (in_map bundles k lt)))
          (λ (differ : worker ≡ k → ⊥).
          let size = length-set all k (items new) in
          get_or-set_other all k worker (items new) d differ ∙ dealt worker d (omega (arith, low, size)))
          (same_or_not worker k)

  -- the last is dealt out
  pub deal_on : (of : ℕ → ℕ) (all seats left : List A) (x : A) (rest : List A) (bundles : List V) (k : ℕ) (old new : V)
      → all ≡ seats ++ rest → seats ≡ left ++ x ∷ [] → k ≡ of (length left) → k < length bundles
      → old ≡ get_or bundles k old → items new ≡ items old ++ x ∷ []
      → AreDealt of (length seats) rest (map items bundles)
      → (all ≡ left ++ (x ∷ rest)) × AreDealt of (length left) (x ∷ rest) (map items (set bundles k new))
  deal_on of all seats left x rest bundles k old new whole last own lt is put dealt = (
    whole ∙ ap (λ l. l ++ rest) last ∙ append_assoc left (x ∷ []) rest,
    subst (AreDealt of (length left) (x ∷ rest)) (sym (map_set items bundles k new))
        (dealt_more of (length left) x rest (map items bundles) k (items new) own (in_map bundles k lt)
        (λ d. put ∙ ap (λ l. l ++ x ∷ []) (at_map bundles k old d lt is))
        (subst (λ n. AreDealt of n rest (map items bundles)) size dealt)),
  )
    where
      size : length seats ≡ length left + 1
      size = ap (λ (l : List A). length l) last ∙ length-append left (x ∷ [])

  -- so far they are collected: some of those that were dealt out stand behind those that weren't
  pub record SoFar (of : ℕ → ℕ) (from rest : List A) (place : ℕ) (seats : List A) (bundles : List V) : Type 0 where
    pub done : List A
    pub left : List A
    pub parts : done ++ left ≡ rest
    pub stand : seats ≡ from ++ done
    pub reached : place ≡ length seats
    pub dealt : AreDealt of place left (map items bundles)

  pub none_so_far : (of : ℕ → ℕ) (from rest : List A) (place : ℕ) (bundles : List V) → place ≡ length from
      → AreDealt of (length from) rest (map items bundles) → SoFar of from rest place from bundles
  none_so_far of from rest place bundles reached dealt = record {
    done = [];
    left = rest;
    parts = refl;
    stand = sym (append-nil from);
    reached = reached;
    dealt = subst (λ n. AreDealt of n rest (map items bundles)) (sym reached) dealt;
  }

  pub all_so_far : (of : ℕ → ℕ) (from rest : List A) (place count : ℕ) (seats : List A) (bundles : List V)
      → SoFar of from rest place seats bundles → length from + length rest ≡ count → count ≤ place
      → seats ≡ from ++ rest
  all_so_far of from rest place count seats bundles h size le = by_left h.left h.parts
    where
      by_left : (left : List A) → h.done ++ left ≡ rest → seats ≡ from ++ rest
      by_left [] e = h.stand ∙ ap (λ l. from ++ l) (sym (append-nil h.done) ∙ e)
      by_left (x ∷ left) e =
          let a = h.reached in
          let b = ap (λ (l : List A). length l) h.stand in
          let c = length-append from h.done in
          let d = ap (λ (l : List A). length l) e in
          let f = length-append h.done (x ∷ left) in absurd (omega (arith, size, le))

  -- one more is collected
  pub collect_on : (of : ℕ → ℕ) (from rest : List A) (place count : ℕ) (seats seats_new : List A) (bundles : List V)
      (k : ℕ) (old new : V) (moved : Bool) → SoFar of from rest place seats bundles
      → length from + length rest ≡ count → place < count → k ≡ of place → k < length bundles
      → old ≡ get_or bundles k old → (0 < length (items old) → moved ≡ true)
      → HasMoved (items old) (items new) seats seats_new moved
      → SoFar of from rest (place + 1) seats_new (set bundles k new)
  collect_on of from rest place count seats seats_new bundles k old new moved h size below own lt is can went =
      by_left h.left h.parts h.dealt
    where
      by_left : (left : List A) → h.done ++ left ≡ rest → AreDealt of place left (map items bundles)
          → SoFar of from rest (place + 1) seats_new (set bundles k new)
      by_left [] e dealt =
          let a = h.reached in
          let b = ap (λ (l : List A). length l) h.stand in
          let c = length-append from h.done in
          let d = ap (λ (l : List A). length l) (sym (append-nil h.done) ∙ e) in absurd (omega (arith, size, below))
      by_left (x ∷ left) e dealt =
          let here = at_map bundles k old [] lt is in
          let some = some_left of place x left (map items bundles) k [] own (in_map bundles k lt) dealt in
          let m = has_moved (items old) (items new) seats seats_new moved
          (can (subst (λ l. 0 < length l) (sym here) some)) went in
          let less = dealt_less of place x m.0 left (map items bundles) k (items new) own (in_map bundles k lt)
          (λ d. sym (at_map bundles k old d lt is) ∙ m.1) dealt in
          record {
            done = h.done ++ x ∷ [];
            left = left;
            parts = append_assoc h.done (x ∷ []) left ∙ e;
            stand = m.2 ∙ ap (λ y. seats ++ y ∷ []) less.0 ∙ ap (λ l. l ++ x ∷ []) h.stand
                ∙ append_assoc from h.done (x ∷ []);
            reached = (let a = h.reached in let b = ap (λ (l : List A). length l) m.2 in
                let c = length-append seats (m.0 ∷ []) in omega arith);
            dealt = subst (AreDealt of (place + 1) left) (sym (map_set items bundles k new)) less.1;
          }

  -- what is so of all is so of those of each worker
  pub each_of : (P : A → Type 0) (of : ℕ → ℕ) (place : ℕ) (all front xs : List A) (bundles : List V) → EachAt P all
      → all ≡ front ++ xs → AreDealt of place xs (map items bundles)
      → EachAt (λ (b : V). EachAt P (items b)) bundles
  each_of P of place all front xs bundles each are dealt i d lt =
      subst (EachAt P) (map_here items bundles i d [] lt)
      (each_dealt P of place all front xs (map items bundles) each are dealt i [] (in_map bundles i lt))

  -- what has become of those of each worker has become of all
  pub back_in_place : (R : A → A → Type 0) → ((a : A) → R a a) → (of : ℕ → ℕ → ℕ)
      → ((workers place : ℕ) → 0 < workers → of workers place < workers) → (all front rest last : List A)
      (olds news : List V) (workers count : ℕ) → 0 < workers → length olds ≡ workers → all ≡ front ++ rest
      → AreDealt (of workers) (length front) rest (map items olds)
      → PairsAt (λ (a b : V). PairsAt R (items a) (items b)) olds news → length front + length rest ≡ count
      → ((xs : List A) → AreDealt (of (length news)) (length front) xs (map items news)
      → length front + length xs ≡ count → last ≡ front ++ xs) → PairsAt R all last
  back_in_place R so of within all front rest last olds news workers count some many are dealt pairs size back =
      subst (PairsAt R all) (sym (back got.0 (subst (λ n. AreDealt (of n) (length front) got.0 (map items news))
      (sym (pairs.count ∙ many)) got.2) (ap (λ n. length front + n) got.3 ∙ size)))
      (subst (λ l. PairsAt R l (front ++ got.0)) (sym are) got.1)
    where
      got : (ys : List A) × PairsAt R (front ++ rest) (front ++ ys)
          × AreDealt (of workers) (length front) ys (map items news) × (length ys ≡ length rest)
      got = collected R so (of workers) (length front) front rest (map items olds) (map items news)
          (λ place. subst (λ n. of workers place < n) (sym (map_size items olds ∙ many)) (within workers place some))
          dealt (pairs_map items (PairsAt R) olds news pairs.count (λ i d lt. pairs.each i d lt))

-- each place has a worker
pub has_worker : (hosts workers place : ℕ) → 0 < workers → worker_at hosts workers place < workers
has_worker hosts workers place some = mod-lt (cond (nat_lt place hosts) place (place - hosts)) some
