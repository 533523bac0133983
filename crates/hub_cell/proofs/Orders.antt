-- Entries in the order of their places, and lists that are made of several.
use Rattle.std.proofs.Common.{◌≡◌, ◌⊎◌, ℕ, suc, ◌+◌, ◌<◌, ◌≤◌, ltb, true, false, List, [], ◌∷◌, ◌++◌, map, length, refl}
use Rattle.std.proofs.Common.{sym, ap, subst, ⊎_elim, inl, inr, arith}
use Rattle.hub_cell.specs.Lists.{longer, numbered, entries, inserted, merged, Weaves, IsShuffle}
use Rattle.hub_cell.specs.Passes.{AreFrom, IsInOrder, AreBelow}
use Rattle.hub_cell.proofs.Logs.{ltb_tells, from_later}

module _ {A : Type 0} where
  pub weaves_right : (ys : List A) → Weaves ys [] ys
  weaves_right [] = (refl, refl)
  weaves_right (y ∷ ys) = inr (ys, refl, weaves_right ys)

  pub weaves_left : (xs : List A) → Weaves xs xs []
  weaves_left [] = (refl, refl)
  weaves_left (x ∷ xs) = inl (xs, refl, weaves_left xs)

module _ {E : Type 0} where
  from_append : (place : ℕ) (xs ys : List (ℕ × E)) → AreFrom place xs → AreFrom place ys → AreFrom place (xs ++ ys)
  from_append place [] ys h h' = h'
  from_append place (x ∷ xs) ys h h' = (h.0, from_append place xs ys h.1 h')

  numbered_from : (place later : ℕ) (es : List E) → place ≤ later → AreFrom place (numbered later es)
  numbered_from place later [] le = tt
  numbered_from place later (e ∷ es) le = (le, numbered_from place (suc later) es (omega arith))

  numbered_in_order : (place : ℕ) (es : List E) → IsInOrder (numbered place es)
  numbered_in_order place [] = tt
  numbered_in_order place (e ∷ es) = (
    numbered_from place (suc place) es (omega arith),
    numbered_in_order (suc place)
        es,
  )

  pub in_order_more : (xs : List (ℕ × E)) (place : ℕ) (es : List E) → IsInOrder xs → AreBelow place xs →
      IsInOrder (xs ++ numbered place es)
  in_order_more [] place es h below = numbered_in_order place es
  in_order_more (x ∷ xs) place es h below = (
    from_append x.0 xs (numbered place es) h.0 (numbered_from x.0 place es
        (let a = below.0 in omega arith)),
    in_order_more xs place es h.1 below.1,
  )

  pub below_later : (place later : ℕ) (xs : List (ℕ × E)) → place ≤ later → AreBelow place xs → AreBelow later xs
  below_later place later [] le h = tt
  below_later place later (x ∷ xs) le h = ((let a = h.0 in omega arith), below_later place later xs le h.1)

  numbered_below : (place bound : ℕ) (es : List E) → place + length es ≤ bound → AreBelow bound (numbered place es)
  numbered_below place bound [] le = tt
  numbered_below place bound (e ∷ es) le = (
    (let a = le in omega arith),
    numbered_below (suc place) bound es
        (omega arith),
  )

  below_append : (bound : ℕ) (xs ys : List (ℕ × E)) → AreBelow bound xs → AreBelow bound ys → AreBelow bound (xs ++ ys)
  below_append bound [] ys h h' = h'
  below_append bound (x ∷ xs) ys h h' = (h.0, below_append bound xs ys h.1 h')

  pub below_more : (xs : List (ℕ × E)) (place : ℕ) (es : List E) → AreBelow place xs → AreBelow (place + length es)
      (xs ++ numbered place es)
  below_more xs place es h = below_append (place + length es) xs (numbered place es)
      (below_later place (place + length es) xs (omega arith) h)
      (numbered_below place (place + length es) es (let a : place + length es ≤ place + length es = omega arith in a))

  -- either an entry goes to the front, or it goes behind the first
  inserted_where : (x y : ℕ × E) (ys : List (ℕ × E)) → ((x.0 ≤ y.0) × (inserted x (y ∷ ys) ≡ x ∷ y ∷ ys)) ⊎
      ((y.0 < x.0) × (inserted x (y ∷ ys) ≡ y ∷ inserted x ys))
  inserted_where x y ys = ⊎_elim
      (λ (t : (ltb y.0 x.0 ≡ true) × (y.0 < x.0)). inr (t.1, rw t.0 refl))
      (λ (t : (ltb y.0 x.0 ≡ false) × (x.0 ≤ y.0)). inl (t.1, rw t.0 refl))
      (ltb_tells y.0 x.0)

  inserted_from : (place : ℕ) (x : ℕ × E) (ys : List (ℕ × E)) → place ≤ x.0 → AreFrom place ys →
      AreFrom place (inserted x ys)
  inserted_from place x [] le h = (le, tt)
  inserted_from place x (y ∷ ys) le h = ⊎_elim
      (λ (t : (x.0 ≤ y.0) × (inserted x (y ∷ ys) ≡ x ∷ y ∷ ys)). subst (AreFrom place) (sym t.1) (le, (h.0, h.1)))
      (λ (t : (y.0 < x.0) × (inserted x (y ∷ ys) ≡ y ∷ inserted x ys)). subst (AreFrom place) (sym t.1) (
        h.0,
        inserted_from place x ys le h.1,
      ))
      (inserted_where x y ys)

  inserted_in_order : (x : ℕ × E) (ys : List (ℕ × E)) → IsInOrder ys → IsInOrder (inserted x ys)
  inserted_in_order x [] h = (tt, tt)
  inserted_in_order x (y ∷ ys) h = ⊎_elim
      (λ (t : (x.0 ≤ y.0) × (inserted x (y ∷ ys) ≡ x ∷ y ∷ ys)). subst IsInOrder (sym t.1)
      ((t.0, from_later x.0 y.0 ys t.0 h.0), (h.0, h.1)))
      (λ (t : (y.0 < x.0) × (inserted x (y ∷ ys) ≡ y ∷ inserted x ys)). subst IsInOrder (sym t.1)
      (inserted_from y.0 x ys (let a = t.0 in omega arith) h.0, inserted_in_order x ys h.1))
      (inserted_where x y ys)

  pub merged_in_order : (xs ys : List (ℕ × E)) → IsInOrder ys → IsInOrder (merged xs ys)
  merged_in_order [] ys h = h
  merged_in_order (x ∷ xs) ys h = inserted_in_order x (merged xs ys) (merged_in_order xs ys h)

  inserted_below : (bound : ℕ) (x : ℕ × E) (ys : List (ℕ × E)) → x.0 < bound → AreBelow bound ys →
      AreBelow bound (inserted x ys)
  inserted_below bound x [] le h = (le, tt)
  inserted_below bound x (y ∷ ys) le h = ⊎_elim
      (λ (t : (x.0 ≤ y.0) × (inserted x (y ∷ ys) ≡ x ∷ y ∷ ys)). subst (AreBelow bound) (sym t.1) (le, (h.0, h.1)))
      (λ (t : (y.0 < x.0) × (inserted x (y ∷ ys) ≡ y ∷ inserted x ys)). subst (AreBelow bound) (sym t.1) (
        h.0,
        inserted_below bound x ys le h.1,
      ))
      (inserted_where x y ys)

  pub merged_below : (bound : ℕ) (xs ys : List (ℕ × E)) → AreBelow bound xs → AreBelow bound ys →
      AreBelow bound (merged xs ys)
  merged_below bound [] ys h h' = h'
  merged_below bound (x ∷ xs) ys h h' = inserted_below bound x (merged xs ys) h.0 (merged_below bound xs ys h.1 h')

  pub length-longer : (xs ys : List E) → (length xs ≤ length (longer xs ys)) × (length ys ≤ length (longer xs ys))
  length-longer xs ys = ⊎_elim
      (λ (t : (ltb (length xs) (length ys) ≡ true) × (length xs < length ys)). rw t.0 (
        (let a = t.1 in
            omega arith),
        (let a : length ys ≤ length ys = omega arith in a),
      ))
      (λ (t : (ltb (length xs) (length ys) ≡ false) × (length ys ≤ length xs)).
      rw t.0 ((let a : length xs ≤ length xs = omega arith in a), t.1))
      (ltb_tells (length xs) (length ys))

  -- an entry that comes before all of the first list is woven in before them
  weaves_inserted : (x : ℕ × E) (all xs ys : List (ℕ × E)) → AreFrom x.0 xs → Weaves all xs ys → Weaves (inserted x all)
      (x ∷ xs) ys
  weaves_inserted x [] xs ys h w = inl (xs, refl, w)
  weaves_inserted x (a ∷ all) xs ys h w = ⊎_elim
      (λ (t : (x.0 ≤ a.0) × (inserted x (a ∷ all) ≡ x ∷ a ∷ all)). subst (λ l. Weaves l (x ∷ xs) ys) (sym t.1)
      (inl (xs, refl, w)))
      (λ (t : (a.0 < x.0) × (inserted x (a ∷ all) ≡ a ∷ inserted x all)). subst (λ l. Weaves l (x ∷ xs) ys) (sym t.1)
      (⊎_elim
      (λ (u : (rest : List (ℕ × E)) × (xs ≡ a ∷ rest) × Weaves all rest ys). let g = subst (AreFrom x.0) u.1 h in
      let b = g.0 in let d = t.0 in absurd (omega arith))
      (λ (u : (rest : List (ℕ × E)) × (ys ≡ a ∷ rest) × Weaves all xs rest). inr (
        u.0,
        u.1,
        weaves_inserted x all xs u.0
            h u.2,
      ))
      w))
      (inserted_where x a all)

  pub weaves_merged : (xs ys : List (ℕ × E)) → IsInOrder xs → Weaves (merged xs ys) xs ys
  weaves_merged [] ys h = weaves_right ys
  weaves_merged (x ∷ xs) ys h = weaves_inserted x (merged xs ys) xs ys h.0 (weaves_merged xs ys h.1)

module _ {A B : Type 0} (f : A → B) where
  pub weaves_map : (all xs ys : List A) → Weaves all xs ys → Weaves (map f all) (map f xs) (map f ys)
  weaves_map [] xs ys w = (ap (map f) w.0, ap (map f) w.1)
  weaves_map (a ∷ all) xs ys w = ⊎_elim
      (λ (u : (rest : List A) × (xs ≡ a ∷ rest) × Weaves all rest ys). inl (
        map f u.0,
        ap (map f) u.1,
        weaves_map all u.0 ys u.2,
      ))
      (λ (u : (rest : List A) × (ys ≡ a ∷ rest) × Weaves all xs rest). inr (
        map f u.0,
        ap (map f) u.1,
        weaves_map all xs u.0 u.2,
      ))
      w

module _ {E : Type 0} where
  -- two passes' entries in one, and one more part of a shuffle
  pub shuffles_more : (mine others : List (ℕ × E)) (parts : List (List E)) → IsInOrder mine → IsShuffle (entries others)
      parts → IsShuffle (entries (merged mine others)) (entries mine ∷ parts)
  shuffles_more mine others parts h w = (
    entries others,
    weaves_map (λ (x : ℕ × E). x.1) (merged mine others) mine
        others (weaves_merged mine others h),
    w,
  )

  pub shuffles_one : (part : List E) → IsShuffle part (part ∷ [])
  shuffles_one part = ([], weaves_left part, refl)
