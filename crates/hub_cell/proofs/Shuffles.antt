-- What each part of a shuffle is of the whole list.
use Rattle.std.proofs.Common.{◌≡◌, ◌≢◌, ◌⊎◌, ℕ, zero, suc, Bool, true, false, List, [], ◌∷◌, Some, refl, sym, ap, ◌∙◌}
use Rattle.std.proofs.Common.{subst, ⊎_elim, inl, inr, arith, suc-ne-zero}
use Rattle.std.specs.Prelude.{slice_get}
use Rattle.std.specs.List.{filter}
use Rattle.hub_cell.specs.Lists.{Weaves, IsShuffle}

module _ {E : Type 0} where
  -- no entry of the list passes the test, or each does
  abbrev pub FailsAll : (E → Bool) → List E → Type 0
  FailsAll p [] = Unit {0}
  FailsAll p (e ∷ es) = (p e ≡ false) × FailsAll p es

  abbrev pub PassesAll : (E → Bool) → List E → Type 0
  PassesAll p [] = Unit {0}
  PassesAll p (e ∷ es) = (p e ≡ true) × PassesAll p es

  pub weaves_left_only : (all xs : List E) → Weaves all xs [] → all ≡ xs
  weaves_left_only [] xs w = sym w.0
  weaves_left_only (e ∷ es) xs w = ⊎_elim
      (λ (u : (rest : List E) × (xs ≡ e ∷ rest) × Weaves es rest []). ap (λ l. e ∷ l) (weaves_left_only es u.0 u.2) ∙
      sym u.1)
      (λ (u : (rest : List E) × ([] ≡ e ∷ rest) × Weaves es xs rest). let clash : [] ≡ e ∷ u.0 = u.1 in absurd (cc))
      w

  pub weaves_right_only : (all ys : List E) → Weaves all [] ys → all ≡ ys
  weaves_right_only [] ys w = sym w.1
  weaves_right_only (e ∷ es) ys w = ⊎_elim
      (λ (u : (rest : List E) × ([] ≡ e ∷ rest) × Weaves es rest ys). let clash : [] ≡ e ∷ u.0 = u.1 in absurd (cc))
      (λ (u : (rest : List E) × (ys ≡ e ∷ rest) × Weaves es [] rest). ap (λ l. e ∷ l) (weaves_right_only es u.0 u.2) ∙
      sym u.1)
      w

  module _ (p : E → Bool) where
    kept : (e : E) (es : List E) → p e ≡ true → filter p (e ∷ es) ≡ e ∷ filter p es
    kept e es h = rw h refl

    dropped : (e : E) (es : List E) → p e ≡ false → filter p (e ∷ es) ≡ filter p es
    dropped e es h = rw h refl

    test : (b : Bool) → (b ≡ true) ⊎ (b ≡ false)
    test true = inl refl
    test false = inr refl

    pub filter_passes : (es : List E) → PassesAll p es → filter p es ≡ es
    filter_passes [] h = refl
    filter_passes (e ∷ es) h = kept e es h.0 ∙ ap (λ l. e ∷ l) (filter_passes es h.1)

    pub filter_fails : (es : List E) → FailsAll p es → filter p es ≡ []
    filter_fails [] h = refl
    filter_fails (e ∷ es) h = dropped e es h.0 ∙ filter_fails es h.1

    pub filter_weaves : (all xs ys : List E) → Weaves all xs ys → Weaves (filter p all) (filter p xs) (filter p ys)
    filter_weaves [] xs ys w = (ap (filter p) w.0, ap (filter p) w.1)
    filter_weaves (e ∷ es) xs ys w = ⊎_elim
        (λ (u : (rest : List E) × (xs ≡ e ∷ rest) × Weaves es rest ys). ⊎_elim
        (λ (t : p e ≡ true). subst (λ l. Weaves l (filter p xs) (filter p ys)) (sym (kept e es t))
        (inl (filter p u.0, ap (filter p) u.1 ∙ kept e u.0 t, filter_weaves es u.0 ys u.2)))
        (λ (t : p e ≡ false). subst (λ l. Weaves l (filter p xs) (filter p ys)) (sym (dropped e es t))
        (subst (λ l. Weaves (filter p es) l (filter p ys)) (sym (ap (filter p) u.1 ∙ dropped e u.0 t))
        (filter_weaves es u.0 ys u.2)))
        (test (p e)))
        (λ (u : (rest : List E) × (ys ≡ e ∷ rest) × Weaves es xs rest). ⊎_elim
        (λ (t : p e ≡ true). subst (λ l. Weaves l (filter p xs) (filter p ys)) (sym (kept e es t))
        (inr (filter p u.0, ap (filter p) u.1 ∙ kept e u.0 t, filter_weaves es xs u.0 u.2)))
        (λ (t : p e ≡ false). subst (λ l. Weaves l (filter p xs) (filter p ys)) (sym (dropped e es t))
        (subst (λ l. Weaves (filter p es) (filter p xs) l) (sym (ap (filter p) u.1 ∙ dropped e u.0 t))
        (filter_weaves es xs u.0 u.2)))
        (test (p e)))
        w

    -- a list that is made of parts whose entries all fail has none that passes
    pub none_passes : (all : List E) (parts : List (List E)) → IsShuffle all parts → ((j : ℕ) (part : List E) →
        slice_get parts j ≡ Some part → FailsAll p part) → filter p all ≡ []
    none_passes all [] w h = ap (filter p) w
    none_passes all (part ∷ parts) w h =
        let fails = filter_fails part (h zero part refl) in
        let others = none_passes w.0 parts w.2 (λ j q e. h (suc j) q e) in
        weaves_left_only (filter p all) [] (subst (λ l. Weaves (filter p all) [] l) others
        (subst (λ l. Weaves (filter p all) l (filter p w.0)) fails (filter_weaves all part w.0 w.1)))

    -- the part whose entries pass, while those of the others fail, is the list's entries that pass, in their order
    pub own_part : (all : List E) (parts : List (List E)) (k : ℕ) (part : List E) → IsShuffle all parts →
        slice_get parts k ≡ Some part → PassesAll p part
        → ((j : ℕ) (other : List E) → j ≢ k → slice_get parts j ≡ Some other → FailsAll p other) → filter p all ≡ part
    own_part all [] k part w at passes fails = absurd (cc)
    own_part all (first ∷ parts) zero part w at passes fails =
        let same : first ≡ part = cc in
        let others = none_passes w.0 parts w.2 (λ j q e. fails (suc j) q (λ z. suc-ne-zero j z) e) in
        let mine = ap (filter p) same ∙ filter_passes part passes in
        weaves_left_only (filter p all) part (subst (λ l. Weaves (filter p all) part l) others
        (subst (λ l. Weaves (filter p all) l (filter p w.0)) mine (filter_weaves all first w.0 w.1)))
    own_part all (first ∷ parts) (suc k) part w at passes fails =
        let none = filter_fails first (fails zero first (λ z. suc-ne-zero k (sym z)) refl) in
        let again = own_part w.0 parts k part w.2 at passes (λ j q n e.
        fails (suc j) q (λ z. n (let y : j ≡ k = omega arith in y)) e) in
        weaves_right_only (filter p all) part (subst (λ l. Weaves (filter p all) [] l) again
        (subst (λ l. Weaves (filter p all) l (filter p w.0)) none (filter_weaves all first w.0 w.1)))
