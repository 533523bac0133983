-- Lists whose elements are taken out of others, each once.
use Rattle.std.proofs.Common.{◌≡◌, ⊎_elim, inl, inr, List, [], ◌∷◌, ◌++◌, map, refl, sym, ap, ◌∙◌, subst}
use Rattle.hub_laws.specs.Taking.{Holds, Embeds}

module _ {A : Type 0} where
  pub first_held : (x : A) (ys : List A) → Holds x (x ∷ ys) ys
  first_held x ys = inl (refl, refl)

  later_held : (x y : A) (ys rest : List A) → Holds x ys rest → Holds x (y ∷ ys) (y ∷ rest)
  later_held x y ys rest h = inr (rest, refl, h)

  -- two that are taken out one after the other can be taken out the other way round
  pub swapped : (x p : A) (ys r s : List A) → Holds x ys r → Holds p r s → (t : List A) × Holds p ys t × Holds x t s
  swapped x p [] r s h k = absurd h
  swapped x p (y ∷ ys) r s h k = ⊎_elim
      (λ (u : (x ≡ y) × (r ≡ ys)).
      let k' : Holds p ys s = subst (λ l. Holds p l s) u.1 k in
      (y ∷ s, inr (s, refl, k'), inl (u.0, refl)))
      (λ (u : (q : List A) × (r ≡ y ∷ q) × Holds x ys q).
      let k' : Holds p (y ∷ u.0) s = subst (λ l. Holds p l s) u.1 k in ⊎_elim
      (λ (v : (p ≡ y) × (s ≡ u.0)). (ys, inl (v.0, refl), subst (Holds x ys) (sym v.1) u.2))
      (λ (v : (q : List A) × (s ≡ y ∷ q) × Holds p u.0 q).
      let again = swapped x p ys u.0 v.0 u.2 v.2 in
      (y ∷ again.0, inr (again.0, refl, again.1), inr (v.0, v.1, again.2)))
      k')
      h

  -- an element may be taken out first
  pub moved : (xs : List A) (p : A) (zs ys : List A) → Embeds (xs ++ p ∷ zs) ys → Embeds (p ∷ xs ++ zs) ys
  moved [] p zs ys e = e
  moved (x ∷ xs) p zs ys e =
      let i = moved xs p zs e.0 e.2 in
      let s = swapped x p ys e.0 i.0 e.1 i.1 in
      (s.0, s.1, (i.0, s.2, i.2))

  -- what is taken out is some of them
  pub front : (xs zs ys : List A) → Embeds (xs ++ zs) ys → Embeds xs ys
  front [] zs ys e = tt
  front (x ∷ xs) zs ys e = (e.0, e.1, front xs zs e.0 e.2)

  held_more : (x : A) (ys rest zs : List A) → Holds x ys rest → Holds x (ys ++ zs) (rest ++ zs)
  held_more x [] rest zs h = absurd h
  held_more x (y ∷ ys) rest zs h = ⊎_elim
      (λ (u : (x ≡ y) × (rest ≡ ys)). inl (u.0, ap (λ l. l ++ zs) u.1))
      (λ (u : (r : List A) × (rest ≡ y ∷ r) × Holds x ys r).
      inr (u.0 ++ zs, ap (λ l. l ++ zs) u.1, held_more x ys u.0 zs u.2))
      h

  pub itself : (xs : List A) → Embeds xs xs
  itself [] = tt
  itself (x ∷ xs) = (xs, first_held x xs, itself xs)

  -- both go on alike
  pub more : (xs ys zs : List A) → Embeds xs ys → Embeds (xs ++ zs) (ys ++ zs)
  more [] ys zs e = nothing_taken ys zs
    where
      nothing_taken : (ys zs : List A) → Embeds zs (ys ++ zs)
      nothing_taken [] zs = itself zs
      nothing_taken (y ∷ ys) zs = beside y zs (ys ++ zs) (nothing_taken ys zs)
        where
          beside : (y : A) (xs ys : List A) → Embeds xs ys → Embeds xs (y ∷ ys)
          beside y [] ys e = tt
          beside y (x ∷ xs) ys e = (y ∷ e.0, later_held x y ys e.0 e.1, beside y xs e.0 e.2)
  more (x ∷ xs) ys zs e = (e.0 ++ zs, held_more x ys e.0 zs e.1, more xs e.0 zs e.2)

  -- what goes first may be left out
  pub weaken : (x : A) (ys rest xs : List A) → Holds x ys rest → Embeds xs rest → Embeds xs ys
  weaken x ys rest [] h e = tt
  weaken x ys rest (z ∷ xs) h e =
      let s = back x z ys rest e.0 h e.1 in (s.0, s.1, weaken x s.0 e.0 xs s.2 e.2)
    where
      back : (x z : A) (ys r s : List A) → Holds x ys r → Holds z r s → (t : List A) × Holds z ys t × Holds x t s
      back x z ys r s h k = swapped x z ys r s h k

  pub end : (xs zs ys : List A) → Embeds (xs ++ zs) ys → Embeds zs ys
  end [] zs ys e = e
  end (x ∷ xs) zs ys e = weaken x ys e.0 zs e.1 (end xs zs e.0 e.2)

  -- beside one more
  pub beside : (y : A) (xs ys : List A) → Embeds xs ys → Embeds xs (y ∷ ys)
  beside y xs ys e = weaken y (y ∷ ys) ys xs (first_held y ys) e

-- a change of each element
module _ {A B : Type 0} (f : A → B) where
  held_map : (x : A) (ys rest : List A) → Holds x ys rest → Holds (f x) (map f ys) (map f rest)
  held_map x [] rest h = absurd h
  held_map x (y ∷ ys) rest h = ⊎_elim
      (λ (u : (x ≡ y) × (rest ≡ ys)). inl (ap f u.0, ap (map f) u.1))
      (λ (u : (r : List A) × (rest ≡ y ∷ r) × Holds x ys r). inr (map f u.0, ap (map f) u.1, held_map x ys u.0 u.2))
      h

  pub mapped : (xs ys : List A) → Embeds xs ys → Embeds (map f xs) (map f ys)
  mapped [] ys e = tt
  mapped (x ∷ xs) ys e = (map f e.0, held_map x ys e.0 e.1, mapped xs e.0 e.2)

  held_back : (b : B) (ys : List A) (rest : List B) → Holds b (map f ys) rest
      → (x : A) × (r : List A) × (b ≡ f x) × (rest ≡ map f r) × Holds x ys r
  held_back b [] rest h = absurd h
  held_back b (y ∷ ys) rest h = ⊎_elim
      (λ (u : (b ≡ f y) × (rest ≡ map f ys)). (y, ys, u.0, u.1, first_held y ys))
      (λ (u : (r : List B) × (rest ≡ f y ∷ r) × Holds b (map f ys) r).
      let i = held_back b ys u.0 u.2 in
      (i.0, y ∷ i.1, i.2, u.1 ∙ ap (λ l. f y ∷ l) i.3, inr (i.1, refl, i.4)))
      h

  -- those taken out of changed ones are changed ones
  pub pulled : (bs : List B) (ys : List A) → Embeds bs (map f ys) → (xs : List A) × (bs ≡ map f xs) × Embeds xs ys
  pulled [] ys e = ([], refl, tt)
  pulled (b ∷ bs) ys e =
      let h = held_back b ys e.0 e.1 in
      let i = pulled bs h.1 (subst (Embeds bs) h.3 e.2) in
      (h.0 ∷ i.0, ap (λ l. b ∷ l) i.1 ∙ ap (λ c. c ∷ map f i.0) h.2, (h.1, h.4, i.2))

module _ {A : Type 0} where
  -- both begin alike
  pub both_front : (zs xs ys : List A) → Embeds xs ys → Embeds (zs ++ xs) (zs ++ ys)
  both_front [] xs ys e = e
  both_front (z ∷ zs) xs ys e = (zs ++ ys, first_held z (zs ++ ys), both_front zs xs ys e)

  pub later_all : (zs xs ys : List A) → Embeds xs ys → Embeds xs (zs ++ ys)
  later_all [] xs ys e = e
  later_all (z ∷ zs) xs ys e = beside z xs (zs ++ ys) (later_all zs xs ys e)
