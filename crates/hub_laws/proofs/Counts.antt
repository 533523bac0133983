-- How many of a list are so, where the elements of one are taken out of another.
use Rattle.std.proofs.Common.{◌≡◌, ◌⊎◌, ⊎_elim, inl, inr, ℕ, suc, ◌≤◌, Bool, true, false, cond, List, [], ◌∷◌, map}
use Rattle.std.proofs.Common.{filter, refl, sym, ap, ◌∙◌, subst, arith}
use Rattle.run_rules.specs.Plans.{CountIs}
use Rattle.hub_laws.specs.Taking.{Holds, Embeds}

module _ {A : Type 0} (P : A → Type 0) where
  -- one count alone is right
  pub count_once : (xs : List A) (n k : ℕ) → CountIs P xs n → CountIs P xs k → n ≡ k
  count_once [] n k c d = c ∙ sym d
  count_once (x ∷ xs) n k c d = ⊎_elim
      (λ (u : P x × ((m : ℕ) × (n ≡ suc m) × CountIs P xs m)). ⊎_elim
      (λ (v : P x × ((m : ℕ) × (k ≡ suc m) × CountIs P xs m)).
      u.1.1 ∙ ap suc (count_once xs u.1.0 v.1.0 u.1.2 v.1.2) ∙ sym v.1.1)
      (λ (v : (P x → ⊥) × CountIs P xs k). absurd (v.0 u.0))
      d)
      (λ (u : (P x → ⊥) × CountIs P xs n). ⊎_elim
      (λ (v : P x × ((m : ℕ) × (k ≡ suc m) × CountIs P xs m)). absurd (u.0 v.0))
      (λ (v : (P x → ⊥) × CountIs P xs k). count_once xs n k u.1 v.1)
      d)
      c

  -- one taken out: it counts where it is so
  count_held : (x : A) (ys rest : List A) (k : ℕ) → Holds x ys rest → CountIs P ys k
      → (P x × ((m : ℕ) × (k ≡ suc m) × CountIs P rest m)) ⊎ ((P x → ⊥) × CountIs P rest k)
  count_held x [] rest k h c = absurd h
  count_held x (y ∷ ys) rest k h c = ⊎_elim
      (λ (u : (x ≡ y) × (rest ≡ ys)).
      subst (λ l. (P x × ((m : ℕ) × (k ≡ suc m) × CountIs P l m)) ⊎ ((P x → ⊥) × CountIs P l k)) (sym u.1)
      (subst (λ z. (P z × ((m : ℕ) × (k ≡ suc m) × CountIs P ys m)) ⊎ ((P z → ⊥) × CountIs P ys k)) (sym u.0) c))
      (λ (u : (r : List A) × (rest ≡ y ∷ r) × Holds x ys r).
      subst (λ l. (P x × ((m : ℕ) × (k ≡ suc m) × CountIs P l m)) ⊎ ((P x → ⊥) × CountIs P l k)) (sym u.1)
      (⊎_elim
      (λ (v : P y × ((m : ℕ) × (k ≡ suc m) × CountIs P ys m)). ⊎_elim
      (λ (w : P x × ((m : ℕ) × (v.1.0 ≡ suc m) × CountIs P u.0 m)).
      inl (w.0, (v.1.0, v.1.1, inl (v.0, (w.1.0, w.1.1, w.1.2)))))
      (λ (w : (P x → ⊥) × CountIs P u.0 v.1.0). inr (w.0, inl (v.0, (v.1.0, v.1.1, w.1))))
      (count_held x ys u.0 v.1.0 u.2 v.1.2))
      (λ (v : (P y → ⊥) × CountIs P ys k). ⊎_elim
      (λ (w : P x × ((m : ℕ) × (k ≡ suc m) × CountIs P u.0 m)). inl (w.0, (w.1.0, w.1.1, inr (v.0, w.1.2))))
      (λ (w : (P x → ⊥) × CountIs P u.0 k). inr (w.0, inr (v.0, w.1)))
      (count_held x ys u.0 k u.2 v.1))
      c))
      h

  -- of those taken out no more are so
  pub count_part : (xs ys : List A) (k : ℕ) → Embeds xs ys → CountIs P ys k → (j : ℕ) × CountIs P xs j × (j ≤ k)
  count_part [] ys k e c = (0, refl, omega arith)
  count_part (x ∷ xs) ys k e c = ⊎_elim
      (λ (u : P x × ((m : ℕ) × (k ≡ suc m) × CountIs P e.0 m)).
      let i = count_part xs e.0 u.1.0 e.2 u.1.2 in
      let le = i.2 in let is = u.1.1 in
      (suc i.0, inl (u.0, (i.0, refl, i.1)), omega arith))
      (λ (u : (P x → ⊥) × CountIs P e.0 k).
      let i = count_part xs e.0 k e.2 u.1 in (i.0, inr (u.0, i.1), i.2))
      (count_held x ys e.0 k e.1 c)

  -- it is the same of what a test keeps, where the test keeps all that are so
  pub count_filter : (f : A → Bool) → ((x : A) → P x → f x ≡ true) → (xs : List A) (n : ℕ) → CountIs P xs n
      → CountIs P (filter f xs) n
  count_filter f all [] n c = c
  count_filter f all (x ∷ xs) n c = by_test (f x) refl (count_filter f all xs)
    where
      by_test : (b : Bool) → f x ≡ b → ((k : ℕ) → CountIs P xs k → CountIs P (filter f xs) k)
          → CountIs P (cond b (x ∷ filter f xs) (filter f xs)) n
      by_test true e again = ⊎_elim
          (λ (u : P x × ((m : ℕ) × (n ≡ suc m) × CountIs P xs m)). inl (u.0, (u.1.0, u.1.1, again u.1.0 u.1.2)))
          (λ (u : (P x → ⊥) × CountIs P xs n). inr (u.0, again n u.1))
          c
      by_test false e again = ⊎_elim
          (λ (u : P x × ((m : ℕ) × (n ≡ suc m) × CountIs P xs m)).
          let clash : true ≡ false = sym (all x u.0) ∙ e in absurd (cc))
          (λ (u : (P x → ⊥) × CountIs P xs n). again n u.1)
          c

module _ {A B : Type 0} (P : A → Type 0) (Q : B → Type 0) (f : A → B) where
  -- a fact of each element
  abbrev pub Same : List A → Type 0
  Same [] = Unit {0}
  Same (x ∷ xs) = ((P x → Q (f x)) × (Q (f x) → P x)) × Same xs

  pub count_map : (xs : List A) (n : ℕ) → Same xs → CountIs P xs n → CountIs Q (map f xs) n
  count_map [] n s c = c
  count_map (x ∷ xs) n s c = ⊎_elim
      (λ (u : P x × ((m : ℕ) × (n ≡ suc m) × CountIs P xs m)).
      inl (s.0.0 u.0, (u.1.0, u.1.1, count_map xs u.1.0 s.1 u.1.2)))
      (λ (u : (P x → ⊥) × CountIs P xs n). inr ((λ q. u.0 (s.0.1 q)), count_map xs n s.1 u.1))
      c

  pub count_back : (xs : List A) (n : ℕ) → Same xs → CountIs Q (map f xs) n → CountIs P xs n
  count_back [] n s c = c
  count_back (x ∷ xs) n s c = ⊎_elim
      (λ (u : Q (f x) × ((m : ℕ) × (n ≡ suc m) × CountIs Q (map f xs) m)).
      inl (s.0.1 u.0, (u.1.0, u.1.1, count_back xs u.1.0 s.1 u.1.2)))
      (λ (u : (Q (f x) → ⊥) × CountIs Q (map f xs) n). inr ((λ p. u.0 (s.0.0 p)), count_back xs n s.1 u.1))
      c
