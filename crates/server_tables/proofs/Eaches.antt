-- What holds of each of a list.
use Rattle.std.proofs.Common.{◌≡◌, Bool, true, false, List, [], ◌∷◌, ◌++◌, Some, ℕ, zero, suc}
use Rattle.std.proofs.Common.{inl, inr, map, refl, subst, sym}
use Rattle.std.specs.List.{filter, find, flat_map}
use Rattle.std.specs.Prelude.{remove}
use Rattle.message_types.specs.Soundness.{Each}
use Rattle.run_rules.specs.Past.{In}

pub of_each : {A : Type 0} (P : A → Type 0) (xs : List A) → Each P xs → (x : A) → In x xs → P x
of_each P [] e x i = elim i [ ]
of_each P (y ∷ ys) e x (inl q) = subst P (sym q) e.0
of_each P (y ∷ ys) e x (inr i) = of_each P ys e.1 x i

pub to_each : {A : Type 0} (P : A → Type 0) (xs : List A) → ((x : A) → In x xs → P x) → Each P xs
to_each P [] f = tt
to_each P (x ∷ xs) f = (f x (inl refl), to_each P xs (λ y i. f y (inr i)))

pub each_so : {A : Type 0} (P Q : A → Type 0) (xs : List A) → ((x : A) → P x → Q x) → Each P xs → Each Q xs
each_so P Q [] f e = tt
each_so P Q (x ∷ xs) f e = (f x e.0, each_so P Q xs f e.1)

pub each_joined : {A : Type 0} (P : A → Type 0) (xs ys : List A) → Each P xs → Each P ys → Each P (xs ++ ys)
each_joined P [] ys e f = f
each_joined P (x ∷ xs) ys e f = (e.0, each_joined P xs ys e.1 f)

pub each_end : {A : Type 0} (P : A → Type 0) (xs : List A) (x : A) → Each P xs → P x → Each P (xs ++ x ∷ [])
each_end P xs x e p = each_joined P xs (x ∷ []) e (p, tt)

pub each_removed : {A : Type 0} (P : A → Type 0) (xs : List A) (at : ℕ) → Each P xs → Each P (remove xs at)
each_removed P [] zero e = tt
each_removed P [] (suc at) e = tt
each_removed P (x ∷ xs) zero e = e.1
each_removed P (x ∷ xs) (suc at) e = (e.0, each_removed P xs at e.1)

pub each_filter : {A : Type 0} (P : A → Type 0) (p : A → Bool) (xs : List A) → Each P xs → Each P (filter p xs)
each_filter P p [] e = tt
each_filter P p (x ∷ xs) e = by (each_filter P p xs e.1) (p x) refl
  where
    by : Each P (filter p xs) → (b : Bool) → p x ≡ b → Each P (filter p (x ∷ xs))
    by rest true q = rw q (e.0, rest)
    by rest false q = rw q rest

pub each_map : {A B : Type 0} (P : A → Type 0) (Q : B → Type 0) (f : A → B) (xs : List A)
    → ((x : A) → P x → Q (f x)) → Each P xs → Each Q (map f xs)
each_map P Q f [] g e = tt
each_map P Q f (x ∷ xs) g e = (g x e.0, each_map P Q f xs g e.1)

pub each_flat : {A B : Type 0} (Q : B → Type 0) (f : A → List B) (xs : List A) → ((x : A) → Each Q (f x))
    → Each Q (flat_map f xs)
each_flat Q f [] g = tt
each_flat Q f (x ∷ xs) g = each_joined Q (f x) (flat_map f xs) (g x) (each_flat Q f xs g)

-- what is found is one of them, and passes
pub found_so : {A : Type 0} (P : A → Type 0) (p : A → Bool) (xs : List A) → Each P xs → (x : A) → find p xs ≡ Some x
    → P x × (p x ≡ true)
found_so P p [] e x q = absurd (cc)
found_so P p (y ∷ ys) e x q = by (found_so P p ys e.1 x) (p y) refl q
  where
    by : (find p ys ≡ Some x → P x × (p x ≡ true)) → (b : Bool) → p y ≡ b → find p (y ∷ ys) ≡ Some x
        → P x × (p x ≡ true)
    by rest true r q = let s : Some y ≡ Some x = (let t = rw r at q in t) in let u : y ≡ x = cc in (
      subst P u e.0,
      subst (λ z. p z ≡ true) u r,
    )
    by rest false r q = rest (let t = rw r at q in t)
