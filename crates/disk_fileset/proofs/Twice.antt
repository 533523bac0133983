-- One anode changed more than once.
use Rattle.std.proofs.Common.{◌≡◌, ◌≢◌, ◌<◌, ◌≤◌, ◌⊎◌, ℕ, zero, suc, ◌-◌, List, [], ◌∷◌, length, refl, sym, ◌∙◌, ap, subst, inl, inr, arith}
use Rattle.std.specs.Prelude.{Bool, true, false, ◌==◌, if◌then◌else◌, Some, slice_get, unwrap_or}
use Rattle.std.proofs.lemmas.Bool.{cases_eq, cases_lt}
use Rattle.base_types.specs.Lists.{changed_at}
use Rattle.base_types.proofs.ChangedLists.{changed_past}
use Rattle.tree_filesets.specs.Founding.{unused_anode}
use Rattle.tree_objects.specs.declared.content.Anode.{Anode}
use Rattle.disk_objects.specs.Objects.{anode_at, with_slot, with_anode}
use Rattle.disk_objects.proofs.Places.{at_here, at_other, slot_here, slot_other}

changed_twice : {X : Type 0} (xs : List X) (i : ℕ) (f g : X → X) → changed_at (changed_at xs i g) i f ≡ changed_at xs i (λ x. f (g x))
changed_twice [] i f g = refl
changed_twice (x ∷ xs) zero f g = refl
changed_twice (x ∷ xs) (suc i) f g = ap (λ ys. x ∷ ys) (changed_twice xs i f g)

changed_where : {X : Type 0} (xs : List X) (i : ℕ) (f g : X → X) → ((x : X) → slice_get xs i ≡ Some x → f x ≡ g x) → changed_at xs i f ≡ changed_at xs i g
changed_where [] i f g same = refl
changed_where (x ∷ xs) zero f g same = ap (λ y. y ∷ xs) (same x refl)
changed_where (x ∷ xs) (suc i) f g same = ap (λ ys. x ∷ ys) (changed_where xs i f g same)

pub slot_twice : (slots : ℕ → List Anode) (slot : ℕ) (a b : List Anode) → with_slot slot b (with_slot slot a slots) ≡ with_slot slot b slots
slot_twice slots slot a b = λ i s. by s (s == slot) i
  where
    by : (s : ℕ) (c : Bool) → (if c then b else (if c then a else slots s)) ≡ (if c then b else slots s)
    by s true = refl
    by s false = refl

-- one change after another
pub anode_twice : (slots : ℕ → List Anode) (slot n : ℕ) (f g : Anode → Anode) → with_anode slot n f (with_anode slot n g slots) ≡ with_anode slot n (λ a. f (g a)) slots
anode_twice slots slot n f g =
    let first : List Anode = changed_at (slots slot) (n - 1) g in
    let here = slot_here slots slot slot first refl in
    (λ i. with_slot slot (changed_at (here i) (n - 1) f) (with_slot slot first slots))
    ∙ (λ i. with_slot slot (changed_twice (slots slot) (n - 1) f g i) (with_slot slot first slots))
    ∙ slot_twice slots slot first (changed_at (slots slot) (n - 1) (λ a. f (g a)))

-- changes that make the same of the anode that is there
pub anode_where : (slots : ℕ → List Anode) (slot n : ℕ) (f g : Anode → Anode) → f (anode_at (slots slot) n) ≡ g (anode_at (slots slot) n) → with_anode slot n f slots ≡ with_anode slot n g slots
anode_where slots slot n f g same = λ i. with_slot slot (changed_where (slots slot) (n - 1) f g at i) slots
  where
    at : (x : Anode) → slice_get (slots slot) (n - 1) ≡ Some x → f x ≡ g x
    at x e =
        let is : anode_at (slots slot) n ≡ x = (λ i. unwrap_or (e i) unused_anode) in
        subst (λ (a : Anode). f a ≡ g a) is same

-- the anode that changed, and the others
pub anode_here : (slots : ℕ → List Anode) (slot n : ℕ) (f : Anode → Anode) → 1 ≤ n → n ≤ length (slots slot) → anode_at (with_anode slot n f slots slot) n ≡ f (anode_at (slots slot) n)
anode_here slots slot n f some there =
    (λ i. anode_at (slot_here slots slot slot (changed_at (slots slot) (n - 1) f) refl i) n) ∙ at_here (slots slot) n f some there

pub anode_other : (slots : ℕ → List Anode) (slot n m : ℕ) (f : Anode → Anode) → 1 ≤ n → 1 ≤ m → m ≢ n → anode_at (with_anode slot n f slots slot) m ≡ anode_at (slots slot) m
anode_other slots slot n m f some one apart =
    (λ i. anode_at (slot_here slots slot slot (changed_at (slots slot) (n - 1) f) refl i) m) ∙ at_other (slots slot) n m f (λ e. apart (omega (arith, e, some, one)))

pub anode_there : (slots : ℕ → List Anode) (slot s n m : ℕ) (f : Anode → Anode) → s ≢ slot → anode_at (with_anode slot n f slots s) m ≡ anode_at (slots s) m
anode_there slots slot s n m f apart = λ i. anode_at (slot_other slots slot s (changed_at (slots slot) (n - 1) f) apart i) m

-- a fact of an anode that each change keeps
pub anode_keeps : (P : Anode → Type 0) (slots : ℕ → List Anode) (slot n m : ℕ) (f : Anode → Anode) → 1 ≤ n → 1 ≤ m
    → ((a : Anode) → P a → P (f a)) → P (anode_at (slots slot) m) → P (anode_at (with_anode slot n f slots slot) m)
anode_keeps P slots slot n m f some one keeps fact = by (cases_eq m n) (cases_lt (n - 1) (length (slots slot)))
  where
    by : (m ≡ n) ⊎ (m ≢ n) → (n - 1 < length (slots slot)) ⊎ (length (slots slot) ≤ n - 1) → P (anode_at (with_anode slot n f slots slot) m)
    by (inl e) (inl lt) =
        let here : anode_at (with_anode slot n f slots slot) m ≡ f (anode_at (slots slot) m) = (λ i. anode_at (with_anode slot n f slots slot) (e i)) ∙ anode_here slots slot n f some (omega (arith, lt, some)) ∙ (λ i. f (anode_at (slots slot) (sym e i))) in
        subst P (sym here) (keeps (anode_at (slots slot) m) fact)
    by (inl e) (inr le) =
        let past : with_anode slot n f slots slot ≡ slots slot = slot_here slots slot slot (changed_at (slots slot) (n - 1) f) refl ∙ changed_past (slots slot) (n - 1) f le in
        subst (λ (xs : List Anode). P (anode_at xs m)) (sym past) fact
    by (inr apart) which = subst P (sym (anode_other slots slot n m f some one apart)) fact
