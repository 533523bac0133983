-- One element between those before it and those after it.
use Rattle.std.proofs.Common.{◌≡◌, ℕ, suc, ◌+◌, Bool, true, false, not, cond, List, [], ◌∷◌, ◌++◌, length, Some, refl, sym, ap, ◌∙◌, arith, rules}
use Rattle.std.specs.Prelude.{slice_get}
use Rattle.std.specs.List.{find, list_all, prefix_len}
use Rattle.std.proofs.lemmas.List.{append_assoc}
use Rattle.base_types.specs.Lists.{changed_at}
use Rattle.tree_objects.proofs.Observed.{and_left, and_right}
use Rattle.tree_objects.proofs.Rising.{and_both}

-- what holds of all holds of it
pub all_between : {X : Type 0} (p : X → Bool) (before : List X) (x : X) (after : List X) → list_all p (before ++ x ∷ after) ≡ true → p x ≡ true
all_between p [] x after h = and_left _ _ h
all_between p (y ∷ ys) x after h = all_between p ys x after (and_right _ _ h)

-- where it stands by its place
pub get_between : {X : Type 0} (before : List X) (x : X) (after : List X) → slice_get (before ++ x ∷ after) (length before) ≡ Some x
get_between [] x after = refl
get_between (y ∷ ys) x after = get_between ys x after

pub changed_between : {X : Type 0} (f : X → X) (before : List X) (x : X) (after : List X) → changed_at (before ++ x ∷ after) (length before) f ≡ before ++ f x ∷ after
changed_between f [] x after = refl
changed_between f (y ∷ ys) x after = ap (λ zs. y ∷ zs) (changed_between f ys x after)

-- where it is the first to pass a test
pub first_found : {X : Type 0} (p : X → Bool) (before : List X) (x : X) (after : List X) → list_all (λ y. not (p y)) before ≡ true → p x ≡ true → find p (before ++ x ∷ after) ≡ Some x
first_found p [] x after h k = ap (λ t. cond t (Some x) (find p after)) k
first_found p (y ∷ ys) x after h k =
    elim (p y) as (λ t. not t ≡ true → cond t (Some y) (find p (ys ++ x ∷ after)) ≡ Some x)
    [ true ↦ λ e. absurd (search (rules, e)) | false ↦ λ e. first_found p ys x after (and_right _ _ h) k ] (and_left _ _ h)

pub first_changed : {X : Type 0} (p : X → Bool) (f : X → X) (before : List X) (x : X) (after : List X) → list_all (λ y. not (p y)) before ≡ true → p x ≡ true →
    changed_at (before ++ x ∷ after) (prefix_len (λ y. not (p y)) (before ++ x ∷ after)) f ≡ before ++ f x ∷ after
first_changed p f [] x after h k = ap (λ t. changed_at (x ∷ after) (cond (not t) (1 + prefix_len (λ y. not (p y)) after) 0) f) k
first_changed p f (y ∷ ys) x after h k =
    let one : 1 + prefix_len (λ z. not (p z)) (ys ++ x ∷ after) ≡ suc (prefix_len (λ z. not (p z)) (ys ++ x ∷ after)) = omega arith in
    ap (λ t. changed_at (y ∷ (ys ++ x ∷ after)) (cond t (1 + prefix_len (λ z. not (p z)) (ys ++ x ∷ after)) 0) f) (and_left _ _ h)
    ∙ ap (λ n. changed_at (y ∷ (ys ++ x ∷ after)) n f) one
    ∙ ap (λ zs. y ∷ zs) (first_changed p f ys x after (and_right _ _ h) k)

-- what is found stands so
pub record StandsFirst {X : Type 0} (p : X → Bool) (xs : List X) (x : X) : Type 0 where
  pub before : List X
  pub after : List X
  pub whole : xs ≡ before ++ x ∷ after
  pub none : list_all (λ y. not (p y)) before ≡ true

pub found_between : {X : Type 0} (p : X → Bool) (xs : List X) (x : X) → find p xs ≡ Some x → StandsFirst p xs x
found_between p [] x h = absurd (search (rules, h))
found_between p (y ∷ ys) x h =
    elim (p y) as (λ t. p y ≡ t → cond t (Some y) (find p ys) ≡ Some x → StandsFirst p (y ∷ ys) x) [
      | true ↦ λ e h. let same : y ≡ x = cc in record { before = []; after = ys; whole = ap (λ z. z ∷ ys) same; none = refl }
      | false ↦ λ e h.
          let rest = found_between p ys x h in
          record { before = y ∷ rest.before; after = rest.after; whole = ap (λ zs. y ∷ zs) rest.whole; none = and_both _ _ (ap not e) rest.none }
    ] refl h

-- one more before
pub one_more : {X : Type 0} (before : List X) (x : X) (after : List X) → before ++ x ∷ after ≡ (before ++ x ∷ []) ++ after
one_more before x after = sym (append_assoc before (x ∷ []) after)

pub length_more : {X : Type 0} (before : List X) (x : X) (n : ℕ) → n ≡ suc (length before) → n + 1 ≡ suc (length (before ++ x ∷ []))
length_more [] x n h = omega (arith, h)
length_more (y ∷ ys) x n h = omega (arith, h, length_more ys x (suc (length ys)) refl)
