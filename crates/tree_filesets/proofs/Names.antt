-- What is found by a name among entries, after one was put there and after one was taken out.
use Rattle.std.proofs.Common.{◌≡◌, ◌≢◌, ℕ, zero, suc, Bool, true, false, not, cond, ◌⊎◌, inl, inr, List, [], ◌∷◌, insert, filter, Option, Some, None, refl, sym, ap, rules}
use Rattle.std.specs.List.{find}
use Rattle.std.specs.Cmp.Lexicographic.{same_text}
use Rattle.std.proofs.lemmas.Cmp.{nat_list_eq_equiv}
use Rattle.base_types.specs.Name.{same_name}
use Rattle.tree_calls.specs.declared.part.DirEntry.{DirEntry}
use Rattle.tree_objects.specs.Entries.{entry_named}

-- a test that can't be both
pub false_of : (b : Bool) → (b ≡ true → ⊥) → b ≡ false
false_of true h = absurd (h refl)
false_of false h = refl

-- nothing is found
none_first : {X : Type 0} (b : Bool) (x : X) (o : Option X) → cond b (Some x) o ≡ None → (b ≡ false) × (o ≡ None)
none_first true x o h = absurd (search (rules, h))
none_first false x o h = (refl, h)

-- an element put among others is found, where nothing was before
pub find-insert_here : {X : Type 0} (p : X → Bool) (xs : List X) (i : ℕ) (x : X) → find p xs ≡ None → p x ≡ true → find p (insert xs i x) ≡ Some x
find-insert_here p [] zero x h k = rw k refl
find-insert_here p [] (suc i) x h k = rw k refl
find-insert_here p (y ∷ ys) zero x h k = rw k refl
find-insert_here p (y ∷ ys) (suc i) x h k =
    let (here, rest) = none_first (p y) y (find p ys) h in rw here (find-insert_here p ys i x rest k)

-- and what isn't found by the test changes nothing
pub find-insert_other : {X : Type 0} (p : X → Bool) (xs : List X) (i : ℕ) (x : X) → p x ≡ false → find p (insert xs i x) ≡ find p xs
find-insert_other p [] zero x k = rw k refl
find-insert_other p [] (suc i) x k = rw k refl
find-insert_other p (y ∷ ys) zero x k = rw k refl
find-insert_other p (y ∷ ys) (suc i) x k = ap (λ o. cond (p y) (Some y) o) (find-insert_other p ys i x k)

-- what doesn't stay isn't found
pub find-filter_gone : {X : Type 0} (p q : X → Bool) (xs : List X) → ((x : X) → q x ≡ true → p x ≡ false) → find p (filter q xs) ≡ None
find-filter_gone p q [] h = refl
find-filter_gone p q (x ∷ xs) h =
    let rest = find-filter_gone p q xs h in
    elim (q x) as (λ t. q x ≡ t → find p (cond t (x ∷ filter q xs) (filter q xs)) ≡ None)
    [ true ↦ λ e. rw (h x e) rest | false ↦ λ e. rest ] refl

-- what stays is found as before
pub find-filter_kept : {X : Type 0} (p q : X → Bool) (xs : List X) → ((x : X) → p x ≡ true → q x ≡ true) → find p (filter q xs) ≡ find p xs
find-filter_kept p q [] h = refl
find-filter_kept p q (x ∷ xs) h =
    let rest = find-filter_kept p q xs h in
    elim (q x) as (λ t. q x ≡ t → find p (cond t (x ∷ filter q xs) (filter q xs)) ≡ cond (p x) (Some x) (find p xs)) [
      | true ↦ λ e. ap (λ o. cond (p x) (Some x) o) rest
      | false ↦ λ e. rw (false_of (p x) (λ k. let both : q x ≡ true = h x k in search (rules, e, both))) rest
    ] refl

-- names are compared by their bytes
pub names_equal : (a b : List ℕ) → same_name a b ≡ true → a ≡ b
names_equal a b h = same_text a b (sym h)

pub same_self : (a : List ℕ) → same_name a a ≡ true
same_self a = nat_list_eq_equiv.refl a

pub names_differ : (a b : List ℕ) → a ≢ b → same_name a b ≡ false
names_differ a b h = false_of (same_name a b) (λ k. h (names_equal a b k))

pub name_or : (a b : List ℕ) → (a ≡ b) ⊎ (a ≢ b)
name_or a b =
    elim (same_name a b) as (λ t. same_name a b ≡ t → (a ≡ b) ⊎ (a ≢ b)) [
      | true ↦ λ e. inl (names_equal a b e)
      | false ↦ λ e. inr (λ k. let yes : same_name a b ≡ true = rw (← k) (same_self a) in search (rules, e, yes))
    ] refl

-- by names
pub named_insert_here : (entries : List DirEntry) (i : ℕ) (entry : DirEntry) → entry_named entries entry.name ≡ None → entry_named (insert entries i entry) entry.name ≡ Some entry
named_insert_here entries i entry h = find-insert_here (λ other. same_name other.name entry.name) entries i entry h (same_self entry.name)

pub named_insert_other : (entries : List DirEntry) (i : ℕ) (entry : DirEntry) (name : List ℕ) → entry.name ≢ name → entry_named (insert entries i entry) name ≡ entry_named entries name
named_insert_other entries i entry name h = find-insert_other (λ other. same_name other.name name) entries i entry (names_differ entry.name name h)

not_true : (b : Bool) → not b ≡ true → b ≡ false
not_true true h = absurd (search (rules, h))
not_true false h = refl

pub named_filter_here : (entries : List DirEntry) (name : List ℕ) → entry_named (filter (λ other. not (same_name other.name name)) entries) name ≡ None
named_filter_here entries name =
    find-filter_gone (λ other. same_name other.name name) (λ other. not (same_name other.name name)) entries (λ x h. not_true _ h)

pub named_filter_other : (entries : List DirEntry) (name other : List ℕ) → name ≢ other → entry_named (filter (λ entry. not (same_name entry.name name)) entries) other ≡ entry_named entries other
named_filter_other entries name other h =
    find-filter_kept (λ entry. same_name entry.name other) (λ entry. not (same_name entry.name name)) entries
    (λ x k. let away : same_name x.name name ≡ false = names_differ x.name name (λ e. h (let found : x.name ≡ other = names_equal x.name other k in rw (← e) found)) in rw away refl)
