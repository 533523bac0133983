-- What is said of each of a list is said once, where each of the list stands once.
use Rattle.base_types.specs.declared.ids.ServerId.{ServerId}
use Rattle.host_tables.proofs.Lists.{in_either, in_filter, in_map, map_in}
use Rattle.host_tables.specs.declared.draft.Draft.{Draft}
use Rattle.host_tables.specs.declared.sites.Site.{Site}
use Rattle.host_tables.specs.Tidy.{servers_in}
use Rattle.message_types.specs.declared.message.Message.{Message}
use Rattle.run_rules.specs.Past.{EachOnce, In}
use Rattle.run_rules.specs.Steps.{servers_of}
use Rattle.std.proofs.Common.{Bool, List, [], ap, arith, false, filter, fold, if◌then◌else◌, inl, inr, map, refl, subst}
use Rattle.std.proofs.Common.{sym, true, ℕ, ◌+◌, ◌++◌, ◌≤◌, ◌∷◌, ◌≡◌, ◌⊎◌, ⊎_elim}
use Rattle.std.specs.List.{enumerate_from}
use Rattle.tree_calls.specs.declared.roster.Roster.{Roster}

-- one more at the end
pub once_more : {A : Type 0} (xs : List A) (x : A) → EachOnce xs → (In x xs → ⊥) → EachOnce (xs ++ x ∷ [])
once_more [] x once none = ((λ i. i), tt)
once_more (y ∷ xs) x once none = (
  (λ i. elim (in_either xs (x ∷ []) y i) [
    | inl j ↦ once.0 j
    | inr j ↦ elim j [ inl e ↦ none (inl (sym e)) | inr n ↦ n ]
  ]),
  once_more xs x once.1 (λ i. none (inr i)),
)

-- of each of a list something is said that tells which it is, or nothing
module _ {A K : Type 0} (f : Draft → A → Draft) (key : A → K) (of : Message → K) (Of : Message → Type 0)
    (keeps : (d : Draft) (x : A) → EachOnce d.sent → ((y : Message) → In y d.sent → Of y → of y ≡ key x → ⊥)
    → EachOnce (f d x).sent)
    (says : (d : Draft) (x : A) (y : Message) → In y (f d x).sent → In y d.sent ⊎ (of y ≡ key x)) where
  pub fold_once : (xs : List A) → EachOnce (map key xs) → (d : Draft) → EachOnce d.sent
      → ((y : Message) → In y d.sent → Of y → In (of y) (map key xs) → ⊥) → EachOnce (fold f d xs).sent
  fold_once [] once d sent apart = sent
  fold_once (x ∷ xs) once d sent apart =
      fold_once xs once.1 (f d x) (keeps d x sent (λ y i o e. apart y i o (inl e)))
      (λ y i o j. elim (says d x y i) [
        | inl k ↦ apart y k o (inr j)
        | inr e ↦ once.0 (subst (λ (k : K). In k (map key xs)) e j)
      ])

-- the servers of a roster are each one
abbrev servers_from : ℕ → List ℕ → List ServerId
servers_from k capacity = map (λ (at, c). record { 0 = at + 1 }) (enumerate_from k capacity)

later : (capacity : List ℕ) (k : ℕ) (server : ServerId) → In server (servers_from k capacity) → k + 1 ≤ server.0
later [] k server i = elim i [ ]
later (c ∷ capacity) k server i = ⊎_elim
    (λ (e : server ≡ record { 0 = k + 1 }). let same = ap (λ (s : ServerId). s.0) e in omega arith)
    (λ (j : In server (servers_from (k + 1) capacity)). let again = later capacity (k + 1) server j in omega arith)
    i

once_from : (capacity : List ℕ) (k : ℕ) → EachOnce (servers_from k capacity)
once_from [] k = tt
once_from (c ∷ capacity) k = (
  (λ i. let low = later capacity (k + 1) (record { 0 = k + 1 }) i in omega arith),
  once_from capacity (k + 1),
)

pub servers_once : (roster : Roster) (sites : List Site) → servers_in sites ≡ servers_of roster
    → EachOnce (servers_in sites)
servers_once roster sites e = subst EachOnce (sym e) (once_from roster.capacity 0)

-- # Lists of which each stands once
pub once_append : {A : Type 0} (xs ys : List A) → EachOnce xs → EachOnce ys
    → ((x : A) → In x xs → In x ys → ⊥) → EachOnce (xs ++ ys)
once_append [] ys left right apart = right
once_append (x ∷ xs) ys left right apart = (
  (λ i. elim (in_either xs ys x i) [ inl j ↦ left.0 j | inr j ↦ apart x (inl refl) j ]),
  once_append xs ys left.1 right (λ z i j. apart z (inr i) j),
)

pub once_filtered : {A B : Type 0} (f : A → B) (test : A → Bool) (xs : List A) → EachOnce (map f xs)
    → EachOnce (map f (filter test xs))
once_filtered f test [] once = tt
once_filtered {A = A} {B = B} f test (x ∷ xs) once = by_test (once_filtered f test xs once.1) (test x)
  where
    fewer : (ys : List A) (y : B) → In y (map f (filter test ys)) → In y (map f ys)
    fewer ys y i =
        let r = in_map f (filter test ys) y i in
        subst (λ (z : B). In z (map f ys)) (sym r.2) (map_in f ys r.0 (in_filter test ys r.0 r.1).0)

    by_test : EachOnce (map f (filter test xs)) → (b : Bool)
        → EachOnce (map f (if b then x ∷ filter test xs else filter test xs))
    by_test rest true = ((λ i. once.0 (fewer xs (f x) i)), rest)
    by_test rest false = rest
