-- Lists of what is in use, each with the label of a run that it stands for.
use Rattle.std.proofs.Common.{Bool, List, drop, inl, inr, refl, subst, sym, take, true, ℕ, ◌++◌, ◌∷◌, ◌≡◌, ◌⊎◌}
use Rattle.std.proofs.lemmas.List.{take-append-drop}
use Rattle.std.specs.Prelude.{filter, insert, ◌↔◌}
use Rattle.base_types.specs.declared.ids.HostId.{HostId}
use Rattle.run_history.proofs.Labels.{filter_in, in_filter}
use Rattle.run_contents.proofs.WriteLooks.{in_back, in_front}
use Rattle.run_rules.specs.Past.{In}
use Rattle.run_rules.specs.declared.step.Labelled.{Labelled}
use Rattle.run_history.proofs.Rows.{of_both}

-- what stands in a list with one element more
module _ {X : Type 0} (xs : List X) (i : ℕ) (new : X) where
  abbrev parts : take i xs ++ drop i xs ≡ xs
  parts = take-append-drop i xs

  in_insert : (y : X) → In y (insert xs i new) → (y ≡ new) ⊎ In y xs
  in_insert y k =
      elim (of_both y (take i xs) (new ∷ drop i xs) k) [
        | inl j ↦ inr (subst (In y) parts (in_front y (take i xs) (drop i xs) j))
        | inr j ↦ elim j [
          | inl e ↦ inl e
          | inr d ↦ inr (subst (In y) parts (in_back y (take i xs) (drop i xs) d))
        ]
      ]

  insert_new : In new (insert xs i new)
  insert_new = in_back new (take i xs) (new ∷ drop i xs) (inl refl)

  insert_old : (y : X) → In y xs → In y (insert xs i new)
  insert_old y k =
      elim (of_both y (take i xs) (drop i xs) (subst (In y) (sym parts) k)) [
        | inl j ↦ in_front y (take i xs) (new ∷ drop i xs) j
        | inr j ↦ in_back y (take i xs) (new ∷ drop i xs) (inr j)
      ]

-- each element of a list stands for a label, and each label for an element
module _ {X : Type 0} (host_of : X → HostId) (Is : X → Labelled → Type 0) where
  abbrev pub Tied : (HostId → Labelled → Type 0) → List X → Type 0
  Tied had xs = (x : X) → In x xs ↔ ((u : Labelled) × had (host_of x) u × Is x u)

  module _ (had has : HostId → Labelled → Type 0) (xs : List X) (old : Tied had xs) where
    pub tied_same : ((x : X) (u : Labelled) → Is x u → had (host_of x) u → has (host_of x) u)
        → ((x : X) (u : Labelled) → Is x u → has (host_of x) u → had (host_of x) u) → Tied has xs
    tied_same to back x = (
      λ i. (let k = (old x).0 i in (k.0, to x k.0 k.2 k.1, k.2)),
      λ k. (old x).1 (k.0, back x k.0 k.2 k.1, k.2),
    )

    -- those that pass a test stay
    pub tied_without : (test : X → Bool)
        → ((x : X) (u : Labelled) → Is x u → had (host_of x) u → In x xs → test x ≡ true → has (host_of x) u)
        → ((x : X) (u : Labelled) → Is x u → has (host_of x) u → had (host_of x) u)
        → ((x : X) (u : Labelled) → Is x u → has (host_of x) u → In x xs → test x ≡ true) → Tied has (filter test xs)
    tied_without test to back passes x = (
      λ i. (let p = in_filter test xs x i in let k = (old x).0 p.0 in (k.0, to x k.0 k.2 k.1 p.0 p.1, k.2)),
      λ k. (let i = (old x).1 (k.0, back x k.0 k.2 k.1, k.2) in filter_in test xs x i (passes x k.0 k.2 k.1 i)),
    )

    -- one comes
    pub tied_with : (at : ℕ) (new : X) (u : Labelled) → has (host_of new) u → Is new u
        → ((x : X) (w : Labelled) → Is x w → had (host_of x) w → has (host_of x) w)
        → ((x : X) (w : Labelled) → Is x w → has (host_of x) w → (x ≡ new) ⊎ had (host_of x) w)
        → Tied has (insert xs at new)
    tied_with at new u now is to back x = (
      λ i. elim (in_insert xs at new x i) [
        | inl e ↦ (u, subst (λ (y : X). has (host_of y) u) (sym e) now, subst (λ (y : X). Is y u) (sym e) is)
        | inr j ↦ (let k = (old x).0 j in (k.0, to x k.0 k.2 k.1, k.2))
      ],
      λ k. elim (back x k.0 k.2 k.1) [
        | inl e ↦ subst (λ (y : X). In y (insert xs at new)) (sym e) (insert_new xs at new)
        | inr had ↦ insert_old xs at new x ((old x).1 (k.0, had, k.2))
      ],
    )
