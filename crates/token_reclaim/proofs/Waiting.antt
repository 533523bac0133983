-- How long hosts are awaited.
use Rattle.std.proofs.Common.{◌≡◌, Bool, false, ◌==◌, ◌||◌, not, List, [], ◌∷◌, refl, sym, ap, ◌∙◌, inl, inr}
use Rattle.std.proofs.lemmas.Bool.{cases_Bool}
use Rattle.std.specs.List.{list_any, filter}
use Rattle.base_types.specs.declared.ids.HostId.{HostId}
use Rattle.token_reclaim.specs.Recoveries.{GraceLasts}

all_stay : (xs : List HostId) → filter (λ host. not false) xs ≡ xs
all_stay [] = refl
all_stay (x ∷ xs) = ap (λ l. x ∷ l) (all_stay xs)

module _ {X : Type 0} where
  two_filters : (p q : X → Bool) (xs : List X) →
      filter (λ x. not (q x)) (filter (λ x. not (p x)) xs) ≡ filter (λ x. not (p x || q x)) xs
  two_filters p q [] = refl
  two_filters p q (x ∷ xs) = elim (cases_Bool (p x)) [
    | inl goes ↦ rw goes (two_filters p q xs)
    | inr stays ↦ elim (cases_Bool (q x)) [
      | inl also ↦ simp (stays, also, two_filters p q xs)
      | inr neither ↦ simp (stays, neither, two_filters p q xs)
    ]
  ]

pub grace_lasts_lem : GraceLasts
grace_lasts_lem epoch began [] = ap (λ l. record { epoch = epoch; awaited = l }) (sym (all_stay began))
grace_lasts_lem epoch began (host ∷ hosts) =
    grace_lasts_lem epoch (filter (λ other. not (other.0 == host.0)) began) hosts
    ∙ ap (λ l. record { epoch = epoch; awaited = l })
    (two_filters (λ x. x.0 == host.0) (λ x. list_any (λ other. x.0 == other.0) hosts) began)
