-- A host without an open call is done in a run that rests.
use Rattle.std.proofs.Common.{List, [], ap, inl, inr, refl, sym, ℕ, ◌∙◌, ◌∷◌, ◌≡◌, ◌⊎◌}
use Rattle.base_types.specs.declared.ids.ServerId.{ServerId}
use Rattle.message_types.specs.declared.message.Body.TheVariants.{Bye}
use Rattle.message_types.specs.declared.message.Message.{Message}
use Rattle.run_rules.specs.Messages.{ComesIn, HasBye}
use Rattle.run_rules.specs.Runs.{past_of}
use Rattle.run_rules.specs.Steps.{steps_of_host}
use Rattle.run_rules.specs.declared.step.Cause.{Cause}
use Rattle.run_rules.specs.declared.step.Cause.TheVariants.{End, Evict, Flushed, Freight, Lapse}
use Rattle.run_rules.specs.declared.step.Cause.TheVariants.{Line, Message as Came, Restart}
use Rattle.run_rules.specs.declared.step.Step.{Step}
use Rattle.run_goes_on.proofs.Leaving.{byes_are_answered}
use Rattle.run_goes_on.proofs.Resting.{hosts_come_to_their_end, one}
use Rattle.run_goes_on.specs.Resting.{HostsAreDone}

-- # Whether a server has said Bye
module _ (v : ServerId) where
  abbrev ItComes : Step → Type 0
  ItComes s = (e n : ℕ) × ComesIn s v e n Bye

  comes : (s : Step) → ItComes s ⊎ (ItComes s → ⊥)
  comes s = go s.cause refl
    where
      go : (c : Cause) → s.cause ≡ c → ItComes s ⊎ (ItComes s → ⊥)
      go (Came m) is = elim (one v m) [
        | inl k ↦ inl (m.epoch, m.moves, (m, is, k.0, refl, refl, k.1))
        | inr differs ↦ inr (λ k. (
            let z : Came m ≡ Came k.2.0 = sym is ∙ k.2.1 in
            let same : m ≡ k.2.0 = cc in
            differs (ap (λ (x : Message). x.server) same ∙ k.2.2, ap (λ (x : Message). x.body) same ∙ k.2.5)
            ))
      ]
      go (Restart line) is = inr (λ k. (let z : Restart line ≡ Came k.2.0 = sym is ∙ k.2.1 in cc))
      go Flushed is = inr (λ k. (let z : Flushed ≡ Came k.2.0 = sym is ∙ k.2.1 in cc))
      go (Line line) is = inr (λ k. (let z : Line line ≡ Came k.2.0 = sym is ∙ k.2.1 in cc))
      go Lapse is = inr (λ k. (let z : Lapse ≡ Came k.2.0 = sym is ∙ k.2.1 in cc))
      go Evict is = inr (λ k. (let z : Evict ≡ Came k.2.0 = sym is ∙ k.2.1 in cc))
      go (Freight freight) is = inr (λ k. (let z : (Freight freight) ≡ Came k.2.0 = sym is ∙ k.2.1 in cc))
      go End is = inr (λ k. (let z : End ≡ Came k.2.0 = sym is ∙ k.2.1 in cc))

  has_bye : (A : List Step) → HasBye A v ⊎ (HasBye A v → ⊥)
  has_bye [] = inr (λ k. elim k [ ])
  has_bye (s ∷ A) = elim (comes s) [
    | inl k ↦ inl (inl k)
    | inr quiet ↦ elim (has_bye A) [
      | inl k ↦ inl (inr k)
      | inr none ↦ inr (λ k. elim k [ inl x ↦ quiet x | inr x ↦ none x ])
    ]
  ]

pub hosts_are_done : HostsAreDone
hosts_are_done script journal q rests awaits host part live shut done =
    let end = hosts_come_to_their_end script journal q rests awaits host part live shut done in (
      end.gone,
      inr (λ v greeted. elim (has_bye v (steps_of_host host (past_of journal))) [
        | inl bye ↦ bye
        | inr none ↦
            absurd (byes_are_answered script journal q host live v (end.byes v greeted) none)
      ]),
    )
