-- The passes of the nodes of the ring.
use Rattle.std.proofs.Common.{◌≡◌, ⊎_elim, List, [], ◌∷◌, map, length, refl, sym, ap, ◌∙◌, subst}
use Rattle.std.specs.List.{All}
use Rattle.std.specs.Prelude.{IfOk, Result, Ok, Err}
use Rattle.std.proofs.lemmas.List.{length-map}
use Rattle.std.proofs.lemmas.List.Elements.{All-cons, All-head, All-map, All-nil, All-tail}
use Rattle.hub_turns.specs.Meetings.{AreAllPasses}
use Rattle.hub_turns.specs.Views.{HubView, NodeView}
use Rattle.tree_calls.specs.declared.roster.Roster.{Roster}
use Rattle.message_types.specs.Soundness.{IsSound}
use Rattle.message_types.specs.declared.message.Message.{Message}
use Rattle.run_rules.specs.Past.{In}
use Rattle.run_rules.specs.declared.step.Step.{Step}
use Rattle.hub_tests.specs.Rings.{AreHeard, IsRing}
use Rattle.hub_tests.specs.declared.member.Member.{Member}

pub none_heard : (steps : List Step) → steps ≡ [] → AreHeard steps
none_heard steps none = record {
  sound = (λ roster ring s i. absurd (subst (In s) none i));
}

pub one_heard : (s : Step) (steps : List Step) → steps ≡ s ∷ []
    → ((roster : Roster) → IsRing roster → (m : Message) → In m s.sent → IsSound roster m) → AreHeard steps
one_heard s steps one h = record {
  sound = (λ roster ring x i m j. h roster ring m
      (subst (λ (y : Step). In m y.sent) (⊎_elim (λ (e : x ≡ s). e) (λ (none : In x []). absurd none) (subst (In x) one i)) j));
}

pub ok_heard : {A E : Type 0} (result : Result A E) (steps_in : A → List Step) (s : Step)
    → IfOk result (λ p. steps_in p ≡ s ∷ [])
    → ((roster : Roster) → IsRing roster → (m : Message) → In m s.sent → IsSound roster m)
    → IfOk result (λ p. AreHeard (steps_in p))
ok_heard (Ok p) steps_in s one h = one_heard s (steps_in p) one h
ok_heard (Err e) steps_in s one h = one

abbrev pass_of : Member → NodeView
pass_of m = m.pass

module _ (hub : HubView) where
  abbrev Ours : NodeView → Type 0
  Ours p = p.hub ≡ hub.id

  abbrev HasOurs : Member → Type 0
  HasOurs m = m.pass.hub ≡ hub.id

  pub ours_of : (members : List Member) (passes : List NodeView) → map (λ (m : Member). m.pass) members ≡ passes
      → All Ours passes → All HasOurs members
  ours_of [] passes are h = All-nil HasOurs
  ours_of (m ∷ ms) passes are h =
      let all = subst (All Ours) (sym are) h in
      All-cons HasOurs m ms (All-head Ours m.pass (map pass_of ms) all)
      (ours_of ms (map pass_of ms) refl (All-tail Ours m.pass (map pass_of ms) all))

  -- they are all passes as before
  pub all_of : (members worked : List Member) (before passes : List NodeView) → AreAllPasses hub before
      → map (λ (m : Member). m.pass) members ≡ before → length worked ≡ length members → All HasOurs worked
      → passes ≡ map (λ (m : Member). m.pass) worked → AreAllPasses hub passes
  all_of members worked before passes h were count each are = record {
    of_hub = subst (All Ours) (sym are) (All-map Ours pass_of worked each);
    all = ap length are ∙ length-map worked pass_of ∙ count ∙ sym (length-map members pass_of) ∙ ap length were ∙ h.all;
  }
