-- What becomes of a seat, over several turns.
use Rattle.std.proofs.Common.{◌≡◌, ◌<◌, List, Option, None, Some, length, get_or, refl, sym, ◌∙◌, subst, arith}
use Rattle.hub_turns.specs.Views.{HubView}
use Rattle.run_rules.specs.declared.step.Step.{Step}
use Rattle.hub_laws.specs.Keeping.{Round}
use Rattle.hub_node.specs.Nodes.{Part}
use Rattle.hub_drive.specs.Seats.{EachAt, HasGone, IsHere, PairsAt}
use Rattle.hub_node.specs.declared.node.NodeFault.{NodeFault}
use Rattle.hub_drive.specs.declared.seat.Seat.{Seat}

module _ {N : Type 0} (stands : Part → N → List Round → List Step → Type 0) (stays : N → N → Type 0)
    (failed : NodeFault → N → N → Type 0) (broken : Part → N → List Round → Type 0) (hub : HubView)
    (so : (a : N) → stays a a)
    (on : (a b c : N) → stays a b → stays b c → stays a c)
    (fails_on : (fault : NodeFault) (a b c : N) → stays a b → failed fault b c → failed fault a c) where
  pub gone_so : (s : Seat N) → HasGone stands stays failed broken hub s s
  gone_so s = record {
    node_is = refl;
    kept = (λ run h. h);
    stayed = (λ well. so s.node);
    fails = (λ well fault e. let clash = sym well ∙ e in absurd (cc));
    frozen = (λ ill. (refl, refl));
    held = (λ run at h. h);
  }

  stays_by : (a b c : Seat N) (fault : Option NodeFault) → b.fault ≡ fault → HasGone stands stays failed broken hub a b
      → HasGone stands stays failed broken hub b c → c.fault ≡ None → stays a.node c.node
  stays_by a b c None e h k well = on a.node b.node c.node (h.stayed e) (k.stayed well)
  stays_by a b c (Some fault) e h k well =
      let ill : b.fault ≡ None → ⊥ = λ x. (let clash = sym x ∙ e in absurd (cc)) in
      let same = k.frozen ill in
      let clash = sym e ∙ sym same.1 ∙ well in absurd (cc)

  fails_by : (a b c : Seat N) (fault : Option NodeFault) → b.fault ≡ fault → HasGone stands stays failed broken hub a b
      → HasGone stands stays failed broken hub b c → a.fault ≡ None → (f : NodeFault) → c.fault ≡ Some f
      → failed f a.node c.node
  fails_by a b c None e h k well f is = fails_on f a.node b.node c.node (h.stayed e) (k.fails e f is)
  fails_by a b c (Some fault) e h k well f is =
      let ill : b.fault ≡ None → ⊥ = λ x. (let clash = sym x ∙ e in absurd (cc)) in
      let same = k.frozen ill in
      subst (failed f a.node) (sym same.0) (h.fails well f (sym same.1 ∙ is))

  pub gone_on : (a b c : Seat N) → HasGone stands stays failed broken hub a b → HasGone stands stays failed broken
      hub b c
      → HasGone stands stays failed broken hub a c
  gone_on a b c h k = record {
    node_is = k.node_is ∙ h.node_is;
    kept = (λ run at. k.kept run (h.kept run at));
    stayed = stays_by a b c b.fault refl h k;
    fails = fails_by a b c b.fault refl h k;
    frozen = (λ ill.
        let first = h.frozen ill in
        let second = k.frozen (λ e. ill (sym first.1 ∙ e)) in (second.0 ∙ first.0, second.1 ∙ first.1));
    held = (λ run at x. k.held run (h.kept run at) (h.held run at x));
  }

-- a seat that was somewhere is there still
pub here_on : {N : Type 0} (stands : Part → N → List Round → List Step → Type 0) (stays : N → N → Type 0)
    (failed : NodeFault → N → N → Type 0) (broken : Part → N → List Round → Type 0) (hub : HubView) (a b : Seat N)
    → IsHere stands hub a
    → HasGone stands stays failed broken hub a b → IsHere stands hub b
here_on stands stays failed broken hub a b h k = record { run = h.run; is_in = k.kept h.run h.is_in }

pub each_here : {N : Type 0} (stands : Part → N → List Round → List Step → Type 0) (stays : N → N → Type 0)
    (failed : NodeFault → N → N → Type 0) (broken : Part → N → List Round → Type 0) (hub : HubView)
    (olds news : List (Seat N)) → EachAt (IsHere stands hub) olds
    → PairsAt (HasGone stands stays failed broken hub) olds news → EachAt (IsHere stands hub) news
each_here stands stays failed broken hub olds news here gone i d lt =
    let n = gone.count in
    let there : i < length olds = omega (arith, lt, n) in
    here_on stands stays failed broken hub (get_or olds i d) (get_or news i d) (here i d there) (gone.each i d there)
