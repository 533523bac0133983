use Rattle.std.proofs.Common.{◌≡◌, ap, subst, sym}
use Rattle.hub_board.specs.Pendings.{Waiting}
use Rattle.hub_turns.specs.Meetings.{AreSent, HasPassed, IsGivenSound, IsRefused}
use Rattle.hub_turns.specs.Views.{HubView, NodeView}
use Rattle.hub_turns.proofs.Does.{between, given_one, given_sound, hub_of, passed, popped_is, refused, same_pass}
use Rattle.hub_turns.proofs.Does.{stays_pass}
use Rattle.hub_turns.proofs.hub.Hub.turn.Goals as goal

pub returns-in_default-clause-err : goal.returns-in_default-clause-err
returns-in_default-clause-err g c = stays_pass c.args.pass.now c.take_room.new.self c.take_room.ensures.same

pub returns-in_default-clause-same : goal.returns-in_default-clause-same
returns-in_default-clause-same g c = (
  ap (λ (p : NodeView). p.node) c.take_room.ensures.same,
  ap (λ (p : NodeView). p.hub) c.take_room.ensures.same,
)

pub returns-then-refused-clause-err : goal.returns-then-refused-clause-err
returns-then-refused-clause-err g c =
    let hub = hub_of c.self.inside.cell in
    between IsRefused c.args.pass.now c.take_room.new.self c.take_turn.new.self c.put_room.new.self
    c.take_room.ensures.same c.put_room.ensures (refused hub _ _ _ _ c.take_turn.ensures c.if-refused.true)

pub returns-clause-ok : goal.returns-clause-ok
returns-clause-ok g c =
    let hub = hub_of c.self.inside.cell in
    let one = given_one hub _ _ _ _ c.take_turn.ensures c.if-refused.false in
    let first = popped_is _ _ c.pop-first.result _ _ c.pop-first.ensures.items c.take_turn.new.turn.given.ok.0
    c.pop-first.new.self.ok.0 c.pop-first.ensures.len c.pop-first.ensures.variant one in
    between (λ p q. HasPassed c.args.self.now p q c.args.steps.now.steps c.pop-first.result) c.args.pass.now
    c.take_room.new.self c.take_turn.new.self c.put_room.new.self c.take_room.ensures.same c.put_room.ensures
    (subst (λ h. HasPassed h c.take_room.new.self c.take_turn.new.self c.args.steps.now.steps c.pop-first.result)
    c.self.view_is
    (passed hub _ _ _ _ c.take_turn.ensures c.node.ensures c.if-refused.false c.args.steps.now.steps
    (ap (λ (w : Waiting). w.steps) c.replace.ensures.value) c.pop-first.result first))

pub returns-clause-same : goal.returns-clause-same
returns-clause-same g c =
    between (λ (p q : NodeView). (q.node ≡ p.node) × (q.hub ≡ p.hub)) c.args.pass.now c.take_room.new.self
    c.take_turn.new.self c.put_room.new.self c.take_room.ensures.same c.put_room.ensures
    (same_pass _ _ _ _ _ _ c.take_turn.ensures)

pub returns-then-refused-clause-same : goal.returns-then-refused-clause-same
returns-then-refused-clause-same g c =
    between (λ (p q : NodeView). (q.node ≡ p.node) × (q.hub ≡ p.hub)) c.args.pass.now c.take_room.new.self
    c.take_turn.new.self c.put_room.new.self c.take_room.ensures.same c.put_room.ensures
    (same_pass _ _ _ _ _ _ c.take_turn.ensures)

pub take_turn-requires-clause-sound : goal.take_turn-requires-clause-sound
take_turn-requires-clause-sound g c =
    subst (λ ss. AreSent c.self.inside.cell.first.roster ss) (sym
    (ap (λ (w : Waiting). w.steps) c.replace.ensures.value))
    (subst (λ r. AreSent r c.args.steps.now.steps) (sym (ap (λ (h : HubView). h.roster) c.self.view_is))
    c.requires.sound)

pub returns-clause-sound : goal.returns-clause-sound
returns-clause-sound g c =
    let hub = hub_of c.self.inside.cell in
    let one = given_one hub _ _ _ _ c.take_turn.ensures c.if-refused.false in
    let first = popped_is _ _ c.pop-first.result _ _ c.pop-first.ensures.items c.take_turn.new.turn.given.ok.0
    c.pop-first.new.self.ok.0 c.pop-first.ensures.len c.pop-first.ensures.variant one in
    let sent = subst (λ ss. AreSent c.self.inside.cell.first.roster ss)
    (sym (ap (λ (w : Waiting). w.steps) c.replace.ensures.value))
    (subst (λ r. AreSent r c.args.steps.now.steps) (sym (ap (λ (h : HubView). h.roster) c.self.view_is))
    c.requires.sound) in
    subst (λ r. IsGivenSound r c.pop-first.result) (ap (λ (h : HubView). h.roster) c.self.view_is)
    (given_sound _ _ _ _ _ _ c.take_turn.ensures c.if-refused.false sent c.pop-first.result first)
