use Rattle.std.proofs.Common.{sym, ap, ◌∙◌, subst}
use Rattle.hub_cell.specs.Lists.{entries}
use Rattle.hub_turns.specs.Meetings.{AreSent, IsUsed}
use Rattle.hub_turns.specs.Views.{NodeView}
use Rattle.hub_turns.proofs.Does.{rests, used}
use Rattle.hub_turns.proofs.pass.NodePass.take_turn.Goals as goal

pub invariant_of-self : goal.invariant_of-self
invariant_of-self g c =
    let is = c.requires.node ∙ sym (ap (λ (v : NodeView). v.node) c.self.view_is) in
    let held = rests c.args.cell.now.first c.self.inside.node c.self.inside.pass c.turn.new.pass c.args.turn.now
    c.turn.new.work is c.turn.ensures (c.self.invariant.0, c.self.invariant.1) in
    (held.0, held.1, c.self.invariant.2)

pub returns : goal.returns
returns g c =
    let is = c.requires.node ∙ sym (ap (λ (v : NodeView). v.node) c.self.view_is) in
    let now : NodeView = record {
      node = c.self.inside.node;
      hub = c.turn.new.pass.cell;
      seen = c.turn.new.pass.seen;
      made = entries c.turn.new.pass.made;
    } in
    subst (λ v. IsUsed c.args.cell.now.first.board.hub c.args.cell.now.first.roster v now c.args.turn.now
    c.turn.new.work) c.self.view_is
    (used c.args.cell.now.first c.self.inside.node c.self.inside.pass c.turn.new.pass c.args.turn.now
    c.turn.new.work is c.turn.ensures)

pub turn-requires-clause-ready : goal.turn-requires-clause-ready
turn-requires-clause-ready g c κs = λ w value stays seen.
    (c.requires.ready, subst (λ r. AreSent r c.args.turn.now.steps.steps) (sym stays.roster) c.requires.sound)
