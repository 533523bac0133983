use Rattle.std.proofs.Common.{rules, arith, ap, refl, subst}
use Rattle.std.proofs.lemmas.Grind.{common_steps}
use Rattle.hub_cell.specs.Lists.{GrowsByOne}
use Rattle.hub_turns.specs.Meetings.{Does, DoesIn}
use Rattle.hub_turns.specs.Views.{Met}
use Rattle.hub_turns.proofs.Does.{does_grows, nothing_done, same_stays}
use Rattle.hub_turns.proofs.meeting.HubTurnWorkMeeting.work.Goals as goal

pub returns-clause-grows : goal.returns-clause-grows
returns-clause-grows c =
    let done : Does c.args.self.now c.value.inside.board c.match-turn.self c.turn.new.self =
    first_of (search rules, grind (arith, common_steps)) in
    subst (λ l. GrowsByOne l c.turn.new.self.turns) (ap (λ (m : Met). m.board.turns) c.value.view_is)
    (does_grows c.args.self.now c.match-turn.self c.value.inside.board c.turn.new.self done)

pub returns-clause-stays : goal.returns-clause-stays
returns-clause-stays c = λ first o.
    let done : Does c.args.self.now c.value.inside.board c.match-turn.self c.turn.new.self =
    first_of (search rules, grind (arith, common_steps)) in
    let now : Met = record { board = c.turn.new.self; roster = c.value.inside.roster } in
    let does : DoesIn c.args.self.now c.args.value.now c.match-turn.self now = record {
      done = subst (λ b. Does c.args.self.now b c.match-turn.self c.turn.new.self)
          (ap (λ (m : Met). m.board) c.value.view_is) done;
      roster = ap (λ (m : Met). m.roster) c.value.view_is;
    } in
    same_stays first c.args.value.now now c.args.self.now c.match-turn.self does c.requires.1 o

pub returns-then-is_idle-clause-grows : goal.returns-then-is_idle-clause-grows
returns-then-is_idle-clause-grows c =
    let idle = c.is_idle.ensures c.if-is_idle.true in
    does_grows c.args.self.now c.args.self.now c.args.value.now.board c.args.value.now.board
    (nothing_done c.args.self.now c.args.value.now.board c.requires.0 idle.0 idle.1)

pub returns-then-is_idle-clause-done : goal.returns-then-is_idle-clause-done
returns-then-is_idle-clause-done c =
    let idle = c.is_idle.ensures c.if-is_idle.true in
    record {
      done = nothing_done c.args.self.now c.args.value.now.board c.requires.0 idle.0 idle.1;
      roster = refl;
    }
