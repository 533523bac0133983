use Rattle.std.proofs.Common.{ap, subst, ◌∙◌}
use Rattle.hub_board.specs.Turning.{IsOf}
use Rattle.hub_turns.specs.Views.{HubView, Met}
use Rattle.hub_turns.proofs.Passes.{all_seats, ended}
use Rattle.hub_turns.proofs.hub.Hub.close.Goals as goal

pub close-requires-after_bounds : goal.close-requires-after_bounds
close-requires-after_bounds c κs =
    all_seats c.self.inside.cell c.args.self c.args.passes.items c.bare_of.result.items
    (ap (λ (h : HubView). h.id) c.self.view_is) (ap (λ (h : HubView). h.nodes) c.self.view_is) c.bare_of.ensures
    c.requires.passes

pub returns : goal.returns
returns c =
    ended c.args.self c.args.passes.items c.bare_of.result.items c.in-Ok.meeting.board c.into_turns.result
    c.bare_of.ensures
    (subst (λ first. IsOf first c.in-Ok.meeting.board) (ap (λ (h : HubView). h.first) c.self.view_is)
    c.in-Ok.ensures.0.board)
    c.in-Ok.ensures.1 (c.into_turns.ensures ∙ ap (λ (m : Met). m.board.turns) c.meeting.view_is)
