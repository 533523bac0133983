use Rattle.std.proofs.Common.{◌≡◌, ap, ◌∙◌}
use Rattle.hub_board.specs.Pendings.{Waiting}
use Rattle.hub_board.proofs.Turns.{turned}
use Rattle.hub_board.proofs.board.Board.turn.Goals as goal

pub returns-clause-turned : goal.returns-clause-turned
returns-clause-turned c =
    let handed : c.into_items.result ≡ c.args.steps.now.steps =
    c.into_items.ensures ∙ ap (λ (w : Waiting). w.steps) c.replace-handed.ensures.value in
    turned c.args.self.now c.prepare.new.self c.note.new.self c.give-given.new.self c.enter.new.self c.args.node
    c.args.steps.now.steps c.as_slice.result.now c.as_slice-2.result.now c.into_items.result c.in_ok-flags.flags
    c.as_slice-3.result.now c.give-given.result c.gift_in.result
    c.as_slice.ensures c.as_slice-2.ensures c.as_slice-3.ensures c.in_ok-flags.ensures.ok c.in_ok-flags.ensures.flags
    c.note.ensures c.give-given.ensures.given c.give-given.ensures.rest handed c.gift_in.ensures c.enter.ensures.turns
    c.enter.ensures.hub
