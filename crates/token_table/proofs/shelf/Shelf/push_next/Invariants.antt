use Rattle.std.proofs.Common.{◌≡◌, ◌+◌}
use Rattle.token_table.proofs.Running.{IsRun}
use Rattle.token_table.proofs.shelf.Shelf.push_next.Given as goal

abbrev pub invariant-loop-need : goal.invariant-loop-need
invariant-loop-need l =
    (l.given ≡ l.fn.last + l.need-index) × IsRun l.initial.self l.fn.last l.host l.needs l.need-index l.self
