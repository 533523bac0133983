use Rattle.std.proofs.Common.{◌≡◌, ◌++◌, ◌+◌, drop}
use Rattle.token_table.specs.Tables.{tokens_from}
use Rattle.token_table.proofs.shelf.tokens_from.Given as goal

abbrev pub invariant-loop-need : goal.invariant-loop-need
invariant-loop-need l =
    (l.given ≡ l.fn.last + l.need-index) × (l.tokens ++ tokens_from l.server l.epoch l.given l.host
    (drop l.need-index l.needs) ≡ tokens_from l.server l.epoch l.fn.last l.host l.needs)
