use Rattle.std.proofs.Common.{◌≡◌, drop}
use Rattle.server_takes.specs.Taking.{all_returned}
use Rattle.server_takes.proofs.giving.return_all.Given as goal

abbrev pub invariant-loop-id : goal.invariant-loop-id
invariant-loop-id l = all_returned l.tokens l.host (drop l.id-index l.ids) ≡ all_returned l.initial.tokens l.host l.ids
