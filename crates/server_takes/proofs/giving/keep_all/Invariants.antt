use Rattle.std.proofs.Common.{◌≡◌, drop}
use Rattle.server_takes.specs.Taking.{all_kept}
use Rattle.server_takes.proofs.giving.keep_all.Given as goal

abbrev pub invariant-loop-id : goal.invariant-loop-id
invariant-loop-id l = all_kept l.tokens l.host (drop l.id-index l.ids) ≡ all_kept l.initial.tokens l.host l.ids
