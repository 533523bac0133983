use Rattle.std.proofs.Common.{◌≡◌, drop}
use Rattle.server_says.specs.Revoking.{all_revoked}
use Rattle.server_says.proofs.revoking.mark_all.Given as goal

abbrev pub invariant-loop-id : goal.invariant-loop-id
invariant-loop-id l = all_revoked l.manager (drop l.id-index l.ids) ≡ all_revoked l.initial.manager l.ids
