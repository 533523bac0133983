use Rattle.std.proofs.Common.{◌≡◌, ◌++◌, drop}
use Rattle.server_says.specs.Revoking.{ids_beside}
use Rattle.server_says.proofs.revoking.ids_beside.Given as goal

abbrev pub invariant-loop-token : goal.invariant-loop-token
invariant-loop-token l = l.ids ++ ids_beside l.first (drop l.token-index l.tokens) ≡ ids_beside l.first l.tokens
