use Rattle.std.proofs.Common.{◌≡◌, ◌++◌, drop}
use Rattle.server_tables.specs.Claims.{left_out_of}
use Rattle.server_tables.proofs.recovering.Recovering.left_out.Given as goal

abbrev pub invariant-loop-token : goal.invariant-loop-token
invariant-loop-token l =
    l.left_out ++ left_out_of l.self.given_up l.host (drop l.token-index l.token-items)
    ≡ left_out_of l.self.given_up l.host l.token-items
