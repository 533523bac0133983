use Rattle.std.proofs.Common.{◌≡◌, take}
use Rattle.host_leaves.specs.Revoking.{of_file}
use Rattle.host_leaves.proofs.revoking.tokens_of.Given as goal

abbrev pub invariant-loop-token : goal.invariant-loop-token
invariant-loop-token l = l.here ≡ of_file l.fid (take l.token-index l.tokens)
