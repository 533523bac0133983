use Rattle.std.proofs.Common.{◌≡◌, take}
use Rattle.host_leaves.specs.Revoking.{pinned}
use Rattle.host_leaves.proofs.revoking.pin_all.Given as goal

abbrev pub invariant-loop-token : goal.invariant-loop-token
invariant-loop-token l = l.uses ≡ pinned l.initial.uses (take l.token-index l.tokens)
