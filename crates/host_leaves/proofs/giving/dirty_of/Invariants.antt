use Rattle.std.proofs.Common.{◌≡◌, filter, take}
use Rattle.host_leaves.specs.Dirtying.{is_dirty_under}
use Rattle.host_leaves.proofs.giving.dirty_of.Given as goal

abbrev pub invariant-loop-token : goal.invariant-loop-token
invariant-loop-token l = l.tokens ≡ filter (is_dirty_under l.spans l.length) (take l.token-index l.held)
