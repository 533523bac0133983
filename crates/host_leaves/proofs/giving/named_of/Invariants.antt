use Rattle.std.proofs.Common.{◌≡◌, filter, take}
use Rattle.host_leaves.specs.Giving.{has_to_give}
use Rattle.host_leaves.proofs.giving.named_of.Given as goal

abbrev pub invariant-loop-token : goal.invariant-loop-token
invariant-loop-token l =
    l.giving ≡ filter (has_to_give l.tables.gives.gives l.spans l.length) (take l.token-index l.tokens)
