use Rattle.std.proofs.Common.{◌≡◌, filter, not, take}
use Rattle.host_leaves.specs.Dirtying.{is_named}
use Rattle.host_leaves.specs.Giving.{ids_of}
use Rattle.host_leaves.proofs.giving.to_return.Given as goal

abbrev pub invariant-loop-token : goal.invariant-loop-token
invariant-loop-token l =
    l.ids ≡ ids_of (filter (λ token. not (is_named l.giving token)) (take l.token-index l.tokens))
