use Rattle.std.proofs.Common.{◌≡◌, ◌++◌}
use Rattle.std.specs.Map.{values_of}
use Rattle.host_cache.specs.Holding.{tokens_of}
use Rattle.host_cache.proofs.order.Order.tokens.Given as goal

-- the tokens so far, and those of what is left, are all of them
abbrev pub invariant-loop-held : goal.invariant-loop-held
invariant-loop-held l =
    (goal.iterator-loop-held).can_next l.entries × (goal.iterator-loop-held).is_finite l.entries
    × (l.tokens ++ tokens_of (values_of l.entries) ≡ tokens_of l.self)
