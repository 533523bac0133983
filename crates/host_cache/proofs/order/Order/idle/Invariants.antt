use Rattle.std.proofs.Common.{◌≡◌, ◌+◌, length, filter}
use Rattle.std.specs.Map.{values_of}
use Rattle.host_cache.specs.Holding.{is_idle}
use Rattle.host_cache.proofs.order.Order.idle.Given as goal

-- those that aren't in use so far, and those among what is left, are all of them
abbrev pub invariant-loop-held : goal.invariant-loop-held
invariant-loop-held l =
    (goal.iterator-loop-held).can_next l.entries × (goal.iterator-loop-held).is_finite l.entries
    × (l.count + length (filter is_idle (values_of l.entries)) ≡ length (filter is_idle l.self))
