use Rattle.std.proofs.Common.{◌≡◌, length, filter}
use Rattle.std.specs.Map.{values_of}
use Rattle.host_cache.specs.Holding.{is_idle, last_of}
use Rattle.host_cache.proofs.order.Order.oldest.Given as goal

-- the last that isn't in use is the last among what is left
abbrev pub invariant-loop-held : goal.invariant-loop-held
invariant-loop-held l =
    last_of (filter is_idle (values_of l.entries)) ≡ last_of (filter is_idle l.self)

abbrev pub decreases-loop-held : goal.decreases-loop-held
decreases-loop-held l = length l.entries
