use Rattle.std.proofs.Common.{◌≡◌, take}
use Rattle.host_cache.specs.Holding.{used_each}
use Rattle.host_cache.proofs.cache.Cache.are_alike.Given as goal

-- those so far bring the same tokens to the front
abbrev pub invariant-loop-index : goal.invariant-loop-index
invariant-loop-index l =
    used_each (take l.index l.others) l.self.held ≡ used_each (take l.index l.ones) l.self.held
