use Rattle.std.proofs.Common.{◌≡◌, take}
use Rattle.host_cache.specs.Holding.{used_each}
use Rattle.host_cache.specs.Seen.{seen}
use Rattle.host_cache.proofs.cache.Cache.mark_all.Given as goal

-- the needs so far were used
abbrev pub invariant-loop-need : goal.invariant-loop-need
invariant-loop-need l =
    seen l.self ≡ record (seen l.initial.self) { held = used_each (take l.need-index l.needs) l.initial.self.held }
