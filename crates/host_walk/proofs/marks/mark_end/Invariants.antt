use Rattle.std.proofs.Common.{◌≡◌, take}
use Rattle.host_cache.specs.Seen.{seen}
use Rattle.host_walk.specs.Marks.{used_all}
use Rattle.host_walk.proofs.marks.mark_end.Given as goal

abbrev pub invariant-loop-need : goal.invariant-loop-need
invariant-loop-need l = seen l.cache ≡ used_all (take l.need-index l.needs) (seen l.initial.cache)
