use Rattle.std.proofs.Common.{◌≡◌, take}
use Rattle.service_starts.specs.Told.{rooms_of}
use Rattle.service_starts.proofs.start.rooms_of.Given as goal

-- those so far
abbrev pub invariant-loop-told : goal.invariant-loop-told
invariant-loop-told l = l.rooms ≡ rooms_of (take l.told-index l.all)
