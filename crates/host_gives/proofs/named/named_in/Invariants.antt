use Rattle.std.proofs.Common.{take}
use Rattle.host_gives.specs.Named.{AreNamed}
use Rattle.host_gives.proofs.named.named_in.Given as goal

abbrev pub invariant-loop-slot : goal.invariant-loop-slot
invariant-loop-slot l = AreNamed (take l.slot-index l.slots) l.named
