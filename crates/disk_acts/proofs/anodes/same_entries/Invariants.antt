use Rattle.std.proofs.Common.{◌≡◌, take}
use Rattle.disk_acts.proofs.anodes.same_entries.Given as goal

abbrev pub invariant-loop-i : goal.invariant-loop-i
invariant-loop-i l = take l.i l.was ≡ take l.i l.is
