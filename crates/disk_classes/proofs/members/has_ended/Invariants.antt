use Rattle.std.proofs.Common.{take}
use Rattle.disk_classes.specs.Notes.{AreEndedAll}
use Rattle.disk_classes.proofs.members.has_ended.Given as goal

abbrev pub invariant-loop-number : goal.invariant-loop-number
invariant-loop-number l = AreEndedAll l.noted (take l.number-index l.number-items)
