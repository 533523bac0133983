use Rattle.std.proofs.Common.{take}
use Rattle.disk_judge.specs.Marks.{AreMarks}
use Rattle.disk_judge.proofs.counts.marks_of.Given as goal

abbrev pub invariant-loop-one : goal.invariant-loop-one
invariant-loop-one l = AreMarks (take l.one-index l.uses) l.fn.blocks l.marks.items
