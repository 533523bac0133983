use Rattle.std.proofs.Common.{◌≡◌, ◌≤◌, ◌+◌, length}
use Rattle.base_types.specs.declared.limits.TheConstants.{SCRIPT_LINES_MAX}
use Rattle.script_words.specs.Lines.{lines_of}
use Rattle.script_reader.specs.Scripts.{judged_from}
use Rattle.script_reader.proofs.read.take_all.Given as goal

abbrev pub invariant-loop-rest : goal.invariant-loop-rest
invariant-loop-rest l = (l.number ≤ SCRIPT_LINES_MAX + 1) × (judged_from l.context l.disks l.number (lines_of l.rest) ≡ judged_from l.fn.context l.disks 1 (lines_of l.bytes))

abbrev pub decreases-loop-rest : goal.decreases-loop-rest
decreases-loop-rest l = length l.rest
