use Rattle.std.proofs.Common.{◌≡◌, [], length}
use Rattle.script_words.specs.Lines.{lines_of}
use Rattle.script_lines.specs.Clones.{clones_from}
use Rattle.script_lines.proofs.clones.clones_of.Given as goal

abbrev pub invariant-loop-rest : goal.invariant-loop-rest
invariant-loop-rest l = clones_from l.clones (lines_of l.rest) ≡ clones_from [] (lines_of l.bytes)

abbrev pub decreases-loop-rest : goal.decreases-loop-rest
decreases-loop-rest l = length l.rest
