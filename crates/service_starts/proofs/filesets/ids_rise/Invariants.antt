use Rattle.std.proofs.Common.{◌≡◌, length}
use Rattle.tree_answers.specs.WellFormed.{ids_rise}
use Rattle.service_starts.proofs.filesets.ids_rise.Given as goal

-- it is so of all if it is so of those that are left
abbrev pub invariant-loop-first : goal.invariant-loop-first
invariant-loop-first l = ids_rise l.rest ≡ ids_rise l.filesets

abbrev pub decreases-loop-first : goal.decreases-loop-first
decreases-loop-first l = length l.rest
