use Rattle.std.proofs.Common.{◌≡◌, length}
use Rattle.tree_answers.specs.WellFormed.{names_differ}
use Rattle.service_starts.proofs.filesets.names_differ.Given as goal

-- it is so of all if it is so of those that are left
abbrev pub invariant-loop-first : goal.invariant-loop-first
invariant-loop-first l = names_differ l.rest ≡ names_differ l.filesets

abbrev pub decreases-loop-first : goal.decreases-loop-first
decreases-loop-first l = length l.rest
