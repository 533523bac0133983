use Rattle.std.proofs.Common.{◌≡◌, true, length}
use Rattle.std.specs.List.{list_all}
use Rattle.tree_filesets.specs.WellFormed.{is_at_rest}
use Rattle.tree_answers.specs.WellFormed.{AreWellFormed}
use Rattle.service_starts.proofs.filesets.are_well_formed.Given as goal

-- all are well formed if those that are left are
abbrev pub invariant-loop-first : goal.invariant-loop-first
invariant-loop-first l = record {
  rest : list_all is_at_rest l.rest ≡ true;
  all : AreWellFormed l.rest → AreWellFormed l.filesets;
}

abbrev pub decreases-loop-first : goal.decreases-loop-first
decreases-loop-first l = length l.rest
