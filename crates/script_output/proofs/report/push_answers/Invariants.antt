use Rattle.std.proofs.Common.{◌≡◌, ◌++◌, drop}
use Rattle.std.specs.List.{flat_map}
use Rattle.script_output.specs.Reports.{answer_in}
use Rattle.script_output.proofs.report.push_answers.Given as goal

-- the replies so far, and those of the entries that are left
abbrev pub invariant-loop-entry : goal.invariant-loop-entry
invariant-loop-entry l =
    l.answers ++ flat_map (answer_in l.host l.calls) (drop l.entry-index l.history) ≡ l.fn.answers ++ flat_map (answer_in l.host l.calls) l.history
