use Rattle.std.proofs.Common.{◌≡◌, ◌++◌, drop}
use Rattle.std.specs.List.{flat_map}
use Rattle.script_output.specs.Printed.{answer_line}
use Rattle.script_output.proofs.print.push_answers.Given as goal

-- the lines so far, and those that are left
abbrev pub invariant-loop-answer : goal.invariant-loop-answer
invariant-loop-answer l = l.out ++ flat_map answer_line (drop l.answer-index l.answer-items) ≡ l.fn.out ++ flat_map answer_line l.answers
