use Rattle.std.proofs.Common.{◌≡◌, drop}
use Rattle.server_says.specs.Claiming.{answering, telling}
use Rattle.server_says.proofs.claiming.answer_all.Given as goal

abbrev pub invariant-loop-answer : goal.invariant-loop-answer
invariant-loop-answer l = record {
  tables : answering l.tables l.host (drop l.answer-index l.answers) ≡ answering l.initial.tables l.host l.answers;
  draft : telling l.tables l.draft l.host (drop l.answer-index l.answers)
      ≡ telling l.initial.tables l.initial.draft l.host l.answers;
}
