use Rattle.std.proofs.Common.{drop}
use Rattle.run_rules.specs.Past.{In}
use Rattle.server_says.proofs.claiming.has_answer.Given as goal

-- the answer isn't one of those that were looked at
abbrev pub invariant-loop-other : goal.invariant-loop-other
invariant-loop-other l = In l.answer l.answers → In l.answer (drop l.other-index l.answers)
