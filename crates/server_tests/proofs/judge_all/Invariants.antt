use Rattle.server_tables.specs.Counting.{IsCounted}
use Rattle.server_tests.proofs.judge_all.Given as goal

abbrev pub invariant-loop-line : goal.invariant-loop-line
invariant-loop-line g l = IsCounted l.tables
