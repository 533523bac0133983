use Rattle.server_exporter_tests.specs.Serving.{Works}
use Rattle.server_exporter_tests.proofs.judge_all.Given as goal

abbrev pub invariant-loop-line : goal.invariant-loop-line
invariant-loop-line g l = Works l.machine
