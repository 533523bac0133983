use Rattle.std.proofs.Common.{length}
use Rattle.server_tables.specs.Counting.{IsCounted}
use Rattle.server_takes.specs.Taking.{made}
use Rattle.server_says.specs.Claiming.{AdmitsOne}
use Rattle.server_says.specs.Running.{GoesTo}
use Rattle.server_says.proofs.claiming.admit_all.Given as goal

abbrev pub invariant-loop-admission : goal.invariant-loop-admission
invariant-loop-admission l = record {
  goes : GoesTo AdmitsOne (made l.initial.tables l.initial.draft) (made l.tables l.draft);
  counted : IsCounted l.tables;
}

abbrev pub decreases-loop-admission : goal.decreases-loop-admission
decreases-loop-admission l = length l.tables.recovering.claims
