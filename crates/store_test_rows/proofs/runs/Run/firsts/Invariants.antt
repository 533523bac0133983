use Rattle.store_test_rows.specs.Standing.{Stands}
use Rattle.store_test_rows.proofs.runs.Run.firsts.Given as goal

abbrev pub invariant-loop-batch : goal.invariant-loop-batch
invariant-loop-batch g l = Stands g.S.Store.view l.self.roster.now l.tried
