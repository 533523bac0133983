use Rattle.store_test_rows.specs.Standing.{Stands}
use Rattle.store_test_rows.proofs.runs.Run.push_firsts.Given as goal

abbrev pub invariant-loop-act : goal.invariant-loop-act
invariant-loop-act g l = Stands g.S.Store.view l.self.roster.now l.tried
