use Rattle.store_test_rows.specs.Worlds.{BothStand}
use Rattle.store_test_rows.proofs.rows.judge_all.Given as goal

abbrev pub invariant-loop-line : goal.invariant-loop-line
invariant-loop-line g l = BothStand g.S.Store.view l.world
