use Rattle.store_memory.specs.MapStores.{map_view}
use Rattle.store_test_rows.specs.Worlds.{BothStand}
use Rattle.store_tests.proofs.judge_all.Given as goal

abbrev pub invariant-loop-line : goal.invariant-loop-line
invariant-loop-line g l = BothStand map_view l.world
