use Rattle.store_test_rows.specs.Standing.{Stays}
use Rattle.store_test_rows.proofs.everything.tell_filesets.Given as goal

abbrev pub invariant-loop-slot : goal.invariant-loop-slot
invariant-loop-slot g l = Stays (g.S.Store.view l.initial.store) (g.S.Store.view l.store)
