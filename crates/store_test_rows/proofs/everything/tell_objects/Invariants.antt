use Rattle.store_test_rows.specs.Standing.{Stays}
use Rattle.store_test_rows.proofs.everything.tell_objects.Given as goal

abbrev pub invariant-loop-fid : goal.invariant-loop-fid
invariant-loop-fid g l = Stays (g.S.Store.view l.initial.store) (g.S.Store.view l.store)
