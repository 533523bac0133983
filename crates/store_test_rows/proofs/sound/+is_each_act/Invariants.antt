use Rattle.std.proofs.Common.{length}
use Rattle.store_test_rows.proofs.sound.+is_each_act.Given as goal

abbrev pub decreases-is_each_act : goal.decreases-is_each_act
decreases-is_each_act l = length l.batch.now
