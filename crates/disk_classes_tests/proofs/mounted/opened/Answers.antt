use Rattle.disk_classes_tests.proofs.Fresh.{none_fresh}
use Rattle.disk_classes_tests.proofs.mounted.opened.Goals as goal

pub new-requires : goal.new-requires
new-requires g c = record { sound = c.in-Ok.ensures.sound; none_open = none_fresh _ _ _ c.in-Ok.ensures.fresh }
