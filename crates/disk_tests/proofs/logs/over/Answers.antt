use Rattle.disk_tests.proofs.Others.{none_fresh}
use Rattle.disk_tests.proofs.logs.over.Goals as goal

pub all-requires : goal.all-requires
all-requires g c = record {
  untold = c.requires;
  idle = record { sound = c.in-Ok.ensures.sound; none_open = none_fresh _ _ _ c.in-Ok.ensures.fresh };
}
