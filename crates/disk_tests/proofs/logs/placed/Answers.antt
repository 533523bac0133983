use Rattle.disk_tests.proofs.Others.{none_fresh}
use Rattle.disk_tests.proofs.logs.placed.Goals as goal

pub returns : goal.returns
returns g c = record {
  untold = c.requires.untold;
  idle = record {
    sound = c.in_ok-checkpoint.ensures.sound;
    none_open = none_fresh _ _ _ c.in_ok-checkpoint.ensures.state;
  };
}
