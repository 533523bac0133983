use Rattle.disk_log.specs.Log.{state_in}
use Rattle.disk_log.proofs.Emptying.{no_puts, no_reservations, none_reserved}
use Rattle.disk_log.proofs.kept.Kept.restart.Goals as goal

pub returns-clause-state : goal.returns-clause-state
returns-clause-state c =
    let state = state_in c.args.self.now in
    λ j. record {
      superblock = state.superblock;
      half = c.args.half;
      entries = c.clear.ensures.items j;
      forced = 0;
      puts = no_puts state c.requires.room c.requires.none_open j;
      reservations = no_reservations state c.requires.room c.requires.none_open j;
      reserved = none_reserved state c.requires.room c.requires.none_open j;
    }
