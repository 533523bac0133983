use Rattle.std.proofs.Common.{refl, rules}
use Rattle.disk_log.proofs.Calls.{still_sound}
use Rattle.disk_log.proofs.log.Log.read_block.Goals as goal

pub returns-in_err-read-clause-reads : goal.returns-in_err-read-clause-reads
returns-in_err-read-clause-reads g c = record {
  sound = still_sound _ _ _ _ _ c.read.ensures.quiet c.requires.sound;
  state = refl;
  quiet = c.read.ensures.quiet;
  blamed = search rules;
}

pub returns-clause-reads : goal.returns-clause-reads
returns-clause-reads g c = record {
  sound = still_sound _ _ _ _ _ c.read.ensures.quiet c.requires.sound;
  state = refl;
  quiet = c.read.ensures.quiet;
  blamed = search rules;
}
