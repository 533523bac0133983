use Rattle.script_reader.proofs.Sound.{before_walk_sound}
use Rattle.script_reader.proofs.read.read_script.Goals as goal

pub returns-in-None-clause-sound : goal.returns-in-None-clause-sound
returns-in-None-clause-sound c = rw c.in_ok-script.ensures at (before_walk_sound c.args.bytes.now c.args.disks)
