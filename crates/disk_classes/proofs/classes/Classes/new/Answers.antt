use Rattle.disk_classes.proofs.Sound.{sound_new}
use Rattle.disk_classes.proofs.classes.Classes.new.Goals as goal

pub returns-clause-sound : goal.returns-clause-sound
returns-clause-sound g c = sound_new _ _ c.args.log c.new.result c.requires c.new.ensures.noted c.new.ensures.values
