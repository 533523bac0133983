use Rattle.disk_classes.proofs.Noted.{open_live, live_within}
use Rattle.disk_classes.proofs.Sound.{notes_said, needed_said, sound_ended}
use Rattle.disk_classes.proofs.classes.Classes.end.Goals as goal

pub end-requires : goal.end-requires
end-requires g c = live_within c.args.self.now.members.noted c.args.member.number (open_live _ c.requires.opened)

pub returns-clause-sound : goal.returns-clause-sound
returns-clause-sound g c = sound_ended c.args.self.now c.end.new.self c.args.member.number c.requires.opened c.end.ensures.noted _ _ c.requires.sound c.end.ensures.values

pub returns-clause-ended : goal.returns-clause-ended
returns-clause-ended g c = notes_said c.args.self.now c.end.new.self c.args.member.number c.requires.opened c.end.ensures.noted

pub returns-clause-needed : goal.returns-clause-needed
returns-clause-needed g c = needed_said c.args.self.now c.end.new.self c.args.member.number c.requires.opened c.end.ensures.noted
