use Rattle.std.proofs.Common.{◌∙◌, ap, refl}
use Rattle.disk_log.specs.Log.{state_in}
use Rattle.disk_log.specs.State.{State}
use Rattle.disk_log.specs.Puts.{page_of}
use Rattle.disk_log.proofs.Calls.{sound_as, end_sound}
use Rattle.disk_log.proofs.Ended.{page_ended}
use Rattle.disk_log.proofs.Keeping.{ended_keeps, ended_appends}
use Rattle.disk_log.proofs.log.Log.end.Goals as goal

pub returns-clause-keeps : goal.returns-clause-keeps
returns-clause-keeps g c =
    ended_keeps _ _ _ _ c.args.tx.slot c.requires.sound (sound_as _ _ _ _ _ _ c.end.ensures.pages c.end.ensures.state (end_sound _ _ _ _ c.requires.sound c.args.tx.slot c.requires.opened)) c.end.ensures.state refl

pub returns-clause-appends : goal.returns-clause-appends
returns-clause-appends g c = λ told.
    let view = g.D.Disk.view c.args.self.now.disk in
    let state : State = state_in c.args.self.now.kept in
    ended_appends g.D.Disk.tells view c.args.self.now.kept.pages _ state (state_in c.end.new.self) c.args.tx.slot c.requires.sound (sound_as _ _ _ _ _ _ c.end.ensures.pages c.end.ensures.state (end_sound _ _ _ _ c.requires.sound c.args.tx.slot c.requires.opened)) c.end.ensures.state told

pub returns-clause-pages : goal.returns-clause-pages
returns-clause-pages g c = λ image p.
    let kept = c.args.self.now.kept in
    ap (λ (state : State). page_of state.entries state.puts image p) c.end.ensures.state
    ∙ page_ended kept.entries.items c.args.tx.slot kept.half.pages kept.puts.items image c.requires.sound.steady.apart p
