use Rattle.std.proofs.Common.{◌+◌, ◌*◌, ◌≤◌, List, Option, refl, sym, subst}
use Rattle.std.proofs.lemmas.Result.{err_from_is_err_and}
use Rattle.disk_log.specs.Log.{state_of}
use Rattle.disk_log.specs.State.{free_in}
use Rattle.disk_classes.specs.Commit.{CommitsClass}
use Rattle.disk_classes.specs.Notes.{pages_in_class}
use Rattle.disk_classes.specs.declared.member.Noted.{Noted as Kept}
use Rattle.disk_classes.specs.declared.members.Value.{Value}
use Rattle.disk_classes.proofs.Forced.{class_blamed}
use Rattle.disk_classes.proofs.Sound.{room_for, sound_left, sound_over}
use Rattle.disk_classes.proofs.classes.Classes.commit_class.Goals as goal

pub commit-requires-clause-room : goal.commit-requires-clause-room
commit-requires-clause-room g c =
    subst (λ (l : List Kept). 2 * pages_in_class c.args.class l + 1 ≤ free_in (state_of c.args.self.now.log)) (sym c.as_slice.ensures)
    (room_for c.args.class c.args.self.now.members.noted c.args.self.now.members.values c.args.self.now.members.values c.requires.sound.partition c.requires.sound.limits c.requires.sound.values c.requires.live c.requires.named
    (free_in (state_of c.args.self.now.log)) c.requires.sound.room)

pub returns-in_err-commit-clause-sound : goal.returns-in_err-commit-clause-sound
returns-in_err-commit-clause-sound g c = sound_over _ _ c.args.self.now c.commit.new.log c.args.self.now.members c.requires.sound refl c.commit.ensures.idle c.in_err-commit.ensures.err

pub returns-in_err-commit-clause-only : goal.returns-in_err-commit-clause-only
returns-in_err-commit-clause-only g c =
    let p = err_from_is_err_and c.from_residual.result c.from_residual.ensures.1 in
    rw (p.1, p.2) (class_blamed _ _ _ c.in_err-commit.ensures.only)

pub returns-clause-sound : goal.returns-clause-sound
returns-clause-sound g c =
    sound_left _ _ c.args.class c.args.self.now c.commit.new.log c.vacate.new.self c.requires.sound c.requires.live c.requires.named c.commit.ensures.idle
    (subst (λ (l : List Kept). CommitsClass g.D.Disk.tells g.D.Disk.view c.args.class l c.args.self.now.members.values c.args.self.now.log c.commit.new.log) c.as_slice.ensures
    (subst (λ (l : List (Option Value)). CommitsClass g.D.Disk.tells g.D.Disk.view c.args.class c.as_slice.result.now l c.args.self.now.log c.commit.new.log) c.as_slice-2.ensures c.in_ok-commit.ensures.ok))
    c.vacate.ensures.noted c.vacate.ensures.put c.vacate.ensures.kept
