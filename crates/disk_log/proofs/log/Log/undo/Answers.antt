use Rattle.std.proofs.Common.{refl, arith}
use Rattle.disk_log.specs.State.{State, closed}
use Rattle.disk_log.specs.Log.{state_in}
use Rattle.disk_log.proofs.Calls.{sound_as, undo_sound}
use Rattle.disk_log.proofs.Keeping.{keeps_same, same_as}
use Rattle.disk_log.proofs.Mounting.{quiet_none}
use Rattle.disk_log.proofs.log.Log.undo.Goals as goal

pub returns-clause-keeps : goal.returns-clause-keeps
returns-clause-keeps g c =
    let state : State = state_in c.args.self.now.kept in
    keeps_same _ _ _ _ (sound_as _ _ _ _ _ _ c.undo.ensures.pages c.undo.ensures.state (undo_sound _ _ _ _ c.requires.sound c.args.tx.slot c.requires.opened))
    (same_as state _ (closed state c.args.tx.slot) (record { superblock = refl; half = refl; entries = refl; forced = refl }) c.undo.ensures.state) (quiet_none _) (omega arith)
