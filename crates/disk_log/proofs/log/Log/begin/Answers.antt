use Rattle.std.proofs.Common.{refl, arith}
use Rattle.disk_log.proofs.Calls.{sound_as, begun_as}
use Rattle.disk_log.proofs.Keeping.{keeps_same, begun_same}
use Rattle.disk_log.proofs.Mounting.{quiet_none}
use Rattle.disk_log.proofs.log.Log.begin.Goals as goal

pub returns-clause-keeps : goal.returns-clause-keeps
returns-clause-keeps g c =
    keeps_same _ _ _ _ (sound_as _ _ _ _ _ _ c.begin.ensures.pages refl (begun_as _ _ _ _ _ c.requires.sound c.begin.result _ c.begin.ensures.begun)) (begun_same c.begin.result _ _ _ c.begin.ensures.begun) (quiet_none _) (omega arith)
