-- Whose fault an error is.
use Rattle.std.specs.Prelude.{◌≤◌, IsTrue, Result, OnErr}
use Rattle.base_types.specs.Faults.{RoseBy}
use Rattle.base_types.specs.View.{View}
use Rattle.base_types.specs.Crash.{IsQuiet}
use Rattle.disk_log.specs.declared.fault.LogFault.{LogFault}
use Rattle.disk_log.specs.declared.fault.LogFault.TheVariants.{Failed, Full, NotALog, Memory}

-- The count of faults never fell. Where the call failed it rose, and the disk tells that its last call failed.
pub record IsBlamed {T E : Type 0} (result : Result T E) (old new : View) : Type 0 where
  pub counted : old.faults ≤ new.faults
  pub cause : OnErr result (RoseBy 1 old.faults new.faults)
  pub last : OnErr result (IsTrue new.last_failed)

-- A call failed where the disk did, or where memory ran out before it changed a byte.
abbrev pub IsDiskOrMemory : LogFault → View → View → Type 0
IsDiskOrMemory Failed old new = RoseBy 1 old.faults new.faults × IsTrue new.last_failed
IsDiskOrMemory Memory old new = IsQuiet old new
IsDiskOrMemory (Full free needed) old new = ⊥
IsDiskOrMemory (NotALog place) old new = ⊥
