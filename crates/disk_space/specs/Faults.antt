-- Whose fault an error is.
use Rattle.std.specs.Prelude.{IsTrue, ⊤}
use Rattle.base_types.specs.Faults.{RoseBy}
use Rattle.base_types.specs.View.{View}
use Rattle.disk_log.specs.declared.fault.LogFault.{LogFault}
use Rattle.disk_log.specs.declared.fault.LogFault.TheVariants as logs
use Rattle.disk_space.specs.declared.fault.SpaceFault.{SpaceFault}
use Rattle.disk_space.specs.declared.fault.SpaceFault.TheVariants.{Failed, Full, Memory}

abbrev pub space_fault : LogFault → SpaceFault
space_fault logs.Memory = Memory
space_fault _ = Failed

-- the disk failed, or memory ran out
abbrev pub IsCountFault : SpaceFault → View → View → Type 0
IsCountFault Failed old new = RoseBy 1 old.faults new.faults × IsTrue new.last_failed
IsCountFault Memory old new = ⊤
IsCountFault Full old new = ⊥

-- or no block is free
abbrev pub IsTakeFault : Type 0 → SpaceFault → View → View → Type 0
IsTakeFault none Failed old new = RoseBy 1 old.faults new.faults × IsTrue new.last_failed
IsTakeFault none Memory old new = ⊤
IsTakeFault none Full old new = none
