-- Whose fault an error is.
use Rattle.std.specs.Prelude.{IsTrue, ⊤}
use Rattle.base_types.specs.Faults.{RoseBy}
use Rattle.base_types.specs.View.{View}
use Rattle.disk_log.specs.declared.fault.LogFault.{LogFault}
use Rattle.disk_log.specs.declared.fault.LogFault.TheVariants as logs
use Rattle.disk_space.specs.declared.fault.SpaceFault.{SpaceFault}
use Rattle.disk_space.specs.declared.fault.SpaceFault.TheVariants as spaces
use Rattle.disk_anode.specs.declared.fault.NodeFault.{NodeFault}
use Rattle.disk_anode.specs.declared.fault.NodeFault.TheVariants.{Failed, Memory}

abbrev pub log_fault : LogFault → NodeFault
log_fault logs.Memory = Memory
log_fault _ = Failed

abbrev pub space_fault : SpaceFault → NodeFault
space_fault spaces.Failed = Failed
space_fault _ = Memory

-- the disk failed, or memory ran out
abbrev pub IsNodeFault : NodeFault → View → View → Type 0
IsNodeFault Failed old new = RoseBy 1 old.faults new.faults × IsTrue new.last_failed
IsNodeFault Memory old new = ⊤
