-- Why an aggregate was not opened.
use Rattle.std.specs.Prelude.{◌≡◌, ℕ, Some, IsTrue, ⊤}
use Rattle.base_types.specs.Faults.{RoseBy}
use Rattle.base_types.specs.Crash.{IsQuiet}
use Rattle.base_types.specs.View.{View}
use Rattle.store_memory.specs.declared.store.StoreFault.{StoreFault}
use Rattle.store_memory.specs.declared.store.StoreFault.TheVariants as stores
use Rattle.disk_anode.specs.declared.fault.NodeFault.{NodeFault}
use Rattle.disk_anode.specs.declared.fault.NodeFault.TheVariants as nodes
use Rattle.disk_check.specs.declared.fault.CheckRefused.{CheckRefused}
use Rattle.disk_check.specs.declared.fault.CheckRefused.TheVariants as checks
use Rattle.disk_image.specs.Refused.{refused_at}
use Rattle.disk_log.specs.declared.fault.LogFault.{LogFault}
use Rattle.disk_log.specs.declared.fault.LogFault.TheVariants as logs
use Rattle.disk_aggregate.specs.declared.refused.MountRefused.{MountRefused}
use Rattle.disk_aggregate.specs.declared.refused.MountRefused.TheVariants.{NotAggregate, Failed, Memory}

abbrev pub log_refused : LogFault → MountRefused
log_refused logs.Failed = Failed
log_refused _ = Memory

abbrev pub node_refused : NodeFault → MountRefused
node_refused nodes.Failed = Failed
node_refused nodes.Memory = Memory

-- where a log is opened that was one
abbrev pub opening_fault : LogFault → NodeFault
opening_fault logs.Failed = nodes.Failed
opening_fault _ = nodes.Memory

abbrev pub check_refused : CheckRefused → MountRefused
check_refused checks.Failed = Failed
check_refused checks.Memory = Memory

-- what a store answers of it
abbrev pub store_fault : NodeFault → StoreFault
store_fault nodes.Failed = stores.Failed
store_fault nodes.Memory = stores.Memory

-- Why a mount for a server was refused, where so many servers are declared: the disk failed, memory ran out, or its
-- bytes are refused at this place, and none was changed.
abbrev pub IsRefused : Type 0 → ℕ → ℕ → MountRefused → View → View → Type 0
IsRefused tells server servers (NotAggregate place) old new =
    IsQuiet old new × (tells → refused_at server servers old.image ≡ Some place)
IsRefused tells server servers Failed old new = RoseBy 1 old.faults new.faults × IsTrue new.last_failed
IsRefused tells server servers Memory old new = ⊤

-- The disk failed, or memory ran out.
abbrev pub IsOpenFault : MountRefused → View → View → Type 0
IsOpenFault Failed old new = RoseBy 1 old.faults new.faults × IsTrue new.last_failed
IsOpenFault Memory old new = ⊤
IsOpenFault (NotAggregate place) old new = ⊥
