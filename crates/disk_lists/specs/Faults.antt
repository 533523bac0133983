-- Whose fault an error is.
use Rattle.std.specs.Prelude.{IsTrue, ⊤}
use Rattle.base_types.specs.Faults.{RoseBy}
use Rattle.base_types.specs.View.{View}
use Rattle.disk_anode.specs.declared.fault.NodeFault.{NodeFault}
use Rattle.disk_anode.specs.declared.fault.NodeFault.TheVariants as nodes
use Rattle.base_types.specs.declared.access.ListRefused.{ListRefused}
use Rattle.base_types.specs.declared.access.ListRefused.TheVariants as lists
use Rattle.disk_lists.specs.declared.fault.ListFault.{ListFault}
use Rattle.disk_lists.specs.declared.fault.ListFault.TheVariants.{Failed, BadList, Memory}

abbrev pub node_fault : NodeFault → ListFault
node_fault nodes.Failed = Failed
node_fault nodes.Memory = Memory

abbrev pub list_fault : ListRefused → ListFault
list_fault lists.BadList = BadList
list_fault lists.Memory = Memory

-- the disk failed, there is no list, or memory ran out
abbrev pub IsListFault : Type 0 → ListFault → View → View → Type 0
IsListFault none Failed old new = RoseBy 1 old.faults new.faults × IsTrue new.last_failed
IsListFault none BadList old new = none
IsListFault none Memory old new = ⊤
