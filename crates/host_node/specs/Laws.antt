-- What a host's node owes whoever drives it, whatever it does.
use Rattle.std.proofs.Common.{◌≡◌, List, refl}
use Rattle.hub_node.proofs.Keeping.{front_kept, may_hand_in}
use Rattle.hub_laws.specs.Keeping.{Round}
use Rattle.hub_node.specs.Nodes.{HandsIn, Part}
use Rattle.hub_node.specs.declared.node.NodeFault.{NodeFault}
use Rattle.hub_node.specs.declared.node.NodeFault.TheVariants.{Memory}
use Rattle.host_node.specs.Standing.{Stands}
use Rattle.host_node.specs.declared.host.HostNode.{HostNode}

-- it may hand in what it has made
pub hands_in : (n : HostNode) → HandsIn (Unit {0}) Stands n
hands_in n part past made st =
    may_hand_in (Unit {0}) part past made (front_kept (Unit {0}) part past made st.waiting st.so.kept)

-- memory alone runs out
abbrev pub LacksMemory : NodeFault → HostNode → HostNode → Type 0
LacksMemory fault old new = fault ≡ Memory

-- of a host where something failed nothing is said
abbrev pub Breaks : Part → HostNode → List Round → Type 0
Breaks part n past = Unit {0}

pub lacks : (a : HostNode) → LacksMemory Memory a a
lacks a = refl
