-- What has become of a node of either kind.
use Rattle.std.proofs.Common.{inl, inr}
use Rattle.hub_node.specs.Either.{of_either}
use Rattle.hub_node.specs.Nodes.{HasBecome}
use Rattle.hub_node.specs.declared.either.AnyNode.{AnyNode}
use Rattle.hub_node.specs.declared.either.AnyNode.TheVariants.{Host, Server}
use Rattle.hub_node.specs.declared.node.NodeFault.{NodeFault}

-- a host has become what a host may, and a server what a server may
pub became_either : {H S : Type 0} (hr : H → H → Type 0) (sr : S → S → Type 0) (hf : NodeFault → H → H → Type 0)
    (sf : NodeFault → S → S → Type 0) (a b : AnyNode H S)
    → HasBecome (of_either hr sr) (λ fault. of_either (hf fault) (sf fault)) a b
    → of_either (HasBecome hr hf) (HasBecome sr sf) a b
became_either hr sr hf sf (Host a) (Host b) h = h
became_either hr sr hf sf (Server a) (Server b) h = h
became_either hr sr hf sf (Host a) (Server b) (inl h) = h
became_either hr sr hf sf (Host a) (Server b) (inr h) = h.1
became_either hr sr hf sf (Server a) (Host b) (inl h) = h
became_either hr sr hf sf (Server a) (Host b) (inr h) = h.1
