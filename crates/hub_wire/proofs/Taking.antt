-- The copy that is taken, by the fields of a wire.
use Rattle.std.proofs.Common.{◌≡◌, ℕ, get_or, take, Option, None, Some, is_some, refl, sym, ap, ◌∙◌}
use Rattle.std.specs.List.{find, position}
use Rattle.std.specs.Option.{option_map}
use Rattle.base_types.specs.declared.ids.Node.{Node}
use Rattle.hub_wire.specs.Networks.{Network, Wired, next_copy}
use Rattle.hub_wire.specs.Packets.{is_next, next_message}
use Rattle.hub_wire.specs.Views.{counted_network, ready_network}
use Rattle.hub_wire.specs.declared.packet.Packet.{Packet}
use Rattle.hub_wire.specs.declared.wire.Wire.TheInside.{Inside}
use Rattle.hub_wire.proofs.Takes.{at_none, at_place, found_there, none_there, some_there}
use Rattle.hub_wire.proofs.Wires.{wired}

same_some : {X Y : Type 0} (f : X → Y) (o : Option X) → is_some o ≡ is_some (option_map f o)
same_some f None = refl
same_some f (Some x) = refl

module _ (w : Inside) (wire : Wired) (view : wired w ≡ wire) (rests : wire.ready ≡ wire.counted) where
  -- nothing is made ready
  one_network : ready_network w ≡ counted_network w
  one_network = ap (λ (v : Wired). v.ready) view ∙ rests ∙ sym (ap (λ (v : Wired). v.counted) view)

  all_counted : w.packets ≡ take w.packets_counted w.packets
  all_counted = ap (λ (n : Network). n.packets) one_network

  -- the first copy that may arrive
  pub copy_is : (node : Node) (i : ℕ) (x : Packet) → position (is_next w.packets w.counted.steps node) w.packets
      ≡ Some i
      → x ≡ get_or w.packets i x → Some x.message ≡ next_copy wire.counted node
  copy_is node i x e at =
      let p = is_next w.packets w.counted.steps node in
      let there = at_place p w.packets i e in
      let found = found_there p w.packets x there.0 (at ∙ ap (λ n. get_or w.packets n x) there.1) in
      ap (option_map (λ (packet : Packet). packet.message)) found
      ∙ ap (λ ps. next_message ps w.counted.steps node) all_counted
      ∙ ap (λ (v : Wired). next_copy v.counted node) view

  pub no_copy : (node : Node) → position (is_next w.packets w.counted.steps node) w.packets ≡ None
      → None ≡ next_copy wire.counted node
  no_copy node e =
      let p = is_next w.packets w.counted.steps node in
      ap (option_map (λ (packet : Packet). packet.message)) (none_there p w.packets (at_none p w.packets e))
      ∙ ap (λ ps. next_message ps w.counted.steps node) all_counted
      ∙ ap (λ (v : Wired). next_copy v.counted node) view

  -- whether there is one
  pub copy_known : (node : Node) (o : Option ℕ) → o ≡ position (is_next w.packets w.counted.steps node) w.packets
      → is_some o ≡ is_some (next_copy wire.counted node)
  copy_known node None e = ap is_some (no_copy node (sym e))
  copy_known node (Some i) e =
      let p = is_next w.packets w.counted.steps node in
      some_there p w.packets (at_place p w.packets i (sym e)).0
      ∙ same_some (λ (packet : Packet). packet.message) (find p w.packets)
      ∙ ap (λ ps. is_some (next_message ps w.counted.steps node)) all_counted
      ∙ ap (λ (v : Wired). is_some (next_copy v.counted node)) view
