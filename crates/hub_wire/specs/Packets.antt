-- Copies of messages on their way, in the order of sending, and when they may arrive.
use Rattle.std.specs.List.{find, list_any, position}
use Rattle.std.specs.Option.{option_map_or}
use Rattle.std.specs.Prelude.{Bool, List, Option, false, if◌then◌else◌, nat_le, not, option_map, remove, true}
use Rattle.std.specs.Prelude.{ℕ, ◌&&◌, ◌-◌, ◌||◌}
use Rattle.base_types.specs.Name.{same_name}
use Rattle.base_types.specs.declared.ids.Node.{Node}
use Rattle.message_types.specs.declared.message.Message.{Message}
use Rattle.script_lines.specs.Sound.{same_node}
use Rattle.run_rules.specs.Plans.{receiver}
use Rattle.run_rules.specs.declared.fate.Way.{Way}
use Rattle.run_rules.specs.declared.fate.Way.TheVariants.{Free, Delayed, Held}
use Rattle.hub_wire.specs.declared.packet.Packet.{Packet}
use Rattle.hub_wire.specs.declared.packet.TheConstants.{DELAY_STEPS}

-- neither delayed nor held
abbrev pub is_free : Way → Bool
is_free Free = true
is_free _ = false

-- A free copy may arrive. A delayed one may when enough steps were counted after its own, or nothing free is on its
-- way. A held one may not.
abbrev pub may_arrive : Bool → ℕ → ℕ → Way → Bool
may_arrive any_free steps step Free = true
may_arrive any_free steps step Delayed = nat_le DELAY_STEPS (steps - step) || not any_free
may_arrive any_free steps step (Held flag) = false

abbrev pub is_released : Bool → ℕ → Packet → Bool
is_released any_free steps packet = may_arrive any_free steps packet.step packet.way

abbrev pub any_free : List Packet → Bool
any_free packets = list_any (λ packet. is_free packet.way) packets

-- whether a copy is for a node, and may arrive
abbrev pub is_ripe : Bool → ℕ → Node → Packet → Bool
is_ripe any_free steps node packet = same_node (receiver packet.message) node && is_released any_free steps packet

-- the same, where these are on their way
abbrev pub is_next : List Packet → ℕ → Node → Packet → Bool
is_next packets steps node packet = is_ripe (any_free packets) steps node packet

-- the message of the earliest copy for a node that may arrive
abbrev pub next_message : List Packet → ℕ → Node → Option Message
next_message packets steps node = option_map (λ packet. packet.message) (find (is_next packets steps node) packets)

-- the copies without that one
abbrev pub without_next : List Packet → ℕ → Node → List Packet
without_next packets steps node =
    option_map_or (λ place. remove packets place) (position (is_next packets steps node) packets) packets

abbrev pub is_held_by : List ℕ → Way → Bool
is_held_by flag (Held name) = same_name name flag
is_held_by flag _ = false

-- a copy that waited for a flag is free once the flag is raised
abbrev pub raised_packet : List ℕ → Packet → Packet
raised_packet flag packet = if is_held_by flag packet.way then record packet { way = Free } else packet
