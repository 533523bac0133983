-- The network after some steps: what is on its way, and to whom lapses are due.
use Rattle.std.specs.List.{position}
use Rattle.std.specs.Option.{option_map_or}
use Rattle.std.specs.Prelude.{List, Option, [], if◌then◌else◌, is_some, map, remove}
use Rattle.std.specs.Prelude.{unwrap_or, ℕ, ◌++◌, ◌+◌, ◌||◌, ◌∷◌}
use Rattle.base_types.specs.declared.ids.Node.{Node}
use Rattle.base_types.specs.declared.ids.Node.TheVariants.{Server}
use Rattle.base_types.specs.declared.ids.ServerId.{ServerId}
use Rattle.message_types.specs.declared.message.Message.{Message}
use Rattle.script_lines.specs.Sound.{same_node}
use Rattle.script_lines.specs.declared.script.Net.{Net}
use Rattle.script_lines.specs.declared.script.Script.{Script}
use Rattle.run_rules.specs.Plans.{all_left, fate_in_net, resender, says_down, spent, ways_in}
use Rattle.run_rules.specs.declared.fate.Fate.{Fate}
use Rattle.run_rules.specs.declared.fate.Fate.TheVariants.{Lost, Once}
use Rattle.run_rules.specs.declared.fate.Left.{Left}
use Rattle.run_rules.specs.declared.fate.Way.{Way}
use Rattle.run_rules.specs.declared.fate.Way.TheVariants.{Free}
use Rattle.hub_wire.specs.Packets.{next_message, raised_packet, without_next}
use Rattle.hub_wire.specs.Plans.{Lacking, passed, planned, raised_line}
use Rattle.hub_wire.specs.declared.packet.Packet.{Packet}

pub record Network : Type 0 where
  pub net : Option Net
  -- the plan lines of the script
  pub lines : List Lacking
  -- so many words of the net were drawn, and so much of it is left
  pub drawn : ℕ
  pub left : Left
  -- so many steps were counted
  pub steps : ℕ
  -- the copies on their way, in the order of sending
  pub packets : List Packet
  -- a lapse is due to each of these
  pub due : List Node

-- At the start of a run of a script: a lapse is due to each server that keeps room for a fileset that moved away.
abbrev pub fresh : Script → List ServerId → Network
fresh script rooms = record {
  net = script.net;
  lines = map (λ line. record { line = line; lacking = line.n }) script.plan;
  drawn = 0;
  left = all_left script.net;
  steps = 0;
  packets = [];
  due = map Server rooms;
}

-- what becomes of the next message
abbrev pub next_fate : Network → Message → Fate
next_fate net m =
    if says_down m then Once Free else unwrap_or (planned net.lines m) (fate_in_net net.net net.drawn net.left)

-- The net's word for it is drawn, and counts where no plan line decides. None is drawn for what tells that a host
-- stops.
abbrev pub with_word : Network → Message → Network
with_word net m = record net {
  drawn = if says_down m then net.drawn else net.drawn + 1;
  left = if says_down m || is_some (planned net.lines m) then net.left
      else spent (fate_in_net net.net net.drawn net.left) net.left;
}

abbrev pub due_by : Fate → Message → List Node
due_by Lost m = resender m ∷ []
due_by _ m = []

-- a message goes its ways, or a lapse is due
abbrev pub with_copies : Network → Message → Fate → Network
with_copies net m fate = record net {
  packets = net.packets ++ map (λ way. record { message = m; way = way; step = net.steps }) (ways_in fate);
  due = net.due ++ due_by fate m;
}

abbrev pub with_packet : Network → Message → Way → Network
with_packet net m way =
    record net { packets = net.packets ++ record { message = m; way = way; step = net.steps } ∷ [] }

abbrev pub with_due : Network → Node → Network
with_due net node = record net { due = net.due ++ node ∷ [] }

abbrev pub with_lines : (Lacking → Lacking) → Network → Network
with_lines f net = record net { lines = map f net.lines }

-- one message more
abbrev pub with_message : Network → Message → Network
with_message net m = with_copies (with_lines (passed m) (with_word net m)) m (next_fate net m)

abbrev pub with_messages : Network → List Message → Network
with_messages net [] = net
with_messages net (m ∷ ms) = with_messages (with_message net m) ms

-- one step more, which sent these messages
abbrev pub with_step : Network → List Message → Network
with_step net sent = with_messages (record net { steps = net.steps + 1 }) sent

-- a flag of the script is raised
abbrev pub with_flag : List ℕ → Network → Network
with_flag flag net = record net {
  lines = map (raised_line flag) net.lines;
  packets = map (raised_packet flag) net.packets;
}

-- the message of the earliest copy for a node that may arrive
abbrev pub next_copy : Network → Node → Option Message
next_copy net node = next_message net.packets net.steps node

abbrev pub without_copy : Node → Network → Network
without_copy node net = record net { packets = without_next net.packets net.steps node }

-- the place of a lapse that is due to a node
abbrev pub lapse_place : Network → Node → Option ℕ
lapse_place net node = position (λ due. same_node due node) net.due

abbrev pub without_lapse : Node → Network → Network
without_lapse node net =
    record net { due = option_map_or (λ place. remove net.due place) (lapse_place net node) net.due }

-- what contracts see of a wire: the network after the steps that are counted, and with those that are made ready
pub record Wired : Type 0 where
  pub counted : Network
  pub ready : Network

abbrev pub both : (Network → Network) → Wired → Wired
both f wire = record { counted = f wire.counted; ready = f wire.ready }
