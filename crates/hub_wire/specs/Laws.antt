-- What the network does over a whole run.
use Rattle.std.specs.List.{All}
use Rattle.std.specs.Prelude.{List, None, Some, [], false, flat_map, length, map, true, ℕ}
use Rattle.std.specs.Prelude.{◌++◌, ◌∷◌, ◌≡◌}
use Rattle.base_types.specs.declared.ids.Node.{Node}
use Rattle.base_types.specs.declared.ids.Node.TheVariants.{Server}
use Rattle.base_types.specs.declared.ids.ServerId.{ServerId}
use Rattle.message_types.specs.declared.message.Message.{Message}
use Rattle.script_lines.specs.declared.script.Script.{Script}
use Rattle.run_rules.specs.Plans.{Copy, Posting, copies_of, posted}
use Rattle.hub_wire.specs.Networks.{Network, due_by, fresh, next_copy, with_flag, with_step, without_copy}
use Rattle.hub_wire.specs.Packets.{is_next}
use Rattle.hub_wire.specs.declared.packet.Packet.{Packet}

-- the network after these steps, each the messages that it sent, where nothing is taken
abbrev pub with_steps : Network → List (List Message) → Network
with_steps net [] = net
with_steps net (sent ∷ steps) = with_steps (with_step net sent) steps

abbrev pub copy_of : Packet → Copy
copy_of packet = record { message = packet.message; way = packet.way }

-- a lapse is due for each message that is lost
abbrev pub lost_due : Posting → List Node
lost_due p = due_by p.fate p.message

-- all messages of some steps, in order
abbrev pub all_sent : List (List Message) → List Message
all_sent steps = flat_map (λ sent. sent) steps

-- What is on its way is the copies that the script makes of the messages, in order. Lapses are due to those to whom
-- they were due at the start, and one for each lost message to the side that sends again.
pub record IsPosted (script : Script) (rooms : List ServerId) (steps : List (List Message)) : Type 0 where
  pub copies : map copy_of (with_steps (fresh script rooms) steps).packets
      ≡ flat_map copies_of (posted script (all_sent steps))
  pub due : (with_steps (fresh script rooms) steps).due
      ≡ map Server rooms ++ flat_map lost_due (posted script (all_sent steps))
  pub count : (with_steps (fresh script rooms) steps).steps ≡ length steps

abbrev pub AlwaysPosted : Type 0
AlwaysPosted = (script : Script) (rooms : List ServerId) (steps : List (List Message)) → IsPosted script rooms steps

-- it is the same whether a flag is raised before a step or after it
abbrev pub FlagsCommute : Type 0
FlagsCommute = (flag : List ℕ) (net : Network) (sent : List Message)
    → with_step (with_flag flag net) sent ≡ with_flag flag (with_step net sent)

-- A copy that is taken was on its way, for the node and so that it may arrive, and none before it was. The others stay,
-- and all do where there is none.
pub record IsTaken (net : Network) (node : Node) (m : Message) : Type 0 where
  pub earlier : List Packet
  pub packet : Packet
  pub later : List Packet
  pub among : net.packets ≡ earlier ++ packet ∷ later
  pub own : packet.message ≡ m
  pub fits : is_next net.packets net.steps node packet ≡ true
  pub first : All (λ (p : Packet). is_next net.packets net.steps node p ≡ false) earlier
  pub left : (without_copy node net).packets ≡ earlier ++ later

abbrev pub TakesFirst : Type 0
TakesFirst = (net : Network) (node : Node)
    → ((m : Message) → next_copy net node ≡ Some m → IsTaken net node m)
    × (next_copy net node ≡ None → All (λ (p : Packet). is_next net.packets net.steps node p ≡ false) net.packets
    × (without_copy node net ≡ net))
