-- The hub after some turns, and what there is for a node.
use Rattle.std.specs.List.{list_all}
use Rattle.std.specs.Option.{option_and_then, option_map_or}
use Rattle.std.specs.Prelude.{Bool, List, None, Option, Some, [], false, if◌then◌else◌, is_some, length, map, not}
use Rattle.std.specs.Prelude.{option_map}
use Rattle.std.specs.Prelude.{slice_get, suc, zero, ℕ, ◌&&◌, ◌++◌, ◌==◌, ◌∷◌, ◌≡◌}
use Rattle.base_types.specs.Lists.{changed_at}
use Rattle.base_types.specs.declared.ids.Node.{Node}
use Rattle.base_types.specs.declared.ids.Node.TheVariants.{Host, Server}
use Rattle.base_types.specs.declared.ids.ServerId.{ServerId}
use Rattle.script_lines.specs.Sound.{same_node}
use Rattle.script_lines.specs.declared.script.Script.{Script}
use Rattle.run_rules.specs.declared.step.Step.{Step}
use Rattle.hub_board.specs.Follows.{flag_for, flags_next, follow_of, gone_in, is_through, place_of, setup_node}
use Rattle.hub_board.specs.Follows.{with_begun, with_gone}
use Rattle.hub_board.specs.Follows.{with_raised, with_told}
use Rattle.hub_board.specs.Ties.{is_loose, no_ties, with_all_sent, with_cause}
use Rattle.hub_board.specs.declared.follow.Follow.{Follow}
use Rattle.hub_board.specs.declared.given.Gift.{Gift}
use Rattle.hub_board.specs.declared.given.Gift.TheVariants.{Message, Begun, Raised, Lapse}
use Rattle.hub_board.specs.declared.given.Given.{Given}
use Rattle.hub_board.specs.declared.given.Given.TheVariants.{Message as Came, Begun as Began, Raised as WasRaised}
use Rattle.hub_board.specs.declared.given.Given.TheVariants.{Lapse as Lapsed}
use Rattle.hub_board.specs.declared.given.Turn.{Turn}
use Rattle.hub_board.specs.declared.tie.Tie.{Tie}
use Rattle.hub_wire.specs.Networks.{Network, fresh, lapse_place, next_copy, with_flag, with_step, without_copy}
use Rattle.hub_wire.specs.Networks.{without_lapse}

pub record Hubbed : Type 0 where
  pub net : Network
  -- the setup host first
  pub follows : List Follow
  -- what the setup host has with each server
  pub ties : List Tie

-- what these steps send is on its way
abbrev pub with_sent : Network → List Step → Network
with_sent net [] = net
with_sent net (s ∷ steps) = with_sent (with_step net s.sent) steps

abbrev pub flagged : List (List ℕ) → Network → Network
flagged [] net = net
flagged (flag ∷ flags) net = flagged flags (with_flag flag net)

abbrev pub all_raised : List (List ℕ) → List Follow → List Follow
all_raised [] follows = follows
all_raised (flag ∷ flags) follows = all_raised flags (map (with_raised flag) follows)

abbrev pub tied : List Tie → List Step → List Tie
tied ties [] = ties
tied ties (s ∷ steps) = tied (with_all_sent (with_cause ties s.cause) s.sent) steps

-- a node that is followed
abbrev pub follow_at : Hubbed → Node → Option Follow
follow_at hub node = slice_get hub.follows (place_of hub.follows node)

abbrev pub with_follow : Node → (Follow → Follow) → Hubbed → Hubbed
with_follow node change hub =
    record hub { follows = changed_at hub.follows (place_of hub.follows node) change }

-- the flags that steps of a node raise
abbrev pub flags_of : Hubbed → Node → List Step → List (List ℕ)
flags_of hub node steps = option_map_or (flags_next (gone_in steps)) (follow_at hub node) []

-- steps of a node, beside what they send: lines have gone, and flags were raised
abbrev pub noted : Hubbed → Node → List Step → List (List ℕ) → Hubbed
noted hub node steps flags = record {
  net = flagged flags hub.net;
  follows = all_raised flags (changed_at hub.follows (place_of hub.follows node) (with_gone (gone_in steps)));
  ties = if same_node node setup_node then tied hub.ties steps else hub.ties;
}

-- these steps of a node were handed in
abbrev pub with_steps : Hubbed → Node → List Step → Hubbed
with_steps hub node steps =
    noted (record hub { net = with_sent hub.net steps }) node steps (flags_of hub node steps)

-- the setup host has ended: its lines have gone, and it has the Bye of each server that it greeted
abbrev pub has_ended : Hubbed → Bool
has_ended hub = option_map_or is_through (slice_get hub.follows 0) false && list_all is_loose hub.ties

-- a host but that one has not been told so yet
abbrev pub begins : Hubbed → Node → Bool
begins hub node =
    has_ended hub && option_map_or (λ (f : Follow). not f.begun) (follow_at hub node) false

abbrev pub may_begin : Node → Bool
may_begin (Host host) = not (host.0 == 0)
may_begin (Server server) = false

-- the flag for which a node's next line waits, and which was raised
abbrev pub flag_at : List Follow → ℕ → Option (List ℕ)
flag_at follows place = option_and_then flag_for (slice_get follows place)

abbrev pub flag_of : Hubbed → Node → Option (List ℕ)
flag_of hub node = flag_at hub.follows (place_of hub.follows node)

-- What there is for a node is the first of these: the earliest copy that may arrive, that the setup host has ended, the
-- flag for which its next line waits, a lapse.
abbrev pub gift_for : Hubbed → Node → Option Gift
gift_for hub node =
    if is_some (next_copy hub.net node) then Some Message
    else if may_begin node && begins hub node then Some Begun
    else if is_some (flag_of hub node) then Some Raised
    else if is_some (lapse_place hub.net node) then Some Lapse
    else None

-- it is given, once
abbrev pub without : Option Gift → Node → Hubbed → Hubbed
without None node hub = hub
without (Some Message) node hub = record hub { net = without_copy node hub.net }
without (Some Begun) node hub = with_follow node with_begun hub
without (Some Raised) node hub = with_follow node with_told hub
without (Some Lapse) node hub = record hub { net = without_lapse node hub.net }

-- what is given
abbrev pub given_of : Hubbed → Node → Option Gift → Option Given
given_of hub node None = None
given_of hub node (Some Message) = option_map (λ m. Came m) (next_copy hub.net node)
given_of hub node (Some Begun) = Some Began
given_of hub node (Some Raised) = option_map (λ flag. WasRaised flag) (flag_of hub node)
given_of hub node (Some Lapse) = Some Lapsed

-- which gift it is
abbrev pub gift_in : Option Given → Option Gift
gift_in None = None
gift_in (Some (Came m)) = Some Message
gift_in (Some Began) = Some Begun
gift_in (Some (WasRaised flag)) = Some Raised
gift_in (Some Lapsed) = Some Lapse

abbrev pub hosts_up_to : ℕ → List Node
hosts_up_to zero = setup_node ∷ []
hosts_up_to (suc n) = hosts_up_to n ++ Host (record { 0 = suc n }) ∷ []

abbrev pub servers_up_to : ℕ → List Node
servers_up_to zero = []
servers_up_to (suc n) = servers_up_to n ++ Server (record { 0 = suc n }) ∷ []

-- who takes part in a script, the setup host first
abbrev pub nodes_of : Script → List Node
nodes_of script = hosts_up_to (length script.roster.hosts) ++ servers_up_to script.servers

-- at the start of a script, where these servers keep room for filesets that moved away
abbrev pub first_hub : Script → List ServerId → Hubbed
first_hub script rooms = record {
  net = fresh script rooms;
  follows = map (follow_of script) (nodes_of script);
  ties = no_ties;
}

-- a turn
abbrev pub with_turn : Hubbed → Turn → Hubbed
with_turn hub t = without t.gift t.node (with_steps hub t.node t.steps)

-- after these turns
abbrev pub after : Hubbed → List Turn → Hubbed
after hub [] = hub
after hub (t ∷ turns) = after (with_turn hub t) turns

-- each turn gave what there was
abbrev pub AreGiven : Hubbed → List Turn → Type 0
AreGiven hub [] = Unit {0}
AreGiven hub (t ∷ turns) = (t.gift ≡ gift_for (with_steps hub t.node t.steps) t.node) × AreGiven (with_turn hub t) turns
