-- Where each node stands while the lines of a script go.
use Rattle.std.specs.Prelude.{
  ◌≡◌,
  ℕ,
  ◌+◌,
  ◌-◌,
  nat_le,
  nat_lt,
  ◌&&◌,
  not,
  Bool,
  true,
  false,
  List,
  [],
  ◌∷◌,
  ◌++◌,
  length,
  drop,
  filter,
  IsPermutation,
  slice_get,
  Some,
  unwrap_or,
  if◌then◌else◌,
}
use Rattle.std.specs.List.{flat_map, range_with_len}
use Rattle.std.specs.Option.{option_map_or}
use Rattle.base_types.specs.declared.ids.Node.{Node}
use Rattle.base_types.specs.declared.ids.Node.TheVariants.{Host, Server}
use Rattle.base_types.specs.declared.limits.TheConstants.{HOSTS_MAX, SERVERS_MAX}
use Rattle.script_lines.specs.Sound.{is_of}
use Rattle.script_lines.specs.declared.script.Line.{Line}
use Rattle.script_reader.specs.Walk.{can_go}
use Rattle.script_reader.specs.Orders.{IsBegun, flags_of}
use Rattle.service_plain.specs.declared.order.Order.{Order}

-- the seat of a node: hosts from number 0 on, and then servers
abbrev pub seat_of : Node → ℕ
seat_of (Host host) = host.0
seat_of (Server server) = HOSTS_MAX + server.0

-- whether a node has a seat
abbrev pub is_seated : Node → Bool
is_seated (Host host) = nat_le host.0 HOSTS_MAX
is_seated (Server server) = nat_le 1 server.0 && nat_le server.0 SERVERS_MAX

-- the lines at places
abbrev pub lines_at : List Line → List ℕ → List Line
lines_at lines places = flat_map (λ place. option_map_or (λ line. line ∷ []) (slice_get lines place) []) places

-- the places of lines, from 0
abbrev pub all_places : List Line → List ℕ
all_places lines = range_with_len 0 (length lines)

-- the place of a node's next line; nodes without a seat have none
abbrev pub next_of : List Line → List ℕ → Node → ℕ
next_of lines next node =
    if is_seated node then unwrap_or (slice_get next (seat_of node)) (length lines) else length lines

-- the lines that a node has left
abbrev pub left_at : List Line → List ℕ → Node → List Line
left_at lines next node = filter (is_of node) (drop (next_of lines next node) lines)

-- whether a place is that of a line of a node, or behind the last line
abbrev pub is_head : List Line → Node → ℕ → Bool
is_head lines node place = option_map_or (is_of node) (slice_get lines place) true

-- how far all nodes are from their last line, together
abbrev pub to_go : List Line → List ℕ → ℕ
to_go lines [] = 0
to_go lines (place ∷ places) = length lines - place + to_go lines places

-- each node's place is that of a line of its own, or behind the last line
pub record AreHeads (lines : List Line) (next : List ℕ) : Type 0 where
  pub seats : length next ≡ HOSTS_MAX + SERVERS_MAX + 1
  pub head : (node : Node) → is_seated node ≡ true → is_head lines node (next_of lines next node) ≡ true

-- nodes that have a place stand at their first lines
abbrev pub AreAtFirst : List Line → List ℕ → Type 0
AreAtFirst lines next = (node : Node) (place : ℕ) → is_seated node ≡ true → slice_get next (seat_of node) ≡ Some place →
    (filter (is_of node) (drop place lines) ≡ filter (is_of node) lines) × (is_head lines node place ≡ true)

-- all nodes stand at their first lines
pub record AreFirst (lines : List Line) (next : List ℕ) : Type 0 where
  pub heads : AreHeads lines next
  pub all : (node : Node) → is_seated node ≡ true → left_at lines next node ≡ filter (is_of node) lines

-- whether the line at a place has gone, where each node's next line is at these
abbrev pub has_gone : List Line → List ℕ → ℕ → Bool
has_gone lines next place =
    option_map_or (λ line. nat_lt place (next_of lines next line.node)) (slice_get lines place) true

-- the places of the lines that have not
abbrev pub places_left : List Line → List ℕ → List ℕ
places_left lines next = filter (λ place. not (has_gone lines next place)) (all_places lines)

-- lines have gone in an order that their awaits allow, and each node stands at its next line
pub record IsStanding (lines : List Line) (order : Order) : Type 0 where
  pub begun : IsBegun lines (lines_at lines order.went) (left_at lines order.next)
  pub heads : AreHeads lines order.next
  pub flags : order.flags ≡ flags_of (lines_at lines order.went)
  pub places : IsPermutation (all_places lines) (order.went ++ places_left lines order.next)

-- whether there is a line at a place that can go
abbrev pub can_go_at : List Line → List (List ℕ) → ℕ → Bool
can_go_at lines flags place = option_map_or (λ line. can_go flags line.deed) (slice_get lines place) false

-- whether the node at a seat can make its next line
abbrev pub is_ready : List Line → Order → ℕ → Bool
is_ready lines order seat = option_map_or (can_go_at lines order.flags) (slice_get order.next seat) false
