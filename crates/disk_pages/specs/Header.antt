-- The header of a fileset's slot: 0 the state, 4..8 the id, 8..12 the limit of objects, 12..73 the name. In
-- format 2, 73 the other server of a fileset that leaves, arrives or is gone, 76..80 how often it moved, 80..88
-- its ship number where it leaves or arrives, and 88..92 how many of its parts were taken where it arrives.
use Rattle.std.specs.Prelude.{
  ℕ,
  ◌+◌,
  ◌*◌,
  ◌/◌,
  ◌%◌,
  ◌==◌,
  ◌&&◌,
  ◌||◌,
  not,
  nat_le,
  nat_lt,
  Bool,
  true,
  false,
  List,
  if◌then◌else◌,
}
use Rattle.base_types.specs.Image.{byte_at}
use Rattle.disk_layout.specs.Numbers.{number_at}
use Rattle.disk_pages.specs.Words.{are_zero, name_at, is_name_at}
use Rattle.disk_pages.specs.declared.header.SlotHeader.{SlotHeader}
use Rattle.disk_pages.specs.declared.header.SlotState.{SlotState}
use Rattle.disk_pages.specs.declared.header.SlotState.TheVariants.{
  Free,
  Writable,
  Clone,
  Leaving,
  Arriving,
  Gone,
  Unknown,
}

-- the state of a slot, by its byte and the format's; the last three are of format 2
abbrev pub state_for : ℕ → ℕ → SlotState
state_for format byte =
    if byte == 0 then Free
    else if byte == 1 then Writable
    else if byte == 2 then Clone
    else if format == 0 then Unknown
    else if byte == 3 then Leaving
    else if byte == 4 then Arriving
    else if byte == 5 then Gone
    else Unknown

abbrev pub state_of : List ℕ → List ℕ → SlotState
state_of server page = state_for (byte_at server 29) (byte_at page 0)

-- whether a slot has a fileset, which may be on its way or gone
abbrev pub is_taken_slot : SlotState → Bool
is_taken_slot Free = false
is_taken_slot Unknown = false
is_taken_slot _ = true

abbrev pub id_of : List ℕ → ℕ
id_of page = number_at 4 4 page

-- how many objects it may have, 1 to 64
abbrev pub is_limit : ℕ → Bool
is_limit objects = nat_le 1 objects && nat_le objects 64

-- the id of a fileset: its first server and a number, which this server has given where it is its own
abbrev pub is_id : ℕ → ℕ → ℕ → Bool
is_id home next id =
    nat_le 1 (id / 65536) && nat_le (id / 65536) 4 && nat_le 1 (id % 65536)
    && (not (id / 65536 == home) || nat_lt (id % 65536) next)

-- the other server of a fileset on its way
abbrev pub is_other : ℕ → ℕ → Bool
is_other home other = nat_le 1 other && nat_le other 4 && not (other == home)

-- what stands behind the name in format 2: other server, ship number and parts, by the state
abbrev pub are_moves : ℕ → List ℕ → List ℕ → SlotState → Bool
are_moves home server page Leaving = is_other home (byte_at page 73)
    && nat_le (number_at 8 80 page) (number_at 8 32 server) && are_zero 88 4 page
are_moves home server page Arriving = is_other home (byte_at page 73) && nat_le 1 (number_at 4 88 page)
    && nat_le (number_at 4 88 page) (number_at 4 8 page)
are_moves home server page Gone = is_other home (byte_at page 73) && are_zero 80 12 page
are_moves home server page _ = are_zero 73 1 page && are_zero 80 12 page

-- whether what stands behind the name is right; in format 1 it is zero
abbrev pub is_behind : ℕ → List ℕ → List ℕ → Bool
is_behind home server page =
    if byte_at server 29 == 0 then are_zero 73 439 page
    else are_zero 74 2 page && are_moves home server page (state_of server page) && are_zero 92 420 page

-- Whether a page is the header of a fileset at a server, by the server's page. That no two slots have one id or
-- one name, and no two are leaving, is judged apart.
unfoldable pub is_header : ℕ → List ℕ → List ℕ → Bool
is_header home server page =
    is_taken_slot (state_of server page) && are_zero 1 3 page && is_id home (number_at 4 8 server) (id_of page)
    && is_limit (number_at 4 8 page) && is_name_at 12 page && is_behind home server page

-- whether a fileset leaves
abbrev pub is_leaving : SlotState → Bool
is_leaving Leaving = true
is_leaving _ = false

-- what a header says
unfoldable pub header_of : List ℕ → List ℕ → SlotHeader
header_of server page = record {
  state = state_of server page;
  id = record { 0 = id_of page };
  objects = number_at 4 8 page;
  name = name_at 12 page;
  other = byte_at page 73;
  moves = number_at 4 76 page;
  ship = number_at 8 80 page;
  parts = number_at 4 88 page;
}
