-- One part of an object in the tree: what steps do to it.
use Rattle.std.specs.Option.{option_map_or}
use Rattle.std.specs.Prelude.{None, Option, Some, max}
use Rattle.base_types.specs.declared.ids.HostId.{HostId}
use Rattle.tree_laws.specs.Fates.{without, size_left}
use Rattle.tree_laws.specs.Parts.{Part, Seen, Written, Cell, present, settled}
use Rattle.tree_laws.specs.Parts.Part.{ByteAt, Size, Traits, Entries}

abbrev pub by : {X : Type 0} → HostId → X → Written X
by host value = record { writer = host; value = value }

-- the unsaved value where there is one, else the kept one
abbrev pub value_of : {X : Type 0} → Option (Written X) → X → X
value_of unsaved kept = option_map_or (λ written. written.value) unsaved kept

-- what a doing of a server does to a part: it saves what a host gave back, a Change sets it, what a host hasn't saved
-- is lost
pub data Does (X : Type 0) : Type 0 where
  Nothing : Does X
  Stores : X → Does X
  Sets : X → Does X
  Loses : HostId → Does X

-- a host writes, or doesn't
abbrev pub written : {X : Type 0} → HostId → Option X → Cell X → Cell X
written host None cell = cell
written host (Some value) cell = record { kept = cell.kept; unsaved = Some (by host value) }

-- a size that is stored becomes kept, and an unsaved one that equals it goes; elsewhere the unsaved value becomes kept
abbrev pub stored : (part : Part) → Seen part → Cell (Seen part) → Cell (Seen part)
stored (ByteAt at) value cell = settled (present cell)
stored Size value cell = record { kept = value; unsaved = size_left value cell.unsaved }
stored Traits value cell = settled (present cell)
stored Entries value cell = settled (present cell)

abbrev pub cell_after : (part : Part) → Does (Seen part) → Cell (Seen part) → Cell (Seen part)
cell_after part Nothing cell = cell
cell_after part (Stores value) cell = stored part value cell
cell_after part (Sets value) cell = settled value
cell_after part (Loses host) cell = record { kept = cell.kept; unsaved = without host cell.unsaved }

-- the same at the server, which knows the kept values only; there a size only grows
abbrev pub kept_stored : (part : Part) → Seen part → Seen part → Seen part
kept_stored (ByteAt at) value kept = value
kept_stored Size value kept = max kept value
kept_stored Traits value kept = value
kept_stored Entries value kept = value

abbrev pub kept_after : (part : Part) → Does (Seen part) → Seen part → Seen part
kept_after part Nothing kept = kept
kept_after part (Stores value) kept = kept_stored part value kept
kept_after part (Sets value) kept = value
kept_after part (Loses host) kept = kept
