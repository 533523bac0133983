-- What makes the parts of a fileset believable.
use Rattle.std.specs.Prelude.{◌≡◌, ℕ, true, Option, Some, None}
use Rattle.std.specs.Option.{option_map_or}
use Rattle.tree_calls.specs.declared.ship.ShipPart.{ShipPart}
use Rattle.tree_calls.specs.declared.ship.ShipPart.TheVariants.{Head, Object}
use Rattle.tree_objects.specs.declared.content.Anode.{Anode}
use Rattle.tree_filesets.specs.WellFormed.{is_settled}
use Rattle.store_acts.specs.Parts.{anode_of_part, object_part}

-- the anode that a part tells of; none for a head
abbrev pub anode_told : ShipPart → Option Anode
anode_told (Head name objects records mover) = None
anode_told (Object anode unique status pieces entries) = Some (anode_of_part unique status pieces entries)

-- a part of a fileset with nothing unsaved tells of its anode whole
abbrev pub PartsAreWhole : Type 0
PartsAreWhole = (number : ℕ) (anode : Anode)
    → option_map_or (λ object. is_settled object.content) anode.object true ≡ true
    → anode_told (object_part number anode.unique anode.object) ≡ Some anode
