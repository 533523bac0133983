-- What travels of objects.
use Rattle.std.specs.Prelude.{ℕ, List, Option, codes}
use Rattle.json.specs.Json.{Json, boolean, object, no_members, member}
use Rattle.tree_calls.specs.declared.part.DirEntry.{DirEntry}
use Rattle.tree_calls.specs.declared.part.Piece.{Piece}
use Rattle.tree_calls.specs.declared.part.Status.{Status}
use Rattle.tree_calls.specs.declared.ship.Mover.{Mover}
use Rattle.tree_calls.specs.declared.ship.Record.{Record}
use Rattle.tree_calls.specs.declared.ship.ShipPart.{ShipPart}
use Rattle.tree_calls.specs.declared.ship.ShipPart.TheVariants.{Head, Object}
use Rattle.message_json.specs.Calls.{access_json, call_json}
use Rattle.message_json.specs.Values.{whole, letters, list, maybe, tagged}

unfoldable pub piece_json : Piece → Json
piece_json piece = object
    (member (codes "from") (whole piece.from)
    (member (codes "bytes") (letters piece.bytes) no_members))

unfoldable pub entry_json : DirEntry → Json
entry_json entry = object
    (member (codes "name") (letters entry.name)
    (member (codes "anode") (whole entry.anode)
    (member (codes "unique") (whole entry.unique) no_members)))

unfoldable pub status_json : Status → Json
status_json status = object
    (member (codes "dir") (boolean status.dir)
    (member (codes "read_only") (boolean status.read_only)
    (member (codes "length") (whole status.length)
    (member (codes "owner") (letters status.owner)
    (member (codes "group") (letters status.group)
    (member (codes "lists") (list access_json status.lists) no_members))))))

unfoldable pub record_json : Record → Json
record_json record_of = object
    (member (codes "change") (whole record_of.change)
    (member (codes "give") (whole record_of.give)
    (member (codes "code") (whole record_of.code)
    (member (codes "right") (whole record_of.right) no_members))))

unfoldable pub mover_json : Mover → Json
mover_json mover = object
    (member (codes "host") (whole mover.host.0)
    (member (codes "number") (whole mover.number)
    (member (codes "k") (whole mover.k)
    (member (codes "call") (call_json mover.call) no_members))))

-- what holds for a whole fileset
abbrev pub head_json : List ℕ → ℕ → List Record → Mover → Json
head_json name objects records mover = tagged (codes "head") (object
    (member (codes "name") (letters name)
    (member (codes "objects") (whole objects)
    (member (codes "records") (list record_json records)
    (member (codes "mover") (mover_json mover) no_members)))))

-- an anode
abbrev pub object_json : ℕ → ℕ → Option Status → List Piece → List DirEntry → Json
object_json anode unique status pieces entries = tagged (codes "object") (object
    (member (codes "anode") (whole anode)
    (member (codes "unique") (whole unique)
    (member (codes "status") (maybe status_json status)
    (member (codes "pieces") (list piece_json pieces)
    (member (codes "entries") (list entry_json entries) no_members))))))

unfoldable pub part_json : ShipPart → Json
part_json (Head name objects records mover) = head_json name objects records mover
part_json (Object anode unique status pieces entries) = object_json anode unique status pieces entries
