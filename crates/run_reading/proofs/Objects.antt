-- What travels of objects, read back from JSON.
use Rattle.std.proofs.Common.{◌≡◌, refl, false, codes, if◌then◌else◌}
use Rattle.json.specs.Json.{Json}
use Rattle.message_json.specs.Calls.{access_entry_json}
use Rattle.message_json.specs.Objects.{entry_json, mover_json, part_json, piece_json, record_json, status_json}
use Rattle.message_json.specs.Values.{list, tagged}
use Rattle.message_types.specs.Soundness.{Each}
use Rattle.run_reading.proofs.Calls.{access_entry_is, access_entry_of, call_is, call_of}
use Rattle.run_reading.proofs.Forms.{
  IsRead,
  flag_of,
  held,
  is_case,
  is_null,
  letters_is,
  letters_of,
  list_is,
  list_of,
  maybe_is,
  maybe_of,
  part,
  whole_is,
  whole_of,
}
use Rattle.run_reading.specs.Messages.{
  TypedAccessEntry,
  TypedDirEntry,
  TypedMover,
  TypedPiece,
  TypedRecord,
  TypedShipPart,
  TypedStatus,
}
use Rattle.tree_calls.specs.declared.part.DirEntry.{DirEntry}
use Rattle.tree_calls.specs.declared.part.Piece.{Piece}
use Rattle.tree_calls.specs.declared.part.Status.{Status}
use Rattle.tree_calls.specs.declared.ship.Mover.{Mover}
use Rattle.tree_calls.specs.declared.ship.Record.{Record}
use Rattle.tree_calls.specs.declared.ship.ShipPart.{ShipPart}
use Rattle.tree_calls.specs.declared.ship.ShipPart.TheVariants.{Head, Object}

unfoldable pub piece_of : Json → Piece
piece_of j = record {
  from = whole_of (part 0 j);
  bytes = letters_of (part 1 j);
}

unfoldable pub entry_of : Json → DirEntry
entry_of j = record {
  name = letters_of (part 0 j);
  anode = whole_of (part 1 j);
  unique = whole_of (part 2 j);
}

unfoldable pub status_of : Json → Status
status_of j = record {
  dir = flag_of (part 0 j);
  read_only = flag_of (part 1 j);
  length = whole_of (part 2 j);
  owner = letters_of (part 3 j);
  group = letters_of (part 4 j);
  lists = list_of (list_of access_entry_of) (part 5 j);
}

unfoldable pub record_of : Json → Record
record_of j = record {
  change = whole_of (part 0 j);
  give = whole_of (part 1 j);
  code = whole_of (part 2 j);
  right = whole_of (part 3 j);
}

unfoldable pub mover_of : Json → Mover
mover_of j = record {
  host = record { 0 = whole_of (part 0 j) };
  number = whole_of (part 1 j);
  k = whole_of (part 2 j);
  call = call_of (part 3 j);
}

unfoldable pub part_of : Json → ShipPart
part_of j =
    if is_case (codes "head") j then Head (letters_of (part 0 (held j))) (whole_of (part 1 (held j))) (list_of record_of (part 2 (held j))) (mover_of (part 3 (held j))) else
    Object (whole_of (part 0 (held j))) (whole_of (part 1 (held j))) (maybe_of status_of (part 2 (held j))) (list_of piece_of (part 3 (held j))) (list_of entry_of (part 4 (held j)))

pub piece_is : (x : Piece) → TypedPiece x → IsRead piece_of piece_json x
unfolding piece_json piece_of
piece_is x t =
    let a0 = whole_is x.from t.0 in
    let a1 = letters_is x.bytes t.1 in
    (rw (a0.0, a1.0), (a0.1, (a1.1, tt)))

pub entry_is : (x : DirEntry) → TypedDirEntry x → IsRead entry_of entry_json x
unfolding entry_json entry_of
entry_is x t =
    let a0 = letters_is x.name t.0 in
    let a1 = whole_is x.anode t.1 in
    let a2 = whole_is x.unique t.2 in
    (rw (a0.0, a1.0, a2.0), (a0.1, (a1.1, (a2.1, tt))))

pub status_is : (x : Status) → TypedStatus x → IsRead status_of status_json x
unfolding status_json status_of
status_is x t =
    let a2 = whole_is x.length t.0 in
    let a3 = letters_is x.owner t.1 in
    let a4 = letters_is x.group t.2 in
    let a5 = list_is (Each TypedAccessEntry) (list_of access_entry_of) (list access_entry_json) (list_is TypedAccessEntry access_entry_of access_entry_json access_entry_is) x.lists t.3 in
    (rw (a2.0, a3.0, a4.0, a5.0), (tt, (tt, (a2.1, (a3.1, (a4.1, (a5.1, tt)))))))

pub status_some : (x : Status) → is_null (status_json x) ≡ false
unfolding status_json
status_some x = refl

pub record_is : (x : Record) → TypedRecord x → IsRead record_of record_json x
unfolding record_json record_of
record_is x t =
    let a0 = whole_is x.change t.0 in
    let a1 = whole_is x.give t.1 in
    let a2 = whole_is x.code t.2 in
    let a3 = whole_is x.right t.3 in
    (rw (a0.0, a1.0, a2.0, a3.0), (a0.1, (a1.1, (a2.1, (a3.1, tt)))))

pub mover_is : (x : Mover) → TypedMover x → IsRead mover_of mover_json x
unfolding mover_json mover_of
mover_is x t =
    let a0 = whole_is x.host.0 t.0 in
    let a1 = whole_is x.number t.1 in
    let a2 = whole_is x.k t.2 in
    let a3 = call_is x.call t.3 in
    (rw (a0.0, a1.0, a2.0, a3.0), (a0.1, (a1.1, (a2.1, (a3.1, tt)))))

pub part_is : (x : ShipPart) → TypedShipPart x → IsRead part_of part_json x
unfolding tagged part_json part_of
part_is (Head name objects records mover) t =
    let a0 = letters_is name t.0 in
    let a1 = whole_is objects t.1 in
    let a2 = list_is TypedRecord record_of record_json record_is records t.2 in
    let a3 = mover_is mover t.3 in
    (rw (a0.0, a1.0, a2.0, a3.0), ((a0.1, (a1.1, (a2.1, (a3.1, tt)))), tt))
part_is (Object anode unique status pieces entries) t =
    let a0 = whole_is anode t.0 in
    let a1 = whole_is unique t.1 in
    let a2 = maybe_is TypedStatus status_of status_json status_is status_some status t.2 in
    let a3 = list_is TypedPiece piece_of piece_json piece_is pieces t.3 in
    let a4 = list_is TypedDirEntry entry_of entry_json entry_is entries t.4 in
    (rw (a0.0, a1.0, a2.0, a3.0, a4.0), ((a0.1, (a1.1, (a2.1, (a3.1, (a4.1, tt))))), tt))
