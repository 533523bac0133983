-- The file tree that a run starts from.
use Rattle.std.specs.Prelude.{true, false, if◌then◌else◌, List, [], insert, fold, Option, Some, None}
use Rattle.std.specs.List.{find, filter_map}
use Rattle.std.specs.Option.{option_map, option_map_or}
use Rattle.base_types.specs.declared.ids.ServerId.{ServerId}
use Rattle.tree_calls.specs.declared.roster.Roster.{Roster}
use Rattle.tree_filesets.specs.declared.fileset.Fileset.{Fileset}
use Rattle.tree_answers.specs.Away.{with_away}
use Rattle.tree_answers.specs.Finding.{has_id, id_place}
use Rattle.tree_answers.specs.declared.tree.Away.{Away}
use Rattle.tree_answers.specs.declared.tree.Tree.{Tree}
use Rattle.store_state.specs.declared.state.Stay.{Stay}
use Rattle.store_state.specs.declared.state.Stay.TheVariants.{Writable, Clone, Leaving, Arriving, Gone}
use Rattle.service_starts.specs.declared.told.Told.{Told}
use Rattle.service_starts.specs.Told.{told_of, Placed, placed, rooms_of, stands}

-- the filesets that a server's store keeps; none where there is no such server
abbrev pub kept_by : List Told → ServerId → List Fileset
kept_by all server = option_map_or (λ told. told.kept.filesets) (told_of all server) []

-- the server that keeps what there is of a fileset in a slot: of one that is arriving, the server that it comes from
abbrev pub keeper_of : ServerId → Stay → ServerId
keeper_of server Writable = server
keeper_of server Clone = server
keeper_of server (Leaving to ship) = server
keeper_of server (Arriving from ship parts) = from
keeper_of server (Gone to) = server

-- the fileset of a slot, at the slot's server and with its moves
abbrev pub fileset_of : List Told → Placed → Option Fileset
fileset_of all at =
    option_map {T = Fileset} {U = Fileset} (λ fileset. record fileset { server = at.server; moves = at.slot.moves })
    (find (has_id at.slot.fileset) (kept_by all (keeper_of at.server at.slot.stay)))

-- the fileset that is in a slot
abbrev pub fileset_in : List Told → Placed → Option Fileset
fileset_in all at = if stands all at.slot then fileset_of all at else None

-- the record of a fileset that left a slot for a server
abbrev pub left_for : Placed → ServerId → Away
left_for at to = record {
  server = at.server;
  fileset = at.slot.fileset;
  name = at.slot.name;
  to = to;
  room_kept = false;
}

-- the record of a slot. Its room is kept until the server learns that the fileset has arrived.
abbrev pub away_of : Placed → Stay → Option Away
away_of at Writable = None
away_of at Clone = None
away_of at (Leaving to ship) = Some (record (left_for at to) { room_kept = true })
away_of at (Arriving from ship parts) = None
away_of at (Gone to) = Some (left_for at to)

-- the record of a slot in which the fileset isn't
abbrev pub away_in : List Told → Placed → Option Away
away_in all at = if stands all at.slot then None else away_of at at.slot.stay

-- filesets with one more, in the order of their ids
abbrev pub with_one : List Fileset → Fileset → List Fileset
with_one filesets fileset = insert filesets (id_place filesets fileset.id) fileset

-- The tree that a run starts from: the fileset of each slot that it is in, and records of the other slots. Nothing is
-- in use.
abbrev pub start_of : Roster → List Told → Tree
start_of roster all = record {
  roster = roster;
  servers = rooms_of all;
  filesets = fold with_one [] (filter_map (fileset_in all) (placed all));
  away = fold with_away [] (filter_map (away_in all) (placed all));
  locks = [];
  opens = [];
}
