-- What the store of a server keeps of a file tree.
use Rattle.std.specs.Prelude.{◌≡◌, ◌<◌, ◌==◌, true, false, ◌||◌, if◌then◌else◌, Option, Some, None, option_and_then}
use Rattle.std.specs.List.{find}
use Rattle.std.specs.Option.{option_map}
use Rattle.base_types.specs.declared.ids.FilesetId.{FilesetId}
use Rattle.base_types.specs.declared.ids.ServerId.{ServerId}
use Rattle.tree_filesets.specs.declared.fileset.Fileset.{Fileset}
use Rattle.tree_answers.specs.declared.tree.Away.{Away}
use Rattle.tree_answers.specs.declared.tree.Tree.{Tree}
use Rattle.tree_answers.specs.Away.{is_away}
use Rattle.tree_answers.specs.Finding.{has_id}
use Rattle.tree_answers.specs.Founding.{room_of}
use Rattle.store_records.specs.Stored.{IsStorable}
use Rattle.store_laws.specs.Founds.{room_in}
use Rattle.store_state.specs.State.{is_here, is_gone, is_of, held_so}
use Rattle.store_state.specs.declared.state.Holding.{Holding}
use Rattle.store_state.specs.declared.state.Stay.{Stay}
use Rattle.store_state.specs.declared.state.Stay.TheVariants.{Writable, Clone, Leaving, Arriving, Gone}
use Rattle.store_state.specs.declared.state.StoreState.{StoreState}

-- a fileset, if it is at a server
abbrev pub if_at : ServerId → Fileset → Option Fileset
if_at server fileset = if fileset.server.0 == server.0 then Some fileset else None

-- the fileset of an id that is at a server
abbrev pub fileset_at : Tree → ServerId → FilesetId → Option Fileset
fileset_at tree server id = option_and_then (if_at server) (find (has_id id) tree.filesets)

-- a server's record of a fileset that moved away from it
abbrev pub record_at : Tree → ServerId → FilesetId → Option Away
record_at tree server id = find (is_away server id) tree.away

-- the fileset of a slot, if it is here
abbrev pub if_here : Holding → Option Fileset
if_here holding = if is_here holding.stay then Some holding.fileset else None

-- the fileset of an id that a store has here
abbrev pub fileset_kept : StoreState → FilesetId → Option Fileset
fileset_kept state id = option_and_then if_here (held_so (is_of id) state.slots)

-- the server that a fileset has left for
abbrev pub left_for : Stay → Option ServerId
left_for Writable = None
left_for Clone = None
left_for (Leaving to ship) = None
left_for (Arriving from ship parts) = None
left_for (Gone to) = Some to

-- the record of a fileset that has left a server, which keeps no more room for it
abbrev pub gone_from : ServerId → Fileset → ServerId → Away
gone_from server fileset to =
    record { server = server; fileset = fileset.id; name = fileset.name; to = to; room_kept = false }

-- what a slot tells of a fileset that has left
abbrev pub if_gone : ServerId → Holding → Option Away
if_gone server holding = option_map (gone_from server holding.fileset) (left_for holding.stay)

-- what a store still has of a fileset of an id that has left
abbrev pub record_kept : StoreState → FilesetId → Option Away
record_kept state id = option_and_then (if_gone state.server) (held_so (is_of id) state.slots)

-- The store of a server keeps its part of a tree. A disk can have it, and it is of the tree's roster.
pub record KeepsOf (tree : Tree) (state : StoreState) : Type 0 where
  pub storable : IsStorable state
  pub roster : state.roster ≡ tree.roster
  -- it has the room for further filesets that its server has in the tree
  pub room : room_of tree.servers state.server ≡ Some (room_in state)
  -- it has those filesets that are at its server, as they are there
  pub filesets : (id : FilesetId) → fileset_kept state id ≡ fileset_at tree state.server id
  -- it remembers those that moved away from there
  pub records : (id : FilesetId) → record_kept state id ≡ record_at tree state.server id
  -- and none is on its way
  pub still : (id : FilesetId) (holding : Holding)
      → held_so (is_of id) state.slots ≡ Some holding → (is_here holding.stay || is_gone holding.stay) ≡ true
  -- one that moved away has moved more often since than it had there
  pub older : (id : FilesetId) (holding : Holding) (fileset : Fileset)
      → held_so (is_of id) state.slots ≡ Some holding → is_gone holding.stay ≡ true
      → find (has_id id) tree.filesets ≡ Some fileset → holding.fileset.moves < fileset.moves
