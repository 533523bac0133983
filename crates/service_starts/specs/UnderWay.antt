-- What the stores of all servers keep of a file tree while filesets are on their way.
use Rattle.std.specs.Prelude.{
  ◌≡◌,
  ◌<◌,
  ℕ,
  ◌+◌,
  Bool,
  true,
  false,
  ◌||◌,
  List,
  length,
  map,
  slice_get,
  Option,
  Some,
  None,
  option_and_then,
}
use Rattle.std.specs.List.{find}
use Rattle.base_types.specs.declared.ids.FilesetId.{FilesetId}
use Rattle.base_types.specs.declared.ids.ServerId.{ServerId}
use Rattle.tree_filesets.specs.declared.fileset.Fileset.{Fileset}
use Rattle.tree_answers.specs.Finding.{has_id}
use Rattle.tree_answers.specs.Founding.{room_of}
use Rattle.tree_answers.specs.declared.tree.Away.{Away}
use Rattle.tree_answers.specs.declared.tree.Tree.{Tree}
use Rattle.store_records.specs.Stored.{IsStorable}
use Rattle.store_acts.specs.Moving.{stays_so}
use Rattle.store_laws.specs.Founds.{room_in}
use Rattle.store_state.specs.State.{is_arriving, is_gone, is_leaving, is_of, held_so}
use Rattle.store_state.specs.declared.state.Holding.{Holding}
use Rattle.store_state.specs.declared.state.Stay.{Stay}
use Rattle.store_state.specs.declared.state.Stay.TheVariants.{Writable, Clone, Leaving, Arriving, Gone}
use Rattle.store_state.specs.declared.state.StoreState.{StoreState}
use Rattle.store_laws.specs.TreeKeeping.{fileset_at, fileset_kept, gone_from, record_at}

-- a record for which no room is kept
abbrev pub free : Away → Away
free away = record away { room_kept = false }

-- the tree in which no server keeps room for a fileset that left it
abbrev pub freed : Tree → Tree
freed tree = record tree { away = map free tree.away }

-- whether a fileset is leaving a store, or has left it
abbrev pub is_out : Stay → Bool
is_out stay = is_leaving stay || is_gone stay

-- the record that a server has of a fileset that is leaving its store, and for which it keeps room, or has left it
abbrev pub record_so : ServerId → Fileset → Stay → Option Away
record_so server fileset Writable = None
record_so server fileset Clone = None
record_so server fileset (Leaving to ship) = Some (record (gone_from server fileset to) { room_kept = true })
record_so server fileset (Arriving from ship parts) = None
record_so server fileset (Gone to) = Some (gone_from server fileset to)

-- the record that a server has of a fileset by its store
abbrev pub record_held : StoreState → FilesetId → Option Away
record_held state id =
    option_and_then (λ holding. record_so state.server holding.fileset holding.stay) (held_so (is_of id) state.slots)

-- what the store of a server holds of a fileset
pub record IsHeldBy (states : List StoreState) (server : ServerId) (id : FilesetId) (holding : Holding) : Type 0 where
  pub place : ℕ
  pub state : StoreState
  pub there : slice_get states place ≡ Some state
  pub own : state.server ≡ server
  pub held : held_so (is_of id) state.slots ≡ Some holding

-- Of a fileset that is arriving at a server the head alone came. Another server's store has it, leaving for this one
-- under the same ship, and with one move fewer; a tree has it at this server, with the content that the other one has.
pub record IsComing (tree : Tree) (states : List StoreState)
    (server : ServerId) (id : FilesetId) (holding : Holding) (from : ServerId) (ship parts : ℕ) (sent : Holding) :
    Type 0 where
  pub head : parts ≡ 1
  pub held : IsHeldBy states from id sent
  pub leaves : sent.stay ≡ Leaving server ship
  pub moves : holding.fileset.moves ≡ sent.fileset.moves + 1
  pub name : holding.fileset.name ≡ sent.fileset.name
  pub objects : holding.fileset.objects ≡ sent.fileset.objects
  pub there : fileset_at tree server id
      ≡ Some (record sent.fileset { server = server; moves = holding.fileset.moves })

-- One of the stores keeps its server's part of a tree, as one does in which none is on its way, but for those that are.
pub record KeepsUnderWay (tree : Tree) (states : List StoreState) (state : StoreState) : Type 0 where
  pub storable : IsStorable state
  pub roster : state.roster ≡ tree.roster
  -- it has the room for further filesets that its server has in the tree
  pub room : room_of tree.servers state.server ≡ Some (room_in state)
  -- it has those filesets that are at its server, as they are there, but for those that are arriving
  pub filesets : (id : FilesetId) → stays_so state id is_arriving ≡ false
      → fileset_kept state id ≡ fileset_at tree state.server id
  pub arriving : (id : FilesetId) (holding : Holding) (from : ServerId) (ship parts : ℕ)
      → held_so (is_of id) state.slots ≡ Some holding → holding.stay ≡ Arriving from ship parts
      → (sent : Holding) × IsComing tree states state.server id holding from ship parts sent
  -- it remembers those that are leaving or moved away; each has moved more often since
  pub records : (id : FilesetId) → record_held state id ≡ record_at tree state.server id
  pub older : (id : FilesetId) (holding : Holding) (fileset : Fileset)
      → held_so (is_of id) state.slots ≡ Some holding → is_out holding.stay ≡ true
      → find (has_id id) tree.filesets ≡ Some fileset → holding.fileset.moves < fileset.moves
  -- where one is leaving for, something has come
  pub leaving : (id : FilesetId) (holding : Holding) (to : ServerId) (ship : ℕ)
      → held_so (is_of id) state.slots ≡ Some holding → holding.stay ≡ Leaving to ship
      → (come : Holding) × IsHeldBy states to id come × (holding.fileset.moves < come.fileset.moves)

-- There is a store for each server, in their order, and each keeps its part of a tree so.
pub record KeepUnderWay (tree : Tree) (states : List StoreState) : Type 0 where
  pub count : length states ≡ length tree.roster.capacity
  pub own : (k : ℕ) (state : StoreState) → slice_get states k ≡ Some state → state.server ≡ record { 0 = k + 1 }
  pub keeps : (k : ℕ) (state : StoreState) → slice_get states k ≡ Some state → KeepsUnderWay tree states state
