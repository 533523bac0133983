-- What acts a store takes, and what it keeps within limits.
use Rattle.std.specs.Prelude.{
  ◌≡◌,
  ◌≢◌,
  ◌≤◌,
  ◌<◌,
  ℕ,
  ◌+◌,
  ◌-◌,
  ◌^◌,
  ◌/◌,
  ◌%◌,
  true,
  false,
  List,
  [],
  ◌∷◌,
  length,
  take,
  Option,
  Some,
  IfSome,
  IsTrue,
}
use Rattle.base_types.specs.Name.{is_name}
use Rattle.base_types.specs.declared.ids.FilesetId.{FilesetId}
use Rattle.base_types.specs.declared.ids.ServerId.{ServerId}
use Rattle.base_types.specs.declared.limits.TheConstants.{
  BATCH_ACTS_MAX,
  FILE_BYTES_MAX,
  FILESETS_MAX,
  HOSTS_MAX,
  OBJECTS_MAX,
  SERVERS_MAX,
}
use Rattle.tree_calls.specs.declared.call.Call.{Call}
use Rattle.tree_calls.specs.declared.call.Call.TheVariants.{
  NewFileset,
  Create,
  MakeDir,
  Remove,
  Rename,
  Truncate,
  SetAcl,
  CloneFileset,
  Read,
  Write,
  List as ListNames,
  Stat,
  GetAcl,
  Sync,
  Lock,
  Unlock,
  OpenFile,
  CloseFile,
  MoveFileset,
}
use Rattle.tree_calls.specs.declared.roster.Roster.{Roster}
use Rattle.tree_calls.specs.declared.ship.Mover.{Mover}
use Rattle.tree_calls.specs.declared.ship.Record.{Record}
use Rattle.tree_calls.specs.declared.ship.ShipPart.{ShipPart}
use Rattle.tree_filesets.specs.declared.fileset.Fileset.{Fileset}
use Rattle.tree_filesets.specs.WellFormed.{IsWellFormed, is_at_rest}
use Rattle.message_types.specs.Soundness.{Each, IsServer, IsHost, IsCall, IsKept, IsPart}
use Rattle.store_acts.specs.declared.act.Act.{Act}
use Rattle.store_acts.specs.declared.act.Act.TheVariants.{
  Boot,
  Epoch,
  Host,
  Do,
  Refuse,
  Give,
  Leave,
  Back,
  Left,
  Settle,
  Part,
}
use Rattle.store_state.specs.declared.state.Holding.{Holding}
use Rattle.store_state.specs.declared.state.Stay.{Stay}
use Rattle.store_state.specs.declared.state.Stay.TheVariants.{Writable, Clone, Leaving, Arriving, Gone}
use Rattle.store_state.specs.declared.state.StoreState.{StoreState}
use Rattle.store_acts.specs.Acts.{act_done}
use Rattle.store_state.specs.Sought.{awaits}
use Rattle.store_acts.specs.Parts.{are_told, part_of}
use Rattle.store_state.specs.State.{held_so}

-- a new fileset is the store's server's
abbrev pub IsFor : ServerId → Call → Type 0
IsFor server (NewFileset at name objects owner) = at ≡ server
IsFor server _ = Unit {0}

-- a call that a `Do` may have: of the first eight
abbrev pub IsDecided : Call → Type 0
IsDecided (NewFileset at name objects owner) = Unit {0}
IsDecided (Create place) = Unit {0}
IsDecided (MakeDir place) = Unit {0}
IsDecided (Remove place) = Unit {0}
IsDecided (Rename from to) = Unit {0}
IsDecided (Truncate place len) = Unit {0}
IsDecided (SetAcl place which list) = Unit {0}
IsDecided (CloneFileset at name new) = Unit {0}
IsDecided (Read place from len) = ⊥
IsDecided (Write place from bytes) = ⊥
IsDecided (ListNames place) = ⊥
IsDecided (Stat place) = ⊥
IsDecided (GetAcl place which) = ⊥
IsDecided (Sync place) = ⊥
IsDecided (Lock label place writing from len) = ⊥
IsDecided (Unlock label) = ⊥
IsDecided (OpenFile label place kind) = ⊥
IsDecided (CloseFile label) = ⊥
IsDecided (MoveFileset server name to) = ⊥

-- an act that a store may be given: hosts and servers are declared, and what it brings is within the limits
abbrev pub IsAct : Roster → ServerId → Act → Type 0
IsAct roster server Boot = Unit {0}
IsAct roster server Epoch = Unit {0}
IsAct roster server (Host host known) = IsHost roster host
IsAct roster server (Do host number call) = IsHost roster host × IsDecided call × IsFor server call × IsCall roster call
IsAct roster server (Refuse host id number refusal) = IsHost roster host
IsAct roster server (Give host number fid pieces given) =
    IsHost roster host × Each (λ piece. piece.from + length piece.bytes ≤ FILE_BYTES_MAX) pieces
    × IfSome given (λ n. n ≤ FILE_BYTES_MAX)
IsAct roster server (Leave id to) = IsServer roster to
IsAct roster server (Back host number id refusal) = IsHost roster host
IsAct roster server (Left id) = Unit {0}
IsAct roster server (Settle id) = Unit {0}
IsAct roster server (Part from ship id moves at part) = IsServer roster from × IsPart roster at part

-- a part that has a next one in 32 bits
abbrev pub HasNext : Act → Type 0
HasNext (Part from ship id moves at part) = at < 2 ^ 32 - 1
HasNext _ = Unit {0}

-- a batch that a store may be given
pub record AreActs (roster : Roster) (server : ServerId) (acts : List Act) : Type 0 where
  pub few : length acts ≤ BATCH_ACTS_MAX
  pub each : Each (IsAct roster server) acts

-- an id that a fileset in a store can have: a server's number, and a number that the store's own server gave, if it is
-- its
pub record IsAllowed (state : StoreState) (id : FilesetId) : Type 0 where
  pub first : 1 ≤ id.0 / 65536
  pub last : id.0 / 65536 ≤ SERVERS_MAX
  pub number : 1 ≤ id.0 % 65536
  pub given : id.0 / 65536 ≡ state.server.0 → id.0 % 65536 < state.next

-- a part of a fileset, as a store that it leaves tells it
abbrev pub IsPartOf : Fileset → ℕ → ShipPart → Type 0
IsPartOf fileset at part =
    (stay : Stay) × (records : List Record) × (mover : Mover)
    × (part ≡ part_of (record { stay = stay; fileset = fileset; records = records }) at mover)

-- what was taken of a fileset so far, where its next part is this one
pub record IsTakenSoFar (fileset : Fileset) (at : ℕ) (holding : Holding) : Type 0 where
  pub name : holding.fileset.name ≡ fileset.name
  pub objects : holding.fileset.objects ≡ fileset.objects
  pub anodes : holding.fileset.anodes ≡ take (at - 1) fileset.anodes

-- a part fits: it is one of some fileset, as those that were taken before it
pub record FitsAt (state : StoreState)
    (from : ServerId) (ship : ℕ) (id : FilesetId) (moves at : ℕ) (told : ShipPart) (fileset : Fileset) : Type 0 where
  pub other : from.0 ≢ state.server.0
  pub allowed : IsAllowed state id
  pub named : IsTrue (is_name fileset.name)
  pub well_formed : IsWellFormed fileset
  pub settled : is_at_rest fileset ≡ true
  pub whole : are_told fileset.anodes ≡ true
  pub writable : fileset.read_only ≡ false
  pub part : IsPartOf fileset at told
  pub taken : (holding : Holding)
      → held_so (awaits id from ship moves at) state.slots ≡ Some holding → IsTakenSoFar fileset at holding

-- a fileset that a call makes gets a name
abbrev pub HasName : Call → Type 0
HasName (NewFileset at name objects owner) = IsTrue (is_name name)
HasName (CloneFileset at name new) = IsTrue (is_name new)
HasName _ = Unit {0}

-- an act that leaves what a disk can hold: filesets have names, and leave for other servers and come from such
abbrev pub Fits : StoreState → Act → Type 0
Fits state (Do host number call) = HasName call
Fits state (Leave id to) = to.0 ≢ state.server.0
Fits state (Part from ship id moves at part) = (fileset : Fileset) × FitsAt state from ship id moves at part fileset
Fits state _ = Unit {0}

-- each act of a batch fits what those before it make
abbrev pub AllFit : StoreState → List Act → Type 0
AllFit state [] = Unit {0}
AllFit state (act ∷ acts) = Fits state act × AllFit (act_done state act).state acts

-- what is kept of requests: a record for each host that there can be
pub record AreRecords (records : List Record) : Type 0 where
  pub count : length records ≡ HOSTS_MAX + 1
  pub each : Each IsKept records

-- another server that a stay names is declared
abbrev pub IsStay : Roster → Stay → Type 0
IsStay roster Writable = Unit {0}
IsStay roster Clone = Unit {0}
IsStay roster (Leaving to ship) = IsServer roster to
IsStay roster (Arriving from ship parts) = IsServer roster from
IsStay roster (Gone to) = IsServer roster to

pub record IsHolding (roster : Roster) (holding : Holding) : Type 0 where
  pub stay : IsStay roster holding.stay
  pub least : 1 ≤ holding.fileset.objects
  pub most : holding.fileset.objects ≤ OBJECTS_MAX
  pub records : AreRecords holding.records

-- what a store keeps of filesets and requests is within the limits
pub record KeepsLimits (state : StoreState) : Type 0 where
  pub table : length state.slots ≡ FILESETS_MAX
  pub records : AreRecords state.records
  pub slots : Each (λ slot. IfSome slot (IsHolding state.roster)) state.slots
