-- What the opening of a server's disk makes of it.
use Rattle.std.specs.Prelude.{
  ◌≡◌,
  ◌⊎◌,
  ⊤,
  ℕ,
  true,
  false,
  List,
  length,
  Option,
  Some,
  None,
  IsTrue,
  if◌then◌else◌,
}
use Rattle.base_types.specs.Crash.{IsQuiet}
use Rattle.base_types.specs.Faults.{RoseBy}
use Rattle.base_types.specs.View.{View}
use Rattle.base_types.specs.declared.ids.ServerId.{ServerId}
use Rattle.tree_calls.specs.declared.roster.Roster.{Roster}
use Rattle.base_outside.specs.Runs.{LeavesOnly}
use Rattle.store_state.specs.Capacity.{capacity_of}
use Rattle.store_state.specs.State.{new_state}
use Rattle.store_state.specs.declared.state.StoreState.{StoreState}
use Rattle.disk_image.specs.Aggregate.{is_blank}
use Rattle.disk_image.specs.Refused.{refused_at}
use Rattle.disk_records.specs.Record.{record_in}
use Rattle.disk_aggregate.specs.Records.{HasSameRecord, IsLeftOfFormat}
use Rattle.disk_aggregate.specs.declared.refused.MountRefused.{MountRefused}
use Rattle.disk_aggregate.specs.declared.refused.MountRefused.TheVariants.{NotAggregate, Failed, Memory}

-- the store of a server of a roster before its first act
abbrev pub new_store : Roster → ServerId → StoreState
new_store roster server = new_state server (capacity_of roster server) roster

-- The store on a server's disk with these bytes: a new one where the disk is blank, else the one whose record they
-- have.
abbrev pub store_on : Roster → ServerId → List ℕ → Option StoreState
store_on roster server image =
    if is_blank image then Some (new_store roster server) else record_in roster server image

-- why a blank disk wasn't formatted: it failed twice, the second time at its last call; or memory ran out
abbrev pub IsNotFormatted : MountRefused → View → View → Type 0
IsNotFormatted Failed old new = RoseBy 2 old.faults new.faults × IsTrue new.last_failed
IsNotFormatted Memory old new = ⊤
IsNotFormatted (NotAggregate place) old new = ⊥

-- Why a disk that isn't blank wasn't mounted: its bytes as they are now are refused at this place, and they are those
-- with which it was handed in, or it failed meanwhile; or the disk failed twice, or memory ran out, as above.
abbrev pub IsNotMounted : Type 0 → Roster → ServerId → MountRefused → View → View → Type 0
IsNotMounted tells roster server (NotAggregate place) old new =
    (IsQuiet old new ⊎ RoseBy 1 old.faults new.faults)
    × (tells → refused_at server.0 (length roster.capacity) new.image ≡ Some place)
IsNotMounted tells roster server Failed old new = RoseBy 2 old.faults new.faults × IsTrue new.last_failed
IsNotMounted tells roster server Memory old new = ⊤

-- why the disk of a server wasn't opened: no blank one is refused by its bytes
abbrev pub IsNotOpened : Type 0 → Roster → ServerId → MountRefused → View → View → Type 0
IsNotOpened tells roster server (NotAggregate place) old new =
    IsNotMounted tells roster server (NotAggregate place) old new × (tells → is_blank old.image ≡ false)
IsNotOpened tells roster server why old new = IsNotMounted tells roster server why old new

-- a disk that was mounted, and didn't fail meanwhile, isn't refused by the bytes with which it was handed in
abbrev pub IsTaken : Roster → ServerId → View → View → Type 0
IsTaken roster server old new =
    (RoseBy 1 old.faults new.faults → ⊥) → refused_at server.0 (length roster.capacity) old.image ≡ None

-- What a crash in the opening of a disk with these bytes leaves: of a blank one no log, refused at place 0, or the new
-- store; of any other the record that it had.
abbrev pub IsLeftOfOpening : Roster → ServerId → List ℕ → List ℕ → Type 0
IsLeftOfOpening roster server image c =
    ((is_blank image ≡ true) × IsLeftOfFormat (new_store roster server) c)
    ⊎ ((is_blank image ≡ false) × HasSameRecord roster server image c)

-- A crash in the format of a disk leaves what could be left before, no log, or the new store.
abbrev pub LeavesFormatted : Roster → ServerId → View → View → Type 0
LeavesFormatted roster server old new = LeavesOnly (IsLeftOfFormat (new_store roster server)) old new

-- a crash in the opening of a disk leaves what could be left before, or that
abbrev pub LeavesOpened : Roster → ServerId → View → View → Type 0
LeavesOpened roster server old new = LeavesOnly (IsLeftOfOpening roster server old.image) old new
