-- Which acts leave a record that a disk can have, and what is tested of it.
use Rattle.std.specs.Prelude.{◌≡◌, ◌≢◌, ℕ, nat_le, Bool, true, ◌&&◌, IsTrue, List, Some}
use Rattle.std.specs.List.{list_all}
use Rattle.std.specs.Option.{option_map_or}
use Rattle.base_types.specs.Name.{is_name}
use Rattle.base_types.specs.declared.ids.FilesetId.{FilesetId}
use Rattle.base_types.specs.declared.ids.ServerId.{ServerId}
use Rattle.base_types.specs.declared.limits.TheConstants.{OBJECTS_MAX}
use Rattle.tree_calls.specs.declared.part.DirEntry.{DirEntry}
use Rattle.tree_calls.specs.declared.ship.ShipPart.{ShipPart}
use Rattle.tree_calls.specs.declared.ship.ShipPart.TheVariants.{Head, Object}
use Rattle.tree_objects.specs.Sound.{names_rise}
use Rattle.tree_objects.specs.declared.content.Anode.{Anode}
use Rattle.tree_filesets.specs.Laws.{entries_in}
use Rattle.tree_filesets.specs.WellFormed.{is_at_rest, IsWellFormed}
use Rattle.tree_filesets.specs.declared.fileset.Fileset.{Fileset}
use Rattle.store_acts.specs.Acts.{act_done}
use Rattle.store_acts.specs.Sound.{Fits, IsAct, IsAllowed}
use Rattle.store_acts.specs.declared.act.Act.{Act}
use Rattle.store_state.specs.State.{held_so, is_of}
use Rattle.store_state.specs.declared.state.Holding.{Holding}
use Rattle.store_state.specs.declared.state.Stay.{Stay}
use Rattle.store_state.specs.declared.state.Stay.TheVariants.{Writable, Clone, Leaving, Arriving, Gone}
use Rattle.store_state.specs.declared.state.StoreState.{StoreState}
use Rattle.store_records.specs.Stored.{IsStorable, MayArrive}
use Rattle.store_records.specs.Tree.{entries_at}

-- whether an entry leads to an anode that there may be
abbrev pub is_within : DirEntry → Bool
is_within entry = nat_le 1 entry.anode && nat_le entry.anode OBJECTS_MAX

-- whether all entries of all directories do
abbrev pub are_within : List Anode → Bool
are_within anodes =
    list_all (λ anode. option_map_or (λ object. list_all is_within (entries_in object.content)) anode.object true)
    anodes

-- in each directory names rise
abbrev pub AllRise : List Anode → Type 0
AllRise anodes = (at : ℕ) → names_rise (entries_at anodes at) ≡ true

-- what came of a fileset with nothing unsaved may have come so far, or is a whole fileset
abbrev pub MayHold : Fileset → Stay → Type 0
MayHold fileset Writable = is_at_rest fileset ≡ true → IsWellFormed fileset
MayHold fileset Clone = Unit {0}
MayHold fileset (Leaving to ship) = Unit {0}
MayHold fileset (Arriving from ship parts) = MayArrive fileset.objects parts fileset.anodes
MayHold fileset (Gone to) = Unit {0}

-- a head is another server's, of a fileset that may be here; behind another part a fileset is held that may be
abbrev pub MayCome : StoreState → ServerId → FilesetId → ShipPart → Type 0
MayCome after from id (Head name objects records mover) =
    (from.0 ≢ after.server.0) × IsAllowed after id × IsTrue (is_name name)
MayCome after from id (Object anode unique status pieces entries) =
    (holding : Holding) → held_so (is_of id) after.slots ≡ Some holding → MayHold holding.fileset holding.stay

-- what is held has nothing unsaved, and in its directories names rise
pub record IsPlain (fileset : Fileset) : Type 0 where
  pub rest : is_at_rest fileset ≡ true
  pub rise : AllRise fileset.anodes

-- it is so of a fileset that came
abbrev pub CamePlain : StoreState → FilesetId → ShipPart → Type 0
CamePlain after id (Head name objects records mover) = Unit {0}
CamePlain after id (Object anode unique status pieces entries) =
    (holding : Holding) → held_so (is_of id) after.slots ≡ Some holding → IsPlain holding.fileset

-- an act left this record, of one that a disk can have
pub record WasDone (before : StoreState) (act : Act) (after : StoreState) : Type 0 where
  pub storable : IsStorable before
  pub allowed : IsAct before.roster before.server act
  pub done : after ≡ (act_done before act).state

-- what the act left is one that a disk can have
abbrev pub LeavesStorable : Act → StoreState → Type 0
LeavesStorable act after = (before : StoreState) → WasDone before act after → IsStorable after

-- the act was done now, and didn't fit
abbrev pub DidntFit : Act → StoreState → Type 0
DidntFit act after =
    (before : StoreState) → WasDone before act after → (act_done before act).done.fresh ≡ true → Fits before act → ⊥
