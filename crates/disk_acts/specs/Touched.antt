-- Which slots an act may change.
use Rattle.std.specs.Prelude.{
  ◌≡◌,
  ◌&&◌,
  ℕ,
  ◌==◌,
  Bool,
  true,
  false,
  if◌then◌else◌,
  List,
  Option,
  Some,
  None,
  map,
  replicate,
}
use Rattle.std.specs.Option.{option_map_or}
use Rattle.tree_calls.specs.declared.call.Call.{Call}
use Rattle.tree_calls.specs.declared.call.Call.TheVariants.{
  Create,
  MakeDir,
  Remove,
  Rename,
  Truncate,
  SetAcl,
  CloneFileset,
}
use Rattle.tree_filesets.specs.Founding.{unused_anode}
use Rattle.tree_objects.specs.declared.content.Anode.{Anode}
use Rattle.store_acts.specs.Acts.{act_done}
use Rattle.store_acts.specs.Moving.{arrival_slot}
use Rattle.store_acts.specs.Sound.{HasNext, IsAct}
use Rattle.store_acts.specs.declared.act.Act.{Act}
use Rattle.store_acts.specs.declared.act.Act.TheVariants.{Do, Refuse, Give, Leave, Back, Left, Settle, Part}
use Rattle.store_state.specs.Founding.{free_slot}
use Rattle.store_state.specs.Rows.{numbered_id, numbered_name}
use Rattle.store_state.specs.Sought.{awaits}
use Rattle.tree_filesets.specs.Laws.{is_file_at}
use Rattle.store_state.specs.State.{is_here_as, is_of, is_writable, held_at, slot_so}
use Rattle.store_state.specs.declared.state.Holding.{Holding}
use Rattle.store_state.specs.declared.state.StoreState.{StoreState}
use Rattle.disk_acts.specs.Records.{HasTables}
use Rattle.disk_acts.specs.Seen.{seen_anode}
use Rattle.disk_acts.specs.declared.touched.Before.{Before}

-- the name of the fileset that a call changes; none for a call about filesets themselves
abbrev pub called_name : Call → Option (List ℕ)
called_name (Create place) = Some place.fileset
called_name (MakeDir place) = Some place.fileset
called_name (Remove place) = Some place.fileset
called_name (Rename from to) = Some from.fileset
called_name (Truncate place len) = Some place.fileset
called_name (SetAcl place which list) = Some place.fileset
called_name _ = None

abbrev pub called_slot : StoreState → Option (List ℕ) → ℕ
called_slot state (Some name) = slot_so (is_here_as name) state.slots
called_slot state None = free_slot state.slots

-- the slot whose anodes an act may change; 16 for none
abbrev pub slot_touched : StoreState → Act → ℕ
slot_touched state (Do host number call) = called_slot state (called_name call)
slot_touched state (Give host number fid pieces given) = slot_so (is_of fid.fileset) state.slots
slot_touched state (Left id) = slot_so (is_of id) state.slots
slot_touched state (Settle id) = slot_so (is_of id) state.slots
slot_touched state (Part from ship id moves at part) =
    if at == 0 then arrival_slot state id else slot_so (awaits id from ship moves at) state.slots
slot_touched state _ = 16

-- the slot of which it may change all else
abbrev pub other_touched : StoreState → Act → ℕ
other_touched state (Do host number call) =
    option_map_or (λ id. slot_so (is_of id) state.slots) (numbered_id state (numbered_name call)) 16
other_touched state (Refuse host id number refusal) = slot_so (is_of id) state.slots
other_touched state (Leave id to) = slot_so (is_of id) state.slots
other_touched state (Back host number id refusal) = slot_so (is_of id) state.slots
other_touched state act = slot_touched state act

-- the slot that it clones
abbrev pub source_called : StoreState → Call → ℕ
source_called state (CloneFileset server source new) = slot_so (is_here_as source) state.slots
source_called state _ = 16

abbrev pub source_touched : StoreState → Act → ℕ
source_touched state (Do host number call) = source_called state call
source_touched state _ = 16

-- whether an act may change more of anodes than the bytes of one file
abbrev pub renews : Act → Bool
renews (Do host number call) = true
renews (Left id) = true
renews (Settle id) = true
renews (Part from ship id moves at part) = true
renews _ = false

-- the anodes of a slot; those of a free one were never used
abbrev pub anodes_before : Option Holding → List Anode
anodes_before None = replicate 64 unused_anode
anodes_before (Some holding) = holding.fileset.anodes

-- whether a give-back is on a file that is there and may be changed
abbrev pub gives : StoreState → Act → Bool
gives state (Give host number fid pieces given) =
    option_map_or (λ holding. is_writable holding.stay && is_file_at holding.fileset fid)
    (held_at state.slots (slot_so (is_of fid.fileset) state.slots)) false
gives state _ = false

-- what is kept of a store before an act
pub record IsBefore (state : StoreState) (act : Act) (before : Before) : Type 0 where
  pub slot : before.slot ≡ slot_touched state act
  pub other : before.other ≡ other_touched state act
  pub source : before.source ≡ source_touched state act
  pub given : before.gives ≡ gives state act
  pub anodes : renews act ≡ true
      → before.anodes ≡ map seen_anode (anodes_before (held_at state.slots (slot_touched state act)))

-- an act that is done now made the next store of one
pub record IsMade (old : StoreState) (act : Act) (before : Before) (next : StoreState) : Type 0 where
  pub tables : HasTables old
  pub is_act : IsAct old.roster old.server act
  pub part : HasNext act
  pub kept : IsBefore old act before
  pub fresh : (act_done old act).done.fresh ≡ true
  pub made : next ≡ (act_done old act).state
