-- A store that keeps its part of a tree, and what one entry and one act make of both.
use Rattle.std.proofs.Common.{◌≡◌, ◌==◌, ◌/◌, Bool, true, false, ◌||◌, Option, Some, None, refl, sym, ap, ◌∙◌, subst, arith, ◌<◌, ◌≤◌}
use Rattle.std.specs.Prelude.{if◌then◌else◌, option_and_then}
use Rattle.std.specs.List.{find}
use Rattle.base_types.specs.declared.ids.FilesetId.{FilesetId}
use Rattle.base_types.specs.declared.ids.ServerId.{ServerId}
use Rattle.tree_filesets.specs.declared.fileset.Fileset.{Fileset}
use Rattle.tree_answers.specs.declared.tree.Tree.{Tree}
use Rattle.tree_answers.specs.Finding.{has_id}
use Rattle.tree_answers.specs.Founding.{room_of}
use Rattle.store_records.specs.Stored.{IsStorable}
use Rattle.store_laws.specs.Founds.{room_in}
use Rattle.store_state.specs.State.{is_here, is_gone, is_of, is_server, slot_so, held_so}
use Rattle.store_state.specs.declared.state.Holding.{Holding}
use Rattle.store_state.specs.declared.state.StoreState.{StoreState}
use Rattle.store_laws.specs.TreeKeeping.{if_at, fileset_at, record_at, if_here, if_gone, KeepsOf}
use Rattle.store_laws.proofs.Called.{same_id}
use Rattle.store_laws.proofs.Keys.{same_key, equal_keys}
use Rattle.store_laws.proofs.Slots.{Table, ChangesOne, held_passes}

-- what a table has of an id is what a tree has of it at a server
pub record IsPart (tree : Tree) (server : ServerId) (id : FilesetId) (found : Option Holding) : Type 0 where
  pub fileset : option_and_then if_here found ≡ fileset_at tree server id
  pub gone : option_and_then (if_gone server) found ≡ record_at tree server id
  pub still : (holding : Holding) → found ≡ Some holding → (is_here holding.stay || is_gone holding.stay) ≡ true
  pub older : (holding : Holding) (fileset : Fileset) → found ≡ Some holding → is_gone holding.stay ≡ true
      → find (has_id id) tree.filesets ≡ Some fileset → holding.fileset.moves < fileset.moves

pub part_of : (tree : Tree) (state : StoreState) (id : FilesetId) → KeepsOf tree state →
    IsPart tree state.server id (held_so (is_of id) state.slots)
part_of tree state id k = record { fileset = k.filesets id; gone = k.records id; still = k.still id; older = k.older id }

-- all of them are so
pub keeps_parts : (tree : Tree) (state : StoreState) → IsStorable state → state.roster ≡ tree.roster →
    room_of tree.servers state.server ≡ Some (room_in state) →
    ((id : FilesetId) → IsPart tree state.server id (held_so (is_of id) state.slots)) → KeepsOf tree state
keeps_parts tree state storable roster room parts = record {
  storable = storable;
  roster = roster;
  room = room;
  filesets = λ id. (parts id).fileset;
  records = λ id. (parts id).gone;
  still = λ id. (parts id).still;
  older = λ id. (parts id).older;
}

-- a tree has the same of an id at a server
pub record SameAt (old new : Tree) (server : ServerId) (id : FilesetId) : Type 0 where
  pub fileset : fileset_at new server id ≡ fileset_at old server id
  pub record_is : record_at new server id ≡ record_at old server id
  pub moves : (after : Fileset) → find (has_id id) new.filesets ≡ Some after
      → (before : Fileset) × (find (has_id id) old.filesets ≡ Some before) × (before.moves ≤ after.moves)

-- the same fileset
pub same_found : (old new : Tree) (id : FilesetId) → find (has_id id) new.filesets ≡ find (has_id id) old.filesets →
    (after : Fileset) → find (has_id id) new.filesets ≡ Some after →
    (before : Fileset) × (find (has_id id) old.filesets ≡ Some before) × (before.moves ≤ after.moves)
same_found old new id same after e = (after, sym same ∙ e, omega arith)

pub same_part : (old new : Tree) (server : ServerId) (id : FilesetId) (found : Option Holding) →
    SameAt old new server id → IsPart old server id found → IsPart new server id found
same_part old new server id found s p =
    record {
      fileset = p.fileset ∙ sym s.fileset;
      gone = p.gone ∙ sym s.record_is;
      still = p.still;
      older = λ holding after e gone there.
          (let (before, was, least) = s.moves after there in
          let less = p.older holding before e gone was in
          omega (arith, least, less));
    }

-- Where one id changes in a tree and in a table, and is the same in both then, all are.
pub parts_step : (old new : Tree) (server : ServerId) (slots news : Table) (id : FilesetId) (found : Option Holding) →
    ((any : FilesetId) → IsPart old server any (held_so (is_of any) slots)) → ChangesOne slots news id found →
    ((other : FilesetId) → (other.0 == id.0) ≡ false → SameAt old new server other) → IsPart new server id found →
    (any : FilesetId) → IsPart new server any (held_so (is_of any) news)
parts_step old new server slots news id found parts changes same here any = by (any.0 == id.0) refl
  where
    by : (t : Bool) → (any.0 == id.0) ≡ t → IsPart new server any (held_so (is_of any) news)
    by true e =
        subst (λ i. IsPart new server i (held_so (is_of i) news)) (sym (same_id any id e))
        (subst (IsPart new server id) (sym changes.here) here)
    by false e =
        subst (IsPart new server any) (sym (changes.others any e))
        (same_part old new server any (held_so (is_of any) slots) (same any e) (parts any))

-- A fileset that is at a store's server is held there.
pub record IsHeld (state : StoreState) (fileset : Fileset) (holding : Holding) : Type 0 where
  pub held : held_so (is_of fileset.id) state.slots ≡ Some holding
  pub here : is_here holding.stay ≡ true
  pub same : holding.fileset ≡ fileset

pub at_server : (fileset : Fileset) (server : ServerId) → fileset.server ≡ server → if_at server fileset ≡ Some fileset
at_server fileset server e =
    ap (λ b. if b then Some fileset else None) (ap (λ (s : ServerId). s.0 == server.0) e ∙ same_key server.0)

pub held_here : (tree : Tree) (state : StoreState) (fileset : Fileset) → KeepsOf tree state →
    find (has_id fileset.id) tree.filesets ≡ Some fileset → fileset.server ≡ state.server →
    (holding : Holding) × IsHeld state fileset holding
held_here tree state fileset k there at =
    by (held_so (is_of fileset.id) state.slots) refl
    (k.filesets fileset.id ∙ ap (option_and_then (if_at state.server)) there ∙ at_server fileset state.server at)
  where
    by : (found : Option Holding) → held_so (is_of fileset.id) state.slots ≡ found →
        option_and_then if_here found ≡ Some fileset → (holding : Holding) × IsHeld state fileset holding
    by None e h = absurd (cc)
    by (Some holding) e h = here (is_here holding.stay) refl h
      where
        here : (b : Bool) → is_here holding.stay ≡ b → (if b then Some holding.fileset else None) ≡ Some fileset →
            (holding : Holding) × IsHeld state fileset holding
        here true s h = (holding, record { held = e; here = s; same = cc })
        here false s h = absurd (cc)

-- no fileset has the id of a server itself
pub not_server : (state : StoreState) (id : FilesetId) (holding : Holding) → IsStorable state →
    held_so (is_of id) state.slots ≡ Some holding → is_server id ≡ false
not_server state id holding s e = by (is_server id) refl
  where
    by : (b : Bool) → is_server id ≡ b → b ≡ false
    by false k = refl
    by true k =
        let low = (s.each (slot_so (is_of id) state.slots) holding e).id.first in
        let its = equal_keys holding.fileset.id.0 id.0 (held_passes (is_of id) state.slots holding e) in
        let zero_is = equal_keys id.0 0 k in
        let is : holding.fileset.id.0 ≡ 0 = its ∙ zero_is in
        let none : holding.fileset.id.0 / 65536 ≡ 0 = ap (λ n. n / 65536) is in
        absurd (omega (arith, low, none))
