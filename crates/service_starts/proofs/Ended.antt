-- Once no fileset is leaving, each store keeps its part of the tree in which no room is kept.
use Rattle.std.proofs.Common.{◌≡◌, ℕ, zero, suc, ◌+◌, Bool, true, false, ◌||◌, cond, List, [], ◌∷◌, Option, Some, None, refl, sym, ap, ◌∙◌}
use Rattle.std.specs.Prelude.{slice_get, option_and_then}
use Rattle.std.specs.List.{find}
use Rattle.std.specs.Option.{option_map, option_map_or}
use Rattle.base_types.specs.declared.ids.FilesetId.{FilesetId}
use Rattle.base_types.specs.declared.ids.ServerId.{ServerId}
use Rattle.store_memory.specs.Reading.{slot_told, slots_from}
use Rattle.store_memory.specs.declared.told.Slot.{Slot}
use Rattle.tree_answers.specs.declared.tree.Tree.{Tree}
use Rattle.service_starts.proofs.Freed.{record_freed, freed_formed, freed_same}
use Rattle.service_starts.specs.FinishLaws.{MovesEnd, ShipsAreTold, ship_told}
use Rattle.service_starts.specs.UnderWay.{KeepsUnderWay, KeepUnderWay, free, freed, is_out, record_held, record_so}
use Rattle.store_acts.specs.Moving.{stays_so}
use Rattle.store_state.specs.State.{is_arriving, is_gone, is_here, is_leaving, is_of, held_at, held_so, slot_so}
use Rattle.store_state.specs.declared.state.Holding.{Holding}
use Rattle.store_state.specs.declared.state.Stay.{Stay}
use Rattle.store_state.specs.declared.state.Stay.TheVariants.{Writable, Clone, Leaving, Arriving, Gone}
use Rattle.store_state.specs.declared.state.StoreState.{StoreState}
use Rattle.store_laws.proofs.Exact.{held_self}
use Rattle.store_laws.specs.TreeKeeping.{KeepsOf, gone_from, if_gone, left_for}

-- what is told of the slots, of the one that is found, and of each where none is
found_leaving : (n : ℕ) (slots : List (Option Holding)) (slot : Slot) →
    find (λ slot. is_leaving slot.stay) (slots_from n slots) ≡ Some slot →
    (place : ℕ) × (holding : Holding) × (held_at slots place ≡ Some holding) × (slot ≡ slot_told slot.at holding)
    × (is_leaving holding.stay ≡ true)
found_leaving n [] slot e = absurd (cc)
found_leaving n (None ∷ slots) slot e = let w = found_leaving (n + 1) slots slot e in (suc w.0, w.1, w.2, w.3, w.4)
found_leaving n (Some holding ∷ slots) slot e =
    by (is_leaving holding.stay) refl e (λ k. found_leaving (n + 1) slots slot k)
  where
    by : (b : Bool) → is_leaving holding.stay ≡ b →
        cond b (Some (slot_told n holding)) (find (λ slot. is_leaving slot.stay) (slots_from (n + 1) slots))
        ≡ Some slot →
        (find (λ slot. is_leaving slot.stay) (slots_from (n + 1) slots) ≡ Some slot →
        (place : ℕ) × (h : Holding) × (held_at slots place ≡ Some h) × (slot ≡ slot_told slot.at h)
        × (is_leaving h.stay ≡ true)) →
        (place : ℕ) × (h : Holding) × (held_at (Some holding ∷ slots) place ≡ Some h) × (slot ≡ slot_told slot.at h)
        × (is_leaving h.stay ≡ true)
    by true l k rest =
        let same : slot_told n holding ≡ slot = cc in
        (0, holding, refl, sym same ∙ ap (λ (s : Slot). slot_told s.at holding) same, l)
    by false l k rest = let w = rest k in (suc w.0, w.1, w.2, w.3, w.4)

none_leaving : (n : ℕ) (slots : List (Option Holding)) →
    find (λ slot. is_leaving slot.stay) (slots_from n slots) ≡ None → (place : ℕ) (holding : Holding) →
    held_at slots place ≡ Some holding → is_leaving holding.stay ≡ false
none_leaving n [] e place holding k = absurd (cc)
none_leaving n (None ∷ slots) e zero holding k = absurd (cc)
none_leaving n (None ∷ slots) e (suc place) holding k = none_leaving (n + 1) slots e place holding k
none_leaving n (Some first ∷ slots) e place holding k =
    by (is_leaving first.stay) refl e place k (λ f at g. none_leaving (n + 1) slots f at holding g)
  where
    by : (b : Bool) → is_leaving first.stay ≡ b →
        cond b (Some (slot_told n first)) (find (λ slot. is_leaving slot.stay) (slots_from (n + 1) slots)) ≡ None →
        (place : ℕ) → held_at (Some first ∷ slots) place ≡ Some holding →
        (find (λ slot. is_leaving slot.stay) (slots_from (n + 1) slots) ≡ None → (at : ℕ) →
        held_at slots at ≡ Some holding → is_leaving holding.stay ≡ false) → is_leaving holding.stay ≡ false
    by true l f place g rest = absurd (cc)
    by false l f zero g rest = let same : first ≡ holding = cc in ap (λ (h : Holding). is_leaving h.stay) (sym same) ∙ l
    by false l f (suc place) g rest = rest f place g

pub ships_none : (state : StoreState) (place : ℕ) (holding : Holding) → ship_told state ≡ None →
    held_at state.slots place ≡ Some holding → is_leaving holding.stay ≡ false
ships_none state place holding e k = none_leaving 0 state.slots e place holding k

-- and where none is leaving, none is told of
pub none_told : (n : ℕ) (slots : List (Option Holding)) →
    ((place : ℕ) (holding : Holding) → held_at slots place ≡ Some holding → is_leaving holding.stay ≡ false) →
    find (λ slot. is_leaving slot.stay) (slots_from n slots) ≡ None
none_told n [] h = refl
none_told n (None ∷ slots) h = none_told (n + 1) slots (λ place holding e. h (suc place) holding e)
none_told n (Some first ∷ slots) h =
    ap (λ b. cond b (Some (slot_told n first)) (find (λ slot. is_leaving slot.stay) (slots_from (n + 1) slots)))
    (h zero first refl)
    ∙ none_told (n + 1) slots (λ place holding e. h (suc place) holding e)

pub ships_are_told : ShipsAreTold
ships_are_told = record {
  some = λ state slot s e.
      (let w = found_leaving 0 state.slots slot e in
      let id : slot.fileset ≡ w.1.fileset.id = ap (λ (one : Slot). one.fileset) w.3 in
      (w.1, ap (λ one. held_so (is_of one) state.slots) id ∙ held_self state w.0 w.1 s w.2, w.4, w.3));
  none = ships_none;
}

-- a stay that is leaving, or is not
not_leaving : (stay : Stay) (to : ServerId) (ship : ℕ) → stay ≡ Leaving to ship → is_leaving stay ≡ false → ⊥
not_leaving stay to ship e n = let wrong : true ≡ false = sym (ap is_leaving e) ∙ n in absurd (cc)

-- where nothing is leaving, nothing is arriving
none_arriving : (tree : Tree) (states : List StoreState) → KeepUnderWay tree states →
    ((k : ℕ) (state : StoreState) → slice_get states k ≡ Some state → ship_told state ≡ None) →
    (state : StoreState) → KeepsUnderWay tree states state → (id : FilesetId) (holding : Holding) (from : ServerId)
    (ship parts : ℕ) → held_so (is_of id) state.slots ≡ Some holding → holding.stay ≡ Arriving from ship parts → ⊥
none_arriving tree states all none state keeps id holding from ship parts e a =
    let (sent, coming) = keeps.arriving id holding from ship parts e a in
    let by = coming.held in
    not_leaving sent.stay state.server ship coming.leaves
    (ships_none by.state (slot_so (is_of id) by.state.slots) sent (none by.place by.state by.there) by.held)

-- how each stays then
data Stays (stay : Stay) : Type 0 where
  Here : (is_here stay ≡ true) → Stays stay
  Went : (is_gone stay ≡ true) → Stays stay

stays : (stay : Stay) → (is_leaving stay ≡ false) → ((from : ServerId) (ship parts : ℕ) → stay ≡ Arriving from ship parts → ⊥) →
    Stays stay
stays Writable l a = Here refl
stays Clone l a = Here refl
stays (Leaving to ship) l a = absurd (cc)
stays (Arriving from ship parts) l a = absurd (a from ship parts refl)
stays (Gone to) l a = Went refl

-- what is left of a record
record_stays : (server : ServerId) (holding : Holding) (stay : Stay) → is_leaving stay ≡ false →
    option_map (gone_from server holding.fileset) (left_for stay)
    ≡ option_map free (record_so server holding.fileset stay)
record_stays server holding Writable l = refl
record_stays server holding Clone l = refl
record_stays server holding (Leaving to ship) l = absurd (cc)
record_stays server holding (Arriving from ship parts) l = refl
record_stays server holding (Gone to) l = refl

keeps_ended : (tree : Tree) (states : List StoreState) → KeepUnderWay tree states →
    ((k : ℕ) (state : StoreState) → slice_get states k ≡ Some state → ship_told state ≡ None) →
    (k : ℕ) (state : StoreState) → slice_get states k ≡ Some state → KeepsOf (freed tree) state
keeps_ended tree states all none k state there =
    record {
      storable = keeps.storable;
      roster = keeps.roster;
      room = keeps.room;
      filesets = λ id. keeps.filesets id (still id (held_so (is_of id) state.slots) refl);
      records = λ id.
          records_are id (held_so (is_of id) state.slots) refl
          ∙ ap (option_map free) (keeps.records id) ∙ sym (record_freed tree state.server id);
      still = λ id holding e. here_or_gone holding.stay (stay_of id holding e);
      older = λ id holding fileset e gone found. keeps.older id holding fileset e (out holding.stay gone) found;
    }
  where
    keeps : KeepsUnderWay tree states state
    keeps = all.keeps k state there

    leaves : (id : FilesetId) (holding : Holding) → held_so (is_of id) state.slots ≡ Some holding →
        is_leaving holding.stay ≡ false
    leaves id holding e = ships_none state (slot_so (is_of id) state.slots) holding (none k state there) e

    stay_of : (id : FilesetId) (holding : Holding) → held_so (is_of id) state.slots ≡ Some holding → Stays holding.stay
    stay_of id holding e = stays holding.stay (leaves id holding e)
        (λ from ship parts a. none_arriving tree states all none state keeps id holding from ship parts e a)

    arrives_not : (stay : Stay) → Stays stay → is_arriving stay ≡ false
    arrives_not Writable s = refl
    arrives_not Clone s = refl
    arrives_not (Leaving to ship) s = refl
    arrives_not (Arriving from ship parts) (Here h) = absurd (cc)
    arrives_not (Arriving from ship parts) (Went h) = absurd (cc)
    arrives_not (Gone to) s = refl

    still : (id : FilesetId) (found : Option Holding) → held_so (is_of id) state.slots ≡ found →
        stays_so state id is_arriving ≡ false
    still id None e =
        ap (λ o. option_map_or is_arriving (option_map (λ (h : Holding). h.stay) o) false) e
    still id (Some holding) e =
        ap (λ o. option_map_or is_arriving (option_map (λ (h : Holding). h.stay) o) false) e
        ∙ arrives_not holding.stay (stay_of id holding e)

    records_are : (id : FilesetId) (found : Option Holding) → held_so (is_of id) state.slots ≡ found →
        option_and_then (if_gone state.server) (held_so (is_of id) state.slots)
        ≡ option_map free (record_held state id)
    records_are id None e =
        ap (option_and_then (if_gone state.server)) e
        ∙ sym (ap (λ o. option_map free (option_and_then
        (λ (h : Holding). record_so state.server h.fileset h.stay) o)) e)
    records_are id (Some holding) e =
        ap (option_and_then (if_gone state.server)) e
        ∙ record_stays state.server holding holding.stay (leaves id holding e)
        ∙ sym (ap (λ o. option_map free (option_and_then
        (λ (h : Holding). record_so state.server h.fileset h.stay) o)) e)

    here_or_gone : (stay : Stay) → Stays stay → (is_here stay || is_gone stay) ≡ true
    here_or_gone stay (Here h) = ap (λ b. b || is_gone stay) h
    here_or_gone Writable (Went h) = refl
    here_or_gone Clone (Went h) = refl
    here_or_gone (Leaving to ship) (Went h) = absurd (cc)
    here_or_gone (Arriving from ship parts) (Went h) = absurd (cc)
    here_or_gone (Gone to) (Went h) = refl

    out : (stay : Stay) → is_gone stay ≡ true → is_out stay ≡ true
    out Writable g = absurd (cc)
    out Clone g = absurd (cc)
    out (Leaving to ship) g = refl
    out (Arriving from ship parts) g = absurd (cc)
    out (Gone to) g = refl

pub moves_end : MovesEnd
moves_end = record { keeps = keeps_ended; formed = freed_formed; same = freed_same }
