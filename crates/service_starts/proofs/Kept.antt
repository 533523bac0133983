-- Each store keeps its part of the tree that all stores make, where no move goes on.
use Rattle.service_starts.proofs.Found.{IsOne, OfId, from_record, from_slot, here_found, here_stays, in_found, its_slot, keeps_room, no_record_at, none_at, none_open, of_id, of_slot, server_is}
use Rattle.std.proofs.Common.{◌≡◌, ℕ, zero, suc, ◌+◌, ◌-◌, ◌<◌, ◌==◌, nat_lt, Bool, true, false, ◌&&◌, ◌||◌, not, cond, List, [], ◌∷◌, map, filter, Option, Some, None, refl, sym, ap, ◌∙◌, subst, arith, inl, inr, rules}
use Rattle.std.specs.Prelude.{slice_get, if◌then◌else◌, option_and_then}
use Rattle.std.specs.List.{find}
use Rattle.std.specs.Option.{option_map, option_map_or}
use Rattle.std.proofs.lemmas.Grind.{common_steps}
use Rattle.base_types.specs.Name.{same_name}
use Rattle.base_types.specs.declared.ids.FilesetId.{FilesetId}
use Rattle.base_types.specs.declared.ids.ServerId.{ServerId}
use Rattle.tree_calls.specs.declared.roster.Roster.{Roster}
use Rattle.tree_filesets.specs.declared.fileset.Fileset.{Fileset}
use Rattle.store_memory.specs.Reading.{is_kept, slot_told, slots_from}
use Rattle.store_memory.specs.declared.told.Slot.{Slot}
use Rattle.tree_answers.proofs.Places.{equal_is}
use Rattle.tree_answers.specs.Away.{is_away}
use Rattle.tree_answers.specs.Finding.{has_id}
use Rattle.tree_answers.specs.Founding.{room_of}
use Rattle.tree_answers.specs.declared.tree.Away.{Away}
use Rattle.tree_answers.specs.declared.tree.ServerRoom.{ServerRoom}
use Rattle.service_starts.proofs.Standing.{In, in_any, any_in, in_contains, in_slots_of, in_all_slots, of_all_slots, fit_of, stands_once}
use Rattle.service_starts.proofs.Tests.{and_left, and_right, and_both}
use Rattle.service_starts.specs.Fitting.{misfit, is_matched, is_sender, is_shipped, is_open, settlings_in, settlings_of}
use Rattle.service_starts.specs.Starting.{kept_by, fileset_of, fileset_in, keeper_of, away_of, away_in, left_for, start_of}
use Rattle.service_starts.specs.Told.{Placed, placed, told_of, slots_of, stands, stands_as, is_same, is_later, has_come, rooms_of}
use Rattle.service_starts.specs.declared.fitting.Settling.{Settling}
use Rattle.service_starts.specs.declared.told.Told.{Told}
use Rattle.service_starts.proofs.StartFormed.{found_one, get_room}
use Rattle.service_starts.proofs.Known.{IsHeld, found_kept}
use Rattle.service_starts.proofs.Places.{same_place, goes_on, matched_at}
use Rattle.service_starts.proofs.Puts.{puts_have, in_made, made_in}
use Rattle.service_starts.proofs.Slots.{Tells, slot_held}
use Rattle.service_starts.proofs.Started.{filesets_in, records_in, fileset_at as place_of, record_at as record_place, tree_filesets, tree_records, tree_in, comes_of, away_there}
use Rattle.store_records.specs.Stored.{IsStorable}
use Rattle.service_starts.specs.Starts.{IsToldOf, AreTold, NoneGoesOn}
use Rattle.store_laws.specs.Founds.{room_in}
use Rattle.store_acts.specs.Moving.{is_unsettled}
use Rattle.store_state.specs.State.{is_here, is_gone, is_leaving, is_of, held_at, held_so, slot_so}
use Rattle.store_state.specs.declared.state.Holding.{Holding}
use Rattle.store_state.specs.declared.state.Stay.{Stay}
use Rattle.store_state.specs.declared.state.Stay.TheVariants.{Writable, Clone, Leaving, Arriving, Gone}
use Rattle.store_state.specs.declared.state.StoreState.{StoreState}
use Rattle.store_laws.proofs.Exact.{held_self}
use Rattle.store_laws.proofs.Keys.{found_passes}
use Rattle.store_laws.proofs.Slots.{held_passes}
use Rattle.store_laws.proofs.KeptSteps.{at_server}
use Rattle.store_laws.specs.TreeKeeping.{KeepsOf, fileset_at, record_at, if_at, if_here, if_gone, gone_from, left_for as gone_to}

pub never : false ≡ true → ⊥
never e = search (rules, e)

-- what has gone from a slot
gone_out : (all : List Told) (at : Placed) (to : ServerId) → at.slot.stay ≡ Gone to → (stands all at.slot ≡ false) × (away_in all at ≡ Some (left_for at to))
gone_out all at to e =
    let out : stands all at.slot ≡ false = ap (stands_as all at.slot) e in
    (out, ap (λ b. if b then None else away_of at at.slot.stay) out ∙ ap (away_of at) e)

-- one that has gone
gone_found : (all : List Told) → AreTold all → (roster : Roster) (state : StoreState) (id : FilesetId) (holding : Holding) (at : Placed) → OfId all state id holding at → (to : ServerId) → holding.stay ≡ Gone to
    → record_at (start_of roster all) state.server id ≡ Some (gone_from state.server holding.fileset to)
gone_found all t roster state id holding at o to e =
    let tells = o.held.tells.1 in
    let stay : at.slot.stay ≡ Gone to = ap (λ one. one.stay) tells ∙ e in
    let out = gone_out all at to stay in
    let its : Away = left_for at to in
    let listed : In its (tree_records all) = puts_have record_place [] (records_in all) its (inr (made_in (away_in all) (placed all) at its o.here out.1)) in
    let own : at.server.0 ≡ state.server.0 = sym o.held.own in
    let ids : at.slot.fileset.0 ≡ id.0 = ap (λ one. one.0) o.its in
    let first : (at.server.0 == state.server.0) ≡ true = grind (arith, common_steps, own) in
    let second : (at.slot.fileset.0 == id.0) ≡ true = grind (arith, common_steps, ids) in
    let found = in_found (is_away state.server id) (tree_records all) its listed (and_both (at.server.0 == state.server.0) (at.slot.fileset.0 == id.0) first second) in
    let w = from_record all state.server id found.0 found.1 in
    let same : w.0 ≡ at = same_place all t w.0 at w.1.here o.here (w.1.own ∙ sym own) (ap (λ one. one.0) (w.1.its ∙ sym o.its)) in
    let made : Some its ≡ Some found.0 = sym (ap (away_of at) stay) ∙ sym (ap (λ one. away_of one one.slot.stay) same) ∙ w.1.made in
    let server : at.server ≡ state.server = server_is at.server state.server own in
    let fileset : at.slot.fileset ≡ holding.fileset.id = ap (λ one. one.fileset) tells in
    let name : at.slot.name ≡ holding.fileset.name = ap (λ one. one.name) tells in
    found.1 ∙ sym made
    ∙ ap (λ one. let away : Away = record { server = one; fileset = at.slot.fileset; name = at.slot.name; to = to; room_kept = false } in Some away) server
    ∙ ap (λ one. let away : Away = record { server = state.server; fileset = one; name = at.slot.name; to = to; room_kept = false } in Some away) fileset
    ∙ ap (λ one. let away : Away = record { server = state.server; fileset = holding.fileset.id; name = one; to = to; room_kept = false } in Some away) name

-- a slot of a server is among its slots
among : (all : List Told) (at : Placed) → In at (placed all) → In at.slot (slots_of all at.server)
among all at i =
    let w = of_all_slots 1 all at i in
    let n = w.3 in
    let some : (at.server.0 == 0) ≡ false = grind (arith, common_steps, n) in
    let place : at.server.0 - 1 ≡ w.0 = omega (arith, n) in
    let found : told_of all at.server ≡ Some w.1 = rw (some, place) w.2 in
    subst (λ o. In at.slot (option_map_or (λ told. told.slots) o [])) (sym found) w.4

-- what leaves for a server has come there where it is arriving
none_sent : (all : List Told) → NoneGoesOn all → (at : Placed) → In at (placed all) → (ship : ℕ) (other : Placed) → In other (placed all) → other.slot.fileset.0 ≡ at.slot.fileset.0 → other.slot.moves + 1 ≡ at.slot.moves
    → (stay : Stay) → other.slot.stay ≡ stay → is_shipped at.server ship stay ≡ true → ⊥
none_sent all none at i ship other j same more Writable e h = never h
none_sent all none at i ship other j same more Clone e h = never h
none_sent all none at i ship other j same more (Leaving to sent) e h =
    let leaves : stands all other.slot ≡ true = none other (in_contains (placed all) other j) (ap is_leaving e) in
    let there : to ≡ at.server = server_is to at.server (equal_is to.0 at.server.0 (and_left (to.0 == at.server.0) (sent == ship) h)) in
    let inside : In at.slot (slots_of all to) = subst (λ one. In at.slot (slots_of all one)) (sym there) (among all at i) in
    let ids : is_same other.slot at.slot ≡ true = grind (arith, common_steps, same) in
    let less : nat_lt other.slot.moves at.slot.moves ≡ true = grind (arith, common_steps, more) in
    let come : has_come all other.slot to ≡ true = in_any (is_later other.slot) (slots_of all to) at.slot inside (and_both (is_same other.slot at.slot) (nat_lt other.slot.moves at.slot.moves) ids less) in
    let out : stands all other.slot ≡ false = ap (stands_as all other.slot) e ∙ ap not come in
    never (sym out ∙ leaves)
none_sent all none at i ship other j same more (Arriving from taken parts) e h = never h
none_sent all none at i ship other j same more (Gone to) e h = never h

none_arrives : (all : List Told) → misfit all ≡ None → NoneGoesOn all → (at : Placed) (from : ServerId) (ship parts : ℕ) → In at (placed all) → at.slot.stay ≡ Arriving from ship parts → ⊥
none_arrives all f none at from ship parts i e =
    let m : is_matched all at.server at.slot (Arriving from ship parts) ≡ true = subst (λ one. is_matched all at.server at.slot one ≡ true) e (matched_at all at (fit_of all at f i)) in
    let w = any_in (is_sender at.server ship at.slot) (slots_of all from) m in
    sent w.0 (in_slots_of all from w.0 w.1) w.2
  where
    sent : (other : Slot) → In (record { server = from; slot = other }) (placed all) → is_sender at.server ship at.slot other ≡ true → ⊥
    sent other j h =
        let a : Bool = is_same at.slot other in
        let b : Bool = is_shipped at.server ship other.stay in
        let c : Bool = other.moves + 1 == at.slot.moves in
        let d : Bool = same_name other.name at.slot.name in
        let l : Bool = other.objects == at.slot.objects in
        let three : (a && b && c) ≡ true = and_left (a && b && c) d (and_left (a && b && c && d) l h) in
        let two : (a && b) ≡ true = and_left (a && b) c three in
        none_sent all none at i ship (record { server = from; slot = other }) j (equal_is other.fileset.0 at.slot.fileset.0 (and_left a b two)) (equal_is (other.moves + 1) at.slot.moves (and_right (a && b) c three)) other.stay refl
        (and_right a b two)

-- so none is on its way
data StaysSo (stay : Stay) : Type 0 where
  IsHere : is_here stay ≡ true → StaysSo stay
  HasGone : (to : ServerId) → stay ≡ Gone to → StaysSo stay

stays_so : (all : List Told) → misfit all ≡ None → settlings_of all ≡ [] → NoneGoesOn all → (at : Placed) → In at (placed all) → (stay : Stay) → at.slot.stay ≡ stay → StaysSo stay
stays_so all f e none at i Writable k = IsHere refl
stays_so all f e none at i Clone k = IsHere refl
stays_so all f e none at i (Leaving to ship) k =
    let s : stands all at.slot ≡ true = none at (in_contains (placed all) at i) (ap is_leaving k) in
    let u : is_unsettled at.slot.stay ≡ true = ap is_unsettled k in
    absurd (never (sym (none_open all (placed all) at e i) ∙ and_both (is_unsettled at.slot.stay) (stands all at.slot) u s))
stays_so all f e none at i (Arriving from ship parts) k = absurd (none_arrives all f none at from ship parts i k)
stays_so all f e none at i (Gone to) k = HasGone to refl

-- what is known of the stores
record AreSettled (roster : Roster) (all : List Told) (state : StoreState) : Type 0 where
  told : AreTold all
  fit : misfit all ≡ None
  settled : settlings_of all ≡ []
  none : NoneGoesOn all
  one : IsOne all state

held_stays : (roster : Roster) (all : List Told) (state : StoreState) → AreSettled roster all state → (id : FilesetId) (holding : Holding) (at : Placed) → OfId all state id holding at → StaysSo holding.stay
held_stays roster all state s id holding at o =
    subst StaysSo (ap (λ one. one.stay) o.held.tells.1) (stays_so all s.fit s.settled s.none at o.here at.slot.stay refl)

-- none of an id is at the store's server where the store has none
none_held : (roster : Roster) (all : List Told) (state : StoreState) → AreSettled roster all state → (id : FilesetId) → held_so (is_of id) state.slots ≡ None → (at : Placed) → In at (placed all) → at.server.0 ≡ state.server.0 → at.slot.fileset ≡ id → ⊥
none_held roster all state s id e at i own its =
    let w = of_slot all state s.one at i own in
    let found : held_so (is_of id) state.slots ≡ Some w.0 = ap (λ one. held_so (is_of one) state.slots) (sym its) ∙ w.1 in
    let wrong : None ≡ Some w.0 = sym e ∙ found in
    search (rules, wrong)

gone_stays : (holding : Holding) (to : ServerId) → holding.stay ≡ Gone to → is_here holding.stay ≡ false
gone_stays holding to e = ap is_here e

keeps_filesets : (roster : Roster) (all : List Told) (state : StoreState) → AreSettled roster all state → (id : FilesetId) (o : Option Holding) → held_so (is_of id) state.slots ≡ o
    → option_and_then if_here o ≡ fileset_at (start_of roster all) state.server id
keeps_filesets roster all state s id None e = sym (none_at all s.told s.fit roster state.server id (λ at i own its stands. none_held roster all state s id e at i own its))
keeps_filesets roster all state s id (Some holding) e =
    let w = of_id all state s.one id holding e in
    choice w.0 w.1 (held_stays roster all state s id holding w.0 w.1)
  where
    choice : (at : Placed) → OfId all state id holding at → StaysSo holding.stay → if_here holding ≡ fileset_at (start_of roster all) state.server id
    choice at o (IsHere h) = ap (λ b. if b then Some holding.fileset else None) h ∙ sym (here_found all s.told s.fit roster state id holding at o h)
    choice at o (HasGone to k) =
        ap (λ b. if b then Some holding.fileset else None) (gone_stays holding to k)
        ∙ sym (none_at all s.told s.fit roster state.server id (λ b i own its so.
        let same = its_slot all s.told state id holding at o b i own its in
        let out = gone_out all at to (ap (λ one. one.stay) o.held.tells.1 ∙ k) in
        never (sym out.0 ∙ ap (λ one. stands all one.slot) (sym same) ∙ so)))

-- one that is here hasn't gone
here_none : (server : ServerId) (fileset : Fileset) (stay : Stay) → is_here stay ≡ true → option_map (gone_from server fileset) (gone_to stay) ≡ None
here_none server fileset Writable h = refl
here_none server fileset Clone h = refl
here_none server fileset (Leaving to ship) h = absurd (search (rules, h))
here_none server fileset (Arriving from ship parts) h = absurd (search (rules, h))
here_none server fileset (Gone to) h = absurd (search (rules, h))

keeps_records : (roster : Roster) (all : List Told) (state : StoreState) → AreSettled roster all state → (id : FilesetId) (o : Option Holding) → held_so (is_of id) state.slots ≡ o
    → option_and_then (if_gone state.server) o ≡ record_at (start_of roster all) state.server id
keeps_records roster all state s id None e = sym (no_record_at all roster state.server id (λ at i own its out. none_held roster all state s id e at i own its))
keeps_records roster all state s id (Some holding) e =
    let w = of_id all state s.one id holding e in
    choice w.0 w.1 (held_stays roster all state s id holding w.0 w.1)
  where
    choice : (at : Placed) → OfId all state id holding at → StaysSo holding.stay → if_gone state.server holding ≡ record_at (start_of roster all) state.server id
    choice at o (HasGone to k) =
        ap (λ stay. option_map (gone_from state.server holding.fileset) (gone_to stay)) k ∙ sym (gone_found all s.told roster state id holding at o to k)
    choice at o (IsHere h) =
        here_none state.server holding.fileset holding.stay h
        ∙ sym (no_record_at all roster state.server id (λ b i own its out.
        let same = its_slot all s.told state id holding at o b i own its in
        let so = here_stays all at.slot at.slot.stay (ap is_here (ap (λ one. one.stay) o.held.tells.1) ∙ h) in
        never (sym out ∙ ap (λ one. stands all one.slot) same ∙ so.0)))

keeps_still : (stay : Stay) → StaysSo stay → (is_here stay || is_gone stay) ≡ true
keeps_still stay (IsHere h) = ap (λ b. b || is_gone stay) h
keeps_still stay (HasGone to k) = ap (λ one. is_here one || is_gone one) k

-- one that has gone has moved on
gone_only : (stay : Stay) → is_gone stay ≡ true → (to : ServerId) × (stay ≡ Gone to)
gone_only Writable h = absurd (search (rules, h))
gone_only Clone h = absurd (search (rules, h))
gone_only (Leaving to ship) h = absurd (search (rules, h))
gone_only (Arriving from ship parts) h = absurd (search (rules, h))
gone_only (Gone to) h = (to, refl)

keeps_older : (roster : Roster) (all : List Told) (state : StoreState) → AreSettled roster all state → (id : FilesetId) (holding : Holding) (fileset : Fileset) → held_so (is_of id) state.slots ≡ Some holding → is_gone holding.stay ≡ true
    → find (has_id id) (tree_filesets all) ≡ Some fileset → holding.fileset.moves < fileset.moves
keeps_older roster all state s id holding fileset e gone found =
    let w = of_id all state s.one id holding e in
    let at = w.0 in
    let o = w.1 in
    let tells = o.held.tells.1 in
    let to = gone_only holding.stay gone in
    let out = gone_out all at to.0 (ap (λ one. one.stay) tells ∙ to.1) in
    let on = goes_on all s.fit at o.here out.0 in
    let other = on.0 in
    let from = from_slot all s.told s.fit id fileset found in
    let b = from.0 in
    let ids : b.slot.fileset.0 ≡ other.slot.fileset.0 = ap (λ one. one.0) (from.1.its ∙ sym o.its) ∙ sym on.2 in
    let servers = stands_once all s.fit b other from.1.here on.1 ids from.1.stands on.3 in
    let same : b ≡ other = same_place all s.told b other from.1.here on.1 servers ids in
    let more : at.slot.moves < other.slot.moves = on.4 in
    let mine : at.slot.moves ≡ holding.fileset.moves = ap (λ one. one.moves) tells in
    let its : fileset.moves ≡ other.slot.moves = from.1.moves ∙ ap (λ one. one.slot.moves) same in
    omega (arith, more, mine, its)

pub start_kept : (roster : Roster) (all : List Told) (place : ℕ) (told : Told) (state : StoreState) → AreTold all → misfit all ≡ None → NoneGoesOn all → settlings_of all ≡ [] → slice_get all place ≡ Some told → IsToldOf (place + 1) state told → state.roster ≡ roster
    → KeepsOf (start_of roster all) state
start_kept roster all place told state t f none settled e h r =
    let one : IsOne all state = record { place = place; told = told; there = e; of_it = h } in
    let s : AreSettled roster all state = record { told = t; fit = f; settled = settled; none = none; one = one } in
    record {
      storable = h.storable;
      roster = r;
      room = keeps_room all state one;
      filesets = λ id. keeps_filesets roster all state s id (held_so (is_of id) state.slots) refl;
      records = λ id. keeps_records roster all state s id (held_so (is_of id) state.slots) refl;
      still = λ id holding k.
          let w = of_id all state one id holding k in keeps_still holding.stay (held_stays roster all state s id holding w.0 w.1);
      older = keeps_older roster all state s;
    }
