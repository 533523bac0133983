-- What is told of filesets that are leaving.
use Rattle.std.proofs.Common.{◌≡◌, ◌≤◌, ℕ, zero, suc, ◌+◌, List, [], ◌∷◌, length, take, inl, inr, refl, sym, subst, ◌∙◌, ap, arith}
use Rattle.std.specs.Prelude.{Bool, true, false, cond, slice_get, Some, None, Option, IfSome, not}
use Rattle.std.specs.List.{find}
use Rattle.std.specs.Option.{option_map, option_map_or}
use Rattle.std.proofs.lemmas.Bool.Decides.{eqb_tells}
use Rattle.std.proofs.lemmas.Bool.{false≢true}
use Rattle.base_types.specs.declared.ids.FilesetId.{FilesetId}
use Rattle.base_types.specs.declared.ids.ServerId.{ServerId}
use Rattle.tree_calls.specs.declared.roster.Roster.{Roster}
use Rattle.tree_calls.specs.declared.ship.Mover.{Mover}
use Rattle.store_memory.specs.Reading.{shipped, slot_told, slots_from}
use Rattle.store_memory.specs.Sound.{IsLeavingOf, IsSlot}
use Rattle.store_memory.specs.declared.told.Slot.{Slot}
use Rattle.store_laws.proofs.Parts.{part_there, parts_count, state_more}
use Rattle.store_records.specs.Stored.{IsStorable, StaysRight}
use Rattle.message_types.specs.Soundness.{Each}
use Rattle.store_acts.specs.Acts.{act_done, state_after}
use Rattle.store_acts.specs.Parts.{object_part, part_of}
use Rattle.store_acts.specs.Sound.{Fits, IsStay}
use Rattle.store_acts.specs.declared.act.Act.{Act}
use Rattle.store_acts.specs.declared.act.Act.TheVariants.{Left, Part}
use Rattle.service_moves.specs.Again.{AreApart, IsRepeatable}
use Rattle.service_moves.proofs.Repeats.{moves_repeat}
use Rattle.service_moves.proofs.Tables.{found_passes}
use Rattle.store_laws.specs.Moves.{all_parts}
use Rattle.store_state.proofs.Slots.{first, slot_first}
use Rattle.store_state.specs.State.{held_at, held_so, is_leaving, is_of, slot_so}
use Rattle.store_state.specs.declared.state.Holding.{Holding}
use Rattle.store_state.specs.declared.state.Stay.TheVariants.{Leaving}
use Rattle.store_state.specs.declared.state.StoreState.{StoreState}
use Rattle.service_moves.specs.Ships.{is_slot_of, part_act, CarriesOf, IsNextShip, IsShipIn, IsSoundShip, MaySend}
use Rattle.service_moves.specs.declared.ships.Ship.{Ship}

-- what is found is one of them
pub find_each : {A : Type 0} (test : A → Bool) (P : A → Type 0) (xs : List A) (x : A) → find test xs ≡ Some x → Each P xs → P x
find_each test P [] x e h = absurd (cc)
find_each test P (y ∷ xs) x e h = by test P y xs x (test y) e h.0 (λ k. find_each test P xs x k h.1)
  where
    by : {A : Type 0} (test : A → Bool) (P : A → Type 0) (y : A) (xs : List A) (x : A) (b : Bool) → cond b (Some y) (find test xs) ≡ Some x → P y → (find test xs ≡ Some x → P x) → P x
    by test P y xs x true k one rest = let same : y ≡ x = cc in subst P same one
    by test P y xs x false k one rest = rest k

-- the slot of a fileset tells of what is held of it
slot_held : (id : FilesetId) (at : ℕ) (slots : List (Option Holding)) (o : Option Holding) → held_at slots (first (is_of id) slots) ≡ o
    → (n : ℕ) × (find (is_slot_of id) (slots_from at slots) ≡ option_map (slot_told n) o)
slot_held id at [] None e = (zero, refl)
slot_held id at [] (Some holding) e = absurd (cc)
slot_held id at (None ∷ slots) o e =
    let n : 1 + first (is_of id) slots ≡ suc (first (is_of id) slots) = omega arith in
    slot_held id (at + 1) slots o (ap (held_at (None ∷ slots)) (sym n) ∙ e)
slot_held id at (Some other ∷ slots) o e = by (is_of id other) e (λ k. slot_held id (at + 1) slots o k)
  where
    by : (b : Bool) → held_at (Some other ∷ slots) (cond (not b) (1 + first (is_of id) slots) 0) ≡ o
        → (held_at slots (first (is_of id) slots) ≡ o → (n : ℕ) × (find (is_slot_of id) (slots_from (at + 1) slots) ≡ option_map (slot_told n) o))
        → (n : ℕ) × (cond b (Some (slot_told at other)) (find (is_slot_of id) (slots_from (at + 1) slots)) ≡ option_map (slot_told n) o)
    by true k rest = (at, ap (option_map (slot_told at)) k)
    by false k rest =
        let n : 1 + first (is_of id) slots ≡ suc (first (is_of id) slots) = omega arith in
        rest (ap (held_at (Some other ∷ slots)) (sym n) ∙ k)

pub carries_of : (from : ServerId) (id : FilesetId) (slots : List (Option Holding)) (ship : Option Ship) → IsShipIn from (find (is_slot_of id) (slots_from 0 slots)) ship
    → CarriesOf from (held_so (is_of id) slots) ship
carries_of from id slots ship h = by (held_so (is_of id) slots) refl
  where
    one : (n : ℕ) (holding : Holding) (ship : Option Ship) → IsShipIn from (Some (slot_told n holding)) ship → CarriesOf from (Some holding) ship
    one n holding None k = k
    one n holding (Some s) k = record { from_is = k.from_is; stay = k.stay; fileset = k.fileset; name = k.name; objects = k.objects; moves = k.moves }

    told : (o : Option Holding) → held_so (is_of id) slots ≡ o → (n : ℕ) × (find (is_slot_of id) (slots_from 0 slots) ≡ option_map (slot_told n) o)
    told o e = slot_held id 0 slots o (ap (held_at slots) (sym (slot_first (is_of id) slots)) ∙ e)

    by : (o : Option Holding) → held_so (is_of id) slots ≡ o → CarriesOf from o ship
    by None e = subst (λ slot. IsShipIn from slot ship) (told None e).1 h
    by (Some holding) e =
        let (n, k) = told (Some holding) e in
        one n holding ship (subst (λ slot. IsShipIn from slot ship) k h)

-- what a store tells of a ship is sound
pub sound_ship : (roster : Roster) (from : ServerId) (slots : List Slot) (test : Slot → Bool) (ship : Option Ship) → Each (IsSlot roster) slots → IsShipIn from (find test slots) ship
    → IfSome ship (IsSoundShip roster from)
sound_ship roster from slots test ship each h = by (find test slots) refl ship h
  where
    by : (o : Option Slot) → find test slots ≡ o → (ship : Option Ship) → IsShipIn from o ship → IfSome ship (IsSoundShip roster from)
    by o e None k = tt
    by None e (Some s) k = absurd (cc)
    by (Some slot) e (Some s) k =
        let sound = find_each test (IsSlot roster) slots slot e each in
        record {
          from_is = k.from_is;
          to = subst (IsStay roster) k.stay sound.stay;
          objects = (let a = k.objects in let b = sound.most in omega (arith, a, b));
        }

-- the next one
pub next_none : (from : ServerId) (state : StoreState) (slots : List Slot) (test : Slot → Bool) (ship : Option Ship) → option_map (λ (slot : Slot). slot.fileset) (find test slots) ≡ None → ship ≡ None
    → IsNextShip from state (find test slots) ship
next_none from state slots test ship e k = by (find test slots) refl e
  where
    by : (o : Option Slot) → find test slots ≡ o → option_map (λ (slot : Slot). slot.fileset) o ≡ None → IsNextShip from state o ship
    by None x y = k
    by (Some slot) x y = absurd (cc)

pub next_some : (from : ServerId) (state : StoreState) (slots : List Slot) (test : Slot → Bool) (ship : Option Ship) (id : FilesetId)
    → option_map (λ (slot : Slot). slot.fileset) (find test slots) ≡ Some id → CarriesOf from (held_so (is_of id) state.slots) ship → IsNextShip from state (find test slots) ship
next_some from state slots test ship id e k = by (find test slots) refl e
  where
    by : (o : Option Slot) → find test slots ≡ o → option_map (λ (slot : Slot). slot.fileset) o ≡ Some id → IsNextShip from state o ship
    by None x y = absurd (cc)
    by (Some slot) x y =
        let same : slot.fileset ≡ id = cc in
        subst (λ i. CarriesOf from (held_so (is_of i) state.slots) ship) (sym same) k

-- ids are the same where their numbers are
pub of_same : (id : FilesetId) (holding : Holding) → is_of id holding ≡ true → holding.fileset.id ≡ id
of_same id holding e =
    ap (λ n. record { 0 = n }) (elim (eqb_tells holding.fileset.id.0 id.0) [ inl (t, k) ↦ k | inr (t, k) ↦ absurd (false≢true (sym t ∙ e)) ])

-- what a ship carries may be asked for, part by part
pub may_ask : (from : ServerId) (state : StoreState) (id : FilesetId) (ship : Ship) → CarriesOf from (held_so (is_of id) state.slots) (Some ship) → (at : ℕ) → at ≤ ship.objects
    → IsLeavingOf state ship.fileset at
may_ask from state id ship h at low = by (held_so (is_of id) state.slots) refl h
  where
    by : (o : Option Holding) → held_so (is_of id) state.slots ≡ o → CarriesOf from o (Some ship) → IsLeavingOf state ship.fileset at
    by None e k = absurd (cc)
    by (Some holding) e k =
        let mine : ship.fileset ≡ id = k.fileset ∙ of_same id holding (found_passes (is_of id) state.slots holding e) in (
          holding,
          subst (λ i. held_so (is_of i) state.slots ≡ Some holding) (sym mine) e,
          ap is_leaving k.stay,
          (let n = k.objects in omega (arith, n, low)),
        )

-- of records that a disk can have, ids are apart
pub apart_of : (state : StoreState) → IsStorable state → AreApart state
apart_of state h = λ s t a b n x y. (h.apart s t a b n x y).ids

-- a fileset that is leaving has all its anodes
pub anodes_count : (state : StoreState) (id : FilesetId) (holding : Holding) (to : ServerId) (ship : ℕ) → IsStorable state → held_so (is_of id) state.slots ≡ Some holding → holding.stay ≡ Leaving to ship
    → length holding.fileset.anodes ≡ holding.fileset.objects
anodes_count state id holding to ship h held stay =
    (subst (StaysRight state holding.fileset) stay (h.each (slot_so (is_of id) state.slots) holding held).stay).0.count

-- what the store that a fileset is leaving tells of a part is what the other one takes next
pub record TakesNext (state : StoreState) (holding : Holding) (ship : Ship) (mover : Mover) (at : ℕ) (act : Act) : Type 0 where
  pub here : slice_get (all_parts holding ship.from ship.number mover) at ≡ Some act
  pub fits : Fits (state_after state (take at (all_parts holding ship.from ship.number mover))) act
  pub again : IsRepeatable (state_after state (take at (all_parts holding ship.from ship.number mover))) act
  pub more : state_after state (take (at + 1) (all_parts holding ship.from ship.number mover))
      ≡ (act_done (state_after state (take at (all_parts holding ship.from ship.number mover))) act).state

pub takes_next : (sender receiver : StoreState) (holding : Holding) (ship : Ship) (mover : Mover) (at : ℕ) → MaySend sender receiver holding ship mover → at ≤ ship.objects
    → TakesNext receiver holding ship mover at (part_act ship at (shipped sender ship.fileset at mover))
takes_next sender receiver holding ship mover at m low =
    let parts = all_parts holding ship.from ship.number mover in
    let c = m.carries in
    let count = anodes_count sender ship.fileset holding ship.to ship.number m.storable m.held c.stay in
    let within : at ≤ length holding.fileset.anodes = (let o = c.objects in omega (arith, o, low, count)) in
    let there = part_there holding ship.from ship.number mover at within in
    let told : part_of holding at mover ≡ shipped sender ship.fileset at mover =
    ap (λ o. option_map_or (λ holding. part_of holding at mover) o (object_part at 0 None)) (sym m.held) in
    let same : Part ship.from ship.number holding.fileset.id (holding.fileset.moves + 1) at (part_of holding at mover) ≡ part_act ship at (shipped sender ship.fileset at mover) =
    ap (λ (i : FilesetId). Part ship.from ship.number i (holding.fileset.moves + 1) at (part_of holding at mover)) (sym c.fileset)
    ∙ ap (λ n. Part ship.from ship.number ship.fileset n at (part_of holding at mover)) (sym c.moves)
    ∙ ap (λ p. Part ship.from ship.number ship.fileset ship.moves at p) told in
    let is : slice_get parts at ≡ Some (part_act ship at (shipped sender ship.fileset at mover)) = there ∙ ap (λ (a : Act). Some a) same in
    let may = m.parts at (part_act ship at (shipped sender ship.fileset at mover)) is in
    let now = state_after receiver (take at parts) in
    record {
      here = is;
      fits = may.fits;
      again = moves_repeat now (part_act ship at (shipped sender ship.fileset at mover)) (apart_of now may.storable) tt;
      more = state_more receiver parts at (part_act ship at (shipped sender ship.fileset at mover)) is;
    }

take_whole : {A : Type 0} (n : ℕ) (xs : List A) → length xs ≤ n → take n xs ≡ xs
take_whole zero [] h = refl
take_whole zero (x ∷ xs) h = absurd (omega (arith, h))
take_whole (suc n) [] h = refl
take_whole (suc n) (x ∷ xs) h = ap (λ ys. x ∷ ys) (take_whole n xs (omega (arith, h)))

-- and these are all
pub all_taken : (sender receiver : StoreState) (holding : Holding) (ship : Ship) (mover : Mover) (count : ℕ) → MaySend sender receiver holding ship mover → count ≡ ship.objects + 1
    → take count (all_parts holding ship.from ship.number mover) ≡ all_parts holding ship.from ship.number mover
all_taken sender receiver holding ship mover count m e =
    let anodes = anodes_count sender ship.fileset holding ship.to ship.number m.storable m.held m.carries.stay in
    let parts = parts_count holding ship.from ship.number mover in
    let o = m.carries.objects in
    take_whole count (all_parts holding ship.from ship.number mover) (omega (arith, e, anodes, parts, o))

-- and then the first does `Left`
pub left_again : (state : StoreState) (id : FilesetId) → IsStorable state → IsRepeatable state (Left id)
left_again state id h = moves_repeat state (Left id) (apart_of state h) tt
