-- What Settle makes of what a store tells.
use Rattle.std.proofs.Common.{◌≡◌, ◌≢◌, ℕ, zero, suc, ◌+◌, ◌==◌, Bool, true, false, not, cond, List, [], ◌∷◌, Option, Some, None, refl, sym, ap, ◌∙◌, arith, rules}
use Rattle.std.specs.Prelude.{if◌then◌else◌, map}
use Rattle.std.specs.Option.{option_map, option_map_or}
use Rattle.std.proofs.lemmas.Grind.{common_steps}
use Rattle.base_types.specs.Lists.{changed_at}
use Rattle.base_types.specs.declared.ids.FilesetId.{FilesetId}
use Rattle.tree_filesets.specs.declared.fileset.Fileset.{Fileset}
use Rattle.store_memory.specs.Reading.{is_kept, filesets_kept, slot_told, slots_from, kept_of}
use Rattle.store_memory.specs.declared.told.Kept.{Kept}
use Rattle.store_memory.specs.declared.told.Slot.{Slot}
use Rattle.tree_answers.proofs.Places.{equal_is}
use Rattle.service_starts.specs.declared.told.Told.{Told}
use Rattle.store_records.proofs.Acts.{acts_keep_storable}
use Rattle.service_starts.proofs.Slots.{AreApart, apart_rest, other_ids}
use Rattle.service_starts.specs.Starts.{IsToldOf}
use Rattle.store_acts.specs.Acts.{act_done}
use Rattle.store_acts.specs.Moving.{is_unsettled, stay_settled, anodes_settled, held_settled, settle_outcome, stays_so, with_holding, done_where}
use Rattle.store_acts.specs.declared.act.Act.TheVariants.{Settle}
use Rattle.store_state.proofs.Slots.{first, slot_first}
use Rattle.store_state.specs.State.{is_of, held_at, slot_so}
use Rattle.store_state.specs.declared.state.Holding.{Holding}
use Rattle.store_state.specs.declared.state.Stay.{Stay}
use Rattle.store_state.specs.declared.state.Stay.TheVariants.{Writable, Clone, Leaving, Arriving, Gone}
use Rattle.store_state.specs.declared.state.StoreState.{StoreState}

-- what becomes of a holding
abbrev settle_held : Holding → Holding
settle_held holding = if is_unsettled holding.stay then held_settled holding else holding

abbrev pub settle_of : FilesetId → Holding → Holding
settle_of id holding = if is_of id holding then settle_held holding else holding

-- nothing, where none is of the fileset
none_of : (id : FilesetId) (slots : List (Option Holding)) → ((at : ℕ) (holding : Holding) → held_at slots at ≡ Some holding → is_of id holding ≡ false) → map (option_map (settle_of id)) slots ≡ slots
none_of id [] h = refl
none_of id (None ∷ slots) h = ap (λ xs. None ∷ xs) (none_of id slots (λ at a e. h (suc at) a e))
none_of id (Some a ∷ slots) h =
    let e : is_of id a ≡ false = h 0 a refl in
    let rest = none_of id slots (λ at b k. h (suc at) b k) in
    rw (e, rest) refl

others_of : (id : FilesetId) (a : Holding) (slots : List (Option Holding)) → AreApart (Some a ∷ slots) → is_of id a ≡ true → (at : ℕ) (b : Holding) → held_at slots at ≡ Some b → is_of id b ≡ false
others_of id a slots h e at b k =
    let two = h 0 (suc at) a b (λ z. absurd (omega (arith, z))) refl k in
    let apart : a.fileset.id.0 ≢ b.fileset.id.0 = other_ids a b two in
    let same : a.fileset.id.0 ≡ id.0 = equal_is a.fileset.id.0 id.0 e in
    let other : b.fileset.id.0 ≢ id.0 = λ z. apart (same ∙ sym z) in
    grind (arith, common_steps, other)

-- the one that is
changed_one : (id : FilesetId) (slots : List (Option Holding)) → AreApart slots → changed_at slots (first (is_of id) slots) (option_map settle_held) ≡ map (option_map (settle_of id)) slots
changed_one id [] h = refl
changed_one id (None ∷ slots) h =
    let n : 1 + first (is_of id) slots ≡ suc (first (is_of id) slots) = omega arith in
    ap (λ k. changed_at (None ∷ slots) k (option_map settle_held)) n ∙ ap (λ xs. None ∷ xs) (changed_one id slots (apart_rest None slots h))
changed_one id (Some a ∷ slots) h = choice (is_of id a) refl (changed_one id slots (apart_rest (Some a) slots h))
  where
    choice : (b : Bool) → is_of id a ≡ b → changed_at slots (first (is_of id) slots) (option_map settle_held) ≡ map (option_map (settle_of id)) slots
        → changed_at (Some a ∷ slots) (cond (not b) (1 + first (is_of id) slots) 0) (option_map settle_held) ≡ Some (if b then settle_held a else a) ∷ map (option_map (settle_of id)) slots
    choice true e rest = ap (λ xs. Some (settle_held a) ∷ xs) (sym (none_of id slots (others_of id a slots h e)))
    choice false e rest =
        let n : 1 + first (is_of id) slots ≡ suc (first (is_of id) slots) = omega arith in
        ap (λ k. changed_at (Some a ∷ slots) k (option_map settle_held)) n ∙ ap (λ xs. Some a ∷ xs) rest

changed_as : (f g : Holding → Holding) (slots : List (Option Holding)) (at : ℕ) → ((holding : Holding) → held_at slots at ≡ Some holding → f holding ≡ g holding) → changed_at slots at (option_map f) ≡ changed_at slots at (option_map g)
changed_as f g [] at h = refl
changed_as f g (None ∷ slots) zero h = refl
changed_as f g (Some a ∷ slots) zero h = ap (λ one. Some one ∷ slots) (h a refl)
changed_as f g (slot ∷ slots) (suc at) h = ap (λ xs. slot ∷ xs) (changed_as f g slots at h)

unchanged : (slots : List (Option Holding)) (at : ℕ) → changed_at slots at (option_map (λ (holding : Holding). holding)) ≡ slots
unchanged [] at = refl
unchanged (None ∷ slots) zero = refl
unchanged (Some a ∷ slots) zero = refl
unchanged (slot ∷ slots) (suc at) = ap (λ xs. slot ∷ xs) (unchanged slots at)

-- whether the one that is found is unsettled
found_so : (slots : List (Option Holding)) (at : ℕ) (b : Bool) → option_map_or is_unsettled (option_map (λ (holding : Holding). holding.stay) (held_at slots at)) false ≡ b → (holding : Holding) → held_at slots at ≡ Some holding → is_unsettled holding.stay ≡ b
found_so slots at b e holding k = sym (ap (λ o. option_map_or is_unsettled (option_map (λ (one : Holding). one.stay) o) false) k) ∙ e

pub settled_slots : (state : StoreState) (id : FilesetId) → AreApart state.slots → (settle_outcome state id).state ≡ record state { slots = map (option_map (settle_of id)) state.slots }
unfolding settle_outcome
settled_slots state id h = choice (stays_so state id is_unsettled) refl
  where
    at : changed_at state.slots (slot_so (is_of id) state.slots) (option_map settle_held) ≡ map (option_map (settle_of id)) state.slots
    at = ap (λ k. changed_at state.slots k (option_map settle_held)) (slot_first (is_of id) state.slots) ∙ changed_one id state.slots h

    choice : (b : Bool) → stays_so state id is_unsettled ≡ b → (done_where b state (with_holding state id held_settled)).state ≡ record state { slots = map (option_map (settle_of id)) state.slots }
    choice true e =
        let same = changed_as held_settled settle_held state.slots (slot_so (is_of id) state.slots) (λ a k.
        let u : is_unsettled a.stay ≡ true = found_so state.slots (slot_so (is_of id) state.slots) true e a k in rw u refl) in
        ap (λ slots. record state { slots = slots }) (same ∙ at)
    choice false e =
        let same = changed_as settle_held (λ holding. holding) state.slots (slot_so (is_of id) state.slots) (λ a k.
        let u : is_unsettled a.stay ≡ false = found_so state.slots (slot_so (is_of id) state.slots) false e a k in rw u refl) in
        ap (λ slots. record state { slots = slots }) (sym (sym at ∙ same ∙ unchanged state.slots (slot_so (is_of id) state.slots)))

-- what is told of a slot then
abbrev pub turn : FilesetId → Slot → Slot
turn id slot = record slot { stay = if slot.fileset.0 == id.0 then stay_settled slot.stay else slot.stay }

settled_stays : (stay : Stay) → is_unsettled stay ≡ false → stay_settled stay ≡ stay
settled_stays Writable h = refl
settled_stays Clone h = refl
settled_stays (Leaving to ship) h = absurd (search (rules, h))
settled_stays (Arriving from ship parts) h =
    let one : parts ≡ 1 = grind (arith, common_steps, h) in ap (λ n. Arriving from ship n) (sym one)
settled_stays (Gone to) h = refl

told_turned : (n : ℕ) (id : FilesetId) (a : Holding) → slot_told n (settle_of id a) ≡ turn id (slot_told n a)
told_turned n id a = choice (is_of id a) (is_unsettled a.stay) refl
  where
    choice : (b c : Bool) → is_unsettled a.stay ≡ c → slot_told n (if b then (if c then held_settled a else a) else a) ≡ record (slot_told n a) { stay = if b then stay_settled a.stay else a.stay }
    choice true true e = refl
    choice true false e = ap (λ stay. record (slot_told n a) { stay = stay }) (sym (settled_stays a.stay e))
    choice false c e = refl

pub slots_turned : (n : ℕ) (id : FilesetId) (slots : List (Option Holding)) → slots_from n (map (option_map (settle_of id)) slots) ≡ map (turn id) (slots_from n slots)
slots_turned n id [] = refl
slots_turned n id (None ∷ slots) = slots_turned (n + 1) id slots
slots_turned n id (Some a ∷ slots) = let one = told_turned n id a in let rest = slots_turned (n + 1) id slots in rw (one, rest) refl

-- what is kept stays
kept_turn : (stay : Stay) (fileset : Fileset) (rest : List Fileset) → (if is_kept (stay_settled stay) then record fileset { anodes = anodes_settled stay fileset.anodes } ∷ rest else rest) ≡ (if is_kept stay then fileset ∷ rest else rest)
kept_turn Writable fileset rest = refl
kept_turn Clone fileset rest = refl
kept_turn (Leaving to ship) fileset rest = refl
kept_turn (Arriving from ship parts) fileset rest = refl
kept_turn (Gone to) fileset rest = refl

pub kept_turned : (id : FilesetId) (slots : List (Option Holding)) → filesets_kept (map (option_map (settle_of id)) slots) ≡ filesets_kept slots
kept_turned id [] = refl
kept_turned id (None ∷ slots) = kept_turned id slots
kept_turned id (Some a ∷ slots) = ap (λ xs. if is_kept (settle_of id a).stay then (settle_of id a).fileset ∷ xs else xs) (kept_turned id slots) ∙ choice (is_of id a) (is_unsettled a.stay)
  where
    choice : (b c : Bool) → (let one : Holding = if b then (if c then held_settled a else a) else a in if is_kept one.stay then one.fileset ∷ filesets_kept slots else filesets_kept slots) ≡ (if is_kept a.stay then a.fileset ∷ filesets_kept slots else filesets_kept slots)
    choice true true = kept_turn a.stay a.fileset (filesets_kept slots)
    choice true false = refl
    choice false c = refl

-- what is told after one act
pub told_once : (server : ℕ) (state : StoreState) (told : Told) (id : FilesetId) → IsToldOf server state told → IsToldOf server (act_done state (Settle id)).state (record told { slots = map (turn id) told.slots })
unfolding act_done
told_once server state told id h =
    let made = settled_slots state id h.storable.apart in
    let next : StoreState = record state { slots = map (option_map (settle_of id)) state.slots } in
    record {
      storable = acts_keep_storable state (Settle id) h.storable tt tt;
      own = ap (λ one. one.server.0) made ∙ h.own;
      kept = h.kept ∙ ap (λ filesets. let kept : Kept = record { capacity = state.capacity; next = state.next; filesets = filesets } in kept) (sym (kept_turned id state.slots)) ∙ sym (ap kept_of made);
      slots = ap (map (turn id)) h.slots ∙ sym (slots_turned 0 id state.slots) ∙ sym (ap (λ one. slots_from 0 one.slots) made);
    }
