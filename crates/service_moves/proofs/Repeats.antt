-- Acts of moves that were just done change nothing when they come again, and fit again.
use Rattle.std.proofs.Common.{◌≡◌, ◌≢◌, ◌<◌, ◌⊎◌, ℕ, zero, suc, ◌+◌, ◌-◌, ◌%◌, List, [], ◌∷◌, ◌++◌, length, set, inl, inr, refl, sym, subst, ◌∙◌, ap, arith}
use Rattle.std.specs.Prelude.{Bool, true, false, not, cond, ◌==◌, ◌&&◌, ◌||◌, nat_lt, nat_le, if◌then◌else◌, Option, Some, None, Result, Ok, Err}
use Rattle.std.specs.List.{list_any}
use Rattle.std.specs.Option.{option_map, option_map_or}
use Rattle.std.proofs.lemmas.Bool.{and_parts, false≢true, ltb-true, lt-ltb}
use Rattle.std.proofs.lemmas.Bool.Decides.{eqb_tells}
use Rattle.std.proofs.lemmas.Grind.{common_steps}
use Rattle.std.proofs.lemmas.List.{set-set, length-append}
use Rattle.base_types.specs.Lists.{changed_at}
use Rattle.base_types.specs.Outcomes.{either}
use Rattle.base_types.specs.declared.ids.FilesetId.{FilesetId}
use Rattle.base_types.specs.declared.ids.ServerId.{ServerId}
use Rattle.tree_calls.specs.declared.part.DirEntry.{DirEntry}
use Rattle.tree_calls.specs.declared.part.Piece.{Piece}
use Rattle.tree_calls.specs.declared.part.Status.{Status}
use Rattle.tree_calls.specs.declared.reply.Refusal.{Refusal}
use Rattle.tree_calls.specs.declared.reply.Refusal.TheVariants.{Exists, TooMany, NoRoom}
use Rattle.tree_calls.specs.declared.reply.Reply.TheVariants.{Ok as Accepted, Refused}
use Rattle.tree_calls.specs.declared.ship.Mover.{Mover}
use Rattle.tree_calls.specs.declared.ship.Record.{Record}
use Rattle.tree_calls.specs.declared.ship.ShipPart.{ShipPart}
use Rattle.tree_calls.specs.declared.ship.ShipPart.TheVariants.{Head, Object as ObjectPart}
use Rattle.tree_filesets.specs.Promises.{new_promise}
use Rattle.tree_filesets.specs.declared.fileset.Fileset.{Fileset}
use Rattle.tree_filesets.proofs.Targets.{unless_ok, ok_is}
use Rattle.store_acts.specs.Acts.{act_done}
use Rattle.store_acts.specs.Moving.{stays_so, with_holding, done_where, held_as, leave_outcome, held_left, stay_left, left_outcome, is_unsettled, stay_settled, held_settled, settle_outcome, taken_from, with_taken, arrival_slot, arrival, arriving, held_arriving, head_outcome, head_once, held_with, anode_outcome, part_outcome}
use Rattle.store_acts.specs.Parts.{anode_of_part}
use Rattle.store_acts.specs.Sound.{Fits, FitsAt, IsTakenSoFar}
use Rattle.store_acts.specs.declared.act.Act.{Act}
use Rattle.store_acts.specs.declared.act.Act.TheVariants.{Boot, Epoch, Host, Do, Refuse, Give, Leave, Back, Left, Settle, Part}
use Rattle.store_state.specs.Founding.{promised}
use Rattle.store_state.specs.Outcomes.{fresh, stale}
use Rattle.store_state.specs.Replies.{reply_code, reply_of}
use Rattle.store_state.specs.Sought.{awaits, is_due, is_other, is_past}
use Rattle.store_state.specs.State.{held_at, held_so, is_gone, is_leaving, is_of, is_used_so, is_writable, slot_so, with_held}
use Rattle.store_state.specs.declared.state.Holding.{Holding}
use Rattle.store_state.specs.declared.state.Stay.{Stay}
use Rattle.store_state.specs.declared.state.Stay.TheVariants.{Writable, Clone, Leaving, Arriving, Gone}
use Rattle.store_state.specs.declared.state.StoreState.{StoreState}
use Rattle.store_state.proofs.Slots.{first, slot_first, first_changed, held_changed, held_inside}
use Rattle.service_moves.specs.Again.{IsRepeatable, AreApart, MovesAreRepeatable}
use Rattle.service_moves.proofs.Tables.{found_passes, none_any, added_before}

-- an act that is done where a test holds, and leaves a store in which that fails
where_repeats : (test : StoreState → Bool) (next : StoreState → StoreState) (state : StoreState) → (test state ≡ true → test (next state) ≡ false)
    → (let done = (done_where (test state) state (next state)).state in (done_where (test done) done (next done)).state ≡ done)
where_repeats test next state h = by (test state) refl
  where
    by : (b : Bool) → test state ≡ b → (let done = (done_where b state (next state)).state in (done_where (test done) done (next done)).state ≡ done)
    by true e = ap (λ b. (done_where b (next state) (next (next state))).state) (h e)
    by false e = ap (λ b. (done_where b state (next state)).state) e

-- the holding of a fileset, once it was changed
own_changed : (slots : List (Option Holding)) (id : FilesetId) (change : Holding → Holding) → ((holding : Holding) → is_of id (change holding) ≡ is_of id holding)
    → held_so (is_of id) (changed_at slots (slot_so (is_of id) slots) (option_map change)) ≡ option_map change (held_so (is_of id) slots)
own_changed slots id change same =
    let at = slot_so (is_of id) slots in
    let place : slot_so (is_of id) (changed_at slots at (option_map change)) ≡ at =
    slot_first (is_of id) (changed_at slots at (option_map change)) ∙ first_changed (is_of id) change same slots at ∙ sym (slot_first (is_of id) slots) in
    ap (held_at (changed_at slots at (option_map change))) place ∙ held_changed slots at change

-- it fails a test that its new stay fails
stays_not : (slots : List (Option Holding)) (id : FilesetId) (change : Holding → Holding) (test : Stay → Bool) → ((holding : Holding) → is_of id (change holding) ≡ is_of id holding)
    → ((holding : Holding) → test (change holding).stay ≡ false)
    → option_map_or test (option_map (λ (holding : Holding). holding.stay) (held_so (is_of id) (changed_at slots (slot_so (is_of id) slots) (option_map change)))) false ≡ false
stays_not slots id change test same fails =
    ap (λ o. option_map_or test (option_map (λ (holding : Holding). holding.stay) o) false) (own_changed slots id change same) ∙ by (held_so (is_of id) slots)
  where
    by : (o : Option Holding) → option_map_or test (option_map (λ (holding : Holding). holding.stay) (option_map change o)) false ≡ false
    by None = refl
    by (Some holding) = fails holding

-- Leave, Left and Settle
leave_repeats : (state : StoreState) (id : FilesetId) (to : ServerId) → (leave_outcome (leave_outcome state id to).state id to).state ≡ (leave_outcome state id to).state
unfolding leave_outcome
leave_repeats state id to =
    where_repeats (λ s. stays_so s id is_writable && not (list_any (is_used_so (λ holding. is_leaving holding.stay)) s.slots))
    (λ s. record (with_holding s id (held_as (Leaving to (s.ship + 1)))) { ship = s.ship + 1 }) state
    (λ e. ap (λ b. b && not (list_any (is_used_so (λ holding. is_leaving holding.stay)) (with_holding state id (held_as (Leaving to (state.ship + 1)))).slots))
    (stays_not state.slots id (held_as (Leaving to (state.ship + 1))) is_writable (λ h. refl) (λ h. refl)))

left_repeats : (state : StoreState) (id : FilesetId) → (left_outcome (left_outcome state id).state id).state ≡ (left_outcome state id).state
unfolding left_outcome
left_repeats state id =
    where_repeats (λ s. stays_so s id is_leaving) (λ s. with_holding s id held_left) state
    (λ e. stays_not state.slots id held_left is_leaving (λ h. refl) (λ h. left h.stay))
  where
    left : (stay : Stay) → is_leaving (stay_left stay) ≡ false
    left Writable = refl
    left Clone = refl
    left (Leaving to ship) = refl
    left (Arriving from ship parts) = refl
    left (Gone to) = refl

settle_repeats : (state : StoreState) (id : FilesetId) → (settle_outcome (settle_outcome state id).state id).state ≡ (settle_outcome state id).state
unfolding settle_outcome
settle_repeats state id =
    where_repeats (λ s. stays_so s id is_unsettled) (λ s. with_holding s id held_settled) state
    (λ e. stays_not state.slots id held_settled is_unsettled (λ h. refl) (λ h. settled h.stay))
  where
    settled : (stay : Stay) → is_unsettled (stay_settled stay) ≡ false
    settled Writable = refl
    settled Clone = refl
    settled (Leaving to ship) = refl
    settled (Arriving from ship parts) = refl
    settled (Gone to) = refl

-- what is found, and what isn't

first_held : (test : Holding → Bool) (slots : List (Option Holding)) → first test slots < length slots → (a : Holding) × (held_at slots (first test slots) ≡ Some a)
first_held test [] l = absurd (omega (arith, l))
first_held test (None ∷ slots) l =
    let n : 1 + first test slots ≡ suc (first test slots) = omega arith in
    let (a, e) = first_held test slots (omega (arith, l)) in
    (a, ap (held_at (None ∷ slots)) n ∙ e)
first_held test (Some other ∷ slots) l = by (test other) l (λ k. first_held test slots k)
  where
    by : (b : Bool) → cond (not b) (1 + first test slots) 0 < length (Some other ∷ slots) → (first test slots < length slots → (a : Holding) × (held_at slots (first test slots) ≡ Some a))
        → (a : Holding) × (held_at (Some other ∷ slots) (cond (not b) (1 + first test slots) 0) ≡ Some a)
    by true k rest = (other, refl)
    by false k rest =
        let n : 1 + first test slots ≡ suc (first test slots) = omega arith in
        let (a, e) = rest (omega (arith, k)) in
        (a, ap (held_at (Some other ∷ slots)) n ∙ e)

found_held : (test : Holding → Bool) (slots : List (Option Holding)) → nat_lt (slot_so test slots) (length slots) ≡ true → (a : Holding) × (held_so test slots ≡ Some a)
found_held test slots e =
    let place = slot_first test slots in
    let low : slot_so test slots < length slots = ltb-true _ _ e in
    let (a, there) = first_held test slots (omega (arith, place, low)) in
    (a, ap (held_at slots) place ∙ there)

first_none : (test : Holding → Bool) (slots : List (Option Holding)) → ((t : ℕ) (b : Holding) → held_at slots t ≡ Some b → test b ≡ false) → first test slots ≡ length slots
first_none test [] h = refl
first_none test (None ∷ slots) h = let e = first_none test slots (λ t b k. h (suc t) b k) in omega (arith, e)
first_none test (Some other ∷ slots) h =
    let e = first_none test slots (λ t b k. h (suc t) b k) in
    ap (λ b. cond (not b) (1 + first test slots) 0) (h zero other refl) ∙ omega (arith, e)

not_found : (test : Holding → Bool) (slots : List (Option Holding)) → ((t : ℕ) (b : Holding) → held_at slots t ≡ Some b → test b ≡ false) → nat_lt (slot_so test slots) (length slots) ≡ false
not_found test slots h = ap (λ n. nat_lt n (length slots)) (slot_first test slots ∙ first_none test slots h) ∙ itself (length slots)
  where
    itself : (n : ℕ) → nat_lt n n ≡ false
    itself n = grind (arith, common_steps)

any_at : (test : Holding → Bool) (slots : List (Option Holding)) (at : ℕ) (b : Holding) → at < length slots → test b ≡ true → list_any (is_used_so test) (set slots at (Some b)) ≡ true
any_at test [] at b l t = absurd (omega (arith, l))
any_at test (slot ∷ slots) zero b l t = ap (λ x. x || list_any (is_used_so test) slots) t
any_at test (slot ∷ slots) (suc at) b l t = ap (λ x. is_used_so test slot || x) (any_at test slots at b (omega (arith, l)) t) ∙ or_true (is_used_so test slot)
  where
    or_true : (x : Bool) → (x || true) ≡ true
    or_true true = refl
    or_true false = refl

-- what is held where one slot was changed: what the change made, or what was there
changed_before : (slots : List (Option Holding)) (at s : ℕ) (f : Holding → Holding) (c : Holding) → held_at (changed_at slots at (option_map f)) s ≡ Some c
    → (b : Holding) × (held_at slots s ≡ Some b) × ((c ≡ f b) ⊎ ((s ≢ at) × (c ≡ b)))
changed_before [] at s f c e = absurd (cc)
changed_before (None ∷ slots) zero zero f c e = absurd (cc)
changed_before (Some b ∷ slots) zero zero f c e = (b, refl, inl (cc))
changed_before (slot ∷ slots) zero (suc s) f c e = (c, e, inr ((λ k. omega (arith, k)), refl))
changed_before (slot ∷ slots) (suc at) zero f c e = (c, e, inr ((λ k. omega (arith, k)), refl))
changed_before (slot ∷ slots) (suc at) (suc s) f c e = by (changed_before slots at s f c e)
  where
    by : (b : Holding) × (held_at slots s ≡ Some b) × ((c ≡ f b) ⊎ ((s ≢ at) × (c ≡ b)))
        → (b : Holding) × (held_at slots s ≡ Some b) × ((c ≡ f b) ⊎ ((suc s ≢ suc at) × (c ≡ b)))
    by (b, there, inl made) = (b, there, inl made)
    by (b, there, inr (apart, same)) = (b, there, inr ((λ k. apart (omega (arith, k))), same))

same_id : (id : FilesetId) (a b : Holding) → is_of id a ≡ true → is_of id b ≡ true → a.fileset.id ≡ b.fileset.id
same_id id a b x y =
    let p : a.fileset.id.0 ≡ id.0 = number a.fileset.id.0 x in
    let q : b.fileset.id.0 ≡ id.0 = number b.fileset.id.0 y in
    let e : a.fileset.id.0 ≡ b.fileset.id.0 = omega (arith, p, q) in
    ap (λ n. record { 0 = n }) e
  where
    number : (n : ℕ) → (n == id.0) ≡ true → n ≡ id.0
    number n e = elim (eqb_tells n id.0) [ inl (t, k) ↦ k | inr (t, k) ↦ absurd (false≢true (sym t ∙ e)) ]

-- an anode that came isn't awaited any more
no_more_due : (from : ServerId) (ship at objects : ℕ) → is_due from ship at (if at == objects then Writable else Arriving from ship (at + 1)) ≡ false
no_more_due from ship at objects = by (at == objects)
  where
    next : ((at + 1) == at) ≡ false
    next = elim (eqb_tells (at + 1) at) [ inl (t, k) ↦ absurd (omega (arith, k)) | inr (t, k) ↦ t ]

    and_false : (x : Bool) → (x && false) ≡ false
    and_false true = refl
    and_false false = refl

    by : (b : Bool) → is_due from ship at (if b then Writable else Arriving from ship (at + 1)) ≡ false
    by true = refl
    by false = ap (λ x. ((from.0 == from.0) && (ship == ship)) && x) next ∙ and_false ((from.0 == from.0) && (ship == ship))

anode_repeats : (state : StoreState) (from : ServerId) (ship : ℕ) (id : FilesetId) (moves at : ℕ) (unique : ℕ) (status : Option Status) (pieces : List Piece) (entries : List DirEntry) → AreApart state
    → (let anode = anode_of_part unique status pieces entries in (anode_outcome (anode_outcome state from ship id moves at anode).state from ship id moves at anode).state ≡ (anode_outcome state from ship id moves at anode).state)
anode_repeats state from ship id moves at unique status pieces entries apart =
    where_repeats (λ s. nat_lt (slot_so test s.slots) (length s.slots)) (λ s. with_held s (slot_so test s.slots) change) state (λ e. not_found test _ (nobody e))
  where
    test : Holding → Bool
    test = awaits id from ship moves at

    change : Holding → Holding
    change = held_with from ship at (anode_of_part unique status pieces entries)

    place : ℕ
    place = slot_so test state.slots

    nobody : nat_lt place (length state.slots) ≡ true → (t : ℕ) (b : Holding) → held_at (changed_at state.slots place (option_map change)) t ≡ Some b → test b ≡ false
    nobody e t c there = by (changed_before state.slots place t change c there)
      where
        own : (b : Holding) → test (change b) ≡ false
        own b =
            ap (λ x. (is_of id b && x) && (b.fileset.moves == moves)) (no_more_due from ship at b.fileset.objects) ∙ gone (is_of id b)
          where
            gone : (x : Bool) → ((x && false) && (b.fileset.moves == moves)) ≡ false
            gone true = refl
            gone false = refl

        other : (x : Bool) → (b : Holding) → test b ≡ x → t ≢ place → held_at state.slots t ≡ Some b → test b ≡ false
        other false b k away is = k
        other true b k away is =
            let (a, found) = found_held test state.slots e in
            let mine = found_passes test state.slots a found in
            absurd (apart t place b a away is found (same_id id b a (of b k) (of a mine)))
          where
            of : (h : Holding) → test h ≡ true → is_of id h ≡ true
            of h k = (and_parts (is_of id h) _ (and_parts (is_of id h && is_due from ship at h.stay) _ k).0).0

        by : (b : Holding) × (held_at state.slots t ≡ Some b) × ((c ≡ change b) ⊎ ((t ≢ place) × (c ≡ b))) → test c ≡ false
        by (b, is, inl made) = ap test made ∙ own b
        by (b, is, inr (away, same)) = ap test same ∙ other (test b) b refl away is

-- heads

slot_room : (state : StoreState) (id : FilesetId) (name : List ℕ) (objects slot : ℕ) → arrival state id name objects ≡ Ok slot → slot < length state.slots
slot_room state id name objects slot e =
    let at = arrival_slot state id in
    let (named, a) = unless_ok (list_any (is_used_so (is_other id name)) state.slots) Exists _ slot e in
    let (few, b) = unless_ok (nat_le (length state.slots) at) TooMany _ slot a in
    let (much, c) = unless_ok (nat_lt state.capacity (promised state.slots + new_promise objects)) NoRoom _ slot b in
    let same : at ≡ slot = ok_is at slot c in
    let low : at < length state.slots = within at few in
    omega (arith, same, low)
  where
    within : (at : ℕ) → nat_le (length state.slots) at ≡ false → at < length state.slots
    within at k = grind (arith, common_steps, k)

module _ (from : ServerId) (ship : ℕ) (id : FilesetId) (moves : ℕ) (name : List ℕ) (objects : ℕ) (records : List Record) (mover : Mover) where
  abbrev late : StoreState → Bool
  late s = list_any (is_used_so (is_past id moves)) s.slots

  abbrev new : StoreState → Bool
  new s = nat_lt (taken_from s from).ship ship

  abbrev headed : StoreState → StoreState
  headed s = (head_once s from ship id moves (head_outcome s from ship id moves name objects records mover)).state

  -- the fileset, as it arrives at this server
  abbrev begun : ServerId → Holding
  begun own = held_arriving (Arriving from ship 1) (arriving own id name objects moves) records mover

  late_same : (s : StoreState) → late s ≡ true → headed s ≡ s
  late_same s l =
      ap (λ b. (if b then stale Accepted s
      else if new s then head_outcome s from ship id moves name objects records mover
      else stale (reply_of (taken_from s from).code 0) s).state) l

  old_same : (s : StoreState) → late s ≡ false → new s ≡ false → headed s ≡ s
  old_same s l n =
      ap (λ b. (if b then stale Accepted s
      else if new s then head_outcome s from ship id moves name objects records mover
      else stale (reply_of (taken_from s from).code 0) s).state) l
      ∙ ap (λ b. (if b then head_outcome s from ship id moves name objects records mover else stale (reply_of (taken_from s from).code 0) s).state) n

  taken_now : (s : StoreState) → late s ≡ false → new s ≡ true → headed s ≡ (head_outcome s from ship id moves name objects records mover).state
  taken_now s l n =
      ap (λ b. (if b then stale Accepted s
      else if new s then head_outcome s from ship id moves name objects records mover
      else stale (reply_of (taken_from s from).code 0) s).state) l
      ∙ ap (λ b. (if b then head_outcome s from ship id moves name objects records mover else stale (reply_of (taken_from s from).code 0) s).state) n

  -- it is taken, or refused
  abbrev with_head : StoreState → ℕ → StoreState
  with_head s slot = record (with_taken s from ship Accepted) { slots = set s.slots slot (Some (begun s.server)) }

  head_made : (s : StoreState) (slot : ℕ) → arrival s id name objects ≡ Ok slot → (head_outcome s from ship id moves name objects records mover).state ≡ with_head s slot
  unfolding head_outcome
  head_made s slot e =
      ap (λ r. (either r (λ slot. fresh Accepted (with_head s slot)) (λ refusal. fresh (Refused refusal) (with_taken s from ship (Refused refusal)))).state) e

  head_refused : (s : StoreState) (refusal : Refusal) → arrival s id name objects ≡ Err refusal
      → (head_outcome s from ship id moves name objects records mover).state ≡ with_taken s from ship (Refused refusal)
  unfolding head_outcome
  head_refused s refusal e =
      ap (λ r. (either r (λ slot. fresh Accepted (with_head s slot)) (λ refusal. fresh (Refused refusal) (with_taken s from ship (Refused refusal)))).state) e

  -- what a head leaves
  record Headed (s t : StoreState) : Type 0 where
    same_server : t.server ≡ s.server
    same_next : t.next ≡ s.next
    again : headed t ≡ t
    slots : (t.slots ≡ s.slots) ⊎ ((slot : ℕ) × (late s ≡ false) × (t.slots ≡ set s.slots slot (Some (begun s.server))))

  same_head : (s : StoreState) → headed s ≡ s → Headed s s
  same_head s e = record { same_server = refl; same_next = refl; again = e; slots = inl refl }

  made_head : (s : StoreState) (slot : ℕ) → late s ≡ false → arrival s id name objects ≡ Ok slot → Headed s (with_head s slot)
  made_head s slot l e = record {
    same_server = refl;
    same_next = refl;
    again = late_same (with_head s slot) (any_at (is_past id moves) s.slots slot (begun s.server) (slot_room s id name objects slot e) mine);
    slots = inr (slot, l, refl);
  }
    where
      mine : is_past id moves (begun s.server) ≡ true
      mine = ap (λ b. b && true) (itself id.0)
        where
          itself : (n : ℕ) → (n == n) ≡ true
          itself n = elim (eqb_tells n n) [ inl (t, k) ↦ t | inr (t, k) ↦ absurd (k refl) ]

  refused_head : (s : StoreState) (refusal : Refusal) → late s ≡ false → arrival s id name objects ≡ Err refusal → Headed s (with_taken s from ship (Refused refusal))
  refused_head s refusal l e = record { same_server = refl; same_next = refl; again = by (new (with_taken s from ship (Refused refusal))) refl; slots = inl refl }
    where
      by : (b : Bool) → new (with_taken s from ship (Refused refusal)) ≡ b → headed (with_taken s from ship (Refused refusal)) ≡ with_taken s from ship (Refused refusal)
      by false n = old_same (with_taken s from ship (Refused refusal)) l n
      by true n =
          taken_now (with_taken s from ship (Refused refusal)) l n
          ∙ head_refused (with_taken s from ship (Refused refusal)) refusal e
          ∙ ap (λ taken. record s { taken = taken })
          (set-set s.taken (from.0 - 1) (record { ship = ship; code = reply_code (Refused refusal) }) (record { ship = ship; code = reply_code (Refused refusal) }))

  head_leaves : (s : StoreState) → Headed s (headed s)
  head_leaves s = by (late s) (new s) refl refl
    where
      taken : late s ≡ false → (r : Result ℕ Refusal) → arrival s id name objects ≡ r → Headed s (head_outcome s from ship id moves name objects records mover).state
      taken l (Ok slot) e = subst (Headed s) (sym (head_made s slot e)) (made_head s slot l e)
      taken l (Err refusal) e = subst (Headed s) (sym (head_refused s refusal e)) (refused_head s refusal l e)

      by : (l n : Bool) → late s ≡ l → new s ≡ n → Headed s (headed s)
      by true n e k = subst (Headed s) (sym (late_same s e)) (same_head s (late_same s e))
      by false false e k = subst (Headed s) (sym (old_same s e k)) (same_head s (old_same s e k))
      by false true e k = subst (Headed s) (sym (taken_now s e k)) (taken e (arrival s id name objects) refl)

part_repeats : (state : StoreState) (from : ServerId) (ship : ℕ) (id : FilesetId) (moves at : ℕ) (part : ShipPart) → AreApart state
    → (part_outcome (part_outcome state from ship id moves at part).state from ship id moves at part).state ≡ (part_outcome state from ship id moves at part).state
unfolding part_outcome
part_repeats state from ship id moves at (Head name objects records mover) apart = by (at == 0)
  where
    once : Bool → StoreState → StoreState
    once b s = (if b then head_once s from ship id moves (head_outcome s from ship id moves name objects records mover) else stale Accepted s).state

    by : (b : Bool) → once b (once b state) ≡ once b state
    by true = (head_leaves from ship id moves name objects records mover state).again
    by false = refl
part_repeats state from ship id moves at (ObjectPart anode unique status pieces entries) apart =
    anode_repeats state from ship id moves at unique status pieces entries apart

pub moves_repeat : MovesAreRepeatable
unfolding act_done
moves_repeat state (Leave id to) apart is = leave_repeats state id to
moves_repeat state (Left id) apart is = left_repeats state id
moves_repeat state (Settle id) apart is = settle_repeats state id
moves_repeat state (Part from ship id moves at part) apart is = part_repeats state from ship id moves at part apart
moves_repeat state Boot apart is = absurd is
moves_repeat state Epoch apart is = absurd is
moves_repeat state (Host host known) apart is = absurd is
moves_repeat state (Do host number call) apart is = absurd is
moves_repeat state (Refuse host id number refusal) apart is = absurd is
moves_repeat state (Give host number fid pieces given) apart is = absurd is
moves_repeat state (Back host number id refusal) apart is = absurd is

-- An act that is repeatable fits again.

-- what an anode leaves of what fits it
where_parts : (b : Bool) (state next : StoreState) → next.server ≡ state.server → next.next ≡ state.next
    → (let done = (done_where b state next).state in (done.server ≡ state.server) × (done.next ≡ state.next))
where_parts true state next a b = (a, b)
where_parts false state next a b = (refl, refl)

-- an anode that changes nothing isn't awaited
not_awaited : (state : StoreState) (from : ServerId) (ship : ℕ) (id : FilesetId) (moves at : ℕ) (unique : ℕ) (status : Option Status) (pieces : List Piece) (entries : List DirEntry)
    → (anode_outcome state from ship id moves at (anode_of_part unique status pieces entries)).state ≡ state → (holding : Holding) → held_so (awaits id from ship moves at) state.slots ≡ Some holding → ⊥
not_awaited state from ship id moves at unique status pieces entries same holding there =
    let anode = anode_of_part unique status pieces entries in
    let place = slot_so (awaits id from ship moves at) state.slots in
    let low : nat_lt place (length state.slots) ≡ true = lt-ltb place (length state.slots) (held_inside state.slots place holding there) in
    let made : with_held state place (held_with from ship at anode) ≡ state =
    sym (ap (λ b. (done_where b state (with_held state place (held_with from ship at anode))).state) low) ∙ same in
    let one : Some (held_with from ship at anode holding) ≡ Some holding =
    ap (option_map (held_with from ship at anode)) (sym there)
    ∙ sym (held_changed state.slots place (held_with from ship at anode))
    ∙ ap (λ (s : StoreState). held_at s.slots place) made
    ∙ there in
    let count : length (holding.fileset.anodes ++ anode ∷ []) ≡ length holding.fileset.anodes = ap (λ (o : Option Holding). count_in o) one in
    let more = length-append holding.fileset.anodes (anode ∷ []) in
    omega (arith, count, more)
  where
    count_in : Option Holding → ℕ
    count_in None = 0
    count_in (Some h) = length h.fileset.anodes

fits_on : (state next : StoreState) (from : ServerId) (ship : ℕ) (id : FilesetId) (moves at : ℕ) (told : ShipPart) (fileset : Fileset) → FitsAt state from ship id moves at told fileset
    → next.server ≡ state.server → next.next ≡ state.next
    → ((holding : Holding) → held_so (awaits id from ship moves at) next.slots ≡ Some holding → IsTakenSoFar fileset at holding)
    → FitsAt next from ship id moves at told fileset
fits_on state next from ship id moves at told fileset f server number taken = record {
  other = subst (λ (s : ServerId). from.0 ≢ s.0) (sym server) f.other;
  allowed = record {
    first = f.allowed.first;
    last = f.allowed.last;
    number = f.allowed.number;
    given = λ own. subst (λ n. id.0 % 65536 < n) (sym number) (f.allowed.given (own ∙ ap (λ (s : ServerId). s.0) server));
  };
  named = f.named;
  well_formed = f.well_formed;
  settled = f.settled;
  whole = f.whole;
  writable = f.writable;
  part = f.part;
  taken = taken;
}

-- no head that was taken leaves one awaited
head_taken_so : (from : ServerId) (ship : ℕ) (id : FilesetId) (moves at : ℕ) (name : List ℕ) (objects : ℕ) (records : List Record) (mover : Mover) (state next : StoreState)
    → Headed from ship id moves name objects records mover state next → at ≡ 0 → (fileset : Fileset)
    → ((holding : Holding) → held_so (awaits id from ship moves at) state.slots ≡ Some holding → IsTakenSoFar fileset at holding)
    → (holding : Holding) → held_so (awaits id from ship moves at) next.slots ≡ Some holding → IsTakenSoFar fileset at holding
head_taken_so from ship id moves at name objects records mover state next h zero_at fileset taken holding there = by h.slots
  where
    awaited : awaits id from ship moves at holding ≡ true
    awaited = found_passes (awaits id from ship moves at) next.slots holding there

    not_begun : holding ≡ begun from ship id moves name objects records mover state.server → ⊥
    not_begun e =
        let fresh = begun from ship id moves name objects records mover state.server in
        let k : awaits id from ship moves at fresh ≡ true = subst (λ h. awaits id from ship moves at h ≡ true) e awaited in
        let due = (and_parts (is_of id fresh) _ (and_parts (is_of id fresh && is_due from ship at fresh.stay) _ k).0).1 in
        let last : (1 == at) ≡ true = (and_parts ((from.0 == from.0) && (ship == ship)) (1 == at) due).1 in
        elim (eqb_tells 1 at) [ inl (t, one) ↦ absurd (omega (arith, one, zero_at)) | inr (t, one) ↦ absurd (false≢true (sym t ∙ last)) ]

    not_there : list_any (is_used_so (is_past id moves)) state.slots ≡ false → held_at state.slots (slot_so (awaits id from ship moves at) next.slots) ≡ Some holding → ⊥
    not_there l e =
        let parts = and_parts (is_of id holding) _ (and_parts (is_of id holding && is_due from ship at holding.stay) _ awaited).0 in
        let past : is_past id moves holding ≡ true =
        ap (λ b. b && (not (is_gone holding.stay) || nat_le moves holding.fileset.moves)) parts.0
        ∙ ap (λ b. not b || nat_le moves holding.fileset.moves) (due_stays holding.stay parts.1) in
        let none = none_any (is_past id moves) state.slots l (slot_so (awaits id from ship moves at) next.slots) holding e in
        false≢true (sym none ∙ past)
      where
        due_stays : (stay : Stay) → is_due from ship at stay ≡ true → is_gone stay ≡ false
        due_stays Writable k = refl
        due_stays Clone k = refl
        due_stays (Leaving to sent) k = refl
        due_stays (Arriving sender taken parts) k = refl
        due_stays (Gone to) k = absurd (false≢true k)

    by : (next.slots ≡ state.slots) ⊎ ((slot : ℕ) × (list_any (is_used_so (is_past id moves)) state.slots ≡ false)
        × (next.slots ≡ set state.slots slot (Some (begun from ship id moves name objects records mover state.server)))) → IsTakenSoFar fileset at holding
    by (inl same) = taken holding (ap (held_so (awaits id from ship moves at)) (sym same) ∙ there)
    by (inr (slot, l, made)) =
        elim (added_before state.slots slot (slot_so (awaits id from ship moves at) next.slots) (begun from ship id moves name objects records mover state.server) holding
        (ap (λ slots. held_at slots (slot_so (awaits id from ship moves at) next.slots)) (sym made) ∙ there))
        [ inl e ↦ absurd (not_begun e) | inr e ↦ absurd (not_there l e) ]

part_fits : (state : StoreState) (from : ServerId) (ship : ℕ) (id : FilesetId) (moves at : ℕ) (part : ShipPart) (fileset : Fileset)
    → (part_outcome (part_outcome state from ship id moves at part).state from ship id moves at part).state ≡ (part_outcome state from ship id moves at part).state
    → FitsAt state from ship id moves at part fileset → FitsAt (part_outcome state from ship id moves at part).state from ship id moves at part fileset
unfolding part_outcome
part_fits state from ship id moves at (Head name objects records mover) fileset same f = by (at == 0) refl
  where
    once : Bool → StoreState
    once b = (if b then head_once state from ship id moves (head_outcome state from ship id moves name objects records mover) else stale Accepted state).state

    by : (b : Bool) → (at == 0) ≡ b → FitsAt (once b) from ship id moves at (Head name objects records mover) fileset
    by false e = f
    by true e =
        let left = head_leaves from ship id moves name objects records mover state in
        let zero_at : at ≡ 0 = elim (eqb_tells at 0) [ inl (t, k) ↦ k | inr (t, k) ↦ absurd (false≢true (sym t ∙ e)) ] in
        fits_on state (once true) from ship id moves at (Head name objects records mover) fileset f left.same_server left.same_next
        (head_taken_so from ship id moves at name objects records mover state (once true) left zero_at fileset f.taken)
part_fits state from ship id moves at (ObjectPart anode unique status pieces entries) fileset same f =
    let told = anode_of_part unique status pieces entries in
    let next = (anode_outcome state from ship id moves at told).state in
    let place = slot_so (awaits id from ship moves at) state.slots in
    let kept = where_parts (nat_lt place (length state.slots)) state (with_held state place (held_with from ship at told)) refl refl in
    fits_on state next from ship id moves at (ObjectPart anode unique status pieces entries) fileset f kept.0 kept.1
    (λ holding there. absurd (not_awaited next from ship id moves at unique status pieces entries same holding there))

leave_server : (state : StoreState) (id : FilesetId) (to : ServerId) → (leave_outcome state id to).state.server ≡ state.server
unfolding leave_outcome
leave_server state id to =
    (where_parts (stays_so state id is_writable && not (list_any (is_used_so (λ holding. is_leaving holding.stay)) state.slots)) state
    (record (with_holding state id (held_as (Leaving to (state.ship + 1)))) { ship = state.ship + 1 }) refl refl).0

pub fits_again : (state : StoreState) (act : Act) → IsRepeatable state act → Fits state act → Fits (act_done state act).state act
unfolding act_done
fits_again state Boot same f = f
fits_again state Epoch same f = f
fits_again state (Host host known) same f = f
fits_again state (Do host number call) same f = f
fits_again state (Refuse host id number refusal) same f = f
fits_again state (Give host number fid pieces given) same f = f
fits_again state (Leave id to) same f = subst (λ (s : ServerId). to.0 ≢ s.0) (sym (leave_server state id to)) f
fits_again state (Back host number id refusal) same f = f
fits_again state (Left id) same f = f
fits_again state (Settle id) same f = f
fits_again state (Part from ship id moves at part) same f = (f.0, part_fits state from ship id moves at part f.0 same f.1)
