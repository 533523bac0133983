-- Parts of filesets that come leave a record that a disk can have.
use Rattle.std.proofs.Common.{◌≡◌, ◌≢◌, ◌<◌, ◌≤◌, ◌⊎◌, ℕ, zero, suc, ◌+◌, ◌-◌, List, [], ◌∷◌, ◌++◌, length, take, set, inl, inr, refl, sym, subst, ◌∙◌, ap, arith}
use Rattle.std.specs.Prelude.{Bool, true, false, IsTrue, ◌==◌, ◌&&◌, not, nat_lt, cond, if◌then◌else◌, Option, Some, None, is_some, Result, Ok, Err, slice_get}
use Rattle.std.specs.List.{list_all, list_any}
use Rattle.std.specs.Option.{option_map_or, option_and_then}
use Rattle.std.proofs.lemmas.Bool.{and_parts, and_from, cases_lt, false≢true, cond-true, cond-false, eqb-true, eq-eqb, lt-ltb}
use Rattle.std.proofs.lemmas.List.{take_all}
use Rattle.base_types.specs.Name.{is_name, same_name}
use Rattle.base_types.specs.Outcomes.{either}
use Rattle.base_types.specs.declared.ids.FilesetId.{FilesetId}
use Rattle.base_types.specs.declared.ids.ServerId.{ServerId}
use Rattle.tree_calls.specs.declared.part.DirEntry.{DirEntry}
use Rattle.tree_calls.specs.declared.part.Piece.{Piece}
use Rattle.tree_calls.specs.declared.part.Status.{Status}
use Rattle.tree_calls.specs.declared.reply.Refusal.{Refusal}
use Rattle.tree_calls.specs.declared.reply.Refusal.TheVariants.{Exists}
use Rattle.tree_calls.specs.declared.reply.Reply.{Reply}
use Rattle.tree_calls.specs.declared.reply.Reply.TheVariants.{Ok as Accepted, Refused}
use Rattle.tree_calls.specs.declared.ship.Mover.{Mover}
use Rattle.tree_calls.specs.declared.ship.Record.{Record}
use Rattle.tree_calls.specs.declared.ship.ShipPart.{ShipPart}
use Rattle.tree_calls.specs.declared.ship.ShipPart.TheVariants.{Head, Object as ObjectPart}
use Rattle.tree_objects.specs.Objects.{is_dir}
use Rattle.tree_objects.specs.declared.content.Anode.{Anode}
use Rattle.tree_objects.specs.declared.content.Object.{Object}
use Rattle.tree_filesets.specs.Promises.{new_promise, promise}
use Rattle.tree_filesets.specs.Walk.{object_at, unique_at}
use Rattle.tree_filesets.specs.WellFormed.{entry_at, entry_in, leads, is_at_rest, IsUsed, IsWellFormed}
use Rattle.tree_filesets.specs.declared.fileset.Fileset.{Fileset}
use Rattle.tree_filesets.proofs.Targets.{unless_ok}
use Rattle.message_types.specs.Soundness.{Each}
use Rattle.store_acts.proofs.Limits.{length_set, kept_change}
use Rattle.store_acts.proofs.Told.{parts_are_whole}
use Rattle.store_acts.specs.Laws.{anode_told}
use Rattle.store_acts.specs.Moving.{anode_outcome, arrival, arrival_slot, arriving, head_once, head_outcome, held_arriving, held_with, part_outcome, taken_from, with_taken}
use Rattle.store_acts.specs.Parts.{anode_of_part, are_told, is_tellable, object_part, part_of, tellable_or_none, told_object}
use Rattle.store_acts.specs.Sound.{Fits, IsAct, IsAllowed, IsTakenSoFar}
use Rattle.store_acts.specs.declared.act.Act.TheVariants.{Part}
use Rattle.store_state.proofs.Slots.{first, slot_first}
use Rattle.store_state.specs.Founding.{held_promise}
use Rattle.store_state.specs.Outcomes.{Outcome, fresh, stale}
use Rattle.store_state.specs.Replies.{reply_code, reply_of}
use Rattle.store_state.specs.Sought.{awaits, is_due, is_other, is_past}
use Rattle.store_state.specs.State.{held_at, held_so, is_gone, is_of, is_used_so, no_record, slot_so, with_held}
use Rattle.store_state.specs.declared.state.Holding.{Holding}
use Rattle.store_state.specs.declared.state.Stay.{Stay}
use Rattle.store_state.specs.declared.state.Stay.TheVariants.{Writable, Clone, Leaving, Arriving, Gone}
use Rattle.store_state.specs.declared.state.StoreState.{StoreState}
use Rattle.store_state.specs.declared.state.TakenShip.{TakenShip}
use Rattle.store_records.specs.Stored.{IsOther, MayArrive, IsStored, StaysRight}
use Rattle.store_records.proofs.Calls.{held_fit}
use Rattle.store_records.proofs.Fit.{IsFit, IsStill, IsChanged, still_slots, stored_on, allowed_on, in_slot}
use Rattle.store_records.proofs.Founds.{slot_ok}
use Rattle.store_records.proofs.Moves.{where_fit, other_of}
use Rattle.store_records.proofs.Rests.{rests, all_got}
use Rattle.store_records.proofs.Tables.{found_passes, none_found, none_any}

-- ships that were taken
codes_set : (ships : List TakenShip) (i : ℕ) (ship : TakenShip) → Each (λ (ship : TakenShip). ship.code ≤ 21) ships → ship.code ≤ 21
    → Each (λ (ship : TakenShip). ship.code ≤ 21) (set ships i ship)
codes_set [] i ship h k = tt
codes_set (other ∷ ships) zero ship h k = (k, h.1)
codes_set (other ∷ ships) (suc i) ship h k = (h.0, codes_set ships i ship h.1 k)

reply_low : (reply : Reply) → reply_code reply ≤ 21
reply_low reply = (kept_change 0 reply no_record (record { code = omega arith; rights = omega arith })).code

taken_still : (state : StoreState) (from : ServerId) (ship : ℕ) (reply : Reply) (slots : List (Option Holding)) → IsFit state
    → IsStill state (record (with_taken state from ship reply) { slots = slots })
taken_still state from ship reply slots h = record {
  server = refl;
  roster = refl;
  capacity = refl;
  next = omega arith;
  last = h.next.1;
  ship = omega arith;
  hosts = h.hosts;
  taken = (length_set state.taken (from.0 - 1) _ ∙ h.taken.0, codes_set state.taken (from.0 - 1) _ h.taken.1 (reply_low reply));
}

taken_fit : (state : StoreState) (from : ServerId) (ship : ℕ) (reply : Reply) → IsFit state → IsFit (with_taken state from ship reply)
taken_fit state from ship reply h = record {
  servers = h.servers;
  first = h.first;
  last = h.last;
  next = h.next;
  hosts = h.hosts;
  taken = (length_set state.taken (from.0 - 1) _ ∙ h.taken.0, codes_set state.taken (from.0 - 1) _ h.taken.1 (reply_low reply));
  each = λ s b e. stored_on state (with_taken state from ship reply) b still (h.each s b e);
  apart = h.apart;
  room = h.room;
}
  where
    still : IsStill state (with_taken state from ship reply)
    still = record {
      server = refl;
      roster = refl;
      capacity = refl;
      next = omega arith;
      last = h.next.1;
      ship = omega arith;
      hosts = h.hosts;
      taken = (length_set state.taken (from.0 - 1) _ ∙ h.taken.0, codes_set state.taken (from.0 - 1) _ h.taken.1 (reply_low reply));
    }

-- what is found is there
found_there : (test : Holding → Bool) (slots : List (Option Holding)) → first test slots < length slots → (a : Holding) × (held_at slots (first test slots) ≡ Some a)
found_there test [] h = absurd (omega (arith, h))
found_there test (None ∷ slots) h =
    let (a, there) = found_there test slots (omega (arith, h)) in
    let n : suc (first test slots) ≡ 1 + first test slots = omega arith in
    (a, ap (held_at (None ∷ slots)) (sym n) ∙ there)
found_there test (Some other ∷ slots) h = by (test other) h (λ k. found_there test slots k)
  where
    by : (b : Bool) → cond (not b) (1 + first test slots) 0 < suc (length slots)
        → (first test slots < length slots → (a : Holding) × (held_at slots (first test slots) ≡ Some a))
        → (a : Holding) × (held_at (Some other ∷ slots) (cond (not b) (1 + first test slots) 0) ≡ Some a)
    by true k rest = (other, refl)
    by false k rest =
        let (a, there) = rest (omega (arith, k)) in
        let n : suc (first test slots) ≡ 1 + first test slots = omega arith in
        (a, ap (held_at (Some other ∷ slots)) (sym n) ∙ there)

same_id : (id : FilesetId) (a : Holding) → is_of id a ≡ true → a.fileset.id ≡ id
same_id id a e = let n = eqb-true a.fileset.id.0 id.0 e in λ i. record { 0 = n i }

-- where a fileset arrives, no other slot has its id
alone : (state : StoreState) (id : FilesetId) (t : ℕ) (b : Holding) → IsFit state → t ≢ arrival_slot state id → held_at state.slots t ≡ Some b → is_of id b ≡ false
alone state id t b h off there = by (is_of id b) refl
  where
    by : (c : Bool) → is_of id b ≡ c → c ≡ false
    by false e = refl
    by true e = absurd (split (cases_lt (slot_so (is_of id) state.slots) (length state.slots)))
      where
        split : (slot_so (is_of id) state.slots < length state.slots) ⊎ (length state.slots ≤ slot_so (is_of id) state.slots) → ⊥
        split (inr le) = false≢true (sym (none_found (is_of id) state.slots le t b there) ∙ e)
        split (inl lt) =
            let at : arrival_slot state id ≡ slot_so (is_of id) state.slots = cond-true (nat_lt (slot_so (is_of id) state.slots) (length state.slots)) _ _ (lt-ltb _ _ lt) in
            let place = slot_first (is_of id) state.slots in
            let (a, here) = found_there (is_of id) state.slots (omega (arith, lt, place)) in
            let here_so : held_so (is_of id) state.slots ≡ Some a = ap (held_at state.slots) place ∙ here in
            let own = same_id id a (found_passes (is_of id) state.slots a here_so) in
            (h.apart (slot_so (is_of id) state.slots) t a b (λ k. off (sym k ∙ sym at)) here_so there).ids (own ∙ sym (same_id id b e))

-- a head
head_fit : (state : StoreState) (from : ServerId) (ship : ℕ) (id : FilesetId) (moves : ℕ) (name : List ℕ) (objects : ℕ) (records : List Record) (mover : Mover)
    → IsFit state → IsOther state.server from → 1 ≤ objects → IsTrue (is_name name) → IsAllowed state id
    → IsFit (head_outcome state from ship id moves name objects records mover).state
unfolding head_outcome
head_fit state from ship id moves name objects records mover h other least is allowed = by (arrival state id name objects) refl
  where
    nothing : (at : ℕ) (called : List ℕ) (entry : DirEntry) → entry_at [] at called ≡ Some entry → ⊥
    nothing at called entry e = none (at == 0) e
      where
        none : (b : Bool) → option_and_then (λ object. entry_in object.content called) (if b then None else option_and_then (λ (a : Anode). a.object) (slice_get [] (at - 1))) ≡ Some entry → ⊥
        none true k = cc
        none false k = cc

    first_part : MayArrive objects 1 []
    first_part = record {
      least = omega arith;
      most = least;
      count = refl;
      first = λ two. absurd (omega (arith, two));
      within = λ at called entry e. absurd (nothing at called entry e);
    }

    by : (checked : Result ℕ Refusal) → arrival state id name objects ≡ checked → IsFit (either checked
        (λ slot. fresh Accepted (record (with_taken state from ship Accepted) {
          slots = set state.slots slot (Some (held_arriving (Arriving from ship 1) (arriving state.server id name objects moves) records mover));
        }))
        (λ refusal. fresh (Refused refusal) (with_taken state from ship (Refused refusal)))).state
    by (Err refusal) e = taken_fit state from ship (Refused refusal) h
    by (Ok slot) e =
        let (named, a) = unless_ok (list_any (is_used_so (is_other id name)) state.slots) Exists _ slot e in
        let (place, room) = slot_ok state (arrival_slot state id) (new_promise objects) slot a in
        let still = taken_still state from ship Accepted (set state.slots slot (Some (held_arriving (Arriving from ship 1) (arriving state.server id name objects moves) records mover))) h in
        in_slot state _ slot (held_arriving (Arriving from ship 1) (arriving state.server id name objects moves) records mover) h still refl
        (record { server = refl; id = allowed_on state _ id still allowed; name = is; rest = refl; stay = (first_part, refl, other) })
        refl
        (λ t b off there.
        (let apart = alone state id t b h (λ k. off (k ∙ place)) there in (
          (λ same. false≢true (sym apart ∙ eq-eqb b.fileset.id.0 id.0 (ap (λ (i : FilesetId). i.0) same))),
          free (same_name b.fileset.name name) (is_of id b) apart (none_any (is_other id name) state.slots named t b there),
        )))
        room
      where
        free : (x y : Bool) → y ≡ false → (x && not y) ≡ false → x ≡ false
        free true true y e = absurd (false≢true (sym y))
        free true false y e = absurd (false≢true (sym e))
        free false y k e = refl

once_fit : (state : StoreState) (from : ServerId) (ship : ℕ) (id : FilesetId) (moves : ℕ) (outcome : Outcome) → IsFit state → IsFit outcome.state
    → IsFit (head_once state from ship id moves outcome).state
once_fit state from ship id moves outcome h k = by (list_any (is_used_so (is_past id moves)) state.slots) (nat_lt (taken_from state from).ship ship)
  where
    by : (late new : Bool) → IsFit (if late then stale Accepted state else if new then outcome else stale (reply_of (taken_from state from).code 0) state).state
    by true new = h
    by false true = k
    by false false = h

-- the anodes of a fileset that came
object_taken : (anodes : List Anode) (n at : ℕ) (object : Object) → object_at (take n anodes) at ≡ Some object → object_at anodes at ≡ Some object
object_taken anodes n at object e = by (at == 0) e
  where
    got : (anodes : List Anode) (n i : ℕ) → option_and_then (λ (a : Anode). a.object) (slice_get (take n anodes) i) ≡ Some object → option_and_then (λ (a : Anode). a.object) (slice_get anodes i) ≡ Some object
    got anodes zero i e = absurd (cc)
    got [] (suc n) i e = absurd (cc)
    got (anode ∷ anodes) (suc n) zero e = e
    got (anode ∷ anodes) (suc n) (suc i) e = got anodes n i e

    by : (b : Bool) → (if b then None else option_and_then (λ (a : Anode). a.object) (slice_get (take n anodes) (at - 1))) ≡ Some object
        → (if b then None else option_and_then (λ (a : Anode). a.object) (slice_get anodes (at - 1))) ≡ Some object
    by true e = e
    by false e = got anodes n (at - 1) e

object_within : (anodes : List Anode) (at : ℕ) → is_some (object_at anodes at) ≡ true → (1 ≤ at) × (at ≤ length anodes)
object_within anodes at e = by (at == 0) refl e
  where
    got : (anodes : List Anode) (i : ℕ) → is_some (option_and_then (λ (a : Anode). a.object) (slice_get anodes i)) ≡ true → suc i ≤ length anodes
    got [] i e = absurd (false≢true e)
    got (anode ∷ anodes) zero e = omega arith
    got (anode ∷ anodes) (suc i) e = let rest = got anodes i e in omega (arith, rest)

    by : (b : Bool) → (at == 0) ≡ b → is_some (if b then None else option_and_then (λ (a : Anode). a.object) (slice_get anodes (at - 1))) ≡ true → (1 ≤ at) × (at ≤ length anodes)
    by true is e = absurd (false≢true e)
    by false is e =
        let some : at ≢ 0 = (λ z. false≢true (sym is ∙ eq-eqb at 0 z)) in
        let low = got anodes (at - 1) e in
        (omega (arith, some), omega (arith, some, low))

entry_taken : (anodes : List Anode) (n at : ℕ) (name : List ℕ) (entry : DirEntry) → entry_at (take n anodes) at name ≡ Some entry → entry_at anodes at name ≡ Some entry
entry_taken anodes n at name entry e = by (object_at (take n anodes) at) refl e
  where
    by : (o : Option Object) → object_at (take n anodes) at ≡ o → option_and_then (λ object. entry_in object.content name) o ≡ Some entry → entry_at anodes at name ≡ Some entry
    by None is k = absurd (cc)
    by (Some object) is k = ap (λ o. option_and_then (λ object. entry_in object.content name) o) (object_taken anodes n at object is) ∙ k

root_taken : (anodes : List Anode) (n : ℕ) → 1 ≤ n → (object_at (take n anodes) 1 ≡ object_at anodes 1) × (unique_at (take n anodes) 1 ≡ unique_at anodes 1)
root_taken anodes zero h = absurd (omega (arith, h))
root_taken [] (suc n) h = (refl, refl)
root_taken (anode ∷ anodes) (suc n) h = (refl, refl)

root_there : (o : Option Object) → option_map_or (λ object. is_dir object.content) o false ≡ true → (object : Object) × (o ≡ Some object) × (is_dir object.content ≡ true)
root_there None e = absurd (false≢true e)
root_there (Some object) e = (object, refl, e)

length_taken : (anodes : List Anode) (n : ℕ) → n ≤ length anodes → length (take n anodes) ≡ n
length_taken anodes zero h = refl
length_taken [] (suc n) h = absurd (omega (arith, h))
length_taken (anode ∷ anodes) (suc n) h = ap suc (length_taken anodes n (omega (arith, h)))

came : (fileset : Fileset) (at : ℕ) → IsWellFormed fileset → 1 ≤ at → at < fileset.objects → MayArrive fileset.objects (at + 1) (take at fileset.anodes)
came fileset at w least below = record {
  least = omega arith;
  most = omega (arith, below);
  count = length_taken fileset.anodes at (let c = w.count in omega (arith, c, below)) ∙ omega arith;
  first = λ two. (
    (root_taken fileset.anodes at least).1 ∙ w.first,
    (let (object, there, dir) = root_there (object_at fileset.anodes 1) w.root in (object, (root_taken fileset.anodes at least).0 ∙ there, dir)),
  );
  within = λ a name entry e. (
      let used = (w.named a name entry (entry_taken fileset.anodes at a name entry e)).0 in
      let inside = object_within fileset.anodes entry.anode used in
      let low = inside.0 in let high = inside.1 in let c = w.count in let l = w.limit in
      (low, omega (arith, high, c, l)));
}

-- a fileset with the anodes of one that is well formed
formed_as : (a b : Fileset) → a.anodes ≡ b.anodes → a.objects ≡ b.objects → IsWellFormed b → IsWellFormed a
formed_as a b same objects w = record {
  count = ap length same ∙ w.count ∙ sym objects;
  limit = (let l = w.limit in omega (arith, objects, l));
  first = ap (λ xs. unique_at xs 1) same ∙ w.first;
  root = ap (λ xs. option_map_or (λ object. is_dir object.content) (object_at xs 1) false) same ∙ w.root;
  sound = λ at object e. w.sound at object (ap (λ xs. object_at xs at) (sym same) ∙ e);
  named = λ at name entry e. subst (λ xs. IsUsed xs entry) (sym same) (w.named at name entry (ap (λ xs. entry_at xs at name) (sym same) ∙ e));
  once = λ x y m n e f is as_well k. w.once x y m n e f (ap (λ xs. entry_at xs x m) (sym same) ∙ is) (ap (λ xs. entry_at xs y n) (sym same) ∙ as_well) k;
  rootless = λ at name entry e. w.rootless at name entry (ap (λ xs. entry_at xs at name) (sym same) ∙ e);
  reached = λ at object e. (
      let (path, way) = w.reached at object (ap (λ xs. object_at xs at) (sym same) ∙ e) in
      (path, ap (λ xs. leads xs 1 path) same ∙ way));
}

-- one anode more
take_next : (anodes : List Anode) (i : ℕ) (anode : Anode) → slice_get anodes i ≡ Some anode → take i anodes ++ anode ∷ [] ≡ take (suc i) anodes
take_next [] i anode e = absurd (cc)
take_next (other ∷ anodes) zero anode e = let same : anode ≡ other = cc in λ i. same i ∷ []
take_next (other ∷ anodes) (suc i) anode e = ap (λ xs. other ∷ xs) (take_next anodes i anode e)

there_at : (anodes : List Anode) (i : ℕ) → i < length anodes → (anode : Anode) × (slice_get anodes i ≡ Some anode)
there_at [] i h = absurd (omega (arith, h))
there_at (anode ∷ anodes) zero h = (anode, refl)
there_at (anode ∷ anodes) (suc i) h = there_at anodes i (omega (arith, h))

all_taken : (p : Anode → Bool) (anodes : List Anode) (n : ℕ) → list_all p anodes ≡ true → list_all p (take n anodes) ≡ true
all_taken p anodes zero h = refl
all_taken p [] (suc n) h = refl
all_taken p (anode ∷ anodes) (suc n) h =
    let (a, b) = and_parts (p anode) (list_all p anodes) h in and_from (p anode) (list_all p (take n anodes)) a (all_taken p anodes n b)

some_is : {X : Type 0} (a b : X) → ◌≡◌ {A = Option X} (Some a) (Some b) → a ≡ b
some_is a b e = cc

-- a part tells of the fileset's anode
told_is : (fileset : Fileset) (at : ℕ) (told : ShipPart) (anode : Anode) (object_number unique : ℕ) (status : Option Status) (pieces : List Piece) (entries : List DirEntry)
    → told ≡ ObjectPart object_number unique status pieces entries → 1 ≤ at → slice_get fileset.anodes (at - 1) ≡ Some anode → is_at_rest fileset ≡ true → are_told fileset.anodes ≡ true
    → (stay : Stay) (records : List Record) (mover : Mover) → told ≡ part_of (record { stay = stay; fileset = fileset; records = records }) at mover
    → anode_of_part unique status pieces entries ≡ anode
told_is fileset at told anode object_number unique status pieces entries is least there rest tells stay records mover part =
    some_is _ _ (ap anode_told (sym is ∙ part ∙ whole) ∙ parts_are_whole at anode (all_got (λ a. rests a.object) fileset.anodes (at - 1) anode rest there))
  where
    nonzero : (at == 0) ≡ false
    nonzero = by (at == 0) refl
      where
        by : (b : Bool) → (at == 0) ≡ b → b ≡ false
        by false e = refl
        by true e = let z = eqb-true at 0 e in absurd (omega (arith, z, least))

    object : object_at fileset.anodes at ≡ anode.object
    object = cond-false (at == 0) _ _ nonzero ∙ ap (λ o. option_and_then (λ (a : Anode). a.object) o) there

    tellable : (o : Option Object) → option_map_or (λ object. is_tellable object.content) o true ≡ true → option_and_then tellable_or_none o ≡ o
    tellable None e = refl
    tellable (Some one) e = cond-true (is_tellable one.content) _ _ e

    whole : part_of (record { stay = stay; fileset = fileset; records = records }) at mover ≡ object_part at anode.unique anode.object
    whole =
        cond-false (at == 0) _ _ nonzero
        ∙ ap (λ n. object_part at n (told_object fileset.anodes at)) (ap (λ o. option_map_or (λ (a : Anode). a.unique) o 0) there)
        ∙ ap (object_part at anode.unique)
        (ap (λ o. option_and_then tellable_or_none o) object
        ∙ tellable anode.object (all_got (λ a. option_map_or (λ object. is_tellable object.content) a.object true) fileset.anodes (at - 1) anode tells there))

-- what waits for a part
record Waits (state : StoreState) (from : ServerId) (ship at : ℕ) (a : Holding) : Type 0 where
  parts : MayArrive a.fileset.objects at a.fileset.anodes
  writable : a.fileset.read_only ≡ false
  other : IsOther state.server from
  stays : is_gone a.stay ≡ false

waits : (state : StoreState) (id : FilesetId) (from : ServerId) (ship moves at : ℕ) (a : Holding) → awaits id from ship moves at a ≡ true → StaysRight state a.fileset a.stay → Waits state from ship at a
waits state id from ship moves at a e k = by a.stay refl (and_parts (is_of id a) _ (and_parts _ _ e).0).1 k
  where
    by : (stay : Stay) → a.stay ≡ stay → is_due from ship at stay ≡ true → StaysRight state a.fileset stay → Waits state from ship at a
    by Writable is due k = absurd (false≢true due)
    by Clone is due k = absurd (false≢true due)
    by (Leaving to sent) is due k = absurd (false≢true due)
    by (Gone to) is due k = absurd (false≢true due)
    by (Arriving sender taken parts) is due k =
        let (front, last) = and_parts _ (parts == at) due in
        let (own, same) = and_parts (sender.0 == from.0) _ front in
        let number = eqb-true parts at last in
        let server : sender ≡ from = (let n = eqb-true sender.0 from.0 own in λ i. record { 0 = n i }) in
        record {
          parts = subst (λ n. MayArrive a.fileset.objects n a.fileset.anodes) number k.0;
          writable = k.1;
          other = subst (λ s. IsOther state.server s) server k.2;
          stays = ap is_gone is;
        }

-- where it is waited for, and what is held then
abbrev awaiting : StoreState → ServerId → ℕ → FilesetId → ℕ → ℕ → ℕ
awaiting state from ship id moves at = slot_so (awaits id from ship moves at) state.slots

abbrev taking : StoreState → ServerId → ℕ → FilesetId → ℕ → ℕ → Anode → StoreState
taking state from ship id moves at anode = with_held state (awaiting state from ship id moves at) (held_with from ship at anode)

-- an anode
anode_fit : (state : StoreState) (from : ServerId) (ship : ℕ) (id : FilesetId) (moves at : ℕ) (anode : Anode) (fileset : Fileset)
    → IsFit state → 1 ≤ at → IsWellFormed fileset → is_at_rest fileset ≡ true
    → ((a : Holding) → held_so (awaits id from ship moves at) state.slots ≡ Some a → IsTakenSoFar fileset at a)
    → ((real : Anode) → slice_get fileset.anodes (at - 1) ≡ Some real → anode ≡ real)
    → IsFit (anode_outcome state from ship id moves at anode).state
anode_fit state from ship id moves at anode fileset h least w rest so_far real =
    where_fit (nat_lt (awaiting state from ship id moves at) (length state.slots)) state (with_held state (awaiting state from ship id moves at) (held_with from ship at anode)) h (λ e.
    held_fit state (awaiting state from ship id moves at) (held_with from ship at anode) h (λ a there k.
    turned a there (stored_on state _ a (still_slots state _ h) k)))
  where
    turned : (a : Holding) → held_at state.slots (awaiting state from ship id moves at) ≡ Some a → IsStored (taking state from ship id moves at anode) a → IsChanged state (taking state from ship id moves at anode) a (held_with from ship at anode a)
    turned a there one = by (at == a.fileset.objects) refl
      where
        waiting : Waits (taking state from ship id moves at anode) from ship at a
        waiting = waits (taking state from ship id moves at anode) id from ship moves at a (found_passes (awaits id from ship moves at) state.slots a there) one.stay

        front : IsTakenSoFar fileset at a
        front = so_far a there

        inside : at - 1 < length fileset.anodes
        inside = let m = waiting.parts.most in let o = front.objects in let c = w.count in omega (arith, least, m, o, c)

        found : (one : Anode) × (slice_get fileset.anodes (at - 1) ≡ Some one)
        found = there_at fileset.anodes (at - 1) inside

        more : a.fileset.anodes ++ anode ∷ [] ≡ take at fileset.anodes
        more =
            ap (λ xs. xs ++ anode ∷ []) front.anodes
            ∙ take_next fileset.anodes (at - 1) anode (found.1 ∙ ap Some (sym (real found.0 found.1)))
            ∙ (let z : suc (at - 1) ≡ at = omega (arith, least) in ap (λ n. take n fileset.anodes) z)

        rested : list_all (λ x. rests x.object) (a.fileset.anodes ++ anode ∷ []) ≡ true
        rested = ap (list_all (λ x. rests x.object)) more ∙ all_taken (λ x. rests x.object) fileset.anodes at rest

        promises : promise (record a.fileset { anodes = a.fileset.anodes ++ anode ∷ [] }) ≤ held_promise (Some a)
        promises =
            let x : promise (record a.fileset { anodes = a.fileset.anodes ++ anode ∷ [] }) ≡ new_promise a.fileset.objects = cond-false a.fileset.read_only _ _ waiting.writable in
            let y : held_promise (Some a) ≡ new_promise a.fileset.objects = cond-false (is_gone a.stay) _ _ waiting.stays ∙ cond-false a.fileset.read_only _ _ waiting.writable in
            omega (arith, x, y)

        by : (b : Bool) → (at == a.fileset.objects) ≡ b → IsChanged state (taking state from ship id moves at anode) a (record a {
          stay = if b then Writable else Arriving from ship (at + 1);
          fileset = record a.fileset { anodes = a.fileset.anodes ++ anode ∷ [] };
        })
        by true e = record {
          id = refl;
          name = refl;
          stored = record {
            server = one.server;
            id = one.id;
            name = one.name;
            rest = rested;
            stay = (
              formed_as (record a.fileset { anodes = a.fileset.anodes ++ anode ∷ [] }) fileset
                  (more ∙ take_all at fileset.anodes (let n = eqb-true at a.fileset.objects e in let o = front.objects in let c = w.count in omega (arith, n, o, c)))
                  front.objects w,
              waiting.writable,
            );
          };
          promise = promises;
          leaving = inl (λ off. absurd (false≢true off));
        }
        by false e = record {
          id = refl;
          name = refl;
          stored = record {
            server = one.server;
            id = one.id;
            name = one.name;
            rest = rested;
            stay = (
              subst (λ n. MayArrive n (at + 1) (a.fileset.anodes ++ anode ∷ [])) (sym front.objects)
                  (subst (λ xs. MayArrive fileset.objects (at + 1) xs) (sym more)
                  (came fileset at w least (let m = waiting.parts.most in let o = front.objects in let n = apart e in omega (arith, m, o, n)))),
              waiting.writable,
              waiting.other,
            );
          };
          promise = promises;
          leaving = inl (λ off. absurd (false≢true off));
        }
          where
            apart : (at == a.fileset.objects) ≡ false → at ≢ a.fileset.objects
            apart e is = false≢true (sym e ∙ eq-eqb at a.fileset.objects is)

-- a part
pub part_fit : (state : StoreState) (from : ServerId) (ship : ℕ) (id : FilesetId) (moves at : ℕ) (part : ShipPart) → IsAct state.roster state.server (Part from ship id moves at part)
    → Fits state (Part from ship id moves at part) → IsFit state → IsFit (part_outcome state from ship id moves at part).state
unfolding part_outcome
part_fit state from ship id moves at (Head name objects records mover) k f h = by (at == 0) refl
  where
    head_name : (a b : List ℕ) (m n : ℕ) (r s : List Record) (x y : Mover) → ◌≡◌ {A = ShipPart} (Head a m r x) (Head b n s y) → a ≡ b
    head_name a b m n r s x y e = cc

    by : (b : Bool) → (at == 0) ≡ b
        → IsFit (if b then head_once state from ship id moves (head_outcome state from ship id moves name objects records mover) else stale Accepted state).state
    by true none =
        let (fileset, fits) = f in
        let (stay, kept, other, is) = fits.part in
        let same : name ≡ fileset.name = head_name _ _ _ _ _ _ _ _ (is ∙ cond-true (at == 0) _ _ none) in
        once_fit state from ship id moves (head_outcome state from ship id moves name objects records mover) h
        (head_fit state from ship id moves name objects records mover h (other_of state from h k.0 fits.other) k.1.1.least (subst (λ n. IsTrue (is_name n)) (sym same) fits.named) fits.allowed)
    by false some = h
part_fit state from ship id moves at (ObjectPart number unique status pieces entries) k f h =
    let (fileset, fits) = f in
    let (stay, records, mover, is) = fits.part in
    anode_fit state from ship id moves at (anode_of_part unique status pieces entries) fileset h k.1.0 fits.well_formed fits.settled fits.taken
    (λ real there.
    told_is fileset at (ObjectPart number unique status pieces entries) real number unique status pieces entries refl k.1.0 there fits.settled fits.whole stay records mover is)
