-- New filesets and clones leave a record that a disk can have.
use Rattle.std.proofs.Common.{◌≡◌, ◌≤◌, ℕ, zero, suc, ◌+◌, ◌-◌, ◌*◌, ◌/◌, ◌%◌, List, length, replicate, inl, inr, refl, sym, subst, ◌∙◌, ap, arith}
use Rattle.std.specs.Prelude.{true, false, IsTrue, nat_lt, nat_le, Option, Some, None, Result, Ok, Err}
use Rattle.std.specs.List.{list_all, list_any}
use Rattle.std.specs.Option.{option_map_or}
use Rattle.std.proofs.lemmas.Bool.{and_parts, cases_lt, false≢true, leb-true, lt-ltb}
use Rattle.base_types.specs.Name.{is_name, same_name}
use Rattle.base_types.specs.Outcomes.{either}
use Rattle.base_types.specs.declared.ids.FilesetId.{FilesetId}
use Rattle.base_types.specs.declared.limits.TheConstants.{FILESET_NUMBER_MAX, OBJECTS_MAX}
use Rattle.base_types.specs.declared.user.User.{User}
use Rattle.tree_calls.specs.Limits.{is_between}
use Rattle.tree_calls.specs.declared.reply.Refusal.{Refusal}
use Rattle.tree_calls.specs.declared.reply.Refusal.TheVariants.{Exists, TooMany, NoRoom}
use Rattle.tree_calls.specs.declared.reply.Reply.TheVariants.{Ok as Accepted}
use Rattle.tree_filesets.specs.Founding.{control_check, new_fileset, cloned, unused_anode}
use Rattle.tree_filesets.specs.Promises.{clone_promise, new_promise, promise}
use Rattle.tree_filesets.specs.WellFormed.{is_at_rest, IsWellFormed}
use Rattle.tree_filesets.specs.declared.fileset.Fileset.{Fileset}
use Rattle.tree_filesets.proofs.Clones.{clone_shows_source}
use Rattle.tree_filesets.proofs.Moved.{clones_are_new}
use Rattle.tree_filesets.proofs.Starts.{starts_well_formed}
use Rattle.tree_filesets.proofs.StaysWellFormed.{stays_well_formed_cloned}
use Rattle.tree_filesets.proofs.Targets.{then_ok, unless_ok, ok_is}
use Rattle.store_acts.specs.Sound.{IsAllowed}
use Rattle.store_state.specs.Founding.{held_promise, promised, free_slot, slot_for, room_for, why_absent, source_named, clone_target, clone_answer, new_fileset_answer, next_id, with_new}
use Rattle.store_state.specs.Outcomes.{refuse}
use Rattle.store_state.specs.State.{held_at, held_so, is_here, is_here_as, is_leaving, is_used_so, no_records, slot_so}
use Rattle.store_state.specs.Sought.{is_named}
use Rattle.store_state.specs.declared.state.Holding.{Holding}
use Rattle.store_state.specs.declared.state.Stay.{Stay}
use Rattle.store_state.specs.declared.state.Stay.TheVariants.{Writable, Clone, Leaving, Arriving, Gone}
use Rattle.store_state.specs.declared.state.StoreState.{StoreState}
use Rattle.store_records.specs.Stored.{StaysRight}
use Rattle.store_records.proofs.Fit.{IsFit, in_slot}
use Rattle.store_records.proofs.Rests.{rests}
use Rattle.store_records.proofs.Tables.{found_passes, none_any}

pub not_above : (a b : ℕ) → nat_lt a b ≡ false → b ≤ a
not_above a b e = elim (cases_lt a b) [ inl lt ↦ absurd (false≢true (sym e ∙ lt-ltb a b lt)) | inr le ↦ le ]

-- there is room
pub slot_ok : (state : StoreState) (at blocks slot : ℕ) → slot_for state at blocks ≡ Ok slot → (at ≡ slot) × (promised state.slots + blocks ≤ state.capacity)
slot_ok state at blocks slot e =
    let (few, a) = unless_ok (nat_le (length state.slots) at) TooMany _ slot e in
    let (room, b) = unless_ok (nat_lt state.capacity (promised state.slots + blocks)) NoRoom _ slot a in
    (ok_is at slot b, not_above state.capacity (promised state.slots + blocks) room)

record HasRoom (state : StoreState) (name : List ℕ) (blocks : ℕ) : Type 0 where
  named : list_any (is_used_so (is_named name)) state.slots ≡ false
  number : state.next ≤ FILESET_NUMBER_MAX
  room : promised state.slots + blocks ≤ state.capacity

room_ok : (state : StoreState) (name : List ℕ) (blocks slot : ℕ) → room_for state name blocks ≡ Ok slot → HasRoom state name blocks
room_ok state name blocks slot e =
    let (named, a) = unless_ok (list_any (is_used_so (is_named name)) state.slots) Exists _ slot e in
    let (number, b) = unless_ok (nat_lt FILESET_NUMBER_MAX state.next) TooMany _ slot a in
    record { named = named; number = not_above FILESET_NUMBER_MAX state.next number; room = (slot_ok state (free_slot state.slots) blocks slot b).1 }

-- what is new is one more
new_fit : (state : StoreState) (name : List ℕ) (blocks slot : ℕ) (stay : Stay) (fileset : Fileset) → IsFit state → HasRoom state name blocks
    → fileset.server ≡ state.server → fileset.id ≡ next_id state → fileset.name ≡ name → IsTrue (is_name name) → is_at_rest fileset ≡ true
    → StaysRight (with_new state slot stay fileset) fileset stay → is_leaving stay ≡ false
    → held_promise (Some (record { stay = stay; fileset = fileset; records = no_records })) ≤ blocks → IsFit (with_new state slot stay fileset)
new_fit state name blocks slot stay fileset h room server id named is rest right stays promise =
    in_slot state (with_new state slot stay fileset) slot (record { stay = stay; fileset = fileset; records = no_records }) h
    (record {
      server = refl;
      roster = refl;
      capacity = refl;
      next = omega arith;
      last = (let n = room.number in omega (arith, n));
      ship = omega arith;
      hosts = h.hosts;
      taken = h.taken;
    }) refl
    (record {
      server = server;
      id = subst (λ i. IsAllowed (with_new state slot stay fileset) i) (sym id) allowed;
      name = subst (λ n. IsTrue (is_name n)) (sym named) is;
      rest = rest;
      stay = right;
    }) stays
    (λ t b off there. (
      (λ same. other t b there (same ∙ id)),
      ap (same_name b.fileset.name) named ∙ none_any (is_named name) state.slots room.named t b there,
    ))
    (let fits = room.room in omega (arith, fits, promise))
  where
    of : (state.server.0 * 65536 + state.next) / 65536 ≡ state.server.0
    of = let n = room.number in omega (arith, n)

    last : (state.server.0 * 65536 + state.next) % 65536 ≡ state.next
    last = let n = room.number in omega (arith, n)

    allowed : IsAllowed (with_new state slot stay fileset) (next_id state)
    allowed = record {
      first = let o = of in let f = h.first in omega (arith, o, f);
      last = let o = of in let f = h.last in omega (arith, o, f);
      number = let o = last in let f = h.next.0 in omega (arith, o, f);
      given = λ own. (let o = last in omega (arith, o));
    }

    other : (t : ℕ) (b : Holding) → held_at state.slots t ≡ Some b → b.fileset.id ≡ next_id state → ⊥
    other t b there same =
        let number : b.fileset.id.0 ≡ state.server.0 * 65536 + state.next = ap (λ (i : FilesetId). i.0) same in
        let below = (h.each t b there).id.given (ap (λ n. n / 65536) number ∙ of) in
        let is : b.fileset.id.0 % 65536 ≡ state.next = ap (λ n. n % 65536) number ∙ last in
        omega (arith, below, is)

-- a new fileset
all_rest : (n : ℕ) → list_all (λ anode. rests anode.object) (replicate n unused_anode) ≡ true
all_rest zero = refl
all_rest (suc n) = all_rest n

pub objects_fit : (objects : ℕ) → IsTrue (is_between 1 OBJECTS_MAX objects) → (1 ≤ objects) × (objects ≤ OBJECTS_MAX)
objects_fit objects h =
    let (a, b) = and_parts (nat_le 1 objects) (nat_le objects OBJECTS_MAX) h in
    (leb-true 1 objects a, leb-true objects OBJECTS_MAX b)

pub founded_fit : (state : StoreState) (name : List ℕ) (objects : ℕ) (owner : User) → 1 ≤ objects → objects ≤ OBJECTS_MAX → IsTrue (is_name name) → IsFit state
    → IsFit (new_fileset_answer state name objects owner).state
unfolding new_fileset_answer new_fileset
founded_fit state name objects owner least most is h = by (room_for state name (new_promise objects)) refl
  where
    rested : is_at_rest (new_fileset state.server (next_id state) name objects owner) ≡ true
    rested = all_rest (objects - 1)

    promises : held_promise (Some (record { stay = Writable; fileset = new_fileset state.server (next_id state) name objects owner; records = no_records })) ≤ new_promise objects
    promises = omega arith

    server : (new_fileset state.server (next_id state) name objects owner).server ≡ state.server
    server = refl

    id : (new_fileset state.server (next_id state) name objects owner).id ≡ next_id state
    id = refl

    named : (new_fileset state.server (next_id state) name objects owner).name ≡ name
    named = refl

    written : (new_fileset state.server (next_id state) name objects owner).read_only ≡ false
    written = refl

    by : (room : Result ℕ Refusal) → room_for state name (new_promise objects) ≡ room
        → IsFit (either room (λ slot. record {
          reply = Accepted;
          state = with_new state slot Writable (new_fileset state.server (next_id state) name objects owner);
        }) (refuse state)).state
    by (Err refusal) e = h
    by (Ok slot) e =
        new_fit state name (new_promise objects) slot Writable (new_fileset state.server (next_id state) name objects owner) h
        (room_ok state name (new_promise objects) slot e) server id named is rested
        (starts_well_formed.new state.server (next_id state) name objects owner least most, written) refl promises

-- a clone
source_right : (state : StoreState) (name : List ℕ) (fileset : Fileset) → IsFit state → source_named state name ≡ Ok fileset → (fileset.server ≡ state.server) × IsWellFormed fileset
source_right state name fileset h e = by (held_so (is_here_as name) state.slots) refl e
  where
    formed : (stay : Stay) (f : Fileset) → is_here stay ≡ true → StaysRight state f stay → IsWellFormed f
    formed Writable f here k = k.0
    formed Clone f here k = k.0
    formed (Leaving to ship) f here k = absurd (false≢true here)
    formed (Arriving from ship parts) f here k = absurd (false≢true here)
    formed (Gone to) f here k = absurd (false≢true here)

    by : (o : Option Holding) → held_so (is_here_as name) state.slots ≡ o → option_map_or (λ holding. Ok holding.fileset) o (Err (why_absent state name)) ≡ Ok fileset
        → (fileset.server ≡ state.server) × IsWellFormed fileset
    by None k e = absurd (cc)
    by (Some holding) k e =
        let same : holding.fileset ≡ fileset = cc in
        let one = h.each (slot_so (is_here_as name) state.slots) holding k in
        let here = (and_parts (is_here holding.stay) _ (found_passes (is_here_as name) state.slots holding k)).0 in
        subst (λ f. (f.server ≡ state.server) × IsWellFormed f) same (one.server, formed holding.stay holding.fileset here one.stay)

pub cloned_fit : (state : StoreState) (user : User) (source new : List ℕ) → IsTrue (is_name new) → IsFit state → IsFit (clone_answer state user source new).state
unfolding clone_answer clone_target cloned
cloned_fit state user source new is h = by (clone_target state user source new) refl
  where
    server : (fileset : Fileset) → (cloned fileset (next_id state) new).server ≡ fileset.server
    server fileset = refl

    id : (fileset : Fileset) → (cloned fileset (next_id state) new).id ≡ next_id state
    id fileset = refl

    named : (fileset : Fileset) → (cloned fileset (next_id state) new).name ≡ new
    named fileset = refl

    frozen : (fileset : Fileset) → (cloned fileset (next_id state) new).read_only ≡ true
    frozen fileset = refl

    targets : (fileset : Fileset) (slot : ℕ) → clone_target state user source new ≡ Ok (fileset, slot)
        → (source_named state source ≡ Ok fileset) × (room_for state new (clone_promise fileset) ≡ Ok slot)
    targets fileset slot e =
        let (found, is_found, a) = then_ok (source_named state source) _ (fileset, slot) e in
        let (checked, is_checked, b) = then_ok (control_check found user) _ (fileset, slot) a in
        let (place, is_place, c) = then_ok (room_for state new (clone_promise found)) _ (fileset, slot) b in
        let pair : (found, place) ≡ (fileset, slot) = ok_is _ _ c in
        subst (λ (p : Fileset × ℕ). (source_named state source ≡ Ok p.0) × (room_for state new (clone_promise p.0) ≡ Ok p.1)) pair (is_found, is_place)

    promises : (fileset : Fileset) → held_promise (Some (record { stay = Clone; fileset = cloned fileset (next_id state) new; records = no_records })) ≤ clone_promise fileset
    promises fileset = let e = clone_shows_source.blocks fileset (next_id state) new in omega (arith, e)

    by : (target : Result (Fileset × ℕ) Refusal) → clone_target state user source new ≡ target
        → IsFit (either target (λ (fileset, slot). record { reply = Accepted; state = with_new state slot Clone (cloned fileset (next_id state) new) }) (refuse state)).state
    by (Err refusal) e = h
    by (Ok (fileset, slot)) e =
        let (found, room) = targets fileset slot e in
        let right = source_right state source fileset h found in
        new_fit state new (clone_promise fileset) slot Clone (cloned fileset (next_id state) new) h
        (room_ok state new (clone_promise fileset) slot room) (server fileset ∙ right.0) (id fileset) (named fileset) is
        (clones_are_new.rest fileset (next_id state) new)
        (stays_well_formed_cloned fileset (next_id state) new right.1, frozen fileset) refl (promises fileset)
