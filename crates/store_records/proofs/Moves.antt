-- Moves leave a record that a disk can have.
use Rattle.std.proofs.Common.{◌≡◌, ◌≢◌, ◌≤◌, ℕ, ◌+◌, ◌-◌, List, [], inl, inr, refl, sym, ◌∙◌, ap, arith}
use Rattle.std.specs.Prelude.{Bool, true, false, ◌==◌, ◌&&◌, not, if◌then◌else◌, Some, None, slice_get}
use Rattle.std.specs.List.{list_any}
use Rattle.std.specs.Option.{option_map, option_map_or, option_and_then}
use Rattle.std.proofs.lemmas.Bool.{and_parts, false≢true, cond-false}
use Rattle.base_types.specs.declared.ids.FilesetId.{FilesetId}
use Rattle.base_types.specs.declared.ids.ServerId.{ServerId}
use Rattle.tree_calls.specs.declared.part.DirEntry.{DirEntry}
use Rattle.tree_objects.specs.declared.content.Anode.{Anode}
use Rattle.tree_filesets.specs.Promises.{new_promise, promise}
use Rattle.tree_filesets.specs.WellFormed.{entry_at, entry_in, is_at_rest, IsWellFormed}
use Rattle.tree_filesets.specs.declared.fileset.Fileset.{Fileset}
use Rattle.message_types.specs.Soundness.{IsServer}
use Rattle.store_acts.specs.Moving.{stays_so, held_as, done_where, leave_outcome, returned, stay_left, held_left, left_outcome, is_unsettled, stay_settled, anodes_settled, held_settled, settle_outcome}
use Rattle.store_state.specs.Founding.{held_promise}
use Rattle.store_state.specs.State.{held_at, is_gone, is_leaving, is_of, is_used_so, is_writable, slot_so, with_held}
use Rattle.store_state.specs.declared.state.Holding.{Holding}
use Rattle.store_state.specs.declared.state.Stay.{Stay}
use Rattle.store_state.specs.declared.state.Stay.TheVariants.{Writable, Clone, Leaving, Arriving, Gone}
use Rattle.store_state.specs.declared.state.StoreState.{StoreState}
use Rattle.store_records.specs.Stored.{IsOther, IsStored, StaysRight}
use Rattle.store_records.proofs.Calls.{held_fit, same_le}
use Rattle.store_records.proofs.Fit.{IsFit, IsStill, IsChanged, still_slots, stored_on, in_place}
use Rattle.store_records.proofs.Tables.{none_any}

-- an act that is done where a condition holds
pub where_fit : (b : Bool) (state next : StoreState) → IsFit state → (b ≡ true → IsFit next) → IsFit (done_where b state next).state
where_fit true state next h k = k refl
where_fit false state next h k = h

-- how a fileset stays that is found
stays_found : (state : StoreState) (id : FilesetId) (test : Stay → Bool) (a : Holding) → stays_so state id test ≡ true → held_at state.slots (slot_so (is_of id) state.slots) ≡ Some a → test a.stay ≡ true
stays_found state id test a e there = ap (λ o. option_map_or test (option_map (λ (holding : Holding). holding.stay) o) false) (sym there) ∙ e

-- Leave
pub other_of : (state : StoreState) (to : ServerId) → IsFit state → IsServer state.roster to → to.0 ≢ state.server.0 → IsOther state.server to
other_of state to h s apart = (s.first, (let l = s.last in let m = h.servers in omega (arith, l, m)), apart)

pub leave_fit : (state : StoreState) (id : FilesetId) (to : ServerId) → IsServer state.roster to → to.0 ≢ state.server.0 → IsFit state → IsFit (leave_outcome state id to).state
unfolding leave_outcome
leave_fit state id to s apart h =
    where_fit (stays_so state id is_writable && not (list_any (is_used_so (λ holding. is_leaving holding.stay)) state.slots)) state _ h (λ e.
    (let (writable, alone) = and_parts (stays_so state id is_writable) _ e in
    in_place state (record state { slots = (with_held state (slot_so (is_of id) state.slots) (held_as (Leaving to (state.ship + 1)))).slots; ship = state.ship + 1 })
    (slot_so (is_of id) state.slots) (held_as (Leaving to (state.ship + 1))) h still refl
    (λ a there k. turned a k (stays_found state id is_writable a writable there) (not_true _ alone))))
  where
    not_true : (b : Bool) → not b ≡ true → b ≡ false
    not_true true e = absurd (false≢true e)
    not_true false e = refl

    still : IsStill state (record state { slots = (with_held state (slot_so (is_of id) state.slots) (held_as (Leaving to (state.ship + 1)))).slots; ship = state.ship + 1 })
    still = record { server = refl; roster = refl; capacity = refl; next = omega arith; last = h.next.1; ship = omega arith; hosts = h.hosts; taken = h.taken }

    right : (fileset : Fileset) (stay : Stay) → is_writable stay ≡ true → StaysRight state fileset stay → IsWellFormed fileset × (fileset.read_only ≡ false)
    right fileset Writable w k = k
    right fileset Clone w k = absurd (false≢true w)
    right fileset (Leaving to ship) w k = absurd (false≢true w)
    right fileset (Arriving from ship parts) w k = absurd (false≢true w)
    right fileset (Gone to) w k = absurd (false≢true w)

    promise_same : (fileset : Fileset) (stay : Stay) → is_writable stay ≡ true → promise fileset ≤ (if is_gone stay then 0 else promise fileset)
    promise_same fileset Writable w = omega arith
    promise_same fileset Clone w = absurd (false≢true w)
    promise_same fileset (Leaving to ship) w = absurd (false≢true w)
    promise_same fileset (Arriving from ship parts) w = absurd (false≢true w)
    promise_same fileset (Gone to) w = absurd (false≢true w)

    turned : (a : Holding) → IsStored state a → is_writable a.stay ≡ true → list_any (is_used_so (λ holding. is_leaving holding.stay)) state.slots ≡ false
        → IsChanged state (record state { slots = (with_held state (slot_so (is_of id) state.slots) (held_as (Leaving to (state.ship + 1)))).slots; ship = state.ship + 1 }) a (held_as (Leaving to (state.ship + 1)) a)
    turned a k writable alone =
        let one = stored_on state _ a still k in
        let formed = right a.fileset a.stay writable k.stay in
        record {
          id = refl;
          name = refl;
          stored = record {
            server = one.server;
            id = one.id;
            name = one.name;
            rest = one.rest;
            stay = (formed.0, formed.1, other_of state to h s apart, omega arith);
          };
          promise = promise_same a.fileset a.stay writable;
          leaving = inr (none_any (λ holding. is_leaving holding.stay) state.slots alone);
        }

-- Back
pub returned_fit : (state : StoreState) (at : ℕ) → IsFit state → IsFit (with_held state at returned)
returned_fit state at h = held_fit state at returned h (λ a there k. turned a (stored_on state _ a (still_slots state _ h) k))
  where
    same : (a : Holding) → IsStored (with_held state at returned) a → IsChanged state (with_held state at returned) a a
    same a one = record { id = refl; name = refl; stored = one; promise = same_le (held_promise (Some a)); leaving = inl (λ e. e) }

    back : (a : Holding) (stay : Stay) → a.stay ≡ stay → IsStored (with_held state at returned) a → StaysRight (with_held state at returned) a.fileset stay
        → IsChanged state (with_held state at returned) a (if is_leaving stay then held_as Writable a else a)
    back a Writable is one k = same a one
    back a Clone is one k = same a one
    back a (Leaving to ship) is one k = record {
      id = refl;
      name = refl;
      stored = record { server = one.server; id = one.id; name = one.name; rest = one.rest; stay = (k.0, k.1) };
      promise = (let e : held_promise (Some a) ≡ promise a.fileset = ap (λ stay. if is_gone stay then 0 else promise a.fileset) is in omega (arith, e));
      leaving = inl (λ e. absurd (false≢true e));
    }
    back a (Arriving from ship parts) is one k = same a one
    back a (Gone to) is one k = same a one

    turned : (a : Holding) → IsStored (with_held state at returned) a → IsChanged state (with_held state at returned) a (returned a)
    turned a one = back a a.stay refl one one.stay

-- Left
pub left_fit : (state : StoreState) (id : FilesetId) → IsFit state → IsFit (left_outcome state id).state
unfolding left_outcome
left_fit state id h =
    where_fit (stays_so state id is_leaving) state _ h (λ e.
    held_fit state (slot_so (is_of id) state.slots) held_left h (λ a there k.
    turned a (stays_found state id is_leaving a e there) (stored_on state _ a (still_slots state _ h) k)))
  where
    gone : (fileset : Fileset) (stay : Stay) → is_leaving stay ≡ true → StaysRight (with_held state (slot_so (is_of id) state.slots) held_left) fileset stay
        → StaysRight (with_held state (slot_so (is_of id) state.slots) held_left) (record fileset { anodes = [] }) (stay_left stay)
    gone fileset Writable l k = absurd (false≢true l)
    gone fileset Clone l k = absurd (false≢true l)
    gone fileset (Leaving to ship) l k = (refl, k.1, k.2)
    gone fileset (Arriving from ship parts) l k = absurd (false≢true l)
    gone fileset (Gone to) l k = absurd (false≢true l)

    less : (fileset : Fileset) (stay : Stay) (blocks : ℕ) → is_leaving stay ≡ true → (if is_gone (stay_left stay) then 0 else promise (record fileset { anodes = [] })) ≤ blocks
    less fileset Writable blocks l = absurd (false≢true l)
    less fileset Clone blocks l = absurd (false≢true l)
    less fileset (Leaving to ship) blocks l = omega arith
    less fileset (Arriving from ship parts) blocks l = absurd (false≢true l)
    less fileset (Gone to) blocks l = absurd (false≢true l)

    off : (stay : Stay) → is_leaving (stay_left stay) ≡ true → is_leaving stay ≡ true
    off Writable e = e
    off Clone e = e
    off (Leaving to ship) e = absurd (false≢true e)
    off (Arriving from ship parts) e = e
    off (Gone to) e = e

    turned : (a : Holding) → is_leaving a.stay ≡ true → IsStored (with_held state (slot_so (is_of id) state.slots) held_left) a
        → IsChanged state (with_held state (slot_so (is_of id) state.slots) held_left) a (held_left a)
    turned a l one = record {
      id = refl;
      name = refl;
      stored = record { server = one.server; id = one.id; name = one.name; rest = refl; stay = gone a.fileset a.stay l one.stay };
      promise = less a.fileset a.stay (held_promise (Some a)) l;
      leaving = inl (off a.stay);
    }

-- Settle
pub settle_fit : (state : StoreState) (id : FilesetId) → IsFit state → IsFit (settle_outcome state id).state
unfolding settle_outcome
settle_fit state id h =
    where_fit (stays_so state id is_unsettled) state _ h (λ e.
    held_fit state (slot_so (is_of id) state.slots) held_settled h (λ a there k.
    turned a (stored_on state _ a (still_slots state _ h) k)))
  where
    settled : (fileset : Fileset) (stay : Stay) → StaysRight (with_held state (slot_so (is_of id) state.slots) held_settled) fileset stay
        → StaysRight (with_held state (slot_so (is_of id) state.slots) held_settled) (record fileset { anodes = anodes_settled stay fileset.anodes }) (stay_settled stay)
    settled fileset Writable k = k
    settled fileset Clone k = k
    settled fileset (Leaving to ship) k = (k.0, k.1)
    settled fileset (Arriving from ship parts) k =
        let came = k.0 in (
          record {
            least = omega arith;
            most = (let l = came.least in let m = came.most in omega (arith, l, m));
            count = omega arith;
            first = λ two. absurd (omega (arith, two));
            within = λ at name entry e. absurd (nothing at name entry e);
          },
          k.1,
          k.2,
        )
      where
        nothing : (at : ℕ) (name : List ℕ) (entry : DirEntry) → entry_at [] at name ≡ Some entry → ⊥
        nothing at name entry e = by (at == 0) e
          where
            by : (b : Bool) → option_and_then (λ object. entry_in object.content name) (if b then None else option_and_then (λ (a : Anode). a.object) (slice_get [] (at - 1))) ≡ Some entry → ⊥
            by true k = cc
            by false k = cc
    settled fileset (Gone to) k = k

    rest : (fileset : Fileset) (stay : Stay) → is_at_rest fileset ≡ true → is_at_rest (record fileset { anodes = anodes_settled stay fileset.anodes }) ≡ true
    rest fileset Writable r = r
    rest fileset Clone r = r
    rest fileset (Leaving to ship) r = r
    rest fileset (Arriving from ship parts) r = refl
    rest fileset (Gone to) r = r

    less : (fileset : Fileset) (stay : Stay) → StaysRight (with_held state (slot_so (is_of id) state.slots) held_settled) fileset stay
        → (if is_gone (stay_settled stay) then 0 else promise (record fileset { anodes = anodes_settled stay fileset.anodes })) ≤ (if is_gone stay then 0 else promise fileset)
    less fileset Writable k = omega arith
    less fileset Clone k = omega arith
    less fileset (Leaving to ship) k = omega arith
    less fileset (Arriving from ship parts) k =
        let a : promise (record fileset { anodes = [] }) ≡ new_promise fileset.objects = cond-false fileset.read_only _ _ k.1 in
        let b : promise fileset ≡ new_promise fileset.objects = cond-false fileset.read_only _ _ k.1 in
        omega (arith, a, b)
    less fileset (Gone to) k = omega arith

    off : (stay : Stay) → is_leaving (stay_settled stay) ≡ true → is_leaving stay ≡ true
    off Writable e = e
    off Clone e = e
    off (Leaving to ship) e = refl
    off (Arriving from ship parts) e = e
    off (Gone to) e = e

    turned : (a : Holding) → IsStored (with_held state (slot_so (is_of id) state.slots) held_settled) a
        → IsChanged state (with_held state (slot_so (is_of id) state.slots) held_settled) a (held_settled a)
    turned a one = record {
      id = refl;
      name = refl;
      stored = record { server = one.server; id = one.id; name = one.name; rest = rest a.fileset a.stay one.rest; stay = settled a.fileset a.stay one.stay };
      promise = less a.fileset a.stay one.stay;
      leaving = inl (off a.stay);
    }
