-- The head of a fileset that may come fits: it is that of an empty fileset.
use Rattle.std.proofs.Common.{◌≡◌, ◌≢◌, ◌≤◌, ℕ, zero, suc, ◌-◌, List, [], replicate, set, refl, sym, subst, arith}
use Rattle.std.specs.Prelude.{Bool, true, false, ◌==◌, IsTrue, nat_lt, if◌then◌else◌, Some, Result, Ok, Err}
use Rattle.std.specs.List.{list_all, list_any}
use Rattle.std.proofs.lemmas.Bool.{and_parts, and_from, eqb-true, false≢true}
use Rattle.base_types.specs.Name.{is_name}
use Rattle.base_types.specs.Outcomes.{either}
use Rattle.base_types.specs.declared.ids.FilesetId.{FilesetId}
use Rattle.base_types.specs.declared.ids.ServerId.{ServerId}
use Rattle.base_types.specs.declared.limits.TheConstants.{OBJECTS_MAX}
use Rattle.base_types.specs.declared.user.User.{User}
use Rattle.tree_calls.specs.declared.reply.Refusal.{Refusal}
use Rattle.tree_calls.specs.declared.reply.Reply.TheVariants.{Ok as Accepted, Refused}
use Rattle.tree_calls.specs.declared.ship.Mover.{Mover}
use Rattle.tree_calls.specs.declared.ship.Record.{Record}
use Rattle.tree_calls.specs.declared.ship.ShipPart.TheVariants.{Head}
use Rattle.tree_objects.specs.declared.content.Anode.{Anode}
use Rattle.tree_filesets.specs.Founding.{new_fileset, unused_anode}
use Rattle.tree_filesets.specs.WellFormed.{is_at_rest}
use Rattle.tree_filesets.specs.declared.fileset.Fileset.{Fileset}
use Rattle.tree_filesets.proofs.Starts.{starts_well_formed}
use Rattle.store_acts.specs.Moving.{arrival, arriving, head_once, head_outcome, held_arriving, part_outcome, taken_from, with_taken}
use Rattle.store_acts.specs.Parts.{are_told}
use Rattle.store_acts.specs.Sound.{Fits, FitsAt, IsAllowed, IsPartOf}
use Rattle.store_acts.specs.declared.act.Act.TheVariants.{Part}
use Rattle.store_state.specs.Outcomes.{fresh, stale}
use Rattle.store_state.specs.Replies.{reply_of}
use Rattle.store_state.specs.Sought.{awaits, is_due, is_past}
use Rattle.store_state.specs.State.{held_so, is_of, is_used_so, slot_so}
use Rattle.store_state.specs.declared.state.Holding.{Holding}
use Rattle.store_state.specs.declared.state.Stay.{Stay}
use Rattle.store_state.specs.declared.state.Stay.TheVariants.{Writable, Clone, Leaving, Arriving, Gone}
use Rattle.store_state.specs.declared.state.StoreState.{StoreState}
use Rattle.store_records.specs.Stored.{IsOther, IsStorable, MayArrive, StaysRight}
use Rattle.store_records.proofs.Tables.{found_passes}

-- what waits for a part of this number
pub record Waits (state : StoreState) (from : ServerId) (at : ℕ) (a : Holding) : Type 0 where
  pub parts : MayArrive a.fileset.objects at a.fileset.anodes
  pub writable : a.fileset.read_only ≡ false
  pub other : IsOther state.server from
  pub stays : (sender : ServerId) × (ship taken : ℕ) × (a.stay ≡ Arriving sender ship taken)

pub waits : (state : StoreState) (id : FilesetId) (from : ServerId) (ship moves at : ℕ) (a : Holding) → awaits id from ship moves at a ≡ true → StaysRight state a.fileset a.stay → Waits state from at a
waits state id from ship moves at a e k = by a.stay refl (and_parts (is_of id a) _ (and_parts _ _ e).0).1 k
  where
    by : (stay : Stay) → a.stay ≡ stay → is_due from ship at stay ≡ true → StaysRight state a.fileset stay → Waits state from at a
    by Writable is due k = absurd (false≢true due)
    by Clone is due k = absurd (false≢true due)
    by (Leaving to sent) is due k = absurd (false≢true due)
    by (Gone to) is due k = absurd (false≢true due)
    by (Arriving sender taken parts) is due k =
        let (front, last) = and_parts _ (parts == at) due in
        let (own, same) = and_parts (sender.0 == from.0) _ front in
        let number = eqb-true parts at last in
        let server : sender ≡ from = (let n = eqb-true sender.0 from.0 own in λ i. record { 0 = n i }) in
        record {
          parts = subst (λ n. MayArrive a.fileset.objects n a.fileset.anodes) number k.0;
          writable = k.1;
          other = subst (λ s. IsOther state.server s) server k.2;
          stays = (sender, taken, parts, is);
        }

-- an empty fileset
all_alike : (p : Anode → Bool) (n : ℕ) → p unused_anode ≡ true → list_all p (replicate n unused_anode) ≡ true
all_alike p zero h = refl
all_alike p (suc n) h = and_from (p unused_anode) (list_all p (replicate n unused_anode)) h (all_alike p n h)

empty_rests : (server : ServerId) (id : FilesetId) (name : List ℕ) (objects : ℕ) (owner : User) → is_at_rest (new_fileset server id name objects owner) ≡ true
unfolding new_fileset
empty_rests server id name objects owner = and_from true _ refl (all_alike _ (objects - 1) refl)

empty_told : (server : ServerId) (id : FilesetId) (name : List ℕ) (objects : ℕ) (owner : User) → are_told (new_fileset server id name objects owner).anodes ≡ true
unfolding new_fileset
empty_told server id name objects owner = and_from true _ refl (all_alike _ (objects - 1) refl)

empty_part : (server : ServerId) (id : FilesetId) (name : List ℕ) (objects : ℕ) (owner : User) (records : List Record) (mover : Mover) → IsPartOf (new_fileset server id name objects owner) 0 (Head name objects records mover)
unfolding new_fileset
empty_part server id name objects owner records mover = (Writable, records, mover, refl)

empty_named : (server : ServerId) (id : FilesetId) (name : List ℕ) (objects : ℕ) (owner : User) → IsTrue (is_name name) → IsTrue (is_name (new_fileset server id name objects owner).name)
unfolding new_fileset
empty_named server id name objects owner h = h

empty_writable : (server : ServerId) (id : FilesetId) (name : List ℕ) (objects : ℕ) (owner : User) → (new_fileset server id name objects owner).read_only ≡ false
unfolding new_fileset
empty_writable server id name objects owner = refl

-- a head
pub head_fits : (state : StoreState) (from : ServerId) (ship : ℕ) (id : FilesetId) (moves at : ℕ) (name : List ℕ) (objects : ℕ) (records : List Record) (mover : Mover) → IsStorable state → at ≡ 0
    → 1 ≤ objects → objects ≤ OBJECTS_MAX → from.0 ≢ state.server.0 → IsAllowed state id → IsTrue (is_name name) → Fits state (Part from ship id moves at (Head name objects records mover))
head_fits state from ship id moves at name objects records mover h zero_at least most other allowed named =
    subst (λ n. Fits state (Part from ship id moves n (Head name objects records mover))) (sym zero_at) (empty, fits)
  where
    empty : Fileset
    empty = new_fileset state.server id name objects (record { name = []; groups = [] })

    none : (a : Holding) → held_so (awaits id from ship moves 0) state.slots ≡ Some a → ⊥
    none a there =
        let wait = waits state id from ship moves 0 a (found_passes (awaits id from ship moves 0) state.slots a there) (h.each (slot_so (awaits id from ship moves 0) state.slots) a there).stay in
        let some = wait.parts.least in
        omega (arith, some)

    fits : FitsAt state from ship id moves 0 (Head name objects records mover) (new_fileset state.server id name objects (record { name = []; groups = [] }))
    fits = record {
      other = other;
      allowed = allowed;
      named = empty_named state.server id name objects _ named;
      well_formed = starts_well_formed.new state.server id name objects _ least most;
      settled = empty_rests state.server id name objects _;
      whole = empty_told state.server id name objects _;
      writable = empty_writable state.server id name objects _;
      part = empty_part state.server id name objects _ records mover;
      taken = λ a there. absurd (none a there);
    }

-- it leaves the number of the next fileset
pub head_next : (state : StoreState) (from : ServerId) (ship : ℕ) (id : FilesetId) (moves at : ℕ) (name : List ℕ) (objects : ℕ) (records : List Record) (mover : Mover)
    → (part_outcome state from ship id moves at (Head name objects records mover)).state.next ≡ state.next
unfolding part_outcome head_outcome
head_next state from ship id moves at name objects records mover = by (at == 0)
  where
    taken : (checked : Result ℕ Refusal) → (either checked
        (λ slot. fresh Accepted (record (with_taken state from ship Accepted) {
          slots = set state.slots slot (Some (held_arriving (Arriving from ship 1) (arriving state.server id name objects moves) records mover));
        }))
        (λ refusal. fresh (Refused refusal) (with_taken state from ship (Refused refusal)))).state.next ≡ state.next
    taken (Ok slot) = refl
    taken (Err refusal) = refl

    once : (late new : Bool)
        → (if late then stale Accepted state else if new then head_outcome state from ship id moves name objects records mover else stale (reply_of (taken_from state from).code 0) state).state.next ≡ state.next
    once true new = refl
    once false true = taken (arrival state id name objects)
    once false false = refl

    by : (b : Bool) → (if b then head_once state from ship id moves (head_outcome state from ship id moves name objects records mover) else stale Accepted state).state.next ≡ state.next
    by true = once (list_any (is_used_so (is_past id moves)) state.slots) (nat_lt (taken_from state from).ship ship)
    by false = refl
