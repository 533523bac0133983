-- The stores that have settled what they had to keep the tree that a run starts from.
use Rattle.std.proofs.Common.{◌≡◌, ◌<◌, ℕ, zero, suc, ◌+◌, ◌==◌, Bool, true, false, ◌&&◌, not, List, [], ◌∷◌, length, map, filter, Option, Some, None, refl, sym, ap, ◌∙◌, subst, arith, rules}
use Rattle.std.specs.Prelude.{if◌then◌else◌, option_and_then, slice_get}
use Rattle.std.specs.List.{find}
use Rattle.std.specs.Option.{option_map}
use Rattle.base_types.specs.Name.{same_name}
use Rattle.base_types.specs.declared.ids.FilesetId.{FilesetId}
use Rattle.base_types.specs.declared.ids.ServerId.{ServerId}
use Rattle.tree_calls.specs.declared.roster.Roster.{Roster}
use Rattle.tree_filesets.specs.declared.fileset.Fileset.{Fileset}
use Rattle.store_memory.specs.Reading.{is_kept, slots_from}
use Rattle.store_memory.specs.declared.told.Slot.{Slot}
use Rattle.tree_answers.proofs.Places.{equal_is}
use Rattle.tree_answers.specs.Finding.{has_id}
use Rattle.tree_answers.specs.declared.tree.Away.{Away}
use Rattle.service_starts.proofs.Settles.{settles_once}
use Rattle.service_starts.proofs.Standing.{In, any_in, come_at, fit_of, in_slots_of, of_all_slots, stands_once}
use Rattle.service_starts.proofs.Tests.{and_left, and_right}
use Rattle.service_starts.specs.Fitting.{is_matched, is_sender, is_shipped, misfit, settlings_of}
use Rattle.service_starts.specs.Laws.{StaysSettled}
use Rattle.service_starts.specs.Settled.{settled, told_after}
use Rattle.service_starts.specs.Starting.{away_of, fileset_in, fileset_of, keeper_of, kept_by, left_for, start_of}
use Rattle.service_starts.specs.Told.{Placed, has_come, is_same, placed, slots_of, stands, stands_as}
use Rattle.service_starts.specs.declared.fitting.Settling.{Settling}
use Rattle.service_starts.specs.declared.told.Told.{Told}
use Rattle.service_starts.proofs.Found.{IsOne, OfId, from_slot, here_found, its_slot, keeps_room, left_as, none_at, none_held, none_open, no_record_at, of_id, out_found, server_is, slot_found, tells_id}
use Rattle.service_starts.proofs.Replaced.{Part, keeps_parts}
use Rattle.service_starts.specs.FinishLaws.{AreToldOf, MovesBegin, settled_stores}
use Rattle.service_starts.specs.UnderWay.{IsComing, IsHeldBy, KeepUnderWay, is_out, record_so}
use Rattle.store_records.proofs.Acts.{acts_keep_storable}
use Rattle.store_records.specs.Stored.{IsStorable}
use Rattle.service_starts.proofs.Kept.{never}
use Rattle.service_starts.proofs.Known.{IsHeld, found_kept, sent_so}
use Rattle.service_starts.proofs.Places.{goes_on, matched_at, same_place}
use Rattle.service_starts.proofs.SettledMoves.{stores_settle}
use Rattle.service_starts.proofs.Slots.{slot_held}
use Rattle.service_starts.proofs.Started.{tree_filesets}
use Rattle.service_starts.proofs.Turned.{settled_slots}
use Rattle.service_starts.specs.Settles.{acts_at}
use Rattle.service_starts.specs.Starts.{AreTold, IsToldOf}
use Rattle.store_acts.specs.Acts.{act_done, state_after}
use Rattle.store_acts.specs.Moving.{is_unsettled}
use Rattle.store_acts.specs.declared.act.Act.TheVariants.{Settle}
use Rattle.store_state.specs.State.{is_arriving, is_here, is_of, held_so}
use Rattle.store_state.specs.declared.state.Holding.{Holding}
use Rattle.store_state.specs.declared.state.Stay.{Stay}
use Rattle.store_state.specs.declared.state.Stay.TheVariants.{Writable, Clone, Leaving, Arriving, Gone}
use Rattle.store_state.specs.declared.state.StoreState.{StoreState}
use Rattle.store_laws.proofs.Exact.{held_self}
use Rattle.store_laws.proofs.KeptSteps.{at_server}
use Rattle.store_laws.specs.TreeKeeping.{fileset_at, if_at, record_at}

-- Stores, and what is told of them; the disks fit, and nothing is to be settled.
record AreSettled (roster : Roster) (all : List Told) (states : List StoreState) : Type 0 where
  count : length states ≡ length roster.capacity
  fit : misfit all ≡ None
  settled : settlings_of all ≡ []
  of_store : (place : ℕ) (state : StoreState) → slice_get states place ≡ Some state
      → (told : Told) × (slice_get all place ≡ Some told) × IsToldOf (place + 1) state told × (state.roster ≡ roster)
  of_told : (place : ℕ) (told : Told) → slice_get all place ≡ Some told
      → (state : StoreState) × (slice_get states place ≡ Some state) × IsToldOf (place + 1) state told

all_told : (roster : Roster) (all : List Told) (states : List StoreState) → AreSettled roster all states → AreTold all
all_told roster all states a place told e = let w = a.of_told place told e in (w.0, w.2)

-- what is held of a slot
abbrev HeldThere : List Told → List StoreState → Placed → Type 0
HeldThere all states b =
    (h : Holding) × (x : IsHeldBy states b.server b.slot.fileset h) × IsHeld all b x.state h

held_there : (roster : Roster) (all : List Told) (states : List StoreState) → AreSettled roster all states →
    (b : Placed) → In b (placed all) → HeldThere all states b
held_there roster all states a b i =
    let (place, told, there, number, inside) = of_all_slots 1 all b i in
    let (state, is, of_it) = a.of_told place told there in
    let mine : In b.slot (slots_from 0 state.slots) = subst (λ those. In b.slot those) of_it.slots inside in
    let (at, holding, held, tells) = slot_held 0 state.slots b.slot mine in
    let own = of_it.own in
    let same : state.server.0 ≡ b.server.0 = omega (arith, own, number) in
    let id = tells_id b.slot holding tells in (
      holding,
      record {
        place = place;
        state = state;
        there = is;
        own = server_is state.server b.server same;
        held = ap (λ one. held_so (is_of one) state.slots) id ∙ held_self state at holding of_it.storable held;
      },
      record {
        storable = of_it.storable;
        own = same;
        told = (place, told, there, number, of_it.kept, of_it.slots);
        held = (at, held);
        stored = of_it.storable.each at holding held;
        tells = tells;
      },
    )

-- what is leaving for a server under a ship
shipped_as : (server : ServerId) (ship : ℕ) (stay : Stay) → is_shipped server ship stay ≡ true →
    stay ≡ Leaving server ship
shipped_as server ship Writable h = absurd (never h)
shipped_as server ship Clone h = absurd (never h)
shipped_as server ship (Leaving to sent) h =
    ap (λ one. Leaving one sent)
    (server_is to server (equal_is to.0 server.0 (and_left (to.0 == server.0) (sent == ship) h)))
    ∙ ap (Leaving server) (equal_is sent ship (and_right (to.0 == server.0) (sent == ship) h))
shipped_as server ship (Arriving from taken parts) h = absurd (never h)
shipped_as server ship (Gone to) h = absurd (never h)

-- what is sent has one move fewer
sent_moves : (server : ServerId) (ship : ℕ) (slot other : Slot) → is_sender server ship slot other ≡ true →
    other.moves + 1 ≡ slot.moves
sent_moves server ship slot other h =
    let a : Bool = is_same slot other in
    let b : Bool = is_shipped server ship other.stay in
    let c : Bool = other.moves + 1 == slot.moves in
    let d : Bool = same_name other.name slot.name in
    let e : Bool = other.objects == slot.objects in
    equal_is (other.moves + 1) slot.moves
    (and_right (a && b) c (and_left (a && b && c) d (and_left (a && b && c && d) e h)))

-- one that isn't open isn't settled, or isn't in its slot
closed_either : (a b : Bool) → (a && b) ≡ false → a ≡ true → b ≡ false
closed_either true b e h = e
closed_either false b e h = absurd (never h)

closed_or : (a b : Bool) → (a && b) ≡ false → b ≡ true → a ≡ false
closed_or true b e h = absurd (never (sym e ∙ h))
closed_or false b e h = refl

not_false : (b : Bool) → not b ≡ false → b ≡ true
not_false true e = refl
not_false false e = absurd (never (sym e))

stands_not : (b : Bool) → b ≡ true → b ≡ false → ⊥
stands_not b t f = never (sym f ∙ t)

-- what is known of one of the stores and what it holds of an id
record Known (roster : Roster) (all : List Told) (states : List StoreState) (state : StoreState) (id : FilesetId)
    (holding : Holding) (at : Placed) : Type 0 where
  are : AreSettled roster all states
  one : IsOne all state
  its : OfId all state id holding at

stay_of : (roster : Roster) (all : List Told) (states : List StoreState) (state : StoreState) (id : FilesetId)
    (holding : Holding) (at : Placed) → Known roster all states state id holding at → at.slot.stay ≡ holding.stay
stay_of roster all states state id holding at k = ap (λ one. one.stay) k.its.held.tells.1

closed : (roster : Roster) (all : List Told) (states : List StoreState) (state : StoreState) (id : FilesetId)
    (holding : Holding) (at : Placed) → Known roster all states state id holding at →
    (is_unsettled at.slot.stay && stands all at.slot) ≡ false
closed roster all states state id holding at k = none_open all (placed all) at k.are.settled k.its.here

-- one that is leaving isn't in its slot
leaves_slot : (roster : Roster) (all : List Told) (states : List StoreState) (state : StoreState) (id : FilesetId)
    (holding : Holding) (at : Placed) → Known roster all states state id holding at → (to : ServerId) (ship : ℕ) →
    holding.stay ≡ Leaving to ship → stands all at.slot ≡ false
leaves_slot roster all states state id holding at k to ship e =
    closed_either (is_unsettled at.slot.stay) (stands all at.slot) (closed roster all states state id holding at k)
    (ap is_unsettled (stay_of roster all states state id holding at k ∙ e))

-- nor is one that has left
out_slot : (roster : Roster) (all : List Told) (states : List StoreState) (state : StoreState) (id : FilesetId)
    (holding : Holding) (at : Placed) → Known roster all states state id holding at → (stay : Stay) →
    holding.stay ≡ stay → is_out stay ≡ true → stands all at.slot ≡ false
out_slot roster all states state id holding at k Writable e o = absurd (never o)
out_slot roster all states state id holding at k Clone e o = absurd (never o)
out_slot roster all states state id holding at k (Leaving to ship) e o =
    leaves_slot roster all states state id holding at k to ship e
out_slot roster all states state id holding at k (Arriving from ship parts) e o = absurd (never o)
out_slot roster all states state id holding at k (Gone to) e o =
    ap (stands_as all at.slot) (stay_of roster all states state id holding at k ∙ e)

older_so : (roster : Roster) (all : List Told) (states : List StoreState) (state : StoreState) (id : FilesetId)
    (holding : Holding) (at : Placed) → Known roster all states state id holding at → (fileset : Fileset) →
    is_out holding.stay ≡ true → find (has_id id) (tree_filesets all) ≡ Some fileset →
    holding.fileset.moves < fileset.moves
older_so roster all states state id holding at k fileset out found =
    let t = all_told roster all states k.are in
    let f = k.are.fit in
    let o = k.its in
    let on = goes_on all f at o.here (out_slot roster all states state id holding at k holding.stay refl out) in
    let other = on.0 in
    let from = from_slot all t f id fileset found in
    let b = from.0 in
    let ids : b.slot.fileset.0 ≡ other.slot.fileset.0 = ap (λ one. one.0) (from.1.its ∙ sym o.its) ∙ sym on.2 in
    let servers = stands_once all f b other from.1.here on.1 ids from.1.stands on.3 in
    let same : b ≡ other = same_place all t b other from.1.here on.1 servers ids in
    let more = on.4 in
    let mine : at.slot.moves ≡ holding.fileset.moves = ap (λ one. one.moves) o.held.tells.1 in
    let its : fileset.moves ≡ other.slot.moves = from.1.moves ∙ ap (λ one. one.slot.moves) same in
    omega (arith, more, mine, its)

-- where one is leaving for
leaving_so : (roster : Roster) (all : List Told) (states : List StoreState) (state : StoreState) (id : FilesetId)
    (holding : Holding) (at : Placed) → Known roster all states state id holding at → (to : ServerId) (ship : ℕ) →
    holding.stay ≡ Leaving to ship →
    (come : Holding) × IsHeldBy states to id come × (holding.fileset.moves < come.fileset.moves)
leaving_so roster all states state id holding at k to ship e =
    let o = k.its in
    let stay = stay_of roster all states state id holding at k ∙ e in
    let out : not (has_come all at.slot to) ≡ false =
    sym (ap (stands_as all at.slot) stay) ∙ leaves_slot roster all states state id holding at k to ship e in
    let (other, i, ids, more) = come_at all at.slot to (not_false (has_come all at.slot to) out) in
    let (come, x, h) = held_there roster all states k.are (record { server = to; slot = other }) i in
    let its : other.fileset ≡ id = ap (λ n. let one : FilesetId = record { 0 = n } in one) ids ∙ o.its in
    let mine : at.slot.moves ≡ holding.fileset.moves = ap (λ one. one.moves) o.held.tells.1 in
    let theirs : other.moves ≡ come.fileset.moves = ap (λ one. one.moves) h.tells.1 in
    (come, subst (λ one. IsHeldBy states to one come) its x, omega (arith, more, mine, theirs))

-- where one that is arriving comes from
arriving_so : (roster : Roster) (all : List Told) (states : List StoreState) (state : StoreState) (id : FilesetId)
    (holding : Holding) (at : Placed) → Known roster all states state id holding at → (from : ServerId)
    (ship parts : ℕ) → holding.stay ≡ Arriving from ship parts →
    (sent : Holding) × IsComing (start_of roster all) states state.server id holding from ship parts sent
arriving_so roster all states state id holding at k from ship parts e =
    let t = all_told roster all states k.are in
    let o = k.its in
    let stay : at.slot.stay ≡ Arriving from ship parts = stay_of roster all states state id holding at k ∙ e in
    let stands_there : stands all at.slot ≡ true = ap (stands_as all at.slot) stay in
    let settled_is : not (parts == 1) ≡ false =
    sym (ap is_unsettled stay)
    ∙ closed_or (is_unsettled at.slot.stay) (stands all at.slot) (closed roster all states state id holding at k)
    stands_there in
    let matched : is_matched all at.server at.slot (Arriving from ship parts) ≡ true =
    subst (λ one. is_matched all at.server at.slot one ≡ true) stay
    (matched_at all at (fit_of all at k.are.fit o.here)) in
    let (other, i, is) = any_in (is_sender at.server ship at.slot) (slots_of all from) matched in
    let so = sent_so at.server ship at.slot other is in
    let there : Placed = record { server = from; slot = other } in
    let (sent, x, h) = held_there roster all states k.are there (in_slots_of all from other i) in
    let leaves : other.stay ≡ Leaving at.server ship = shipped_as at.server ship other.stay so.stay in
    let theirs : other.stay ≡ sent.stay = ap (λ one. one.stay) h.tells.1 in
    let kept : is_kept sent.stay ≡ true = ap is_kept (sym theirs ∙ leaves) in
    let server : at.server ≡ state.server = server_is at.server state.server (sym o.held.own) in
    let mine : at.slot.moves ≡ holding.fileset.moves = ap (λ one. one.moves) o.held.tells.1 in
    let found : find (has_id at.slot.fileset) (kept_by all (keeper_of at.server at.slot.stay)) ≡ Some sent.fileset =
    ap (λ one. find (has_id at.slot.fileset) (kept_by all (keeper_of at.server one))) stay
    ∙ ap (λ one. find (has_id one) (kept_by all from)) (sym so.id) ∙ found_kept all there x.state sent h kept in
    let new : Fileset = record sent.fileset { server = at.server; moves = at.slot.moves } in
    let made : fileset_in all at ≡ Some new =
    ap (λ b. if b then fileset_of all at else None) stands_there
    ∙ ap (option_map {T = Fileset} {U = Fileset} (λ one. record one { server = at.server; moves = at.slot.moves })) found in
    let its : sent.fileset.id ≡ at.slot.fileset = sym (ap (λ one. one.fileset) h.tells.1) ∙ so.id in
    let listed = slot_found all t k.are.fit at new o.here stands_there made its in
    let counted = sent_moves at.server ship at.slot other is in
    let less : other.moves ≡ sent.fileset.moves = ap (λ one. one.moves) h.tells.1 in (
      sent,
      record {
        head = equal_is parts 1 (not_false (parts == 1) settled_is);
        held = subst (λ one. IsHeldBy states from one sent) (so.id ∙ o.its) x;
        leaves = sym theirs ∙ leaves ∙ ap (λ one. Leaving one ship) server;
        moves = omega (arith, counted, less, mine);
        name = sym (ap (λ one. one.name) o.held.tells.1) ∙ sym so.name ∙ ap (λ one. one.name) h.tells.1;
        objects = sym (ap (λ one. one.objects) o.held.tells.1) ∙ sym so.objects ∙ ap (λ one. one.objects) h.tells.1;
        there = ap (λ one. option_and_then (if_at state.server) (find (has_id one) (tree_filesets all))) (sym o.its)
            ∙ ap (option_and_then (if_at state.server)) listed ∙ at_server new state.server server
            ∙ ap (λ one. Some (record sent.fileset { server = one; moves = at.slot.moves })) server
            ∙ ap (λ n. Some (record sent.fileset { server = state.server; moves = n })) mine;
      },
    )

-- what a store's server has in the tree of a fileset that is in its slot, and of one that isn't
in_slot : (roster : Roster) (all : List Told) (states : List StoreState) (state : StoreState) (id : FilesetId)
    (holding : Holding) (at : Placed) → Known roster all states state id holding at → stands all at.slot ≡ true →
    record_at (start_of roster all) state.server id ≡ None
in_slot roster all states state id holding at k s =
    no_record_at all roster state.server id (λ b i own its out.
    stands_not (stands all b.slot) (ap (λ one. stands all one.slot)
    (its_slot all (all_told roster all states k.are) state id holding at k.its b i own its) ∙ s) out)

not_in_slot : (roster : Roster) (all : List Told) (states : List StoreState) (state : StoreState) (id : FilesetId)
    (holding : Holding) (at : Placed) → Known roster all states state id holding at → stands all at.slot ≡ false →
    fileset_at (start_of roster all) state.server id ≡ None
not_in_slot roster all states state id holding at k out =
    none_at all (all_told roster all states k.are) k.are.fit roster state.server id (λ b i own its s.
    stands_not (stands all b.slot) s (ap (λ one. stands all one.slot)
    (its_slot all (all_told roster all states k.are) state id holding at k.its b i own its) ∙ out))

fileset_so : (roster : Roster) (all : List Told) (states : List StoreState) (state : StoreState) (id : FilesetId)
    (holding : Holding) (at : Placed) → Known roster all states state id holding at → (stay : Stay) →
    holding.stay ≡ stay → is_arriving stay ≡ false →
    (if is_here stay then Some holding.fileset else None) ≡ fileset_at (start_of roster all) state.server id
fileset_so roster all states state id holding at k Writable e a =
    sym (here_found all (all_told roster all states k.are) k.are.fit roster state id holding at k.its (ap is_here e))
fileset_so roster all states state id holding at k Clone e a =
    sym (here_found all (all_told roster all states k.are) k.are.fit roster state id holding at k.its (ap is_here e))
fileset_so roster all states state id holding at k (Leaving to ship) e a =
    sym (not_in_slot roster all states state id holding at k
    (out_slot roster all states state id holding at k (Leaving to ship) e refl))
fileset_so roster all states state id holding at k (Arriving from ship parts) e a = absurd (never (sym a))
fileset_so roster all states state id holding at k (Gone to) e a =
    sym (not_in_slot roster all states state id holding at k
    (out_slot roster all states state id holding at k (Gone to) e refl))

stands_here : (roster : Roster) (all : List Told) (states : List StoreState) (state : StoreState) (id : FilesetId)
    (holding : Holding) (at : Placed) → Known roster all states state id holding at → (stay : Stay) →
    holding.stay ≡ stay → stands_as all at.slot stay ≡ true → stands all at.slot ≡ true
stands_here roster all states state id holding at k stay e s =
    ap (stands_as all at.slot) (stay_of roster all states state id holding at k ∙ e) ∙ s

record_is : (roster : Roster) (all : List Told) (states : List StoreState) (state : StoreState) (id : FilesetId)
    (holding : Holding) (at : Placed) → Known roster all states state id holding at → (stay : Stay) →
    holding.stay ≡ stay →
    record_so state.server holding.fileset stay ≡ record_at (start_of roster all) state.server id
record_is roster all states state id holding at k Writable e =
    sym (in_slot roster all states state id holding at k
    (stands_here roster all states state id holding at k Writable e refl))
record_is roster all states state id holding at k Clone e =
    sym (in_slot roster all states state id holding at k
    (stands_here roster all states state id holding at k Clone e refl))
record_is roster all states state id holding at k (Leaving to ship) e =
    sym (out_found all (all_told roster all states k.are) roster state id holding at k.its
    (record (left_for at to) { room_kept = true })
    (out_slot roster all states state id holding at k (Leaving to ship) e refl)
    (ap (away_of at) (stay_of roster all states state id holding at k ∙ e))
    ∙ ap (λ (one : Away). Some (record one { room_kept = true })) (left_as all state id holding at k.its to))
record_is roster all states state id holding at k (Arriving from ship parts) e =
    sym (in_slot roster all states state id holding at k
    (stands_here roster all states state id holding at k (Arriving from ship parts) e refl))
record_is roster all states state id holding at k (Gone to) e =
    sym (out_found all (all_told roster all states k.are) roster state id holding at k.its (left_for at to)
    (out_slot roster all states state id holding at k (Gone to) e refl)
    (ap (away_of at) (stay_of roster all states state id holding at k ∙ e))
    ∙ ap Some (left_as all state id holding at k.its to))

part : (roster : Roster) (all : List Told) (states : List StoreState) → AreSettled roster all states →
    (state : StoreState) → IsOne all state → (id : FilesetId) (found : Option Holding) →
    held_so (is_of id) state.slots ≡ found → Part (start_of roster all) states state.server id found
part roster all states a state one id None e = record {
  fileset = λ n. sym (none_at all (all_told roster all states a) a.fit roster state.server id
      (λ at i own its s. none_held all state one id e at i own its));
  arriving = λ holding from ship parts f k. absurd (search (rules, f));
  records = sym (no_record_at all roster state.server id (λ at i own its out. none_held all state one id e at i own its));
  older = λ holding fileset f out found. absurd (search (rules, f));
  leaving = λ holding to ship f l. absurd (search (rules, f));
}
part roster all states a state one id (Some holding) e = record {
  fileset = λ n. (let (at, k) = known holding e in fileset_so roster all states state id holding at k holding.stay refl n);
  arriving = λ other from ship parts f s.
      (let (at, k) = known other (e ∙ f) in arriving_so roster all states state id other at k from ship parts s);
  records = (let (at, k) = known holding e in record_is roster all states state id holding at k holding.stay refl);
  older = λ other fileset f out found.
      (let (at, k) = known other (e ∙ f) in older_so roster all states state id other at k fileset out found);
  leaving = λ other to ship f l.
      (let (at, k) = known other (e ∙ f) in leaving_so roster all states state id other at k to ship l);
}
  where
    known : (other : Holding) → held_so (is_of id) state.slots ≡ Some other →
        (at : Placed) × Known roster all states state id other at
    known other f = let (at, o) = of_id all state one id other f in (at, record { are = a; one = one; its = o })

begun : (roster : Roster) (all : List Told) (states : List StoreState) → AreSettled roster all states →
    KeepUnderWay (start_of roster all) states
begun roster all states a = record {
  count = a.count;
  own = λ k state e. (let (told, there, is, same) = a.of_store k state e in server_is state.server (record { 0 = k + 1 }) is.own);
  keeps = λ k state e.
      (let (told, there, is, same) = a.of_store k state e in
      let one : IsOne all state = record { place = k; told = told; there = there; of_it = is } in
      keeps_parts (start_of roster all) states state is.storable same (keeps_room all state one)
      (λ id. part roster all states a state one id (held_so (is_of id) state.slots) refl));
}

-- what stands in lists that are made of others
pub got_map : {X : Type 0} {Y : Type 0} (f : X → Y) (xs : List X) (i : ℕ) (y : Y) → slice_get (map f xs) i ≡ Some y →
    (x : X) × (slice_get xs i ≡ Some x) × (f x ≡ y)
got_map f [] i y e = absurd (search (rules, e))
got_map f (x ∷ xs) zero y e = let same : f x ≡ y = cc in (x, refl, same)
got_map f (x ∷ xs) (suc i) y e = got_map f xs i y e

pub map_got : {X : Type 0} {Y : Type 0} (f : X → Y) (xs : List X) (i : ℕ) (x : X) → slice_get xs i ≡ Some x →
    slice_get (map f xs) i ≡ Some (f x)
map_got f [] i x e = absurd (search (rules, e))
map_got f (z ∷ xs) zero x e = let same : z ≡ x = cc in ap (λ one. Some (f one)) same
map_got f (z ∷ xs) (suc i) x e = map_got f xs i x e

-- the roster stays
roster_once : (state : StoreState) (id : FilesetId) → IsStorable state →
    (act_done state (Settle id)).state.roster ≡ state.roster
unfolding act_done
roster_once state id s = ap (λ one. one.roster) (settled_slots state id s.apart)

pub roster_all : (those : List Settling) (state : StoreState) → IsStorable state →
    (state_after state (map (λ (one : Settling). Settle one.fileset) those)).roster ≡ state.roster
roster_all [] state s = refl
roster_all (first ∷ those) state s =
    roster_all those (act_done state (Settle first.fileset)).state
    (acts_keep_storable state (Settle first.fileset) s tt tt)
    ∙ roster_once state first.fileset s

-- each store is told of
store_told : (roster : Roster) (n : ℕ) (all : List Told) (states : List StoreState) → AreToldOf roster n all states →
    (place : ℕ) (state : StoreState) → slice_get states place ≡ Some state →
    (told : Told) × (slice_get all place ≡ Some told) × IsToldOf (n + place) state told × (state.roster ≡ roster)
store_told roster n [] [] h place state e = absurd (search (rules, e))
store_told roster n [] (first ∷ states) h place state e = absurd h
store_told roster n (told ∷ all) [] h place state e = absurd h
store_told roster n (told ∷ all) (first ∷ states) h zero state e =
    let same : first ≡ state = cc in
    let number : n ≡ n + 0 = omega arith in (
      told,
      refl,
      subst (λ m. IsToldOf m state told) number (subst (λ one. IsToldOf n one told) same h.0),
      subst (λ (one : StoreState). one.roster ≡ roster) same h.1,
    )
store_told roster n (told ∷ all) (first ∷ states) h (suc place) state e =
    let (other, there, is, same) = store_told roster (n + 1) all states h.2 place state e in
    let number : n + 1 + place ≡ n + suc place = omega arith in
    (other, there, subst (λ m. IsToldOf m state other) number is, same)

told_store : (roster : Roster) (n : ℕ) (all : List Told) (states : List StoreState) → AreToldOf roster n all states →
    (place : ℕ) (told : Told) → slice_get all place ≡ Some told →
    (state : StoreState) × (slice_get states place ≡ Some state)
told_store roster n [] [] h place told e = absurd (search (rules, e))
told_store roster n [] (first ∷ states) h place told e = absurd h
told_store roster n (told ∷ all) [] h place other e = absurd h
told_store roster n (told ∷ all) (first ∷ states) h zero other e = (first, refl)
told_store roster n (told ∷ all) (first ∷ states) h (suc place) other e =
    told_store roster (n + 1) all states h.2 place other e

told_many : (roster : Roster) (n : ℕ) (all : List Told) (states : List StoreState) → AreToldOf roster n all states →
    length states ≡ length all
told_many roster n [] [] h = refl
told_many roster n [] (first ∷ states) h = absurd h
told_many roster n (told ∷ all) [] h = absurd h
told_many roster n (told ∷ all) (first ∷ states) h = ap suc (told_many roster (n + 1) all states h.2)

-- and each has settled what it had to
settled_got : (n : ℕ) (those : List Settling) (states : List StoreState) (place : ℕ) (state : StoreState) →
    slice_get (settled_stores n those states) place ≡ Some state →
    (old : StoreState) × (slice_get states place ≡ Some old) × (state_after old (acts_at (n + place) those) ≡ state)
settled_got n those [] place state e = absurd (search (rules, e))
settled_got n those (first ∷ states) zero state e =
    let same : state_after first (acts_at n those) ≡ state = cc in
    let number : n + 0 ≡ n = omega arith in
    (first, refl, ap (λ m. state_after first (acts_at m those)) number ∙ same)
settled_got n those (first ∷ states) (suc place) state e =
    let (old, there, is) = settled_got (n + 1) those states place state e in
    let number : n + suc place ≡ n + 1 + place = omega arith in
    (old, there, ap (λ m. state_after old (acts_at m those)) number ∙ is)

got_settled : (n : ℕ) (those : List Settling) (states : List StoreState) (place : ℕ) (old : StoreState) →
    slice_get states place ≡ Some old →
    slice_get (settled_stores n those states) place ≡ Some (state_after old (acts_at (n + place) those))
got_settled n those [] place old e = absurd (search (rules, e))
got_settled n those (first ∷ states) zero old e =
    let same : first ≡ old = cc in
    let number : n ≡ n + 0 = omega arith in
    ap (λ one. Some (state_after one (acts_at n those))) same
    ∙ ap (λ m. Some (state_after old (acts_at m those))) number
got_settled n those (first ∷ states) (suc place) old e =
    let number : n + 1 + place ≡ n + suc place = omega arith in
    got_settled (n + 1) those states place old e ∙ ap (λ m. Some (state_after old (acts_at m those))) number

settled_many : (n : ℕ) (those : List Settling) (states : List StoreState) →
    length (settled_stores n those states) ≡ length states
settled_many n those [] = refl
settled_many n those (first ∷ states) = ap suc (settled_many (n + 1) those states)

pub moves_begin : MovesBegin
moves_begin roster all states count told fit =
    subst (λ tree. KeepUnderWay tree after) once.start (begun roster (settled all) after are)
  where
    those : List Settling
    those = settlings_of all

    after : List StoreState
    after = settled_stores 1 those states

    once : StaysSettled roster all
    once = settles_once roster all fit

    -- one store, and what is told of it then
    one_settled : (place : ℕ) (old : StoreState) → slice_get states place ≡ Some old →
        (one : Told) × (slice_get all place ≡ Some one)
        × IsToldOf (place + 1) (state_after old (acts_at (1 + place) those)) (told_after all one)
        × ((state_after old (acts_at (1 + place) those)).roster ≡ roster)
    one_settled place old e =
        let (one, there, is, same) = store_told roster 1 all states told place old e in
        let number : 1 + place ≡ place + 1 = omega arith in
        let is_told : IsToldOf (place + 1) old one = subst (λ m. IsToldOf m old one) number is in (
          one,
          there,
          subst (λ m. IsToldOf (place + 1) (state_after old (acts_at m those)) (told_after all one)) (sym number)
              (stores_settle all place one old there is_told),
          roster_all (filter (λ (s : Settling). s.server.0 == 1 + place) those) old is.storable ∙ same,
        )

    are : AreSettled roster (settled all) after
    are = record {
      count = settled_many 1 those states ∙ told_many roster 1 all states told ∙ count;
      fit = once.fit.0;
      settled = once.fit.1;
      of_store = λ place state e.
          (let (old, there, is) = settled_got 1 those states place state e in
          let (one, here, is_told, same) = one_settled place old there in (
            told_after all one,
            map_got (told_after all) all place one here,
            subst (λ s. IsToldOf (place + 1) s (told_after all one)) is is_told,
            subst (λ (s : StoreState). s.roster ≡ roster) is same,
          ));
      of_told = λ place other e.
          (let (one, here, is) = got_map (told_after all) all place other e in
          let (old, there) = told_store roster 1 all states told place one here in
          let (mine, at, is_told, same) = one_settled place old there in
          let both : Some mine ≡ Some one = sym at ∙ here in
          let its : mine ≡ one = cc in (
            state_after old (acts_at (1 + place) those),
            got_settled 1 those states place old there,
            subst (λ t. IsToldOf (place + 1) (state_after old (acts_at (1 + place) those)) t) (ap (told_after all) its ∙ is)
                is_told,
          ));
    }
