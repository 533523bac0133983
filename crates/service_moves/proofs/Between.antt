-- A ship goes between two of the stores.
use Rattle.std.proofs.Common.{◌≡◌, ◌≢◌, ◌≤◌, ◌<◌, ◌⊎◌, ℕ, zero, suc, ◌+◌, ◌-◌, ◌*◌, List, [], ◌∷◌, ◌++◌, length, set, get_or, inl, inr, refl, sym, subst, ◌∙◌, ap, arith}
use Rattle.std.specs.Prelude.{slice_get, Some, Result, OnOk}
use Rattle.base_types.specs.declared.ids.ServerId.{ServerId}
use Rattle.tree_calls.specs.declared.roster.Roster.{Roster}
use Rattle.tree_calls.specs.declared.ship.Mover.{Mover}
use Rattle.store_memory.specs.Reading.{shipped}
use Rattle.store_memory.specs.Sound.{IsMover}
use Rattle.store_memory.specs.Views.{View}
use Rattle.message_types.specs.Soundness.{IsServer}
use Rattle.store_acts.specs.Acts.{act_done, state_after}
use Rattle.store_acts.specs.Sound.{Fits}
use Rattle.store_acts.specs.declared.act.Act.TheVariants.{Left}
use Rattle.service_moves.specs.Again.{IsRepeatable}
use Rattle.service_moves.specs.Batches.{batch_wear}
use Rattle.store_laws.specs.Moves.{all_parts}
use Rattle.store_state.specs.declared.state.Holding.{Holding}
use Rattle.store_state.specs.declared.state.StoreState.{StoreState}
use Rattle.std.proofs.Common.{take}
use Rattle.service_moves.specs.Ships.{part_act, two_set, IsSent, MayMove, MaySend, MayTake}
use Rattle.service_moves.specs.Steps.{AllGoOn, StopsAmong, StopsAt}
use Rattle.service_moves.specs.Stores.{AreStores, IsStore, states_of}
use Rattle.service_moves.specs.declared.ships.Ship.{Ship}
use Rattle.service_moves.specs.declared.stopped.RunStopped.{RunStopped}
use Rattle.service_moves.proofs.Carried.{takes_next}
use Rattle.service_moves.proofs.Stores.{if_err_then, map_set, on_ok_then, set_beside, set_length, set_there, stops_among, stores_at, there_within, two_go}

-- one part more was taken
pub part_taken : (sender receiver now so_far next : StoreState) (holding : Holding) (ship : Ship) (mover : Mover) (at : ℕ) → MaySend sender receiver holding ship mover → at ≤ ship.objects → now ≡ sender
    → so_far ≡ state_after receiver (take at (all_parts holding ship.from ship.number mover))
    → (Fits so_far (part_act ship at (shipped now ship.fileset at mover)) → IsRepeatable so_far (part_act ship at (shipped now ship.fileset at mover))
    → next ≡ (act_done so_far (part_act ship at (shipped now ship.fileset at mover))).state)
    → next ≡ state_after receiver (take (at + 1) (all_parts holding ship.from ship.number mover))
part_taken sender receiver now so_far next holding ship mover at m low e f step =
    let n = takes_next sender receiver holding ship mover at m low in
    let was = state_after receiver (take at (all_parts holding ship.from ship.number mover)) in
    let act = part_act ship at (shipped sender ship.fileset at mover) in
    let told = part_act ship at (shipped now ship.fileset at mover) in
    let same : told ≡ act = ap (λ s. part_act ship at (shipped s ship.fileset at mover)) e in
    let fits : Fits so_far told = subst (λ s. Fits s told) (sym f) (subst (λ a. Fits was a) (sym same) n.fits) in
    let again : IsRepeatable so_far told = subst (λ s. IsRepeatable s told) (sym f) (subst (λ a. IsRepeatable was a) (sym same) n.again) in
    step fits again ∙ ap (λ s. (act_done s told).state) f ∙ ap (λ a. (act_done was a).state) same ∙ sym n.more

-- elements of a slice that was split

pub low_there : {A : Type 0} (stores low high : List A) (k : ℕ) (d : A) → stores ≡ low ++ high → k < length low → slice_get stores k ≡ Some (get_or low k d)
low_there stores low high k d e h = ap (λ xs. slice_get xs k) e ∙ by low high k d h
  where
    by : {A : Type 0} (low high : List A) (k : ℕ) (d : A) → k < length low → slice_get (low ++ high) k ≡ Some (get_or low k d)
    by [] high k d h = absurd (omega (arith, h))
    by (x ∷ low) high zero d h = refl
    by (x ∷ low) high (suc k) d h = by low high k d (omega (arith, h))

pub high_there : {A : Type 0} (stores low high : List A) (n : ℕ) (d : A) → stores ≡ low ++ high → length low ≡ n → 0 < length high → slice_get stores n ≡ Some (get_or high 0 d)
high_there stores low high n d e l h = ap (λ xs. slice_get xs n) e ∙ by low high n d l h
  where
    by : {A : Type 0} (low high : List A) (n : ℕ) (d : A) → length low ≡ n → 0 < length high → slice_get (low ++ high) n ≡ Some (get_or high 0 d)
    by [] [] zero d l h = absurd (omega (arith, h))
    by [] (y ∷ high) zero d l h = refl
    by [] high (suc n) d l h = absurd (omega (arith, l))
    by (x ∷ low) high zero d l h = absurd (omega (arith, l))
    by (x ∷ low) high (suc n) d l h = by low high n d (omega (arith, l)) h

joined : {A : Type 0} (low high : List A) (t : ℕ) (v : A) → length low ≡ t → 0 < length high → low ++ set high 0 v ≡ set (low ++ high) t v
joined [] high zero v e b = refl
joined [] high (suc t) v e b = absurd (omega (arith, e))
joined (x ∷ low) high zero v e b = absurd (omega (arith, e))
joined (x ∷ low) high (suc t) v e b = ap (λ ys. x ∷ ys) (joined low high t v (omega (arith, e)) b)

low_high : {A : Type 0} (low high : List A) (f t : ℕ) (u v : A) → length low ≡ t → f < t → 0 < length high → set low f u ++ set high 0 v ≡ set (set (low ++ high) f u) t v
low_high [] high f t u v e a b = absurd (omega (arith, e, a))
low_high (x ∷ low) high f zero u v e a b = absurd (omega (arith, a))
low_high (x ∷ low) high zero (suc t) u v e a b = ap (λ ys. u ∷ ys) (joined low high t v (omega (arith, e)) b)
low_high (x ∷ low) high (suc f) (suc t) u v e a b = ap (λ ys. x ∷ ys) (low_high low high f t u v (omega (arith, e)) (omega (arith, a)) b)

pub both_set : {A : Type 0} (stores low high : List A) (f t : ℕ) (u v : A) → stores ≡ low ++ high → length low ≡ t → f < t → 0 < length high
    → set low f u ++ set high 0 v ≡ set (set stores f u) t v
both_set stores low high f t u v s e a b = low_high low high f t u v e a b ∙ ap (λ xs. set (set xs f u) t v) (sym s)

pub set_swap : {A : Type 0} (xs : List A) (f t : ℕ) (u v : A) → f ≢ t → set (set xs t v) f u ≡ set (set xs f u) t v
set_swap [] f t u v h = refl
set_swap (x ∷ xs) zero zero u v h = absurd (h refl)
set_swap (x ∷ xs) zero (suc t) u v h = refl
set_swap (x ∷ xs) (suc f) zero u v h = refl
set_swap (x ∷ xs) (suc f) (suc t) u v h = ap (λ ys. x ∷ ys) (set_swap xs f t u v (λ e. h (ap (λ n. suc n) e)))

-- what two servers' stores are
pub server_store : {S : Type 0} (view : S → View) (roster : Roster) (worn : ℕ) (stores : List S) (server : ServerId) → AreStores view roster worn 1 stores → IsServer roster server
    → (store : S) → slice_get stores (server.0 - 1) ≡ Some store → IsStore roster worn server.0 (view store)
server_store view roster worn stores server are is store e =
    let n : 1 + (server.0 - 1) ≡ server.0 = (let f = is.first in omega (arith, f)) in
    subst (λ m. IsStore roster worn m (view store)) n (stores_at view roster worn 1 stores are (server.0 - 1) store e)

pub may_take : {S : Type 0} (view : S → View) (worn : ℕ) (stores : List S) (ship : Ship) (mover : Mover) → MayMove view worn stores ship.from ship.to mover → (sender receiver : S)
    → slice_get stores (ship.from.0 - 1) ≡ Some sender → slice_get stores (ship.to.0 - 1) ≡ Some receiver → MayTake (view sender) (view receiver) worn ship mover
may_take view worn stores ship mover m sender receiver one two =
    let a = server_store view m.roster worn stores ship.from m.are m.is_from sender one in
    let b = server_store view m.roster worn stores ship.to m.are m.is_to receiver two in
    record {
      roster = b.roster_is ∙ sym a.roster_is;
      from = subst (λ r. IsServer r ship.from) (sym a.roster_is) m.is_from;
      is_mover = subst (λ r. IsMover r mover) (sym a.roster_is) m.is_mover;
      sends = a.ready;
      takes = b.ready;
      first_mends = a.mendable;
      second_mends = b.mendable;
      first = a.wear;
      second = b.wear;
    }

-- two places are two
pub two_places : (from to : ServerId) → 1 ≤ from.0 → 1 ≤ to.0 → from.0 ≢ to.0 → from.0 - 1 ≢ to.0 - 1
two_places from to a b h e = h (omega (arith, a, b, e))

-- what is sent leaves of all
pub sent_goes : {S : Type 0} (view : S → View) (tells : Type 0) (old : List S) (result : Result (Unit {0}) RunStopped) (ship : Ship) (mover : Mover) (sender receiver sent taken : S)
    → 1 ≤ ship.from.0 → 1 ≤ ship.to.0 → ship.from.0 - 1 ≢ ship.to.0 - 1 → ((j : ℕ) (store : S) → slice_get old j ≡ Some store → (view store).mendable)
    → slice_get old (ship.from.0 - 1) ≡ Some sender → slice_get old (ship.to.0 - 1) ≡ Some receiver → IsSent tells view result ship mover sender receiver sent taken
    → AllGoOn view (66 * batch_wear) result old (two_set old (ship.from.0 - 1) sent (ship.to.0 - 1) taken)
sent_goes view tells old result ship mover sender receiver sent taken a b apart mend one two s =
    two_go view (66 * batch_wear) result old f t sender receiver sent taken apart mend one two s.first s.second
    (if_err_then result _ (StopsAmong view old (two_set old f sent t taken)) among s.stopped)
  where
    f : ℕ
    f = ship.from.0 - 1

    t : ℕ
    t = ship.to.0 - 1

    sent_there : slice_get (two_set old f sent t taken) f ≡ Some sent
    sent_there = set_beside (set old f sent) t f taken apart ∙ set_there old f sent (there_within old f sender one)

    taken_there : slice_get (two_set old f sent t taken) t ≡ Some taken
    taken_there = set_there (set old f sent) t taken (let w = there_within old t receiver two in let l = set_length old f sent in omega (arith, w, l))

    among : (stopped : RunStopped) → StopsAt ship.from (view sender) (view sent) stopped ⊎ StopsAt ship.to (view receiver) (view taken) stopped
        → StopsAmong view old (two_set old f sent t taken) stopped
    among stopped (inl at) = stops_among view old (two_set old f sent t taken) ship.from f sender sent stopped (omega (arith, a)) one sent_there at
    among stopped (inr at) = stops_among view old (two_set old f sent t taken) ship.to t receiver taken stopped (omega (arith, b)) two taken_there at

pub two_states : {S : Type 0} (view : S → View) (old : List S) (f t : ℕ) (sent taken : S) (x y : StoreState) → (view sent).state ≡ x → (view taken).state ≡ y
    → states_of view (two_set old f sent t taken) ≡ two_set (states_of view old) f x t y
two_states view old f t sent taken x y a b =
    map_set (λ store. (view store).state) (set old f sent) t taken
    ∙ ap (λ xs. set xs t (view taken).state) (map_set (λ store. (view store).state) old f sent)
    ∙ ap (λ s. set (set (states_of view old) f s) t (view taken).state) a
    ∙ ap (λ s. set (set (states_of view old) f x) t s) b

pub sent_states : {S : Type 0} (view : S → View) (tells : Type 0) (old : List S) (result : Result (Unit {0}) RunStopped) (ship : Ship) (mover : Mover) (sender receiver sent taken : S)
    → IsSent tells view result ship mover sender receiver sent taken → tells → (first second : S) (holding : Holding) → slice_get old (ship.from.0 - 1) ≡ Some sender
    → slice_get old (ship.to.0 - 1) ≡ Some receiver → slice_get old (ship.from.0 - 1) ≡ Some first → slice_get old (ship.to.0 - 1) ≡ Some second
    → MaySend (view first).state (view second).state holding ship mover
    → OnOk result (states_of view (two_set old (ship.from.0 - 1) sent (ship.to.0 - 1) taken)
    ≡ two_set (states_of view old) (ship.from.0 - 1) (act_done (view first).state (Left ship.fileset)).state (ship.to.0 - 1)
    (state_after (view second).state (all_parts holding ship.from ship.number mover)))
sent_states view tells old result ship mover sender receiver sent taken s t first second holding a b c d m =
    let p : Some first ≡ Some sender = sym c ∙ a in
    let q : Some second ≡ Some receiver = sym d ∙ b in
    let one : first ≡ sender = cc in
    let two : second ≡ receiver = cc in
    let may = subst (λ x. MaySend (view x).state (view receiver).state holding ship mover) one (subst (λ x. MaySend (view first).state (view x).state holding ship mover) two m) in
    on_ok_then result _ _ (λ e.
    two_states view old (ship.from.0 - 1) (ship.to.0 - 1) sent taken _ _
    (e.0 ∙ ap (λ x. (act_done (view x).state (Left ship.fileset)).state) (sym one))
    (e.1 ∙ ap (λ x. state_after (view x).state (all_parts holding ship.from ship.number mover)) (sym two)))
    (s.states t holding may)
