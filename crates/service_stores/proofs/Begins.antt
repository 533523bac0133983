-- Stores that have begun a run keep their part of the tree that it starts from.
use Rattle.std.proofs.Common.{◌≡◌, ℕ, zero, suc, ◌+◌, ◌-◌, ◌<◌, ◌≤◌, List, [], ◌∷◌, map, length, refl, sym, subst, ap, ◌∙◌, arith, add-zero}
use Rattle.std.specs.Prelude.{slice_get, Some}
use Rattle.tree_calls.specs.declared.roster.Roster.{Roster}
use Rattle.base_types.specs.declared.ids.ServerId.{ServerId}
use Rattle.store_memory.specs.Views.{View}
use Rattle.tree_answers.specs.declared.tree.Tree.{Tree}
use Rattle.service_starts.specs.FinishLaws.{AreToldOf, settled_stores}
use Rattle.service_starts.specs.UnderWay.{KeepUnderWay, freed}
use Rattle.service_starts.specs.declared.fitting.Settling.{Settling}
use Rattle.store_laws.proofs.Boots.{boots_are_kept}
use Rattle.store_laws.specs.HistoryLaws.{IsBehind}
use Rattle.store_laws.specs.MoveKeeping.{KeepAll}
use Rattle.store_records.specs.Stored.{IsStorable}
use Rattle.message_types.specs.Soundness.{Each}
use Rattle.store_acts.specs.Acts.{act_done, booted}
use Rattle.store_acts.specs.Moving.{taken_from}
use Rattle.store_acts.specs.declared.act.Act.TheVariants.{Boot}
use Rattle.service_moves.specs.Stores.{states_of, AreStores}
use Rattle.store_state.specs.declared.state.StoreState.{StoreState}
use Rattle.store_laws.specs.TreeKeeping.{KeepsOf}
use Rattle.service_stores.specs.Starting.{told_by}

boot_makes : (state : StoreState) → (act_done state Boot).state ≡ booted state
unfolding act_done
boot_makes state = refl

-- one that has begun the run
boot_keeps : (tree : Tree) (state : StoreState) → KeepsOf tree state → KeepsOf tree (booted state)
boot_keeps tree state h = subst (KeepsOf tree) (boot_makes state) (boots_are_kept.boot tree state h).keeps

boot_behind : (state : StoreState) → IsBehind (λ host. 1) (booted state)
boot_behind state = subst (IsBehind (λ host. 1)) (boot_makes state) (boots_are_kept.behind state)

boot_ships : (state : StoreState) (from : ServerId) → (taken_from (booted state) from).ship ≤ 0
boot_ships state from =
    let less : (taken_from (act_done state Boot).state from).ship < 1 = boots_are_kept.ships state from 1 (omega arith) in
    let same : (taken_from (act_done state Boot).state from).ship ≡ (taken_from (booted state) from).ship = ap (λ s. (taken_from s from).ship) (boot_makes state) in
    omega (arith, less, same)

before_boot : (states : List StoreState) (k : ℕ) (state : StoreState) → slice_get (map booted states) k ≡ Some state → (was : StoreState) × (slice_get states k ≡ Some was) × (state ≡ booted was)
before_boot [] k state e = cc
before_boot (was ∷ states) zero state e = (was, refl, cc)
before_boot (was ∷ states) (suc k) state e = before_boot states k state e

server_at : {S : Type 0} (view : S → View) (roster : Roster) (worn number : ℕ) (stores : List S) → AreStores view roster worn number stores → (k : ℕ) (state : StoreState) → slice_get (states_of view stores) k ≡ Some state
    → state.server ≡ record { 0 = number + k }
server_at view roster worn number [] h k state e = cc
server_at view roster worn number (store ∷ stores) h zero state e =
    let same : (view store).state ≡ state = cc in
    ap (λ s. s.server) (sym same) ∙ h.0.server ∙ ap (λ (n : ℕ). let server : ServerId = record { 0 = n } in server) (sym (add-zero number))
server_at view roster worn number (store ∷ stores) h (suc k) state e =
    let next : number + 1 + k ≡ number + suc k = omega arith in
    server_at view roster worn (number + 1) stores h.1 k state e ∙ ap (λ (n : ℕ). let server : ServerId = record { 0 = n } in server) next

count_states : {S : Type 0} (view : S → View) (stores : List S) → length (states_of view stores) ≡ length stores
count_states view [] = refl
count_states view (store ∷ stores) = ap suc (count_states view stores)

count_map : (states : List StoreState) → length (map booted states) ≡ length states
count_map [] = refl
count_map (state ∷ states) = ap suc (count_map states)

-- all of them
pub begins : {S : Type 0} (view : S → View) (tree : Tree) (roster : Roster) (worn : ℕ) (middle new : List S) → AreStores view roster worn 1 middle → length middle ≡ length tree.roster.capacity
    → ((k : ℕ) (state : StoreState) → slice_get (states_of view middle) k ≡ Some state → KeepsOf (freed tree) state) → states_of view new ≡ map booted (states_of view middle)
    → KeepAll (λ host. 1) (freed tree) (states_of view new)
begins view tree roster worn middle new stores size keeps are = subst (KeepAll (λ host. 1) (freed tree)) (sym are) (record {
  count = count_map (states_of view middle) ∙ count_states view middle ∙ size;
  own = own;
  keeps = kept;
  behind = behind;
  ships = ships;
})
  where
    own : (k : ℕ) (state : StoreState) → slice_get (map booted (states_of view middle)) k ≡ Some state → state.server ≡ record { 0 = k + 1 }
    own k state e =
        let was = before_boot (states_of view middle) k state e in
        let number : 1 + k ≡ k + 1 = omega arith in
        ap (λ s. s.server) was.2 ∙ server_at view roster worn 1 middle stores k was.0 was.1 ∙ ap (λ (n : ℕ). let server : ServerId = record { 0 = n } in server) number

    kept : (k : ℕ) (state : StoreState) → slice_get (map booted (states_of view middle)) k ≡ Some state → KeepsOf (freed tree) state
    kept k state e =
        let was = before_boot (states_of view middle) k state e in
        subst (KeepsOf (freed tree)) (sym was.2) (boot_keeps (freed tree) was.0 (keeps k was.0 was.1))

    behind : (k : ℕ) (state : StoreState) → slice_get (map booted (states_of view middle)) k ≡ Some state → IsBehind (λ host. 1) state
    behind k state e =
        let was = before_boot (states_of view middle) k state e in
        subst (IsBehind (λ host. 1)) (sym was.2) (boot_behind was.0)

    ships : (k j : ℕ) (state other : StoreState) → slice_get (map booted (states_of view middle)) k ≡ Some state → slice_get (map booted (states_of view middle)) j ≡ Some other → (taken_from state other.server).ship ≤ other.ship
    ships k j state other e f =
        let was = before_boot (states_of view middle) k state e in
        let none = boot_ships was.0 other.server in
        let same : (taken_from state other.server).ship ≡ (taken_from (booted was.0) other.server).ship = ap (λ s. (taken_from s other.server).ship) was.2 in
        omega (arith, none, same)

-- what stores of servers tell is told of them
pub told_are : {S : Type 0} (view : S → View) (roster : Roster) (worn number disks : ℕ) (stores : List S) → AreStores view roster worn number stores → Each IsStorable (states_of view stores)
    → AreToldOf roster number (told_by view disks stores) (states_of view stores)
told_are view roster worn number disks [] h storable = tt
told_are view roster worn number disks (store ∷ stores) h storable = (
  record { storable = storable.0; own = ap (λ server. server.0) h.0.server; kept = refl; slots = refl },
  h.0.roster_is,
  told_are view roster worn (number + 1) (disks - 1) stores h.1 storable.1,
)

-- as many as there are servers
count_settled : (number : ℕ) (settlings : List Settling) (states : List StoreState) → length (settled_stores number settlings states) ≡ length states
count_settled number settlings [] = refl
count_settled number settlings (state ∷ states) = ap suc (count_settled (number + 1) settlings states)

pub count_under : {S : Type 0} (view : S → View) (settlings : List Settling) (old middle : List S) (tree : Tree) → KeepUnderWay tree (settled_stores 1 settlings (states_of view old)) → length middle ≡ length old
    → length middle ≡ length tree.roster.capacity
count_under view settlings old middle tree h size = size ∙ sym (count_states view old) ∙ sym (count_settled 1 settlings (states_of view old)) ∙ h.count
