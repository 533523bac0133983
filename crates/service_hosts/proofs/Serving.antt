-- Servers can begin a run over stores that keep their parts of the start tree.
use Rattle.std.proofs.Common.{◌≡◌, ℕ, zero, suc, ◌+◌, ◌-◌, ◌^◌, ◌<◌, ◌≤◌, ◌++◌, List, [], ◌∷◌, Some, get_or, length}
use Rattle.std.proofs.Common.{slice_get, take, refl, sym, ap, ◌∙◌, subst, arith}
use Rattle.std.specs.Prelude.{max, unwrap_or}
use Rattle.std.proofs.lemmas.List.{map-append, take_more}
use Rattle.base_types.specs.declared.ids.ServerId.{ServerId}
use Rattle.tree_answers.specs.declared.tree.Tree.{Tree}
use Rattle.tree_calls.specs.declared.roster.Roster.{Roster}
use Rattle.script_lines.specs.Sound.{IsSound}
use Rattle.script_lines.specs.declared.script.Script.{Script}
use Rattle.store_laws.specs.MoveKeeping.{KeepAll}
use Rattle.store_memory.specs.Views.{View}
use Rattle.run_rules.specs.Runs.{IsValid}
use Rattle.hub_drive.specs.Driving.{beginning}
use Rattle.server_node.specs.Standing.{CanServe}
use Rattle.server_node.proofs.Serving.{can_serve}
use Rattle.service_moves.specs.Stores.{AreStores, states_of}
use Rattle.service_stores.specs.Starting.{HaveBegun}
use Rattle.service_hosts.specs.Hosting.{epochs_of}
use Rattle.service_hosts.specs.Nodes.{CanAll}
use Rattle.service_hosts.proofs.Starting.{has_user}

-- the epoch of the store at a place
epoch_at : {S : Type 0} (view : S → View) (stores : List S) (k : ℕ) (s : S) → slice_get stores k ≡ Some s
    → slice_get (epochs_of view stores) k ≡ Some (view s).state.epoch
epoch_at view [] k s e = absurd (cc)
epoch_at view (x ∷ stores) zero s e = (let same : x ≡ s = cc in ap (λ z. Some (view z).state.epoch) same)
epoch_at view (x ∷ stores) (suc k) s e = epoch_at view stores k s e

state_at : {S : Type 0} (view : S → View) (stores : List S) (k : ℕ) (s : S) → slice_get stores k ≡ Some s
    → slice_get (states_of view stores) k ≡ Some (view s).state
state_at view [] k s e = absurd (cc)
state_at view (x ∷ stores) zero s e = (let same : x ≡ s = cc in ap (λ z. Some (view z).state) same)
state_at view (x ∷ stores) (suc k) s e = state_at view stores k s e

module _ {S : Type 0} (tells : Type 0) (view : S → View) (script : Script) (start : Tree) (s : IsSound script)
    (valid : IsValid start) (all : List S) (kept : tells → KeepAll (λ host. 1) start (states_of view all))
    (begun : tells → HaveBegun (states_of view all)) (epochs : List ℕ) (are : tells → epochs ≡ epochs_of view all) where
  -- the store of a server
  one : (k : ℕ) (store : S) → slice_get all k ≡ Some store → (view store).state.server ≡ record { 0 = k + 1 }
      → (view store).state.roster ≡ script.roster
      → CanServe tells (beginning script start epochs) (record { 0 = k + 1 }) (view store)
  one k store here server roster =
      (let mine = state_at view all k store here in
      can_serve tells (beginning script start epochs) (record { 0 = k + 1 }) (view store) s
      (λ host declared. has_user script.roster host s.roster declared) server roster
      (λ t.
      (let at : slice_get epochs k ≡ Some (view store).state.epoch =
      ap (λ (l : List ℕ). slice_get l k) (are t) ∙ epoch_at view all k store here in
      let some = begun t k (view store).state mine in
      let place : (k + 1) - 1 ≡ k = omega arith in
      sym (ap (λ i. max 1 (unwrap_or (slice_get epochs i) 1)) place ∙ ap (λ o. max 1 (unwrap_or o 1)) at
      ∙ greater (view store).state.epoch some)))
      valid (λ t. (kept t).keeps k (view store).state mine) (λ t. (kept t).behind k (view store).state mine))
    where
      greater : (n : ℕ) → 1 ≤ n → max 1 n ≡ n
      greater zero le = absurd (omega (arith, le))
      greater (suc n) le = omega arith

  -- those from a place on
  some : (stores : List S) (number k : ℕ) → number ≡ k + 1
      → ((i : ℕ) (store : S) → slice_get stores i ≡ Some store → slice_get all (k + i) ≡ Some store)
      → AreStores view script.roster (2 ^ 40) number stores
      → CanAll tells view (beginning script start epochs) number stores
  some [] number k e within stores_are = tt
  some (x ∷ stores) number k e within stores_are = (
    subst (λ (n : ℕ). (let server : ServerId = record { 0 = n } in
        CanServe tells (beginning script start epochs) server (view x))) (sym e)
        (one k x ((let same : k + 0 ≡ k = omega arith in ap (λ i. slice_get all i) (sym same)) ∙ within 0 x refl)
        (stores_are.0.server ∙ ap (λ (n : ℕ). (let server : ServerId = record { 0 = n } in server)) e)
        stores_are.0.roster_is),
    some stores (number + 1) (k + 1) (ap (λ n. n + 1) e)
        (λ i store at.
        (let same : (k + 1) + i ≡ k + suc i = omega arith in ap (λ j. slice_get all j) same) ∙ within (suc i) store at)
        stores_are.1,
  )

  pub can_all : AreStores view script.roster (2 ^ 40) 1 all → CanAll tells view (beginning script start epochs) 1 all
  can_all stores_are =
      some all 1 0 refl
      (λ i store at. (let same : 0 + i ≡ i = omega arith in ap (λ j. slice_get all j) same) ∙ at) stores_are

-- each of the stores may be asked
pub ready_there : {S : Type 0} (view : S → View) (roster : Roster) (worn number : ℕ) (stores : List S) (k : ℕ) (d : S)
    → AreStores view roster worn number stores → k < length stores → (view (get_or stores k d)).ready
ready_there view roster worn number [] k d are lt = absurd (omega (arith, lt))
ready_there view roster worn number (x ∷ stores) zero d are lt = are.0.ready
ready_there view roster worn number (x ∷ stores) (suc k) d are lt =
    ready_there view roster worn (number + 1) stores k d are.1 (omega (arith, lt))

-- one epoch more
pub epochs_more : {S : Type 0} (view : S → View) (stores : List S) (k : ℕ) (d : S) (epochs all : List ℕ)
    → k < length stores → epochs ≡ epochs_of view (take k stores)
    → all ≡ epochs ++ (view (get_or stores k d)).state.epoch ∷ [] → all ≡ epochs_of view (take (k + 1) stores)
epochs_more {S = S} view stores k d epochs all lt are more =
    more ∙ ap (λ (l : List ℕ). l ++ (view (get_or stores k d)).state.epoch ∷ []) are
    ∙ sym (ap (λ (l : List S). epochs_of view l) (take_more stores k d lt)
    ∙ map-append (λ (store : S). (view store).state.epoch) (take k stores) (get_or stores k d ∷ []))
