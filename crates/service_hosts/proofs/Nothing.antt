-- A run by hosts and servers in which nothing has happened yet.
use Rattle.std.proofs.Common.{◌≡◌, ℕ, zero, suc, ◌+◌, List, [], ◌∷◌, Err, Result, Some, length, slice_get}
use Rattle.std.proofs.Common.{inl, refl, ap, ◌∙◌, subst}
use Rattle.std.specs.Prelude.{true}
use Rattle.std.proofs.lemmas.List.{length-map}
use Rattle.base_types.specs.declared.ids.ServerId.{ServerId}
use Rattle.tree_answers.specs.declared.tree.Tree.{Tree}
use Rattle.tree_calls.specs.declared.roster.Roster.{Roster}
use Rattle.script_lines.specs.declared.script.Script.{Script}
use Rattle.store_laws.specs.MoveKeeping.{KeepAll}
use Rattle.store_laws.specs.TreeKeeping.{KeepsOf}
use Rattle.store_memory.specs.Views.{View}
use Rattle.store_state.specs.declared.state.StoreState.{StoreState}
use Rattle.run_rules.specs.Kept.{filesets_first}
use Rattle.run_rules.specs.Plans.{IsPlanned}
use Rattle.run_rules.specs.Runs.{IsDutiful, IsRun}
use Rattle.run_rules.specs.declared.journal.Journal.{Journal}
use Rattle.run_stores.proofs.Firsts.{first_is_kept}
use Rattle.hub_drive.specs.declared.driver.Waiting.{Waiting}
use Rattle.service_moves.specs.Stores.{AreStores, states_of}
use Rattle.service_plain.specs.Played.{IsStart}
use Rattle.service_hosts.specs.Homes.{may_host}
use Rattle.service_hosts.specs.Hosting.{HasHostedSoFar, HasKept, KeepSoFar, KeepsMore, epochs_of}
use Rattle.service_hosts.specs.declared.running.HostsStopped.{HostsStopped}
use Rattle.service_hosts.specs.declared.running.HostsStopped.TheVariants.{Stuck}
use Rattle.service_hosts.proofs.Starting.{is_valid}

-- its journal has no step
abbrev pub nothing : Tree → List ℕ → Journal
nothing start epochs = record { start = start ∷ []; epochs = epochs; steps = [] }

module _ (script : Script) (start : Tree) (s : IsStart script.roster start) (may : may_host script start ≡ true)
    (epochs : List ℕ) (count : length epochs ≡ length script.roster.capacity) where
  pub nothing_planned : IsPlanned script (nothing start epochs)
  nothing_planned = tt

  pub nothing_runs : IsRun script (nothing start epochs)
  nothing_runs = record {
    start = start;
    starts = refl;
    valid = is_valid script start s may;
    roster = s.roster;
    epochs = count;
    steps = tt;
  }

  pub nothing_due : IsDutiful script (nothing start epochs)
  nothing_due = record { start = start; starts = refl; steps = tt }

  -- a store that keeps its server's part of the start tree keeps what the server keeps then
  nothing_kept : (server : ServerId) (state : StoreState) → state.server ≡ server → KeepsOf start state
      → KeepsMore script start (nothing start epochs) server state
  nothing_kept server state is keeps =
      let valid = is_valid script start s may in
      record {
        more = [];
        rules = tt;
        keeps = subst (λ (v : ServerId). KeepsOf (filesets_first start v) state) is
            (first_is_kept.keeps start state valid.well_formed valid.unmoved keeps);
      }

module _ {S : Type 0} (view : S → View) where
  state_there : (stores : List S) (k : ℕ) (store : S) → slice_get stores k ≡ Some store
      → slice_get (states_of view stores) k ≡ Some (view store).state
  state_there [] k store e = absurd (cc)
  state_there (x ∷ stores) zero store e = (let same : x ≡ store = cc in ap (λ z. Some (view z).state) same)
  state_there (x ∷ stores) (suc k) store e = state_there stores k store e

  asked_there : (roster : Roster) (worn number : ℕ) (stores : List S) (k : ℕ) (store : S)
      → AreStores view roster worn number stores → slice_get stores k ≡ Some store → (view store).ready
  asked_there roster worn number [] k store are e = absurd (cc)
  asked_there roster worn number (x ∷ stores) zero store are e =
      (let same : x ≡ store = cc in subst (λ (z : S). (view z).ready) same are.0.ready)
  asked_there roster worn number (x ∷ stores) (suc k) store are e =
      asked_there roster worn (number + 1) stores k store are.1 e

  -- each of these stores that keep their parts of the start tree does so
  pub nothing_keep : (script : Script) (start : Tree) (s : IsStart script.roster start)
      (may : may_host script start ≡ true) (epochs : List ℕ) → length epochs ≡ length script.roster.capacity
      → (worn number : ℕ) (stores : List S) → AreStores view script.roster worn number stores
      → KeepAll (λ host. 1) start (states_of view stores) → (k : ℕ) (store : S) → slice_get stores k ≡ Some store
      → HasKept script start (nothing start epochs) (record { 0 = k + 1 }) (view store)
  nothing_keep script start s may epochs count worn number stores are kept k store here =
      let at = state_there stores k store here in
      inl (
        nothing_kept script start s may epochs count (record { 0 = k + 1 }) (view store).state
            (kept.own k (view store).state at) (kept.keeps k (view store).state at),
        asked_there script.roster worn number stores k store are here,
      )

  epochs_long : (stores : List S) → length (epochs_of view stores) ≡ length stores
  epochs_long stores = length-map stores (λ store. (view store).state.epoch)

  pub nothing_hosted : (tells : Type 0) (script : Script) (start : Tree) (stores : List S)
      → IsStart script.roster start → may_host script start ≡ true → length stores ≡ length script.roster.capacity
      → (worn number : ℕ) → AreStores view script.roster worn number stores
      → (tells → KeepAll (λ host. 1) start (states_of view stores)) → (result : Result Journal HostsStopped)
      → ((waiting : Waiting) → result ≡ Err (Stuck waiting)
      → KeepSoFar tells view start (nothing start (epochs_of view stores)) stores)
      → HasHostedSoFar tells view script start stores stores result (nothing start (epochs_of view stores))
  nothing_hosted tells script start stores s may count worn number are kept result rest =
      let epochs = epochs_of view stores in
      let long = epochs_long stores ∙ count in record {
        starts = refl;
        epochs = λ t. refl;
        planned = nothing_planned script start s may epochs long;
        run = λ t. nothing_runs script start s may epochs long;
        dutiful = λ t. nothing_due script start s may epochs long;
        kept = λ t. nothing_keep script start s may epochs long worn number stores are (kept t);
        rested = rest;
      }
