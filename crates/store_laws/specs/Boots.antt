-- What becomes of a store that keeps its part of a tree, when a run begins and while who is there changes.
use Rattle.std.specs.Prelude.{◌≤◌, ◌<◌, ℕ}
use Rattle.base_types.specs.declared.ids.FilesetId.{FilesetId}
use Rattle.base_types.specs.declared.ids.HostId.{HostId}
use Rattle.base_types.specs.declared.ids.ServerId.{ServerId}
use Rattle.tree_answers.specs.declared.tree.Tree.{Tree}
use Rattle.store_acts.specs.Acts.{act_done}
use Rattle.store_acts.specs.Moving.{taken_from}
use Rattle.store_acts.specs.Sound.{IsAct}
use Rattle.store_acts.specs.declared.act.Act.TheVariants.{Boot, Epoch, Host}
use Rattle.store_state.specs.declared.state.HostState.{HostState}
use Rattle.store_state.specs.declared.state.StoreState.{StoreState}
use Rattle.store_laws.specs.Calls.{DoesKeep, IsNewChange}
use Rattle.store_laws.specs.HistoryLaws.{IsBehind}
use Rattle.store_laws.specs.KeptGives.{IsNewGive}
use Rattle.store_laws.specs.TreeKeeping.{KeepsOf}

-- It keeps its part, whether a run begins, its server starts anew or something is learned of a host; and once a run
-- has begun, what it kept of requests is forgotten, so each number of a request or a ship is new, from 1 on.
pub record BootsAreKept : Type 0 where
  pub boot : (tree : Tree) (state : StoreState) → KeepsOf tree state → DoesKeep tree state Boot
  pub behind : (state : StoreState) → IsBehind (λ host. 1) (act_done state Boot).state
  pub epoch : (tree : Tree) (state : StoreState) → KeepsOf tree state → DoesKeep tree state Epoch
  pub host : (tree : Tree) (state : StoreState) (host : HostId) (known : HostState) → KeepsOf tree state
      → IsAct state.roster state.server (Host host known) → DoesKeep tree state (Host host known)
  pub changes : (state : StoreState) (id : FilesetId) (host : HostId) (number : ℕ) → 1 ≤ number
      → IsNewChange (act_done state Boot).state id host number
  pub gives : (state : StoreState) (id : FilesetId) (host : HostId) (number : ℕ) → 1 ≤ number
      → IsNewGive (act_done state Boot).state id host number
  pub ships : (state : StoreState) (from : ServerId) (ship : ℕ) → 1 ≤ ship
      → (taken_from (act_done state Boot).state from).ship < ship
