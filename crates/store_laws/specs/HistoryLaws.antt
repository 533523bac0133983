-- What becomes of the store of a server that does the acts of a history.
use Rattle.std.specs.Prelude.{◌≡◌, ◌≤◌, ◌<◌, ℕ, true, List, None, Some, IfSome}
use Rattle.std.specs.List.{list_all}
use Rattle.base_types.specs.declared.ids.HostId.{HostId}
use Rattle.base_types.specs.declared.limits.TheConstants.{FILE_BYTES_MAX}
use Rattle.tree_calls.specs.declared.entry.Entry.{Entry}
use Rattle.tree_calls.specs.declared.entry.Entry.TheVariants.{Call as Called, Stored, Down, Left}
use Rattle.tree_calls.specs.declared.reply.Reply.TheVariants.{Ok as Accepted}
use Rattle.tree_calls.specs.declared.roster.Roster.{Roster}
use Rattle.tree_calls.specs.declared.ship.Record.{Record}
use Rattle.tree_answers.specs.declared.tree.Tree.{Tree}
use Rattle.tree_answers.specs.Histories.{IsHistory, after_history}
use Rattle.tree_answers.specs.WellFormed.{IsWellFormed}
use Rattle.message_types.specs.Soundness.{Each, IsHost, IsCall}
use Rattle.store_acts.specs.Acts.{act_done, dones_of, state_after}
use Rattle.store_acts.specs.Sound.{AllFit, HasName, IsAct}
use Rattle.store_acts.specs.declared.act.Act.{Act}
use Rattle.store_acts.specs.declared.act.Act.TheVariants.{Boot}
use Rattle.store_state.specs.Outcomes.{now_done}
use Rattle.store_state.specs.State.{held_at, record_of}
use Rattle.store_state.specs.declared.state.Holding.{Holding}
use Rattle.store_state.specs.declared.state.StoreState.{StoreState}
use Rattle.store_laws.specs.Calls.{DoesKeep}
use Rattle.store_laws.specs.TreeKeeping.{KeepsOf}
use Rattle.store_laws.specs.Acts.{acts_of}
use Rattle.store_laws.specs.Shape.{are_numbered, number_after, moves_none, rests, stores_stand}

-- what was decided and applied of each host has a number below that of its next call
abbrev pub AreBelow : (HostId → ℕ) → List Record → Type 0
AreBelow next records =
    (host : HostId) → ((record_of records host).change < next host) × ((record_of records host).give < next host)

-- in a store on each fileset, and on filesets themselves
pub record IsBehind (next : HostId → ℕ) (state : StoreState) : Type 0 where
  pub own : AreBelow next state.records
  pub held : (slot : ℕ) (holding : Holding) → held_at state.slots slot ≡ Some holding → AreBelow next holding.records

-- an entry whose host is declared, and whose call may be asked or whose spans and length are within a file's limit
abbrev pub IsGiven : Roster → Entry → Type 0
IsGiven roster (Called host k call reply) = IsHost roster host × IsCall roster call × HasName call
IsGiven roster (Stored host fid spans len) =
    IsHost roster host × Each (λ span. (span.from ≤ span.to) × (span.to ≤ FILE_BYTES_MAX)) spans
    × IfSome len (λ n. n ≤ FILE_BYTES_MAX)
IsGiven roster (Down host server) = Unit {0}
IsGiven roster (Left server id) = Unit {0}

-- A history that may happen from a tree at rest on: hosts store at once what they wrote, number their calls from these
-- numbers on, and move no fileset.
pub record Happens (next : HostId → ℕ) (start : Tree) (history : List Entry) : Type 0 where
  pub formed : IsWellFormed start
  pub rest : rests start ≡ true
  pub legal : IsHistory start history
  pub stores : stores_stand None start history ≡ true
  pub numbered : (host : HostId) → are_numbered host (next host) history ≡ true
  pub given : Each (IsGiven start.roster) history
  pub stays : list_all moves_none history ≡ true

-- A store does some acts: a store may be given each, and each fits; it does each now and with success, keeps its part
-- of a tree then, and all numbers are below those of the hosts' next calls.
pub record Does (next : HostId → ℕ) (tree : Tree) (state : StoreState) (acts : List Act) : Type 0 where
  pub keeps : KeepsOf tree (state_after state acts)
  pub each : Each (IsAct state.roster state.server) acts
  pub fit : AllFit state acts
  pub done : Each (λ done. done ≡ now_done Accepted) (dones_of state acts)
  pub behind : IsBehind next (state_after state acts)

-- A store that keeps its part of the tree where a history starts does the acts of the history, and keeps its part of
-- the tree where it ends.
abbrev pub HistoriesAreKept : Type 0
HistoriesAreKept =
    (next : HostId → ℕ) (start : Tree) (history : List Entry) (state : StoreState) → Happens next start history
    → KeepsOf start state → IsBehind next state
    → Does (λ host. number_after host (next host) history) (after_history start history) state
    (acts_of state.server start None history)
