-- What becomes of the stores that keep a tree, when a fileset moves.
use Rattle.std.specs.Prelude.{◌≡◌, ◌<◌, ℕ, ◌==◌, true, false, List, Some, Ok}
use Rattle.base_types.specs.declared.ids.HostId.{HostId}
use Rattle.base_types.specs.declared.ids.ServerId.{ServerId}
use Rattle.tree_calls.specs.declared.call.Call.TheVariants.{MoveFileset}
use Rattle.tree_calls.specs.declared.entry.Entry.TheVariants.{Left as LeftEntry}
use Rattle.tree_calls.specs.declared.reply.Reply.TheVariants.{Ok as Accepted}
use Rattle.tree_calls.specs.declared.ship.Mover.{Mover}
use Rattle.tree_filesets.specs.declared.fileset.Fileset.{Fileset}
use Rattle.tree_answers.specs.declared.tree.Tree.{Tree}
use Rattle.tree_answers.specs.Answers.{answer_to}
use Rattle.tree_answers.specs.Finding.{fileset_named}
use Rattle.tree_answers.specs.Histories.{after_entry}
use Rattle.tree_answers.specs.WellFormed.{IsWellFormed}
use Rattle.store_records.specs.Stored.{IsStorable}
use Rattle.message_types.specs.Soundness.{Each}
use Rattle.store_acts.specs.Acts.{act_done, state_after}
use Rattle.store_acts.specs.Moving.{taken_from}
use Rattle.store_acts.specs.Sound.{AllFit, IsAct}
use Rattle.store_acts.specs.declared.act.Act.{Act}
use Rattle.store_acts.specs.declared.act.Act.TheVariants.{Leave, Left}
use Rattle.store_laws.specs.Moves.{all_parts, are_tellable}
use Rattle.store_state.specs.Outcomes.{now_done}
use Rattle.store_state.specs.State.{is_of, held_so}
use Rattle.store_state.specs.declared.state.Holding.{Holding}
use Rattle.store_state.specs.declared.state.StoreState.{StoreState}
use Rattle.store_laws.specs.Calls.{DoesKeep}
use Rattle.store_laws.specs.TreeKeeping.{KeepsOf}

-- A host has a fileset moved, and that is accepted.
pub record Moves (tree : Tree) (host : HostId) (server : ServerId) (name : List ℕ) (to : ServerId) (fileset : Fileset) :
    Type 0 where
  pub led : fileset_named tree server name ≡ Ok fileset
  pub accepted : (answer_to tree host (MoveFileset server name to)).reply ≡ Accepted

-- the tree once the server that the fileset left has learnt that it arrived
abbrev pub after_move : Tree → HostId → ServerId → List ℕ → ServerId → Fileset → Tree
after_move tree host server name to fileset =
    after_entry (answer_to tree host (MoveFileset server name to)).tree (LeftEntry fileset.server fileset.id)

-- a store in which a fileset is leaving
abbrev pub leaving_state : StoreState → Fileset → ServerId → StoreState
leaving_state state fileset to = (act_done state (Leave fileset.id to)).state

-- A move that is accepted, and then the `Left` of the server that the fileset leaves.
pub record MovesAreKept : Type 0 where
  -- that server's store lets it go: it does `Leave`, and once it has arrived `Left`
  pub from : (tree : Tree) (state : StoreState) (host : HostId) (server : ServerId) (name : List ℕ) (to : ServerId)
      (fileset : Fileset)
      → IsWellFormed tree → KeepsOf tree state → Moves tree host server name to fileset
      → fileset.server ≡ state.server → IsAct state.roster state.server (Leave fileset.id to)
      → ((act_done state (Leave fileset.id to)).done ≡ now_done Accepted)
      × DoesKeep (after_move tree host server name to fileset) (leaving_state state fileset to) (Left fileset.id)
  -- the store of the server that it arrives at has room for it, and takes all its parts as the other one tells them,
  -- under a ship number that is new; what they leave is a record that a disk can have
  pub to : (tree : Tree) (other state : StoreState) (host : HostId) (server : ServerId) (name : List ℕ)
      (fileset : Fileset) (holding : Holding) (ship : ℕ) (mover : Mover)
      → IsWellFormed tree → KeepsOf tree other → KeepsOf tree state → Moves tree host server name state.server fileset
      → fileset.server ≡ other.server
      → held_so (is_of fileset.id) (leaving_state other fileset state.server).slots ≡ Some holding
      → are_tellable fileset.anodes ≡ true → (taken_from state other.server).ship < ship
      → IsStorable (state_after state (all_parts holding other.server ship mover))
      → KeepsOf (after_move tree host server name state.server fileset)
      (state_after state (all_parts holding other.server ship mover))
  -- (acts that fit leave a record that a disk can have)
  pub fit : (state : StoreState) (acts : List Act) → IsStorable state
      → Each (IsAct state.roster state.server) acts → AllFit state acts → IsStorable (state_after state acts)
  -- and each other store keeps its part as it is
  pub others : (tree : Tree) (state : StoreState) (host : HostId) (server : ServerId) (name : List ℕ) (to : ServerId)
      (fileset : Fileset)
      → IsWellFormed tree → KeepsOf tree state → Moves tree host server name to fileset
      → (fileset.server.0 == state.server.0) ≡ false → (to.0 == state.server.0) ≡ false
      → KeepsOf (after_move tree host server name to fileset) state
