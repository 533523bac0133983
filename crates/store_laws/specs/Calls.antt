-- What becomes of the stores that keep a tree, when a host makes a call.
use Rattle.std.specs.Prelude.{◌≡◌, ◌<◌, ℕ, ◌==◌, false, List, slice_get, Option, Some, None, Ok}
use Rattle.base_types.specs.declared.ids.FilesetId.{FilesetId}
use Rattle.base_types.specs.declared.ids.HostId.{HostId}
use Rattle.base_types.specs.declared.ids.ServerId.{ServerId}
use Rattle.tree_calls.specs.declared.call.Call.{Call}
use Rattle.tree_calls.specs.declared.call.Call.TheVariants.{NewFileset, CloneFileset}
use Rattle.tree_calls.specs.declared.reply.Reply.TheVariants.{Ok as Accepted}
use Rattle.tree_calls.specs.declared.ship.Record.{Record}
use Rattle.tree_filesets.specs.declared.fileset.Fileset.{Fileset}
use Rattle.tree_answers.specs.declared.tree.Tree.{Tree}
use Rattle.tree_answers.specs.Answers.{deciding_place, answer_to}
use Rattle.tree_answers.specs.WellFormed.{IsWellFormed}
use Rattle.store_acts.specs.Acts.{act_done}
use Rattle.store_acts.specs.Sound.{IsAct, HasName}
use Rattle.store_acts.specs.declared.act.Act.{Act}
use Rattle.store_acts.specs.declared.act.Act.TheVariants.{Do}
use Rattle.store_state.specs.Outcomes.{now_done}
use Rattle.store_state.specs.Rows.{itself}
use Rattle.store_state.specs.State.{records_of, record_of}
use Rattle.store_state.specs.declared.state.StoreState.{StoreState}
use Rattle.store_laws.specs.TreeKeeping.{KeepsOf}

-- a number is above that of the last change of a host that a store has decided on a fileset, or, under the id of the
-- server itself, on filesets themselves
abbrev pub IsNewChange : StoreState → FilesetId → HostId → ℕ → Type 0
IsNewChange state id host number =
    (records : List Record) → records_of state id ≡ Some records → (record_of records host).change < number

-- a fileset decides a call alone
pub record IsDecidedBy (tree : Tree) (call : Call) (fileset : Fileset) : Type 0 where
  pub place : ℕ
  pub decides : deciding_place tree call ≡ Ok place
  pub there : slice_get tree.filesets place ≡ Some fileset

-- a store does an act now, with success, and keeps its part of a tree then
pub record DoesKeep (tree : Tree) (state : StoreState) (act : Act) : Type 0 where
  pub done : (act_done state act).done ≡ now_done Accepted
  pub keeps : KeepsOf tree (act_done state act).state

-- A call that one fileset decides, and that is accepted: the store of the server that the fileset is at does it, under
-- a number that is new, and each other store keeps its part as it is. A name may lead to the fileset from another
-- server.
pub record RowsAreKept : Type 0 where
  pub here : (tree : Tree) (state : StoreState) (host : HostId) (number : ℕ) (call : Call) (fileset : Fileset)
      → IsWellFormed tree → KeepsOf tree state → IsDecidedBy tree call fileset → fileset.server ≡ state.server
      → (answer_to tree host call).reply ≡ Accepted → IsNewChange state fileset.id host number
      → IsAct state.roster state.server (Do host number call)
      → DoesKeep (answer_to tree host call).tree state (Do host number call)
  pub elsewhere : (tree : Tree) (state : StoreState) (host : HostId) (call : Call) (fileset : Fileset)
      → IsWellFormed tree → KeepsOf tree state → IsDecidedBy tree call fileset
      → (fileset.server.0 == state.server.0) ≡ false → (answer_to tree host call).reply ≡ Accepted
      → KeepsOf (answer_to tree host call).tree state

-- the server at which a call makes a fileset
abbrev pub made_at : Call → Option ServerId
made_at (NewFileset server name objects owner) = Some server
made_at (CloneFileset server source new) = Some server
made_at _ = None

-- A new fileset, or a clone, that is accepted comes about in the store of its server as in the tree, under a number
-- that is new, and each other store keeps its part as it is.
pub record FoundsAreKept : Type 0 where
  pub here : (tree : Tree) (state : StoreState) (host : HostId) (number : ℕ) (call : Call)
      → IsWellFormed tree → KeepsOf tree state → made_at call ≡ Some state.server
      → (answer_to tree host call).reply ≡ Accepted → IsNewChange state itself host number
      → IsAct state.roster state.server (Do host number call) → HasName call
      → DoesKeep (answer_to tree host call).tree state (Do host number call)
  pub elsewhere : (tree : Tree) (state : StoreState) (host : HostId) (call : Call) (server : ServerId)
      → IsWellFormed tree → KeepsOf tree state → made_at call ≡ Some server
      → (server.0 == state.server.0) ≡ false → (answer_to tree host call).reply ≡ Accepted
      → KeepsOf (answer_to tree host call).tree state
