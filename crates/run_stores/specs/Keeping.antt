-- The store of a server, and what the server keeps by the rules of runs.
use Rattle.std.specs.List.{find, list_all}
use Rattle.std.specs.Prelude.{List, Option, Some, [], true, ℕ, ◌==◌, ◌≡◌}
use Rattle.base_types.specs.declared.ids.Fid.{Fid}
use Rattle.base_types.specs.declared.ids.FilesetId.{FilesetId}
use Rattle.base_types.specs.declared.ids.HostId.{HostId}
use Rattle.base_types.specs.declared.ids.ServerId.{ServerId}
use Rattle.tree_calls.specs.declared.part.Piece.{Piece}
use Rattle.tree_calls.specs.declared.reply.Refusal.{Refusal}
use Rattle.tree_calls.specs.declared.reply.Reply.TheVariants.{Ok as Accepted}
use Rattle.tree_filesets.specs.declared.fileset.Fileset.{Fileset}
use Rattle.tree_answers.specs.Finding.{has_id}
use Rattle.tree_answers.specs.WellFormed.{IsWellFormed}
use Rattle.tree_answers.specs.declared.tree.Tree.{Tree}
use Rattle.store_acts.specs.Acts.{act_done}
use Rattle.store_acts.specs.Sound.{IsAct}
use Rattle.store_acts.specs.declared.act.Act.TheVariants.{Give, Refuse}
use Rattle.store_state.specs.Outcomes.{now_done}
use Rattle.store_state.specs.declared.state.StoreState.{StoreState}
use Rattle.store_laws.specs.KeptGives.{IsNewGive}
use Rattle.store_laws.specs.TreeKeeping.{KeepsOf}
use Rattle.run_rules.specs.Kept.{filesets_first, tree_given}
use Rattle.message_types.specs.Soundness.{PiecesRise}

-- all filesets of a tree are at a server, and none moved away; nothing is in use
pub record IsOf (server : ServerId) (tree : Tree) : Type 0 where
  pub own : list_all (λ fileset. fileset.server.0 == server.0) tree.filesets ≡ true
  pub unmoved : tree.away ≡ []
  pub locks : tree.locks ≡ []
  pub opens : tree.opens ≡ []

-- A tree is what the server of a store keeps by the rules of runs, and the store keeps it.
pub record StandsFor (tree : Tree) (state : StoreState) : Type 0 where
  pub formed : IsWellFormed tree
  pub is_of : IsOf state.server tree
  pub keeps : KeepsOf tree state

-- A store that keeps its part of the start tree keeps what its server keeps at the start.
pub record FirstIsKept : Type 0 where
  pub is_of : (start : Tree) (server : ServerId) → start.away ≡ [] → IsOf server (filesets_first start server)
  pub keeps : (start : Tree) (state : StoreState) → IsWellFormed start → start.away ≡ [] → KeepsOf start state
      → KeepsOf (filesets_first start state.server) state

-- A give-back that is stored, whose pieces rise. Where the fileset isn't there nothing changes in either.
pub record GivesAreKept : Type 0 where
  pub is_of : (server : ServerId) (tree : Tree) (fid : Fid) (pieces : List Piece) (given : Option ℕ)
      → IsOf server tree → IsOf server (tree_given tree fid pieces given)
  pub keeps : (tree : Tree) (state : StoreState) (host : HostId) (number : ℕ) (fid : Fid) (pieces : List Piece)
      (given : Option ℕ)
      → StandsFor tree state → IsNewGive state fid.fileset host number
      → PiecesRise pieces → IsAct state.roster state.server (Give host number fid pieces given)
      → KeepsOf (tree_given tree fid pieces given) (act_done state (Give host number fid pieces given)).state
  -- of a fileset that is there it is done now
  pub done : (tree : Tree) (state : StoreState) (host : HostId) (number : ℕ) (fid : Fid) (pieces : List Piece)
      (given : Option ℕ) (fileset : Fileset)
      → StandsFor tree state → IsNewGive state fid.fileset host number
      → find (has_id fid.fileset) tree.filesets ≡ Some fileset
      → (act_done state (Give host number fid pieces given)).done ≡ now_done Accepted

-- A Change that is refused changes nothing that is kept, whatever its number.
abbrev pub RefusalsAreKept : Type 0
RefusalsAreKept =
    (tree : Tree) (state : StoreState) (host : HostId) (id : FilesetId) (number : ℕ) (refusal : Refusal)
    → KeepsOf tree state → IsAct state.roster state.server (Refuse host id number refusal)
    → KeepsOf tree (act_done state (Refuse host id number refusal)).state
