-- What each act leaves of a server's store, and of what the server keeps by the rules.
use Rattle.std.specs.Prelude.{List, Option, Some, [], false, ℕ, ◌≡◌}
use Rattle.base_types.specs.declared.ids.Fid.{Fid}
use Rattle.base_types.specs.declared.ids.FilesetId.{FilesetId}
use Rattle.base_types.specs.declared.ids.HostId.{HostId}
use Rattle.tree_calls.specs.declared.call.Call.{Call}
use Rattle.tree_calls.specs.declared.part.Piece.{Piece}
use Rattle.tree_calls.specs.declared.reply.Refusal.{Refusal}
use Rattle.tree_answers.specs.Answers.{answer_to}
use Rattle.tree_answers.specs.declared.tree.Tree.{Tree}
use Rattle.need_laws.specs.Known.{IsAt}
use Rattle.store_acts.specs.Acts.{act_done}
use Rattle.store_acts.specs.Sound.{HasName, IsAct}
use Rattle.store_acts.specs.declared.act.Act.TheVariants.{Boot, Do, Epoch, Give, Host, Refuse}
use Rattle.store_state.specs.Rows.{numbered_id, numbered_name}
use Rattle.store_state.specs.declared.state.HostState.{HostState}
use Rattle.store_state.specs.declared.state.StoreState.{StoreState}
use Rattle.store_laws.specs.Calls.{IsNewChange}
use Rattle.store_laws.specs.KeptGives.{IsNewGive}
use Rattle.store_laws.specs.TreeKeeping.{KeepsOf}
use Rattle.run_contents.specs.Gives.{IsKept}
use Rattle.run_rules.specs.Kept.{filesets_first, is_refusal, tree_given}
use Rattle.run_stores.specs.Keeping.{StandsFor}
use Rattle.message_types.specs.Soundness.{PiecesRise}

-- A store stands for what its server keeps at the start, and after each act.
pub record ActsStand : Type 0 where
  pub first : (start : Tree) (state : StoreState) → IsKept start → start.away ≡ [] → KeepsOf start state
      → StandsFor (filesets_first start state.server) state
  -- once the run has begun in it
  pub booted : (start : Tree) (state : StoreState) → IsKept start → start.away ≡ [] → KeepsOf start state
      → StandsFor (filesets_first start state.server) (act_done state Boot).state
  pub given : (tree : Tree) (state : StoreState) (host : HostId) (number : ℕ) (fid : Fid) (pieces : List Piece)
      (given : Option ℕ)
      → StandsFor tree state → IsNewGive state fid.fileset host number
      → PiecesRise pieces → IsAct state.roster state.server (Give host number fid pieces given)
      → StandsFor (tree_given tree fid pieces given)
      (act_done state (Give host number fid pieces given)).state
  pub refused : (tree : Tree) (state : StoreState) (host : HostId) (id : FilesetId) (number : ℕ) (refusal : Refusal)
      → StandsFor tree state → IsAct state.roster state.server (Refuse host id number refusal)
      → StandsFor tree (act_done state (Refuse host id number refusal)).state
  pub changed : (tree : Tree) (state : StoreState) (host : HostId) (number : ℕ) (call : Call) (id : FilesetId)
      → StandsFor tree state → IsAt state.server call → IsAct state.roster state.server (Do host number call)
      → HasName call → numbered_id state (numbered_name call) ≡ Some id → IsNewChange state id host number
      → is_refusal (answer_to tree host call).reply ≡ false
      → StandsFor (answer_to tree host call).tree (act_done state (Do host number call)).state
  -- what tells of epochs and hosts
  pub epoch : (tree : Tree) (state : StoreState) → StandsFor tree state → StandsFor tree (act_done state Epoch).state
  pub host : (tree : Tree) (state : StoreState) (host : HostId) (known : HostState)
      → StandsFor tree state → IsAct state.roster state.server (Host host known)
      → StandsFor tree (act_done state (Host host known)).state
