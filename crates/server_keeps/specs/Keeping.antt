-- The store of a server, and what the server keeps by the rules.
use Rattle.std.specs.Prelude.{◌≡◌}
use Rattle.base_types.specs.declared.ids.ServerId.{ServerId}
use Rattle.tree_answers.specs.declared.tree.Tree.{Tree}
use Rattle.store_state.specs.declared.state.StoreState.{StoreState}
use Rattle.run_stores.specs.Keeping.{StandsFor}

-- a store is a server's, and stands for what the server keeps
pub record IsOwn (server : ServerId) (tree : Tree) (state : StoreState) : Type 0 where
  pub stands : StandsFor tree state
  pub server_is : state.server ≡ server
