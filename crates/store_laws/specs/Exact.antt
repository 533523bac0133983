-- What a store has that keeps its part of a tree.
use Rattle.std.specs.Prelude.{◌≡◌, ◌==◌, true, List, length, Option, filter, option_and_then, IsPermutation}
use Rattle.std.specs.List.{filter_map, list_all}
use Rattle.base_types.specs.declared.ids.ServerId.{ServerId}
use Rattle.tree_calls.specs.Limits.{keeps_limits}
use Rattle.tree_calls.specs.declared.roster.Roster.{Roster}
use Rattle.tree_filesets.specs.WellFormed.{is_at_rest}
use Rattle.store_memory.specs.Reading.{filesets_kept}
use Rattle.tree_answers.specs.declared.tree.Away.{Away}
use Rattle.tree_answers.specs.declared.tree.Tree.{Tree}
use Rattle.tree_answers.specs.Founding.{new_tree}
use Rattle.tree_answers.specs.WellFormed.{IsWellFormed, is_declared}
use Rattle.store_laws.specs.Founds.{HaveRoom}
use Rattle.store_state.specs.Capacity.{capacity_of}
use Rattle.store_state.specs.State.{new_state}
use Rattle.store_state.specs.declared.state.Holding.{Holding}
use Rattle.store_state.specs.declared.state.StoreState.{StoreState}
use Rattle.store_laws.specs.TreeKeeping.{if_gone, KeepsOf}

-- the records of those that have left a store
abbrev pub records_kept : ServerId → List (Option Holding) → List Away
records_kept server slots = filter_map (λ slot. option_and_then (if_gone server) slot) slots

-- It has just the filesets that are at its server, each once, and the records of just those that moved away. It has its
-- server's room for further ones: the same names are taken, it is as full, and has promised as much.
pub record HasExactly (tree : Tree) (state : StoreState) : Type 0 where
  pub filesets : IsPermutation (filesets_kept state.slots)
      (filter (λ fileset. fileset.server.0 == state.server.0) tree.filesets)
  pub records : IsPermutation (records_kept state.server state.slots)
      (filter (λ away. away.server.0 == state.server.0) tree.away)
  pub room : HaveRoom tree state

pub record StoresKeepExactly : Type 0 where
  pub exactly : (tree : Tree) (state : StoreState) → IsWellFormed tree → KeepsOf tree state → HasExactly tree state
  -- where the store of each server that is there keeps its part, nothing in the tree is unsaved
  pub rest : (tree : Tree) (stores : ServerId → StoreState) → IsWellFormed tree
      → ((server : ServerId) → is_declared (length tree.servers) server ≡ true
      → ((stores server).server ≡ server) × KeepsOf tree (stores server))
      → list_all is_at_rest tree.filesets ≡ true
  -- a new store keeps its part of a new tree
  pub new : (roster : Roster) (server : ServerId) → keeps_limits roster ≡ true
      → is_declared (length roster.capacity) server ≡ true
      → KeepsOf (new_tree roster) (new_state server (capacity_of roster server) roster)
