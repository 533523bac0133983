-- What a server may have.
use Rattle.std.specs.Prelude.{◌≡◌, ◌≤◌, ◌+◌, ℕ, true, slice_get, Some}
use Rattle.base_types.specs.declared.ids.ServerId.{ServerId}
use Rattle.base_types.specs.declared.limits.TheConstants.{FILESETS_MAX}
use Rattle.tree_calls.specs.Limits.{is_between}
use Rattle.tree_answers.specs.Founding.{count_at, promised}
use Rattle.tree_answers.specs.declared.tree.ServerRoom.{ServerRoom}
use Rattle.tree_answers.specs.declared.tree.Tree.{Tree}

-- A server with this room has not too many filesets and records, and has promised to its filesets no more blocks than
-- it offers; the number of its next fileset is in range.
pub record IsWithin (tree : Tree) (server : ServerId) (room : ServerRoom) : Type 0 where
  pub few : count_at tree server ≤ FILESETS_MAX
  pub blocks : promised server tree.filesets ≤ room.capacity
  pub number : is_between 1 65536 room.next ≡ true

-- so it is of each server
abbrev pub AreWithin : Tree → Type 0
AreWithin tree = (k : ℕ) (room : ServerRoom)
    → slice_get tree.servers k ≡ Some room → IsWithin tree (record { 0 = k + 1 }) room
