use Rattle.std.proofs.Common.{◌≡◌, ◌<◌, ◌+◌, ℕ, slice_get, Some}
use Rattle.tree_answers.specs.declared.tree.ServerRoom.{ServerRoom}
use Rattle.service_starts.specs.Rooms.{IsWithin}
use Rattle.service_starts.proofs.rooms.are_within.Given as goal

-- so it is of the servers that were looked at
abbrev pub invariant-loop-k : goal.invariant-loop-k
invariant-loop-k l = (at : ℕ) (room : ServerRoom) → at < l.k → slice_get l.tree.servers at ≡ Some room → IsWithin l.tree (record { 0 = at + 1 }) room
