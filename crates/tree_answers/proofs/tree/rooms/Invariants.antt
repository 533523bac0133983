use Rattle.std.proofs.Common.{◌≡◌, ◌++◌, drop, map}
use Rattle.tree_answers.specs.Founding.{new_room}
use Rattle.tree_answers.proofs.tree.rooms.Given as goal

-- the rooms so far, and those that are left
abbrev pub invariant-loop-capacity : goal.invariant-loop-capacity
invariant-loop-capacity l = l.rooms ++ map new_room (drop l.capacity-index l.capacity-items) ≡ map new_room l.fn.capacity
