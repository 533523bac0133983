use Rattle.std.proofs.Common.{◌≡◌, ◌+◌, ◌++◌, drop}
use Rattle.tree_objects.specs.Positions.{written}
use Rattle.tree_objects.proofs.unsaved.push_bytes.Given as goal

-- what is there and what is left
abbrev pub invariant-loop-i : goal.invariant-loop-i
invariant-loop-i l = l.list ++ written l.host (l.from + l.i) (drop l.i l.bytes) ≡ l.fn.list ++ written l.host l.from
    l.bytes
