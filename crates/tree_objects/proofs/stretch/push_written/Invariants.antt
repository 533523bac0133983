use Rattle.std.proofs.Common.{◌≡◌, ◌≤◌, ◌+◌, ◌-◌, ◌++◌, true, length, drop}
use Rattle.std.specs.List.{list_all}
use Rattle.tree_objects.specs.Positions.{written}
use Rattle.tree_objects.specs.Stretches.{all_bytes, is_stretch}
use Rattle.tree_objects.proofs.stretch.push_written.Given as goal

-- the pieces so far, and what is left of the bytes
abbrev pub invariant-loop-done : goal.invariant-loop-done
invariant-loop-done l = record {
  bytes : all_bytes l.list.items ++ written l.host (l.from + l.done) (drop l.done l.bytes)
      ≡ all_bytes l.fn.list.items ++ written l.host l.from l.bytes;
  each : list_all is_stretch l.fn.list.items ≡ true → list_all is_stretch l.list.items ≡ true;
  within : l.done ≤ length l.bytes;
}

abbrev pub decreases-loop-done : goal.decreases-loop-done
decreases-loop-done l = length l.bytes - l.done
