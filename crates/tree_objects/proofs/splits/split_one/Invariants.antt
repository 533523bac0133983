use Rattle.std.proofs.Common.{◌≡◌, ◌≤◌, ◌+◌, ◌-◌, ◌++◌, true, length, drop, filter, not}
use Rattle.std.specs.List.{list_all}
use Rattle.tree_objects.specs.Positions.{written}
use Rattle.tree_objects.specs.Stores.{is_stored}
use Rattle.tree_objects.specs.Stretches.{bytes_of, all_bytes, is_stretch}
use Rattle.tree_objects.proofs.splits.split_one.Given as goal

-- the parts so far, and what is left of the stretch
abbrev pub invariant-loop-done : goal.invariant-loop-done
invariant-loop-done l = record {
  stored : all_bytes l.stored.items ++ filter (is_stored l.fn.host l.spans l.end)
      (written l.stretch.writer (l.stretch.from + l.done) (drop l.done l.stretch.bytes))
      ≡ all_bytes l.fn.stored.items ++ filter (is_stored l.fn.host l.spans l.end) (bytes_of l.stretch);
  left : all_bytes l.left.items ++ filter (λ byte. not (is_stored l.fn.host l.spans l.end byte))
      (written l.stretch.writer (l.stretch.from + l.done) (drop l.done l.stretch.bytes))
      ≡ all_bytes l.fn.left.items ++ filter (λ byte. not (is_stored l.fn.host l.spans l.end byte)) (bytes_of l.stretch);
  each : list_all is_stretch l.fn.left.items ≡ true → list_all is_stretch l.left.items ≡ true;
  within : l.done ≤ length l.stretch.bytes;
  near : l.near ≤ length l.spans;
}

abbrev pub decreases-loop-done : goal.decreases-loop-done
decreases-loop-done l = length l.stretch.bytes - l.done
