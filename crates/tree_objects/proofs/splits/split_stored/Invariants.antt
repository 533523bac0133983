use Rattle.std.proofs.Common.{◌≡◌, ◌≤◌, ◌++◌, true, length, drop, filter, not}
use Rattle.std.specs.List.{list_all}
use Rattle.tree_objects.specs.Stores.{is_stored}
use Rattle.tree_objects.specs.Stretches.{all_bytes, is_stretch}
use Rattle.tree_objects.proofs.splits.split_stored.Given as goal

-- what is there and what is left, of both
abbrev pub invariant-loop-stretch : goal.invariant-loop-stretch
invariant-loop-stretch l = record {
  stored : all_bytes l.stored.items ++ filter (is_stored l.host l.spans l.end)
      (all_bytes (drop l.stretch-index l.stretches)) ≡ filter (is_stored l.host l.spans l.end) (all_bytes l.stretches);
  left : all_bytes l.left.items ++ filter (λ byte. not (is_stored l.host l.spans l.end byte))
      (all_bytes (drop l.stretch-index l.stretches)) ≡ filter (λ byte. not (is_stored l.host l.spans l.end byte))
      (all_bytes l.stretches);
  each : list_all is_stretch l.left.items ≡ true;
  near : l.near ≤ length l.spans;
}
