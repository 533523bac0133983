use Rattle.std.proofs.Common.{◌≡◌, ◌++◌, nat_le, true, drop, filter}
use Rattle.std.specs.List.{list_all}
use Rattle.tree_objects.specs.Stretches.{all_bytes, is_stretch}
use Rattle.tree_objects.proofs.stretch.push_above.Given as goal

-- what is there and what is left
abbrev pub invariant-loop-stretch : goal.invariant-loop-stretch
invariant-loop-stretch l = record {
  bytes : all_bytes l.list.items ++ filter (λ byte. nat_le l.from byte.at)
      (all_bytes (drop l.stretch-index l.stretches)) ≡ all_bytes l.fn.list.items ++ filter
      (λ byte. nat_le l.from byte.at) (all_bytes l.stretches);
  each : list_all is_stretch l.fn.list.items ≡ true → list_all is_stretch l.list.items ≡ true;
}
