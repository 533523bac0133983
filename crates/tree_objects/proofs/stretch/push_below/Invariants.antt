use Rattle.std.proofs.Common.{◌≡◌, ◌++◌, nat_lt, true, drop, filter}
use Rattle.std.specs.List.{list_all}
use Rattle.tree_objects.specs.Stretches.{all_bytes, is_stretch}
use Rattle.tree_objects.proofs.stretch.push_below.Given as goal

-- what is there and what is left
abbrev pub invariant-loop-stretch : goal.invariant-loop-stretch
invariant-loop-stretch l = record {
  bytes : all_bytes l.list.items ++ filter (λ byte. nat_lt byte.at l.end)
      (all_bytes (drop l.stretch-index l.stretches)) ≡ all_bytes l.fn.list.items ++ filter
      (λ byte. nat_lt byte.at l.end) (all_bytes l.stretches);
  each : list_all is_stretch l.fn.list.items ≡ true → list_all is_stretch l.list.items ≡ true;
}
