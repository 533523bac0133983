use Rattle.std.proofs.Common.{◌≡◌, ℕ, ◌++◌}
use Rattle.std.specs.Prelude.{not}
use Rattle.disk_anode.specs.Node.{pointer_of}
use Rattle.disk_image.specs.Joined.{listed}
use Rattle.disk_image.specs.Aggregate.{Aggregate, node_at}
use Rattle.disk_image.specs.Counts.{map_use, is_mapped}
use Rattle.disk_check.proofs.anode.push_map_uses.Given as goal

abbrev pub invariant-loop-j : goal.invariant-loop-j
invariant-loop-j l = (disk : Aggregate) (i : ℕ) → l.map ≡ (node_at disk l.fn.slot i).map → l.fn.is_counted ≡ not (is_mapped disk l.fn.slot i (pointer_of (node_at disk l.fn.slot i) 15))
    → l.uses.items ≡ l.initial.uses.items ++ listed (map_use disk l.fn.slot i) l.j
