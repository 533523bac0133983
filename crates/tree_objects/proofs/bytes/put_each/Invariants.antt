use Rattle.std.proofs.Common.{ℕ, ◌≡◌, List, [], drop}
use Rattle.tree_objects.specs.Files.{bytes_over}
use Rattle.tree_objects.specs.Stretches.{all_bytes}
use Rattle.tree_objects.proofs.bytes.put_each.Given as goal

-- the stretches from this one on stand over the kept bytes
abbrev pub invariant-loop-index : goal.invariant-loop-index
invariant-loop-index l = (kept : List ℕ) (count : ℕ) → l.fn.bytes ≡ bytes_over kept [] l.from count
    → l.list.items ≡ bytes_over kept (all_bytes (drop l.index l.stretches)) l.from count
