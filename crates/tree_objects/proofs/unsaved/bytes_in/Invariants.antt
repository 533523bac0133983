use Rattle.std.proofs.Common.{◌≡◌, ◌++◌, drop}
use Rattle.tree_objects.specs.Stretches.{all_bytes}
use Rattle.tree_objects.proofs.unsaved.bytes_in.Given as goal

-- what is there and what is left
abbrev pub invariant-loop-stretch : goal.invariant-loop-stretch
invariant-loop-stretch l = l.bytes ++ all_bytes (drop l.stretch-index l.stretches) ≡ all_bytes l.stretches
