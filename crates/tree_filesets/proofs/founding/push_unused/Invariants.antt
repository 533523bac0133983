use Rattle.std.proofs.Common.{◌≡◌, ◌++◌, replicate}
use Rattle.tree_filesets.specs.Founding.{unused_anode}
use Rattle.tree_filesets.proofs.founding.push_unused.Given as goal

abbrev pub invariant-loop : goal.invariant-loop
invariant-loop l = l.anodes ≡ l.fn.anodes ++ replicate l.counter unused_anode
