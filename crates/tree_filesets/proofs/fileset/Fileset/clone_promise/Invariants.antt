use Rattle.std.proofs.Common.{◌≡◌, ◌+◌, ◌-◌, ◌^◌, ◌<◌, drop, min, sum_by}
use Rattle.tree_filesets.specs.Promises.{anode_blocks}
use Rattle.tree_filesets.proofs.fileset.Fileset.clone_promise.Given as goal

-- the blocks so far and those of what is left
abbrev pub invariant-loop-anode : goal.invariant-loop-anode
invariant-loop-anode l = record {
  fits : l.blocks < 2 ^ 64;
  total : min (l.blocks + sum_by anode_blocks (drop l.anode-index l.anode-items)) (2 ^ 64 - 1) ≡ min (sum_by anode_blocks l.self.anodes) (2 ^ 64 - 1);
}
