use Rattle.std.proofs.Common.{◌≡◌, ◌+◌, ◌-◌, ◌^◌, ◌<◌, drop, min}
use Rattle.tree_answers.specs.Founding.{promised}
use Rattle.service_starts.proofs.rooms.promised.Given as goal

-- the blocks so far and those of what is left
abbrev pub invariant-loop-fileset : goal.invariant-loop-fileset
invariant-loop-fileset l = record {
  fits : l.blocks < 2 ^ 64;
  total : min (l.blocks + promised l.server (drop l.fileset-index l.fileset-items)) (2 ^ 64 - 1) ≡ min (promised l.server l.filesets) (2 ^ 64 - 1);
}
