use Rattle.std.proofs.Common.{◌≡◌, ◌+◌, ◌-◌, ◌^◌, ◌<◌, drop, min}
use Rattle.tree_answers.specs.Founding.{away_promised}
use Rattle.tree_answers.proofs.founding.away_promised.Given as goal

-- the blocks so far and those of the records that are left
abbrev pub invariant-loop-away : goal.invariant-loop-away
invariant-loop-away l = record {
  fits : l.blocks < 2 ^ 64;
  total : min (l.blocks + away_promised l.server l.filesets (drop l.away-index l.away-items)) (2 ^ 64 - 1) ≡ min (away_promised l.server l.filesets l.records) (2 ^ 64 - 1);
}
