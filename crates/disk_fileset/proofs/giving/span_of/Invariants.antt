use Rattle.std.proofs.Common.{◌≡◌, ◌≤◌, drop}
use Rattle.disk_fileset.specs.Giving.{start_of, end_of}
use Rattle.disk_fileset.proofs.giving.span_of.Given as goal

-- where the pieces that are left begin and end, with those so far
abbrev pub invariant-loop-piece : goal.invariant-loop-piece
invariant-loop-piece l = record {
  first : start_of l.from (drop l.piece-index l.pieces) ≡ start_of l.end l.pieces;
  last : end_of l.to (drop l.piece-index l.pieces) ≡ end_of 0 l.pieces;
  few : l.to ≤ 4295032831;
}
