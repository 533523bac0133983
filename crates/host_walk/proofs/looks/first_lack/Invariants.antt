use Rattle.std.proofs.Common.{◌*◌}
use Rattle.host_walk.specs.Bytes.{CoverBlocks}
use Rattle.host_walk.specs.Views.{held_by}
use Rattle.host_walk.proofs.looks.first_lack.Given as goal

abbrev pub invariant-loop-block : goal.invariant-loop-block
invariant-loop-block l = CoverBlocks (held_by l.cache) l.fid l.fn.span.from (l.block * 1024)
