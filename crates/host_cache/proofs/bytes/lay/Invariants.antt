use Rattle.std.proofs.Common.{drop}
use Rattle.host_cache.specs.Bytes.{IsLaid}
use Rattle.host_cache.proofs.bytes.lay.Given as goal

-- the pieces from this one on are laid
abbrev pub invariant-loop-index : goal.invariant-loop-index
invariant-loop-index l = IsLaid l.span (drop l.index l.pieces) l.fn.bytes l.bytes
