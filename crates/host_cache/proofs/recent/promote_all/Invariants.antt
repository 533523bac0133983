use Rattle.std.proofs.Common.{◌≡◌, drop}
use Rattle.host_cache.specs.Holding.{brought_all}
use Rattle.host_cache.proofs.recent.promote_all.Given as goal

-- the tokens from this one on were brought to the front
abbrev pub invariant-loop-index : goal.invariant-loop-index
invariant-loop-index l = l.order ≡ brought_all (drop l.index l.tokens) l.fn.order
