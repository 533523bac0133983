use Rattle.std.proofs.Common.{◌≡◌, ◌++◌, length, filter, take, drop, not}
use Rattle.host_cache.specs.Holding.{helps_cover}
use Rattle.host_cache.proofs.held.bring_helpers.Given as goal

-- of the tokens so far the helpers stand first, then the others, and then the tokens that are left
abbrev pub invariant-loop-index : goal.invariant-loop-index
invariant-loop-index l =
    (l.tokens ≡ filter (helps_cover l.need) (take l.index l.fn.tokens)
    ++ (filter (λ t. not (helps_cover l.need t)) (take l.index l.fn.tokens) ++ drop l.index l.fn.tokens))
    × (l.front ≡ length (filter (helps_cover l.need) (take l.index l.fn.tokens)))
