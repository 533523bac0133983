use Rattle.std.proofs.Common.{take}
use Rattle.run_rules.specs.Past.{In}
use Rattle.host_asks.proofs.going.has_token.Given as goal

abbrev pub invariant-loop-other : goal.invariant-loop-other
invariant-loop-other l =
    In l.token (take l.other-index l.tokens) → ⊥
