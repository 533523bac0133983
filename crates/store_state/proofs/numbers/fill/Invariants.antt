use Rattle.std.proofs.Common.{◌≡◌}
use Rattle.store_state.proofs.Mapped.{mapped_first}
use Rattle.store_state.proofs.numbers.fill.Given as goal

-- those so far are this one
abbrev pub invariant-loop-place : goal.invariant-loop-place
invariant-loop-place g l = l.items ≡ mapped_first (λ x. l.value) l.place l.fn.items
