use Rattle.std.proofs.Common.{◌≡◌, None, replicate}
use Rattle.store_state.proofs.new_state.free_slots.Given as goal

-- so many free slots so far
abbrev pub invariant-loop : goal.invariant-loop
invariant-loop l = l.slots ≡ replicate l.counter None
