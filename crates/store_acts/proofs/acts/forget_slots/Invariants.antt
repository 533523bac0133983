use Rattle.std.proofs.Common.{◌≡◌}
use Rattle.std.specs.Option.{option_map}
use Rattle.store_acts.specs.Acts.{held_booted}
use Rattle.store_state.proofs.Mapped.{mapped_first}
use Rattle.store_acts.proofs.acts.forget_slots.Given as goal

-- those so far are without requests
abbrev pub invariant-loop-place : goal.invariant-loop-place
invariant-loop-place l = l.slots ≡ mapped_first (option_map held_booted) l.place l.fn.slots
