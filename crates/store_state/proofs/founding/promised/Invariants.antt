use Rattle.std.proofs.Common.{◌≡◌, ◌+◌, ◌-◌, ◌^◌, ◌<◌, drop, min, sum_by}
use Rattle.store_state.specs.Founding.{held_promise}
use Rattle.store_state.proofs.founding.promised.Given as goal

-- the blocks so far and those of what is left
abbrev pub invariant-loop-slot : goal.invariant-loop-slot
invariant-loop-slot l = record {
  fits : l.blocks < 2 ^ 64;
  total : min (l.blocks + sum_by held_promise (drop l.slot-index l.slot-items)) (2 ^ 64 - 1) ≡ min (sum_by held_promise l.slots) (2 ^ 64 - 1);
}
