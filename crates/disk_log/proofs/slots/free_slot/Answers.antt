use Rattle.std.proofs.Common.{arith}
use Rattle.disk_log.proofs.Room.{all_reserved}
use Rattle.disk_log.proofs.slots.free_slot.Goals as goal

pub unreachable-requires : goal.unreachable-requires
unreachable-requires c = let e = all_reserved c.args.reservations.now (λ k lt. c.loop-slot.invariant k (omega arith)) in omega arith
