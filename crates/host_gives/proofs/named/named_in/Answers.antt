use Rattle.host_gives.proofs.Naming.{named_next}
use Rattle.host_gives.proofs.named.named_in.Goals as goal

pub loop-slot-preserved : goal.loop-slot-preserved
loop-slot-preserved c =
    named_next c.args.slots.now c.loop-slot.slot-index c.slot-item.result c.loop-slot.named c.note_slot.new.named
    c.loop-slot-test.true c.slot-item.is c.note_slot.ensures.keeps c.loop-slot.invariant c.in_ok-note_slot.ensures.noted
