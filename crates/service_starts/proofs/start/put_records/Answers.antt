use Rattle.tree_answers.specs.Away.{with_away}
use Rattle.service_starts.specs.Starting.{away_in}
use Rattle.service_starts.proofs.Placing.{put_slot_at}
use Rattle.service_starts.proofs.start.put_records.Goals as goal

pub loop-slot-preserved : goal.loop-slot-preserved
loop-slot-preserved c =
    put_slot_at with_away (away_in c.args.all.now) c.args.server c.args.slots.now c.loop-slot.slot-index c.slot-item.result c.in_ok-away_in.field-0 c.loop-slot.records c.put_record.new.records _ c.loop-slot-test.true c.slot-item.is
    c.in_ok-away_in.ensures c.in_ok-put_record.ensures c.loop-slot.invariant
