use Rattle.service_starts.specs.Starting.{with_one, fileset_in}
use Rattle.service_starts.proofs.Placing.{put_slot_at}
use Rattle.service_starts.proofs.start.put_filesets.Goals as goal

pub loop-slot-preserved : goal.loop-slot-preserved
loop-slot-preserved c =
    put_slot_at with_one (fileset_in c.args.all.now) c.args.server c.args.slots.now c.loop-slot.slot-index c.slot-item.result c.in_ok-fileset_in.field-0 c.loop-slot.filesets c.put_fileset.new.filesets _ c.loop-slot-test.true c.slot-item.is
    c.in_ok-fileset_in.ensures c.in_ok-put_fileset.ensures c.loop-slot.invariant
