use Rattle.service_starts.specs.Starting.{with_one, fileset_in}
use Rattle.service_starts.proofs.Placing.{put_told_at}
use Rattle.service_starts.proofs.start.filesets_of.Goals as goal

pub loop-place-preserved : goal.loop-place-preserved
loop-place-preserved c =
    put_told_at with_one (fileset_in c.args.all.now) c.args.all.now c.loop-place.place c.index-all-place.result c.as_slice.result.now c.loop-place.filesets c.put_filesets.new.filesets _ c.loop-place-test.true c.index-all-place.is c.as_slice.ensures
    c.in_ok-put_filesets.ensures c.loop-place.invariant
