use Rattle.tree_answers.specs.Away.{with_away}
use Rattle.service_starts.specs.Starting.{away_in}
use Rattle.service_starts.proofs.Placing.{put_told_at}
use Rattle.service_starts.proofs.start.records_of.Goals as goal

pub loop-place-preserved : goal.loop-place-preserved
loop-place-preserved c =
    put_told_at with_away (away_in c.args.all.now) c.args.all.now c.loop-place.place c.index-all-place.result c.as_slice.result.now c.loop-place.records c.put_records.new.records _ c.loop-place-test.true c.index-all-place.is c.as_slice.ensures
    c.in_ok-put_records.ensures c.loop-place.invariant
