use Rattle.std.proofs.Common.{refl, ◌+◌}
use Rattle.service_starts.proofs.Placing.{caught_at, passed_at}
use Rattle.service_starts.proofs.fitting.check.Goals as goal

pub returns-in-Some-clause-unfit : goal.returns-in-Some-clause-unfit
returns-in-Some-clause-unfit c = (
  record { server = record { 0 = c.loop-place.place + 1 }; slot = c.in-Some.slot.now },
  caught_at c.args.all.now c.loop-place.place c.index-all-place.result c.as_slice.result.now c.in-Some.slot.now c.loop-place-test.true c.index-all-place.is c.as_slice.ensures c.in-Some.ensures c.loop-place.invariant,
  refl,
  refl,
)

pub loop-place-preserved : goal.loop-place-preserved
loop-place-preserved c =
    passed_at c.args.all.now c.loop-place.place c.index-all-place.result c.as_slice.result.now c.loop-place-test.true c.index-all-place.is c.as_slice.ensures c.in_default.ensures c.loop-place.invariant
