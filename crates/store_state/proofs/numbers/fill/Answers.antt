use Rattle.std.proofs.Common.{◌<◌, length, ◌∙◌, arith}
use Rattle.store_state.proofs.Mapped.{mapped_set}
use Rattle.store_state.proofs.numbers.fill.Goals as goal

pub loop-place-preserved : goal.loop-place-preserved
loop-place-preserved g c =
    let low = c.loop-place-test.true in
    let size = c.len-place-end.ensures in
    let inside : c.loop-place.place < length c.args.items.now = omega (arith, low, size) in
    c.set.ensures
    ∙ mapped_set c.args.value c.loop-place.place c.args.items.now c.loop-place.items c.loop-place.invariant inside
