use Rattle.std.proofs.Common.{get_or, arith}
use Rattle.std.proofs.lemmas.List.Elements.{Contains-get_or}
use Rattle.disk_classes.proofs.members.renumber.Goals as goal

pub get_mut-requires : goal.get_mut-requires
get_mut-requires c =
    let lt = c.requires (get_or c.args.members.now c.loop-number.number-index 0) (Contains-get_or c.args.members.now c.loop-number.number-index 0 c.loop-number-test.true) in
    let size = c.loop-number.invariant.size in
    omega (arith, lt, size)
