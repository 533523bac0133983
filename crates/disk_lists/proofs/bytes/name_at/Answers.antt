use Rattle.std.proofs.Common.{◌≡◌, ◌∙◌, ◌+◌, ◌-◌, ◌*◌, length, take, drop, arith}
use Rattle.disk_lists.proofs.Laid.{size_there, name_there, short_at}
use Rattle.disk_lists.proofs.bytes.name_at.Goals as goal

pub returns : goal.returns
returns c = λ entries entry rest are is.
    let a = c.min-size.ensures in
    let b = size_there entries entry rest c.args.bytes.now c.args.i are is in
    let short = short_at entries entry rest c.args.bytes.now c.args.i are is in
    let sub : 72 * c.args.i + 1 + c.min-size.result - (72 * c.args.i + 1) ≡ length entry.name = omega (arith, a, b, short) in
    (λ j. take (sub j) (drop (72 * c.args.i + 1) c.args.bytes.now)) ∙ name_there entries entry rest c.args.bytes.now c.args.i are is
