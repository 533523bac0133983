use Rattle.std.proofs.Common.{◌∙◌}
use Rattle.disk_lists.proofs.Laid.{anode_there, unique_there}
use Rattle.disk_lists.proofs.bytes.numbers_at.Goals as goal

pub returns : goal.returns
returns c = λ entries entry rest are is.
    let a = c.number_at.ensures ∙ anode_there entries entry rest c.args.bytes.now c.args.i are is in
    let b = c.number_at-2.ensures ∙ unique_there entries entry rest c.args.bytes.now c.args.i are is in
    λ j. (a j, b j)
