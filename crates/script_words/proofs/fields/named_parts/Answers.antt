use Rattle.std.proofs.Common.{arith}
use Rattle.std.proofs.lemmas.Grind.{common_steps}
use Rattle.script_words.proofs.Parts.{first_part}
use Rattle.script_words.proofs.fields.named_parts.Goals as goal

pub returns-in_err-named : goal.returns-in_err-named
returns-in_err-named c =
    let first = first_part c.loop-len.names c.args.separator c.loop-len.rest.now c.loop-len.len c.loop-len.invariant.0 c.loop-len-test.true in
    grind (arith, common_steps, first)

pub loop-len-preserved : goal.loop-len-preserved
loop-len-preserved c =
    let first = first_part c.loop-len.names c.args.separator c.loop-len.rest.now c.loop-len.len c.loop-len.invariant.0 c.loop-len-test.true in
    grind (arith, common_steps, first)
