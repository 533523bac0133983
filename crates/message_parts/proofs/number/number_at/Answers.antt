use Rattle.std.proofs.lemmas.Result.{err_from_is_err_and}
use Rattle.message_parts.specs.Reading.{number_at}
use Rattle.message_parts.proofs.Digits.{next_number, number_stops}
use Rattle.message_parts.proofs.number.number_at.Goals as goal

pub returns-in_err-byte-clause-number : goal.returns-in_err-byte-clause-number
unfolding number_at
returns-in_err-byte-clause-number c =
    let p = err_from_is_err_and c.from_residual.result c.from_residual.ensures.1 in
    rw (p.1, p.2) (number_stops c.args.width c.args.least c.args.most c.args.bytes.now c.loop-lacking.lacking c.loop-lacking.front c.loop-lacking.rest.now c.in_err-byte.field-0.0 c.loop-lacking-test.true c.in_err-byte.ensures c.loop-lacking.invariant)

pub loop-lacking-preserved : goal.loop-lacking-preserved
loop-lacking-preserved c =
    next_number c.args.width c.args.least c.args.most c.args.bytes.now c.loop-lacking.lacking c.loop-lacking.front c.loop-lacking.rest.now c.in_ok-byte.byte c.in_ok-byte.behind.now c.loop-lacking-test.true c.in_ok-byte.ensures c.loop-lacking.invariant
