use Rattle.std.proofs.lemmas.Result.{err_from_is_err_and}
use Rattle.message_parts.specs.Reading.{items_at, byte_at}
use Rattle.message_parts.specs.Words.{is_plain}
use Rattle.message_parts.proofs.Loop.{goes_on, ends, is_done}
use Rattle.std.proofs.Common.{◌∷◌, ◌++◌, [], ◌≡◌}
use Rattle.message_parts.proofs.name.plain_at.Goals as goal

pub returns-in_err-byte : goal.returns-in_err-byte
returns-in_err-byte c =
    let item = byte_at is_plain in
    let p = err_from_is_err_and c.from_residual.result c.from_residual.ensures.1 in
    rw (p.1, p.2) (ends item c.in_err-byte.field-0.0 c.loop.text c.args.count c.loop.counter c.loop.rest.now (items_at item c.args.count c.args.bytes.now) c.loop-test.true c.in_err-byte.ensures c.loop.invariant)

pub loop-preserved : goal.loop-preserved
loop-preserved c =
    let item = byte_at is_plain in
    let x = c.in_ok-byte.byte in
    let e : c.push.new.self ≡ c.loop.text ++ x ∷ [] = c.in_ok-push.ensures.ok in
    rw e (goes_on item c.loop.text c.args.count c.loop.counter c.loop.rest.now x c.in_ok-byte.behind.now (items_at item c.args.count c.args.bytes.now) c.loop-test.true c.in_ok-byte.ensures c.loop.invariant)

pub returns : goal.returns
returns c =
    let item = byte_at is_plain in
    is_done item c.loop.text c.args.count c.loop.counter c.loop.rest.now (items_at item c.args.count c.args.bytes.now) c.loop-test.false c.loop.invariant
