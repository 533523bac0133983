use Rattle.std.proofs.lemmas.Result.{err_from_is_err_and}
use Rattle.message_parts.specs.Reading.{items_at}
use Rattle.message_parts.proofs.Loop.{goes_on, ends, is_done}
use Rattle.std.proofs.Common.{◌∷◌, ◌++◌, [], ◌≡◌}
use Rattle.message_parts.proofs.part.items_at.Goals as goal

pub returns-in_err-item : goal.returns-in_err-item
returns-in_err-item g c =
    let item = g.T.Part.reading in
    let p = err_from_is_err_and c.from_residual-in_err-item.result c.from_residual-in_err-item.ensures.1 in
    rw (p.1, p.2) (ends item c.in_err-item.field-0.0 c.loop.items c.args.count c.loop.counter c.loop.rest.now (items_at item c.args.count c.args.bytes.now) c.loop-test.true c.in_err-item.ensures c.loop.invariant)

pub loop-preserved : goal.loop-preserved
loop-preserved g c =
    let item = g.T.Part.reading in
    let x = c.in_ok-item.item in
    let e : c.push.new.self ≡ c.loop.items ++ x ∷ [] = c.in_ok-push.ensures.ok in
    rw e (goes_on item c.loop.items c.args.count c.loop.counter c.loop.rest.now x c.in_ok-item.behind.now (items_at item c.args.count c.args.bytes.now) c.loop-test.true c.in_ok-item.ensures c.loop.invariant)

pub returns : goal.returns
returns g c =
    let item = g.T.Part.reading in
    is_done item c.loop.items c.args.count c.loop.counter c.loop.rest.now (items_at item c.args.count c.args.bytes.now) c.loop-test.false c.loop.invariant
