use Rattle.std.proofs.Common.{◌≡◌, [], ◌∷◌, ◌++◌}
use Rattle.std.proofs.lemmas.Result.{err_from_is_err_and}
use Rattle.message_parts.specs.Access.{names_in, fresh_from}
use Rattle.message_parts.proofs.FreshText.{fresh_goes_on, fresh_stops}
use Rattle.message_parts.proofs.list.fresh_text_at.Goals as goal

pub returns-in_err-byte : goal.returns-in_err-byte
returns-in_err-byte c =
    let taken = names_in c.args.group c.args.entries.now in
    let p = err_from_is_err_and c.from_residual.result c.from_residual.ensures.1 in
    rw (p.1, p.2) (fresh_stops taken c.loop-lacking.lacking c.loop-lacking.text c.as_slice.result.now c.loop-lacking.rest.now c.in_err-byte.field-0.0 (fresh_from taken c.args.count [] c.args.bytes.now) c.loop-lacking-test.true c.as_slice.ensures c.in_err-byte.ensures c.loop-lacking.invariant)

pub loop-lacking-preserved : goal.loop-lacking-preserved
loop-lacking-preserved c =
    let taken = names_in c.args.group c.args.entries.now in
    let e : c.push.new.self ≡ c.loop-lacking.text ++ c.in_ok-byte.byte ∷ [] = c.in_ok-push.ensures.ok in
    rw e (fresh_goes_on taken c.loop-lacking.lacking c.loop-lacking.text c.as_slice.result.now c.loop-lacking.rest.now c.in_ok-byte.byte c.in_ok-byte.behind.now (fresh_from taken c.args.count [] c.args.bytes.now) c.loop-lacking-test.true c.as_slice.ensures c.in_ok-byte.ensures c.loop-lacking.invariant)
