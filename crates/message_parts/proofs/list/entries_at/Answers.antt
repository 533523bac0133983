use Rattle.std.proofs.Common.{◌≡◌, [], ◌∷◌, ◌++◌}
use Rattle.std.proofs.lemmas.Result.{err_from_is_err_and}
use Rattle.message_parts.specs.Access.{access_from}
use Rattle.message_parts.proofs.FreshText.{entries_go_on, entries_stop}
use Rattle.message_parts.proofs.list.entries_at.Goals as goal

pub returns-in_err-entry : goal.returns-in_err-entry
returns-in_err-entry c =
    let p = err_from_is_err_and c.from_residual.result c.from_residual.ensures.1 in
    rw (p.1, p.2) (entries_stop c.loop-lacking.lacking c.loop-lacking.entries c.as_slice.result.now c.loop-lacking.rest.now c.in_err-entry.field-0.0 (access_from c.args.count [] c.args.bytes.now) c.loop-lacking-test.true c.as_slice.ensures c.in_err-entry.ensures c.loop-lacking.invariant)

pub loop-lacking-preserved : goal.loop-lacking-preserved
loop-lacking-preserved c =
    let e : c.push.new.self ≡ c.loop-lacking.entries ++ c.in_ok-entry.entry ∷ [] = c.in_ok-push.ensures.ok in
    rw e (entries_go_on c.loop-lacking.lacking c.loop-lacking.entries c.as_slice.result.now c.loop-lacking.rest.now c.in_ok-entry.entry c.in_ok-entry.behind.now (access_from c.args.count [] c.args.bytes.now) c.loop-lacking-test.true c.as_slice.ensures c.in_ok-entry.ensures c.loop-lacking.invariant)
