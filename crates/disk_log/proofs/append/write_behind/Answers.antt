use Rattle.std.proofs.Common.{◌+◌, length, arith}
use Rattle.std.proofs.lemmas.Result.{on_ok_weaker}
use Rattle.base_outside.proofs.Runs.{then_changes, wider_changes}
use Rattle.disk_layout.proofs.Slots.{bodies_within, then_entries}
use Rattle.disk_log.proofs.Opening.{few, first_fit, many, open_parts, rest_fit, stand_parts, these_as}
use Rattle.disk_log.proofs.append.write_behind.Goals as goal

pub write_rest-requires-clause-room : goal.write_rest-requires-clause-room
write_rest-requires-clause-room g c = let size = many c.args.half.now c.args.first c.min-split.result c.args.news.now (let e = c.min-split.ensures in omega (arith, e)) in let e = c.min-split.ensures in let room = c.requires.room in omega (arith, size, e, room)

pub write_rest-requires-clause-fits : goal.write_rest-requires-clause-fits
write_rest-requires-clause-fits g c = rest_fit c.args.half.now c.args.first c.min-split.result c.args.news.now (let e = c.min-split.ensures in omega (arith, e)) c.requires.fits

pub write_entries-requires-clause-room : goal.write_entries-requires-clause-room
write_entries-requires-clause-room g c = let size = few c.args.half.now c.args.first c.min-split.result c.args.news.now (let e = c.min-split.ensures in omega (arith, e)) in let e = c.min-split.ensures in let room = c.requires.room in omega (arith, size, e, room)

pub write_entries-requires-clause-fits : goal.write_entries-requires-clause-fits
write_entries-requires-clause-fits g c = first_fit c.args.half.now c.args.first c.min-split.result c.args.news.now (let e = c.min-split.ensures in omega (arith, e)) c.requires.fits

pub returns-in_err-write_rest-clause-same : goal.returns-in_err-write_rest-clause-same
returns-in_err-write_rest-clause-same g c = λ told. these_as c.args.half.now c.args.first c.min-split.result c.args.news.now (let e = c.min-split.ensures in omega (arith, e)) _ _ (λ some. let e = c.min-split.ensures in omega (arith, e, some)) (c.write_rest.ensures.same told)

pub returns-in_err-write_rest-clause-crash : goal.returns-in_err-write_rest-clause-crash
returns-in_err-write_rest-clause-crash g c = wider_changes c.write_rest.ensures.crash (λ a b step. these_as c.args.half.now c.args.first c.min-split.result c.args.news.now (let e = c.min-split.ensures in omega (arith, e)) a b (λ some. let e = c.min-split.ensures in omega (arith, e, some)) step)

pub returns-clause-written : goal.returns-clause-written
returns-clause-written g c = λ told.
    on_ok_weaker c.write_entries.result
    (λ one. stand_parts c.args.half.now c.args.first c.min-split.result c.args.news.now (let e = c.min-split.ensures in omega (arith, e)) _ _ (c.write_entries.ensures.same told) (c.in_ok-write_rest.ensures.written told) one)
    (c.write_entries.ensures.written told)

pub returns-clause-opened : goal.returns-clause-opened
returns-clause-opened g c = λ told.
    on_ok_weaker c.write_entries.result
    (λ one. open_parts c.args.half.now c.args.first c.min-split.result c.args.news.now (let e = c.min-split.ensures in omega (arith, e)) _ _ (c.write_entries.ensures.same told) (let e = c.min-split.ensures in omega (arith, e)) (c.in_ok-write_rest.ensures.opened told))
    (c.write_entries.ensures.written told)

pub returns-clause-same : goal.returns-clause-same
returns-clause-same g c = λ told.
    then_entries _ _ _ _ _ _
    (these_as c.args.half.now c.args.first c.min-split.result c.args.news.now (let e = c.min-split.ensures in omega (arith, e)) _ _ (λ some. let e = c.min-split.ensures in omega (arith, e, some)) (c.write_rest.ensures.same told))
    (bodies_within _ _ _ _ _ _ (let size = few c.args.half.now c.args.first c.min-split.result c.args.news.now (let e = c.min-split.ensures in omega (arith, e)) in let e = c.min-split.ensures in omega (arith, size, e)) (c.write_entries.ensures.same told))

pub returns-clause-crash : goal.returns-clause-crash
returns-clause-crash g c =
    then_changes _ (then_entries _ _ _)
    (wider_changes c.write_rest.ensures.crash (λ a b step. these_as c.args.half.now c.args.first c.min-split.result c.args.news.now (let e = c.min-split.ensures in omega (arith, e)) a b (λ some. let e = c.min-split.ensures in omega (arith, e, some)) step))
    (wider_changes c.write_entries.ensures.crash (λ a b step. bodies_within _ _ _ _ a b (let size = few c.args.half.now c.args.first c.min-split.result c.args.news.now (let e = c.min-split.ensures in omega (arith, e)) in let e = c.min-split.ensures in omega (arith, size, e)) step))
