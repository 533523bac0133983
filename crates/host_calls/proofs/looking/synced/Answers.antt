use Rattle.std.proofs.Common.{false, sym, true, ◌∙◌}
use Rattle.std.proofs.lemmas.Result.{err_from_is_err_and}
use Rattle.host_calls.proofs.Judged.{sync_finds, sync_stops}
use Rattle.host_tables.specs.Tables.{own_of}
use Rattle.host_walk.specs.Views.{nature_told}
use Rattle.host_calls.proofs.looking.synced.Goals as goal

pub returns-in_err-fid-clause-judged : goal.returns-in_err-fid-clause-judged
returns-in_err-fid-clause-judged c =
    let kept = c.args.sight.cache.now in
    let user = c.args.sight.user.now in
    let p = err_from_is_err_and c.from_residual.result c.from_residual.ensures.1 in
    rw (p.1, p.2) (
    λ call. sync_stops kept user c.args.root c.args.path.now call (own_of c.args.tables.now) c.in_err-fid.field-0.0
    c.in_err-fid.ensures.tried)

pub returns-then-is_clean-clause-judged : goal.returns-then-is_clean-clause-judged
returns-then-is_clean-clause-judged c =
    let kept = c.args.sight.cache.now in
    let user = c.args.sight.user.now in
    λ call. sync_finds kept user c.args.root c.args.path.now call (own_of c.args.tables.now) c.in_ok-fid.fid
    (nature_told c.in_ok-fid._status.now) true c.in_ok-fid.ensures.tried
    (sym c.is_clean.ensures ∙ c.if-is_clean.true)

pub returns-clause-judged : goal.returns-clause-judged
returns-clause-judged c =
    let kept = c.args.sight.cache.now in
    let user = c.args.sight.user.now in
    λ call. sync_finds kept user c.args.root c.args.path.now call (own_of c.args.tables.now) c.in_ok-fid.fid
    (nature_told c.in_ok-fid._status.now) false c.in_ok-fid.ensures.tried
    (sym c.is_clean.ensures ∙ c.if-is_clean.false)

pub returns-clause-leads : goal.returns-clause-leads
returns-clause-leads c = λ place. (c.in_ok-fid.ensures.walked, tt)
