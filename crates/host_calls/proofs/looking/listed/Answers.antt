use Rattle.std.proofs.lemmas.Result.{err_from_is_err_and}
use Rattle.host_calls.proofs.Judged.{list_finds, list_stops}
use Rattle.host_calls.proofs.looking.listed.Goals as goal

pub returns-in_err-fid-clause-judged : goal.returns-in_err-fid-clause-judged
returns-in_err-fid-clause-judged c =
    let kept = c.args.sight.cache.now in
    let user = c.args.sight.user.now in
    let p = err_from_is_err_and c.from_residual.result c.from_residual.ensures.1 in
    rw (p.1, p.2) (
    λ call. list_stops kept user c.args.root c.args.path.now call c.in_err-fid.field-0.0 c.in_err-fid.ensures.tried)

pub returns-clause-judged : goal.returns-clause-judged
returns-clause-judged c =
    let kept = c.args.sight.cache.now in
    let user = c.args.sight.user.now in
    λ call. list_finds kept user c.args.root c.args.path.now call c.in_ok-fid.fid c.in_ok-fid._entries.now
    c.in_ok-fid.ensures.found c.in_ok-fid.ensures.tried

pub returns-clause-leads : goal.returns-clause-leads
returns-clause-leads c = λ place. (c.in_ok-fid.ensures.found, tt)
