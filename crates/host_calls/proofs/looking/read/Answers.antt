use Rattle.host_calls.proofs.Judged.{read_finds, read_stops}
use Rattle.host_calls.proofs.looking.read.Goals as goal

pub returns-in-Ok-clause-judged : goal.returns-in-Ok-clause-judged
returns-in-Ok-clause-judged c =
    let kept = c.args.sight.cache.now in
    let user = c.args.sight.user.now in
    λ call. read_finds kept user c.args.root c.args.path.now call c.args.from c.args.len c.in-Ok.fid c.in-Ok.span
    c.in-Ok.ensures.tried c.in-Ok.ensures.span

pub returns-in-Err-clause-judged : goal.returns-in-Err-clause-judged
returns-in-Err-clause-judged c =
    let kept = c.args.sight.cache.now in
    let user = c.args.sight.user.now in
    λ call. read_stops kept user c.args.root c.args.path.now call c.args.from c.args.len c.in-Err.stop
    c.in-Err.ensures.tried

pub returns-in-Ok-clause-leads : goal.returns-in-Ok-clause-leads
returns-in-Ok-clause-leads c = λ place. (c.in-Ok.ensures.found, c.in-Ok.ensures.span)
