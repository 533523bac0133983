use Rattle.std.proofs.Common.{refl}
use Rattle.host_calls.proofs.Judged.{open_fails, open_finds, open_stops}
use Rattle.host_calls.proofs.looking.opened.Goals as goal

pub returns-in-Err-clause-judged : goal.returns-in-Err-clause-judged
returns-in-Err-clause-judged c =
    let kept = c.args.sight.cache.now in
    let user = c.args.sight.user.now in
    let h = rw (c.is_changing.ensures, c.open_right.ensures) at c.in-Err.ensures in
    λ call. open_stops kept user c.args.root c.args.path.now call c.args.kind c.in-Err.stop h

pub returns-in-Ok-covered-clause-judged : goal.returns-in-Ok-covered-clause-judged
returns-in-Ok-covered-clause-judged c =
    let kept = c.args.sight.cache.now in
    let user = c.args.sight.user.now in
    let h = rw (c.is_changing.ensures, c.open_right.ensures) at c.in-Ok.ensures in
    λ call. open_finds kept user c.args.root c.args.path.now call c.args.kind c.in-Ok.fid h c.in-Ok-covered.ensures

pub returns-in-Err-covered-clause-judged : goal.returns-in-Err-covered-clause-judged
returns-in-Err-covered-clause-judged c =
    let kept = c.args.sight.cache.now in
    let user = c.args.sight.user.now in
    let h = rw (c.is_changing.ensures, c.open_right.ensures) at c.in-Ok.ensures in
    λ call. open_fails kept user c.args.root c.args.path.now call c.args.kind c.in-Ok.fid c.in-Err-covered.stop h
    c.in-Err-covered.ensures

pub returns-in-Ok-covered-clause-leads : goal.returns-in-Ok-covered-clause-leads
returns-in-Ok-covered-clause-leads c = λ label place. refl
