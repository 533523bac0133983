use Rattle.host_calls.proofs.Judged.{lock_fails, lock_finds, lock_stops}
use Rattle.host_tables.specs.Tables.{own_of}
use Rattle.host_calls.proofs.looking.locked.Goals as goal

pub returns-in-Err-clause-judged : goal.returns-in-Err-clause-judged
returns-in-Err-clause-judged c =
    let kept = c.args.sight.cache.now in
    let user = c.args.sight.user.now in
    let m = c.args.tables.now in
    let h = rw c.lock_right.ensures at c.in-Err.ensures in
    λ call. lock_stops kept user c.args.root c.args.path.now call (own_of m) m.host c.args.writing c.args.from
    c.args.len c.in-Err.stop h

pub returns-in-Ok-lock_kind-clause-judged : goal.returns-in-Ok-lock_kind-clause-judged
returns-in-Ok-lock_kind-clause-judged c =
    let kept = c.args.sight.cache.now in
    let user = c.args.sight.user.now in
    let m = c.args.tables.now in
    let h = rw c.lock_right.ensures at c.in-Ok.ensures in
    λ call. lock_finds kept user c.args.root c.args.path.now call (own_of m) m.host c.args.writing c.args.from
    c.args.len c.in-Ok.fid c.in-Ok-lock_kind.kind h c.in-Ok-lock_kind.ensures.tried c.in-Ok-lock_kind.ensures.kind

pub returns-in-Err-lock_kind-clause-judged : goal.returns-in-Err-lock_kind-clause-judged
returns-in-Err-lock_kind-clause-judged c =
    let kept = c.args.sight.cache.now in
    let user = c.args.sight.user.now in
    let m = c.args.tables.now in
    let h = rw c.lock_right.ensures at c.in-Ok.ensures in
    λ call. lock_fails kept user c.args.root c.args.path.now call (own_of m) m.host c.args.writing c.args.from
    c.args.len c.in-Ok.fid c.in-Err-lock_kind.stop h c.in-Err-lock_kind.ensures.tried

pub returns-in-Ok-lock_kind-clause-leads : goal.returns-in-Ok-lock_kind-clause-leads
returns-in-Ok-lock_kind-clause-leads c = λ label place. c.in-Ok-lock_kind.ensures.kind
