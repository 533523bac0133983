use Rattle.std.proofs.lemmas.Result.{err_from_is_err_and}
use Rattle.host_walk.specs.Views.{held_by, view_of, nature_told}
use Rattle.host_walk.proofs.Steps.{target_unwalked, target_unseen, target_found}
use Rattle.host_walk.proofs.sight.Sight.target.Goals as goal

pub returns-in_err-fid-clause-tried : goal.returns-in_err-fid-clause-tried
returns-in_err-fid-clause-tried c =
    let kept = c.args.self.now.cache.now in
    let p = err_from_is_err_and c.from_residual.result c.from_residual.ensures.1 in
    rw (p.1, p.2) (
    target_unwalked (held_by kept) (view_of kept) c.args.self.now.user.now c.args.root c.args.path.now
    c.in_err-fid.field-0.0 c.in_err-fid.ensures)

pub returns-in_err-status-clause-tried : goal.returns-in_err-status-clause-tried
returns-in_err-status-clause-tried c =
    let kept = c.args.self.now.cache.now in
    let p = err_from_is_err_and c.from_residual-in_err-status.result c.from_residual-in_err-status.ensures.1 in
    rw (p.1, p.2) (
    target_unseen (held_by kept) (view_of kept) c.args.self.now.user.now c.args.root c.args.path.now
    c.in_ok-fid.fid c.in_ok-fid.ensures c.in_err-status.field-0.0 c.in_err-status.ensures.tried)

pub returns-clause-tried : goal.returns-clause-tried
returns-clause-tried c =
    let kept = c.args.self.now.cache.now in
    target_found (held_by kept) (view_of kept) c.args.self.now.user.now c.args.root c.args.path.now
    c.in_ok-fid.fid (nature_told c.in_ok-status.status.now) c.in_ok-fid.ensures c.in_ok-status.ensures.tried
