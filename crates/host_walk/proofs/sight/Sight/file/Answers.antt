use Rattle.std.proofs.lemmas.Result.{err_from_is_err_and}
use Rattle.host_walk.specs.Views.{held_by, view_of, nature_told}
use Rattle.host_walk.proofs.Steps.{file_unfound, file_is_dir, file_found}
use Rattle.host_walk.proofs.sight.Sight.file.Goals as goal

pub returns-in_err-fid-clause-tried : goal.returns-in_err-fid-clause-tried
returns-in_err-fid-clause-tried c =
    let kept = c.args.self.now.cache.now in
    let p = err_from_is_err_and c.from_residual.result c.from_residual.ensures.1 in
    rw (p.1, p.2) (
    file_unfound (held_by kept) (view_of kept) c.args.self.now.user.now c.args.root c.args.path.now
    c.in_err-fid.field-0.0 c.in_err-fid.ensures.tried)

pub returns-then-status-clause-tried : goal.returns-then-status-clause-tried
returns-then-status-clause-tried c =
    let kept = c.args.self.now.cache.now in
    file_is_dir (held_by kept) (view_of kept) c.args.self.now.user.now c.args.root c.args.path.now
    c.in_ok-fid.fid (nature_told c.in_ok-fid.status.now) c.in_ok-fid.ensures.tried c.if-status.true

pub returns-clause-tried : goal.returns-clause-tried
returns-clause-tried c =
    let kept = c.args.self.now.cache.now in
    file_found (held_by kept) (view_of kept) c.args.self.now.user.now c.args.root c.args.path.now
    c.in_ok-fid.fid (nature_told c.in_ok-fid.status.now) c.in_ok-fid.ensures.tried c.if-status.false
