use Rattle.std.proofs.lemmas.Result.{err_from_is_err_and}
use Rattle.host_walk.specs.Views.{held_by, view_of, nature_told}
use Rattle.host_walk.proofs.Steps.{right_unfound, right_denied, right_found}
use Rattle.host_walk.proofs.sight.Sight.file_for.Goals as goal

pub returns-in_err-fid-clause-tried : goal.returns-in_err-fid-clause-tried
returns-in_err-fid-clause-tried c =
    let kept = c.args.self.now.cache.now in
    let p = err_from_is_err_and c.from_residual.result c.from_residual.ensures.1 in
    rw (p.1, p.2) (
    right_unfound (held_by kept) (view_of kept) c.args.self.now.user.now c.args.root c.args.path.now c.args.right
    c.in_err-fid.field-0.0 c.in_err-fid.ensures.tried)

pub returns-in_err-permitted-clause-tried : goal.returns-in_err-permitted-clause-tried
returns-in_err-permitted-clause-tried c =
    let kept = c.args.self.now.cache.now in
    let p = err_from_is_err_and c.from_residual-in_err-permitted.result c.from_residual-in_err-permitted.ensures.1 in
    rw (p.1, p.2) (
    right_denied (held_by kept) (view_of kept) c.args.self.now.user.now c.args.root c.args.path.now c.args.right
    c.in_ok-fid.fid (nature_told c.in_ok-fid.status.now) c.in_ok-fid.ensures.tried c.in_err-permitted.field-0.0
    c.in_err-permitted.ensures)

pub returns-clause-tried : goal.returns-clause-tried
returns-clause-tried c =
    let kept = c.args.self.now.cache.now in
    right_found (held_by kept) (view_of kept) c.args.self.now.user.now c.args.root c.args.path.now c.args.right
    c.in_ok-fid.fid (nature_told c.in_ok-fid.status.now) c.in_ok-fid.ensures.tried c.in_ok-permitted.ensures
