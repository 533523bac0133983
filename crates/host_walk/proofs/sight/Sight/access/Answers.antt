use Rattle.std.proofs.lemmas.Result.{err_from_is_err_and}
use Rattle.std.proofs.Common.{ap, sym, ◌∙◌}
use Rattle.tree_objects.specs.Objects.{list_or_refused}
use Rattle.host_walk.specs.Views.{held_by, view_of, nature_told}
use Rattle.host_walk.proofs.Steps.{access_unfound, access_missing, access_found}
use Rattle.host_walk.proofs.sight.Sight.access.Goals as goal

pub returns-in_err-fid-clause-tried : goal.returns-in_err-fid-clause-tried
returns-in_err-fid-clause-tried c =
    let kept = c.args.self.now.cache.now in
    let p = err_from_is_err_and c.from_residual.result c.from_residual.ensures.1 in
    rw (p.1, p.2) (
    access_unfound (held_by kept) (view_of kept) c.args.self.now.user.now c.args.root c.args.path.now c.args.which
    c.in_err-fid.field-0.0 c.in_err-fid.ensures.tried)

pub returns-in-Some-clause-tried : goal.returns-in-Some-clause-tried
returns-in-Some-clause-tried c =
    let kept = c.args.self.now.cache.now in
    access_found (held_by kept) (view_of kept) c.args.self.now.user.now c.args.root c.args.path.now
    c.in_ok-fid.fid (nature_told c.in_ok-fid.status.now) c.in_ok-fid.ensures.tried c.args.which c.in-Some.list.now
    (ap list_or_refused (sym c.in-Some.ensures))

pub returns-in-None-clause-tried : goal.returns-in-None-clause-tried
returns-in-None-clause-tried c =
    let kept = c.args.self.now.cache.now in
    access_missing (held_by kept) (view_of kept) c.args.self.now.user.now c.args.root c.args.path.now
    c.in_ok-fid.fid (nature_told c.in_ok-fid.status.now) c.in_ok-fid.ensures.tried c.args.which
    (ap list_or_refused (sym c.in-None.ensures))
