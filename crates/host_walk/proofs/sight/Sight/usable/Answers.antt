use Rattle.std.proofs.Common.{sym, ◌∙◌}
use Rattle.std.proofs.lemmas.Result.{err_from_is_err_and}
use Rattle.host_walk.specs.Views.{held_by, view_of, nature_told}
use Rattle.host_walk.proofs.Steps.{use_unfound, use_clone, use_denied, use_found}
use Rattle.host_walk.proofs.sight.Sight.usable.Goals as goal

pub returns-in_err-fid : goal.returns-in_err-fid
returns-in_err-fid c =
    let kept = c.args.self.now.cache.now in
    let p = err_from_is_err_and c.from_residual.result c.from_residual.ensures.1 in
    rw (p.1, p.2) (
    use_unfound (held_by kept) (view_of kept) c.args.self.now.user.now c.args.root c.args.path.now c.args.changing
    c.args.right c.in_err-fid.field-0.0 c.in_err-fid.ensures.tried)

pub returns-then-is_barred : goal.returns-then-is_barred
returns-then-is_barred c =
    let kept = c.args.self.now.cache.now in
    use_clone (held_by kept) (view_of kept) c.args.self.now.user.now c.args.root c.args.path.now c.args.changing
    c.args.right c.in_ok-fid.fid (nature_told c.in_ok-fid.status.now) c.in_ok-fid.ensures.tried
    (sym c.is_barred.ensures ∙ c.if-is_barred.true)

pub returns-in_err-permitted : goal.returns-in_err-permitted
returns-in_err-permitted c =
    let kept = c.args.self.now.cache.now in
    let p = err_from_is_err_and c.from_residual-in_err-permitted.result c.from_residual-in_err-permitted.ensures.1 in
    rw (p.1, p.2) (
    use_denied (held_by kept) (view_of kept) c.args.self.now.user.now c.args.root c.args.path.now c.args.changing
    c.args.right c.in_ok-fid.fid (nature_told c.in_ok-fid.status.now) c.in_ok-fid.ensures.tried
    (sym c.is_barred.ensures ∙ c.if-is_barred.false) c.in_err-permitted.field-0.0 c.in_err-permitted.ensures)

pub returns : goal.returns
returns c =
    let kept = c.args.self.now.cache.now in
    use_found (held_by kept) (view_of kept) c.args.self.now.user.now c.args.root c.args.path.now c.args.changing
    c.args.right c.in_ok-fid.fid (nature_told c.in_ok-fid.status.now) c.in_ok-fid.ensures.tried
    (sym c.is_barred.ensures ∙ c.if-is_barred.false) c.in_ok-permitted.ensures
