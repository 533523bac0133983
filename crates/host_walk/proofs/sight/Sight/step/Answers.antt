use Rattle.std.proofs.lemmas.Result.{err_from_is_err_and}
use Rattle.host_walk.specs.Views.{held_by, view_of, nature_told}
use Rattle.host_walk.proofs.Steps.{step_unseen, step_unsearched, step_found, step_missing}
use Rattle.host_walk.proofs.sight.Sight.step.Goals as goal

pub returns-in_err-status : goal.returns-in_err-status
returns-in_err-status c =
    let kept = c.args.self.now.cache.now in
    let p = err_from_is_err_and c.from_residual.result c.from_residual.ensures.1 in
    rw (p.1, p.2) (
    step_unseen (held_by kept) (view_of kept) c.args.self.now.user.now c.args.at c.args.name.now
    c.in_err-status.field-0.0 c.in_err-status.ensures.tried)

pub returns-in_err-entries : goal.returns-in_err-entries
returns-in_err-entries c =
    let kept = c.args.self.now.cache.now in
    let p = err_from_is_err_and c.from_residual-in_err-entries.result c.from_residual-in_err-entries.ensures.1 in
    rw (p.1, p.2) (
    step_unsearched (held_by kept) (view_of kept) c.args.self.now.user.now c.args.at c.args.name.now
    (nature_told c.in_ok-status.status.now) c.in_ok-status.ensures.tried c.in_err-entries.field-0.0
    c.in_err-entries.ensures)

pub returns-in-Some : goal.returns-in-Some
returns-in-Some c =
    let kept = c.args.self.now.cache.now in
    step_found (held_by kept) (view_of kept) c.args.self.now.user.now c.args.at c.args.name.now
    (nature_told c.in_ok-status.status.now) c.in_ok-entries.entries.now c.in-Some.fid c.in_ok-status.ensures.tried
    c.in_ok-entries.ensures c.in-Some.ensures

pub returns-in-None : goal.returns-in-None
returns-in-None c =
    let kept = c.args.self.now.cache.now in
    step_missing (held_by kept) (view_of kept) c.args.self.now.user.now c.args.at c.args.name.now
    (nature_told c.in_ok-status.status.now) c.in_ok-entries.entries.now c.in_ok-status.ensures.tried
    c.in_ok-entries.ensures c.in-None.ensures
