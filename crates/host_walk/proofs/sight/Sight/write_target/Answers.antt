use Rattle.std.proofs.lemmas.Result.{err_from_is_err_and}
use Rattle.std.proofs.Common.{arith}
use Rattle.host_walk.specs.Views.{held_by, view_of, nature_told}
use Rattle.host_walk.proofs.Steps.{size_found}
use Rattle.host_walk.proofs.Writing.{is_more, is_no_more, write_clone, write_fits, write_too_big, write_unfound}
use Rattle.host_walk.proofs.Writing.{write_unseen}
use Rattle.host_walk.proofs.sight.Sight.write_target.Goals as goal

pub returns-in_err-top-clause-tried : goal.returns-in_err-top-clause-tried
returns-in_err-top-clause-tried c =
    let kept = c.args.self.now.cache.now in
    let p = err_from_is_err_and c.from_residual.result c.from_residual.ensures.1 in
    rw (p.1, p.2) (
    write_unseen (held_by kept) (view_of kept) c.args.self.now.user.now c.args.root c.args.path.now c.args.to
    c.in_err-top.field-0.0 c.in_err-top.ensures.tried)

pub returns-then-top-clause-tried : goal.returns-then-top-clause-tried
returns-then-top-clause-tried c =
    let kept = c.args.self.now.cache.now in
    write_clone (held_by kept) (view_of kept) c.args.self.now.user.now c.args.root c.args.path.now c.args.to
    (nature_told c.in_ok-top.top.now) c.in_ok-top.ensures.tried c.if-top.true

pub returns-in_err-found-clause-tried : goal.returns-in_err-found-clause-tried
returns-in_err-found-clause-tried c =
    let kept = c.args.self.now.cache.now in
    let p = err_from_is_err_and c.from_residual-in_err-found.result c.from_residual-in_err-found.ensures.1 in
    rw (p.1, p.2) (
    write_unfound (held_by kept) (view_of kept) c.args.self.now.user.now c.args.root c.args.path.now c.args.to
    (nature_told c.in_ok-top.top.now) c.in_ok-top.ensures.tried c.if-top.false c.in_err-found.field-0.0
    c.in_err-found.ensures.tried)

pub returns-then-to-gt-FILE_BYTES_MAX-clause-tried : goal.returns-then-to-gt-FILE_BYTES_MAX-clause-tried
returns-then-to-gt-FILE_BYTES_MAX-clause-tried c =
    let kept = c.args.self.now.cache.now in
    write_too_big (held_by kept) (view_of kept) c.args.self.now.user.now c.args.root c.args.path.now c.args.to
    (nature_told c.in_ok-top.top.now) c.in_ok-top.ensures.tried c.if-top.false c.in_ok-found.found.0
    (nature_told c.in_ok-found.found.1.now) c.in_ok-found.ensures.tried (is_more 65536 c.args.to (omega arith))

pub returns-clause-tried : goal.returns-clause-tried
returns-clause-tried c =
    let kept = c.args.self.now.cache.now in
    write_fits (held_by kept) (view_of kept) c.args.self.now.user.now c.args.root c.args.path.now c.args.to
    (nature_told c.in_ok-top.top.now) c.in_ok-top.ensures.tried c.if-top.false c.in_ok-found.found.0
    (nature_told c.in_ok-found.found.1.now) c.in_ok-found.ensures.tried (is_no_more 65536 c.args.to (omega arith))

pub returns-clause-size : goal.returns-clause-size
returns-clause-size c =
    size_found c.args.self.now.cache.now c.in_ok-found.found.0 c.in_ok-found.found.1.now c.in_ok-found.ensures.seen
