use Rattle.std.proofs.Common.{◌∙◌}
use Rattle.service_moves.proofs.Again.{sound_next}
use Rattle.service_moves.proofs.Tries.{again_fits, tried_twice, failed_twice}
use Rattle.service_moves.proofs.Twice.{done_all, done_some, never_ok, opened_leaves, twice_leaves}
use Rattle.service_moves.proofs.batches.apply_batch.Goals as goal

pub returns-clause-does : goal.returns-clause-does
returns-clause-does g c tells again =
    let start = g.S.Store.view c.args.store.now in
    let after = g.S.Store.view c.apply.new.self in
    let opened = g.S.Store.view c.reopen.new.self in
    let end = g.S.Store.view c.apply-2.new.self in
    let batch = c.args.batch.now in
    let first = c.in-Err-Failed.ensures.fault tells (again.fits 0) in
    let same = c.in_ok-reopen.ensures.state tells in
    done_all _ batch start end
    (tried_twice start.state after.state opened.state end.state batch first.0 again first.2 same
    (c.in_ok-apply.ensures.state tells (again_fits start.state after.state opened.state batch first.0 again first.2 same)))
    (twice_leaves start after opened end batch first.0 again first.1 first.2 same (c.in-Err-Failed.ensures.leaves tells) (c.in_ok-reopen.ensures.leaves tells) (c.in_ok-apply.ensures.leaves tells))

pub returns-in_err-apply-clause-does : goal.returns-in_err-apply-clause-does
returns-in_err-apply-clause-does g c tells again =
    let start = g.S.Store.view c.args.store.now in
    let after = g.S.Store.view c.apply.new.self in
    let opened = g.S.Store.view c.reopen.new.self in
    let end = g.S.Store.view c.apply-2.new.self in
    let batch = c.args.batch.now in
    let first = c.in-Err-Failed.ensures.fault tells (again.fits 0) in
    let same = c.in_ok-reopen.ensures.state tells in
    let second = c.in_err-apply.ensures.fault tells (again_fits start.state after.state opened.state batch first.0 again first.2 same) in
    done_some c.from_residual-in_err-apply.result batch start end (never_ok c.from_residual-in_err-apply.result _ c.from_residual-in_err-apply.ensures.1) c.requires.acts.few
    (failed_twice start.state after.state opened.state end.state batch first.0 second.0 again first.1 second.1 first.2 same second.2)
    (twice_leaves start after opened end batch first.0 again first.1 first.2 same (c.in-Err-Failed.ensures.leaves tells) (c.in_ok-reopen.ensures.leaves tells) (c.in_err-apply.ensures.leaves tells))

pub returns-in-Ok-clause-does : goal.returns-in-Ok-clause-does
returns-in-Ok-clause-does g c tells again =
    done_all _ c.args.batch.now (g.S.Store.view c.args.store.now) (g.S.Store.view c.apply.new.self) (c.in-Ok.ensures.state tells (again.fits 0)) (c.in-Ok.ensures.leaves tells)

pub returns-in-Err-Memory-clause-does : goal.returns-in-Err-Memory-clause-does
returns-in-Err-Memory-clause-does g c tells again =
    done_some _ c.args.batch.now (g.S.Store.view c.args.store.now) (g.S.Store.view c.apply.new.self) tt c.requires.acts.few (c.in-Err-Memory.ensures.fault tells (again.fits 0)) (c.in-Err-Memory.ensures.leaves tells)

pub returns-in_err-reopen-clause-does : goal.returns-in_err-reopen-clause-does
returns-in_err-reopen-clause-does g c tells again =
    let start = g.S.Store.view c.args.store.now in
    let after = g.S.Store.view c.apply.new.self in
    let opened = g.S.Store.view c.reopen.new.self in
    let batch = c.args.batch.now in
    let first = c.in-Err-Failed.ensures.fault tells (again.fits 0) in
    done_some c.from_residual.result batch start opened (never_ok c.from_residual.result _ c.from_residual.ensures.1) c.requires.acts.few (first.0, first.1, c.in_err-reopen.ensures.state tells ∙ first.2)
    (opened_leaves start after opened batch first.0 first.1 first.2 (c.in-Err-Failed.ensures.leaves tells) (c.in_err-reopen.ensures.leaves tells))

pub apply-requires-2-clause-acts : goal.apply-requires-2-clause-acts
apply-requires-2-clause-acts g c =
    let first = c.in-Err-Failed.ensures.same in
    let second = c.in_ok-reopen.ensures.same in
    record {
      few = c.requires.acts.few;
      each = sound_next (g.S.Store.view c.args.store.now).state (g.S.Store.view c.reopen.new.self).state c.args.batch.now
          (second.roster ∙ first.roster) (second.server ∙ first.server) c.requires.acts.each;
    }
