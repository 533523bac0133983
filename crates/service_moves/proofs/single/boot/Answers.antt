use Rattle.std.proofs.Common.{◌≡◌, [], ◌∷◌, take, ap, sym, subst, ◌∙◌, arith}
use Rattle.store_acts.specs.Acts.{state_after}
use Rattle.store_acts.specs.declared.act.Act.TheVariants.{Boot}
use Rattle.store_memory.specs.Views.{Leaves, IsFirstOf}
use Rattle.store_memory.proofs.Doing.{leaves_then}
use Rattle.store_state.specs.declared.state.StoreState.{StoreState}
use Rattle.service_moves.proofs.Tries.{begins, begun, same_begun, not_begun, has_begun}
use Rattle.service_moves.proofs.Twice.{done_all, done_some, never_ok, opened_leaves}
use Rattle.service_moves.proofs.single.boot.Goals as goal

pub returns-in-Ok-clause-does : goal.returns-in-Ok-clause-does
returns-in-Ok-clause-does g c tells =
    done_all _ (Boot ∷ []) (g.S.Store.view c.args.store.now) (g.S.Store.view c.apply.new.self) (c.in-Ok.ensures.state tells (tt, tt)) (c.in-Ok.ensures.leaves tells)

pub returns-in-Err-Memory-clause-does : goal.returns-in-Err-Memory-clause-does
returns-in-Err-Memory-clause-does g c tells =
    done_some _ (Boot ∷ []) (g.S.Store.view c.args.store.now) (g.S.Store.view c.apply.new.self) tt (omega arith) (c.in-Err-Memory.ensures.fault tells (tt, tt)) (c.in-Err-Memory.ensures.leaves tells)

pub returns-in_err-reopen-clause-does : goal.returns-in_err-reopen-clause-does
returns-in_err-reopen-clause-does g c tells =
    let start = g.S.Store.view c.args.store.now in
    let after = g.S.Store.view c.apply.new.self in
    let opened = g.S.Store.view c.reopen.new.self in
    let first = c.in-Err-Failed.ensures.fault tells (tt, tt) in
    done_some c.from_residual.result (Boot ∷ []) start opened (never_ok c.from_residual.result _ c.from_residual.ensures.1) (omega arith) (first.0, first.1, c.in_err-reopen.ensures.state tells ∙ first.2)
    (opened_leaves start after opened (Boot ∷ []) first.0 first.1 first.2 (c.in-Err-Failed.ensures.leaves tells) (c.in_err-reopen.ensures.leaves tells))

pub returns-in_err-apply-clause-does : goal.returns-in_err-apply-clause-does
returns-in_err-apply-clause-does g c tells =
    let start = g.S.Store.view c.args.store.now in
    let after = g.S.Store.view c.apply.new.self in
    let opened = g.S.Store.view c.reopen.new.self in
    let end = g.S.Store.view c.apply-then-epoch.new.self in
    let first = c.in-Err-Failed.ensures.fault tells (tt, tt) in
    let so_far = same_begun start.state after.state opened.state (c.in_ok-reopen.ensures.state tells) (begun start.state after.state first) in
    let same : opened.state.epoch ≡ start.state.epoch = (let a = c.epoch.ensures tells in let b = c.epoch-epoch.ensures tells in let t = c.if-epoch.true in omega (arith, a, b, t)) in
    let is : opened.state ≡ start.state = not_begun start.state opened.state same so_far in
    let second = c.in_err-apply.ensures.fault tells (tt, tt) in
    done_some c.from_residual-in_err-apply.result (Boot ∷ []) start end (never_ok c.from_residual-in_err-apply.result _ c.from_residual-in_err-apply.ensures.1) (omega arith)
    (second.0, second.1, second.2 ∙ ap (λ (s : StoreState). state_after s (take second.0 (Boot ∷ []))) is)
    (leaves_then (opened_leaves start after opened (Boot ∷ []) first.0 first.1 first.2 (c.in-Err-Failed.ensures.leaves tells) (c.in_ok-reopen.ensures.leaves tells))
    (subst (λ (s : StoreState). Leaves (IsFirstOf s (Boot ∷ [])) opened end) is (c.in_err-apply.ensures.leaves tells)))

pub returns-in_ok-apply-clause-does : goal.returns-in_ok-apply-clause-does
returns-in_ok-apply-clause-does g c tells =
    let start = g.S.Store.view c.args.store.now in
    let after = g.S.Store.view c.apply.new.self in
    let opened = g.S.Store.view c.reopen.new.self in
    let end = g.S.Store.view c.apply-then-epoch.new.self in
    let first = c.in-Err-Failed.ensures.fault tells (tt, tt) in
    let so_far = same_begun start.state after.state opened.state (c.in_ok-reopen.ensures.state tells) (begun start.state after.state first) in
    let same : opened.state.epoch ≡ start.state.epoch = (let a = c.epoch.ensures tells in let b = c.epoch-epoch.ensures tells in let t = c.if-epoch.true in omega (arith, a, b, t)) in
    let is : opened.state ≡ start.state = not_begun start.state opened.state same so_far in
    done_all _ (Boot ∷ []) start end (c.in_ok-apply.ensures.state tells (tt, tt) ∙ ap (λ (s : StoreState). state_after s (Boot ∷ [])) is)
    (leaves_then (opened_leaves start after opened (Boot ∷ []) first.0 first.1 first.2 (c.in-Err-Failed.ensures.leaves tells) (c.in_ok-reopen.ensures.leaves tells))
    (subst (λ (s : StoreState). Leaves (IsFirstOf s (Boot ∷ [])) opened end) is (c.in_ok-apply.ensures.leaves tells)))

pub returns-else-epoch-clause-does : goal.returns-else-epoch-clause-does
returns-else-epoch-clause-does g c tells =
    let start = g.S.Store.view c.args.store.now in
    let after = g.S.Store.view c.apply.new.self in
    let opened = g.S.Store.view c.reopen.new.self in
    let first = c.in-Err-Failed.ensures.fault tells (tt, tt) in
    done_all _ (Boot ∷ []) start opened
    (has_begun start.state opened.state (λ e. let a = c.epoch.ensures tells in let b = c.epoch-epoch.ensures tells in let t = c.if-epoch.false in omega (arith, a, b, t, e))
    (same_begun start.state after.state opened.state (c.in_ok-reopen.ensures.state tells) (begun start.state after.state first)) ∙ sym (begins start.state))
    (opened_leaves start after opened (Boot ∷ []) first.0 first.1 first.2 (c.in-Err-Failed.ensures.leaves tells) (c.in_ok-reopen.ensures.leaves tells))
