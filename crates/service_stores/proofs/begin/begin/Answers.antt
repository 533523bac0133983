use Rattle.std.proofs.Common.{◌+◌, ◌*◌, ◌^◌, [], sym, subst, arith, rules}
use Rattle.service_starts.specs.UnderWay.{KeepUnderWay, freed}
use Rattle.store_laws.specs.MoveKeeping.{KeepAll}
use Rattle.service_moves.specs.Batches.{batch_wear}
use Rattle.service_moves.specs.Stores.{states_of, AreStores}
use Rattle.service_moves.specs.Stopping.{IsStopped}
use Rattle.service_moves.specs.Plans.{states_at}
use Rattle.service_moves.proofs.Twice.{never_ok}
use Rattle.service_stores.proofs.Begins.{begins, count_under}
use Rattle.service_stores.proofs.Epochs.{begun_anew}
use Rattle.service_stores.specs.Starting.{HaveBegunAnew}
use Rattle.service_stores.proofs.Doing.{begin_failed, begin_then, moves_begin}
use Rattle.service_stores.proofs.Lists.{ok_map, err_map}
use Rattle.service_stores.proofs.Stores.{ready_of, ready_more, same_then, stores_then, stopped_later}
use Rattle.service_stores.proofs.begin.begin.Goals as goal

pub settle_all-requires-clause-ready : goal.settle_all-requires-clause-ready
settle_all-requires-clause-ready g c = ready_of g.S.Store.view c.args.roster.now (2 * batch_wear) 1 c.args.stores.now c.requires.stores

pub finish_moves-requires-clause-stores : goal.finish_moves-requires-clause-stores
finish_moves-requires-clause-stores g c =
    stores_then g.S.Store.view c.args.roster.now (2 * batch_wear) (2 ^ 46) 1 c.args.stores.now c.settle_all.new.stores c.requires.stores c.settle_all.ensures.same
    (ready_more g.S.Store.view (2 ^ 16) (2 ^ 46) c.settle_all.new.stores (omega arith) c.in_ok-settle_all.ensures.ready)

pub returns-in_err-finish_moves-clause-same : goal.returns-in_err-finish_moves-clause-same
returns-in_err-finish_moves-clause-same g c =
    same_then g.S.Store.view c.args.stores.now c.settle_all.new.stores c.finish_moves.new.stores c.settle_all.ensures.same c.finish_moves.ensures.same

pub returns-in_err-finish_moves-clause-stopped : goal.returns-in_err-finish_moves-clause-stopped
returns-in_err-finish_moves-clause-stopped g c =
    err_map c.from_residual-in_err-finish_moves.result (IsStopped g.S.Store.tells g.S.Store.view [] c.settle_all.new.stores c.finish_moves.new.stores) (IsStopped g.S.Store.tells g.S.Store.view [] c.args.stores.now c.finish_moves.new.stores) (search rules)
    (λ why h. stopped_later g.S.Store.tells g.S.Store.view [] c.args.stores.now c.settle_all.new.stores c.finish_moves.new.stores why c.settle_all.ensures.same h)

pub boot_all-requires-clause-ready : goal.boot_all-requires-clause-ready
boot_all-requires-clause-ready g c =
    let stores = stores_then g.S.Store.view c.args.roster.now (2 * batch_wear) (2 ^ 16) 1 c.args.stores.now c.settle_all.new.stores c.requires.stores c.settle_all.ensures.same c.in_ok-settle_all.ensures.ready in
    ready_more g.S.Store.view (2 ^ 16 + 2048 * 4) (2 ^ 32) c.finish_moves.new.stores (omega arith)
    (ready_of g.S.Store.view c.args.roster.now (2 ^ 16 + 2048 * 4) 1 c.finish_moves.new.stores (c.in_ok-finish_moves.ensures.stores (2 ^ 16) stores))

pub returns-clause-kept : goal.returns-clause-kept
returns-clause-kept g c t storable tree under =
    let stores = stores_then g.S.Store.view c.args.roster.now (2 * batch_wear) (2 ^ 16) 1 c.args.stores.now c.settle_all.new.stores c.requires.stores c.settle_all.ensures.same c.in_ok-settle_all.ensures.ready in
    let finished = c.in_ok-finish_moves.ensures.stores (2 ^ 16) stores in
    let settled = c.in_ok-settle_all.ensures.settled t storable in
    let keeps = c.in_ok-finish_moves.ensures.kept t tree (subst (KeepUnderWay tree) (sym settled) under) in
    ok_map c.boot_all.result (λ _. _) (λ _. KeepAll (λ host. 1) (freed tree) (states_of g.S.Store.view c.boot_all.new.stores)) (c.boot_all.ensures.booted t)
    (λ _ booted. begins g.S.Store.view tree c.args.roster.now (2 ^ 16 + 2048 * 4) c.finish_moves.new.stores c.boot_all.new.stores finished
    (count_under g.S.Store.view c.args.settlings.now c.args.stores.now c.finish_moves.new.stores tree under (grind arith)) keeps booted)

pub returns-clause-stores : goal.returns-clause-stores
returns-clause-stores g c =
    let stores = stores_then g.S.Store.view c.args.roster.now (2 * batch_wear) (2 ^ 16) 1 c.args.stores.now c.settle_all.new.stores c.requires.stores c.settle_all.ensures.same c.in_ok-settle_all.ensures.ready in
    let finished = c.in_ok-finish_moves.ensures.stores (2 ^ 16) stores in
    ok_map c.boot_all.result (λ _. _) (λ _. AreStores g.S.Store.view c.args.roster.now (2 ^ 40) 1 c.boot_all.new.stores) c.boot_all.ensures.ready
    (λ _ ready. stores_then g.S.Store.view c.args.roster.now (2 ^ 16 + 2048 * 4) (2 ^ 40) 1 c.finish_moves.new.stores c.boot_all.new.stores finished c.boot_all.ensures.same ready)

pub returns-clause-same : goal.returns-clause-same
returns-clause-same g c =
    same_then g.S.Store.view c.args.stores.now c.finish_moves.new.stores c.boot_all.new.stores
    (same_then g.S.Store.view c.args.stores.now c.settle_all.new.stores c.finish_moves.new.stores c.settle_all.ensures.same c.finish_moves.ensures.same) c.boot_all.ensures.same

pub returns-clause-stopped : goal.returns-clause-stopped
returns-clause-stopped g c =
    let same = same_then g.S.Store.view c.args.stores.now c.settle_all.new.stores c.finish_moves.new.stores c.settle_all.ensures.same c.finish_moves.ensures.same in
    err_map c.boot_all.result (IsStopped g.S.Store.tells g.S.Store.view [] c.finish_moves.new.stores c.boot_all.new.stores) (IsStopped g.S.Store.tells g.S.Store.view [] c.args.stores.now c.boot_all.new.stores) c.boot_all.ensures.stopped
    (λ why h. stopped_later g.S.Store.tells g.S.Store.view [] c.args.stores.now c.finish_moves.new.stores c.boot_all.new.stores why same h)

pub returns-in_err-settle_all-clause-does : goal.returns-in_err-settle_all-clause-does
returns-in_err-settle_all-clause-does g c t storable tree under =
    begin_failed g.S.Store.view _ c.from_residual.result c.args.stores.now c.settle_all.new.stores (never_ok c.from_residual.result _ c.from_residual.ensures.1) (c.in_err-settle_all.ensures.does t storable)

pub returns-in_err-finish_moves-clause-does : goal.returns-in_err-finish_moves-clause-does
returns-in_err-finish_moves-clause-does g c t storable tree under =
    let view = g.S.Store.view in
    let first = c.in_ok-settle_all.ensures.does t storable in
    let second = c.in_err-finish_moves.ensures.does t tree (subst (KeepUnderWay tree) (sym (c.in_ok-settle_all.ensures.settled t storable)) under) in
    begin_failed view _ c.from_residual-in_err-finish_moves.result c.args.stores.now c.finish_moves.new.stores (never_ok c.from_residual-in_err-finish_moves.result _ c.from_residual-in_err-finish_moves.ensures.1)
    (begin_then view _ _ c.args.stores.now c.settle_all.new.stores c.finish_moves.new.stores first (second.0, moves_begin (states_at view c.settle_all.new.stores) second.0 second.1, second.2))

pub returns-clause-does : goal.returns-clause-does
returns-clause-does g c t storable tree under =
    let view = g.S.Store.view in
    let first = c.in_ok-settle_all.ensures.does t storable in
    let second = c.in_ok-finish_moves.ensures.does t tree (subst (KeepUnderWay tree) (sym (c.in_ok-settle_all.ensures.settled t storable)) under) in
    begin_then view _ _ c.args.stores.now c.finish_moves.new.stores c.boot_all.new.stores
    (begin_then view _ _ c.args.stores.now c.settle_all.new.stores c.finish_moves.new.stores first (second.0, moves_begin (states_at view c.settle_all.new.stores) second.0 second.1, second.2)) (c.boot_all.ensures.does t)

pub returns-clause-begun : goal.returns-clause-begun
returns-clause-begun g c t storable tree under =
    let view = g.S.Store.view in
    let settled = c.in_ok-settle_all.ensures.settled t storable in
    let does = c.in_ok-finish_moves.ensures.does t tree (subst (KeepUnderWay tree) (sym settled) under) in
    ok_map c.boot_all.result (λ _. _) (λ _. HaveBegunAnew (states_of view c.args.stores.now) (states_of view c.boot_all.new.stores)) (c.boot_all.ensures.booted t)
    (λ _ booted. begun_anew view _ c.args.settlings.now _ does.0 c.args.stores.now c.settle_all.new.stores c.finish_moves.new.stores c.boot_all.new.stores settled does.1 does.2 booted)
