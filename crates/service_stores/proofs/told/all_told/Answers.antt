use Rattle.std.proofs.Common.{◌≡◌, ◌<◌, ◌≤◌, ◌+◌, ◌*◌, [], length, get_or, slice_get, Some, take, refl, subst, arith, rules}
use Rattle.std.proofs.lemmas.Grind.{common_steps}
use Rattle.std.proofs.lemmas.Option.{slice_get-get_or}
use Rattle.service_moves.specs.Batches.{batch_wear}
use Rattle.std.specs.Prelude.{Ok}
use Rattle.service_moves.proofs.Doing.{steps_ok}
use Rattle.service_starts.proofs.CheckFormed.{get_some}
use Rattle.service_stores.proofs.Doing.{one_asked}
use Rattle.service_stores.proofs.Stores.{past_here, past_next, past_still, past_ready, past_states, same_of, states_same, states_put, still_put, stopped_put}
use Rattle.service_stores.proofs.Telling.{told_next, told_whole}
use Rattle.service_stores.proofs.told.all_told.Goals as goal
use Rattle.service_stores.specs.Starting.{told_by}

pub told_by-requires : goal.told_by-requires
told_by-requires g c =
    let lt : c.loop-k.k < length c.loop-k.stores = grind arith in
    let at : slice_get c.loop-k.stores c.loop-k.k ≡ Some (get_or c.loop-k.stores c.loop-k.k c.index-stores-k.result) = slice_get-get_or c.loop-k.stores c.loop-k.k c.index-stores-k.result lt in
    let here = (past_here g.S.Store.view g.S.Store.tells 0 (2 * batch_wear) (λ state. state) c.loop-k.k c.args.stores.now c.loop-k.stores _ c.loop-k.invariant.past lt at).0 in
    let wear = here.wear in
    record { ready = here.ready; wear = omega (arith, wear) }

pub returns-in_err-push-in-Ok-clause-same : goal.returns-in_err-push-in-Ok-clause-same
returns-in_err-push-in-Ok-clause-same g c =
    let lt : c.loop-k.k < length c.loop-k.stores = grind arith in
    let at : slice_get c.loop-k.stores c.loop-k.k ≡ Some (get_or c.loop-k.stores c.loop-k.k c.index-stores-k.result) = slice_get-get_or c.loop-k.stores c.loop-k.k c.index-stores-k.result lt in
    still_put g.S.Store.view c.args.stores.now c.loop-k.stores c.loop-k.k _ c.told_by.new.store
    (past_still g.S.Store.view g.S.Store.tells 0 (2 * batch_wear) (λ state. state) c.loop-k.k c.args.stores.now c.loop-k.stores c.loop-k.invariant.past) lt at c.told_by.ensures.still

pub returns-in-Err-clause-same : goal.returns-in-Err-clause-same
returns-in-Err-clause-same g c =
    let lt : c.loop-k.k < length c.loop-k.stores = grind arith in
    let at : slice_get c.loop-k.stores c.loop-k.k ≡ Some (get_or c.loop-k.stores c.loop-k.k c.index-stores-k.result) = slice_get-get_or c.loop-k.stores c.loop-k.k c.index-stores-k.result lt in
    still_put g.S.Store.view c.args.stores.now c.loop-k.stores c.loop-k.k _ c.told_by.new.store
    (past_still g.S.Store.view g.S.Store.tells 0 (2 * batch_wear) (λ state. state) c.loop-k.k c.args.stores.now c.loop-k.stores c.loop-k.invariant.past) lt at c.told_by.ensures.still

pub returns-in-Err-clause-stopped : goal.returns-in-Err-clause-stopped
returns-in-Err-clause-stopped g c =
    let lt : c.loop-k.k < length c.loop-k.stores = grind arith in
    let at : slice_get c.loop-k.stores c.loop-k.k ≡ Some (get_or c.loop-k.stores c.loop-k.k c.index-stores-k.result) = slice_get-get_or c.loop-k.stores c.loop-k.k c.index-stores-k.result lt in
    stopped_put g.S.Store.tells g.S.Store.view [] c.args.stores.now c.loop-k.stores c.loop-k.k _ c.told_by.new.store (record { 0 = c.loop-k.k + 1 }) c.told_by.result c.in-Err.fault c.stopped_at.result lt at
    (past_still g.S.Store.view g.S.Store.tells 0 (2 * batch_wear) (λ state. state) c.loop-k.k c.args.stores.now c.loop-k.stores c.loop-k.invariant.past) refl c.told_by.ensures.blame c.in-Err.is c.stopped_at.ensures

pub loop-k-preserved : goal.loop-k-preserved
loop-k-preserved g c =
    let lt : c.loop-k.k < length c.loop-k.stores = grind arith in
    let at : slice_get c.loop-k.stores c.loop-k.k ≡ Some (get_or c.loop-k.stores c.loop-k.k c.index-stores-k.result) = slice_get-get_or c.loop-k.stores c.loop-k.k c.index-stores-k.result lt in
    let here = past_here g.S.Store.view g.S.Store.tells 0 (2 * batch_wear) (λ state. state) c.loop-k.k c.args.stores.now c.loop-k.stores _ c.loop-k.invariant.past lt at in
    let was = here.0.wear in
    let wore = c.told_by.ensures.wear in
    let size = c.loop-k.invariant.past.count in
    let before = get_some c.args.stores.now c.loop-k.k (omega (arith, lt, size)) in
    record {
      past = past_next g.S.Store.view g.S.Store.tells 0 (2 * batch_wear) (λ state. state) c.loop-k.k c.args.stores.now c.loop-k.stores _ c.told_by.new.store c.loop-k.invariant.past lt at c.told_by.ensures.still
          (record { ready = c.in-Ok.ensures.ready; mendable = c.told_by.ensures.still.mendable; wear = omega (arith, was, wore) }) (λ t. c.told_by.ensures.state t);
      told = λ t. told_next g.S.Store.view c.args.disks c.loop-k.k c.args.stores.now before.0 _ c.loop-k.all c.push.new.self c.in-Ok.told before.1 (c.loop-k.invariant.told t) (here.1 t before.0 before.1)
          (c.in-Ok.ensures.told t) (search rules);
      count = grind (arith, common_steps);
      does = λ t. one_asked g.S.Store.view (Ok tt) c.args.stores.now c.loop-k.stores c.loop-k.k (get_or c.loop-k.stores c.loop-k.k c.index-stores-k.result) c.told_by.new.store at (c.told_by.ensures.state t) (c.told_by.ensures.leaves t) (c.loop-k.invariant.does t);
    }

pub returns-clause-told : goal.returns-clause-told
returns-clause-told g c t =
    let out : length c.args.stores.now ≤ c.loop-k.k = grind arith in
    let told : c.loop-k.all ≡ take c.loop-k.k (told_by g.S.Store.view c.args.disks c.args.stores.now) = c.loop-k.invariant.told t in
    subst (λ those. c.loop-k.all ≡ those) (told_whole g.S.Store.view c.args.disks c.loop-k.k c.args.stores.now out) told

pub returns-clause-states : goal.returns-clause-states
returns-clause-states g c t =
    let out : length c.loop-k.stores ≤ c.loop-k.k = grind arith in
    states_same g.S.Store.view c.args.stores.now c.loop-k.stores (past_states g.S.Store.view g.S.Store.tells 0 (2 * batch_wear) (λ state. state) c.loop-k.k c.args.stores.now c.loop-k.stores c.loop-k.invariant.past out t)

pub returns-clause-same : goal.returns-clause-same
returns-clause-same g c =
    same_of g.S.Store.view c.args.stores.now c.loop-k.stores (past_still g.S.Store.view g.S.Store.tells 0 (2 * batch_wear) (λ state. state) c.loop-k.k c.args.stores.now c.loop-k.stores c.loop-k.invariant.past)

pub returns-clause-ready : goal.returns-clause-ready
returns-clause-ready g c =
    let out : length c.loop-k.stores ≤ c.loop-k.k = grind arith in
    past_ready g.S.Store.view g.S.Store.tells 0 (2 * batch_wear) (λ state. state) c.loop-k.k c.args.stores.now c.loop-k.stores c.loop-k.invariant.past out

pub returns-in_err-push-in-Ok-clause-states : goal.returns-in_err-push-in-Ok-clause-states
returns-in_err-push-in-Ok-clause-states g c t =
    let lt : c.loop-k.k < length c.loop-k.stores = grind arith in
    let at : slice_get c.loop-k.stores c.loop-k.k ≡ Some (get_or c.loop-k.stores c.loop-k.k c.index-stores-k.result) = slice_get-get_or c.loop-k.stores c.loop-k.k c.index-stores-k.result lt in
    states_put g.S.Store.view g.S.Store.tells 0 (2 * batch_wear) c.loop-k.k c.args.stores.now c.loop-k.stores _ c.told_by.new.store c.loop-k.invariant.past lt at t (c.told_by.ensures.state t)

pub returns-in-Err-clause-states : goal.returns-in-Err-clause-states
returns-in-Err-clause-states g c t =
    let lt : c.loop-k.k < length c.loop-k.stores = grind arith in
    let at : slice_get c.loop-k.stores c.loop-k.k ≡ Some (get_or c.loop-k.stores c.loop-k.k c.index-stores-k.result) = slice_get-get_or c.loop-k.stores c.loop-k.k c.index-stores-k.result lt in
    states_put g.S.Store.view g.S.Store.tells 0 (2 * batch_wear) c.loop-k.k c.args.stores.now c.loop-k.stores _ c.told_by.new.store c.loop-k.invariant.past lt at t (c.told_by.ensures.state t)

-- one more was asked
pub returns-in_err-push-in-Ok-clause-does : goal.returns-in_err-push-in-Ok-clause-does
returns-in_err-push-in-Ok-clause-does g c t =
    let lt : c.loop-k.k < length c.loop-k.stores = grind arith in
    let store = get_or c.loop-k.stores c.loop-k.k c.index-stores-k.result in
    let at : slice_get c.loop-k.stores c.loop-k.k ≡ Some store = slice_get-get_or c.loop-k.stores c.loop-k.k c.index-stores-k.result lt in
    one_asked g.S.Store.view _ c.args.stores.now c.loop-k.stores c.loop-k.k store c.told_by.new.store at (c.told_by.ensures.state t) (c.told_by.ensures.leaves t) (c.loop-k.invariant.does t)

pub returns-in-Err-clause-does : goal.returns-in-Err-clause-does
returns-in-Err-clause-does g c t =
    let lt : c.loop-k.k < length c.loop-k.stores = grind arith in
    let store = get_or c.loop-k.stores c.loop-k.k c.index-stores-k.result in
    let at : slice_get c.loop-k.stores c.loop-k.k ≡ Some store = slice_get-get_or c.loop-k.stores c.loop-k.k c.index-stores-k.result lt in
    one_asked g.S.Store.view _ c.args.stores.now c.loop-k.stores c.loop-k.k store c.told_by.new.store at (c.told_by.ensures.state t) (c.told_by.ensures.leaves t) (c.loop-k.invariant.does t)

pub returns-clause-does : goal.returns-clause-does
returns-clause-does g c t = steps_ok g.S.Store.view _ _ [] c.args.stores.now c.loop-k.stores (c.loop-k.invariant.does t)
