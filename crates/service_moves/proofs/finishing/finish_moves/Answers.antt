use Rattle.std.proofs.Common.{◌+◌, ◌-◌, ◌*◌, ◌^◌, ◌++◌, [], sym, ◌∙◌, arith}
use Rattle.std.specs.Prelude.{Result, Ok, Err}
use Rattle.base_types.specs.declared.limits.TheConstants.{SERVERS_MAX}
use Rattle.service_moves.specs.Batches.{batch_wear}
use Rattle.service_moves.specs.Plans.{states_at}
use Rattle.service_moves.specs.Stores.{states_of}
use Rattle.service_moves.specs.declared.stopped.RunStopped.{RunStopped}
use Rattle.service_moves.proofs.Doing.{steps_none, steps_then}
use Rattle.service_moves.proofs.Whole.{moves_behind, moves_none}
use Rattle.service_moves.proofs.Finished.{all_finished, few_servers, finished_more, finished_none}
use Rattle.service_moves.proofs.Stores.{all_mendable, all_more, all_then, goes_same, goes_stopped, goes_stores, map_length, none_goes}
use Rattle.service_moves.proofs.finishing.finish_moves.Goals as goal

pub loop-k-init : goal.loop-k-init
loop-k-init g c = record {
  goes = none_goes g.S.Store.view 0 tt c.args.stores.now (all_mendable g.S.Store.view c.args.roster.now (2 ^ 46) c.args.stores.now c.requires.stores);
  finished = λ t tree keep. finished_none tree (states_of g.S.Store.view c.args.stores.now) keep;
  does = λ t tree keep. ([], moves_none (λ act. ⊥) (states_at g.S.Store.view c.args.stores.now), steps_none g.S.Store.view (Ok tt) c.args.stores.now);
}

pub finish_from-requires : goal.finish_from-requires
finish_from-requires g c =
    let roster = c.args.roster.now in
    let goes = c.loop-k.invariant.goes in
    let few = few_servers roster c.requires.limits in
    let low = c.loop-k-test.true in
    record {
      have = record {
        roster = roster;
        count = goes.count ∙ c.requires.count;
        are = goes_stores g.S.Store.view tt (2 ^ 13) (2 ^ 46) roster c.args.stores.now c.loop-k.stores
            (all_more g.S.Store.view (67 * batch_wear * c.loop-k.k) (2 ^ 13) (Ok tt) c.args.stores.now c.loop-k.stores (omega (arith, few, low)) goes) c.requires.stores;
        is_from = record { first = omega arith; last = omega (arith, low) };
      };
    }

pub loop-k-preserved : goal.loop-k-preserved
loop-k-preserved g c =
    let inv = c.loop-k.invariant in
    let k = c.loop-k.k in
    let start = c.args.stores.now in
    let old = c.loop-k.stores in
    let new = c.finish_from.new.stores in
    let done = c.in-Ok.ensures in
    record {
      goes = all_then g.S.Store.view tt (67 * batch_wear * k) (67 * batch_wear) (67 * batch_wear * (k + 1)) (Ok tt) start old new (omega arith) inv.goes done.goes_on;
      finished = λ t tree keep.
          (let so_far = inv.finished t tree keep in
          finished_more tree k ((k + 1) - 1) (states_of g.S.Store.view old) (states_of g.S.Store.view new) (omega arith)
          (map_length (λ store. (g.S.Store.view store).state) new ∙ done.goes_on.count ∙ sym (map_length (λ store. (g.S.Store.view store).state) old))
          so_far (done.finished t so_far.after so_far.keep));
      does = λ t tree keep.
          (let so_far = inv.does t tree keep in
          let more = done.does t (inv.finished t tree keep).after (inv.finished t tree keep).keep in
          (so_far.0 ++ more.0, moves_behind (λ act. ⊥) g.S.Store.view tt so_far.0 more.0 start old so_far.1 so_far.2 more.1, steps_then g.S.Store.view tt (Ok tt) so_far.0 more.0 start old new so_far.2 more.2));
    }

pub returns-in-Err-clause-same : goal.returns-in-Err-clause-same
returns-in-Err-clause-same g c =
    let failed : Result (Unit {0}) RunStopped = Err c.in-Err.stopped in
    goes_same g.S.Store.view (67 * batch_wear * (c.loop-k.k + 1)) failed c.args.stores.now c.finish_from.new.stores
    (all_then g.S.Store.view tt (67 * batch_wear * c.loop-k.k) (67 * batch_wear) (67 * batch_wear * (c.loop-k.k + 1)) failed c.args.stores.now c.loop-k.stores c.finish_from.new.stores
    (omega arith) c.loop-k.invariant.goes c.in-Err.ensures.goes_on)

pub returns-in-Err-clause-stopped : goal.returns-in-Err-clause-stopped
returns-in-Err-clause-stopped g c =
    let failed : Result (Unit {0}) RunStopped = Err c.in-Err.stopped in
    goes_stopped g.S.Store.view g.S.Store.tells (67 * batch_wear * (c.loop-k.k + 1)) failed c.args.stores.now c.finish_from.new.stores
    (all_then g.S.Store.view tt (67 * batch_wear * c.loop-k.k) (67 * batch_wear) (67 * batch_wear * (c.loop-k.k + 1)) failed c.args.stores.now c.loop-k.stores c.finish_from.new.stores
    (omega arith) c.loop-k.invariant.goes c.in-Err.ensures.goes_on)

pub returns-clause-kept : goal.returns-clause-kept
returns-clause-kept g c tells tree keep =
    let inv = c.loop-k.invariant in
    let past = c.loop-k-test.false in
    let count = inv.goes.count in
    let all = c.requires.count in
    let size = map_length (λ store. (g.S.Store.view store).state) c.loop-k.stores in
    all_finished tree c.loop-k.k (states_of g.S.Store.view c.loop-k.stores) (omega (arith, past, count, all, size)) (inv.finished tells tree keep)

pub returns-clause-same : goal.returns-clause-same
returns-clause-same g c = goes_same g.S.Store.view (67 * batch_wear * c.loop-k.k) (Ok tt) c.args.stores.now c.loop-k.stores c.loop-k.invariant.goes

pub returns-clause-stores : goal.returns-clause-stores
returns-clause-stores g c worn are =
    let few = few_servers c.args.roster.now c.requires.limits in
    let end = c.loop-k.auto.k-end in
    goes_stores g.S.Store.view tt (2048 * SERVERS_MAX) worn c.args.roster.now c.args.stores.now c.loop-k.stores
    (all_more g.S.Store.view (67 * batch_wear * c.loop-k.k) (2048 * SERVERS_MAX) (Ok tt) c.args.stores.now c.loop-k.stores (omega (arith, few, end)) c.loop-k.invariant.goes) are

pub returns-in-Err-clause-does : goal.returns-in-Err-clause-does
returns-in-Err-clause-does g c tells tree keep =
    let inv = c.loop-k.invariant in
    let so_far = inv.does tells tree keep in
    let more = c.in-Err.ensures.does tells (inv.finished tells tree keep).after (inv.finished tells tree keep).keep in
    (so_far.0 ++ more.0, moves_behind (λ act. ⊥) g.S.Store.view tt so_far.0 more.0 c.args.stores.now c.loop-k.stores so_far.1 so_far.2 more.1, steps_then g.S.Store.view tt (Err c.in-Err.stopped) so_far.0 more.0 c.args.stores.now c.loop-k.stores c.finish_from.new.stores so_far.2 more.2)
