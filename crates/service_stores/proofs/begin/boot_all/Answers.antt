use Rattle.std.proofs.Common.{◌≡◌, ◌<◌, ◌≤◌, ◌+◌, ◌^◌, ◌∙◌, [], ◌∷◌, length, get_or, slice_get, Some, refl, arith}
use Rattle.std.specs.Prelude.{Ok}
use Rattle.std.proofs.lemmas.Option.{slice_get-get_or}
use Rattle.store_acts.specs.Acts.{booted}
use Rattle.store_acts.specs.declared.act.Act.TheVariants.{Boot}
use Rattle.service_moves.proofs.Tries.{begins}
use Rattle.service_moves.proofs.Twice.{made_of}
use Rattle.service_stores.proofs.Doing.{begin_none, one_fails, one_more}
use Rattle.service_stores.proofs.Stores.{past_here, past_next, past_start, past_still, past_ready, past_states, same_of, states_map, still_of, still_put, stopped_put}
use Rattle.service_stores.proofs.begin.boot_all.Goals as goal

pub loop-k-init : goal.loop-k-init
loop-k-init g c = record {
  past = past_start g.S.Store.view g.S.Store.tells (2 ^ 32) (2 ^ 40) booted c.args.stores.now c.requires.ready;
  does = λ t. begin_none g.S.Store.view (Ok tt) c.args.stores.now;
}

pub boot-requires : goal.boot-requires
boot-requires g c =
    let lt : c.loop-k.k < length c.loop-k.stores = grind arith in
    let at : slice_get c.loop-k.stores c.loop-k.k ≡ Some (get_or c.loop-k.stores c.loop-k.k c.index-stores-k.result) = slice_get-get_or c.loop-k.stores c.loop-k.k c.index-stores-k.result lt in
    let here = (past_here g.S.Store.view g.S.Store.tells (2 ^ 32) (2 ^ 40) booted c.loop-k.k c.args.stores.now c.loop-k.stores _ c.loop-k.invariant.past lt at).0 in
    let wear = here.wear in
    record { ready = here.ready; wear = omega (arith, wear) }

pub returns-in-Err-clause-same : goal.returns-in-Err-clause-same
returns-in-Err-clause-same g c =
    let lt : c.loop-k.k < length c.loop-k.stores = grind arith in
    let at : slice_get c.loop-k.stores c.loop-k.k ≡ Some (get_or c.loop-k.stores c.loop-k.k c.index-stores-k.result) = slice_get-get_or c.loop-k.stores c.loop-k.k c.index-stores-k.result lt in
    still_put g.S.Store.view c.args.stores.now c.loop-k.stores c.loop-k.k _ c.boot.new.store
    (past_still g.S.Store.view g.S.Store.tells (2 ^ 32) (2 ^ 40) booted c.loop-k.k c.args.stores.now c.loop-k.stores c.loop-k.invariant.past) lt at
    (still_of c.boot.result _ _ c.boot.ensures.same c.boot.ensures.mendable c.boot.ensures.blame)

pub returns-in-Err-clause-stopped : goal.returns-in-Err-clause-stopped
returns-in-Err-clause-stopped g c =
    let lt : c.loop-k.k < length c.loop-k.stores = grind arith in
    let at : slice_get c.loop-k.stores c.loop-k.k ≡ Some (get_or c.loop-k.stores c.loop-k.k c.index-stores-k.result) = slice_get-get_or c.loop-k.stores c.loop-k.k c.index-stores-k.result lt in
    stopped_put g.S.Store.tells g.S.Store.view [] c.args.stores.now c.loop-k.stores c.loop-k.k _ c.boot.new.store (record { 0 = c.loop-k.k + 1 }) c.boot.result c.in-Err.fault c.stopped_at.result lt at
    (past_still g.S.Store.view g.S.Store.tells (2 ^ 32) (2 ^ 40) booted c.loop-k.k c.args.stores.now c.loop-k.stores c.loop-k.invariant.past) refl c.boot.ensures.blame c.in-Err.is c.stopped_at.ensures

pub loop-k-preserved : goal.loop-k-preserved
loop-k-preserved g c =
    let lt : c.loop-k.k < length c.loop-k.stores = grind arith in
    let at : slice_get c.loop-k.stores c.loop-k.k ≡ Some (get_or c.loop-k.stores c.loop-k.k c.index-stores-k.result) = slice_get-get_or c.loop-k.stores c.loop-k.k c.index-stores-k.result lt in
    let here = (past_here g.S.Store.view g.S.Store.tells (2 ^ 32) (2 ^ 40) booted c.loop-k.k c.args.stores.now c.loop-k.stores _ c.loop-k.invariant.past lt at).0 in
    let was = here.wear in
    let wore = c.boot.ensures.wear in
    let store = get_or c.loop-k.stores c.loop-k.k c.index-stores-k.result in
    record {
      past =
          past_next g.S.Store.view g.S.Store.tells (2 ^ 32) (2 ^ 40) booted c.loop-k.k c.args.stores.now c.loop-k.stores _ c.boot.new.store c.loop-k.invariant.past lt at
          (still_of c.boot.result _ _ c.boot.ensures.same c.boot.ensures.mendable c.boot.ensures.blame)
          (record { ready = c.in_default.ensures.ready; mendable = c.boot.ensures.mendable; wear = omega (arith, was, wore) })
          (λ t. made_of _ (Boot ∷ []) (g.S.Store.view store) (g.S.Store.view c.boot.new.store) (c.in_default.ensures.does t) ∙ begins (g.S.Store.view store).state);
      does = λ t. one_more g.S.Store.view _ c.args.stores.now c.loop-k.stores c.loop-k.k store c.boot.new.store Boot tt at (c.in_default.ensures.does t) (c.loop-k.invariant.does t);
    }

pub returns-clause-booted : goal.returns-clause-booted
returns-clause-booted g c t =
    let out : length c.loop-k.stores ≤ c.loop-k.k = grind arith in
    states_map g.S.Store.view booted c.args.stores.now c.loop-k.stores (past_states g.S.Store.view g.S.Store.tells (2 ^ 32) (2 ^ 40) booted c.loop-k.k c.args.stores.now c.loop-k.stores c.loop-k.invariant.past out t)

pub returns-clause-same : goal.returns-clause-same
returns-clause-same g c =
    same_of g.S.Store.view c.args.stores.now c.loop-k.stores (past_still g.S.Store.view g.S.Store.tells (2 ^ 32) (2 ^ 40) booted c.loop-k.k c.args.stores.now c.loop-k.stores c.loop-k.invariant.past)

pub returns-clause-ready : goal.returns-clause-ready
returns-clause-ready g c =
    let out : length c.loop-k.stores ≤ c.loop-k.k = grind arith in
    past_ready g.S.Store.view g.S.Store.tells (2 ^ 32) (2 ^ 40) booted c.loop-k.k c.args.stores.now c.loop-k.stores c.loop-k.invariant.past out

pub returns-in-Err-clause-does : goal.returns-in-Err-clause-does
returns-in-Err-clause-does g c t =
    let lt : c.loop-k.k < length c.loop-k.stores = grind arith in
    let at : slice_get c.loop-k.stores c.loop-k.k ≡ Some (get_or c.loop-k.stores c.loop-k.k c.index-stores-k.result) = slice_get-get_or c.loop-k.stores c.loop-k.k c.index-stores-k.result lt in
    one_fails g.S.Store.view _ c.stopped_at.result c.args.stores.now c.loop-k.stores c.loop-k.k (get_or c.loop-k.stores c.loop-k.k c.index-stores-k.result) c.boot.new.store Boot tt at (c.in-Err.ensures.does t) (c.loop-k.invariant.does t)
