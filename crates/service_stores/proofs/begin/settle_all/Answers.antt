use Rattle.std.proofs.Common.{◌≡◌, ◌-◌, ◌<◌, [], ◌∷◌, length, get_or, slice_get, Some, arith}
use Rattle.std.specs.Prelude.{Ok}
use Rattle.std.proofs.lemmas.Option.{slice_get-get_or}
use Rattle.service_starts.specs.declared.fitting.Settling.{Settling}
use Rattle.store_acts.specs.declared.act.Act.TheVariants.{Settle}
use Rattle.service_moves.proofs.Twice.{made_of}
use Rattle.service_stores.proofs.Doing.{begin_none, one_fails, one_more, settle_does, settled_again}
use Rattle.service_stores.proofs.Settles.{place_of, settled_here, settled_next, settled_start, settled_still, settled_ready, settled_states, settles_of}
use Rattle.service_stores.proofs.Stores.{same_of, still_of, still_put, stopped_put}
use Rattle.service_stores.proofs.begin.settle_all.Goals as goal

abbrev nothing : Settling
nothing = record { server = record { 0 = 0 }; fileset = record { 0 = 0 } }

pub loop-settling-init : goal.loop-settling-init
loop-settling-init g c = record {
  all = settled_start g.S.Store.view g.S.Store.tells c.args.settlings.now c.args.stores.now c.requires.ready;
  does = λ t storable. begin_none g.S.Store.view (Ok tt) c.args.stores.now;
}

pub apply_once-requires-clause-ready : goal.apply_once-requires-clause-ready
apply_once-requires-clause-ready g c =
    let i = c.loop-settling.settling-index in
    let less : i < length c.args.settlings.now = c.loop-settling-test.true in
    let settling = get_or c.args.settlings.now i nothing in
    let found : slice_get c.args.settlings.now i ≡ Some settling = slice_get-get_or c.args.settlings.now i nothing less in
    let place = place_of (length c.args.stores.now) (length c.loop-settling.stores) c.args.settlings.now i settling found c.requires.there c.loop-settling.auto.stores in
    let at = slice_get-get_or c.loop-settling.stores (settling.server.0 - 1) c.index-stores-server.result place.there in
    (settled_here g.S.Store.view g.S.Store.tells c.args.settlings.now i (settling.server.0 - 1) c.args.stores.now c.loop-settling.stores _ c.loop-settling.invariant.all place.there at).ready

pub apply_once-requires-clause-wear : goal.apply_once-requires-clause-wear
apply_once-requires-clause-wear g c =
    let i = c.loop-settling.settling-index in
    let less : i < length c.args.settlings.now = c.loop-settling-test.true in
    let settling = get_or c.args.settlings.now i nothing in
    let found : slice_get c.args.settlings.now i ≡ Some settling = slice_get-get_or c.args.settlings.now i nothing less in
    let place = place_of (length c.args.stores.now) (length c.loop-settling.stores) c.args.settlings.now i settling found c.requires.there c.loop-settling.auto.stores in
    let at = slice_get-get_or c.loop-settling.stores (settling.server.0 - 1) c.index-stores-server.result place.there in
    let wear = (settled_here g.S.Store.view g.S.Store.tells c.args.settlings.now i (settling.server.0 - 1) c.args.stores.now c.loop-settling.stores _ c.loop-settling.invariant.all place.there at).wear in
    let few = c.requires.few in
    omega (arith, wear, less, few)

pub returns-in-Err-clause-same : goal.returns-in-Err-clause-same
returns-in-Err-clause-same g c =
    let i = c.loop-settling.settling-index in
    let less : i < length c.args.settlings.now = c.loop-settling-test.true in
    let settling = get_or c.args.settlings.now i nothing in
    let found : slice_get c.args.settlings.now i ≡ Some settling = slice_get-get_or c.args.settlings.now i nothing less in
    let place = place_of (length c.args.stores.now) (length c.loop-settling.stores) c.args.settlings.now i settling found c.requires.there c.loop-settling.auto.stores in
    let at = slice_get-get_or c.loop-settling.stores (settling.server.0 - 1) c.index-stores-server.result place.there in
    still_put g.S.Store.view c.args.stores.now c.loop-settling.stores (settling.server.0 - 1) _ c.apply_once.new.store
    (settled_still g.S.Store.view g.S.Store.tells c.args.settlings.now i c.args.stores.now c.loop-settling.stores c.loop-settling.invariant.all) place.there at
    (still_of c.apply_once.result _ _ c.apply_once.ensures.same c.apply_once.ensures.mendable c.apply_once.ensures.blame)

pub returns-in-Err-clause-stopped : goal.returns-in-Err-clause-stopped
returns-in-Err-clause-stopped g c =
    let i = c.loop-settling.settling-index in
    let less : i < length c.args.settlings.now = c.loop-settling-test.true in
    let settling = get_or c.args.settlings.now i nothing in
    let found : slice_get c.args.settlings.now i ≡ Some settling = slice_get-get_or c.args.settlings.now i nothing less in
    let place = place_of (length c.args.stores.now) (length c.loop-settling.stores) c.args.settlings.now i settling found c.requires.there c.loop-settling.auto.stores in
    let at = slice_get-get_or c.loop-settling.stores (settling.server.0 - 1) c.index-stores-server.result place.there in
    stopped_put g.S.Store.tells g.S.Store.view [] c.args.stores.now c.loop-settling.stores (settling.server.0 - 1) _ c.apply_once.new.store settling.server c.apply_once.result c.in-Err.fault c.stopped_at.result place.there at
    (settled_still g.S.Store.view g.S.Store.tells c.args.settlings.now i c.args.stores.now c.loop-settling.stores c.loop-settling.invariant.all) place.own c.apply_once.ensures.blame c.in-Err.is c.stopped_at.ensures

pub loop-settling-preserved : goal.loop-settling-preserved
loop-settling-preserved g c =
    let i = c.loop-settling.settling-index in
    let less : i < length c.args.settlings.now = c.loop-settling-test.true in
    let settling = get_or c.args.settlings.now i nothing in
    let found : slice_get c.args.settlings.now i ≡ Some settling = slice_get-get_or c.args.settlings.now i nothing less in
    let place = place_of (length c.args.stores.now) (length c.loop-settling.stores) c.args.settlings.now i settling found c.requires.there c.loop-settling.auto.stores in
    let at = slice_get-get_or c.loop-settling.stores (settling.server.0 - 1) c.index-stores-server.result place.there in
    let now = get_or c.loop-settling.stores (settling.server.0 - 1) c.index-stores-server.result in
    record {
      all =
          settled_next g.S.Store.view g.S.Store.tells c.args.settlings.now i settling (settling.server.0 - 1) c.args.stores.now c.loop-settling.stores _ c.apply_once.new.store c.loop-settling.invariant.all place.there at found
          place.own (still_of c.apply_once.result _ _ c.apply_once.ensures.same c.apply_once.ensures.mendable c.apply_once.ensures.blame) c.in_default.ensures.ready c.apply_once.ensures.wear
          (settles_of (g.S.Store.view now) (g.S.Store.view c.apply_once.new.store) settling g.S.Store.tells c.act.result c.act.ensures
          (λ t fits again. made_of _ (c.act.result ∷ []) (g.S.Store.view now) (g.S.Store.view c.apply_once.new.store) (c.in_default.ensures.does t fits again)));
      does = λ t storable.
          one_more g.S.Store.view _ c.args.stores.now c.loop-settling.stores (settling.server.0 - 1) now c.apply_once.new.store (Settle settling.fileset) tt at
          (settle_does _ (g.S.Store.view now) (g.S.Store.view c.apply_once.new.store) settling c.act.result c.act.ensures
          (settled_again g.S.Store.view g.S.Store.tells c.args.settlings.now i (settling.server.0 - 1) settling c.args.stores.now c.loop-settling.stores now c.loop-settling.invariant.all place.there at t storable)
          (c.in_default.ensures.does t))
          (c.loop-settling.invariant.does t storable);
    }

pub returns-clause-settled : goal.returns-clause-settled
returns-clause-settled g c t storable =
    settled_states g.S.Store.view g.S.Store.tells c.args.settlings.now c.loop-settling.settling-index c.args.stores.now c.loop-settling.stores c.loop-settling.invariant.all c.loop-settling-test.false t storable

pub returns-clause-same : goal.returns-clause-same
returns-clause-same g c =
    same_of g.S.Store.view c.args.stores.now c.loop-settling.stores
    (settled_still g.S.Store.view g.S.Store.tells c.args.settlings.now c.loop-settling.settling-index c.args.stores.now c.loop-settling.stores c.loop-settling.invariant.all)

pub returns-clause-ready : goal.returns-clause-ready
returns-clause-ready g c =
    let few = c.requires.few in
    let end = c.loop-settling.auto.settling-index-end in
    settled_ready g.S.Store.view g.S.Store.tells c.args.settlings.now c.loop-settling.settling-index c.args.stores.now c.loop-settling.stores c.loop-settling.invariant.all (omega (arith, few, end))

pub returns-in-Err-clause-does : goal.returns-in-Err-clause-does
returns-in-Err-clause-does g c t storable =
    let i = c.loop-settling.settling-index in
    let less : i < length c.args.settlings.now = c.loop-settling-test.true in
    let settling = get_or c.args.settlings.now i nothing in
    let found : slice_get c.args.settlings.now i ≡ Some settling = slice_get-get_or c.args.settlings.now i nothing less in
    let place = place_of (length c.args.stores.now) (length c.loop-settling.stores) c.args.settlings.now i settling found c.requires.there c.loop-settling.auto.stores in
    let at = slice_get-get_or c.loop-settling.stores (settling.server.0 - 1) c.index-stores-server.result place.there in
    let now = get_or c.loop-settling.stores (settling.server.0 - 1) c.index-stores-server.result in
    one_fails g.S.Store.view _ c.stopped_at.result c.args.stores.now c.loop-settling.stores (settling.server.0 - 1) now c.apply_once.new.store (Settle settling.fileset) tt at
    (settle_does _ (g.S.Store.view now) (g.S.Store.view c.apply_once.new.store) settling c.act.result c.act.ensures
    (settled_again g.S.Store.view g.S.Store.tells c.args.settlings.now i (settling.server.0 - 1) settling c.args.stores.now c.loop-settling.stores now c.loop-settling.invariant.all place.there at t storable)
    (c.in-Err.ensures.does t))
    (c.loop-settling.invariant.does t storable)
