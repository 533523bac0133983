use Rattle.std.proofs.Common.{◌+◌, [], ◌∷◌, ◌++◌, ◌∙◌, length, sym, ap, subst}
use Rattle.std.proofs.lemmas.List.{length_push}
use Rattle.service_hosts.proofs.Serving.{epochs_more, ready_there}
use Rattle.service_hosts.proofs.nodes.epochs_of.Goals as goal

pub epoch-requires : goal.epoch-requires
epoch-requires g c =
    let r = c.requires.ready in
    record {
      ready = subst (λ (x : g.row.S.Denot). (g.S.Store.view x).ready) (sym c.store-item.is)
          (ready_there g.S.Store.view r.0 r.1.0 1 c.args.stores.now c.loop-store.store-index c.store-item.result r.1.1
          c.loop-store-test.true);
    }

pub loop-store-preserved : goal.loop-store-preserved
loop-store-preserved g c = record {
  told = λ t.
      epochs_more g.S.Store.view c.args.stores.now c.loop-store.store-index c.store-item.result c.loop-store.epochs
      c.push.new.self c.loop-store-test.true (c.loop-store.invariant.told t)
      (c.in_ok-push.ensures.ok
      ∙ ap (λ n. c.loop-store.epochs ++ n ∷ [])
      (c.epoch.ensures t ∙ ap (λ (x : g.row.S.Denot). (g.S.Store.view x).state.epoch) c.store-item.is));
  many = ap length c.in_ok-push.ensures.ok ∙ length_push c.loop-store.epochs c.epoch.result
      ∙ ap (λ k. k + 1) c.loop-store.invariant.many;
}
