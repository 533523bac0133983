use Rattle.service_watch.proofs.Going.{went_asked}
use Rattle.service_watch.proofs.watched.WatchedStore.ship_part.Goals as goal

pub invariant_of-self : goal.invariant_of-self
invariant_of-self g c =
    (let view = g.S.Store.view in
    record {
      went = went_asked g.S.Store.tells g.O.Origin.from c.ship_part.result (view c.args.self.now.store)
          (view c.ship_part.new.self) c.args.self.now.went c.ship_part.ensures.asked;
    })
