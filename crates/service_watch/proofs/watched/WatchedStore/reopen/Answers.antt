use Rattle.service_watch.proofs.Going.{went_anew}
use Rattle.service_watch.proofs.watched.WatchedStore.reopen.Goals as goal

pub invariant_of-self : goal.invariant_of-self
invariant_of-self g c =
    (let view = g.S.Store.view in
    let e = c.reopen.ensures in
    record {
      went = went_anew g.S.Store.tells g.O.Origin.from (view c.args.self.now.store) (view c.reopen.new.self)
          c.args.self.now.went e.same e.state e.leaves;
    })
