use Rattle.std.proofs.Common.{take}
use Rattle.service_watch.proofs.Going.{acts_take, went_done}
use Rattle.service_watch.proofs.watched.WatchedStore.apply.Goals as goal

pub invariant_of-self : goal.invariant_of-self
invariant_of-self g c =
    (let view = g.S.Store.view in
    let old = view c.args.self.now.store in
    let count = c.plain_acts-count.result in
    let e = c.apply.ensures in
    let fit = c.plain_acts-count.ensures.fit old.state in
    record {
      went =
          went_done g.S.Store.tells g.O.Origin.from c.apply.result old (view c.apply.new.self)
          (take count c.args.batch.now) c.args.self.now.went
          (acts_take old.state.roster old.state.server count c.args.batch.now c.requires.acts) e.same
          (λ told. e.state told fit) (λ told. e.fault told fit) e.leaves;
    })
