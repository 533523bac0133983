use Rattle.service_moves.proofs.Twice.{still_leaves}
use Rattle.service_stores.proofs.told.told_by.Goals as goal

pub returns-in_err-kept_by-clause-leaves : goal.returns-in_err-kept_by-clause-leaves
returns-in_err-kept_by-clause-leaves g c tells =
    still_leaves (g.S.Store.view c.args.store.now) (g.S.Store.view c.slots_by.new.store) (g.S.Store.view c.kept_by.new.store) (c.in_ok-slots.ensures.state tells) (c.in_ok-slots.ensures.leaves tells)
    (c.in_err-kept_by.ensures.leaves tells)

pub returns-clause-leaves : goal.returns-clause-leaves
returns-clause-leaves g c tells =
    still_leaves (g.S.Store.view c.args.store.now) (g.S.Store.view c.slots_by.new.store) (g.S.Store.view c.kept_by.new.store) (c.in_ok-slots.ensures.state tells) (c.in_ok-slots.ensures.leaves tells)
    (c.in_ok-kept_by.ensures.leaves tells)
