use Rattle.std.proofs.Common.{[], ◌∷◌}
use Rattle.store_acts.specs.declared.act.Act.TheVariants.{Leave}
use Rattle.store_memory.proofs.Doing.{does_then}
use Rattle.service_moves.proofs.Twice.{does_failed, done_none, never_ok}
use Rattle.service_moves.proofs.moving.leave.Goals as goal

pub returns-in_err-do_act-clause-does : goal.returns-in_err-do_act-clause-does
returns-in_err-do_act-clause-does g c tells fits again =
    does_failed _ c.from_residual.result (Leave c.args.fileset c.args.to ∷ []) (g.S.Store.view c.args.store.now) (g.S.Store.view c.do_act.new.store)
    (never_ok c.from_residual.result _ c.from_residual.ensures.1) (c.in_err-do_act.ensures.does tells fits again)

pub returns-clause-does : goal.returns-clause-does
returns-clause-does g c tells fits again =
    does_then _ _ (Leave c.args.fileset c.args.to ∷ []) [] (g.S.Store.view c.args.store.now) (g.S.Store.view c.do_act.new.store) (g.S.Store.view c.ship_of.new.store) (c.in_ok-do_act.ensures.does tells fits again)
    (done_none _ (g.S.Store.view c.do_act.new.store) (g.S.Store.view c.ship_of.new.store) (c.ship_of.ensures.state tells) (c.ship_of.ensures.leaves tells))
