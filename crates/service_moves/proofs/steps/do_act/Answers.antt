use Rattle.std.proofs.Common.{[], ◌∷◌}
use Rattle.service_moves.proofs.Twice.{does_err, does_ok}
use Rattle.service_moves.proofs.steps.do_act.Goals as goal

pub returns-in-Ok-clause-does : goal.returns-in-Ok-clause-does
returns-in-Ok-clause-does g c tells fits again =
    does_ok _ _ (c.args.act ∷ []) (g.S.Store.view c.args.store.now) (g.S.Store.view c.apply_once.new.store) (c.in-Ok.ensures.does tells fits again)

pub returns-in-Err-clause-does : goal.returns-in-Err-clause-does
returns-in-Err-clause-does g c tells fits again =
    does_err _ _ (c.args.act ∷ []) (g.S.Store.view c.args.store.now) (g.S.Store.view c.apply_once.new.store) (c.in-Err.ensures.does tells fits again)
