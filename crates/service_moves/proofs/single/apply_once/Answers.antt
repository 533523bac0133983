use Rattle.service_moves.proofs.Tries.{once_again}
use Rattle.service_moves.proofs.single.apply_once.Goals as goal

pub returns-clause-does : goal.returns-clause-does
returns-clause-does g c tells fits again =
    c.apply_batch.ensures.does tells (once_again (g.S.Store.view c.args.store.now).state c.args.act fits again)
