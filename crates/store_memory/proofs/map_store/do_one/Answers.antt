use Rattle.store_memory.proofs.Batches.{limits_next}
use Rattle.store_memory.proofs.map_store.do_one.Goals as goal

pub returns-clause-limits : goal.returns-clause-limits
returns-clause-limits c =
    limits_next c.apply_act.result c.args.state.now c.apply_act.new.state c.args.act.now c.requires.limits c.requires.act c.apply_act.ensures.state c.apply_act.ensures.err
