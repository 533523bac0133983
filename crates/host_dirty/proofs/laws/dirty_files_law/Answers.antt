use Rattle.host_dirty.proofs.Filing.{files_rise, files_are_dirty}
use Rattle.host_dirty.proofs.laws.dirty_files_law.Goals as goal

pub returns-clause-rise : goal.returns-clause-rise
returns-clause-rise c = files_rise c.args.dirty.now c.order.ensures

pub returns-clause-dirty : goal.returns-clause-dirty
returns-clause-dirty c = files_are_dirty c.args.dirty.now
