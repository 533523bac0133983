use Rattle.store_records.proofs.Acts.{acts_keep_storable, new_is_storable}
use Rattle.store_records.proofs.laws.acts_law.Goals as goal

pub returns-clause-acts : goal.returns-clause-acts
returns-clause-acts c = acts_keep_storable

pub returns-clause-new : goal.returns-clause-new
returns-clause-new c = new_is_storable
