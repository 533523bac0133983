use Rattle.host_labels.proofs.Finding.{taken, dropped}
use Rattle.host_labels.proofs.laws.uses_law.Goals as goal

pub returns-clause-taken : goal.returns-clause-taken
returns-clause-taken c = taken

pub returns-clause-dropped : goal.returns-clause-dropped
returns-clause-dropped c = dropped
