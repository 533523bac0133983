use Rattle.run_stores.proofs.Alike as alike_lemmas
use Rattle.run_stores.proofs.Piecing as lemmas
use Rattle.run_stores.proofs.laws.piece_law.Goals as goal

pub returns-clause-differ : goal.returns-clause-differ
returns-clause-differ c = lemmas.pieces_differ

pub returns-clause-alike : goal.returns-clause-alike
returns-clause-alike c = alike_lemmas.gives_are_alike

pub returns-clause-fit : goal.returns-clause-fit
returns-clause-fit c = lemmas.gives_fit
