use Rattle.store_laws.proofs.KeptRows as lemmas
use Rattle.store_laws.proofs.kept_laws.row_kept_law.Goals as goal

pub returns : goal.returns
returns c = lemmas.rows_are_kept
