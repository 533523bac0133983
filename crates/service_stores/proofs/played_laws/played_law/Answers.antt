use Rattle.service_stores.proofs.Whole as lemmas
use Rattle.service_stores.proofs.played_laws.played_law.Goals as goal

pub returns : goal.returns
returns c = lemmas.runs_may_happen
