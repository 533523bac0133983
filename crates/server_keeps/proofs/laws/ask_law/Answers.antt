use Rattle.server_keeps.proofs.Asking as lemmas
use Rattle.server_keeps.proofs.laws.ask_law.Goals as goal

pub returns : goal.returns
returns c = lemmas.changes_are_told
