use Rattle.server_keeps.proofs.Granting as lemmas
use Rattle.server_keeps.proofs.laws.grant_law.Goals as goal

pub returns : goal.returns
returns c = lemmas.grants_tell
