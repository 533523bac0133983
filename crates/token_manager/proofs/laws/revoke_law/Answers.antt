use Rattle.token_manager.proofs.Revoking.{revokes_just_those}
use Rattle.token_manager.proofs.laws.revoke_law.Goals as goal

pub returns : goal.returns
returns c = revokes_just_those
