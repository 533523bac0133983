use Rattle.run_contents.proofs.Tokens.{granted_are_sound}
use Rattle.run_contents.proofs.laws.granted_tokens_are_sound.Goals as goal

pub returns : goal.returns
returns c = granted_are_sound
