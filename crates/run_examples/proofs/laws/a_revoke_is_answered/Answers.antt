use Rattle.run_examples.proofs.Examples.{gives_lapse, gives_meets, learns_lapse, learns_meets}
use Rattle.run_examples.proofs.laws.a_revoke_is_answered.Goals as goal

pub returns : goal.returns
returns c = ((gives_meets, gives_lapse), (learns_meets, learns_lapse))
