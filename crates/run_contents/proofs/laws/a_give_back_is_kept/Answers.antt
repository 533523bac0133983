use Rattle.run_contents.proofs.KeptGives.{gives_keep}
use Rattle.run_contents.proofs.laws.a_give_back_is_kept.Goals as goal

pub returns : goal.returns
returns c = gives_keep
