use Rattle.store_state.proofs.Decided as lemmas
use Rattle.store_state.proofs.laws.reply_law.Goals as goal

pub returns : goal.returns
returns c = lemmas.replies_are_kept
