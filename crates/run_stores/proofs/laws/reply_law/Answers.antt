use Rattle.run_stores.proofs.Elsewhere as other_lemmas
use Rattle.run_stores.proofs.Replies as lemmas
use Rattle.run_stores.proofs.laws.reply_law.Goals as goal

pub returns-clause-own : goal.returns-clause-own
returns-clause-own c = lemmas.replies_are_kept

pub returns-clause-others : goal.returns-clause-others
returns-clause-others c = other_lemmas.others_are_refused
