use Rattle.server_keeps.proofs.Acting as lemmas
use Rattle.server_keeps.proofs.Numbers as number_lemmas
use Rattle.server_keeps.proofs.laws.act_law.Goals as goal

pub returns-clause-drafts : goal.returns-clause-drafts
returns-clause-drafts c = lemmas.drafts_stand

pub returns-clause-numbers : goal.returns-clause-numbers
returns-clause-numbers c = number_lemmas.numbers_stay
