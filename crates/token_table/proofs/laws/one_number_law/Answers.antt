use Rattle.token_table.proofs.Numbering.{one_number, stays_sound}
use Rattle.token_table.proofs.laws.one_number_law.Goals as goal

pub returns-clause-one : goal.returns-clause-one
returns-clause-one c = one_number

pub returns-clause-stays : goal.returns-clause-stays
returns-clause-stays c = stays_sound
