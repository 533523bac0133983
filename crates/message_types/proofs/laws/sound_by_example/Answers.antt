use Rattle.message_types.proofs.Shown.{shown, asked_and_told, changed_and_given}
use Rattle.message_types.proofs.laws.sound_by_example.Goals as goal

pub returns-clause-some : goal.returns-clause-some
returns-clause-some c = shown

pub returns-clause-asked : goal.returns-clause-asked
returns-clause-asked c = asked_and_told

pub returns-clause-changed : goal.returns-clause-changed
returns-clause-changed c = changed_and_given
