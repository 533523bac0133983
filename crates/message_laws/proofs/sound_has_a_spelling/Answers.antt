use Rattle.message_laws.proofs.Whole.{spellable}
use Rattle.message_laws.proofs.BackBodies.{typed}
use Rattle.message_laws.proofs.sound_has_a_spelling.Goals as goal

pub returns-clause-sound : goal.returns-clause-sound
returns-clause-sound c = spellable

pub returns-clause-typed : goal.returns-clause-typed
returns-clause-typed c = typed
