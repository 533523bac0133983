use Rattle.std.proofs.Common.{true}
use Rattle.token_table.proofs.Reading.{with_note_at, without_note_at, put_if_at, with_each_at, without_notes_at}
use Rattle.token_table.proofs.note_laws.marks_law.Goals as goal

pub returns-clause-note : goal.returns-clause-note
returns-clause-note c = with_note_at

pub returns-clause-forgetting : goal.returns-clause-forgetting
returns-clause-forgetting c = without_note_at

pub returns-clause-pin : goal.returns-clause-pin
returns-clause-pin c = λ notes id other. put_if_at notes id (λ note. record note { pinned = true }) other

pub returns-clause-mark : goal.returns-clause-mark
returns-clause-mark c = λ notes id other. put_if_at notes id (λ note. record note { revoked = true }) other

pub returns-clause-each : goal.returns-clause-each
returns-clause-each c = with_each_at

pub returns-clause-host : goal.returns-clause-host
returns-clause-host c = without_notes_at
