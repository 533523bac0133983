-- Laws of what is noted after a change.
use Rattle.std.specs.Prelude.{◌≡◌, true, if◌then◌else◌, List, Some, None}
use Rattle.std.specs.Option.{option_map}
use Rattle.base_types.specs.declared.ids.HostId.{HostId}
use Rattle.token_types.specs.Conflicts.{same_id}
use Rattle.token_types.specs.declared.token.Token.{Token}
use Rattle.token_types.specs.declared.token.TokenId.{TokenId}
use Rattle.token_table.specs.Tables.{has_id}
use Rattle.token_table.specs.declared.notes.Note.{Note}
use Rattle.token_table.specs.Marks.{NoteMap, note_at, with_note, without_note, with_pin, with_mark, with_each}
use Rattle.token_table.specs.Marks.{is_note_of, without_notes_of}

-- a note is of one token
abbrev pub AfterNote : Type 0
AfterNote =
    (notes : NoteMap) (id : TokenId) (note : Note) (other : TokenId) →
    note_at (with_note notes id note) other ≡ (if same_id id other then Some note else note_at notes other)

abbrev pub AfterForgetting : Type 0
AfterForgetting =
    (notes : NoteMap) (id other : TokenId) →
    note_at (without_note notes id) other ≡ (if same_id id other then None else note_at notes other)

-- a pin and the mark of a token that was asked back change nothing else of its note, and make none
abbrev pub AfterPin : Type 0
AfterPin =
    (notes : NoteMap) (id other : TokenId) →
    note_at (with_pin notes id) other
    ≡ (if same_id id other then option_map (λ (note : Note). record note { pinned = true }) (note_at notes other)
    else note_at notes other)

abbrev pub AfterMark : Type 0
AfterMark =
    (notes : NoteMap) (id other : TokenId) →
    note_at (with_mark notes id) other
    ≡ (if same_id id other then option_map (λ (note : Note). record note { revoked = true }) (note_at notes other)
    else note_at notes other)

-- the same note of several tokens
abbrev pub AfterEach : Type 0
AfterEach =
    (notes : NoteMap) (tokens : List Token) (note : Note) (id : TokenId) →
    note_at (with_each notes tokens note) id ≡ (if has_id tokens id then Some note else note_at notes id)

-- of a host that is gone nothing is noted
abbrev pub AfterHost : Type 0
AfterHost =
    (notes : NoteMap) (host : HostId) (id : TokenId) →
    note_at (without_notes_of notes host) id
    ≡ (if is_note_of host (note_at notes id) then None else note_at notes id)
