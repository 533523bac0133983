-- What is noted of tokens, and how it changes.
use Rattle.std.specs.Prelude.{ℕ, Bool, true, false, ◌==◌, not, List, [], ◌∷◌, Option, Some, None, refl}
use Rattle.std.specs.Option.{option_map_or}
use Rattle.std.specs.declared.cmp.Ordering.{Ordering}
use Rattle.std.specs.Ordering.{ordering_then, nat_cmp}
use Rattle.std.specs.FinMap as map
use Rattle.std.specs.Coded.{Coded, code_by, coded×, coded_ℕ, coded_bool, coded_option}
use Rattle.base_types.specs.declared.ids.HostId.{HostId}
use Rattle.token_types.specs.declared.token.Token.{Token}
use Rattle.token_types.specs.declared.token.TokenId.{TokenId}
use Rattle.token_table.specs.declared.notes.Note.{Note}

abbrev pub NoteKey : Type 0
NoteKey = ℕ × (ℕ × ℕ)

abbrev pub key_code : Coded NoteKey
key_code = coded× coded_ℕ (coded× coded_ℕ coded_ℕ)

abbrev pub key_of : TokenId → NoteKey
key_of id = (id.server.0, (id.epoch, id.seq))

abbrev pub key_cmp : NoteKey → NoteKey → Ordering
key_cmp a b = ordering_then (nat_cmp a.0 b.0) (ordering_then (nat_cmp a.1.0 b.1.0) (nat_cmp a.1.1 b.1.1))

abbrev pub note_code : Coded Note
note_code =
    code_by (ℕ × (Option ℕ × (Bool × Bool)))
    (coded× coded_ℕ (coded× (coded_option coded_ℕ) (coded× coded_bool coded_bool)))
    (λ n. (n.host.0, (n.want, (n.pinned, n.revoked))))
    (λ p. record { host = record { 0 = p.0 }; want = p.1.0; pinned = p.1.1.0; revoked = p.1.1.1 }) (λ _. refl)

-- what is noted, by the numbers of the tokens
abbrev pub NoteMap : Type 0
NoteMap = map.FinMap key_cmp Note

-- what is noted of the token with a number
abbrev pub note_at : NoteMap → TokenId → Option Note
note_at notes id = map.get notes (key_of id)

-- whether a token is noted as pinned
abbrev pub is_pinned : NoteMap → TokenId → Bool
is_pinned notes id = option_map_or (λ note. note.pinned) (note_at notes id) false

-- whether a token is noted as asked back
abbrev pub is_revoked : NoteMap → TokenId → Bool
is_revoked notes id = option_map_or (λ note. note.revoked) (note_at notes id) false

-- with a note of one token, and without one
abbrev pub with_note : NoteMap → TokenId → Note → NoteMap
with_note notes id note = map.insert notes (key_of id) note

abbrev pub without_note : NoteMap → TokenId → NoteMap
without_note notes id = map.remove notes (key_of id)

-- with a change of what is noted of one token, where anything is
abbrev pub put_if : NoteMap → TokenId → (Note → Note) → Option Note → NoteMap
put_if notes id change None = notes
put_if notes id change (Some note) = with_note notes id (change note)

abbrev pub with_pin : NoteMap → TokenId → NoteMap
with_pin notes id = put_if notes id (λ note. record note { pinned = true }) (note_at notes id)

abbrev pub with_mark : NoteMap → TokenId → NoteMap
with_mark notes id = put_if notes id (λ note. record note { revoked = true }) (note_at notes id)

-- with the same note of each of these tokens, and without notes of these
abbrev pub with_each : NoteMap → List Token → Note → NoteMap
with_each notes [] note = notes
with_each notes (token ∷ tokens) note = with_each (with_note notes token.id note) tokens note

abbrev pub without_each : NoteMap → List Token → NoteMap
without_each notes [] = notes
without_each notes (token ∷ tokens) = without_each (without_note notes token.id) tokens

-- without the notes of a host's tokens
abbrev pub is_note_of : HostId → Option Note → Bool
is_note_of host None = false
is_note_of host (Some note) = note.host.0 == host.0

abbrev pub without_notes_of : NoteMap → HostId → NoteMap
without_notes_of notes host = map.retain_keys notes (λ key. not (is_note_of host (map.get notes key)))
