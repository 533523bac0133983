-- What travels of an object.
use Rattle.std.specs.Prelude.{ℕ, zero, suc, ◌+◌, ◌-◌, ◌==◌, nat_le, Bool, [], ◌∷◌, if◌then◌else◌, List, length, Ok}
use Rattle.base_types.specs.declared.access.AccessEntry.{AccessEntry}
use Rattle.tree_calls.specs.declared.part.Piece.{Piece}
use Rattle.tree_calls.specs.declared.part.DirEntry.{DirEntry}
use Rattle.tree_calls.specs.declared.part.Status.{Status}
use Rattle.message_parts.specs.Spelled.{Spelled, ◌&◌, items}
use Rattle.message_parts.specs.Reading.{Reading, ◌>>=◌, number_at, items_at}
use Rattle.message_parts.specs.Words.{
  spell_u32,
  u32_at,
  spell_flag,
  flag_at,
  short,
  spell_name,
  name_at,
  spell_bytes,
  bytes_at,
}
use Rattle.message_parts.specs.Access.{spell_access, access_at}

-- a piece of at most so many bytes
unfoldable pub spell_piece_in : ℕ → Piece → Spelled
spell_piece_in room x = spell_u32 x.from & spell_bytes room x.bytes

unfoldable pub piece_in_at : ℕ → List ℕ → Reading Piece
piece_in_at room rest =
    u32_at rest >>= λ from rest. bytes_at room rest >>= λ bytes rest. Ok (record { from = from; bytes = bytes }, rest)

abbrev pub spell_piece : Piece → Spelled
spell_piece = spell_piece_in 65536

abbrev pub piece_at : List ℕ → Reading Piece
piece_at = piece_in_at 65536

-- how many bytes the pieces have
abbrev pub bytes_in : List Piece → ℕ
bytes_in [] = 0
bytes_in (x ∷ xs) = length x.bytes + bytes_in xs

-- Pieces, which together have at most so many bytes as a file can have.
unfoldable pub spell_pieces : List Piece → Spelled
spell_pieces pieces = record { fits = nat_le (bytes_in pieces) 65536; bytes = [] } & short spell_piece pieces

-- so many pieces, which together have at most so many bytes
abbrev pub pieces_from : ℕ → ℕ → List ℕ → Reading (List Piece)
pieces_from room zero rest = Ok ([], rest)
pieces_from room (suc count) rest =
    piece_in_at room rest >>= λ piece rest. pieces_from (room - length piece.bytes) count rest >>= λ pieces rest.
    Ok (piece ∷ pieces, rest)

unfoldable pub pieces_at : List ℕ → Reading (List Piece)
pieces_at rest = number_at 2 0 65535 rest >>= λ count rest. pieces_from 65536 count rest

unfoldable pub spell_entry : DirEntry → Spelled
spell_entry x = spell_name x.name & spell_u32 x.anode & spell_u32 x.unique

unfoldable pub entry_at : List ℕ → Reading DirEntry
entry_at rest =
    name_at rest >>= λ name rest. u32_at rest >>= λ anode rest. u32_at rest >>= λ unique rest. Ok (
      record {
        name = name;
        anode = anode;
        unique = unique;
      },
      rest,
    )

-- a file has one list, and a directory three
abbrev pub list_count : Bool → ℕ
list_count dir = if dir then 3 else 1

unfoldable pub spell_lists : ℕ → List (List AccessEntry) → Spelled
spell_lists count lists = record { fits = length lists == count; bytes = [] } & items spell_access lists

unfoldable pub spell_status : Status → Spelled
spell_status x =
    spell_flag x.dir & spell_flag x.read_only & spell_u32 x.length & spell_name x.owner & spell_name x.group &
    spell_lists (list_count x.dir) x.lists

unfoldable pub status_at : List ℕ → Reading Status
status_at rest =
    flag_at rest >>= λ dir rest. flag_at rest >>= λ read_only rest. u32_at rest >>= λ length rest.
    name_at rest >>= λ owner rest. name_at rest >>= λ group rest.
    items_at access_at (list_count dir) rest >>= λ lists rest.
    Ok (record { dir = dir; read_only = read_only; length = length; owner = owner; group = group; lists = lists }, rest)
