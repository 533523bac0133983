-- What is kept of files, and how it changes.
use Rattle.std.specs.Prelude.{◌≡◌, ℕ, ◌-◌, ◌≤◌, Bool, ◌==◌, ◌&&◌, if◌then◌else◌, List, [], ◌∷◌, length}
use Rattle.std.specs.Prelude.{Option, None, unwrap_or, is_some, not, filter, All}
use Rattle.token_types.specs.Conflicts.{same_id}
use Rattle.token_types.specs.declared.token.TokenId.{TokenId}
use Rattle.std.specs.List.{list_any}
use Rattle.std.specs.Map.{lookup}
use Rattle.std.specs.Option.{option_map}
use Rattle.base_types.specs.declared.ids.Fid.{Fid}
use Rattle.tree_calls.specs.declared.part.DirEntry.{DirEntry}
use Rattle.tree_calls.specs.declared.part.Piece.{Piece}
use Rattle.tree_calls.specs.declared.part.Status.{Status}
use Rattle.token_types.specs.declared.token.Kind.{Kind}
use Rattle.token_types.specs.declared.token.Kind.TheVariants.{Bytes}
use Rattle.token_types.specs.declared.token.Token.{Token}
use Rattle.base_types.specs.Image.{byte_at}
use Rattle.host_cache.specs.Bytes.{told_byte, is_within}
use Rattle.host_cache.specs.declared.held.Held.{Held}
use Rattle.host_cache.specs.Holding.{kind_has_byte, is_status, tells_at}
use Rattle.host_cache.specs.Parts.{Parts}

abbrev pub FileKey : Type 0
FileKey = ℕ × (ℕ × ℕ)

abbrev pub file_key : Fid → FileKey
file_key fid = (fid.fileset.0, (fid.anode, fid.unique))

abbrev pub same_key : FileKey → FileKey → Bool
same_key a b = (a.0 == b.0) && (a.1.0 == b.1.0) && (a.1.1 == b.1.1)

-- of a file that isn't there
abbrev pub nothing : Parts
nothing = record { tokens = []; status = None; entries = []; bytes = [] }

abbrev pub parts_at : List (FileKey × Parts) → FileKey → Parts
parts_at files key = unwrap_or (lookup (same_key key) files) nothing

-- this is kept of a file, and the same as before of all others
abbrev pub Puts : List (FileKey × Parts) → FileKey → Parts → List (FileKey × Parts) → Type 0
Puts old key parts new =
    (other : FileKey) → parts_at new other ≡ (if same_key key other then parts else parts_at old other)

-- nothing is kept of a file without tokens
abbrev pub left : Parts → Parts
left parts = if length parts.tokens == 0 then nothing else parts

-- the status is kept only where one of the tokens came with one
abbrev pub told_by : List Held → Parts → Parts
told_by held parts = record parts {
  status = if list_any (λ token. tells_at held token.id) parts.tokens then parts.status else None;
}

-- the status that counts under a token of a kind
abbrev pub told_under : Kind → Option Status → Option Status
told_under kind status = if is_status kind then status else None

-- there is room for all bytes of a token of this kind
abbrev pub HasRoom : Kind → List ℕ → Type 0
HasRoom (Bytes update span) bytes = span.to ≤ length bytes
HasRoom _ bytes = Unit {0}

-- there is room for all bytes of its tokens
abbrev pub IsRoomy : Parts → Type 0
IsRoomy parts = All (λ token. HasRoom token.kind parts.bytes) parts.tokens

-- the same but for its bytes, of which there may be more
pub record Grows (old : Parts) (new : Parts) : Type 0 where
  pub tokens : new.tokens ≡ old.tokens
  pub status : new.status ≡ old.status
  pub entries : new.entries ≡ old.entries
  pub room : length old.bytes ≤ length new.bytes
  pub bytes : (at : ℕ) → byte_at new.bytes at ≡ byte_at old.bytes at

-- a token is first, and what is told under it is kept
pub record Learns (token : Token) (told : Option Status) (pieces : List Piece) (names : List DirEntry)
    (old : Parts) (new : Parts) : Type 0 where
  pub tokens : new.tokens ≡ token ∷ old.tokens
  pub status : new.status ≡ (if is_some told then told else old.status)
  pub entries : new.entries ≡ (if kind_has_byte 0 token.kind then names else old.entries)
  pub room : length new.bytes ≡ length old.bytes
  pub bytes : (at : ℕ) →
      byte_at new.bytes at ≡ (if kind_has_byte at token.kind then told_byte pieces at else byte_at old.bytes at)

-- bytes are written
pub record Writes (from : ℕ) (piece : List ℕ) (old : Parts) (new : Parts) : Type 0 where
  pub tokens : new.tokens ≡ old.tokens
  pub status : new.status ≡ old.status
  pub entries : new.entries ≡ old.entries
  pub room : length new.bytes ≡ length old.bytes
  pub bytes : (at : ℕ) → byte_at new.bytes at
      ≡ (if is_within from (length piece) at then byte_at piece (at - from) else byte_at old.bytes at)

abbrev pub with_token : Token → Parts → Parts
with_token token parts = record parts { tokens = token ∷ parts.tokens }

abbrev pub without_token : TokenId → Parts → Parts
without_token id parts = record parts { tokens = filter (λ token. not (same_id token.id id)) parts.tokens }

abbrev pub with_status : Option Status → Parts → Parts
with_status status parts = record parts { status = if is_some status then status else parts.status }

abbrev pub with_entries : List DirEntry → Parts → Parts
with_entries entries parts = record parts { entries = entries }

abbrev pub with_length : ℕ → Parts → Parts
with_length length parts =
    record parts { status = option_map (λ (s : Status). record s { length = length }) parts.status }
