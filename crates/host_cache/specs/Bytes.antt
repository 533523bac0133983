-- Bytes of a file from its first on; all behind them are zero.
use Rattle.std.specs.Prelude.{◌≡◌, ℕ, ◌+◌, ◌-◌, Bool, ◌&&◌, nat_le, nat_lt, if◌then◌else◌}
use Rattle.std.specs.Prelude.{List, [], ◌∷◌, ◌++◌, length, replicate}
use Rattle.base_types.specs.Image.{byte_at}
use Rattle.base_types.specs.Spans.{has_byte}
use Rattle.base_types.specs.declared.span.Span.{Span}
use Rattle.tree_calls.specs.declared.part.Piece.{Piece}

-- with zeros behind them, so many in all
abbrev pub padded : ℕ → List ℕ → List ℕ
padded room bytes = bytes ++ replicate (room - length bytes) 0

-- whether a place is one of so many from another on
abbrev pub is_within : ℕ → ℕ → ℕ → Bool
is_within from count at = nat_le from at && nat_lt at (from + count)

-- the byte that pieces tell of a place: that of the first piece that has it, and zero where none has
abbrev pub told_byte : List Piece → ℕ → ℕ
told_byte [] at = 0
told_byte (piece ∷ pieces) at =
    if is_within piece.from (length piece.bytes) at then byte_at piece.bytes (at - piece.from)
    else told_byte pieces at

-- as many bytes as before, each of them this one
pub record AreBytes (old : List ℕ) (byte : ℕ → ℕ) (new : List ℕ) : Type 0 where
  pub len : length new ≡ length old
  pub each : (at : ℕ) → byte_at new at ≡ byte at

-- a piece is written from a place on
abbrev pub IsPut : ℕ → List ℕ → List ℕ → List ℕ → Type 0
IsPut from piece old new =
    AreBytes old (λ at. if is_within from (length piece) at then byte_at piece (at - from) else byte_at old at) new

abbrev pub IsCleared : Span → List ℕ → List ℕ → Type 0
IsCleared span old new = AreBytes old (λ at. if has_byte span at then 0 else byte_at old at) new

-- those bytes of a piece are written that lie in a span
abbrev pub IsLaidOver : Span → Piece → List ℕ → List ℕ → Type 0
IsLaidOver span piece old new =
    AreBytes old (λ at. if has_byte span at && is_within piece.from (length piece.bytes) at
    then byte_at piece.bytes (at - piece.from) else byte_at old at) new

-- the bytes of a span are those that pieces tell
abbrev pub IsLaid : Span → List Piece → List ℕ → List ℕ → Type 0
IsLaid span pieces old new =
    AreBytes old (λ at. if has_byte span at then told_byte pieces at else byte_at old at) new
