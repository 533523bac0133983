-- Pieces of a file, put over its bytes.
use Rattle.std.specs.Prelude.{
  ◌≡◌,
  ◌≤◌,
  ◌<◌,
  ℕ,
  ◌+◌,
  ◌-◌,
  ◌==◌,
  true,
  false,
  min,
  max,
  Bool,
  List,
  [],
  ◌∷◌,
  length,
  get_or,
}
use Rattle.std.specs.Option.{option_map_or}
use Rattle.std.specs.List.{AllByRecursion}
use Rattle.tree_calls.specs.declared.part.Piece.{Piece}
use Rattle.tree_objects.specs.declared.content.Anode.{Anode}
use Rattle.tree_objects.specs.declared.content.Content.{Content}
use Rattle.tree_objects.specs.declared.content.Content.TheVariants.{Dir, File}
use Rattle.store_state.specs.Giving.{put_pieces}
use Rattle.disk_objects.specs.Objects.{anode_at}

-- where the first of some pieces begins, and where the last one ends, of which 65,536 bytes count
abbrev pub start_of : ℕ → List Piece → ℕ
start_of from [] = from
start_of from (piece ∷ pieces) = start_of (min from piece.from) pieces

abbrev pub end_of : ℕ → List Piece → ℕ
end_of to [] = to
end_of to (piece ∷ pieces) = end_of (max to (piece.from + min (length piece.bytes) 65536)) pieces

-- the bytes of pieces below an end lie in a span
abbrev pub LieIn : List Piece → ℕ → ℕ → ℕ → Type 0
LieIn pieces from to end =
    AllByRecursion (λ piece. (from ≤ piece.from) × (min end (piece.from + length piece.bytes) ≤ to)) pieces

-- pieces by their places from a position on
abbrev pub shifted : ℕ → List Piece → List Piece
shifted from [] = []
shifted from (piece ∷ pieces) = record { from = piece.from - from; bytes = piece.bytes } ∷ shifted from pieces

-- bytes of a span with pieces put over them
pub record ArePatched (pieces : List Piece) (from to : ℕ) (content : ℕ → ℕ) (bytes : List ℕ) : Type 0 where
  pub base : List ℕ
  pub size : length base ≡ to - from
  pub same : (k : ℕ) → k < to - from → get_or base k 0 ≡ content (from + k)
  pub over : bytes ≡ put_pieces base (shifted from pieces)

-- a file with pieces put over its bytes
abbrev pub content_patched : List Piece → Content → Content
content_patched pieces (Dir entries lists) = Dir entries lists
content_patched pieces (File list kept unsaved len) = File list (put_pieces kept pieces) unsaved len

-- whether it is a file of so many bytes
abbrev pub is_long : ℕ → Content → Bool
is_long n (Dir entries lists) = false
is_long n (File list kept unsaved len) = length kept == n

abbrev pub IsLong : ℕ → ℕ → ℕ → (ℕ → List Anode) → Type 0
IsLong slot anode n slots =
    option_map_or (λ object. is_long n object.content) (anode_at (slots slot) anode).object false ≡ true
