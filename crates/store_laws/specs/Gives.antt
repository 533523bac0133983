-- What a host gives back of a file, and what it stores of it.
use Rattle.std.specs.Prelude.{◌≡◌, ℕ, ◌-◌, true, List, [], length, map, Option, None}
use Rattle.base_types.specs.Image.{byte_at}
use Rattle.base_types.specs.declared.access.AccessEntry.{AccessEntry}
use Rattle.base_types.specs.declared.ids.HostId.{HostId}
use Rattle.base_types.specs.declared.span.Span.{Span}
use Rattle.tree_calls.specs.declared.part.Piece.{Piece}
use Rattle.tree_objects.specs.declared.content.Content.TheVariants.{File}
use Rattle.tree_objects.specs.declared.content.Unsaved.{Unsaved}
use Rattle.tree_objects.specs.declared.content.UnsavedLength.{UnsavedLength}
use Rattle.tree_objects.specs.Files.{bytes_over}
use Rattle.tree_objects.specs.Positions.{positions_rise}
use Rattle.tree_objects.specs.Stores.{content_stored, is_storable}
use Rattle.store_state.specs.Giving.{content_given}
use Rattle.store_acts.specs.Parts.{kept_bytes}

-- the bytes of a file in a span, as a piece
abbrev pub piece_of : List ℕ → List Unsaved → Span → Piece
piece_of kept unsaved span =
    record { from = span.from; bytes = bytes_over kept unsaved span.from (span.to - span.from) }

-- Where a host may store these spans and this length of a file: a store that has its kept bytes, and is given the
-- bytes of
-- the spans and the length, keeps just as many bytes as the tree then, and at each position the same one.
pub record GivesAreStores : Type 0 where
  pub size : (host : HostId) (spans : List Span) (stored : Option ℕ) (list : List AccessEntry) (kept : List ℕ)
      (unsaved : List Unsaved) (len : Option UnsavedLength) →
      is_storable host spans stored (File list kept unsaved len) ≡ true →
      length (kept_bytes (content_given (map (piece_of kept unsaved) spans) stored (File list kept [] None)))
      ≡ length (kept_bytes (content_stored host spans stored (File list kept unsaved len)))
  pub bytes : (host : HostId) (spans : List Span) (stored : Option ℕ) (list : List AccessEntry) (kept : List ℕ)
      (unsaved : List Unsaved) (len : Option UnsavedLength) (at : ℕ) →
      positions_rise unsaved ≡ true → is_storable host spans stored (File list kept unsaved len) ≡ true →
      byte_at (kept_bytes (content_given (map (piece_of kept unsaved) spans) stored (File list kept [] None))) at
      ≡ byte_at (kept_bytes (content_stored host spans stored (File list kept unsaved len))) at
