-- What a Grant tells that tells what a store tells.
use Rattle.std.specs.List.{list_any}
use Rattle.std.specs.Option.{option_map_or}
use Rattle.std.specs.Prelude.{Bool, IsTrue, List, ◌⊎◌, false, not, is_some, map, nat_le, nat_lt, true, ℕ, ◌&&◌, ◌≡◌}
use Rattle.base_types.specs.declared.ids.Fid.{Fid}
use Rattle.base_types.specs.declared.span.Span.{Span}
use Rattle.tree_calls.specs.declared.part.Piece.{Piece}
use Rattle.tree_calls.specs.declared.part.Status.{Status}
use Rattle.store_memory.specs.Reading.{bytes_told, entries_told, status_told}
use Rattle.tree_answers.specs.declared.tree.Tree.{Tree}
use Rattle.message_types.specs.declared.telling.Grant.{Grant as GrantOf}
use Rattle.store_state.specs.declared.state.StoreState.{StoreState}
use Rattle.tree_laws.specs.Parts.{Part, cell_at}
use Rattle.tree_laws.specs.Parts.Part.{ByteAt, Entries, Size, Traits}
use Rattle.run_rules.specs.Kept.{takes_gifts}
use Rattle.run_rules.specs.Past.{In}
use Rattle.run_rules.specs.ServerMay.{TellsKept}
use Rattle.run_rules.specs.Views.{part_told}
use Rattle.need_host.specs.Shows.{shows}
use Rattle.token_types.specs.declared.token.Token.{Token}
use Rattle.run_stores.specs.Keeping.{StandsFor}

-- the bytes of an object in some spans, as pieces
abbrev pub piece_told : StoreState → Fid → Span → Piece
piece_told state fid span = record { from = span.from; bytes = bytes_told state fid span }

abbrev pub pieces_told : StoreState → Fid → List Span → List Piece
pieces_told state fid spans = map (piece_told state fid) spans

-- whether a position is in one of some spans
abbrev pub is_within : ℕ → List Span → Bool
is_within at spans = list_any (λ span. nat_le span.from at && nat_lt at span.to) spans

-- whether a store tells that an object is a directory
abbrev pub is_dir_told : StoreState → Fid → Bool
is_dir_told state fid = option_map_or (λ (status : Status). status.dir) (status_told state fid) false

-- A Grant has what a store tells of a part of its object: the status, its entries, or pieces of some spans among which
-- the byte is. A directory has no bytes.
abbrev pub HasPart : StoreState → GrantOf → List Span → Part → Type 0
HasPart state grant spans (ByteAt at) =
    (grant.pieces ≡ pieces_told state grant.bring.fid spans)
    × ((is_within at spans ≡ true) ⊎ (is_dir_told state grant.bring.fid ≡ true))
HasPart state grant spans Size = grant.status ≡ status_told state grant.bring.fid
HasPart state grant spans Traits = grant.status ≡ status_told state grant.bring.fid
HasPart state grant spans Entries = grant.entries ≡ entries_told state grant.bring.fid

-- Then it tells what is kept of the part by the rules.
pub record TellsAreKept : Type 0 where
  pub there : (tree : Tree) (state : StoreState) (fid : Fid) → StandsFor tree state
      → is_some (status_told state fid) ≡ is_some (cell_at tree fid Traits).kept
  pub parts : (tree : Tree) (state : StoreState) (grant : GrantOf) (spans : List Span) (part : Part)
      → StandsFor tree state → HasPart state grant spans part
      → part_told grant part ≡ (cell_at tree grant.bring.fid part).kept

-- A Grant that has so each part that a token which it brings shows tells what is kept.
abbrev pub GrantsTellKept : Type 0
GrantsTellKept =
    (tree : Tree) (state : StoreState) (grant : GrantOf) (spans : List Span) → StandsFor tree state
    → ((t : Token) (part : Part) → In t grant.bring.tokens → IsTrue (shows t.kind part)
    → HasPart state grant spans part)
    → TellsKept tree grant

-- whether a status is that of a file that takes give-backs
abbrev pub may_take : Status → Bool
may_take status = not status.read_only && not status.dir

-- A give-back of a file is stored where the status that its store tells says so.
abbrev pub GiftsAreTold : Type 0
GiftsAreTold = (tree : Tree) (state : StoreState) (fid : Fid) → StandsFor tree state
    → takes_gifts tree fid ≡ option_map_or may_take (status_told state fid) false
