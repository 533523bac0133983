-- What a Grant tells that is made of what a store tells of the needs of its Fetch.
use Rattle.std.specs.List.{fold}
use Rattle.std.specs.Option.{option_map_or}
use Rattle.std.specs.Prelude.{Bool, List, None, Option, Some, [], if◌then◌else◌, is_some, max, min, ◌&&◌}
use Rattle.std.specs.Prelude.{ℕ, ◌∷◌, ◌≡◌}
use Rattle.base_types.specs.declared.ids.Fid.{Fid}
use Rattle.base_types.specs.declared.span.Span.{Span}
use Rattle.tree_calls.specs.declared.part.DirEntry.{DirEntry}
use Rattle.tree_calls.specs.declared.part.Piece.{Piece}
use Rattle.tree_calls.specs.declared.part.Status.{Status as StatusOf}
use Rattle.tree_objects.specs.Spans.{span_between}
use Rattle.tree_answers.specs.declared.tree.Tree.{Tree}
use Rattle.token_types.specs.declared.token.Kind.{Kind}
use Rattle.token_types.specs.declared.token.Kind.TheVariants.{Bytes}
use Rattle.token_types.specs.declared.token.Need.{Need}
use Rattle.message_types.specs.declared.telling.Grant.{Grant as GrantOf}
use Rattle.store_memory.specs.Reading.{bytes_told, entries_told, status_told}
use Rattle.store_state.specs.declared.state.StoreState.{StoreState}
use Rattle.run_rules.specs.ServerMay.{AreNeeds, IsThere, TellsKept}
use Rattle.run_stores.specs.Keeping.{StandsFor}

abbrev pub joined : Span → Span → Span
joined one other = span_between (min one.from other.from) (max one.to other.to)

abbrev pub asked_with : Option Span → Kind → Option Span
asked_with asked (Bytes update span) = Some (option_map_or (λ other. joined other span) asked span)
asked_with asked _ = asked

-- from the first byte that some needs are of to the last one
abbrev pub span_asked : List Need → Option Span
span_asked needs = fold (λ asked need. asked_with asked need.kind) None needs

abbrev pub piece_if_some : ℕ → List ℕ → List Piece
piece_if_some from [] = []
piece_if_some from (byte ∷ bytes) = record { from = from; bytes = byte ∷ bytes } ∷ []

-- the bytes of a file that needs are of, in one piece
abbrev pub pieces_for : StoreState → Fid → Bool → List Need → List Piece
pieces_for state fid dir needs =
    if dir then []
    else option_map_or (λ span. piece_if_some span.from (bytes_told state fid span)) (span_asked needs) []

-- the entries of a directory, where needs are of them
abbrev pub entries_for : StoreState → Fid → Bool → List Need → List DirEntry
entries_for state fid dir needs = if dir && is_some (span_asked needs) then entries_told state fid else []

-- a Grant of an object that the store tells, with the tokens of these needs
pub record IsMadeOf (state : StoreState) (needs : List Need) (status : StatusOf) (grant : GrantOf) : Type 0 where
  pub there : status_told state grant.bring.fid ≡ Some status
  pub brings : AreNeeds needs grant.bring.tokens
  pub status_is : grant.status ≡ Some status
  pub pieces_are : grant.pieces ≡ pieces_for state grant.bring.fid status.dir needs
  pub entries_are : grant.entries ≡ entries_for state grant.bring.fid status.dir needs

-- It tells what is kept. And whether an object is there is told by its status.
pub record GrantsTell : Type 0 where
  pub tells : (tree : Tree) (state : StoreState) (needs : List Need) (status : StatusOf) (grant : GrantOf)
      → StandsFor tree state → IsMadeOf state needs status grant → TellsKept tree grant
  pub there : (tree : Tree) (state : StoreState) (status : StatusOf) (grant : GrantOf) → StandsFor tree state
      → status_told state grant.bring.fid ≡ Some status → IsThere tree grant
  pub gone : (tree : Tree) (state : StoreState) (grant : GrantOf) → StandsFor tree state
      → status_told state grant.bring.fid ≡ None → IsThere tree grant → ⊥
