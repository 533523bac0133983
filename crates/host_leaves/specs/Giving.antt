-- How tokens leave, by the tables: what is dirty under them in a give-back, the others in a Returned.
use Rattle.std.specs.Prelude.{Bool, List, None, Option, Some, [], filter, fold, if◌then◌else◌, is_none, is_some, map}
use Rattle.std.specs.Prelude.{not}
use Rattle.std.specs.Prelude.{false, suc, true, zero, ℕ, ◌-◌, ◌&&◌, ◌||◌}
use Rattle.std.specs.Prelude.{◌+◌, ◌++◌, ◌∷◌, ◌≡◌, ◌⊎◌}
use Rattle.base_types.specs.declared.ids.Fid.{Fid}
use Rattle.base_types.specs.declared.ids.FilesetId.{FilesetId}
use Rattle.base_types.specs.declared.span.Span.{Span}
use Rattle.token_types.specs.Covers.{CoversBetween}
use Rattle.host_cache.specs.Seen.{Seen, after_drop, seen}
use Rattle.host_dirty.specs.Dirtiness.{is_dirty, length_of}
use Rattle.base_types.specs.Ids.{same_fid}
use Rattle.host_gives.specs.Counters.{last_of}
use Rattle.host_gives.specs.Giving.{after_add, names, outstanding}
use Rattle.host_leaves.specs.Dirtying.{covers_left, is_dirty_left, is_dirty_under, is_named, tokens_at}
use Rattle.host_leaves.specs.Dirtying.{updates_byte}
use Rattle.host_leaves.specs.Owning.{dirty_length}
use Rattle.host_leaves.specs.Sending.{message_to, saying, with_once}
use Rattle.host_tables.specs.Tables.{content, held_of, updates_status}
use Rattle.host_tables.specs.Updates.{home_at, with_given}
pub use Rattle.host_gives.specs.Leavings.{leaving_by}
use Rattle.host_tables.specs.declared.draft.Draft.{Draft}
use Rattle.host_lengths.specs.declared.given.Given.{Given}
use Rattle.host_tables.specs.declared.tables.Tables.{Tables}
use Rattle.message_types.specs.Soundness.{AreFileBytes, PiecesRise}
use Rattle.message_types.specs.declared.giving.Ends.{Ends}
use Rattle.message_types.specs.declared.giving.Give.{Give}
use Rattle.message_types.specs.declared.message.Body.TheVariants.{GiveBack, Returned}
use Rattle.message_types.specs.declared.message.Message.{Message}
use Rattle.run_rules.specs.Views.{byte_of}
use Rattle.run_rules.specs.declared.applied.Leave.{Leave}
use Rattle.run_rules.specs.Past.{In}
use Rattle.run_rules.specs.declared.applied.Why.{Why}
use Rattle.run_rules.specs.declared.applied.Why.TheVariants.{ForCall}
use Rattle.std.specs.List.{list_any}
use Rattle.token_types.specs.declared.token.Token.{Token}
use Rattle.token_types.specs.declared.token.TokenId.{TokenId}
use Rattle.tree_calls.specs.declared.part.Piece.{Piece}
use Rattle.tree_laws.specs.Parts.Part.{ByteAt}

-- the numbers of tokens
abbrev pub ids_of : List Token → List TokenId
ids_of tokens = map (λ token. token.id) tokens

-- these pieces are the dirty bytes of a file that tokens have which leave, and none that stays
pub record AreLeft (m : Tables) (fid : Fid) (giving leaving : List Token) (pieces : List Piece) : Type 0 where
  pub rise : PiecesRise pieces
  pub bytes : (at : ℕ) → byte_of pieces at ≡ (if is_dirty m.dirty fid at && covers_left m fid giving leaving at
      then Some (content m.cache fid (ByteAt at)) else None)
  -- none is empty and no two touch, so they are few, and a message may carry them
  pub fit : AreFileBytes pieces

-- a give-back of a file, the next of its fileset, of some of the tokens that leave
pub record GivesSo (m : Tables) (fid : Fid) (giving leaving : List Token) (give : Give) : Type 0 where
  pub number : give.number ≡ last_of m.gives.counters fid.fileset + 1
  pub file : give.fid ≡ fid
  pub ids : give.ids ≡ ids_of giving
  pub pieces : AreLeft m fid giving leaving give.pieces
  pub length : give.length ≡ dirty_length m fid
  pub ends : give.ends ≡ None

-- the lengths that were given back, with that of a give-back
abbrev pub with_length_of : Fid → ℕ → Option ℕ → List Given → List Given
with_length_of fid number None lengths = lengths
with_length_of fid number (Some length) lengths =
    with_given (record { fid = fid; number = number; length = length; known = false }) lengths

-- what a step that makes a give-back has made, and has to send
abbrev pub noting_due : Tables → FilesetId → Draft → Draft
noting_due m fileset draft =
    if is_none (outstanding m.gives fileset) then record draft { due = with_once draft.due fileset } else draft

abbrev pub making : Tables → Give → Draft → Draft
making m give draft = record (noting_due m give.fid.fileset draft) { made = draft.made ++ give ∷ [] }

-- the tables with the tokens of a give-back, and the length that it gives back
abbrev pub noting : Tables → Fid → ℕ → Option ℕ → List Token → Tables
noting m fid number length giving = record m {
  lengths = with_length_of fid number length m.lengths;
  leaving = m.leaving ++ map (leaving_by fid.fileset number) giving;
}

-- the tables with a give-back that is made
abbrev pub with_give : Tables → Give → Tables
with_give m give = record m { gives = after_add m.gives (message_to m (home_at give.fid.fileset) (GiveBack give)) }

-- the tables but for what is dirty
abbrev pub given_tables : Tables → Give → List Token → Tables → Tables
given_tables m give giving new =
    record (with_give (noting m give.fid give.number give.length giving) give) { dirty = new.dirty }

-- What is dirty after bytes of a file are given back: the rest.
pub record CleansSo (m : Tables) (fid : Fid) (giving leaving : List Token) (new : Tables) : Type 0 where
  pub bytes : (other : Fid) (at : ℕ) → is_dirty new.dirty other at
      ≡ (is_dirty m.dirty other at && not (same_fid fid other && covers_left m fid giving leaving at))
  pub lengths : (other : Fid) → length_of new.dirty other ≡ length_of m.dirty other

-- a step makes a give-back of some of the tokens of a file that leave, which may end a call
pub record Gives (m : Tables) (draft : Draft) (fid : Fid) (giving leaving : List Token) (ends : Option Ends)
    (new : Tables) (after : Draft) : Type 0 where
  pub give : Give
  pub so : GivesSo m fid giving leaving give
  pub cleans : CleansSo m fid giving leaving new
  pub tables : new ≡ given_tables m (record give { ends = ends }) giving new
  pub draft_is : after ≡ making m (record give { ends = ends }) draft

-- tokens are dropped
abbrev pub shown_without : Seen → List Token → Seen
shown_without shown tokens = fold (λ s token. after_drop s token.id) shown tokens

abbrev pub leaves_by : Why → Token → Leave
leaves_by why token = record { token = token; why = why }

pub record Drops (m : Tables) (draft : Draft) (tokens : List Token) (why : Why) (new : Tables) (after : Draft) : Type 0
  where
    pub shown : seen new.cache ≡ shown_without (seen m.cache) tokens
    pub tables : new ≡ record m { cache = new.cache }
    pub draft_is : after ≡ record draft { dropped = draft.dropped ++ map (leaves_by why) tokens }

-- why a give-back has to name a token of a file that leaves with others
abbrev pub IsDirtyLeft : Tables → Fid → List Token → Token → Type 0
IsDirtyLeft m fid leaving token =
    (at : ℕ) × (is_dirty_left m fid leaving at ≡ true) × (updates_byte at token ≡ true)

abbrev pub HasToGive : Tables → Fid → List Token → Token → Type 0
HasToGive m fid leaving token = (list_any (names token.id) m.gives.gives ≡ true) ⊎ IsDirtyLeft m fid leaving token
    ⊎ ((updates_status token.kind ≡ true) × (is_some (dirty_length m fid) ≡ true))

-- the same by what was computed: the spans that are dirty, and the length
abbrev pub has_to_give : List Message → List Span → Option ℕ → Token → Bool
has_to_give gives spans length token = list_any (names token.id) gives || is_dirty_under spans length token

-- those of the tokens of a file that leave which a give-back has to name
pub record AreGiven (m : Tables) (fid : Fid) (leaving giving : List Token) : Type 0 where
  pub test : Token → Bool
  pub some : giving ≡ filter test leaving
  pub has : (token : Token) → In token leaving → HasToGive m fid leaving token → test token ≡ true
  pub why : (token : Token) → In token leaving → test token ≡ true → HasToGive m fid leaving token

-- a give-back is made where a token has to be named
abbrev pub GivesWhere : Tables → Draft → Fid → List Token → List Token → Tables → Draft → Type 0
GivesWhere m draft fid [] leaving new after = (new ≡ m) × (after ≡ draft)
GivesWhere m draft fid (token ∷ giving) leaving new after = Gives m draft fid (token ∷ giving) leaving None new after

-- the numbers that a Returned names: of the tokens that no give-back names, and some that aren't held
abbrev pub returned_ids : List Token → List Token → List TokenId → List TokenId
returned_ids leaving giving back = ids_of (filter (λ token. not (is_named giving token)) leaving) ++ back

abbrev pub returning : Tables → Fid → List TokenId → Draft → Draft
returning m fid [] draft = draft
returning m fid (id ∷ ids) draft =
    saying m (home_at fid.fileset) (Returned (record { fid = fid; ids = id ∷ ids })) draft

-- tokens of a file leave, for a cause, with numbers that aren't held
pub record Leaves (m : Tables) (draft : Draft) (fid : Fid) (tokens : List Token) (why : Why) (back : List TokenId)
    (new : Tables) (after : Draft) : Type 0 where
  pub giving : List Token
  pub which : AreGiven m fid tokens giving
  pub given : Tables
  pub made : Draft
  pub gives : GivesWhere m draft fid giving tokens given made
  pub dropped : Draft
  pub drops : Drops given made tokens why new dropped
  pub draft_is : after ≡ returning new fid (returned_ids tokens giving back) dropped

-- tokens of a file leave in a give-back, which may end a call
pub record LeavesGiven (m : Tables) (draft : Draft) (fid : Fid) (tokens : List Token) (ends : Option Ends)
    (new : Tables) (after : Draft) : Type 0 where
  pub given : Tables
  pub made : Draft
  pub gives : Gives m draft fid tokens tokens ends given made
  pub drops : Drops given made tokens ForCall new after

-- the tokens of a file under which something is dirty
abbrev pub IsDirtyUnder : Tables → Fid → Token → Type 0
IsDirtyUnder m fid token = ((at : ℕ) × (is_dirty m.dirty fid at ≡ true) × (updates_byte at token ≡ true))
    ⊎ ((updates_status token.kind ≡ true) × (is_some (dirty_length m fid) ≡ true))

-- of the tokens of a file those under which something is dirty, in their order
pub record AreDirty (m : Tables) (fid : Fid) (tokens : List Token) : Type 0 where
  pub test : Token → Bool
  pub some : tokens ≡ filter test (tokens_at m fid)
  pub from : (token : Token) → In token tokens → In token (tokens_at m fid) × IsDirtyUnder m fid token
  pub all : (token : Token) → In token (tokens_at m fid) → IsDirtyUnder m fid token → In token tokens

-- they leave in a give-back, where there are any
abbrev pub LeavesWhere : Tables → Draft → Fid → List Token → Tables → Draft → Type 0
LeavesWhere m draft fid [] new after = (new ≡ m) × (after ≡ draft)
LeavesWhere m draft fid (token ∷ tokens) new after = LeavesGiven m draft fid (token ∷ tokens) None new after

pub record LeavesDirty (m : Tables) (draft : Draft) (fid : Fid) (new : Tables) (after : Draft) : Type 0 where
  pub tokens : List Token
  pub dirty : AreDirty m fid tokens
  pub leaves : LeavesWhere m draft fid tokens new after

-- bytes of a file, as they are seen
abbrev pub bytes_from : Tables → Fid → ℕ → ℕ → List ℕ
bytes_from m fid at zero = []
bytes_from m fid at (suc n) = content m.cache fid (ByteAt at) ∷ bytes_from m fid (suc at) n

abbrev pub bytes_seen : Tables → Fid → Span → List ℕ
bytes_seen m fid span = bytes_from m fid span.from (span.to - span.from)

abbrev pub piece_at : Tables → Fid → Span → Piece
piece_at m fid span = record { from = span.from; bytes = bytes_seen m fid span }

-- the tokens of a file are held that are for changing its bytes; the spans are covered for reading
abbrev pub AreCovered : Tables → Fid → List Token → Type 0
AreCovered m fid tokens = (token : Token) → In token tokens → In token (held_of m) × (token.fid ≡ fid)

abbrev pub AreSeen : Tables → Fid → List Span → Type 0
AreSeen m fid spans = (span : Span) → In span spans → CoversBetween (held_of m) fid false span.from span.to
