-- What becomes of the stores that keep a tree, when a host writes and stores what it wrote.
use Rattle.std.specs.Prelude.{◌≡◌, ◌<◌, ℕ, ◌==◌, true, false, List, [], map, Option, Some, None}
use Rattle.std.specs.List.{list_all}
use Rattle.base_types.specs.declared.ids.Fid.{Fid}
use Rattle.base_types.specs.declared.ids.FilesetId.{FilesetId}
use Rattle.base_types.specs.declared.ids.HostId.{HostId}
use Rattle.base_types.specs.declared.span.Span.{Span}
use Rattle.tree_calls.specs.declared.call.Call.TheVariants.{Write}
use Rattle.tree_calls.specs.declared.entry.Entry.TheVariants.{Stored}
use Rattle.tree_calls.specs.declared.part.Piece.{Piece}
use Rattle.tree_calls.specs.declared.place.Place.{Place}
use Rattle.tree_calls.specs.declared.reply.Reply.TheVariants.{Ok as Accepted}
use Rattle.tree_calls.specs.declared.ship.Record.{Record}
use Rattle.tree_filesets.specs.WellFormed.{is_at_rest}
use Rattle.tree_filesets.specs.declared.fileset.Fileset.{Fileset}
use Rattle.tree_objects.specs.declared.content.Content.{Content}
use Rattle.tree_objects.specs.declared.content.Content.TheVariants.{Dir, File}
use Rattle.tree_saving.specs.Saving.{fid_named}
use Rattle.tree_answers.specs.declared.tree.Tree.{Tree}
use Rattle.tree_answers.specs.Answers.{answer_to}
use Rattle.tree_answers.specs.Histories.{IsLegal, after_entry}
use Rattle.tree_answers.specs.Stores.{content_at}
use Rattle.tree_answers.specs.WellFormed.{IsWellFormed}
use Rattle.store_acts.specs.Sound.{IsAct}
use Rattle.store_acts.specs.declared.act.Act.TheVariants.{Give}
use Rattle.store_laws.specs.Gives.{piece_of}
use Rattle.store_state.specs.State.{records_of, record_of}
use Rattle.store_state.specs.declared.state.StoreState.{StoreState}
use Rattle.store_laws.specs.TreeKeeping.{KeepsOf}
use Rattle.store_laws.specs.Calls.{IsDecidedBy, DoesKeep}

-- a number is above that of the last give-back of a host that a store has applied to a fileset
abbrev pub IsNewGive : StoreState → FilesetId → HostId → ℕ → Type 0
IsNewGive state id host number =
    (records : List Record) → records_of state id ≡ Some records → (record_of records host).give < number

-- the bytes of a file that readers see in some spans, as pieces
abbrev pub pieces_in : Option Content → List Span → List Piece
pieces_in None spans = []
pieces_in (Some (Dir entries lists)) spans = []
pieces_in (Some (File list kept unsaved len)) spans = map (piece_of kept unsaved) spans

-- the tree after a host has written bytes from a position on
abbrev pub after_write : Tree → HostId → Place → ℕ → List ℕ → Tree
after_write tree host place from bytes = (answer_to tree host (Write place from bytes)).tree

-- A host writes, and then stores of the file that it wrote to so much that nothing is unsaved: the bytes that it
-- stores, and the length, are given to the store of the file's server under a number that is new, and each other store
-- keeps its part as it is.
pub record WritesAreKept : Type 0 where
  pub here : (tree : Tree) (state : StoreState) (host : HostId) (number : ℕ) (place : Place) (from : ℕ)
      (bytes : List ℕ) (fid : Fid) (spans : List Span) (stored : Option ℕ) (fileset : Fileset)
      → IsWellFormed tree → KeepsOf tree state → IsDecidedBy tree (Write place from bytes) fileset
      → fileset.server ≡ state.server → (answer_to tree host (Write place from bytes)).reply ≡ Accepted
      → fid_named tree place ≡ Some fid
      → IsLegal (after_write tree host place from bytes) (Stored host fid spans stored)
      → list_all is_at_rest
      (after_entry (after_write tree host place from bytes) (Stored host fid spans stored)).filesets ≡ true
      → IsNewGive state fid.fileset host number
      → IsAct state.roster state.server (Give host number fid
      (pieces_in (content_at (after_write tree host place from bytes) fid) spans) stored)
      → DoesKeep (after_entry (after_write tree host place from bytes) (Stored host fid spans stored)) state
      (Give host number fid (pieces_in (content_at (after_write tree host place from bytes) fid) spans) stored)
  pub elsewhere : (tree : Tree) (state : StoreState) (host : HostId) (place : Place) (from : ℕ) (bytes : List ℕ)
      (fid : Fid) (spans : List Span) (stored : Option ℕ) (fileset : Fileset)
      → IsWellFormed tree → KeepsOf tree state → IsDecidedBy tree (Write place from bytes) fileset
      → (fileset.server.0 == state.server.0) ≡ false
      → (answer_to tree host (Write place from bytes)).reply ≡ Accepted → fid_named tree place ≡ Some fid
      → KeepsOf (after_entry (after_write tree host place from bytes) (Stored host fid spans stored)) state
