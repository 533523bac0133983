-- What hosts give back of files.
use Rattle.std.specs.Prelude.{ℕ, ◌+◌, ◌&&◌, max, if◌then◌else◌, List, [], ◌∷◌, length, slice_set, Option, unwrap_or}
use Rattle.base_types.specs.declared.ids.Fid.{Fid}
use Rattle.base_types.specs.declared.ids.HostId.{HostId}
use Rattle.tree_calls.specs.declared.part.Piece.{Piece}
use Rattle.tree_calls.specs.declared.reply.Reply.TheVariants.{Ok as Accepted}
use Rattle.tree_objects.specs.declared.content.Content.{Content}
use Rattle.tree_objects.specs.declared.content.Content.TheVariants.{Dir, File}
use Rattle.tree_objects.specs.Files.{resized}
use Rattle.tree_filesets.specs.Laws.{is_file_at}
use Rattle.tree_filesets.specs.Updates.{changed}
use Rattle.store_state.specs.declared.state.Holding.{Holding}
use Rattle.store_state.specs.declared.state.StoreState.{StoreState}
use Rattle.store_state.specs.State.{is_writable, is_of, slot_so, with_held, with_record}
use Rattle.store_state.specs.Outcomes.{Outcome, fresh, applied_once, give_applied}

-- bytes put over those of a file from a position on; none behind its end
abbrev pub put_bytes : List ℕ → ℕ → List ℕ → List ℕ
put_bytes kept at [] = kept
put_bytes kept at (value ∷ values) = put_bytes (slice_set kept at value) (at + 1) values

-- pieces put over them, one after the other
abbrev pub put_pieces : List ℕ → List Piece → List ℕ
put_pieces kept [] = kept
put_pieces kept (piece ∷ pieces) = put_pieces (put_bytes kept piece.from piece.bytes) pieces

-- a file is never made shorter by what is given back; new bytes are zero
abbrev pub lengthened : List ℕ → Option ℕ → List ℕ
lengthened kept given = resized kept (max (unwrap_or given 0) (length kept))

-- the length comes first, and then the pieces as far as it reaches
abbrev pub content_given : List Piece → Option ℕ → Content → Content
content_given pieces given (Dir entries lists) = Dir entries lists
content_given pieces given (File list kept unsaved len) =
    File list (put_pieces (lengthened kept given) pieces) unsaved len

-- a holding to which it was given: a file of a writable fileset
abbrev pub held_given : Fid → List Piece → Option ℕ → Holding → Holding
held_given fid pieces given holding =
    if is_writable holding.stay && is_file_at holding.fileset fid
    then record holding { fileset = changed holding.fileset fid.anode (content_given pieces given) }
    else holding

-- Give
unfoldable pub give_outcome : StoreState → HostId → ℕ → Fid → List Piece → Option ℕ → Outcome
give_outcome state host number fid pieces given =
    applied_once state fid.fileset host number (
    fresh Accepted
    (with_record (with_held state (slot_so (is_of fid.fileset) state.slots) (held_given fid pieces given))
    fid.fileset host (give_applied number)))
