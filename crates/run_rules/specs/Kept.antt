-- The kept filesets of a server. `past` is the server's own earlier steps.
use Rattle.std.specs.List.{find, fold}
use Rattle.std.specs.Option.{option_map_or}
use Rattle.std.specs.Prelude.{Bool, List, Option, [], false, filter, if◌then◌else◌, length, max, not, suc, true}
use Rattle.std.specs.Prelude.{unwrap_or, zero, ℕ, ◌&&◌, ◌==◌, ◌∷◌}
use Rattle.base_types.specs.Image.{byte_at}
use Rattle.base_types.specs.Lists.{changed_at}
use Rattle.base_types.specs.declared.ids.Fid.{Fid}
use Rattle.base_types.specs.declared.ids.ServerId.{ServerId}
use Rattle.tree_answers.specs.Answers.{answer_to}
use Rattle.tree_answers.specs.Finding.{has_id}
use Rattle.tree_answers.specs.Stores.{place_with_id}
use Rattle.tree_answers.specs.declared.tree.Tree.{Tree}
use Rattle.tree_calls.specs.declared.part.Piece.{Piece}
use Rattle.tree_filesets.specs.Laws.{is_file_at}
use Rattle.tree_filesets.specs.Updates.{changed}
use Rattle.tree_objects.specs.declared.content.Content.{Content}
use Rattle.tree_objects.specs.declared.content.Content.TheVariants.{Dir, File}
use Rattle.message_types.specs.declared.message.Body.{Body}
use Rattle.message_types.specs.declared.message.Body.TheVariants.{GiveBack}
pub use Rattle.run_rules.specs.Doings.{is_refusal}
use Rattle.run_rules.specs.Views.{byte_of}
use Rattle.run_rules.specs.declared.applied.Applied.{Applied}
use Rattle.run_rules.specs.declared.applied.Applied.TheVariants.{Done, Stored}
use Rattle.run_rules.specs.declared.step.Cause.{Cause}
use Rattle.run_rules.specs.declared.step.Cause.TheVariants.{Message as Came}
use Rattle.run_rules.specs.declared.step.Step.{Step}

-- the kept length where a length is given: it only grows
abbrev pub length_given : ℕ → Option ℕ → ℕ
length_given kept given = option_map_or (max kept) given kept

-- so many kept bytes from a position on, after pieces were given
abbrev pub bytes_given : List ℕ → List Piece → ℕ → ℕ → List ℕ
bytes_given kept pieces at zero = []
bytes_given kept pieces at (suc n) =
    unwrap_or (byte_of pieces at) (byte_at kept at) ∷ bytes_given kept pieces (suc at) n

-- a file after bytes and a length were given: the length is set first, and then the bytes below it
abbrev pub content_given : List Piece → Option ℕ → Content → Content
content_given pieces given (Dir entries lists) = Dir entries lists
content_given pieces given (File list kept unsaved len) =
    File list (bytes_given kept pieces 0 (length_given (length kept) given)) unsaved len

-- whether what is given of a file can be kept: the file is there, and its fileset is no clone
abbrev pub takes_gifts : Tree → Fid → Bool
takes_gifts tree fid = option_map_or (λ fileset. not fileset.read_only && is_file_at fileset fid)
    (find (has_id fid.fileset) tree.filesets) false

unfoldable pub tree_given : Tree → Fid → List Piece → Option ℕ → Tree
tree_given tree fid pieces given =
    if takes_gifts tree fid
    then record tree {
      filesets = changed_at tree.filesets (place_with_id tree.filesets fid.fileset)
          (λ fileset. changed fileset fid.anode (content_given pieces given));
    }
    else tree

abbrev pub pieces_of : Body → List Piece
pieces_of (GiveBack give) = give.pieces
pieces_of _ = []

abbrev pub pieces_in : Cause → List Piece
pieces_in (Came m) = pieces_of m.body
pieces_in _ = []

-- A Change that is written down has the call's effect on the kept filesets; a refused one has none. What is stored
-- is the bytes and the length of the give-back that is the step's cause. Locks and open files aren't kept.
abbrev pub filesets_after : Cause → Tree → Applied → Tree
filesets_after cause tree (Done written) =
    if is_refusal written.answer.reply then tree else (answer_to tree written.answer.host written.answer.call).tree
filesets_after cause tree (Stored host fid spans given) = tree_given tree fid (pieces_in cause) given
filesets_after cause tree _ = tree

-- after some of what a step applies
abbrev pub filesets_through : Cause → List Applied → Tree → Tree
filesets_through cause applied tree = fold (filesets_after cause) tree applied

-- what a server keeps at the start: its filesets, with nothing in use
abbrev pub filesets_first : Tree → ServerId → Tree
filesets_first start server =
    record start { filesets = filter (λ fileset. fileset.server.0 == server.0) start.filesets; locks = []; opens = [] }

-- the kept filesets after the server's steps
abbrev pub filesets_kept : Tree → ServerId → List Step → Tree
filesets_kept start server [] = filesets_first start server
filesets_kept start server (s ∷ past) = filesets_through s.cause s.applied (filesets_kept start server past)
