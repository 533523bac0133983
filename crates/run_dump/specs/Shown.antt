-- What is printed of the filesets of a tree.
use Rattle.std.specs.List.{count_by, flat_map, join_by, list_all}
use Rattle.std.specs.Prelude.{
  IsPermutation,
  List,
  Some,
  codes,
  decimal,
  if◌then◌else◌,
  is_some,
  length,
  true,
  unwrap_or,
  ℕ,
  [],
  ◌++◌,
  ◌==◌,
  ◌∷◌,
  ◌≡◌,
}
use Rattle.json.specs.Print.{quoted as json_string}
use Rattle.base_types.specs.Image.{byte_at}
use Rattle.base_types.specs.declared.access.AccessEntry.{AccessEntry}
use Rattle.tree_answers.specs.Histories.{IsHistory, after_history}
use Rattle.tree_answers.specs.WellFormed.{IsWellFormed, is_limited}
use Rattle.tree_answers.specs.declared.tree.Tree.{Tree}
use Rattle.tree_calls.specs.declared.entry.Entry.{Entry}
use Rattle.tree_calls.specs.declared.part.Piece.{Piece}
use Rattle.tree_filesets.specs.Walk.{object_at}
use Rattle.tree_filesets.specs.WellFormed.{leads}
use Rattle.tree_filesets.specs.declared.fileset.Fileset.{Fileset}
use Rattle.tree_objects.specs.Files.{present_bytes}
use Rattle.tree_objects.specs.declared.content.Content.{Content}
use Rattle.tree_objects.specs.declared.content.Content.TheVariants.{Dir, File}
use Rattle.tree_objects.specs.declared.content.Object.{Object}
use Rattle.message_types.specs.Soundness.{Each}
use Rattle.script_words.specs.Spelling.{spelled_bytes}
use Rattle.script_lines.specs.declared.script.Script.{Script}
use Rattle.script_output.specs.Dump.{fileset_head, fileset_lines, head_line, list_line, object_lines, run_line}
use Rattle.script_output.specs.Printed.{answer_line, loss_line, printed}
use Rattle.script_output.specs.Reports.{report_of}
use Rattle.script_output.specs.Summary.{fileset_json, printed_json, refused_calls}
use Rattle.script_output.specs.Texts.{path_of}
use Rattle.run_rules.specs.Runs.{IsRun, history_of}
use Rattle.run_rules.specs.Views.{byte_of}
use Rattle.run_rules.specs.declared.journal.Journal.{Journal}

-- Runs tell bytes: what no run has is zero.
abbrev pub AreTold : List ℕ → List Piece → Type 0
AreTold bytes runs = (at : ℕ) → unwrap_or (byte_of runs at) 0 ≡ byte_at bytes at

-- Lines show an object: its kind, its path, how many bytes or entries it has, its owner and group; a file's list and
-- runs that tell the bytes which readers see; a directory's own list, that of new files and that of new directories.
abbrev pub ShowsObject : List ℕ → Object → Content → List ℕ → Type 0
ShowsObject path object (File list kept unsaved len) lines =
    (runs : List Piece) × AreTold (present_bytes kept unsaved len) runs
    × (lines ≡ head_line (codes "file ") path (length (present_bytes kept unsaved len)) object
    ++ list_line (codes " list ") list ++ flat_map run_line runs)
ShowsObject path object (Dir entries lists) lines =
    (own files dirs : List AccessEntry) → lists ≡ own ∷ files ∷ dirs ∷ []
    → lines ≡ head_line (codes "dir ") path (length entries) object
    ++ (list_line (codes " list ") own ++ list_line (codes " files ") files ++ list_line (codes " dirs ") dirs)

-- an object in what is printed: the names that lead to it from the root, and its anode
pub record Sight : Type 0 where
  pub names : List (List ℕ)
  pub anode : ℕ
  pub object : Object

-- its lines, in a fileset of this name
abbrev pub sight_lines : List ℕ → Sight → List ℕ
sight_lines name sight = object_lines ((47 ∷ name) ++ path_of sight.names) sight.object

-- it stands where its names lead
abbrev pub IsSeen : Fileset → Sight → Type 0
IsSeen fileset sight =
    (leads fileset.anodes 1 sight.names ≡ Some sight.anode)
    × (object_at fileset.anodes sight.anode ≡ Some sight.object)

-- Lines show a fileset: behind its first line come those of its objects.
pub record Shows (fileset : Fileset) (lines : List ℕ) : Type 0 where
  pub sights : List Sight
  pub lines_are : lines ≡ fileset_head fileset ++ flat_map (sight_lines fileset.name) sights
  pub seen : Each (IsSeen fileset) sights
  -- each object is there once, and nothing else
  pub once : (anode : ℕ) → count_by (λ sight. sight.anode == anode) sights
      ≡ (if is_some (object_at fileset.anodes anode) then 1 else 0)
  -- so many does the summary count
  pub counted : fileset_json fileset
      ≡ codes "{\"name\":" ++ json_string (spelled_bytes fileset.name [])
      ++ codes ",\"objects\":" ++ decimal (length sights)
      ++ codes ",\"server\":" ++ decimal fileset.server.0 ++ codes "}"

-- The output of a history shows the filesets of the tree that it leaves: each once, behind the replies and losses; and
-- so does the summary.
pub record IsDumped (script : Script) (start : Tree) (history : List Entry) : Type 0 where
  pub filesets : List Fileset
  pub each_once : IsPermutation (after_history start history).filesets filesets
  pub shown : Each (λ fileset. Shows fileset (fileset_lines fileset)) (after_history start history).filesets
  pub text : printed script start history
      ≡ flat_map answer_line (report_of script start history).answers
      ++ flat_map loss_line (report_of script start history).losses
      ++ flat_map fileset_lines filesets ++ codes "end\n"
  pub summary : printed_json script start history
      ≡ (codes "{\"calls\":" ++ decimal (length (report_of script start history).answers)
      ++ codes ",\"filesets\":[" ++ join_by fileset_json (codes ",") filesets
      ++ codes "],\"lost\":" ++ decimal (length (report_of script start history).losses)
      ++ codes ",\"refused\":" ++ decimal (refused_calls (report_of script start history).answers) ++ codes "}")
      ++ codes "\n"

-- the lines of an object show it
abbrev pub ObjectsAreShown : Type 0
ObjectsAreShown = (path : List ℕ) (object : Object) → ShowsObject path object object.content (object_lines path object)

-- what a history prints shows the tree that it leaves
abbrev pub TreesAreShown : Type 0
TreesAreShown =
    (script : Script) (start : Tree) (history : List Entry) → IsWellFormed (after_history start history)
    → IsDumped script start history

-- so is the tree that a legal history leaves of a well formed one
abbrev pub HistoriesAreShown : Type 0
HistoriesAreShown =
    (script : Script) (start : Tree) (history : List Entry) → IsWellFormed start → IsHistory start history
    → list_all is_limited history ≡ true → IsDumped script start history

-- so is the tree that a run leaves
abbrev pub RunsAreShown : Type 0
RunsAreShown =
    (script : Script) (journal : Journal) (run : IsRun script journal)
    → IsDumped script run.start (history_of journal.steps)
