-- How filesets are written, object by object.
use Rattle.std.specs.Prelude.{
  ℕ,
  zero,
  suc,
  ◌+◌,
  ◌==◌,
  ◌&&◌,
  Bool,
  true,
  false,
  not,
  if◌then◌else◌,
  List,
  [],
  ◌∷◌,
  ◌++◌,
  length,
  slice_get,
  flat_map,
  take_while,
  codes,
  decimal,
}
use Rattle.std.specs.Option.{option_map_or}
use Rattle.base_types.specs.declared.access.AccessEntry.{AccessEntry}
use Rattle.tree_calls.specs.declared.part.Piece.{Piece}
use Rattle.tree_objects.specs.declared.content.Content.{Content}
use Rattle.tree_objects.specs.declared.content.Content.TheVariants.{Dir, File}
use Rattle.tree_objects.specs.declared.content.Object.{Object}
use Rattle.tree_objects.specs.declared.content.Anode.{Anode}
use Rattle.tree_objects.specs.Files.{present_bytes}
use Rattle.tree_filesets.specs.declared.fileset.Fileset.{Fileset}
use Rattle.tree_filesets.specs.Walk.{object_at}
use Rattle.tree_filesets.specs.Laws.{entries_in}
use Rattle.script_output.specs.Texts.{quoted, word_text}
use Rattle.script_output.specs.Access.{list_text}

-- the bytes before the first that is zero
abbrev pub before_zero : List ℕ → List ℕ
before_zero bytes = take_while (λ byte. not (byte == 0)) bytes

-- The maximal runs of bytes that aren't zero, of bytes from a position on and with this byte before them: a run begins
-- where the byte before is zero, and ends before the next zero.
abbrev pub runs_after : ℕ → ℕ → List ℕ → List Piece
runs_after last at [] = []
runs_after last at (byte ∷ bytes) =
    if (last == 0) && not (byte == 0)
    then record { from = at; bytes = before_zero (byte ∷ bytes) } ∷ runs_after byte (at + 1) bytes
    else runs_after byte (at + 1) bytes

-- the maximal runs of a file's bytes that aren't zero
abbrev pub runs_of : List ℕ → List Piece
runs_of bytes = runs_after 0 0 bytes

-- the line of a run
unfoldable pub run_line : Piece → List ℕ
run_line run = codes " " ++ decimal run.from ++ codes " " ++ quoted run.bytes ++ codes "\n"

-- the line of a list that is there, after its name
unfoldable pub list_line : List ℕ → List AccessEntry → List ℕ
list_line name list = name ++ word_text (list_text list) ++ codes "\n"

-- one of a directory's lists
abbrev pub nth_list_line : List ℕ → List (List AccessEntry) → ℕ → List ℕ
nth_list_line name lists n = option_map_or (list_line name) (slice_get lists n) []

-- the first line of an object: its kind, path, bytes or entries, owner and group
unfoldable pub head_line : List ℕ → List ℕ → ℕ → Object → List ℕ
head_line kind path len object =
    kind ++ word_text path ++ codes " " ++ decimal len ++ codes " " ++ word_text object.owner
    ++ codes " " ++ word_text object.group ++ codes "\n"

-- the lines of a directory's lists: its own, that of new files and that of new directories
unfoldable pub dir_lists : List (List AccessEntry) → List ℕ
dir_lists lists =
    nth_list_line (codes " list ") lists 0
    ++ nth_list_line (codes " files ") lists 1 ++ nth_list_line (codes " dirs ") lists 2

-- the lines of one object, by what it contains
abbrev pub lines_by : List ℕ → Object → Content → List ℕ
lines_by path object (Dir entries lists) = head_line (codes "dir ") path (length entries) object ++ dir_lists lists
lines_by path object (File list kept unsaved len) =
    let bytes = present_bytes kept unsaved len in
    head_line (codes "file ") path (length bytes) object
    ++ list_line (codes " list ") list ++ flat_map run_line (runs_of bytes)

unfoldable pub object_lines : List ℕ → Object → List ℕ
object_lines path object = lines_by path object object.content

-- The lines of an object and of those below it, down to so many levels: each entry's subtree whole before the next, in
-- the order of the entries, which is that of their names.
abbrev pub lines_below : ℕ → List Anode → List ℕ → Object → List ℕ
lines_below zero anodes path object = []
lines_below (suc levels) anodes path object =
    object_lines path object
    ++ flat_map (λ entry. option_map_or (lines_below levels anodes (path ++ 47 ∷ entry.name))
    (object_at anodes entry.anode) []) (entries_in object.content)

-- whether a fileset is a clone
abbrev pub mode_text : Bool → List ℕ
mode_text true = codes " ro "
mode_text false = codes " rw "

-- the first line of a fileset: its server, its name and its object limit
unfoldable pub fileset_head : Fileset → List ℕ
fileset_head fileset =
    codes "fileset s" ++ decimal fileset.server.0 ++ codes " " ++ word_text fileset.name ++ mode_text fileset.read_only
    ++ decimal fileset.objects ++ codes "\n"

-- the lines of a fileset; there are no more levels than anodes
unfoldable pub fileset_lines : Fileset → List ℕ
fileset_lines fileset =
    fileset_head fileset
    ++ option_map_or (lines_below (length fileset.anodes) fileset.anodes (47 ∷ fileset.name))
    (object_at fileset.anodes 1) []
