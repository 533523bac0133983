-- The files that locks and opens name.
use Rattle.std.specs.Prelude.{ℕ, Bool, true, false, ◌&&◌, if◌then◌else◌, List, Result, Ok}
use Rattle.base_types.specs.Outcomes.{and_then}
use Rattle.base_types.specs.declared.ids.Fid.{Fid}
use Rattle.base_types.specs.declared.ids.OpenKind.{OpenKind}
use Rattle.base_types.specs.declared.ids.OpenKind.TheVariants.{Reading, Writing, Executing, Shared, Exclusive}
use Rattle.base_types.specs.declared.user.User.{User}
use Rattle.tree_calls.specs.declared.reply.Refusal.{Refusal}
use Rattle.tree_calls.specs.declared.reply.Refusal.TheVariants.{ReadOnly}
use Rattle.tree_filesets.specs.declared.fileset.Fileset.{Fileset}
use Rattle.tree_filesets.specs.Checks.{unless, permission}
use Rattle.tree_filesets.specs.Rights.{read_right, write_right, execute_right}
use Rattle.tree_filesets.specs.Walk.{unique_at, file_target}

-- a file to be used: walk; IsDir; ReadOnly (to be changed, in a clone); Denied
unfoldable pub use_target : Fileset → User → List (List ℕ) → Bool → ℕ → Result Fid Refusal
use_target fileset user path changing right =
    and_then (file_target fileset user path) (λ (anode, object).
    unless (changing && fileset.read_only) ReadOnly (
    and_then (permission object user right) (λ _.
    Ok (record { fileset = fileset.id; anode = anode; unique = unique_at fileset.anodes anode }))))

-- Lock: write for a lock for writing, else read
abbrev pub lock_target : Fileset → User → List (List ℕ) → Bool → Result Fid Refusal
lock_target fileset user path writing =
    use_target fileset user path writing (if writing then write_right else read_right)

-- whether an open file is to be changed
abbrev pub is_changing : OpenKind → Bool
is_changing Writing = true
is_changing Exclusive = true
is_changing _ = false

-- the right that an open needs
abbrev pub right_to_open : OpenKind → ℕ
right_to_open Reading = read_right
right_to_open Writing = write_right
right_to_open Executing = execute_right
right_to_open Shared = read_right
right_to_open Exclusive = write_right

-- OpenFile
abbrev pub open_target : Fileset → User → List (List ℕ) → OpenKind → Result Fid Refusal
open_target fileset user path kind = use_target fileset user path (is_changing kind) (right_to_open kind)
