-- How entries move within a fileset.
use Rattle.std.specs.Prelude.{ℕ, List, Result, Ok}
use Rattle.base_types.specs.Outcomes.{and_then}
use Rattle.base_types.specs.declared.user.User.{User}
use Rattle.tree_calls.specs.declared.reply.Refusal.{Refusal}
use Rattle.tree_calls.specs.declared.reply.Refusal.TheVariants.{ReadOnly, Exists, Loop}
use Rattle.tree_objects.specs.Entries.{content_with_entry, content_without_entry}
use Rattle.tree_filesets.specs.declared.fileset.Fileset.{Fileset}
use Rattle.tree_filesets.specs.declared.renaming.Move.{Move}
use Rattle.tree_filesets.specs.Answers.{Answered, answered}
use Rattle.tree_filesets.specs.Checks.{unless, split_path}
use Rattle.tree_filesets.specs.Updates.{changed}
use Rattle.tree_filesets.specs.Walk.{passes, entry_target, insert_target}

-- Rename: ReadOnly; empty `from` Loop; empty `to` Exists; walk to the parent of `from`; Denied (delete); NoEntry; walk
-- to the parent of `to`; Denied (insert); Exists; Loop (that parent is the object or below it)
unfoldable pub rename_target : Fileset → User → List (List ℕ) → List (List ℕ) → Result Move Refusal
rename_target fileset user from to =
    unless fileset.read_only ReadOnly (
    and_then (split_path from Loop) (λ (name, front).
    and_then (split_path to Exists) (λ (new_name, new_front).
    and_then (entry_target fileset user front name) (λ (parent, entry).
    and_then (insert_target fileset user new_front new_name) (λ (new_parent, directory).
    unless (passes fileset.anodes user 1 new_front entry.anode) Loop (
    Ok (record { from = parent; name = name; to = new_parent; entry = record entry { name = new_name } })))))))

-- Rename: the entry moves
unfoldable pub rename_answer : Fileset → User → List (List ℕ) → List (List ℕ) → Answered
rename_answer fileset user from to =
    answered fileset (rename_target fileset user from to) (λ move.
    changed (changed fileset move.to (content_with_entry move.entry)) move.from (content_without_entry move.name))
