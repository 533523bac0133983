-- The rows of the call table that change nothing.
use Rattle.std.specs.Prelude.{ℕ, List, take, drop, Result, Ok}
use Rattle.base_types.specs.Outcomes.{and_then}
use Rattle.base_types.specs.declared.user.User.{User}
use Rattle.tree_calls.specs.declared.place.Which.{Which}
use Rattle.tree_calls.specs.declared.reply.Refusal.{Refusal}
use Rattle.tree_calls.specs.declared.reply.Reply.{Reply}
use Rattle.tree_calls.specs.declared.reply.Reply.TheVariants.{Bytes, Names, Facts, Access}
use Rattle.tree_calls.specs.declared.part.DirEntry.{DirEntry}
use Rattle.tree_objects.specs.Files.{content_bytes}
use Rattle.tree_objects.specs.Entries.{names_of}
use Rattle.tree_objects.specs.Objects.{entries_of, facts_of, access_of}
use Rattle.tree_filesets.specs.declared.fileset.Fileset.{Fileset}
use Rattle.tree_filesets.specs.Answers.{told}
use Rattle.tree_filesets.specs.Checks.{permission}
use Rattle.tree_filesets.specs.Rights.{read_right}
use Rattle.tree_filesets.specs.Walk.{target, permitted_file}

-- Read: walk; IsDir; Denied (read). The present bytes from a position on, at most so many
unfoldable pub read_reply : Fileset → User → List (List ℕ) → ℕ → ℕ → Reply
read_reply fileset user path from len =
    told (permitted_file fileset user path read_right)
    (λ (anode, object). Bytes (take len (drop from (content_bytes object.content))))

-- the directory to list: walk; NotDir; Denied (read)
unfoldable pub list_target : Fileset → User → List (List ℕ) → Result (List DirEntry) Refusal
list_target fileset user path =
    and_then (target fileset user path) (λ (anode, object).
    and_then (entries_of object.content) (λ entries.
    and_then (permission object user read_right) (λ _. Ok entries)))

-- List: the names, in the order of their bytes
unfoldable pub list_reply : Fileset → User → List (List ℕ) → Reply
list_reply fileset user path = told (list_target fileset user path) (λ entries. Names (names_of entries))

-- Stat: walk. The kind, present length, owner and the caller's rights
unfoldable pub stat_reply : Fileset → User → List (List ℕ) → Reply
stat_reply fileset user path = told (target fileset user path) (λ (anode, object). Facts (facts_of object user))

-- GetAcl: walk; NotDir (a file, and not its own list). The list
unfoldable pub access_reply : Fileset → User → List (List ℕ) → Which → Reply
access_reply fileset user path which =
    told (and_then (target fileset user path) (λ (anode, object). access_of which object.content)) (λ list. Access list)
