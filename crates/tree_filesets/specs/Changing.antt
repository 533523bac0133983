-- The rows of the call table that change one object.
use Rattle.std.specs.Prelude.{ℕ, ◌+◌, nat_lt, List, length, Result, Ok}
use Rattle.base_types.specs.Outcomes.{and_then}
use Rattle.base_types.specs.declared.ids.HostId.{HostId}
use Rattle.base_types.specs.declared.user.User.{User}
use Rattle.base_types.specs.declared.access.AccessEntry.{AccessEntry}
use Rattle.base_types.specs.declared.limits.TheConstants.{FILE_BYTES_MAX}
use Rattle.tree_calls.specs.declared.place.Which.{Which}
use Rattle.tree_calls.specs.declared.reply.Refusal.{Refusal}
use Rattle.tree_calls.specs.declared.reply.Refusal.TheVariants.{ReadOnly, TooBig}
use Rattle.tree_objects.specs.Changes.{content_written, content_truncated}
use Rattle.tree_objects.specs.Stores.{content_synced}
use Rattle.tree_objects.specs.Objects.{access_of, content_with_list}
use Rattle.tree_filesets.specs.declared.fileset.Fileset.{Fileset}
use Rattle.tree_filesets.specs.Answers.{Answered, answered}
use Rattle.tree_filesets.specs.Checks.{unless, permission}
use Rattle.tree_filesets.specs.Rights.{write_right, control_right}
use Rattle.tree_filesets.specs.Updates.{changed}
use Rattle.tree_filesets.specs.Walk.{target, file_target, permitted_file}

-- Write and Truncate: ReadOnly; walk; IsDir; Denied (write); TooBig (the end)
unfoldable pub write_target : Fileset → User → List (List ℕ) → ℕ → Result ℕ Refusal
write_target fileset user path end =
    unless fileset.read_only ReadOnly (
    and_then (permitted_file fileset user path write_right) (λ (anode, object).
    unless (nat_lt FILE_BYTES_MAX end) TooBig (
    Ok anode)))

-- Write: the bytes are unsaved changes of the host; no bytes change nothing
unfoldable pub write_answer : Fileset → HostId → User → List (List ℕ) → ℕ → List ℕ → Answered
write_answer fileset host user path from bytes =
    answered fileset (write_target fileset user path (from + length bytes))
    (λ anode. changed fileset anode (content_written host from bytes))

-- Truncate: all unsaved changes of the file become kept, and then its length is set
unfoldable pub truncate_answer : Fileset → User → List (List ℕ) → ℕ → Answered
truncate_answer fileset user path len =
    answered fileset (write_target fileset user path len) (λ anode. changed fileset anode (content_truncated len))

-- Sync: walk; IsDir. The host's unsaved changes of the file become kept
unfoldable pub sync_answer : Fileset → HostId → User → List (List ℕ) → Answered
sync_answer fileset host user path =
    answered fileset (file_target fileset user path) (λ (anode, object). changed fileset anode (content_synced host))

-- SetAcl: ReadOnly; walk; NotDir (a file, and not its own list); Denied (control)
unfoldable pub set_access_target : Fileset → User → List (List ℕ) → Which → Result ℕ Refusal
set_access_target fileset user path which =
    unless fileset.read_only ReadOnly (
    and_then (target fileset user path) (λ (anode, object).
    and_then (access_of which object.content) (λ list.
    and_then (permission object user control_right) (λ _.
    Ok anode))))

-- SetAcl: the list is replaced
unfoldable pub set_access_answer : Fileset → User → List (List ℕ) → Which → List AccessEntry → Answered
set_access_answer fileset user path which list =
    answered fileset (set_access_target fileset user path which)
    (λ anode. changed fileset anode (content_with_list which list))
