-- Looks at parts of walks.
use Rattle.std.specs.Prelude.{ℕ, List, Result, Ok, not}
use Rattle.base_types.specs.declared.ids.Fid.{Fid}
use Rattle.base_types.specs.declared.user.User.{User}
use Rattle.tree_calls.specs.declared.part.DirEntry.{DirEntry}
use Rattle.tree_calls.specs.declared.reply.Refusal.{Refusal}
use Rattle.tree_calls.specs.declared.reply.Refusal.TheVariants.{NotDir}
use Rattle.tree_laws.specs.Parts.{Nature}
use Rattle.tree_laws.specs.Parts.Part.{Entries}
use Rattle.need_host.specs.Looks.{Look, refuse_if}
use Rattle.need_host.specs.Looks.Look.{Ends, Looks}
use Rattle.need_host.specs.Walks.{permitted}

-- the entries of a directory on which the user has a right: NotDir; Denied
abbrev pub entries_look : User → ℕ → Fid → Nature → Look (Result (List DirEntry) Refusal)
entries_look user right fid nature =
    refuse_if (not nature.dir) NotDir (
    permitted nature user right (
    Looks fid Entries (λ entries. Ends (Ok entries))))
