-- Histories in which hosts store at once what they wrote, and number their calls.
use Rattle.std.specs.Prelude.{ℕ, ◌+◌, ◌==◌, ◌&&◌, Bool, true, false, if◌then◌else◌, List, [], ◌∷◌, Option, Some, None}
use Rattle.std.specs.List.{list_all}
use Rattle.std.specs.Option.{option_map}
use Rattle.base_types.specs.Ids.{same_fid}
use Rattle.base_types.specs.declared.ids.Fid.{Fid}
use Rattle.base_types.specs.declared.ids.HostId.{HostId}
use Rattle.tree_calls.specs.declared.call.Call.TheVariants.{Write, MoveFileset}
use Rattle.tree_calls.specs.declared.entry.Entry.{Entry}
use Rattle.tree_calls.specs.declared.entry.Entry.TheVariants.{Call as Called, Stored, Left}
use Rattle.tree_calls.specs.declared.reply.Reply.TheVariants.{Ok as Accepted}
use Rattle.tree_filesets.specs.WellFormed.{is_at_rest}
use Rattle.tree_saving.specs.Saving.{fid_named}
use Rattle.tree_answers.specs.declared.tree.Tree.{Tree}
use Rattle.tree_answers.specs.Histories.{after_entry}
use Rattle.tree_answers.specs.Stores.{stored_tree}

-- whether an entry is a call of a host
abbrev pub is_own : HostId → Entry → Bool
is_own host (Called caller k call reply) = caller.0 == host.0
is_own host _ = false

-- whether an entry has this number, where it is a call of a host, and the number of the host's next call
abbrev pub has_number : HostId → ℕ → Entry → Bool
has_number host k (Called caller number call reply) = if caller.0 == host.0 then number == k else true
has_number host k _ = true

abbrev pub next_number : HostId → ℕ → Entry → ℕ
next_number host k entry = if is_own host entry then k + 1 else k

-- whether the calls of a host are numbered from one on
abbrev pub are_numbered : HostId → ℕ → List Entry → Bool
are_numbered host k [] = true
are_numbered host k (entry ∷ entries) = has_number host k entry && are_numbered host (next_number host k entry) entries

-- the number of a host's next call after entries
abbrev pub number_after : HostId → ℕ → List Entry → ℕ
number_after host k [] = k
number_after host k (entry ∷ entries) = number_after host (next_number host k entry) entries

-- whether nothing is unsaved in a tree
abbrev pub rests : Tree → Bool
rests tree = list_all is_at_rest tree.filesets

-- the host that an entry says to have written, and the file
abbrev pub written_by : Tree → Entry → Option (HostId × Fid)
written_by tree (Called host k (Write place from bytes) reply) = option_map (λ fid. (host, fid)) (fid_named tree place)
written_by tree _ = None

-- whether a host stores of the file that it has just written
abbrev pub is_due : Option (HostId × Fid) → HostId → Fid → Bool
is_due None host fid = false
is_due (Some written) host fid = (host.0 == written.0.0) && same_fid fid written.1

-- whether, behind what was just written, hosts store at once: what a write leaves unsaved is stored directly behind it,
-- by that host and of that file, and nothing else is ever stored; so nothing is unsaved before any other entry, nor at
-- the end
abbrev pub stores_stand : Option (HostId × Fid) → Tree → List Entry → Bool
stores_stand written tree [] = rests tree
stores_stand written tree (Stored host fid spans len ∷ entries) =
    is_due written host fid && stores_stand None (stored_tree tree host fid spans len) entries
stores_stand written tree (entry ∷ entries) =
    rests tree && stores_stand (written_by tree entry) (after_entry tree entry) entries

-- whether an entry moves no fileset
abbrev pub moves_none : Entry → Bool
moves_none (Called host k (MoveFileset server name to) Accepted) = false
moves_none (Left server id) = false
moves_none _ = true
