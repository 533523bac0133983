-- What a host has in use: its locks and open files, by their labels.
use Rattle.std.specs.Prelude.{◌==◌, Bool, true, false, not, if◌then◌else◌, List, [], ◌∷◌, ◌++◌, filter}
use Rattle.base_types.specs.Name.{same_name}
use Rattle.base_types.specs.declared.ids.HostId.{HostId}
use Rattle.tree_calls.specs.declared.call.Call.{Call}
use Rattle.tree_calls.specs.declared.call.Call.TheVariants as calls
use Rattle.tree_calls.specs.declared.entry.Entry.{Entry}
use Rattle.tree_calls.specs.declared.entry.Entry.TheVariants.{Call as Called}
use Rattle.tree_calls.specs.declared.reply.Reply.{Reply}
use Rattle.tree_calls.specs.declared.reply.Reply.TheVariants.{Ok as Done}
use Rattle.service_plain.specs.declared.uses.Use.{Use}
use Rattle.service_plain.specs.declared.uses.Use.TheVariants.{Lock, Open}

-- whether two uses are the same: labels of locks and of open files are two spaces of names
abbrev pub same_use : Use → Use → Bool
same_use (Lock a) (Lock b) = same_name a b
same_use (Open a) (Open b) = same_name a b
same_use _ _ = false

-- uses without one
abbrev pub without : Use → List Use → List Use
without gone uses = filter (λ other. not (same_use other gone)) uses

-- whether a call was done
abbrev pub is_done : Reply → Bool
is_done Done = true
is_done _ = false

-- what a host has in use after a call that was done, in the order in which it was taken
abbrev pub used_after : List Use → Call → List Use
used_after uses (calls.Lock label place writing from len) = uses ++ Lock label ∷ []
used_after uses (calls.Unlock label) = without (Lock label) uses
used_after uses (calls.OpenFile label place kind) = uses ++ Open label ∷ []
used_after uses (calls.CloseFile label) = without (Open label) uses
used_after uses _ = uses

-- a call that was refused changes nothing
abbrev pub used_if : Bool → List Use → Call → List Use
used_if done uses call = if done then used_after uses call else uses

-- what a host has in use after an entry
abbrev pub used_by : HostId → List Use → Entry → List Use
used_by host uses (Called caller k call reply) = if caller.0 == host.0 then used_if (is_done reply) uses call else uses
used_by host uses _ = uses

-- what a host has in use after entries
abbrev pub uses_from : HostId → List Use → List Entry → List Use
uses_from host uses [] = uses
uses_from host uses (entry ∷ entries) = uses_from host (used_by host uses entry) entries

-- the call that ends a use
abbrev pub ending : Use → Call
ending (Lock label) = calls.Unlock label
ending (Open label) = calls.CloseFile label
