use Rattle.std.proofs.Common.{◌≡◌, ◌++◌, drop}
use Rattle.message_parts.specs.Spelled.{items}
use Rattle.message_parts.specs.Access.{spell_access_entry}
use Rattle.message_parts.proofs.list.write_entries.Given as goal

abbrev pub invariant-loop-entry : goal.invariant-loop-entry
invariant-loop-entry l = l.out ++ (items spell_access_entry (drop l.entry-index l.entries)).bytes ≡ l.initial.out ++ (items spell_access_entry l.entries).bytes
