use Rattle.std.proofs.Common.{Some, take}
use Rattle.std.specs.List.{flat_map}
use Rattle.base_types.specs.declared.access.AccessEntry.{AccessEntry}
use Rattle.host_tells.specs.Spoken.{Puts}
use Rattle.message_parts.specs.Access.{spell_access_entry}
use Rattle.host_tells.proofs.spelling.put_entries.Given as goal

abbrev pub invariant-loop-entry : goal.invariant-loop-entry
invariant-loop-entry l =
    Puts (flat_map (λ (entry : AccessEntry). (spell_access_entry entry).bytes) (take l.entry-index l.entries)) l.at
    l.initial.out l.out (Some l.end)
