use Rattle.std.proofs.Common.{Some, take}
use Rattle.std.specs.List.{flat_map}
use Rattle.tree_calls.specs.declared.part.DirEntry.{DirEntry}
use Rattle.host_tells.specs.Spoken.{Puts}
use Rattle.message_parts.specs.Words.{spell_name}
use Rattle.host_tells.proofs.spelling.put_each.Given as goal

abbrev pub invariant-loop-entry : goal.invariant-loop-entry
invariant-loop-entry l =
    Puts (flat_map (λ (entry : DirEntry). (spell_name entry.name).bytes) (take l.entry-index l.entries)) l.at
    l.initial.out l.out (Some l.end)
