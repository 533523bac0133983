use Rattle.std.proofs.Common.{◌≡◌, drop}
use Rattle.base_types.specs.Name.{is_among}
use Rattle.message_parts.specs.Access.{names_in}
use Rattle.message_parts.proofs.list.is_named.Given as goal

abbrev pub invariant-loop-entry : goal.invariant-loop-entry
invariant-loop-entry l = is_among (names_in l.group (drop l.entry-index l.entries)) l.name ≡ is_among (names_in l.group l.entries) l.name
