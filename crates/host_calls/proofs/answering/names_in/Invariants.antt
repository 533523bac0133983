use Rattle.std.proofs.Common.{◌≡◌, take}
use Rattle.tree_objects.specs.Entries.{names_of}
use Rattle.host_calls.proofs.answering.names_in.Given as goal

abbrev pub invariant-loop-entry : goal.invariant-loop-entry
invariant-loop-entry l = l.names ≡ names_of (take l.entry-index l.entry-items)
