use Rattle.std.proofs.Common.{◌≡◌, ◌++◌, drop, map}
use Rattle.tree_objects.proofs.entries.names_of.Given as goal

-- the names so far, and those that are left
abbrev pub invariant-loop-entry : goal.invariant-loop-entry
invariant-loop-entry l = l.names ++ map (λ entry. entry.name) (drop l.entry-index l.entry-items) ≡ map (λ entry. entry.name) l.entries
