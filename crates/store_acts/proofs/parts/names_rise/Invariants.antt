use Rattle.std.proofs.Common.{◌≡◌, length}
use Rattle.tree_objects.specs.Sound.{names_rise}
use Rattle.store_acts.proofs.parts.names_rise.Given as goal

-- the names rise if those that are left do
abbrev pub invariant-loop-first : goal.invariant-loop-first
invariant-loop-first l = names_rise l.rest ≡ names_rise l.entries

abbrev pub decreases-loop-first : goal.decreases-loop-first
decreases-loop-first l = length l.rest
