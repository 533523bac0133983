use Rattle.std.proofs.Common.{◌≡◌, ◌-◌, ◌++◌, [], ◌∷◌, drop}
use Rattle.std.specs.List.{flat_map}
use Rattle.std.specs.Option.{option_map_or}
use Rattle.tree_filesets.specs.Walk.{object_at}
use Rattle.script_output.specs.Dump.{lines_below}
use Rattle.script_output.proofs.dump.+push_below.Given as goal

abbrev pub decreases-push_below : goal.decreases-push_below
decreases-push_below l = l.levels

-- the lines so far, and those of the entries that are left
abbrev pub invariant-loop-entry : goal.invariant-loop-entry
invariant-loop-entry l =
    l.out ++ flat_map (λ entry. option_map_or (lines_below (l.levels - 1) l.anodes (l.path ++ 47 ∷ entry.name)) (object_at l.anodes entry.anode) []) (drop l.entry-index l.entry-items)
    ≡ l.fn.out ++ lines_below l.levels l.anodes l.path l.object
