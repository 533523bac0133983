use Rattle.std.proofs.Common.{◌≡◌, ◌-◌, ◌++◌, [], ◌∷◌, drop}
use Rattle.std.specs.List.{flat_map}
use Rattle.std.specs.Option.{option_map_or}
use Rattle.tree_filesets.specs.Walk.{object_at}
use Rattle.tree_answers.specs.Losses.{losses_below}
use Rattle.tree_answers.proofs.losses.+push_losses_below.Given as goal

abbrev pub decreases-push_losses_below : goal.decreases-push_losses_below
decreases-push_losses_below l = l.levels

-- the losses so far, and those of the entries that are left
abbrev pub invariant-loop-entry : goal.invariant-loop-entry
invariant-loop-entry l =
    l.losses ++ flat_map (λ entry. option_map_or (losses_below (l.levels - 1) l.anodes l.down.host l.down.server (l.path ++ entry.name ∷ [])) (object_at l.anodes entry.anode) []) (drop l.entry-index l.entry-items)
    ≡ l.fn.losses ++ losses_below l.levels l.anodes l.down.host l.down.server l.path l.object
