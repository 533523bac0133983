use Rattle.std.proofs.Common.{◌≡◌, ◌++◌, [], drop, slice_get}
use Rattle.std.specs.List.{flat_map}
use Rattle.std.specs.Option.{option_map_or}
use Rattle.tree_answers.specs.Losses.{fileset_losses, places_by_name}
use Rattle.tree_answers.proofs.tree.Tree.losses_of.Given as goal

-- the losses so far, and those of the filesets that are left
abbrev pub invariant-loop-place : goal.invariant-loop-place
invariant-loop-place l =
    l.losses ++ flat_map (λ place. option_map_or (fileset_losses l.host l.server) (slice_get l.self.filesets place) []) (drop l.place-index l.place-items)
    ≡ flat_map (λ place. option_map_or (fileset_losses l.host l.server) (slice_get l.self.filesets place) []) (places_by_name l.self.filesets l.server)
