use Rattle.std.proofs.Common.{◌≡◌, drop}
use Rattle.tree_answers.specs.Losses.{places_among, places_by_name}
use Rattle.tree_answers.proofs.losses.places_by_name.Given as goal

-- the places so far, and those that are left
abbrev pub invariant-loop-place : goal.invariant-loop-place
invariant-loop-place l = places_among l.filesets l.server l.places l.place (drop l.place l.fileset-items) ≡ places_by_name l.filesets l.server
