use Rattle.std.proofs.Common.{◌≡◌, ◌+◌, drop}
use Rattle.tree_filesets.specs.Creation.{first_vacancy}
use Rattle.tree_filesets.proofs.creating.first_vacancy.Given as goal

-- what is left has the first
abbrev pub invariant-loop-place : goal.invariant-loop-place
invariant-loop-place l = first_vacancy (l.place + 1) (drop l.place l.anodes) ≡ first_vacancy 1 l.anodes
