use Rattle.std.proofs.Common.{◌≡◌, drop}
use Rattle.script_lines.specs.Clones.{clone_place, placed_from, placed_by}
use Rattle.script_lines.proofs.leads.placed_at_once.Given as goal

abbrev pub invariant-loop-clone : goal.invariant-loop-clone
invariant-loop-clone l = placed_from (clone_place l.placed l.clones) l.more (drop l.clone-index l.clones) ≡ placed_by l.placed l.clones
