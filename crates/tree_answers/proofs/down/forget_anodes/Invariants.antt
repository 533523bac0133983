use Rattle.std.proofs.Common.{◌≡◌}
use Rattle.tree_objects.specs.Changes.{anode_changed, content_forgotten}
use Rattle.tree_answers.proofs.Mapped.{mapped_first}
use Rattle.tree_answers.proofs.down.forget_anodes.Given as goal

-- those so far have forgotten
abbrev pub invariant-loop-place : goal.invariant-loop-place
invariant-loop-place l = l.anodes ≡ mapped_first (anode_changed (content_forgotten l.host)) l.place l.fn.anodes
