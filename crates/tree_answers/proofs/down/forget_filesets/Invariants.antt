use Rattle.std.proofs.Common.{◌≡◌, ◌==◌, if◌then◌else◌}
use Rattle.tree_answers.specs.Losses.{fileset_forgotten}
use Rattle.tree_answers.proofs.Mapped.{mapped_first}
use Rattle.tree_answers.proofs.down.forget_filesets.Given as goal

-- those so far have forgotten
abbrev pub invariant-loop-place : goal.invariant-loop-place
invariant-loop-place l = l.filesets ≡ mapped_first (λ fileset. if fileset.server.0 == l.server.0 then fileset_forgotten l.host fileset else fileset) l.place l.fn.filesets
