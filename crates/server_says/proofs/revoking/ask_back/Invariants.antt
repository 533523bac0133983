use Rattle.std.proofs.Common.{◌≡◌, length}
use Rattle.server_says.specs.Revoking.{asking_back}
use Rattle.server_says.proofs.revoking.ask_back.Given as goal

abbrev pub invariant-loop-first : goal.invariant-loop-first
invariant-loop-first l =
    asking_back l.tables l.draft l.left ≡ asking_back l.initial.tables l.initial.draft l.initial.left

abbrev pub decreases-loop-first : goal.decreases-loop-first
decreases-loop-first l = length l.left
