use Rattle.message_parts.proofs.Digits.{IsSoFar}
use Rattle.message_parts.proofs.number.number_at.Given as goal

abbrev pub invariant-loop-lacking : goal.invariant-loop-lacking
invariant-loop-lacking l = IsSoFar l.width l.least l.most l.bytes l.lacking l.front l.rest

abbrev pub decreases-loop-lacking : goal.decreases-loop-lacking
decreases-loop-lacking l = l.lacking
