use Rattle.std.proofs.Common.{take}
use Rattle.server_says.specs.Claiming.{AreAnswers}
use Rattle.server_says.proofs.claiming.answers_to.Given as goal

abbrev pub invariant-loop-claimed : goal.invariant-loop-claimed
invariant-loop-claimed l = AreAnswers l.tables l.host (take l.claimed-index l.claimed-items) l.answers
