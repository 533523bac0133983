use Rattle.std.proofs.Common.{Err, refl}
use Rattle.host_asks.specs.Going.Settles.{AnswersIt}
use Rattle.host_asks.proofs.going.refuse.Goals as goal

pub answer-requires-clause-settled : goal.answer-requires-clause-settled
answer-requires-clause-settled c = refl

pub answer-requires-clause-backed : goal.answer-requires-clause-backed
answer-requires-clause-backed c = tt

pub returns : goal.returns
returns c = (
  refl,
  record {
    marked = c.mark_used.new.tables;
    marks = c.mark_used.ensures.marks;
    settles = AnswersIt (Err c.args.refusal) c.in_ok-answer.ensures;
  },
)
