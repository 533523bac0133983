use Rattle.std.proofs.lemmas.Result.{on_ok_weaker}
use Rattle.server_says.proofs.Told.{admit_counted, is_admitted}
use Rattle.server_says.proofs.claiming.admit.Goals as goal

pub reclaim-requires : goal.reclaim-requires
reclaim-requires c = record {
  counted =
      admit_counted c.args.tables.now c.grant.new.tables c.answer_all.new.tables c.answer_all.new.tables
      c.args.draft.now c.grant.new.draft c.answer_all.new.draft c.args.admission c.in_ok-answers.answers
      c.as_slice.result.now c.in_ok-answers.ensures c.as_slice.ensures c.in_ok-grant.ensures.tables
      c.in_ok-grant.ensures.draft c.in_ok-answer_all.ensures.tables c.in_ok-answer_all.ensures.draft
      c.requires.counted;
}

pub returns-clause-admitted : goal.returns-clause-admitted
returns-clause-admitted c =
    on_ok_weaker c.reclaim.result
    (λ e. is_admitted c.args.tables.now c.grant.new.tables c.answer_all.new.tables c.reclaim.new.self
    c.args.draft.now c.grant.new.draft c.answer_all.new.draft c.args.admission c.in_ok-answers.answers
    c.as_slice.result.now c.in_ok-answers.ensures c.as_slice.ensures c.in_ok-grant.ensures.tables
    c.in_ok-grant.ensures.draft c.in_ok-answer_all.ensures.tables c.in_ok-answer_all.ensures.draft e)
    c.reclaim.ensures.after
