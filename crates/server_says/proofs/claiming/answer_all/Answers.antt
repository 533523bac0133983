use Rattle.std.proofs.Common.{◌≡◌, ◌∙◌, ◌+◌, List, ◌∷◌, drop, sym, ap}
use Rattle.std.proofs.lemmas.List.{at_drop_all, drop_more}
use Rattle.message_types.specs.declared.giving.Reclaimed.{Reclaimed as ReclaimedOf}
use Rattle.server_says.specs.Claiming.{answering, telling}
use Rattle.server_says.proofs.Told.{noted_on, told_none, told_on}
use Rattle.server_says.proofs.claiming.answer_all.Goals as goal

pub loop-answer-preserved : goal.loop-answer-preserved
loop-answer-preserved c =
    let answers = c.args.answers.now in
    let host = c.args.host in
    let i = c.loop-answer.answer-index in
    let t = c.loop-answer.tables in
    let d = c.loop-answer.draft in
    let a = c.answer-item.result in
    let rest = drop (i + 1) answers in
    let cut : drop i answers ≡ a ∷ rest =
    drop_more answers i a c.loop-answer-test.true ∙ ap (λ (z : ReclaimedOf). z ∷ rest) (sym c.answer-item.is) in
    record {
      tables =
          noted_on t c.tell.new.tables d c.tell.new.draft host a rest c.in_ok-tell.ensures.tables
          c.in_ok-tell.ensures.draft
          ∙ ap (λ (l : List ReclaimedOf). answering t host l) (sym cut) ∙ c.loop-answer.invariant.tables;
      draft =
          told_on t c.tell.new.tables d c.tell.new.draft host a rest c.in_ok-tell.ensures.tables
          c.in_ok-tell.ensures.draft
          ∙ ap (λ (l : List ReclaimedOf). telling t d host l) (sym cut) ∙ c.loop-answer.invariant.draft;
    }

pub returns-clause-tables : goal.returns-clause-tables
returns-clause-tables c =
    sym (at_drop_all (λ (l : List ReclaimedOf). answering c.loop-answer.tables c.args.host l) c.args.answers.now
    c.loop-answer.answer-index c.loop-answer-test.false) ∙ c.loop-answer.invariant.tables

pub returns-clause-draft : goal.returns-clause-draft
returns-clause-draft c =
    told_none c.loop-answer.tables c.loop-answer.draft c.args.host
    ∙ sym (at_drop_all (λ (l : List ReclaimedOf). telling c.loop-answer.tables c.loop-answer.draft c.args.host l)
    c.args.answers.now c.loop-answer.answer-index c.loop-answer-test.false) ∙ c.loop-answer.invariant.draft
