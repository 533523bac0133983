use Rattle.std.proofs.Common.{Ok, subst, sym, false}
use Rattle.host_asks.specs.Asking.{doing}
use Rattle.host_asks.specs.Going.{Settles}
use Rattle.host_asks.specs.Going.Settles.{AnswersIt, AsksIt, GivesIt, SyncsIt}
use Rattle.host_calls.specs.Looking.{IsBacked}
use Rattle.host_calls.specs.declared.looking.Verdict.{Verdict}
use Rattle.host_asks.proofs.Gone.{settled_else}
use Rattle.host_asks.proofs.going.settle_by.Goals as goal

pub returns-in_ok-leave_dirty-in-Syncs : goal.returns-in_ok-leave_dirty-in-Syncs
returns-in_ok-leave_dirty-in-Syncs c =
    subst (λ (v : Verdict). Settles c.args.current.k c.args.current.call.now c.args.current.first (doing
    c.args.tables.now c.args.draft.now) (doing c.leave_dirty.new.tables c.leave_dirty.new.draft) (Ok v) false) (sym
    c.in-Syncs.is)
    (SyncsIt c.in-Syncs.fid c.in_ok-leave_dirty-in-Syncs.ensures)

pub give_use-requires : goal.give_use-requires
give_use-requires c =
    subst (λ (v : Verdict). IsBacked c.args.tables.now c.args.current.call.now (Ok v)) c.in-Gives.is c.requires

pub returns-in_ok-give_use-in-Gives : goal.returns-in_ok-give_use-in-Gives
returns-in_ok-give_use-in-Gives c =
    subst (λ (v : Verdict). Settles c.args.current.k c.args.current.call.now c.args.current.first (doing
    c.args.tables.now c.args.draft.now) (doing c.give_use.new.tables c.give_use.new.draft) (Ok v) false) (sym
    c.in-Gives.is)
    (GivesIt c.in_ok-give_use-in-Gives.ensures)

pub returns-in_ok-ask_question-in-Asks : goal.returns-in_ok-ask_question-in-Asks
returns-in_ok-ask_question-in-Asks c =
    subst (λ (v : Verdict). Settles c.args.current.k c.args.current.call.now c.args.current.first (doing
    c.args.tables.now c.args.draft.now) (doing c.ask_question.new.tables c.ask_question.new.draft) (Ok v) false) (sym
    c.in-Asks.is)
    (AsksIt c.in-Asks.question c.in_ok-ask_question-in-Asks.ensures)

pub answer-requires-clause-settled : goal.answer-requires-clause-settled
answer-requires-clause-settled c =
    settled_else c.args.verdict c.in_default.not-Syncs c.in_default.not-Gives c.in_default.not-Asks

pub answer-requires-clause-backed : goal.answer-requires-clause-backed
answer-requires-clause-backed c = c.requires

pub returns-in_ok-answer-in_default : goal.returns-in_ok-answer-in_default
returns-in_ok-answer-in_default c = AnswersIt (Ok c.args.verdict) c.in_ok-answer-in_default.ensures
