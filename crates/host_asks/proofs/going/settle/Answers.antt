use Rattle.std.proofs.Common.{Bool, Err, IfOk, Result, subst, sym, true}
use Rattle.host_asks.specs.Asking.{doing}
use Rattle.host_asks.specs.Going.{Settles}
use Rattle.host_asks.specs.Going.Settles.{AnswersIt}
use Rattle.host_calls.specs.Looking.{IsBacked}
use Rattle.host_calls.specs.declared.looking.Verdict.{Verdict}
use Rattle.tree_calls.specs.declared.reply.Refusal.{Refusal}
use Rattle.host_asks.proofs.going.settle.Goals as goal

pub settle_by-requires : goal.settle_by-requires
settle_by-requires c =
    subst (λ (v : Result Verdict Refusal). IsBacked c.args.tables.now c.args.current.call.now v) c.in-Ok.is c.requires

pub returns-in-Ok : goal.returns-in-Ok
returns-in-Ok c =
    subst (λ (v : Result Verdict Refusal). IfOk c.settle_by.result (λ (answered : Bool). Settles c.args.current.k
    c.args.current.call.now c.args.current.first (doing c.args.tables.now c.args.draft.now)
    (doing c.settle_by.new.tables c.settle_by.new.draft) v answered)) (sym c.in-Ok.is) c.settle_by.ensures

pub returns-in_ok-answer-in-Err : goal.returns-in_ok-answer-in-Err
returns-in_ok-answer-in-Err c =
    subst (λ (v : Result Verdict Refusal). Settles c.args.current.k c.args.current.call.now c.args.current.first
    (doing c.args.tables.now c.args.draft.now) (doing c.answer.new.tables c.answer.new.draft) v true) (sym c.in-Err.is)
    (AnswersIt (Err c.in-Err.refusal) c.in_ok-answer-in-Err.ensures)
