use Rattle.std.proofs.Common.{ap, sym, ◌∙◌}
use Rattle.std.proofs.lemmas.Result.{on_ok_weaker}
use Rattle.host_asks.specs.Asking.{doing}
use Rattle.host_manager.proofs.Learnt.{ended_gives, learns_none, learns_some, none_out}
use Rattle.host_manager.specs.Learning.{due_of, ended_by, without_give}
use Rattle.host_tables.specs.declared.tables.Tables.{Tables}
use Rattle.host_manager.proofs.learning.learn_given.Goals as goal

pub returns-in_default : goal.returns-in_default
returns-in_default c =
    let m = c.args.tables.now in
    let none = sym c.take_out.ensures.taken ∙ c.in_default.is in
    (λ i. doing (record m { gives = (c.take_out.ensures.after ∙ none_out m.gives c.args.applied none) i })
    c.args.draft.now)
    ∙ learns_none c.args.applied m c.args.draft.now none

pub returns : goal.returns
returns c =
    let m = c.args.tables.now in
    let n = c.args.applied in
    let y = c.in-Some.message in
    let ended = c.end_call.ensures ∙ (λ i. ended_by y (record m {
      gives = c.take_out.ensures.after i;
      leaving = c.forget.ensures i;
      lengths = c.mark_known.ensures i;
    })) in
    let left = ap (λ (x : Tables). x.gives) ended ∙ ended_gives y (without_give n m) in
    on_ok_weaker c.note_due.result (λ due.
    (λ i. doing (ended i) ((due ∙ (λ j. due_of n (c.is_outstanding-is_first.ensures j) (left j) c.args.draft.now)) i))
    ∙ learns_some n m c.args.draft.now y (sym c.take_out.ensures.taken ∙ c.in-Some.is)) c.note_due.ensures
