use Rattle.std.proofs.Common.{Option, Some, [], inl, inr, refl, subst, ◌∷◌}
use Rattle.std.proofs.lemmas.Result.{on_ok_weaker}
use Rattle.host_leaves.specs.Giving.{LeavesGiven}
use Rattle.run_rules.specs.declared.step.Labelled.{Labelled}
use Rattle.host_asks.proofs.Gone.{both_not, one_covered}
use Rattle.host_asks.proofs.going.give_used.Goals as goal

pub returns-then-not-is_held : goal.returns-then-not-is_held
returns-then-not-is_held c =
    inl (λ i. both_not c.is_held.result (c.is_held.ensures.1 i) c.if-not-is_held.true, refl)

pub leave_ended-requires : goal.leave_ended-requires
leave_ended-requires c =
    one_covered (record c.args.tables.now { ending = c.note_ending.new.ending }) c.args.used.token
    (c.is_held.ensures.0 c.if-not-is_held.false)

pub returns : goal.returns
returns c =
    let used = c.args.used in
    on_ok_weaker c.leave_ended.result
    (λ l. inr (subst (λ (e : Option Labelled). LeavesGiven (record c.args.tables.now { ending = e }) c.args.draft.now
    used.token.fid (used.token ∷ []) (Some (record { k = c.args.current.k; call = c.args.current.call.now }))
    c.leave_ended.new.tables c.leave_ended.new.draft) c.note_ending.ensures l)) c.leave_ended.ensures
