use Rattle.host_leaves.proofs.DirtyTokens.{at_file as file_at}
use Rattle.std.proofs.Common.{[], subst, sym, ◌∙◌}
use Rattle.std.proofs.lemmas.Result.{on_ok_weaker}
use Rattle.host_leaves.specs.Giving.{AreCovered, Leaves}
use Rattle.host_tables.proofs.Lists.{true_false}
use Rattle.host_manager.specs.Closing.LeavesFile.{NowLeaves}
use Rattle.run_rules.specs.declared.applied.Why.TheVariants.{Ended}
use Rattle.host_manager.proofs.closing.leave_file.Goals as goal

pub leave-requires : goal.leave-requires
leave-requires c =
    let m = c.args.tables.now in
    subst (AreCovered m c.args.fid) (sym (c.as_slice.ensures ∙ c.in_ok-tokens.ensures ∙ c.tokens_at.ensures))
    (λ t i. file_at m c.args.fid t i)

pub returns : goal.returns
returns c =
    let is = c.as_slice.ensures ∙ c.in_ok-tokens.ensures ∙ c.tokens_at.ensures in
    on_ok_weaker c.leave.result (λ l. NowLeaves
    (λ none. true_false c.is_empty.result (c.is_empty.ensures.1 (sym c.as_slice.ensures ∙ is ∙ none))
    c.if-is_empty.false)
    (subst (λ ts. Leaves c.args.tables.now c.args.draft.now c.args.fid ts Ended [] c.leave.new.tables c.leave.new.draft)
    (c.as_slice.ensures ∙ c.in_ok-tokens.ensures ∙ c.tokens_at.ensures) l)) c.leave.ensures
