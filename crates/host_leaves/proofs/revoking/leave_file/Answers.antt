use Rattle.std.proofs.Common.{ap, subst, sym, ◌∙◌, ◌≡◌}
use Rattle.std.proofs.lemmas.Result.{on_ok_weaker}
use Rattle.host_leaves.specs.Giving.{AreCovered, Leaves}
use Rattle.host_leaves.specs.Revoking.{of_file, with_lost_where}
use Rattle.run_rules.specs.declared.applied.Why.TheVariants.{Revoked}
use Rattle.host_leaves.proofs.Leaving.{others_stay}
use Rattle.host_leaves.proofs.revoking.leave_file.Goals as goal

pub leave-requires : goal.leave-requires
leave-requires c =
    subst (AreCovered c.args.tables.now c.args.fid) (sym (c.as_slice-here.ensures ∙ c.in_ok-here.ensures)) c.requires

pub returns : goal.returns
returns c =
    let fid = c.args.fid in
    let tokens = c.args.tokens.now in
    let m = c.args.tables.now in
    let draft = c.args.draft.now in
    let between = c.leave.new.tables in
    let middle = c.leave.new.draft in
    let e = c.as_slice-here.ensures ∙ c.in_ok-here.ensures in
    let l : Leaves m draft fid (of_file fid tokens) Revoked c.args.back.now between middle =
    subst (λ ts. Leaves m draft fid ts Revoked c.args.back.now between middle) e c.in_ok-leave.ensures in
    on_ok_weaker c.note_lost.result
    (λ (h : c.note_lost.new.tables ≡ with_lost_where fid c.as_slice-here.result.now between).
    let lost = h ∙ ap (λ ts. with_lost_where fid ts between) e in
    record {
      between = between;
      leaves = l;
      lost = lost;
      stay = others_stay fid tokens c.args.back.now m draft between c.note_lost.new.tables middle c.laws.ensures l lost
          c.requires;
    }) c.note_lost.ensures
