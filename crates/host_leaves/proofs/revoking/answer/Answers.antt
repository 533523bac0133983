use Rattle.std.proofs.Common.{subst, sym, ◌∙◌}
use Rattle.std.proofs.lemmas.Result.{on_ok_weaker}
use Rattle.host_tables.specs.declared.tables.Tables.{Tables}
use Rattle.host_leaves.specs.Revoking.{AreHeld, AreUsed}
use Rattle.host_leaves.proofs.Leaving.{answers_is}
use Rattle.host_leaves.proofs.revoking.answer.Goals as goal

pub pin_all-requires : goal.pin_all-requires
pin_all-requires c =
    subst (AreUsed c.args.tables.now.uses.labels) (sym c.as_slice-kept.ensures) c.requires.kept

pub leave_all-requires : goal.leave_all-requires
leave_all-requires c =
    let m : Tables = record c.args.tables.now { uses = c.pin_all.new.uses } in
    subst (AreHeld m) (sym c.as_slice-left.ensures) c.requires.left

pub returns : goal.returns
returns c =
    on_ok_weaker c.leave_all.result
    (answers_is c.args.tables.now c.args.draft.now c.args.fid c.args.sorted.now c.as_slice.result.now
    c.as_slice-kept.result.now c.as_slice-left.result.now c.as_slice-2.result.now c.send_given.new.draft
    c.pin_all.new.uses c.say_kept.new.draft c.leave_all.new.tables c.leave_all.new.draft c.as_slice.ensures
    c.as_slice-kept.ensures c.as_slice-left.ensures c.as_slice-2.ensures c.in_ok-send_given.ensures
    c.in_ok-pin_all.ensures c.in_ok-say_kept.ensures) c.leave_all.ensures
