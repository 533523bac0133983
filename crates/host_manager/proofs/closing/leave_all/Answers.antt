use Rattle.host_manager.specs.Closing.{LeavesEach}
use Rattle.std.proofs.Common.{subst}
use Rattle.std.proofs.lemmas.Result.{on_ok_weaker}
use Rattle.host_manager.proofs.closing.leave_all.Goals as goal

pub returns : goal.returns
returns c =
    on_ok_weaker c.send_due.result (λ h. record {
      left = c.leave_each.new.draft;
      leaves = subst (λ ts. LeavesEach ts c.args.tables.now c.args.draft.now c.leave_each.new.tables
          c.leave_each.new.draft) c.requires c.in_ok-leave_each.ensures;
      sends = h;
    }) c.send_due.ensures
