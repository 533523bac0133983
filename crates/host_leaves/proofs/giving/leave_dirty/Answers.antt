use Rattle.std.proofs.Common.{subst, sym}
use Rattle.std.proofs.lemmas.Result.{on_ok_weaker}
use Rattle.host_leaves.specs.Giving.{AreDirty}
use Rattle.host_leaves.proofs.DirtyTokens.{dirty_covered}
use Rattle.host_leaves.proofs.giving.leave_dirty.Goals as goal

pub leave_where-requires : goal.leave_where-requires
leave_where-requires c =
    dirty_covered c.args.tables.now c.args.fid c.as_slice.result.now
    (subst (AreDirty c.args.tables.now c.args.fid) (sym c.as_slice.ensures) c.in_ok-tokens.ensures)

pub returns : goal.returns
returns c =
    on_ok_weaker c.leave_where.result
    (λ h. record {
      tokens = c.as_slice.result.now;
      dirty = subst (AreDirty c.args.tables.now c.args.fid) (sym c.as_slice.ensures) c.in_ok-tokens.ensures;
      leaves = h;
    }) c.leave_where.ensures
