use Rattle.std.proofs.Common.{◌≡◌}
use Rattle.disk_log.specs.Log.{slot_of}
use Rattle.disk_classes.proofs.Committed.{MembersPut}
use Rattle.disk_classes.proofs.commit.put_class.Given as goal

-- the pages of the members so far were put
abbrev pub invariant-loop-one : goal.invariant-loop-one
invariant-loop-one g l = record {
  tx : l.tx ≡ l.fn.tx;
  put : MembersPut g.D.Disk.tells g.D.Disk.view (slot_of l.fn.tx) l.class l.noted l.values l.fn.log l.one-index l.log;
}
