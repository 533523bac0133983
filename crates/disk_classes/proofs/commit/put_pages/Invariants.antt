use Rattle.std.proofs.Common.{◌≡◌}
use Rattle.disk_log.specs.Log.{slot_of}
use Rattle.disk_classes.proofs.Committed.{PagesPut}
use Rattle.disk_classes.proofs.commit.put_pages.Given as goal

-- the pages so far were put
abbrev pub invariant-loop-page : goal.invariant-loop-page
invariant-loop-page g l = record {
  tx : l.tx ≡ l.fn.tx;
  put : PagesPut g.D.Disk.tells g.D.Disk.view (slot_of l.fn.tx) l.pages l.values l.fn.log l.page-index l.log;
}
