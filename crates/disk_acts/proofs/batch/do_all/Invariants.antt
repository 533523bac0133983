use Rattle.std.proofs.Common.{◌≡◌, ◌≤◌, ◌+◌, take}
use Rattle.store_memory.specs.MapStores.{kept_in}
use Rattle.store_acts.specs.Acts.{dones_of}
use Rattle.disk_log.specs.Log.{disk_of, state_of}
use Rattle.disk_anode.specs.Room.{free_blocks}
use Rattle.disk_acts.specs.Records.{HasTables}
use Rattle.disk_acts.specs.Batch.{first_of, Counts, Goes}
use Rattle.disk_acts.proofs.batch.do_all.Given as goal

-- what the acts so far made, and answered, and what the log has
abbrev pub invariant-loop-act : goal.invariant-loop-act
invariant-loop-act g l = record {
  state : kept_in l.store ≡ first_of (kept_in l.initial.store) l.batch l.act-index;
  dones : l.dones ≡ dones_of (kept_in l.initial.store) (take l.act-index l.batch);
  server : (kept_in l.store).server ≡ (kept_in l.initial.store).server;
  roster : (kept_in l.store).roster ≡ (kept_in l.initial.store).roster;
  tables : HasTables (kept_in l.store);
  goes : Goes g.D.Disk.tells g.D.Disk.view ((state_of l.fn.log).half.generation + 9) (kept_in l.initial.store) l.batch l.act-index (g.D.Disk.view (disk_of l.fn.log)) l.log;
  counts : Counts l.act-index (kept_in l.initial.store) (kept_in l.store) l.fn.log l.log;
  room : g.D.Disk.tells → l.room ≤ free_blocks (state_of l.log) (g.D.Disk.view (disk_of l.log)).image;
}
