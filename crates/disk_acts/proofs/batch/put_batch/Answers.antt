use Rattle.std.proofs.Common.{◌+◌, length, arith}
use Rattle.store_memory.specs.MapStores.{kept_in}
use Rattle.store_memory.proofs.Batches.{on_err}
use Rattle.disk_log.specs.Log.{disk_of}
use Rattle.disk_acts.specs.Batch.{HoldsFirst}
use Rattle.disk_acts.proofs.Batching.{goes_first, rests_last}
use Rattle.disk_acts.proofs.Going.{goes_durable, left_reads, settled_crash, starts_first}
use Rattle.disk_acts.proofs.batch.put_batch.Goals as goal

pub returns-in-Ok-clause-rests : goal.returns-in-Ok-clause-rests
returns-in-Ok-clause-rests g c =
    let settles = c.in-Ok.ensures.settles in
    rests_last g.D.Disk.tells g.D.Disk.view (c.args.log.now.kept.half.generation + 9) (kept_in c.args.store.now) (kept_in c.do_all.new.store) c.args.batch.now (g.D.Disk.view (disk_of c.args.log.now)) c.do_all.new.log c.settle.new.log
    c.in_ok-dones.ensures.state settles.durable
    (goes_durable g.D.Disk.tells g.D.Disk.view (c.args.log.now.kept.half.generation + 9) (kept_in c.args.store.now) c.args.batch.now (length c.args.batch.now) (g.D.Disk.view (disk_of c.args.log.now)) c.do_all.new.log c.settle.new.log c.in_ok-dones.ensures.goes (omega arith) (let rose = c.in_ok-dones.ensures.counts.generation in let few = c.requires.acts.few in omega (arith, rose, few))
    settles.crash settles.counted settles.durable)

pub returns-in-Ok-clause-crash : goal.returns-in-Ok-clause-crash
returns-in-Ok-clause-crash g c = λ told.
    settled_crash g.D.Disk.tells g.D.Disk.view (c.args.log.now.kept.half.generation + 9) (kept_in c.args.store.now) c.args.batch.now (length c.args.batch.now) (g.D.Disk.view (disk_of c.args.log.now)) c.do_all.new.log c.settle.new.log c.in_ok-dones.ensures.goes (omega arith) (let rose = c.in_ok-dones.ensures.counts.generation in let few = c.requires.acts.few in omega (arith, rose, few)) c.in-Ok.ensures.settles.crash told

pub returns-in-Err-clause-crash : goal.returns-in-Err-clause-crash
returns-in-Err-clause-crash g c = λ told.
    settled_crash g.D.Disk.tells g.D.Disk.view (c.args.log.now.kept.half.generation + 9) (kept_in c.args.store.now) c.args.batch.now (length c.args.batch.now) (g.D.Disk.view (disk_of c.args.log.now)) c.do_all.new.log c.settle.new.log c.in_ok-dones.ensures.goes (omega arith) (let rose = c.in_ok-dones.ensures.counts.generation in let few = c.requires.acts.few in omega (arith, rose, few)) c.in-Err.ensures.settles.crash told

pub returns-in-Err-clause-left : goal.returns-in-Err-clause-left
returns-in-Err-clause-left g c = λ told.
    left_reads {P = HoldsFirst (c.args.log.now.kept.half.generation + 9) (kept_in c.args.store.now) c.args.batch.now} (g.D.Disk.view (disk_of c.args.log.now)) (g.D.Disk.view (disk_of c.settle.new.log))
    (settled_crash g.D.Disk.tells g.D.Disk.view (c.args.log.now.kept.half.generation + 9) (kept_in c.args.store.now) c.args.batch.now (length c.args.batch.now) (g.D.Disk.view (disk_of c.args.log.now)) c.do_all.new.log c.settle.new.log c.in_ok-dones.ensures.goes (omega arith) (let rose = c.in_ok-dones.ensures.counts.generation in let few = c.requires.acts.few in omega (arith, rose, few)) c.in-Err.ensures.settles.crash told) c.requires.rests.settled
    (starts_first g.D.Disk.tells g.D.Disk.view (c.args.log.now.kept.half.generation + 9) (kept_in c.args.store.now) c.args.batch.now (g.D.Disk.view (disk_of c.args.log.now)) c.args.log.now (goes_first g.D.Disk.tells g.D.Disk.view (c.args.log.now.kept.half.generation + 9) (kept_in c.args.store.now) c.args.batch.now c.args.log.now c.requires.rests) (omega arith) told (g.met.D.Disk.reads_one c.args.log.now.disk told)) (g.met.D.Disk.reads_one c.settle.new.log.disk told)

pub returns-then-not-has_tables-clause-left : goal.returns-then-not-has_tables-clause-left
returns-then-not-has_tables-clause-left g c = λ told.
    starts_first g.D.Disk.tells g.D.Disk.view (c.args.log.now.kept.half.generation + 9) (kept_in c.args.store.now) c.args.batch.now (g.D.Disk.view (disk_of c.args.log.now)) c.args.log.now (goes_first g.D.Disk.tells g.D.Disk.view (c.args.log.now.kept.half.generation + 9) (kept_in c.args.store.now) c.args.batch.now c.args.log.now c.requires.rests) (omega arith) told (g.met.D.Disk.reads_one c.args.log.now.disk told)

pub returns-in_err-dones-clause-left : goal.returns-in_err-dones-clause-left
returns-in_err-dones-clause-left g c = λ told.
    on_err c.from_residual.result _
    (left_reads {P = HoldsFirst (c.args.log.now.kept.half.generation + 9) (kept_in c.args.store.now) c.args.batch.now} (g.D.Disk.view (disk_of c.args.log.now)) (g.D.Disk.view (disk_of c.do_all.new.log))
    (c.do_all.ensures.crash told) c.requires.rests.settled
    (starts_first g.D.Disk.tells g.D.Disk.view (c.args.log.now.kept.half.generation + 9) (kept_in c.args.store.now) c.args.batch.now (g.D.Disk.view (disk_of c.args.log.now)) c.args.log.now (goes_first g.D.Disk.tells g.D.Disk.view (c.args.log.now.kept.half.generation + 9) (kept_in c.args.store.now) c.args.batch.now c.args.log.now c.requires.rests) (omega arith) told (g.met.D.Disk.reads_one c.args.log.now.disk told)) (g.met.D.Disk.reads_one c.do_all.new.log.disk told))
