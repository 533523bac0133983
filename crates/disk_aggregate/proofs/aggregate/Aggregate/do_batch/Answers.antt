use Rattle.std.proofs.Common.{◌+◌, arith}
use Rattle.store_memory.specs.MapStores.{kept_in}
use Rattle.disk_log.specs.Log.{disk_of}
use Rattle.disk_aggregate.proofs.Applied.{batch_leaves, has_first, rests_stands, stands_rests}
use Rattle.disk_aggregate.proofs.aggregate.Aggregate.do_batch.Goals as goal

pub put_batch-requires-clause-rests : goal.put_batch-requires-clause-rests
put_batch-requires-clause-rests g c = stands_rests g.D.Disk.tells g.D.Disk.view (kept_in c.args.self.now.store) c.args.self.now.wear c.args.self.now.log c.requires.stands.1

pub returns-in-Ok-clause-stands : goal.returns-in-Ok-clause-stands
returns-in-Ok-clause-stands g c =
    let stands = c.requires.stands.1 in
    let few = c.requires.acts.few in
    let counts = c.in-Ok.ensures.counts in (
      c.requires.stands.0,
      rests_stands g.D.Disk.tells g.D.Disk.view (kept_in c.put_batch.new.store) (c.args.self.now.wear + 9) c.put_batch.new.log c.in-Ok.ensures.rests
          (let first = stands.generation in let rose = counts.generation in omega (arith, first, rose, few))
          (let first = stands.epoch in let rose = counts.epoch in omega (arith, first, rose, few))
          (let first = stands.ship in let rose = counts.ship in omega (arith, first, rose, few)),
    )

pub returns-in-Err-clause-left : goal.returns-in-Err-clause-left
returns-in-Err-clause-left g c = λ told.
    (let stands = c.requires.stands.1 in
    has_first (c.args.self.now.log.kept.half.generation + 9) (c.args.self.now.wear + 9) (kept_in c.args.self.now.store) c.args.batch.now (g.D.Disk.view (disk_of c.put_batch.new.log)).image
    (g.met.D.Disk.has_bytes c.put_batch.new.log.disk told) c.requires.acts.few
    (let first = stands.generation in omega (arith, first)) (let first = stands.epoch in omega (arith, first)) (let first = stands.ship in omega (arith, first))
    (c.in-Err.ensures.left told))

pub returns-in-Ok-clause-crash : goal.returns-in-Ok-clause-crash
returns-in-Ok-clause-crash g c = λ told.
    (let stands = c.requires.stands.1 in
    batch_leaves (c.args.self.now.log.kept.half.generation + 9) (c.args.self.now.wear + 9) (kept_in c.args.self.now.store) c.args.batch.now (g.D.Disk.view (disk_of c.args.self.now.log)) (g.D.Disk.view (disk_of c.put_batch.new.log))
    c.requires.acts.few
    (let first = stands.generation in omega (arith, first)) (let first = stands.epoch in omega (arith, first)) (let first = stands.ship in omega (arith, first))
    (c.in-Ok.ensures.crash told))

pub returns-in-Err-clause-crash : goal.returns-in-Err-clause-crash
returns-in-Err-clause-crash g c = λ told.
    (let stands = c.requires.stands.1 in
    batch_leaves (c.args.self.now.log.kept.half.generation + 9) (c.args.self.now.wear + 9) (kept_in c.args.self.now.store) c.args.batch.now (g.D.Disk.view (disk_of c.args.self.now.log)) (g.D.Disk.view (disk_of c.put_batch.new.log))
    c.requires.acts.few
    (let first = stands.generation in omega (arith, first)) (let first = stands.epoch in omega (arith, first)) (let first = stands.ship in omega (arith, first))
    (c.in-Err.ensures.crash told))
