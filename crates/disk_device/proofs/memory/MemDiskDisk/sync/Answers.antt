use Rattle.std.proofs.Common.{refl, sym, ◌∙◌, arith}
use Rattle.disk_device.proofs.Noted.{sync_bytes, sync_only, sync_now, sync_since, kept, longer}
use Rattle.disk_device.specs.declared.act.Act.TheVariants.{Synced}
use Rattle.disk_device.proofs.memory.MemDiskDisk.sync.Goals as goal

pub invariant_of-self-in-Ok : goal.invariant_of-self-in-Ok
invariant_of-self-in-Ok c = let disk = c.args.self.now in
    record { replayed = disk.replayed ∙ sym (sync_bytes disk.start disk.acts.items c.synced.new.acts.items c.in-Ok.ensures.noted); bytes_are = disk.bytes_are }

pub returns-in-Ok-clause-durable : goal.returns-in-Ok-clause-durable
returns-in-Ok-clause-durable c = let disk = c.args.self.now in
    λ image left. sync_only disk.start disk.acts.items c.synced.new.acts.items c.in-Ok.ensures.noted image left ∙ sym disk.replayed

pub returns-in-Ok-clause-quiet : goal.returns-in-Ok-clause-quiet
returns-in-Ok-clause-quiet c =
    let disk = c.args.self.now in
    let later = c.synced.new.acts.items in
    let is = c.in-Ok.ensures.noted in
    record {
      image = refl;
      later = omega (arith, longer disk.start disk.acts.items later Synced is);
      now = sync_now disk.start disk.acts.items later is;
      since = sync_since disk.start disk.acts.items later is;
      kept = kept disk.start disk.acts.items later Synced is;
    }
