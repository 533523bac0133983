use Rattle.std.proofs.Common.{refl}
use Rattle.disk_check.proofs.Fronts.{settled_faults}
use Rattle.disk_check.proofs.front.settled.Goals as goal

pub returns-else-len-pages_of-clause-faults : goal.returns-else-len-pages_of-clause-faults
returns-else-len-pages_of-clause-faults g c = λ told is.
    settled_faults (g.D.Disk.view c.args.disk.now).image c.args.superblock is (record { server = c.args.superblock.server; blocks = c.args.superblock.blocks; pages = c.in-Ok.pages }) refl refl (c.in-Ok.ensures.pages told)
