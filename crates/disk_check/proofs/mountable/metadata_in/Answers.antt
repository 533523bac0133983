use Rattle.std.proofs.Common.{refl}
use Rattle.disk_check.proofs.Fronts.{settled_aggregate}
use Rattle.disk_check.proofs.mountable.metadata_in.Goals as goal

pub returns-else-len-pages_of-clause-metadata : goal.returns-else-len-pages_of-clause-metadata
returns-else-len-pages_of-clause-metadata g c = λ told is half used.
    settled_aggregate (g.D.Disk.view c.args.disk.now).image c.args.superblock is (record { server = c.args.superblock.server; blocks = c.args.superblock.blocks; pages = c.in-Ok.pages }) refl refl (c.in-Ok.ensures.pages told) half used
