use Rattle.disk_log.specs.Log.{disk_of, state_of}
use Rattle.disk_fileset.proofs.Changing.{low_in}
use Rattle.disk_fileset.proofs.Read.{list_held}
use Rattle.disk_fileset.proofs.reading.list_of.Goals as goal

pub load-requires-clause-page : goal.load-requires-clause-page
load-requires-clause-page g c = low_in c.args.slot c.args.anode c.anode_page.result c.requires.slot c.requires.first c.requires.last c.anode_page.ensures

pub returns-in-Ok-clause-list : goal.returns-in-Ok-clause-list
returns-in-Ok-clause-list g c = λ told slots keeps object there entries is.
    c.in-Ok.ensures.list told entries (list_held slots c.args.slot c.args.anode c.requires.slot c.requires.first c.requires.last c.anode_page.result c.anode_page.ensures (state_of c.args.log.now) (g.D.Disk.view (disk_of c.args.log.now)).image keeps object there c.args.which entries is)
