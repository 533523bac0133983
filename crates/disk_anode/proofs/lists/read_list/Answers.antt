use Rattle.std.proofs.Common.{◌∙◌}
use Rattle.disk_log.specs.Log.{disk_of, state_of}
use Rattle.disk_anode.specs.Node.{pointer_of, map_under, node_in}
use Rattle.disk_anode.proofs.Reading.{list_read}
use Rattle.disk_anode.proofs.lists.read_list.Goals as goal

pub returns-clause-bytes : goal.returns-clause-bytes
returns-clause-bytes g c = λ told k lt.
    let old = state_of c.args.log.now in
    let image = (g.D.Disk.view (disk_of c.args.log.now)).image in
    let state = c.load.ensures.state in
    let quiet = c.load.ensures.quiet.image in
    let same = c.in_ok-node.ensures.node told in
    list_read image c.read_under.new.bytes (node_in old image c.args.page) c.args.which k c.requires.which lt
    (c.in_ok-read_under.ensures.bytes told ∙ (λ i. map_under (state i).superblock.blocks (quiet i) (c.pointer.ensures i)) ∙ (λ i. map_under old.superblock.blocks image (pointer_of (same i) c.args.which)))
