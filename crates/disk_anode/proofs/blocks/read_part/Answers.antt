use Rattle.std.proofs.Common.{◌∙◌, arith, sym}
use Rattle.disk_log.specs.Log.{disk_of}
use Rattle.disk_anode.specs.Node.{map_under, pointer_of}
use Rattle.disk_anode.proofs.Reading.{part_read}
use Rattle.disk_anode.proofs.blocks.read_part.Goals as goal

pub returns-clause-bytes : goal.returns-clause-bytes
returns-clause-bytes g c = λ told k lt.
    let node = c.args.node.now in
    let image = (g.D.Disk.view (disk_of c.args.log.now)).image in
    let read = c.in_ok-read_under.ensures.bytes told in
    let cut = c.saturating_sub.ensures in
    part_read image c.read_under.new.bytes c.clear_from.new.bytes node c.args.i k c.args.n lt
    (read ∙ (λ j. map_under (sym c.requires.blocks j) image (c.pointer.ensures j)) ∙ (λ j. map_under node.blocks image (pointer_of node (c.pointer_at.ensures j))))
    (λ j low. c.clear_from.ensures.below j (omega (arith, cut, low)))
    (λ j high below. c.clear_from.ensures.rest j (omega (arith, cut, high)) below)
