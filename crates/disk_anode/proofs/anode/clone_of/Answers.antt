use Rattle.std.proofs.Common.{◌≡◌, sym, subst, arith}
use Rattle.disk_log.specs.Log.{disk_of, state_of}
use Rattle.disk_anode.specs.Node.{pointer_of, map_under, node_in, no_names}
use Rattle.disk_anode.specs.declared.node.Node.{Node}
use Rattle.disk_anode.proofs.Pointers.{pointer_front}
use Rattle.disk_anode.proofs.Moving.{wrote_after}
use Rattle.disk_anode.proofs.anode.clone_of.Goals as goal

pub returns-clause-wrote : goal.returns-clause-wrote
returns-clause-wrote g c = λ told. wrote_after no_names no_names (state_of c.args.log.now) (state_of c.load.new.log) _ _ _ (λ i. no_names) c.load.ensures.state c.load.ensures.quiet (c.copy_node.ensures.wrote told)

pub copy_node-requires-clause-map : goal.copy_node-requires-clause-map
copy_node-requires-clause-map g c = λ told.
    let old = state_of c.args.log.now in
    let before = (g.D.Disk.view (disk_of c.args.log.now)).image in
    let quiet = c.load.ensures.quiet.image in
    let source = node_in old before c.args.from in
    let front = pointer_front source 15 (omega arith) in
    subst (λ (x : Node). x.map ≡ map_under x.blocks (g.D.Disk.view (disk_of c.load.new.log)).image (pointer_of x 15)) (sym (c.in_ok-source.ensures.node told)) (λ i. map_under old.superblock.blocks (sym quiet i) (sym front i))
