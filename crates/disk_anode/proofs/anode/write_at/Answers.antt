use Rattle.disk_log.specs.Log.{disk_of, state_of, slot_of}
use Rattle.disk_anode.specs.Anode.{written}
use Rattle.disk_anode.specs.Node.{names, node_in}
use Rattle.disk_anode.specs.Room.{are_counts, with_counts}
use Rattle.disk_anode.specs.Changes.{own_names}
use Rattle.disk_anode.proofs.Putting.{may_fewer}
use Rattle.disk_anode.proofs.Moving.{wrote_quiet}
use Rattle.disk_anode.proofs.Saving.{counts_in}
use Rattle.disk_anode.proofs.Laid.{still_counted}
use Rattle.disk_anode.proofs.Sharing.{counted_own}
use Rattle.disk_anode.proofs.Changing.{changed_on, may_after, puts_after, wrote_own}
use Rattle.disk_anode.proofs.anode.write_at.Goals as goal

pub load_own-requires-clause-may : goal.load_own-requires-clause-may
load_own-requires-clause-may g c = may_fewer are_counts (with_counts c.args.page) (state_of c.args.log.now) (slot_of c.args.tx.now) (λ p is. counts_in c.args.page p is) c.requires.may

pub write_node-requires-clause-may : goal.write_node-requires-clause-may
write_node-requires-clause-may g c = let e = c.load_own.ensures.tx in may_after c.args.page (slot_of c.args.tx.now) _ (state_of c.args.log.now) (state_of c.load_own.new.log) (λ i. slot_of (e i)) c.requires.may c.load_own.ensures.puts

pub write_node-requires-clause-named : goal.write_node-requires-clause-named
write_node-requires-clause-named g c = λ told block lt.
    let same = c.load_own.ensures.puts.rest in
    let old = state_of c.args.log.now in
    let before = (g.D.Disk.view (disk_of c.args.log.now)).image in
    let stored = node_in old before c.args.page in
    still_counted (own_names old before stored) (names c.in_ok-node.node) old (state_of c.load_own.new.log) before _ (λ i. (same i).superblock.blocks) (c.in_ok-node.ensures.moves told) (counted_own old before stored (c.requires.named told)) block lt

pub returns-in_err-write_node-clause-puts : goal.returns-in_err-write_node-clause-puts
returns-in_err-write_node-clause-puts g c = let e = c.load_own.ensures.tx in puts_after c.args.page (slot_of c.args.tx.now) _ (state_of c.args.log.now) (state_of c.load_own.new.log) _ (λ i. slot_of (e i)) c.load_own.ensures.puts c.write_node.ensures.puts

pub returns-clause-puts : goal.returns-clause-puts
returns-clause-puts g c = let e = c.load_own.ensures.tx in puts_after c.args.page (slot_of c.args.tx.now) _ (state_of c.args.log.now) (state_of c.load_own.new.log) _ (λ i. slot_of (e i)) c.load_own.ensures.puts c.write_node.ensures.puts

pub returns-in_err-node-clause-wrote : goal.returns-in_err-node-clause-wrote
returns-in_err-node-clause-wrote g c = λ told. let old = state_of c.args.log.now in let before = (g.D.Disk.view (disk_of c.args.log.now)).image in wrote_quiet (own_names old before (node_in old before c.args.page)) old _ _ c.load_own.ensures.quiet

pub returns-in_err-write_node-clause-wrote : goal.returns-in_err-write_node-clause-wrote
returns-in_err-write_node-clause-wrote g c = λ told.
    let same = c.load_own.ensures.puts.rest in
    let old = state_of c.args.log.now in
    let before = (g.D.Disk.view (disk_of c.args.log.now)).image in
    let stored = node_in old before c.args.page in
    wrote_own (own_names old before stored) (names c.in_ok-node.node) old (state_of c.load_own.new.log) _ _ _ (λ i. (same i).superblock.blocks) (c.in_ok-node.ensures.moves told) c.load_own.ensures.quiet (c.write_node.ensures.wrote told)

pub returns-clause-wrote : goal.returns-clause-wrote
returns-clause-wrote g c = λ told.
    let same = c.load_own.ensures.puts.rest in
    let old = state_of c.args.log.now in
    let before = (g.D.Disk.view (disk_of c.args.log.now)).image in
    let stored = node_in old before c.args.page in
    wrote_own (own_names old before stored) (names c.in_ok-node.node) old (state_of c.load_own.new.log) _ _ _ (λ i. (same i).superblock.blocks) (c.in_ok-node.ensures.moves told) c.load_own.ensures.quiet (c.write_node.ensures.wrote told)

pub returns-clause-changed : goal.returns-clause-changed
returns-clause-changed g c = λ told.
    let same = c.load_own.ensures.puts.rest in
    changed_on c.args.page (written c.args.from c.args.piece.now) c.in_ok-node.node (state_of c.args.log.now) (state_of c.load_own.new.log) (state_of c.write_node.new.log) _ _ _ (λ i. (same i).superblock.blocks) c.load_own.ensures.quiet.image
    (c.in_ok-node.ensures.owned told) (c.in_ok-node.ensures.moves told) (c.in_ok-write_node.ensures.turned told) (c.in_ok-node.ensures.left told)
