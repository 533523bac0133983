use Rattle.std.proofs.Common.{arith, refl}
use Rattle.std.specs.Prelude.{nat_lt, if◌then◌else◌}
use Rattle.std.proofs.lemmas.Result.{on_ok_weaker}
use Rattle.base_types.specs.Image.{byte_at}
use Rattle.disk_log.specs.Log.{disk_of, state_of, slot_of}
use Rattle.disk_anode.specs.Anode.{byte_length, bytes_of, content_at, with_length}
use Rattle.disk_anode.specs.Node.{names}
use Rattle.disk_anode.specs.Room.{are_counts, with_counts}
use Rattle.disk_anode.proofs.Putting.{may_fewer}
use Rattle.disk_anode.proofs.Moving.{wrote_more, moves_as}
use Rattle.disk_anode.proofs.Laid.{still_counted}
use Rattle.disk_anode.proofs.Saving.{counts_in}
use Rattle.disk_anode.proofs.Anodes.{length_pointers, names_same, turned_on, cut_over, cut_past}
use Rattle.disk_anode.proofs.Free.{written_most}
use Rattle.disk_anode.proofs.writing.cut_node.Goals as goal

pub lay-requires-clause-may : goal.lay-requires-clause-may
lay-requires-clause-may g c = may_fewer are_counts (with_counts c.args.page) (state_of c.args.log.now) (slot_of c.args.tx.now) (λ p is. counts_in c.args.page p is) c.requires.may

pub save-requires-clause-named : goal.save-requires-clause-named
save-requires-clause-named g c = λ told block lt.
    let same = c.lay.ensures.puts.rest in
    let node = c.args.node.now in
    let counted = still_counted (names node) (names c.lay.new.node) (state_of c.args.log.now) (state_of c.lay.new.log) _ _ (λ i. (same i).superblock.blocks) (c.in_ok-lay.ensures.laid told).moves (c.requires.named told) block lt in
    let e = names_same c.lay.new.node c.set_length.new.self (length_pointers _ c.lay.new.node c.set_length.new.self c.set_length.ensures) block in
    omega (arith, counted, e)

pub returns-clause-wrote : goal.returns-clause-wrote
returns-clause-wrote g c = λ told.
    let same = c.lay.ensures.puts.rest in
    let node = c.args.node.now in
    let sized = c.set_length.new.self in
    let e = names_same c.lay.new.node sized (length_pointers _ c.lay.new.node sized c.set_length.ensures) in
    wrote_more (names node) (names sized) (state_of c.args.log.now) (state_of c.lay.new.log) _ _ _ (λ i. (same i).superblock.blocks)
    (moves_as (names node) (names c.lay.new.node) (names node) (names sized) (state_of c.args.log.now) (state_of c.lay.new.log) _ _ (λ b lt. let f = e b in omega (arith, f)) (c.in_ok-lay.ensures.laid told).moves)
    (c.lay.ensures.wrote told) (c.save.ensures.wrote told)

pub returns-clause-turned : goal.returns-clause-turned
returns-clause-turned g c = λ told.
    let same = c.lay.ensures.puts.rest in
    let node = c.args.node.now in
    let before = (g.D.Disk.view (disk_of c.args.log.now)).image in
    let kept = c.min-kept.ensures in
    let made = c.bytes_for.ensures in
    let whole = c.bytes.ensures in
    on_ok_weaker c.save.result (λ saved. turned_on c.args.page _ _ _ _ node c.lay.new.node c.set_length.new.self c.save.new.node (state_of c.args.log.now) (state_of c.lay.new.log) (state_of c.save.new.log) before _ _
    (λ i. (same i).superblock.blocks) (c.in_ok-lay.ensures.laid told) c.lay.ensures.facts c.set_length.ensures saved c.save.ensures.facts c.requires.blocks
    (with_length c.args.length) (λ k. if nat_lt k (byte_length (byte_at node.page 0) c.args.length) then content_at before node (bytes_of node) k else 0) refl (cut_over before node (bytes_of node) c.min-kept.result (byte_length (byte_at node.page 0) c.args.length) (omega (arith, kept, made, whole)))
    (λ k high lt block dir tidy. cut_past before node c.min-kept.result (byte_length (byte_at node.page 0) c.args.length) k (omega (arith, kept, made, whole)) high)
    (λ i lt le trimmed. (c.in_ok-lay.ensures.laid told).past i lt (omega (arith, kept, made, whole, le)) (omega arith))) (c.save.ensures.saved told)

pub returns-clause-room : goal.returns-clause-room
returns-clause-room g c = λ told.
    let a = c.in_ok-lay.ensures.room told in
    let most = written_most c.min-kept.result 0 0 in
    on_ok_weaker c.save.result (λ b. omega (arith, a, b, most)) (c.save.ensures.room told)
