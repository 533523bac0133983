use Rattle.std.proofs.Common.{◌≡◌, ◌≤◌, ◌⊎◌, ◌+◌, arith, refl, length, inl, inr}
use Rattle.std.proofs.lemmas.Result.{on_ok_weaker}
use Rattle.disk_log.specs.Log.{disk_of, state_of, slot_of}
use Rattle.disk_anode.specs.Anode.{bytes_of, content_at, over, written}
use Rattle.disk_anode.specs.Node.{names}
use Rattle.disk_anode.specs.Room.{are_counts, with_counts}
use Rattle.disk_anode.proofs.Putting.{may_fewer}
use Rattle.disk_anode.proofs.Moving.{wrote_more, moves_as}
use Rattle.disk_anode.proofs.Laid.{still_counted}
use Rattle.disk_anode.proofs.Saving.{counts_in}
use Rattle.disk_anode.proofs.Anodes.{length_pointers, names_same, turned_on, written_is, written_cut, written_past, written_gone}
use Rattle.disk_anode.proofs.Free.{written_most}
use Rattle.disk_anode.proofs.writing.write_node.Goals as goal
use Rattle.disk_anode.proofs.writing.write_node.Goals.{then-bytes-end, else-bytes-end}

pub lay-requires-clause-may : goal.lay-requires-clause-may
lay-requires-clause-may g c = may_fewer are_counts (with_counts c.args.page) (state_of c.args.log.now) (slot_of c.args.tx.now) (λ p is. counts_in c.args.page p is) c.requires.may

pub save-requires-clause-named : goal.save-requires-clause-named
save-requires-clause-named g c = λ told block lt.
    let same = c.lay.ensures.puts.rest in
    let node = c.args.node.now in
    let counted = still_counted (names node) (names c.lay.new.node) (state_of c.args.log.now) (state_of c.lay.new.log) _ _ (λ i. (same i).superblock.blocks) (c.in_ok-lay.ensures.laid told).moves (c.requires.named told) block lt in
    let e = names_same c.lay.new.node c.reach.new.self (length_pointers _ c.lay.new.node c.reach.new.self c.reach.ensures) block in
    omega (arith, counted, e)

pub returns-clause-wrote : goal.returns-clause-wrote
returns-clause-wrote g c = λ told.
    let same = c.lay.ensures.puts.rest in
    let node = c.args.node.now in
    let sized = c.reach.new.self in
    let e = names_same c.lay.new.node sized (length_pointers _ c.lay.new.node sized c.reach.ensures) in
    wrote_more (names node) (names sized) (state_of c.args.log.now) (state_of c.lay.new.log) _ _ _ (λ i. (same i).superblock.blocks)
    (moves_as (names node) (names c.lay.new.node) (names node) (names sized) (state_of c.args.log.now) (state_of c.lay.new.log) _ _ (λ b lt. let f = e b in omega (arith, f)) (c.in_ok-lay.ensures.laid told).moves)
    (c.lay.ensures.wrote told) (c.save.ensures.wrote told)

pub returns-clause-turned : goal.returns-clause-turned
returns-clause-turned g c = λ told.
    let same = c.lay.ensures.puts.rest in
    let node = c.args.node.now in
    let before = (g.D.Disk.view (disk_of c.args.log.now)).image in
    let bytes = c.bytes-bytes.ensures in
    let how : (c.if-bytes-end.kept ≡ bytes_of node) ⊎ ((c.if-bytes-end.kept ≡ 65536) × (c.args.from + length c.args.piece.now ≤ bytes_of node)) =
    elim c.if-bytes-end.branch [ then-bytes-end w ↦ inl (omega (arith, bytes, w.kept-is)) | else-bytes-end w ↦ inr (omega (arith, bytes, w.kept-is), omega (arith, bytes, w.if-bytes-end)) ] in
    on_ok_weaker c.save.result (λ saved. turned_on c.args.page _ _ _ _ node c.lay.new.node c.reach.new.self c.save.new.node (state_of c.args.log.now) (state_of c.lay.new.log) (state_of c.save.new.log) before _ _
    (λ i. (same i).superblock.blocks) (c.in_ok-lay.ensures.laid told) c.lay.ensures.facts c.reach.ensures saved c.save.ensures.facts c.requires.blocks
    (written c.args.from c.args.piece.now) (over c.args.from c.args.piece.now (λ k. content_at before node (bytes_of node) k)) (written_is node c.lay.new.node c.lay.ensures.facts _ before c.args.from c.args.piece.now refl c.requires.some) (written_cut node c.lay.new.node c.lay.ensures.facts _ before c.args.from c.if-bytes-end.kept c.args.piece.now refl c.requires.within how)
    (written_past node c.lay.new.node c.lay.ensures.facts _ before c.args.from c.if-bytes-end.kept c.args.piece.now refl c.requires.within how)
    (written_gone node c.lay.new.node c.lay.ensures.facts _ before (state_of c.args.log.now) (state_of c.lay.new.log) _ c.args.from c.if-bytes-end.kept c.args.piece.now refl c.requires.within how (c.in_ok-lay.ensures.laid told))) (c.save.ensures.saved told)

pub returns-clause-room : goal.returns-clause-room
returns-clause-room g c = λ told.
    let a = c.in_ok-lay.ensures.room told in
    let most = written_most c.if-bytes-end.kept c.args.from (length c.args.piece.now) in
    on_ok_weaker c.save.result (λ b. omega (arith, a, b, most)) (c.save.ensures.room told)
