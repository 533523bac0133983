use Rattle.std.proofs.Common.{◌+◌, ℕ, arith, refl, subst}
use Rattle.std.specs.Prelude.{◌==◌}
use Rattle.disk_log.specs.Log.{disk_of, state_of}
use Rattle.disk_anode.specs.Room.{one}
use Rattle.disk_anode.specs.Node.{names, no_names}
use Rattle.disk_anode.specs.Changes.{Moves}
use Rattle.disk_anode.proofs.Cells.{may_give, replaced, fresh_count}
use Rattle.disk_anode.proofs.Moving.{then_quiet}
use Rattle.disk_anode.proofs.blocks.replace.Goals as goal

pub returns-in_err-block-clause-wrote : goal.returns-in_err-block-clause-wrote
returns-in_err-block-clause-wrote g c = λ told. c.fresh.ensures.wrote told (names c.args.node.now)

pub give_up-requires-clause-named : goal.give_up-requires-clause-named
give_up-requires-clause-named g c = λ told is.
    let old = state_of c.args.log.now in
    let image = (g.D.Disk.view (disk_of c.args.log.now)).image in
    let rest = c.fresh.ensures.puts.rest in
    may_give c.args.node.now c.args.w c.pointer.result old image (state_of c.fresh.new.log) (g.D.Disk.view (disk_of c.fresh.new.log)).image c.pointer.ensures c.requires.pointer c.requires.blocks (λ i. (rest i).superblock.blocks)
    (c.requires.named told) (λ b lt. let e = (c.in_ok-block.ensures.taken told).moves.counts b lt in omega (arith, e)) is

pub returns-in_err-give_up-clause-wrote : goal.returns-in_err-give_up-clause-wrote
returns-in_err-give_up-clause-wrote g c = λ told. then_quiet (names c.args.node.now) (state_of c.args.log.now) _ _ _ (c.fresh.ensures.wrote told (names c.args.node.now)) c.give_up.ensures.quiet

pub returns-clause-wrote : goal.returns-clause-wrote
returns-clause-wrote g c = λ told. then_quiet (names c.args.node.now) (state_of c.args.log.now) _ _ _ (c.fresh.ensures.wrote told (names c.args.node.now)) c.give_up.ensures.quiet

pub returns-clause-replaced : goal.returns-clause-replaced
returns-clause-replaced g c = λ told.
    let old = state_of c.args.log.now in
    let mid = state_of c.fresh.new.log in
    let image = (g.D.Disk.view (disk_of c.args.log.now)).image in
    let middle = (g.D.Disk.view (disk_of c.fresh.new.log)).image in
    let after = (g.D.Disk.view (disk_of c.give_up.new.log)).image in
    let rest = c.fresh.ensures.puts.rest in
    replaced c.args.w c.args.node.now c.set_pointer.new.self old image after c.requires.pointer c.requires.blocks (c.requires.named told) (c.in_ok-block.block + 1) c.set_pointer.ensures
    c.in_ok-block.block c.args.bytes.now mid (state_of c.give_up.new.log) middle refl (c.in_ok-block.ensures.taken told) (λ i. (rest i).superblock.blocks)
    (subst (λ (p : ℕ). Moves (λ b. one (p == b + 1)) no_names mid middle (state_of c.give_up.new.log) after) c.pointer.ensures (c.in_ok-give_up.ensures.moves told))
    c.give_up.ensures.quiet.image

pub returns-clause-fresh : goal.returns-clause-fresh
returns-clause-fresh g c = λ told.
    let old = state_of c.args.log.now in
    let mid = state_of c.fresh.new.log in
    let image = (g.D.Disk.view (disk_of c.args.log.now)).image in
    let middle = (g.D.Disk.view (disk_of c.fresh.new.log)).image in
    let after = (g.D.Disk.view (disk_of c.give_up.new.log)).image in
    let rest = c.fresh.ensures.puts.rest in
    fresh_count c.args.w c.args.node.now c.set_pointer.new.self old image after c.requires.pointer c.requires.blocks (c.requires.named told) (c.in_ok-block.block + 1) c.set_pointer.ensures
    c.in_ok-block.block c.args.bytes.now mid (state_of c.give_up.new.log) middle refl (c.in_ok-block.ensures.taken told) (λ i. (rest i).superblock.blocks)
    (subst (λ (p : ℕ). Moves (λ b. one (p == b + 1)) no_names mid middle (state_of c.give_up.new.log) after) c.pointer.ensures (c.in_ok-give_up.ensures.moves told))
