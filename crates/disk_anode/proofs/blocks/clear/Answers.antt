use Rattle.std.proofs.Common.{◌+◌, ℕ, arith, refl, subst}
use Rattle.std.specs.Prelude.{◌==◌}
use Rattle.disk_log.specs.Log.{disk_of, state_of}
use Rattle.disk_anode.specs.Room.{one}
use Rattle.disk_anode.specs.Node.{no_names}
use Rattle.disk_anode.specs.Changes.{Moves}
use Rattle.disk_anode.proofs.Cells.{may_give, cleared}
use Rattle.disk_anode.proofs.blocks.clear.Goals as goal

pub give_up-requires-clause-named : goal.give_up-requires-clause-named
give_up-requires-clause-named g c = λ told is.
    let old = state_of c.args.log.now in
    let image = (g.D.Disk.view (disk_of c.args.log.now)).image in
    may_give c.args.node.now c.args.w c.pointer.result old image old image c.pointer.ensures c.requires.pointer c.requires.blocks refl (c.requires.named told) (λ b lt. omega arith) is

pub returns-clause-replaced : goal.returns-clause-replaced
returns-clause-replaced g c = λ told.
    let old = state_of c.args.log.now in
    let image = (g.D.Disk.view (disk_of c.args.log.now)).image in
    let after = (g.D.Disk.view (disk_of c.give_up.new.log)).image in
    cleared c.args.w c.args.node.now c.set_pointer.new.self old image after c.requires.pointer c.requires.blocks (c.requires.named told) 0 c.set_pointer.ensures (state_of c.give_up.new.log) refl
    (subst (λ (p : ℕ). Moves (λ b. one (p == b + 1)) no_names old image (state_of c.give_up.new.log) after) c.pointer.ensures (c.in_ok-give_up.ensures.moves told))
    c.give_up.ensures.quiet.image
