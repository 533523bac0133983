use Rattle.std.proofs.Common.{ap, sym, ◌∙◌}
use Rattle.host_gives.specs.Slots.{start_of}
use Rattle.host_gives.proofs.Starting.{moved}
use Rattle.host_gives.proofs.slots.move_start.Goals as goal

pub returns : goal.returns
returns c =
    c.put_start.ensures c.args.slots.now
    (moved c.args.slots.now c.args.starts.now c.args.fileset c.start_of-start.result c.args.place
    c.if-start-place.false
    c.requires.place c.requires.empty (c.start_of-start.ensures ∙ ap (λ zs. start_of zs c.args.fileset) c.as_slice.ensures)
    c.requires.right (sym c.stands_in.ensures ∙ c.if-stands_in.false)) c.requires.right
