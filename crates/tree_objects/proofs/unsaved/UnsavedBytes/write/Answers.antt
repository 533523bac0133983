use Rattle.std.proofs.Common.{◌∙◌, ap}
use Rattle.tree_objects.specs.Changes.{unsaved_after}
use Rattle.tree_objects.proofs.Cuts.{write_stands}
use Rattle.tree_objects.proofs.unsaved.UnsavedBytes.write.Goals as goal

pub invariant_of-self-2 : goal.invariant_of-self-2
invariant_of-self-2 c = write_stands c.self.inside.stretches c.put_written.new.stretches c.args.host c.args.from
    c.args.bytes.now c.self.invariant c.in_ok-put_written.ensures.ok c.in_ok-put_written.ensures.each

pub returns-clause-ok : goal.returns-clause-ok
returns-clause-ok c = c.in_ok-put_written.ensures.ok ∙ ap (λ xs. unsaved_after xs c.args.host c.args.from
    c.args.bytes.now) c.self.view_is
