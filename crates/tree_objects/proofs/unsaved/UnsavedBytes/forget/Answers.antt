use Rattle.std.proofs.Common.{◌==◌, not, filter, ap, ◌∙◌}
use Rattle.tree_objects.specs.Stretches.{all_bytes}
use Rattle.tree_objects.proofs.Owned.{own_gone, forget_stands}
use Rattle.tree_objects.proofs.unsaved.UnsavedBytes.forget.Goals as goal

pub invariant_of-self : goal.invariant_of-self
invariant_of-self c = forget_stands c.args.host c.self.inside.stretches _ c.drop_own.ensures c.self.invariant

pub returns : goal.returns
returns c = ap all_bytes c.drop_own.ensures ∙ own_gone c.args.host c.self.inside.stretches ∙ ap
    (filter (λ byte. not (byte.writer.0 == c.args.host.0))) c.self.view_is
