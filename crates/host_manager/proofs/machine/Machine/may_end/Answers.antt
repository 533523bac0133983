use Rattle.host_manager.proofs.Tests.{may_end_is, none_by, none_held}
use Rattle.host_manager.specs.Closing.{MayEnd, is_to_part}
use Rattle.host_manager.specs.Spoken.{tables_of}
use Rattle.std.proofs.Common.{Bool, ap, arith, refl, subst, sym, true, ◌↔◌, ◌∙◌}
use Rattle.std.specs.List.{list_any}
use Rattle.std.specs.Prelude.{IsTrue}
use Rattle.host_manager.proofs.machine.Machine.may_end.Goals as goal

pub returns-then-is_empty : goal.returns-then-is_empty
returns-then-is_empty c =
    let m = tables_of c.args.self.now in
    subst (λ (b : Bool). IsTrue b ↔ MayEnd m) (sym (c.is_to_part.ensures ∙ ap (list_any is_to_part) c.as_slice.ensures))
    (may_end_is m true
    (none_held m.cache.held (λ l. let e = c.len.ensures in let f = c.if-len-gt0.false in absurd
    (omega (arith, l, e, f))))
    (λ t. none_by m.gives.gives (sym c.if-is_empty.true ∙ c.is_empty.ensures), λ g. refl))
