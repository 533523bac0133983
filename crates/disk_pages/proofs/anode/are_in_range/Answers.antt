use Rattle.std.proofs.Common.{refl, sym, ◌∙◌, arith}
use Rattle.disk_pages.proofs.Each.{each_none, each_more, each_fails}
use Rattle.disk_pages.proofs.anode.are_in_range.Goals as goal

pub loop-w-init : goal.loop-w-init
loop-w-init c = each_none _

pub returns-then-not-is_in_range : goal.returns-then-not-is_in_range
returns-then-not-is_in_range c = sym (each_fails _ c.loop-w.w _ (omega arith) (sym c.is_in_range.ensures ∙ c.if-not-is_in_range.true))

pub loop-w-preserved : goal.loop-w-preserved
loop-w-preserved c = each_more _ c.loop-w.w _ refl c.loop-w.invariant (sym c.is_in_range.ensures ∙ c.if-not-is_in_range.false)
