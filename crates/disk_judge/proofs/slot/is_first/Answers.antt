use Rattle.std.proofs.Common.{refl, sym, ◌∙◌, arith}
use Rattle.disk_pages.proofs.Each.{each_none, each_more, each_fails}
use Rattle.disk_judge.proofs.slot.is_first.Goals as goal

pub loop-earlier-init : goal.loop-earlier-init
loop-earlier-init c = each_none _

pub returns-then-not-is_unlike : goal.returns-then-not-is_unlike
returns-then-not-is_unlike c = sym (each_fails _ c.loop-earlier.earlier _ (omega arith) (sym c.is_unlike.ensures ∙ c.if-not-is_unlike.true))

pub loop-earlier-preserved : goal.loop-earlier-preserved
loop-earlier-preserved c = each_more _ c.loop-earlier.earlier _ refl c.loop-earlier.invariant (sym c.is_unlike.ensures ∙ c.if-not-is_unlike.false)
