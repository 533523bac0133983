use Rattle.std.proofs.Common.{refl, sym, ◌∙◌, arith}
use Rattle.disk_pages.proofs.Each.{each_none, each_more, each_fails}
use Rattle.disk_judge.proofs.counts.is_single.Goals as goal

pub loop-slot-init : goal.loop-slot-init
loop-slot-init c = each_none _

pub returns-then-not-is_few : goal.returns-then-not-is_few
returns-then-not-is_few c = sym (each_fails _ c.loop-slot.slot _ (omega arith) (sym c.is_few.ensures ∙ c.if-not-is_few.true))

pub loop-slot-preserved : goal.loop-slot-preserved
loop-slot-preserved c = each_more _ c.loop-slot.slot _ refl c.loop-slot.invariant (sym c.is_few.ensures ∙ c.if-not-is_few.false)
