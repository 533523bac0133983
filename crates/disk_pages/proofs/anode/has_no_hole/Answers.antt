use Rattle.std.proofs.Common.{refl, sym, ◌∙◌, arith}
use Rattle.disk_pages.proofs.Each.{each_none, each_more, each_fails}
use Rattle.disk_pages.proofs.anode.has_no_hole.Goals as goal

pub loop-i-init : goal.loop-i-init
loop-i-init c = each_none _

pub returns-then-not-is_no_hole : goal.returns-then-not-is_no_hole
returns-then-not-is_no_hole c = sym (each_fails _ c.loop-i.i _ (omega arith) (sym c.is_no_hole.ensures ∙ c.if-not-is_no_hole.true))

pub loop-i-preserved : goal.loop-i-preserved
loop-i-preserved c = each_more _ c.loop-i.i _ refl c.loop-i.invariant (sym c.is_no_hole.ensures ∙ c.if-not-is_no_hole.false)
