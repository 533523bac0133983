use Rattle.std.proofs.Common.{refl, sym, ◌∙◌, arith}
use Rattle.disk_pages.proofs.Each.{each_none, each_more, each_fails}
use Rattle.disk_pages.proofs.blocks.is_zero_behind.Goals as goal

pub loop-k-init : goal.loop-k-init
loop-k-init c = each_none _

pub returns-then-not-is_content : goal.returns-then-not-is_content
returns-then-not-is_content c = sym (each_fails _ c.loop-k.k _ (omega arith) (sym c.is_content.ensures ∙ c.if-not-is_content.true))

pub loop-k-preserved : goal.loop-k-preserved
loop-k-preserved c = each_more _ c.loop-k.k _ refl c.loop-k.invariant (sym c.is_content.ensures ∙ c.if-not-is_content.false)
