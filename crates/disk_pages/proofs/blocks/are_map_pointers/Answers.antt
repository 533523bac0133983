use Rattle.std.proofs.Common.{refl, sym, ◌∙◌, arith}
use Rattle.disk_pages.proofs.Each.{each_none, each_more, each_fails}
use Rattle.disk_pages.proofs.blocks.are_map_pointers.Goals as goal

pub loop-j-init : goal.loop-j-init
loop-j-init c = each_none _

pub returns-then-not-is_map_pointer : goal.returns-then-not-is_map_pointer
returns-then-not-is_map_pointer c = sym (each_fails _ c.loop-j.j _ (omega arith) (sym c.is_map_pointer.ensures ∙ c.if-not-is_map_pointer.true))

pub loop-j-preserved : goal.loop-j-preserved
loop-j-preserved c = each_more _ c.loop-j.j _ refl c.loop-j.invariant (sym c.is_map_pointer.ensures ∙ c.if-not-is_map_pointer.false)
