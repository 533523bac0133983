use Rattle.std.proofs.Common.{refl, sym, ◌∙◌, arith}
use Rattle.disk_pages.proofs.Each.{each_none, each_more, each_fails}
use Rattle.disk_pages.proofs.blocks.are_entries.Goals as goal

pub loop-e-init : goal.loop-e-init
loop-e-init c = each_none _

pub returns-then-not-is_entry_in : goal.returns-then-not-is_entry_in
returns-then-not-is_entry_in c = sym (each_fails _ c.loop-e.e _ (omega arith) (sym c.is_entry_in.ensures ∙ c.if-not-is_entry_in.true))

pub loop-e-preserved : goal.loop-e-preserved
loop-e-preserved c = each_more _ c.loop-e.e _ refl c.loop-e.invariant (sym c.is_entry_in.ensures ∙ c.if-not-is_entry_in.false)
