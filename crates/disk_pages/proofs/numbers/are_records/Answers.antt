use Rattle.std.proofs.Common.{refl, sym, ◌∙◌, arith}
use Rattle.disk_pages.proofs.Each.{each_none, each_more, each_fails}
use Rattle.disk_pages.proofs.numbers.are_records.Goals as goal

pub loop-host-init : goal.loop-host-init
loop-host-init c = each_none _

pub returns-then-not-is_record : goal.returns-then-not-is_record
returns-then-not-is_record c = sym (each_fails _ c.loop-host.host _ (omega arith) (sym c.is_record.ensures ∙ c.if-not-is_record.true))

pub loop-host-preserved : goal.loop-host-preserved
loop-host-preserved c = each_more _ c.loop-host.host _ refl c.loop-host.invariant (sym c.is_record.ensures ∙ c.if-not-is_record.false)
