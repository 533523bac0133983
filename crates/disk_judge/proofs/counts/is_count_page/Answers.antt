use Rattle.std.proofs.Common.{refl, sym, ◌∙◌, arith}
use Rattle.disk_image.specs.Counts.{is_count_page}
use Rattle.disk_pages.proofs.Each.{each_none, each_more, each_fails}
use Rattle.disk_judge.proofs.counts.is_count_page.Goals as goal

pub loop-k-init : goal.loop-k-init
loop-k-init c = λ image are. each_none _

pub returns-then-not-is_count_at : goal.returns-then-not-is_count_at
unfolding is_count_page
returns-then-not-is_count_at c = λ image are. sym (each_fails _ c.loop-k.k _ (omega arith) (sym (c.is_count_at.ensures image are) ∙ c.if-not-is_count_at.true))

pub loop-k-preserved : goal.loop-k-preserved
loop-k-preserved c = λ image are. each_more _ c.loop-k.k _ refl (c.loop-k.invariant image are) (sym (c.is_count_at.ensures image are) ∙ c.if-not-is_count_at.false)
