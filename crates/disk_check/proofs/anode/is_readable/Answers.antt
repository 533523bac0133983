use Rattle.std.proofs.Common.{refl, sym, ◌∙◌, ap, arith}
use Rattle.std.specs.Prelude.{List, ℕ}
use Rattle.disk_pages.proofs.Each.{each_none, each_more, each_fails}
use Rattle.disk_image.specs.Anodes.{entry_blocks}
use Rattle.disk_check.proofs.anode.is_readable.Goals as goal

pub loop-n-init : goal.loop-n-init
loop-n-init c = λ image slot i page_is are. each_none _

pub returns-then-not-is_block_readable : goal.returns-then-not-is_block_readable
returns-then-not-is_block_readable c = λ image slot i page_is are.
    let e = ap (λ (p : List ℕ). entry_blocks p) page_is in
    let f = c.entry_blocks-n-end.ensures.value in
    sym (each_fails _ c.loop-n.n _ (omega (arith, e, f)) (sym (c.is_block_readable.ensures image slot i page_is are) ∙ c.if-not-is_block_readable.true))

pub loop-n-preserved : goal.loop-n-preserved
loop-n-preserved c = λ image slot i page_is are. each_more _ c.loop-n.n _ refl (c.loop-n.invariant image slot i page_is are) (sym (c.is_block_readable.ensures image slot i page_is are) ∙ c.if-not-is_block_readable.false)
