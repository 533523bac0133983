use Rattle.std.proofs.Common.{◌≡◌, ◌-◌, ◌++◌, suc, take, drop, length, arith, ◌∙◌, ap, sym}
use Rattle.tree_objects.specs.Files.{bytes_over}
use Rattle.tree_objects.specs.Stretches.{all_bytes, laid}
use Rattle.tree_objects.proofs.Laid.{laid_next, laid_length, take_front}
use Rattle.tree_objects.proofs.bytes.put_each.Goals as goal

pub loop-index-preserved : goal.loop-index-preserved
loop-index-preserved c kept count is =
    let ss = c.args.stretches.now in let i = c.loop-index.index - 1 in let s = c.index-stretches-index.result in let
    from = c.args.from in
    let e : suc i ≡ c.loop-index.index = omega (arith, c.loop-index-test.true) in
    let new = c.put_stretch.new.bytes in
    let rest = drop (length new) c.loop-index.list.items in
    let size : length new ≡ c.loop-index.list.len = ap length c.put_stretch.ensures ∙ laid_length _ _ _
    ∙ c.as_mut_slice.ensures.len in
    let exact : take c.loop-index.list.len (new ++ rest) ≡ new = ap (λ n. take n (new ++ rest)) (sym size)
    ∙ take_front new rest in
    exact ∙ c.put_stretch.ensures
    ∙ ap (λ bytes. laid bytes (s.from - from) (drop (from - s.from) s.bytes))
    (c.as_mut_slice.ensures.value ∙ c.loop-index.invariant kept count is ∙ ap
    (λ k. bytes_over kept (all_bytes (drop k ss)) from count) (sym e))
    ∙ laid_next kept ss from count i s (omega (arith, c.loop-index-test.true, c.loop-index.auto.index))
    c.index-stretches-index.is
