use Rattle.std.proofs.Common.{◌≡◌, ◌+◌, ℕ, suc, take, sym, subst, arith}
use Rattle.store_acts.specs.Sound.{AllFit, Fits}
use Rattle.store_acts.specs.declared.act.Act.{Act}
use Rattle.service_watch.proofs.Fitting.{fit_next}
use Rattle.service_watch.proofs.plain.plain_acts.Goals as goal

pub loop-count-preserved : goal.loop-count-preserved
loop-count-preserved c =
    (let batch = c.args.batch.now in
    let count = c.loop-count.count in
    let act = c.index-batch-count.result in
    let less = c.loop-count-test.true in
    let next : suc count ≡ count + 1 = omega arith in
    record {
      within = omega (arith, less);
      fit = λ state.
          subst (λ (n : ℕ). AllFit state (take n batch)) next
          (fit_next count batch act state less (c.loop-count.invariant.fit state)
          (λ s. subst (λ (a : Act). Fits s a) c.index-batch-count.is (c.is_plain.ensures.0 c.if-is_plain.true s)));
    })
