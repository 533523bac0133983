use Rattle.std.proofs.Common.{arith, ◌≡◌, suc, ◌-◌, drop, subst}
use Rattle.host_cache.specs.Bytes.{IsLaid}
use Rattle.host_cache.proofs.Writing.{laid_next}
use Rattle.host_cache.proofs.bytes.lay.Goals as goal

pub loop-index-preserved : goal.loop-index-preserved
loop-index-preserved c =
    let i = c.loop-index.index - 1 in
    let e : c.loop-index.index ≡ suc i = omega (arith, c.loop-index-test.true) in
    laid_next c.args.span c.args.pieces.now c.args.bytes.now c.loop-index.bytes c.put_within.new.bytes i
    c.index-pieces-index.result (omega (arith, c.loop-index-test.true, c.loop-index.auto.index)) c.index-pieces-index.is
    (subst (λ k. IsLaid c.args.span (drop k c.args.pieces.now) c.args.bytes.now c.loop-index.bytes) e
    c.loop-index.invariant) c.put_within.ensures
