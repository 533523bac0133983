use Rattle.std.proofs.Common.{◌<◌, length, arith}
use Rattle.host_cache.proofs.Alike.{alike_next}
use Rattle.host_cache.proofs.cache.Cache.are_alike.Goals as goal

pub loop-index-preserved : goal.loop-index-preserved
loop-index-preserved c =
    let ones = c.args.ones.now in
    let others = c.args.others.now in
    let i = c.loop-index.index in
    let within : i < length others = omega (arith, c.loop-index-test.true, c.requires) in
    alike_next ones others i c.index-ones-index.result c.index-others-index.result c.args.self.now.held
    c.loop-index-test.true c.index-ones-index.is within c.index-others-index.is
    (c.is_alike.ensures c.if-not-is_alike.false) c.loop-index.invariant
