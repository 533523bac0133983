use Rattle.std.proofs.Common.{arith}
use Rattle.host_tests.proofs.caching.write_at.Goals as goal

pub write-requires : goal.write-requires
write-requires c = λ at low high.
    let many = c.requires in
    let ordered = c.args.span.ordered in
    c.covers-is_covered.ensures.0 c.if-is_covered.true at low (omega (arith, high, many, ordered))
