use Rattle.std.proofs.Common.{◌+◌, ◌-◌, arith}
use Rattle.disk_anode.proofs.Laying.{copied}
use Rattle.disk_anode.proofs.parts.copy_part.Goals as goal

pub returns-clause-inside : goal.returns-clause-inside
returns-clause-inside c = λ k lt low high.
    let first = c.max-first.ensures in
    let end = c.min-end.ensures in
    let fits = c.requires.low in
    copied _ _ _ c.args.bytes.now _ (omega arith) c.put_bytes.ensures.piece k (c.args.from + k - c.max-first.result) _ (omega arith) (omega arith) (omega arith)
