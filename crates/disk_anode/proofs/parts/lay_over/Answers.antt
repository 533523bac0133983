use Rattle.std.proofs.Common.{◌+◌, ◌-◌, arith}
use Rattle.disk_anode.proofs.Laying.{copied}
use Rattle.disk_anode.proofs.parts.lay_over.Goals as goal

pub returns-clause-inside : goal.returns-clause-inside
returns-clause-inside c = λ k lt low high.
    let first = c.max-first.ensures in
    let end = c.min-end.ensures in
    copied _ _ _ c.args.piece.now _ (omega arith) c.put_bytes.ensures.piece k (c.args.at + k - c.max-first.result) _ (omega arith) (omega arith) (omega arith)
