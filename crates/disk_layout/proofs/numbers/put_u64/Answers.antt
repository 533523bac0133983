use Rattle.std.proofs.Common.{◌∙◌, arith}
use Rattle.std.proofs.lemmas.List.{append-nil}
use Rattle.disk_layout.proofs.Bytes.{number-written}
use Rattle.disk_layout.proofs.numbers.put_u64.Goals as goal

pub returns-clause-number : goal.returns-clause-number
returns-clause-number c = number-written 8 c.args.at c.args.number _ _ (c.write_u64.ensures ∙ append-nil _) (omega arith) (omega arith) c.put_bytes.ensures.piece
