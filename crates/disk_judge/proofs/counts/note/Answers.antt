use Rattle.std.proofs.Common.{arith}
use Rattle.disk_judge.proofs.Marking.{note_in}
use Rattle.disk_judge.proofs.counts.note.Goals as goal

pub returns-then-pointer-len : goal.returns-then-pointer-len
returns-then-pointer-len c = λ uses are. note_in uses c.args.one.now _ _ are _ _ _ (omega arith) (omega arith) c.index.ensures (λ is. c.noted-mark.ensures uses _ is (omega arith))
