use Rattle.std.proofs.Common.{Err, refl}
use Rattle.host_calls.specs.Answering.ChangesOwn.{KeepsAll}
use Rattle.host_calls.proofs.answering.change.Goals as goal

pub returns-in-Err : goal.returns-in-Err
returns-in-Err c = rw c.in-Err.is (KeepsAll (Err c.in-Err._refusal) refl refl refl)
