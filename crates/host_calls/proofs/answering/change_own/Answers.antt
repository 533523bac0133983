use Rattle.std.proofs.Common.{Ok, refl}
use Rattle.host_calls.specs.Answering.ChangesOwn.{FreesIt, KeepsAll}
use Rattle.host_calls.proofs.Replied.{keeps}
use Rattle.host_calls.proofs.answering.change_own.Goals as goal

pub returns-in-Frees : goal.returns-in-Frees
returns-in-Frees c = rw c.in-Frees.is (FreesIt c.free_own.ensures refl)

pub returns-in_default : goal.returns-in_default
returns-in_default c =
    KeepsAll (Ok c.args.verdict)
    (keeps c.args.verdict c.in_default.not-Writes c.in_default.not-Uses c.in_default.not-Frees) refl refl
