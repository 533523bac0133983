use Rattle.std.proofs.Common.{◌≡◌, ◌∷◌, ◌++◌, [], List, Option, OnErr, OnOk, Result, Ok, Err, subst, sym}
use Rattle.message_types.specs.declared.message.Message.{Message}
use Rattle.host_gives.specs.declared.slots.Start.{Start}
use Rattle.host_gives.specs.Slots.{AreStarts, IsStart}
use Rattle.host_gives.proofs.Starting.{right_put, right_pushed}
use Rattle.host_gives.proofs.slots.put_start.Goals as goal

either : {T E : Type 0} (r : Result T E) (xs : List (Option Message)) (s : Start) (old new : List Start) →
    OnOk r (new ≡ old ++ s ∷ []) → OnErr r (new ≡ old) → IsStart xs s → AreStarts xs old → AreStarts xs new
either (Ok _) xs s old new e _ is are = subst (AreStarts xs) (sym e) (right_pushed xs s old is are)
either (Err _) xs s old new _ e is are = subst (AreStarts xs) (sym e) are

pub returns-in-Some : goal.returns-in-Some
returns-in-Some c xs is are =
    subst (AreStarts xs) (sym c.put.ensures)
    (right_put xs c.args.start c.args.starts.now c.in-Some.place is are)

pub returns-in-None : goal.returns-in-None
returns-in-None c xs is are =
    either c.push.result xs c.args.start c.args.starts.now c.push.new.self c.push.ensures.ok c.push.ensures.err is are
