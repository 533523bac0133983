use Rattle.std.proofs.Common.{sym}
use Rattle.std.proofs.lemmas.Result.{on_ok_weaker}
use Rattle.host_asks.specs.Asking.{doing}
use Rattle.host_asks.specs.Going.GoesOn.{IsNone}
use Rattle.host_asks.proofs.Gone.{goes_on, same_call}
use Rattle.host_asks.proofs.going.go_on.Goals as goal

pub returns-in_default : goal.returns-in_default
returns-in_default c =
    IsNone (sym c.in_default.ensures.value) (same_call c.args.tables.now c.args.draft.now c.take.new.self
    c.in_default.ensures.after (sym c.in_default.ensures.value))

pub returns : goal.returns
returns c =
    on_ok_weaker c.put_back.result
    (goes_on c.args.tables.now c.args.draft.now c.in-Some.asked (sym c.in-Some.ensures.value) c.take.new.self
    c.in-Some.ensures.after c.go_with-gone.result (doing c.go_with-gone.new.tables c.go_with-gone.new.draft)
    c.put_back.new.tables c.go_with-gone.ensures) c.put_back.ensures
