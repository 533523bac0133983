use Rattle.std.proofs.lemmas.Result.{on_ok_weaker}
use Rattle.host_manager.proofs.closing.begin.Goals as goal

pub returns : goal.returns
returns c =
    on_ok_weaker c.send_due.result
    (λ h. record { begun = c.begin_call.new.draft; begins = c.in_ok-begin_call.ensures; sends = h }) c.send_due.ensures
