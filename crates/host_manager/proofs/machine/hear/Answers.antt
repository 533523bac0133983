use Rattle.std.proofs.lemmas.Result.{on_ok_weaker}
use Rattle.host_manager.proofs.machine.hear.Goals as goal

pub returns : goal.returns
returns c =
    on_ok_weaker c.send_due.result
    (λ h. record { heard = c.take_message.new.draft; takes = c.in_ok-take_message.ensures; sends = h })
    c.send_due.ensures
