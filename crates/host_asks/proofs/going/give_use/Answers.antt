use Rattle.std.proofs.Common.{false, true}
use Rattle.std.proofs.lemmas.Result.{on_ok_weaker}
use Rattle.host_asks.proofs.Gone.{not_ending}
use Rattle.host_asks.proofs.going.give_use.Goals as goal

pub returns-in-Unlock : goal.returns-in-Unlock
returns-in-Unlock c =
    on_ok_weaker c.give_label.result
    (λ g. record { lock = true; label = c.in-Unlock.label; call_is = c.in-Unlock.is; gives = g }) c.give_label.ensures

pub returns-in-CloseFile : goal.returns-in-CloseFile
returns-in-CloseFile c =
    on_ok_weaker c.give_label-in-CloseFile.result
    (λ g. record { lock = false; label = c.in-CloseFile.label; call_is = c.in-CloseFile.is; gives = g })
    c.give_label-in-CloseFile.ensures

pub returns-in_default : goal.returns-in_default
returns-in_default c =
    absurd (not_ending c.args.current.call.now c.in_default.not-Unlock c.in_default.not-CloseFile c.requires)
