use Rattle.std.proofs.Common.{ap, subst, sym}
use Rattle.std.proofs.lemmas.Result.{on_ok_weaker}
use Rattle.host_asks.specs.Asking.{doing}
use Rattle.host_manager.proofs.Tooks.{of_stay}
use Rattle.host_manager.specs.Taking.{Takes}
use Rattle.host_manager.specs.Taking.Takes.{HasParted}
use Rattle.message_types.specs.declared.message.Body.{Body}
use Rattle.host_manager.proofs.taking.take_message.Goals as goal

pub returns-in-Bye : goal.returns-in-Bye
returns-in-Bye c =
    rw c.in-Bye.is (HasParted (ap (λ m. doing m c.args.draft.now) c.take_bye.ensures))

pub returns-in-Restarted : goal.returns-in-Restarted
returns-in-Restarted c =
    on_ok_weaker c.take_restart.result (λ t. subst (λ (b : Body). Takes c.args.message.now
    (doing c.args.tables.now c.args.draft.now) (doing c.take_restart.new.tables c.take_restart.new.draft) b)
    (sym c.in-Restarted.is) t) c.take_restart.ensures

pub returns-in-Reclaimed : goal.returns-in-Reclaimed
returns-in-Reclaimed c =
    on_ok_weaker c.hear.result (λ t. subst (λ (b : Body). Takes c.args.message.now
    (doing c.args.tables.now c.args.draft.now) (doing c.hear.new.tables c.hear.new.draft) b)
    (sym c.in-Reclaimed.is) t) c.hear.ensures

pub returns-in_default : goal.returns-in_default
returns-in_default c =
    on_ok_weaker c.take_present.result (λ t. t (of_stay c.args.message.now.body c.in_default.not-Bye
    c.in_default.not-Restarted c.in_default.not-Reclaimed)) c.take_present.ensures
