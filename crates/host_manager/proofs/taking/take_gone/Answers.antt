use Rattle.std.proofs.lemmas.Result.{on_ok_weaker}
use Rattle.std.proofs.Common.{subst}
use Rattle.host_asks.specs.Asking.{doing}
use Rattle.host_asks.specs.Going.{GoesOn}
use Rattle.host_manager.specs.Taking.TakesBody.{IsGone}
use Rattle.host_manager.proofs.taking.take_gone.Goals as goal

pub returns : goal.returns
returns c =
    on_ok_weaker c.go_on.result (λ h server. IsGone c.args.applied
    (subst (λ at. GoesOn at (doing c.go_on.new.tables c.go_on.new.draft)) c.in_ok-learn_given.ensures h))
    c.go_on.ensures
