use Rattle.std.proofs.lemmas.Result.{on_ok_weaker}
use Rattle.host_asks.specs.Asking.{doing}
use Rattle.host_manager.specs.Taking.TakesBody.{IsRevoke}
use Rattle.host_manager.proofs.taking.be_revoked.Goals as goal

pub returns : goal.returns
returns c =
    on_ok_weaker c.go_on.result (λ h server. IsRevoke c.args.revoke.now
    (doing c.take_revoke.new.tables c.take_revoke.new.draft) c.in_ok-take_revoke.ensures c.laws.ensures h)
    c.go_on.ensures
