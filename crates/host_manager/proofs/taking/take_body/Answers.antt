use Rattle.std.proofs.Common.{refl}
use Rattle.std.proofs.lemmas.Result.{on_ok_weaker}
use Rattle.host_manager.proofs.Tooks.{for_others}
use Rattle.host_manager.specs.Taking.TakesBody.{IsOther}
use Rattle.host_manager.proofs.taking.take_body.Goals as goal

pub returns-in-Gone : goal.returns-in-Gone
returns-in-Gone c = rw c.in-Gone.is (on_ok_weaker c.take_gone.result (λ t stay. t c.args.server) c.take_gone.ensures)

pub returns-in-Grant : goal.returns-in-Grant
returns-in-Grant c =
    rw c.in-Grant.is (on_ok_weaker c.take_grant.result (λ t stay. t c.args.server) c.take_grant.ensures)

pub returns-in-Done : goal.returns-in-Done
returns-in-Done c = rw c.in-Done.is (on_ok_weaker c.take_done.result (λ t stay. t) c.take_done.ensures)

pub returns-in-Revoke : goal.returns-in-Revoke
returns-in-Revoke c =
    rw c.in-Revoke.is (on_ok_weaker c.be_revoked.result (λ t stay. t c.args.server) c.be_revoked.ensures)

pub returns-in_default : goal.returns-in_default
returns-in_default c = λ stay. IsOther c.args.body.now (for_others c.args.body.now stay c.in_default.not-Gone
    c.in_default.not-Grant c.in_default.not-Done c.in_default.not-Revoke) refl
