use Rattle.std.proofs.Common.{◌≡◌, OnOk, subst}
use Rattle.run_output.proofs.Along.{lost_by_server, none_by_host}
use Rattle.run_output.proofs.follow.follow_step.Goals as goal

-- a host's step loses nothing
pub returns-in-Host-clause-losses : goal.returns-in-Host-clause-losses
returns-in-Host-clause-losses c =
    none_by_host c.args.tree.now c.args.step.now.answers c.args.step.now.applied c.args.step.now.node _ c.in-Host.is c.args.losses.now

pub returns-in-Server-clause-losses : goal.returns-in-Server-clause-losses
returns-in-Server-clause-losses c =
    subst (λ losses. OnOk c.follow_applied.result (c.follow_applied.new.losses ≡ losses))
    (lost_by_server c.args.tree.now c.follow_answers.new.tree c.args.step.now.answers c.args.step.now.applied c.args.step.now.node _
    c.in-Server.is c.in_ok-follow_answers.ensures c.args.losses.now)
    c.follow_applied.ensures.losses
