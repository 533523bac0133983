use Rattle.service_plain.proofs.Steps.{gone_by}
use Rattle.service_plain.proofs.play.Play.go.Goals as goal

pub returns-clause-goes : goal.returns-clause-goes
returns-clause-goes c = gone_by c.in-Host.host c.args.line.now c.args.self.now c.act.new.self c.leave.new.self c.in-Host.is c.in_ok-act.ensures.acts c.in_ok-leave.ensures.does
