use Rattle.service_run.proofs.Waits.{from_is}
use Rattle.service_run.proofs.lines.last_gone.Goals as goal

pub loop-line-init : goal.loop-line-init
loop-line-init c = from_is c.args.node c.args.next c.args.lines.now
