use Rattle.server_exporter_tests.proofs.Working.{works_tried}
use Rattle.server_exporter_tests.proofs.machine.take.Goals as goal

pub returns : goal.returns
returns c = works_tried _ c.gather.new.self c.args.machine.now.keeper c.gather.new.keeper c.gather.new.waiting
    c.in_ok-step.ensures.tried c.in_ok-step.ensures.served c.in_ok-step.ensures.gives
