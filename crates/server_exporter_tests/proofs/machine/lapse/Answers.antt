use Rattle.server_exporter_tests.proofs.machine.lapse.Goals as goal

pub returns : goal.returns
returns c = record {
  served = c.in_ok-step.ensures.served _ c.requires.served;
  gives = c.requires.gives;
  fit = c.requires.fit;
}
