use Rattle.service_run.proofs.Readings.{was_made}
use Rattle.service_run.proofs.script.script_for.Goals as goal

pub returns-in-Ok-clause-read : goal.returns-in-Ok-clause-read
returns-in-Ok-clause-read g c = was_made _ _ c.args.play c.in-Gen.seed c.in-Gen.hosts c.in-Gen.calls c.in-Gen.workers c.in-Ok.script c.in-Gen.is c.in-Ok.ensures.value
