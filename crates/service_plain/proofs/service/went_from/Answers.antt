use Rattle.service_plain.proofs.Whole.{lines_seated}
use Rattle.service_plain.proofs.service.went_from.Goals as goal

pub order_of-requires-clause-seated : goal.order_of-requires-clause-seated
order_of-requires-clause-seated c = lines_seated c.args.script.now c.requires.sound
