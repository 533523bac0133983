use Rattle.disk_image_laws.proofs.Reached.{reach_least, root_reached, steps_lead}
use Rattle.disk_image_laws.proofs.image_laws.reach_law.Goals as goal

pub returns-clause-least : goal.returns-clause-least
returns-clause-least c = reach_least

pub returns-clause-root : goal.returns-clause-root
returns-clause-root c = root_reached

pub returns-clause-steps : goal.returns-clause-steps
returns-clause-steps c = steps_lead
