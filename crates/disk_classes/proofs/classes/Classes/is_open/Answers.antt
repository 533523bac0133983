use Rattle.disk_classes.proofs.Noted.{past_closed}
use Rattle.disk_classes.proofs.classes.Classes.is_open.Goals as goal

pub returns-in-None : goal.returns-in-None
returns-in-None g c = (λ t. absurd (cc), λ is. absurd (past_closed c.args.self.now.members.noted c.args.member.now.number c.in-None.ensures is))
