use Rattle.std.proofs.Common.{sym, None}
use Rattle.std.proofs.lemmas.List.{get_or_past}
use Rattle.disk_classes.proofs.Noted.{none_past}
use Rattle.disk_classes.proofs.members.Members.value_of.Goals as goal

pub returns-in-None : goal.returns-in-None
returns-in-None c = sym (get_or_past c.args.self.now.values c.args.page None (none_past c.args.self.now.values c.args.page c.in-None.ensures))
