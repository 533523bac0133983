use Rattle.std.proofs.Common.{◌≡◌, ◌∙◌, ap}
use Rattle.std.proofs.lemmas.Result.{on_ok_weaker}
use Rattle.server_takes.proofs.Parts.{claim_unanswered}
use Rattle.server_takes.proofs.claiming.claim_again.Goals as goal

pub returns-in-None : goal.returns-in-None
returns-in-None c = claim_unanswered c.args.tables.now c.args.draft.now c.args.host c.requires c.in-None.ensures
