use Rattle.std.proofs.Common.{◌∙◌, ap}
use Rattle.server_decides.specs.Sending.{entering_by}
use Rattle.server_decides.proofs.Parts.{if_not, if_so}
use Rattle.server_decides.proofs.Saying.{entered_sayable}
use Rattle.server_decides.proofs.sending.entered.Goals as goal

pub returns-then-not-is_granted-clause-sending : goal.returns-then-not-is_granted-clause-sending
returns-then-not-is_granted-clause-sending g c tells = if_not c.args.is_granted _ _ (cc)

pub returns-clause-sending : goal.returns-clause-sending
returns-clause-sending g c tells =
    c.entering_by.ensures ∙ ap (entering_by c.args.change.now) (c.in_ok-fileset.ensures.entered tells)
    ∙ if_so c.args.is_granted _ _ (cc)

pub returns-clause-sayable : goal.returns-clause-sayable
returns-clause-sayable g c here =
    entered_sayable c.args.tables.now.server c.args.change.now c.in_ok-fileset.fileset c.entering_by.result
    c.entering_by.ensures here (c.is_known_here.ensures.0 (cc))
