use Rattle.std.proofs.Common.{◌≡◌, ◌∙◌, sym}
use Rattle.token_manager.specs.Managers.{wanted}
use Rattle.server_says.specs.Revoking.{not_asked}
use Rattle.server_decides.proofs.Finished.{back_served}
use Rattle.server_decides.proofs.Idle.{idle_finished}
use Rattle.server_decides.proofs.Onward.{back_says}
use Rattle.server_decides.proofs.finishing.finish_idle.Goals as goal

pub returns-clause-finished : goal.returns-clause-finished
returns-clause-finished c state served =
    idle_finished c.args.tables.now c.args.draft.now state c.requires.idle.wants c.revoke_all.new.tables
    c.revoke_all.new.draft c.all_wait.result c.requires.idle.old c.requires.idle.claims served c.laws.ensures
    c.in_ok-revoke_all.ensures.tables c.in_ok-revoke_all.ensures.draft (λ r. sym c.all_wait.ensures ∙ r)

pub returns-clause-says : goal.returns-clause-says
returns-clause-says c sound =
    back_says c.args.tables.now c.revoke_all.new.tables c.args.draft.now c.revoke_all.new.draft
    c.in_ok-revoke_all.ensures.tables c.in_ok-revoke_all.ensures.draft sound

pub returns-clause-served : goal.returns-clause-served
returns-clause-served c state served =
    back_served state c.args.tables.now c.revoke_all.new.tables c.args.draft.now
    (not_asked (wanted c.args.tables.now.tokens)) c.in_ok-revoke_all.ensures.tables served
