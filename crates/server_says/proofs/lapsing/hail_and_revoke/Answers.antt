use Rattle.std.proofs.Common.{◌∙◌, ap}
use Rattle.std.proofs.lemmas.Result.{on_ok_weaker}
use Rattle.server_takes.specs.declared.draft.Draft.{Draft}
use Rattle.server_says.specs.Revoking.{asking_back, owed}
use Rattle.server_says.proofs.lapsing.hail_and_revoke.Goals as goal

pub returns-clause-tables : goal.returns-clause-tables
returns-clause-tables c = c.revoke_again.ensures.tables

pub returns-clause-draft : goal.returns-clause-draft
returns-clause-draft c =
    let x = c.args.tables.now in
    on_ok_weaker c.revoke_again.result
    (λ e. e ∙ ap (λ (d : Draft). (asking_back x d (owed x)).draft) c.in_ok-hail_all.ensures)
    c.revoke_again.ensures.draft
