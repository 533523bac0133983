use Rattle.std.proofs.Common.{◌∙◌, List, ap}
use Rattle.std.proofs.lemmas.Result.{on_ok_weaker}
use Rattle.token_types.specs.declared.token.Token.{Token}
use Rattle.server_says.specs.Revoking.{asking_back}
use Rattle.server_says.proofs.revoking.revoke_all.Goals as goal

pub returns-clause-tables : goal.returns-clause-tables
returns-clause-tables c =
    on_ok_weaker c.ask_back.result
    (λ e. e ∙ ap (λ (ts : List Token). (asking_back c.args.tables.now c.args.draft.now ts).tables)
    c.in_ok-tokens.ensures) c.ask_back.ensures.tables

pub returns-clause-draft : goal.returns-clause-draft
returns-clause-draft c =
    on_ok_weaker c.ask_back.result
    (λ e. e ∙ ap (λ (ts : List Token). (asking_back c.args.tables.now c.args.draft.now ts).draft)
    c.in_ok-tokens.ensures) c.ask_back.ensures.draft
