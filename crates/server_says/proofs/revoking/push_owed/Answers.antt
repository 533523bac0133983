use Rattle.std.proofs.Common.{◌∙◌, ◌++◌, List, ap}
use Rattle.std.proofs.lemmas.Result.{on_ok_weaker}
use Rattle.token_types.specs.declared.token.Token.{Token}
use Rattle.server_says.proofs.revoking.push_owed.Goals as goal

pub returns : goal.returns
returns c =
    on_ok_weaker c.append.result
    (λ e. e ∙ ap (λ (ts : List Token). c.args.tokens.now ++ ts) c.in_ok-held.ensures) c.append.ensures.ok
