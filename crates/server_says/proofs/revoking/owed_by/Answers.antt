use Rattle.std.proofs.Common.{◌∙◌, List, ap, rules}
use Rattle.std.specs.List.{filter}
use Rattle.std.proofs.lemmas.Fn.{filter_same}
use Rattle.token_types.specs.declared.token.Token.{Token}
use Rattle.server_says.specs.Revoking.{is_owed}
use Rattle.server_says.proofs.revoking.owed_by.Goals as goal

pub returns : goal.returns
returns c =
    filter_same _ (is_owed c.args.manager.now) _ (λ x b f' k. search rules) _ _ c.retain.ensures
    ∙ ap (λ (ts : List Token). filter (is_owed c.args.manager.now) ts) c.in_ok-held.ensures
