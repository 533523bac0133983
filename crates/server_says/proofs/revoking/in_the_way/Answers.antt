use Rattle.std.proofs.Common.{◌≡◌, ◌∙◌, List, ap}
use Rattle.std.proofs.lemmas.Result.{IfOk-weaker}
use Rattle.token_manager.specs.Managers.{wanted}
use Rattle.token_manager.specs.declared.want.Wanted.{Wanted}
use Rattle.server_says.specs.Revoking.{not_asked}
use Rattle.server_says.proofs.revoking.in_the_way.Goals as goal

pub returns : goal.returns
returns c =
    IfOk-weaker c.not_asked.result (λ ts. ts ≡ not_asked c.as_slice.result.now)
    (λ ts. ts ≡ not_asked (wanted c.args.tables.now.tokens))
    (λ ts e. e ∙ ap (λ (ws : List Wanted). not_asked ws) (c.as_slice.ensures ∙ c.in_ok-wanted.ensures))
    c.not_asked.ensures
