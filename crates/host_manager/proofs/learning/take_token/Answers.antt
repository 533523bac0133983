use Rattle.std.proofs.Common.{ap}
use Rattle.std.proofs.lemmas.Result.{on_ok_weaker}
use Rattle.host_manager.proofs.learning.take_token.Goals as goal

pub returns : goal.returns
returns c =
    on_ok_weaker c.push.result (λ p. record {
      shown = c.in_ok-add_token.ensures;
      tables = ap (λ ls. record c.args.tables.now { cache = c.add_token.new.cache; lengths = ls })
          c.forget_length.ensures;
      draft_is = ap (λ ts. record c.args.draft.now { taken = ts }) p;
    }) c.push.ensures.ok
