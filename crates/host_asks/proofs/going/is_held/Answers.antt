use Rattle.std.proofs.Common.{List, subst, sym}
use Rattle.run_rules.specs.Past.{In}
use Rattle.token_types.specs.declared.token.Token.{Token}
use Rattle.host_asks.proofs.Gone.{at_file}
use Rattle.host_asks.proofs.going.is_held.Goals as goal

pub returns : goal.returns
returns c =
    let there = at_file c.args.tables.now c.args.token.now in (
      λ t. there.0 (subst (λ (ts : List Token). In c.args.token.now ts) c.tokens_at.ensures (c.has_token.ensures.0 t)),
      λ i. c.has_token.ensures.1 (subst (λ (ts : List Token). In c.args.token.now ts) (sym c.tokens_at.ensures)
          (there.1 i)),
    )
