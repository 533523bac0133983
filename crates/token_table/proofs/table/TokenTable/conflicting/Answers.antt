use Rattle.std.proofs.Common.{◌++◌, ap, subst, sym, ◌∙◌, append-nil}
use Rattle.std.specs.List.{filter}
use Rattle.token_types.specs.Conflicts.{blocks}
use Rattle.token_table.specs.Tables.{AreThose}
use Rattle.token_table.proofs.Nearby.{near_all, near_end}
use Rattle.token_table.proofs.table.TokenTable.conflicting.Goals as goal

pub returns-clause-all : goal.returns-clause-all
returns-clause-all c =
    let test = blocks c.args.host c.args.needs.now in
    let now = c.args.self.now.tokens in
    let all = sym (append-nil c.loop-index.tokens)
    ∙ ap (λ ts. c.loop-index.tokens ++ filter test ts)
    (sym (near_end now c.args.needs.now c.loop-index.index c.loop-index-test.false))
    ∙ c.loop-index.invariant in
    subst (AreThose test now) (sym all) (near_all c.args.host c.args.needs.now now)
