use Rattle.std.proofs.Common.{refl, subst, sym, ◌∙◌}
use Rattle.std.proofs.lemmas.Result.{on_ok_weaker}
use Rattle.host_leaves.specs.Giving.{GivesWhere}
use Rattle.host_leaves.proofs.Making.{empty_is, gives_some}
use Rattle.host_leaves.proofs.giving.give_where.Goals as goal

pub returns-then-is_empty : goal.returns-then-is_empty
returns-then-is_empty c =
    subst (λ giving. GivesWhere c.args.tables.now c.args.draft.now c.args.fid giving c.args.leaving.now
    c.args.tables.now
    c.args.draft.now)
    (sym (empty_is c.args.giving.now (sym c.is_empty.ensures ∙ c.if-is_empty.true))) (refl, refl)

pub returns : goal.returns
returns c =
    on_ok_weaker c.make_give.result
    (gives_some c.args.tables.now c.args.draft.now c.args.fid c.args.giving.now c.args.leaving.now
    c.make_give.new.tables c.make_give.new.draft (sym c.is_empty.ensures ∙ c.if-is_empty.false))
    c.make_give.ensures
