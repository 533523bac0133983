use Rattle.std.proofs.Common.{refl, subst, sym, ◌∙◌}
use Rattle.std.proofs.lemmas.Result.{on_ok_weaker}
use Rattle.host_leaves.specs.Giving.{LeavesWhere}
use Rattle.host_leaves.proofs.Making.{empty_is, leaves_some}
use Rattle.host_leaves.proofs.giving.leave_where.Goals as goal

pub returns-then-is_empty : goal.returns-then-is_empty
returns-then-is_empty c =
    subst (λ tokens. LeavesWhere c.args.tables.now c.args.draft.now c.args.fid tokens c.args.tables.now
    c.args.draft.now)
    (sym (empty_is c.args.tokens.now (sym c.is_empty.ensures ∙ c.if-is_empty.true))) (refl, refl)

pub returns : goal.returns
returns c =
    on_ok_weaker c.drop_all.result
    (λ h. leaves_some c.args.tables.now c.args.draft.now c.args.fid c.args.tokens.now c.drop_all.new.tables
    c.drop_all.new.draft (sym c.is_empty.ensures ∙ c.if-is_empty.false) (record {
      given = c.make_give.new.tables;
      made = c.make_give.new.draft;
      gives = c.in_ok-make_give.ensures;
      drops = h;
    })) c.drop_all.ensures
