use Rattle.std.proofs.Common.{Bool, refl, subst, sym, ◌∙◌}
use Rattle.host_asks.specs.Going.{MarksWhere}
use Rattle.host_asks.proofs.going.mark_where.Goals as goal

pub returns-then-not-is_settled-clause-marks : goal.returns-then-not-is_settled-clause-marks
returns-then-not-is_settled-clause-marks c =
    subst (λ (b : Bool). MarksWhere b c.args.tables.now c.args.call.now c.args.root c.args.path.now c.args.verdict.now
    c.args.tables.now) (sym (sym c.is_settled.ensures ∙ c.if-not-is_settled.true)) refl

pub returns-clause-marks : goal.returns-clause-marks
returns-clause-marks c =
    subst (λ (b : Bool). MarksWhere b c.args.tables.now c.args.call.now c.args.root c.args.path.now c.args.verdict.now
    c.mark_used.new.tables) (sym (sym c.is_settled.ensures ∙ c.if-not-is_settled.false))
    c.mark_used.ensures.marks
