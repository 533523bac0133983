use Rattle.std.proofs.Common.{inl, inr, sym, ◌∙◌}
use Rattle.store_records.proofs.Arrivals.{arrived_within, they_arrive}
use Rattle.store_records.proofs.Trees.{is_not}
use Rattle.store_records.proofs.stands.may_arrive.Goals as goal
use Rattle.store_records.proofs.stands.may_arrive.Goals.{then-parts-eq1, else-parts-eq1}

pub returns-then-has_root-clause-arrive : goal.returns-then-has_root-clause-arrive
returns-then-has_root-clause-arrive c = λ all.
    they_arrive c.args.objects c.args.parts c.args.anodes.now c.if-parts-lt1.false c.if-parts-objects.false (sym c.len.ensures ∙ c.if-len-parts.false)
    (elim c.if-parts-eq1.branch [ then-parts-eq1 w ↦ inl w.if-parts-eq1.true | else-parts-eq1 w ↦ inr (sym w.has_root.ensures ∙ sym w.value-is ∙ c.if-has_root.true) ])
    (sym c.are_within.ensures ∙ all)

pub returns-then-has_root-clause-refused : goal.returns-then-has_root-clause-refused
returns-then-has_root-clause-refused c = λ not rise may.
    is_not c.are_within.result not (c.are_within.ensures ∙ arrived_within c.args.objects c.args.parts c.args.anodes.now may rise)
