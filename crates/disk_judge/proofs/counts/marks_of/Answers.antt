use Rattle.std.proofs.Common.{get_or, List, ℕ, ◌++◌, ◌∷◌, [], take, sym, subst, arith, false}
use Rattle.std.proofs.lemmas.List.{take_more}
use Rattle.disk_image.specs.declared.found.Use.{Use}
use Rattle.disk_judge.specs.Marks.{AreMarks}
use Rattle.disk_judge.proofs.counts.marks_of.Goals as goal

pub loop-one-preserved : goal.loop-one-preserved
loop-one-preserved c =
    let size = c.loop-one.invariant.size in
    let none : Use = record { pointer = 0; slot = 0; is_map = false; is_counted = false } in
    subst (λ (l : List Use). AreMarks l c.args.blocks c.note.new.marks.items) (sym (take_more c.args.uses.now c.loop-one.one-index none (omega arith)))
    (subst (λ (n : ℕ). AreMarks (take c.loop-one.one-index c.args.uses.now ++ get_or c.args.uses.now c.loop-one.one-index none ∷ []) n c.note.new.marks.items) size
    (c.note.ensures (take c.loop-one.one-index c.args.uses.now) (subst (λ (n : ℕ). AreMarks (take c.loop-one.one-index c.args.uses.now) n c.loop-one.marks.items) (sym size) c.loop-one.invariant)))
