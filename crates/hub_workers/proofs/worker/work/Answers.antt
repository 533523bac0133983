use Rattle.std.proofs.Common.{◌≡◌, ◌+◌, [], ◌∷◌, ◌++◌, ap, ◌∙◌, sym, subst, append_assoc, add-one, refl}
use Rattle.std.specs.Bool.{MatchBool}
use Rattle.hub_cell.specs.Lists.{entries}
use Rattle.hub_cell.proofs.Uses.{turn_makes, turn_stays}
use Rattle.hub_workers.specs.declared.log.Entry.{Entry}
use Rattle.hub_workers.specs.Rows.{Adds, rows}
use Rattle.hub_workers.proofs.worker.work.Goals as goal

pub loop-number-preserved : goal.loop-number-preserved
loop-number-preserved g c =
    let t = c.turn.ensures in
    let i = c.loop-number.invariant in
    let entry : Entry = record { worker = c.args.job.worker; number = c.loop-number.number } in
    let grown = subst (λ b. MatchBool b (t.after ≡ t.before ++ entry ∷ []) (t.after ≡ t.before)) c.if-not-add.false
    t.done in
    let stays = turn_stays (λ l. l) _ Adds _ _ _ _ t in
    let old = entries c.args.job.pass.made in
    let before = rows c.args.job.worker c.loop-number.number in
    let more : rows c.args.job.worker (c.loop-number.number + 1) ≡ before ++ entry ∷ [] = rw add-one refl in (
      stays.0 ∙ i.0,
      stays.1 ∙ i.1,
      turn_makes (λ l. l) _ Adds _ _ _ _ t (entry ∷ []) grown ∙ ap (λ l. l ++ entry ∷ []) i.2 ∙ append_assoc old before
          (entry ∷ []) ∙ ap (λ l. old ++ l) (sym more),
    )
