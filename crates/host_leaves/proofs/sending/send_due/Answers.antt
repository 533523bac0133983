use Rattle.std.proofs.Common.{ap, arith, fold, get_or, length, subst, sym, take, ◌<◌, ◌∙◌, ◌≡◌}
use Rattle.host_leaves.specs.Sending.{sending_give}
use Rattle.host_tables.specs.declared.draft.Draft.{Draft}
use Rattle.host_leaves.proofs.Due.{due_stays}
use Rattle.host_leaves.proofs.Steps.{fold_next}
use Rattle.host_leaves.proofs.sending.send_due.Goals as goal

pub get-fileset-requires : goal.get-fileset-requires
get-fileset-requires c =
    let m = c.args.tables.now in
    let first = c.args.draft.now in
    let due = ap (λ (d : Draft). length d.due) c.loop-index.invariant
    ∙ ap length (due_stays m (take c.loop-index.index first.due) first) in
    omega (arith, due, c.len-index-end.ensures, c.loop-index-test.true)

pub loop-index-preserved : goal.loop-index-preserved
loop-index-preserved c =
    let m = c.args.tables.now in
    let first = c.args.draft.now in
    let index = c.loop-index.index in
    let fileset = c.get-fileset.result.now in
    let due = ap (λ (d : Draft). d.due) c.loop-index.invariant ∙ due_stays m (take index first.due) first in
    let low : index < length first.due = omega (arith, c.len-index-end.ensures, c.loop-index-test.true) in
    c.in_ok-send_give.ensures ∙ ap (λ d. sending_give m d fileset) c.loop-index.invariant
    ∙ fold_next first.due index fileset low (c.get-fileset.ensures ∙ ap (λ ds. get_or ds index fileset) due)
    (sending_give m) first
