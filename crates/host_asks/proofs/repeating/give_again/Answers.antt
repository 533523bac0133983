use Rattle.std.proofs.Common.{ap, get_or, sym, ◌∙◌}
use Rattle.std.proofs.lemmas.List.Sums.{fold_more}
use Rattle.host_leaves.specs.Sending.{sending_give}
use Rattle.host_asks.proofs.repeating.give_again.Goals as goal

pub loop-fileset-preserved : goal.loop-fileset-preserved
loop-fileset-preserved c =
    c.in_ok-send_give.ensures
    ∙ ap (λ draft. sending_give c.args.tables.now draft (get_or c.args.filesets.now c.loop-fileset.fileset-index
    (record { 0 = 0 })))
    c.loop-fileset.invariant
    ∙ sym (fold_more (sending_give c.args.tables.now) c.args.draft.now c.args.filesets.now
    c.loop-fileset.fileset-index (record { 0 = 0 })
    c.loop-fileset-test.true)
