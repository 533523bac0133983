use Rattle.std.proofs.Common.{ap, ◌∙◌}
use Rattle.std.proofs.lemmas.List.Sums.{fold_more}
use Rattle.host_leaves.specs.Sending.{sending_give}
use Rattle.std.proofs.Common.{get_or, sym}
use Rattle.host_leaves.proofs.revoking.send_given.Goals as goal

pub loop-fileset-preserved : goal.loop-fileset-preserved
loop-fileset-preserved c =
    let m = c.args.tables.now in
    c.in_ok-send_give.ensures
    ∙ ap (λ draft. sending_give m draft (get_or c.args.filesets.now c.loop-fileset.fileset-index (record { 0 = 0 })))
    c.loop-fileset.invariant
    ∙ sym (fold_more (sending_give m) c.args.draft.now c.args.filesets.now c.loop-fileset.fileset-index (record {
      0 =
          0;
    })
    c.loop-fileset-test.true)
