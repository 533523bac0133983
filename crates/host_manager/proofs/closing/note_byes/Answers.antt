use Rattle.std.proofs.Common.{◌<◌, length, ap, ◌∙◌, arith}
use Rattle.std.specs.Prelude.{slice_set}
use Rattle.std.proofs.lemmas.List.Edits.{map_over_more}
use Rattle.host_manager.specs.Closing.{has_parted_from}
use Rattle.host_manager.proofs.closing.note_byes.Goals as goal

pub loop-index-preserved : goal.loop-index-preserved
loop-index-preserved c =
    let low : c.loop-index.index < length c.args.sites.now = omega arith in
    c.put.ensures ∙ ap (slice_set c.loop-index.sites c.loop-index.index) c.has_parted_from-site.ensures
    ∙ map_over_more has_parted_from c.args.sites.now c.loop-index.sites c.loop-index.index
    c.get.result.now low c.loop-index.invariant c.get.ensures
