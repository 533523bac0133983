use Rattle.std.proofs.Common.{rules}
use Rattle.disk_image.specs.Counts.{is_count_page}
use Rattle.disk_judge.specs.Metadata.{over}
use Rattle.disk_judge.proofs.Pushed.{pushed_test}
use Rattle.disk_judge.proofs.judged.counts_judged.Goals as goal

pub loop-p-preserved : goal.loop-p-preserved
loop-p-preserved c =
    let inv = c.loop-p.invariant in
    record {
      size = search rules;
      each = λ image are. pushed_test (is_count_page (over c.args.metadata.now image)) _ _ _ c.loop-p.p inv.size (inv.each image are) (c.is_count_page.ensures image are) c.in_ok-push.ensures.items;
    }
