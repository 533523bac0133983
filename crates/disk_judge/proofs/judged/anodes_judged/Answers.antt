use Rattle.std.proofs.Common.{rules}
use Rattle.disk_image.specs.Anodes.{is_slot_anode}
use Rattle.disk_judge.specs.Metadata.{plain}
use Rattle.disk_judge.proofs.Pushed.{pushed_pair}
use Rattle.disk_judge.proofs.judged.anodes_judged.Goals as goal

pub loop-k-preserved : goal.loop-k-preserved
loop-k-preserved c =
    let inv = c.loop-k.invariant in
    record {
      size = search rules;
      each = pushed_pair (is_slot_anode (plain c.args.metadata.now)) _ _ _ c.loop-k.k inv.size inv.each c.is_slot_anode.ensures c.in_ok-push.ensures.items;
    }
