use Rattle.std.proofs.Common.{nat_lt}
use Rattle.tree_objects.specs.Stretches.{is_stretch}
use Rattle.tree_objects.proofs.Owned.{each_item, passing_next}
use Rattle.tree_objects.proofs.stretch.push_below.Goals as goal

pub push_front-requires : goal.push_front-requires
push_front-requires c = each_item is_stretch c.args.stretches.now c.loop-stretch.stretch-index c.stretch-item.result
    c.requires c.loop-stretch-test.true c.stretch-item.is

pub loop-stretch-preserved : goal.loop-stretch-preserved
loop-stretch-preserved c = record {
  bytes = passing_next (λ byte. nat_lt byte.at c.args.end) c.args.stretches.now c.loop-stretch.stretch-index
      c.stretch-item.result _ _ _ c.loop-stretch-test.true c.stretch-item.is
      c.in_ok-push_front.ensures.bytes c.loop-stretch.invariant.bytes;
  each = λ h. c.in_ok-push_front.ensures.each (c.loop-stretch.invariant.each h);
}
