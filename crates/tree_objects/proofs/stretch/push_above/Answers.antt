use Rattle.std.proofs.Common.{nat_le}
use Rattle.tree_objects.specs.Stretches.{is_stretch}
use Rattle.tree_objects.proofs.Owned.{each_item, passing_next}
use Rattle.tree_objects.proofs.stretch.push_above.Goals as goal

pub push_rest-requires : goal.push_rest-requires
push_rest-requires c = each_item is_stretch c.args.stretches.now c.loop-stretch.stretch-index c.stretch-item.result
    c.requires c.loop-stretch-test.true c.stretch-item.is

pub loop-stretch-preserved : goal.loop-stretch-preserved
loop-stretch-preserved c = record {
  bytes = passing_next (λ byte. nat_le c.args.from byte.at) c.args.stretches.now c.loop-stretch.stretch-index
      c.stretch-item.result _ _ _ c.loop-stretch-test.true c.stretch-item.is
      c.in_ok-push_rest.ensures.bytes c.loop-stretch.invariant.bytes;
  each = λ h. c.in_ok-push_rest.ensures.each (c.loop-stretch.invariant.each h);
}
