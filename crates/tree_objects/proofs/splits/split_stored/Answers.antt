use Rattle.std.proofs.Common.{not}
use Rattle.tree_objects.specs.Stores.{is_stored}
use Rattle.tree_objects.specs.Stretches.{is_stretch}
use Rattle.tree_objects.proofs.Owned.{each_item, passing_next}
use Rattle.tree_objects.proofs.splits.split_stored.Goals as goal

pub split_one-requires : goal.split_one-requires
split_one-requires c = record {
  near = c.loop-stretch.invariant.near;
  stretch = each_item is_stretch c.args.stretches.now c.loop-stretch.stretch-index c.stretch-item.result
      c.requires c.loop-stretch-test.true c.stretch-item.is;
}

pub loop-stretch-preserved : goal.loop-stretch-preserved
loop-stretch-preserved c = record {
  stored = passing_next (is_stored c.args.host c.args.spans.now c.args.end) c.args.stretches.now
      c.loop-stretch.stretch-index c.stretch-item.result _ _ _ c.loop-stretch-test.true c.stretch-item.is
      c.in_ok-near.ensures.stored c.loop-stretch.invariant.stored;
  left = passing_next (λ byte. not (is_stored c.args.host c.args.spans.now c.args.end byte)) c.args.stretches.now
      c.loop-stretch.stretch-index c.stretch-item.result _ _ _ c.loop-stretch-test.true c.stretch-item.is
      c.in_ok-near.ensures.left c.loop-stretch.invariant.left;
  each = c.in_ok-near.ensures.each c.loop-stretch.invariant.each;
  near = c.in_ok-near.ensures.near;
}
