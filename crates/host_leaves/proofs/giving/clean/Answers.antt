use Rattle.std.proofs.Common.{◌∙◌}
use Rattle.base_types.specs.Ids.{same_fid}
use Rattle.base_types.specs.Spans.{has_byte}
use Rattle.base_types.specs.declared.span.Span.{Span}
use Rattle.host_dirty.specs.Dirtiness.{is_dirty}
use Rattle.host_leaves.proofs.Steps.{cut_where}
use Rattle.host_leaves.proofs.giving.clean.Goals as goal

pub loop-span-preserved : goal.loop-span-preserved
loop-span-preserved c =
    record {
      bytes = λ other at.
          cut_where c.args.spans.now c.loop-span.span-index c.span-item.result c.loop-span-test.true c.span-item.is (λ
          (span : Span). has_byte span at) (same_fid c.args.fid other)
          (is_dirty c.args.dirty.now other at) (is_dirty c.loop-span.dirty other at)
          (is_dirty c.cut.new.self other at) (c.loop-span.invariant.bytes other at)
          (c.in_ok-cut.ensures.after.positions other at);
      lengths = λ other. c.in_ok-cut.ensures.after.lengths other ∙ c.loop-span.invariant.lengths other;
    }
