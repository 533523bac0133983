use Rattle.token_ranges.proofs.Joining.{put_together}
use Rattle.std.proofs.Common.{take}
use Rattle.token_ranges.proofs.span_set.joined.Goals as goal

pub returns : goal.returns
returns c =
    rw (
      c.in_ok-extend-2.ensures.ok,
      c.in_ok-push.ensures.ok,
      c.in_ok-extend.ensures.ok,
      c.from_vec-done.ensures,
      c.in_ok-with_capacity.ensures.items,
    )
    (put_together (take c.args.joint.front c.args.spans.now) c.args.spans.now c.args.joint.merged c.args.joint.end)
