use Rattle.std.proofs.Common.{◌≡◌, ◌<◌, ◌≤◌, length, get_or, arith, ap}
use Rattle.service_plain.proofs.Steps.{follow_next, follow_all}
use Rattle.service_plain.proofs.play.Play.follow.Goals as goal

pub loop-place-preserved : goal.loop-place-preserved
loop-place-preserved c =
    let i = c.loop-place.place-index in
    let same : length c.as_slice-place-items.result.now ≡ length c.args.places.now = ap length c.as_slice-place-items.ensures in
    let w : i < length c.args.places.now = omega arith in
    record {
      goes = follow_next c.args.lines.now c.args.places.now i (get_or c.as_slice-place-items.result.now i 0) _ _ _ w (ap (λ l. get_or l i 0) c.as_slice-place-items.ensures) c.loop-place.invariant.goes c.in_ok-go_at.ensures.goes;
      fit = c.in_ok-go_at.ensures.fit;
    }

pub returns : goal.returns
returns c =
    let same : length c.as_slice-place-items.result.now ≡ length c.args.places.now = ap length c.as_slice-place-items.ensures in
    let w : length c.args.places.now ≤ c.loop-place.place-index = omega arith in
    follow_all c.args.lines.now c.args.places.now c.loop-place.place-index _ _ w c.loop-place.invariant.goes
