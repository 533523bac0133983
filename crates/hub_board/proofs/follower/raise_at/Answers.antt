use Rattle.std.proofs.Common.{◌<◌, length, map, slice_get, sym, ap, ◌∙◌, arith}
use Rattle.hub_board.specs.Follows.{mark_raised}
use Rattle.hub_board.proofs.Waits.{raises_done, raises_next, raises_same}
use Rattle.hub_board.proofs.follower.raise_at.Goals as goal

pub loop-place-preserved : goal.loop-place-preserved
loop-place-preserved c =
    let i = c.loop-place.place-index in
    let w : i < length c.args.places.now = omega arith in
    record {
      same = ap (map (mark_raised c.args.flag.now)) c.raise_mark.ensures
          ∙ raises_same c.args.flag.now c.loop-place.marks c.args.marks.now _ c.loop-place.invariant.same;
      left = λ q m got. raises_next c.args.flag.now c.loop-place.marks c.args.places.now i _ w
          c.loop-place.invariant.left q m
          (ap (λ ms. slice_get ms q) (sym c.raise_mark.ensures) ∙ got);
    }

pub returns : goal.returns
returns c =
    raises_done c.args.flag.now c.loop-place.marks c.args.marks.now c.args.places.now c.loop-place.place-index
    (omega arith)
    c.loop-place.invariant.same c.loop-place.invariant.left
