use Rattle.std.proofs.Common.{arith, inl, inr, refl, ◌≡◌, ◌+◌}
use Rattle.host_calls.proofs.Starting.{starts_in}
use Rattle.host_calls.specs.declared.looking.Start.TheVariants.{Walks}
use Rattle.host_tells.proofs.Speaking.{counted_so, not_entered, tells_told, told_fresh, told_there}
use Rattle.host_tells.proofs.at_once.answer_into.Goals as goal

pub returns-in_err-place : goal.returns-in_err-place
returns-in_err-place c =
    rw c.from_residual.ensures (λ uses sized. (refl, inl (tells_told c.args.call.now c.in_err-place.ensures)))

pub returns-in_err-begun : goal.returns-in_err-begun
returns-in_err-begun c =
    rw c.from_residual-in_err-begun.ensures (λ uses sized. (refl, inr (inr (inr (omega arith)))))

pub answer_counted-requires : goal.answer_counted-requires
answer_counted-requires c =
    told_fresh c.args.tables.now c.args.call.now c.in_ok-place.place.now c.in_ok-place.ensures

pub returns-in-Walks : goal.returns-in-Walks
returns-in-Walks c uses sized =
    let m = c.args.tables.now in
    let place = c.in_ok-place.place.now in
    let told = c.in_ok-place.ensures in
    let begun_is : c.in_ok-begun.begun ≡ m.begun + 1 = omega arith in
    let walks = starts_in m c.args.call.now place (told_there m c.args.call.now place told) (Walks c.in-Walks.root
    c.in-Walks.path)
    c.in-Walks.ensures in
    counted_so m c.args.call.now place told uses sized c.in-Walks.root c.in-Walks.path.now walks c.in_ok-begun.begun
    begun_is
    c.args.out.now c.answer_counted.new.out c.answer_counted.new.tables c.answer_counted.result c.answer_counted.ensures

pub returns-in-Ends : goal.returns-in-Ends
returns-in-Ends c uses sized = (
  refl,
  inr (inl (not_entered c.args.tables.now c.args.call.now c.in_ok-place.place.now c.in_ok-place.ensures uses sized
      c.in-Ends.ensures.0)),
)
