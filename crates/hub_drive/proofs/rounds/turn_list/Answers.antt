use Rattle.std.proofs.Common.{◌≡◌, ◌++◌, ◌∙◌, ap, subst, sym, length, take, drop, arith}
use Rattle.hub_drive.specs.Seats.{EachAt, IsAtRest, IsIn, IsThrough}
use Rattle.hub_drive.proofs.Lists.{back_again}
use Rattle.hub_drive.proofs.rounds.turn_list.Goals as goal

pub returns-clause-rests : goal.returns-clause-rests
returns-clause-rests g c = λ run at idle whole.
    let news = c.turn_all.new.seats in
    let rest = drop (length news) c.args.seats.now.items in
    let size : c.args.seats.now.len ≡ length news = grind arith in
    subst (EachAt (IsAtRest {N = g.row.N.Denot} g.N.Node.stands run c.args.hub.now g.N.Node.tells))
    (sym (ap (λ n. take n (news ++ rest)) size ∙ back_again news rest)) (c.turn_all.ensures.rests run
    (subst (EachAt (IsIn {N = g.row.N.Denot} g.N.Node.stands run c.args.hub.now)) (sym c.as_mut_slice.ensures.value) at)
    idle whole)

pub returns-clause-through : goal.returns-clause-through
returns-clause-through g c = λ run at t.
    let news = c.turn_all.new.seats in
    let rest = drop (length news) c.args.seats.now.items in
    let size : c.args.seats.now.len ≡ length news = grind arith in
    subst (EachAt (IsThrough {N = g.row.N.Denot} g.N.Node.stands run c.args.hub.now g.N.Node.tells))
    (sym (ap (λ n. take n (news ++ rest)) size ∙ back_again news rest)) (c.turn_all.ensures.through run
    (subst (EachAt (IsIn {N = g.row.N.Denot} g.N.Node.stands run c.args.hub.now))
    (sym c.as_mut_slice.ensures.value) at) t)
