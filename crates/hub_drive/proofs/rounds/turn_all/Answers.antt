use Rattle.std.proofs.Common.{◌≡◌, ◌≤◌, None, get_or, length, rules, arith}
use Rattle.std.proofs.Math.ListN.{set}
use Rattle.std.proofs.lemmas.Grind.{common_steps}
use Rattle.hub_drive.specs.Seats.{HasGone, IsAtRest, IsHere, IsThrough}
use Rattle.hub_drive.proofs.Driving.{all_in}
use Rattle.hub_drive.proofs.Gone.{gone_on, gone_so, here_on}
use Rattle.hub_drive.proofs.Lists.{each_set, first_more, pairs_set, pairs_then}
use Rattle.hub_drive.proofs.rounds.turn_all.Goals as goal

pub loop-k-preserved : goal.loop-k-preserved
loop-k-preserved g c =
    let stands = g.N.Node.stands in
    let stays = g.N.Node.stays in
    let failed = g.N.Node.failed in
    let broken = g.N.Node.broken in
    let hub = c.args.hub.now in
    let gone = HasGone {N = g.row.N.Denot} stands stays failed broken hub in
    let so = gone_so stands stays failed broken hub g.met.N.Node.stays_so g.met.N.Node.stays_on g.met.N.Node.fails_on in
    let on = gone_on stands stays failed broken hub g.met.N.Node.stays_so g.met.N.Node.stays_on g.met.N.Node.fails_on in
    let seats = c.loop-k.seats in
    let new = c.turn-turned.new.seat in
    let went = c.turn-turned.ensures.gone in
    record {
      kept = each_set (IsHere stands hub) seats c.loop-k.k new c.loop-k.invariant.kept
          (here_on stands stays failed broken hub (get_or seats c.loop-k.k c.index-seats-k.result) new
          (c.loop-k.invariant.kept c.loop-k.k c.index-seats-k.result (grind arith)) went);
      through = (λ run at e.
          let both = c.went_on-went.ensures.through e in
          let now = all_in stands stays failed broken hub run c.args.seats.now seats c.loop-k.invariant.gone at in
          first_more (IsThrough stands run hub g.N.Node.tells) seats c.loop-k.k new
          (c.loop-k.invariant.through run at both.0)
          (c.turn-turned.ensures.through run (now c.loop-k.k c.index-seats-k.result (grind arith)) both.1));
      rests = (λ run at idle whole.
          let worked = c.went_on-went.ensures.worked idle in
          let stopped = c.went_on-went.ensures.stopped whole in
          let well : new.fault ≡ None = first_of (search rules, grind (arith, common_steps)) in
          let now = all_in stands stays failed broken hub run c.args.seats.now seats c.loop-k.invariant.gone at in
          first_more (IsAtRest stands run hub g.N.Node.tells) seats c.loop-k.k new
          (c.loop-k.invariant.rests run at worked.0 stopped.0)
          (c.turn-turned.ensures.rests run (now c.loop-k.k c.index-seats-k.result (grind arith)) worked.1 well));
      gone = pairs_then gone on c.args.seats.now seats (set seats c.loop-k.k new) c.loop-k.invariant.gone
          (pairs_set gone so seats c.loop-k.k new c.index-seats-k.result went);
    }

pub returns-clause-through : goal.returns-clause-through
returns-clause-through g c = λ run at e i d lt.
    let all : length c.loop-k.seats ≤ c.loop-k.k = grind arith in
    c.loop-k.invariant.through run at e i d (omega (arith, lt, all)) lt

pub returns-clause-rests : goal.returns-clause-rests
returns-clause-rests g c = λ run at idle whole i d lt.
    let all : length c.loop-k.seats ≤ c.loop-k.k = grind arith in
    c.loop-k.invariant.rests run at idle whole i d (omega (arith, lt, all)) lt
