use Rattle.hub_drive.specs.Seats.{HasGone}
use Rattle.hub_drive.proofs.Driving.{all_in}
use Rattle.hub_drive.proofs.Gone.{each_here, gone_on}
use Rattle.hub_drive.proofs.Lists.{pairs_then}
use Rattle.hub_drive.proofs.rounds.turn_until.Goals as goal

pub returns-then-went-clause-through : goal.returns-then-went-clause-through
returns-then-went-clause-through g c = λ run at.
    c.turn_once-went.ensures.through run
    (all_in g.N.Node.stands g.N.Node.stays g.N.Node.failed g.N.Node.broken c.args.hub.now run c.args.seats.now.items
    c.loop.seats.items
    c.loop.invariant.gone at)

pub returns-then-went-clause-rests : goal.returns-then-went-clause-rests
returns-then-went-clause-rests g c = λ run at.
    c.turn_once-went.ensures.rests run
    (all_in g.N.Node.stands g.N.Node.stays g.N.Node.failed g.N.Node.broken c.args.hub.now run c.args.seats.now.items
    c.loop.seats.items
    c.loop.invariant.gone at)

pub returns-then-went-clause-gone : goal.returns-then-went-clause-gone
returns-then-went-clause-gone g c =
    let met = g.met.N.Node g.world.𝓛 g.world.𝓜 g.world.𝓡 ((λ s x. x), (λ x. x), (λ x. x), (λ x. x)) in
    pairs_then (HasGone {N = g.row.N.Denot} g.N.Node.stands g.N.Node.stays g.N.Node.failed g.N.Node.broken
    c.args.hub.now)
    (gone_on g.N.Node.stands g.N.Node.stays g.N.Node.failed g.N.Node.broken c.args.hub.now met.stays_so met.stays_on
    met.fails_on)
    c.args.seats.now.items c.loop.seats.items c.turn_once-went.new.seats.items c.loop.invariant.gone
    c.turn_once-went.ensures.gone

pub loop-preserved : goal.loop-preserved
loop-preserved g c =
    let met = g.met.N.Node g.world.𝓛 g.world.𝓜 g.world.𝓡 ((λ s x. x), (λ x. x), (λ x. x), (λ x. x)) in
    record {
      kept = each_here g.N.Node.stands g.N.Node.stays g.N.Node.failed g.N.Node.broken c.args.hub.now c.loop.seats.items
          c.turn_once-went.new.seats.items c.loop.invariant.kept c.turn_once-went.ensures.gone;
      gone = pairs_then (HasGone {N = g.row.N.Denot} g.N.Node.stands g.N.Node.stays g.N.Node.failed g.N.Node.broken
          c.args.hub.now)
          (gone_on g.N.Node.stands g.N.Node.stays g.N.Node.failed g.N.Node.broken c.args.hub.now met.stays_so
          met.stays_on met.fails_on)
          c.args.seats.now.items c.loop.seats.items c.turn_once-went.new.seats.items c.loop.invariant.gone
          c.turn_once-went.ensures.gone;
    }
