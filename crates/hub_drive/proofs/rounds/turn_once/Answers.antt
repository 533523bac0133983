use Rattle.hub_drive.specs.Seats.{HasGone}
use Rattle.hub_drive.proofs.Driving.{all_in}
use Rattle.hub_drive.proofs.Gone.{each_here, gone_on}
use Rattle.hub_drive.proofs.Lists.{pairs_then}
use Rattle.hub_drive.proofs.rounds.turn_once.Goals as goal

pub turn_list-requires-2 : goal.turn_list-requires-2
turn_list-requires-2 g c =
    record {
      here = each_here g.N.Node.stands g.N.Node.stays g.N.Node.failed g.N.Node.broken c.args.hub.now
          c.args.seats.now.items
          c.turn_by_workers.new.seats.items c.requires.here c.turn_by_workers.ensures.gone;
    }

pub returns-clause-through : goal.returns-clause-through
returns-clause-through g c = λ run at e.
    c.turn_list-2.ensures.through run
    (all_in g.N.Node.stands g.N.Node.stays g.N.Node.failed g.N.Node.broken c.args.hub.now run c.args.seats.now.items
    c.turn_by_workers.new.seats.items c.turn_by_workers.ensures.gone at)
    e

pub returns-clause-rests : goal.returns-clause-rests
returns-clause-rests g c = λ run at.
    c.turn_list-2.ensures.rests run
    (all_in g.N.Node.stands g.N.Node.stays g.N.Node.failed g.N.Node.broken c.args.hub.now run c.args.seats.now.items
    c.turn_by_workers.new.seats.items c.turn_by_workers.ensures.gone at)

pub returns-clause-gone : goal.returns-clause-gone
returns-clause-gone g c =
    let met = g.met.N.Node g.world.𝓛 g.world.𝓜 g.world.𝓡 ((λ s x. x), (λ x. x), (λ x. x), (λ x. x)) in
    pairs_then (HasGone {N = g.row.N.Denot} g.N.Node.stands g.N.Node.stays g.N.Node.failed g.N.Node.broken
    c.args.hub.now)
    (gone_on g.N.Node.stands g.N.Node.stays g.N.Node.failed g.N.Node.broken c.args.hub.now met.stays_so met.stays_on
    met.fails_on)
    c.args.seats.now.items c.turn_by_workers.new.seats.items c.turn_list-2.new.seats.items
    c.turn_by_workers.ensures.gone
    c.turn_list-2.ensures.gone
