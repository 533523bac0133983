use Rattle.hub_drive.specs.Seats.{HasGone}
use Rattle.hub_drive.proofs.Gone.{gone_on}
use Rattle.hub_drive.proofs.Lists.{pairs_then}
use Rattle.hub_drive.proofs.rounds.work.Goals as goal

pub returns-then-went-clause-gone : goal.returns-then-went-clause-gone
returns-then-went-clause-gone g c =
    pairs_then (HasGone {N = g.row.N.Denot} g.N.Node.stands g.N.Node.stays g.N.Node.failed g.N.Node.broken
    c.args.hub.now)
    (gone_on g.N.Node.stands g.N.Node.stays g.N.Node.failed g.N.Node.broken c.args.hub.now g.met.N.Node.stays_so
    g.met.N.Node.stays_on
    g.met.N.Node.fails_on)
    c.args.seats.now c.loop.seats c.turn_all-went.new.seats c.loop.invariant.gone c.turn_all-went.ensures.gone

pub returns-then-not-wait-clause-gone : goal.returns-then-not-wait-clause-gone
returns-then-not-wait-clause-gone g c =
    pairs_then (HasGone {N = g.row.N.Denot} g.N.Node.stands g.N.Node.stays g.N.Node.failed g.N.Node.broken
    c.args.hub.now)
    (gone_on g.N.Node.stands g.N.Node.stays g.N.Node.failed g.N.Node.broken c.args.hub.now g.met.N.Node.stays_so
    g.met.N.Node.stays_on
    g.met.N.Node.fails_on)
    c.args.seats.now c.loop.seats c.turn_all-went.new.seats c.loop.invariant.gone c.turn_all-went.ensures.gone

pub loop-preserved-then-went-2 : goal.loop-preserved-then-went-2
loop-preserved-then-went-2 g c = record {
  kept = c.turn_all-went.ensures.kept;
  gone = pairs_then (HasGone {N = g.row.N.Denot} g.N.Node.stands g.N.Node.stays g.N.Node.failed g.N.Node.broken
      c.args.hub.now)
      (gone_on g.N.Node.stands g.N.Node.stays g.N.Node.failed g.N.Node.broken c.args.hub.now g.met.N.Node.stays_so
      g.met.N.Node.stays_on g.met.N.Node.fails_on)
      c.args.seats.now c.loop.seats c.turn_all-went.new.seats c.loop.invariant.gone c.turn_all-went.ensures.gone;
}

pub loop-preserved : goal.loop-preserved
loop-preserved g c = record {
  kept = c.turn_all-went.ensures.kept;
  gone = pairs_then (HasGone {N = g.row.N.Denot} g.N.Node.stands g.N.Node.stays g.N.Node.failed g.N.Node.broken
      c.args.hub.now)
      (gone_on g.N.Node.stands g.N.Node.stays g.N.Node.failed g.N.Node.broken c.args.hub.now g.met.N.Node.stays_so
      g.met.N.Node.stays_on g.met.N.Node.fails_on)
      c.args.seats.now c.loop.seats c.turn_all-went.new.seats c.loop.invariant.gone c.turn_all-went.ensures.gone;
}
