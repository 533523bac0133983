use Rattle.std.proofs.Common.{◌≡◌, ◌∙◌, sym}
use Rattle.hub_drive.specs.declared.driver.DriveFault.TheVariants.{Stuck}
use Rattle.hub_drive.proofs.Driving.{close_ready, held_by, left_by, rests_by, seats_count, stopped_by}
use Rattle.hub_drive.proofs.driver.stop.Goals as goal

pub journal_of-requires-clause-passes : goal.journal_of-requires-clause-passes
journal_of-requires-clause-passes g c =
    close_ready c.args.hub c.args.seats.items c.unseat.new.passes.items
    (λ i d lt. (c.requires.stood i d lt).hub_is) c.unseat.ensures.passes
    (seats_count c.args.script.now c.args.seats.items c.requires.are ∙ sym c.requires.hub.nodes)

pub returns-in-Ok-clause-so_far : goal.returns-in-Ok-clause-so_far
returns-in-Ok-clause-so_far g c =
    stopped_by g.N.Node.tells g.N.Node.stands g.N.Node.stays g.N.Node.failed g.N.Node.broken g.met.N.Node.hands_in
    c.args.script.now
    c.args.start c.args.epochs c.requires.can c.args.hub c.requires.hub c.args.seats.items c.requires.are
    c.requires.stood c.unseat.new.nodes.items c.unseat.new.passes.items c.unseat.ensures.nodes
    c.unseat.ensures.passes c.in-Ok.journal c.in-Ok.ensures.ok

pub returns-in-Ok-clause-left : goal.returns-in-Ok-clause-left
returns-in-Ok-clause-left g c =
    left_by g.N.Node.tells g.N.Node.stands g.N.Node.stays g.N.Node.failed g.N.Node.broken g.met.N.Node.hands_in
    c.args.script.now
    c.args.start c.args.epochs c.requires.can c.args.hub c.requires.hub c.args.seats.items c.requires.are
    c.requires.stood c.unseat.new.nodes.items c.unseat.new.passes.items c.unseat.ensures.nodes
    c.unseat.ensures.passes c.in-Ok.journal c.in-Ok.ensures.ok c.unseat.new.left.items c.unseat.ensures.left

pub returns-in-Ok-clause-stuck : goal.returns-in-Ok-clause-stuck
returns-in-Ok-clause-stuck g c = λ w e.
    let same : c.args.fault ≡ Stuck w = cc in
    rests_by g.N.Node.tells g.N.Node.stands g.N.Node.stays g.N.Node.failed g.N.Node.broken g.met.N.Node.hands_in
    c.args.script.now
    c.args.start c.args.epochs c.requires.can c.args.hub c.requires.hub c.args.seats.items c.requires.are
    c.requires.stood c.unseat.new.nodes.items c.unseat.new.passes.items c.unseat.ensures.nodes
    c.unseat.ensures.passes c.in-Ok.journal c.in-Ok.ensures.ok (c.requires.rest w same)

pub returns-in-Ok-clause-held : goal.returns-in-Ok-clause-held
returns-in-Ok-clause-held g c =
    held_by g.N.Node.tells g.N.Node.stands g.N.Node.stays g.N.Node.failed g.N.Node.broken g.met.N.Node.hands_in
    c.args.script.now
    c.args.start c.args.epochs c.requires.can c.args.hub c.requires.hub c.args.seats.items c.requires.are
    c.requires.stood c.unseat.new.nodes.items c.unseat.new.passes.items c.unseat.ensures.nodes
    c.unseat.ensures.passes c.in-Ok.ensures.ended

pub returns-in-Err-clause-held : goal.returns-in-Err-clause-held
returns-in-Err-clause-held g c =
    held_by g.N.Node.tells g.N.Node.stands g.N.Node.stays g.N.Node.failed g.N.Node.broken g.met.N.Node.hands_in
    c.args.script.now
    c.args.start c.args.epochs c.requires.can c.args.hub c.requires.hub c.args.seats.items c.requires.are
    c.requires.stood c.unseat.new.nodes.items c.unseat.new.passes.items c.unseat.ensures.nodes
    c.unseat.ensures.passes c.in-Err.ensures.ended
