use Rattle.std.proofs.Common.{◌∙◌, sym}
use Rattle.hub_drive.proofs.Driving.{close_ready, driven_by, held_by, if_ok, on_err, seats_count}
use Rattle.hub_drive.proofs.driver.finish.Goals as goal

pub close-result-requires-clause-passes : goal.close-result-requires-clause-passes
close-result-requires-clause-passes g c =
    close_ready c.args.hub c.args.seats.items c.unseat.new.passes.items
    (λ i d lt. (c.requires.through i d lt).seated.hub_is) c.unseat.ensures.passes
    (seats_count c.args.script.now c.args.seats.items c.requires.are ∙ sym c.requires.hub.nodes)

pub returns-clause-driven : goal.returns-clause-driven
returns-clause-driven g c =
    if_ok c.close-result.result _ _
    (driven_by g.N.Node.tells g.N.Node.stands g.met.N.Node.hands_in c.args.script.now c.args.start
    c.args.epochs c.requires.can c.args.hub c.requires.hub c.args.seats.items c.requires.are c.requires.through
    c.unseat.new.nodes.items c.unseat.new.passes.items c.unseat.ensures.nodes c.unseat.ensures.passes)
    c.close-result.ensures.ok

pub returns-clause-held : goal.returns-clause-held
returns-clause-held g c =
    on_err c.close-result.result
    (held_by g.N.Node.tells g.N.Node.stands g.N.Node.stays g.N.Node.failed g.N.Node.broken g.met.N.Node.hands_in
    c.args.script.now
    c.args.start c.args.epochs c.requires.can c.args.hub c.requires.hub c.args.seats.items c.requires.are
    c.requires.stood c.unseat.new.nodes.items c.unseat.new.passes.items c.unseat.ensures.nodes
    c.unseat.ensures.passes c.close-result.ensures.ended)
