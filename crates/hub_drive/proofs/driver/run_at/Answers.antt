use Rattle.std.proofs.Common.{◌∙◌, map, sym, subst}
use Rattle.hub_drive.specs.Driving.{IsFault, ShowsFault, beginning}
use Rattle.hub_drive.specs.Seats.{PairsAt}
use Rattle.hub_node.specs.Nodes.{HasBecome}
use Rattle.hub_drive.proofs.Driving.{all_here, all_stood, became_of, failed_of, fault_or_free, free_of, if_err}
use Rattle.hub_drive.proofs.Driving.{is_memory, node_of, nodes_on, none_some, ok_never, on_any, on_never, stayed_of}
use Rattle.hub_drive.proofs.driver.run_at.Goals as goal

pub turn_until-went-requires-clause-here : goal.turn_until-went-requires-clause-here
turn_until-went-requires-clause-here g c κs within =
    all_here g.N.Node.stands c.args.hub (beginning c.args.script.now c.args.start c.args.epochs) c.args.seats.items
    c.requires.seated

pub finish-requires-clause-are : goal.finish-requires-clause-are
finish-requires-clause-are g c =
    nodes_on g.N.Node.stands g.N.Node.stays g.N.Node.failed g.N.Node.broken g.N.Node.next c.args.hub c.args.seats.items
    c.turn_until-went.new.seats.items c.turn_until-went.ensures.gone ∙ c.requires.are

pub finish-requires-clause-through : goal.finish-requires-clause-through
finish-requires-clause-through g c =
    c.turn_until-went.ensures.through (beginning c.args.script.now c.args.start c.args.epochs)
    (λ i d lt well. c.requires.seated i d lt) c.if-went.true

pub finish-requires-clause-stood : goal.finish-requires-clause-stood
finish-requires-clause-stood g c =
    all_stood g.N.Node.stands g.N.Node.stays g.N.Node.failed g.N.Node.broken c.args.hub
    (beginning c.args.script.now c.args.start c.args.epochs) c.args.seats.items c.turn_until-went.new.seats.items
    c.turn_until-went.ensures.gone (λ i d lt well. c.requires.seated i d lt) c.requires.stood

pub returns-then-went-clause-stayed : goal.returns-then-went-clause-stayed
returns-then-went-clause-stayed g c =
    let run = beginning c.args.script.now c.args.start c.args.epochs in
    let news = c.turn_until-went.new.seats.items in
    let through = c.turn_until-went.ensures.through run (λ i d lt well. c.requires.seated i d lt) c.if-went.true in
    on_any c.finish.result.result (subst (PairsAt g.N.Node.stays (map (node_of {N = g.row.N.Denot}) c.args.seats.items))
    (sym c.finish.ensures.nodes)
    (stayed_of g.N.Node.stands g.N.Node.stays g.N.Node.failed g.N.Node.broken g.N.Node.next c.args.hub
    c.args.seats.items news
    c.turn_until-went.ensures.gone (λ i d lt. (through i d lt).well)))

pub returns-then-went-clause-became : goal.returns-then-went-clause-became
returns-then-went-clause-became g c =
    subst (PairsAt (HasBecome g.N.Node.stays g.N.Node.failed) (map (node_of {N = g.row.N.Denot}) c.args.seats.items))
    (sym c.finish.ensures.nodes)
    (became_of g.N.Node.stands g.N.Node.stays g.N.Node.failed g.N.Node.broken g.N.Node.next c.args.hub
    c.args.seats.items
    c.turn_until-went.new.seats.items c.turn_until-went.ensures.gone c.requires.well)

pub returns-then-went-clause-failed : goal.returns-then-went-clause-failed
returns-then-went-clause-failed g c =
    if_err c.finish.result.result _ _
    (free_of g.N.Node.stands g.N.Node.stays g.N.Node.failed g.N.Node.broken g.N.Node.next c.args.hub g.N.Node.tells
    (beginning c.args.script.now c.args.start c.args.epochs) (map (node_of {N = g.row.N.Denot}) c.args.seats.items)
    c.finish.result.nodes.items)
    c.finish.ensures.failed

pub stop-requires-clause-are : goal.stop-requires-clause-are
stop-requires-clause-are g c =
    nodes_on g.N.Node.stands g.N.Node.stays g.N.Node.failed g.N.Node.broken g.N.Node.next c.args.hub c.args.seats.items
    c.turn_until-went.new.seats.items c.turn_until-went.ensures.gone ∙ c.requires.are

pub stop-requires-clause-stood : goal.stop-requires-clause-stood
stop-requires-clause-stood g c =
    all_stood g.N.Node.stands g.N.Node.stays g.N.Node.failed g.N.Node.broken c.args.hub
    (beginning c.args.script.now c.args.start c.args.epochs) c.args.seats.items c.turn_until-went.new.seats.items
    c.turn_until-went.ensures.gone (λ i d lt well. c.requires.seated i d lt) c.requires.stood

pub stop-requires-clause-rest : goal.stop-requires-clause-rest
stop-requires-clause-rest g c = λ w is.
    let idle = c.fault_of-fault.ensures.stuck w is in
    c.turn_until-went.ensures.rests (beginning c.args.script.now c.args.start c.args.epochs)
    (λ i d lt well. c.requires.seated i d lt) idle.0 idle.1

pub returns-then-went-clause-so_far : goal.returns-then-went-clause-so_far
returns-then-went-clause-so_far g c = none_some c.finish.result.so_far _ c.finish.ensures.none

pub returns-then-went-clause-left : goal.returns-then-went-clause-left
returns-then-went-clause-left g c = none_some c.finish.result.so_far _ c.finish.ensures.none

pub returns-then-went-clause-lacks : goal.returns-then-went-clause-lacks
returns-then-went-clause-lacks g c =
    if_err c.finish.result.result _ _ (λ fault free none. is_memory fault free) c.finish.ensures.failed

pub returns-then-went-clause-stuck : goal.returns-then-went-clause-stuck
returns-then-went-clause-stuck g c = λ w is. none_some c.finish.result.so_far _ c.finish.ensures.none

pub returns-clause-stayed : goal.returns-clause-stayed
returns-clause-stayed g c = on_never c.stop.result.result _ c.stop.ensures.stopped

pub returns-clause-driven : goal.returns-clause-driven
returns-clause-driven g c = ok_never c.stop.result.result _ c.stop.ensures.stopped

pub returns-clause-became : goal.returns-clause-became
returns-clause-became g c =
    subst (PairsAt (HasBecome g.N.Node.stays g.N.Node.failed) (map (node_of {N = g.row.N.Denot}) c.args.seats.items))
    (sym c.stop.ensures.nodes)
    (became_of g.N.Node.stands g.N.Node.stays g.N.Node.failed g.N.Node.broken g.N.Node.next c.args.hub
    c.args.seats.items
    c.turn_until-went.new.seats.items c.turn_until-went.ensures.gone c.requires.well)

pub returns-clause-failed : goal.returns-clause-failed
returns-clause-failed g c =
    let stands = g.N.Node.stands in
    let stays = g.N.Node.stays in
    let failed = g.N.Node.failed in
    let broken = g.N.Node.broken in
    let next = g.N.Node.next in
    let run = beginning c.args.script.now c.args.start c.args.epochs in
    let news = c.turn_until-went.new.seats.items in
    let olds = map (node_of {N = g.row.N.Denot}) c.args.seats.items in
    let fault = c.fault_of-fault.result in
    let shows : ShowsFault next news fault =
    subst (λ l. ShowsFault next l fault) c.as_slice.ensures.value c.fault_of-fault.ensures.shows in
    let is_fault = subst (λ l. IsFault g.N.Node.tells stands run failed next olds l fault) (sym c.stop.ensures.nodes)
    (failed_of stands stays failed broken next c.args.hub g.N.Node.tells run c.args.seats.items news fault
    c.turn_until-went.ensures.gone
    c.requires.well
    (λ w is.
    let idle = c.fault_of-fault.ensures.stuck w is in
    c.turn_until-went.ensures.rests run (λ i d lt well. c.requires.seated i d lt) idle.0 idle.1)
    (nodes_on stands stays failed broken next c.args.hub c.args.seats.items news c.turn_until-went.ensures.gone
    ∙ c.requires.are)
    shows) in
    if_err c.stop.result.result _ _
    (fault_or_free stands stays failed broken next c.args.hub g.N.Node.tells run olds c.stop.result.nodes.items fault
    is_fault)
    c.stop.ensures.fault
