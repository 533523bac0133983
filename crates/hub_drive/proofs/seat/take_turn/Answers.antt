use Rattle.std.proofs.Common.{◌≡◌, Ok, ap, refl, subst, sym, ◌∙◌, ◌∷◌}
use Rattle.hub_board.specs.Pendings.{Waiting}
use Rattle.hub_board.specs.declared.given.Turned.TheVariants.{Ended as HasEnded}
use Rattle.hub_laws.specs.Keeping.{Round}
use Rattle.hub_node.specs.Nodes.{part_of}
use Rattle.hub_drive.specs.Seats.{HasStood}
use Rattle.hub_drive.specs.declared.seat.Seat.{Seat}
use Rattle.hub_drive.proofs.Turning.{at_ok, came_by, given_to, if_at, if_both, is_idle, on_ok, rests_on, seated_on}
use Rattle.hub_drive.proofs.Turning.{sends_sound, stood_on, stood_still, through_on}
use Rattle.hub_drive.proofs.seat.take_turn.Goals as goal

pub turn-requires-clause-sound : goal.turn-requires-clause-sound
turn-requires-clause-sound g c =
    sends_sound g.N.Node.tells g.N.Node.stands g.met.N.Node.hands_in c.args.hub.now c.args.seat.now c.requires.0
    c.requires.1

pub work-requires-clause-stands : goal.work-requires-clause-stands
work-requires-clause-stands g c =
    let seated = c.requires.1 in
    let given = given_to g.N.Node.tells g.N.Node.stands g.met.N.Node.hands_in c.args.hub.now c.args.seat.now
    c.requires.0 seated c.turn.new.pass c.in-Ok.given c.in-Ok.ensures.ok c.in-Ok.ensures.sound in (
      part_of c.requires.0 c.args.seat.now.pass.node,
      (seated.rounds, (c.args.seat.now.steps.steps, (seated.stood, given))),
    )

pub returns-clause-kept : goal.returns-clause-kept
returns-clause-kept g c = λ run seated.
    let new : Seat g.row.N.Denot = record {
      node = c.work.new.self;
      pass = c.turn.new.pass;
      steps = c.work.new.steps;
      fault = c.args.seat.now.fault;
      ended = c.args.seat.now.ended;
    } in
    let given = given_to g.N.Node.tells g.N.Node.stands g.met.N.Node.hands_in c.args.hub.now c.args.seat.now run seated
    c.turn.new.pass c.in-Ok.given c.in-Ok.ensures.ok c.in-Ok.ensures.sound in
    on_ok c.work.result _ _
    (seated_on g.N.Node.tells g.N.Node.stands g.met.N.Node.hands_in c.args.hub.now c.args.seat.now run seated
    c.turn.new.pass c.in-Ok.given c.in-Ok.ensures.ok c.in-Ok.ensures.sound new refl)
    (c.work.ensures.works (part_of run c.args.seat.now.pass.node) seated.rounds c.args.seat.now.steps.steps seated.stood
    given)

pub returns-clause-through : goal.returns-clause-through
returns-clause-through g c = λ run seated e well.
    let new : Seat g.row.N.Denot = record {
      node = c.work.new.self;
      pass = c.turn.new.pass;
      steps = c.work.new.steps;
      fault = c.args.seat.now.fault;
      ended = c.args.seat.now.ended;
    } in
    let part = part_of run c.args.seat.now.pass.node in
    let given = given_to g.N.Node.tells g.N.Node.stands g.met.N.Node.hands_in c.args.hub.now c.args.seat.now run seated
    c.turn.new.pass c.in-Ok.given c.in-Ok.ensures.ok c.in-Ok.ensures.sound in
    through_on g.N.Node.tells g.N.Node.stands g.met.N.Node.hands_in c.args.hub.now c.args.seat.now run seated
    c.turn.new.pass c.in-Ok.given c.in-Ok.ensures.ok c.in-Ok.ensures.sound new refl
    (at_ok c.work.result _ _ e
    (c.work.ensures.works part seated.rounds c.args.seat.now.steps.steps seated.stood given))
    well (if_at c.work.result HasEnded _ e c.work.ensures.quiet (λ clash. absurd (cc))).1
    (c.work.ensures.done part seated.rounds c.args.seat.now.steps.steps seated.stood given e)

pub returns-clause-rests : goal.returns-clause-rests
returns-clause-rests g c = λ run ended seated handed.
    let new : Seat g.row.N.Denot = record {
      node = c.work.new.self;
      pass = c.turn.new.pass;
      steps = c.work.new.steps;
      fault = c.args.seat.now.fault;
      ended = ended;
    } in
    let part = part_of run c.args.seat.now.pass.node in
    let given = given_to g.N.Node.tells g.N.Node.stands g.met.N.Node.hands_in c.args.hub.now c.args.seat.now run seated
    c.turn.new.pass c.in-Ok.given c.in-Ok.ensures.ok c.in-Ok.ensures.sound in
    if_both c.work.result _ _ _
    (λ turned is stood quiet idle goes well.
    let none = quiet idle in
    rests_on g.N.Node.tells g.N.Node.stands g.met.N.Node.hands_in c.args.hub.now c.args.seat.now run seated
    c.turn.new.pass c.in-Ok.given c.in-Ok.ensures.ok c.in-Ok.ensures.sound new refl stood well handed none.0 none.1
    (λ e. c.work.ensures.undone part seated.rounds c.args.seat.now.steps.steps seated.stood given
    (is ∙ ap (λ x. Ok x) (is_idle turned idle (goes e)))))
    (c.work.ensures.works part seated.rounds c.args.seat.now.steps.steps seated.stood given)
    c.work.ensures.quiet

pub returns-clause-node : goal.returns-clause-node
returns-clause-node g c = c.in-Ok.ensures.same.0

pub returns-clause-held : goal.returns-clause-held
returns-clause-held g c = λ run seated stood.
    let given = given_to g.N.Node.tells g.N.Node.stands g.met.N.Node.hands_in c.args.hub.now c.args.seat.now run seated
    c.turn.new.pass c.in-Ok.given c.in-Ok.ensures.ok c.in-Ok.ensures.sound in
    let round : Round = record { steps = c.args.seat.now.steps.steps; given = c.in-Ok.given } in
    stood_on g.N.Node.tells g.N.Node.stands g.met.N.Node.hands_in c.args.hub.now c.args.seat.now run seated
    c.turn.new.pass c.in-Ok.given c.in-Ok.ensures.ok c.in-Ok.ensures.sound g.N.Node.stays g.N.Node.failed
    g.N.Node.broken
    c.work.new.self c.work.new.steps.steps
    (came_by g.N.Node.stands g.N.Node.stays g.N.Node.failed g.N.Node.broken (part_of run c.args.seat.now.pass.node)
    (round ∷ seated.rounds) c.work.new.steps.steps c.args.seat.now.node c.work.new.self c.work.result
    (c.work.ensures.works (part_of run c.args.seat.now.pass.node) seated.rounds c.args.seat.now.steps.steps seated.stood
    given)
    c.work.ensures.stays c.work.ensures.failed
    (c.work.ensures.broken (part_of run c.args.seat.now.pass.node) seated.rounds c.args.seat.now.steps.steps
    seated.stood given))

pub returns-in_default-clause-held : goal.returns-in_default-clause-held
returns-in_default-clause-held g c = λ run seated stood.
    let kept : c.turn.new.steps.steps ≡ c.args.seat.now.steps.steps =
    ap (λ (w : Waiting). w.steps) c.in_default.ensures.kept in
    subst (HasStood g.N.Node.stands g.N.Node.stays g.N.Node.failed g.N.Node.broken run c.args.hub.now c.turn.new.pass
    c.args.seat.now.node) (sym kept)
    (stood_still g.N.Node.stands g.N.Node.stays g.N.Node.failed g.N.Node.broken run c.args.hub.now
    c.args.seat.now.pass c.turn.new.pass
    c.args.seat.now.node c.args.seat.now.steps.steps stood c.in_default.ensures.err)
