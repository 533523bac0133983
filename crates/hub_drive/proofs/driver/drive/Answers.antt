use Rattle.std.proofs.Common.{◌∙◌, List, sym, length, ap}
use Rattle.hub_board.specs.Hubs.{nodes_of}
use Rattle.hub_turns.specs.Meetings.{first_pass}
use Rattle.hub_turns.specs.Views.{NodeView}
use Rattle.hub_drive.specs.Driving.{IsHubOf, beginning}
use Rattle.hub_drive.proofs.Driving.{all_seated, first_stood, nodes_are, none_held}
use Rattle.hub_drive.proofs.Lists.{map_size}
use Rattle.hub_drive.proofs.driver.drive.Goals as goal

pub seat_all-seats-requires-clause-many : goal.seat_all-seats-requires-clause-many
seat_all-seats-requires-clause-many g c =
    let ns = nodes_of c.args.script.now in
    ap (λ (l : List NodeView). length l) c.in-Ok-new.ensures.passes
    ∙ map_size (first_pass c.in-Ok-new.hub.id) ns
    ∙ sym c.requires.nodes.count

pub run_at-requires-clause-are : goal.run_at-requires-clause-are
run_at-requires-clause-are g c κs w =
    let hub_is : IsHubOf c.args.script.now c.in-Ok-new.hub = record {
      first = c.in-Ok-new.ensures.hub;
      nodes = c.in-Ok-new.ensures.nodes;
      roster = c.in-Ok-new.ensures.roster;
    } in
    nodes_are g.N.Node.stands (beginning c.args.script.now c.args.start c.args.epochs) c.in-Ok-new.hub hub_is
    c.seat_all-seats.result.items c.args.nodes.items c.in-Ok-new.passes.items c.requires.nodes
    c.seat_all-seats.ensures.nodes c.seat_all-seats.ensures.passes c.in-Ok-new.ensures.passes
    c.seat_all-seats.ensures.fresh

pub run_at-requires-clause-seated : goal.run_at-requires-clause-seated
run_at-requires-clause-seated g c κs w =
    let hub_is : IsHubOf c.args.script.now c.in-Ok-new.hub = record {
      first = c.in-Ok-new.ensures.hub;
      nodes = c.in-Ok-new.ensures.nodes;
      roster = c.in-Ok-new.ensures.roster;
    } in
    all_seated g.N.Node.stands (beginning c.args.script.now c.args.start c.args.epochs) c.in-Ok-new.hub hub_is
    c.seat_all-seats.result.items c.args.nodes.items c.in-Ok-new.passes.items c.requires.nodes
    c.seat_all-seats.ensures.nodes c.seat_all-seats.ensures.passes c.in-Ok-new.ensures.passes
    c.seat_all-seats.ensures.fresh

pub run_at-requires-clause-well : goal.run_at-requires-clause-well
run_at-requires-clause-well g c κs w = λ i d lt. (c.seat_all-seats.ensures.fresh i d lt).1

pub run_at-requires-clause-stood : goal.run_at-requires-clause-stood
run_at-requires-clause-stood g c κs w =
    let run = beginning c.args.script.now c.args.start c.args.epochs in
    let hub_is : IsHubOf c.args.script.now c.in-Ok-new.hub = record {
      first = c.in-Ok-new.ensures.hub;
      nodes = c.in-Ok-new.ensures.nodes;
      roster = c.in-Ok-new.ensures.roster;
    } in
    let met = g.met.N.Node g.world.𝓛 g.world.𝓜 g.world.𝓡 ((λ s x. x), (λ x. x), (λ x. x), (λ x. x)) in
    first_stood g.N.Node.stands g.N.Node.stays g.N.Node.failed g.N.Node.broken met.stays_so c.in-Ok-new.hub run
    c.seat_all-seats.result.items
    (all_seated g.N.Node.stands run c.in-Ok-new.hub hub_is
    c.seat_all-seats.result.items c.args.nodes.items c.in-Ok-new.passes.items c.requires.nodes
    c.seat_all-seats.ensures.nodes c.seat_all-seats.ensures.passes c.in-Ok-new.ensures.passes
    c.seat_all-seats.ensures.fresh)
    c.seat_all-seats.ensures.fresh

pub returns-in_default-clause-held : goal.returns-in_default-clause-held
returns-in_default-clause-held g c =
    let met = g.met.N.Node g.world.𝓛 g.world.𝓜 g.world.𝓡 ((λ s x. x), (λ x. x), (λ x. x), (λ x. x)) in
    none_held g.N.Node.tells g.N.Node.stands g.N.Node.stays g.N.Node.failed g.N.Node.broken met.stays_so
    c.args.script.now c.args.start
    c.args.epochs c.requires.can c.args.nodes.items c.requires.nodes

pub returns-in_default-new-clause-held : goal.returns-in_default-new-clause-held
returns-in_default-new-clause-held g c =
    let met = g.met.N.Node g.world.𝓛 g.world.𝓜 g.world.𝓡 ((λ s x. x), (λ x. x), (λ x. x), (λ x. x)) in
    none_held g.N.Node.tells g.N.Node.stands g.N.Node.stays g.N.Node.failed g.N.Node.broken met.stays_so
    c.args.script.now c.args.start
    c.args.epochs c.requires.can c.args.nodes.items c.requires.nodes
