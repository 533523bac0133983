use Rattle.std.proofs.Common.{◌≡◌, ◌*◌, ◌^◌, ◌+◌, [], sym, subst}
use Rattle.std.specs.Prelude.{Err}
use Rattle.service_moves.specs.Batches.{batch_wear}
use Rattle.service_moves.specs.Doing.{DoSteps}
use Rattle.service_moves.specs.Finishing.{mover_again}
use Rattle.service_moves.specs.Plans.{ship_steps}
use Rattle.service_moves.specs.Ships.{MaySend}
use Rattle.service_moves.specs.declared.stopped.RunStopped.TheVariants.{Memory}
use Rattle.service_moves.proofs.Doing.{steps_none, steps_stop}
use Rattle.service_moves.proofs.Stores.{all_mendable, none_fails}
use Rattle.service_moves.proofs.finishing.send_again.Goals as goal

pub returns-in-Err-clause-goes_on : goal.returns-in-Err-clause-goes_on
returns-in-Err-clause-goes_on g c =
    none_fails g.S.Store.view (66 * batch_wear) c.args.stores.now (all_mendable g.S.Store.view c.requires.may.roster (2 ^ 46 + 2 ^ 14) c.args.stores.now c.requires.may.are)

pub returns-in-Ok-clause-does : goal.returns-in-Ok-clause-does
returns-in-Ok-clause-does g c tells sender receiver holding apart one two may =
    let ship = c.args.ship.now in
    let is : c.in-Ok.mover ≡ mover_again ship = c.in-Ok.ensures in
    subst (λ m. DoSteps g.S.Store.view c.send_between-sent.result (ship_steps ship.from ship.to ship.fileset holding ship.number m) c.args.stores.now c.send_between-sent.new.stores) is
    (c.send_between-sent.ensures.does tells sender receiver holding apart one two
    (subst (λ m. MaySend (g.S.Store.view sender).state (g.S.Store.view receiver).state holding ship m) (sym is) may))

pub returns-in-Err-clause-does : goal.returns-in-Err-clause-does
returns-in-Err-clause-does g c tells sender receiver holding apart one two may =
    let ship = c.args.ship.now in
    steps_stop g.S.Store.view {T = Unit {0}} (Err Memory) Memory [] (ship_steps ship.from ship.to ship.fileset holding ship.number (mover_again ship)) c.args.stores.now c.args.stores.now
    (steps_none g.S.Store.view (Err Memory) c.args.stores.now)
