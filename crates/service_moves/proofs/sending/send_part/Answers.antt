use Rattle.std.proofs.Common.{[], ◌∷◌, subst}
use Rattle.std.specs.Prelude.{Err}
use Rattle.store_memory.proofs.Doing.{does_none, does_stop}
use Rattle.store_memory.specs.Views.{DoesActs}
use Rattle.store_acts.specs.Sound.{Fits}
use Rattle.store_memory.specs.Reading.{shipped}
use Rattle.service_moves.specs.Again.{IsRepeatable}
use Rattle.service_moves.specs.Batches.{batch_wear}
use Rattle.service_moves.specs.Ships.{part_act}
use Rattle.service_moves.proofs.Stores.{goes_still}
use Rattle.service_moves.proofs.Twice.{done_none}
use Rattle.service_moves.proofs.sending.send_part.Goals as goal

pub returns-in-Ok-clause-sender : goal.returns-in-Ok-clause-sender
returns-in-Ok-clause-sender g c tells =
    done_none _ (g.S.Store.view c.args.sender.now) (g.S.Store.view c.part_by.new.store) (c.in-Ok.ensures.state tells) (c.in-Ok.ensures.leaves tells)

pub returns-in-Ok-clause-receiver : goal.returns-in-Ok-clause-receiver
returns-in-Ok-clause-receiver g c tells =
    let old = g.S.Store.view c.args.receiver.now in
    let new = g.S.Store.view c.do_act.new.store in
    let ship = c.args.ship.now in
    subst (λ p. Fits old.state (part_act ship c.args.at p) → IsRepeatable old.state (part_act ship c.args.at p) → DoesActs c.do_act.result (part_act ship c.args.at p ∷ []) old new) (c.in-Ok.ensures.part tells)
    (c.do_act.ensures.does tells)

pub returns-in-Err-clause-sender : goal.returns-in-Err-clause-sender
returns-in-Err-clause-sender g c tells =
    done_none _ (g.S.Store.view c.args.sender.now) (g.S.Store.view c.part_by.new.store) (c.in-Err.ensures.state tells) (c.in-Err.ensures.leaves tells)

pub returns-in-Err-clause-receiver : goal.returns-in-Err-clause-receiver
returns-in-Err-clause-receiver g c tells fits again =
    let still = g.S.Store.view c.args.receiver.now in
    does_stop (Err c.stopped_at.result) c.stopped_at.result [] (part_act c.args.ship.now c.args.at (shipped (g.S.Store.view c.args.sender.now).state c.args.ship.now.fileset c.args.at c.args.mover.now) ∷ []) still still
    (does_none {T = Unit {0}} (Err c.stopped_at.result) still)

pub returns-in-Err-clause-second : goal.returns-in-Err-clause-second
returns-in-Err-clause-second g c = goes_still {T = Unit {0}} (Err c.stopped_at.result) batch_wear (g.S.Store.view c.args.receiver.now) c.requires.may.second_mends
