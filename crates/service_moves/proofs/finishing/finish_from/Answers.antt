use Rattle.std.proofs.Common.{◌≡◌, ◌+◌, ◌-◌, ◌*◌, ◌^◌, [], get_or, set, refl, sym, subst, ◌∙◌, ap, arith}
use Rattle.std.specs.Prelude.{Ok, Err, Some, IfSome, slice_get}
use Rattle.store_memory.specs.Sound.{IsLeavingOf}
use Rattle.service_starts.specs.FinishLaws.{ship_told}
use Rattle.message_types.specs.Soundness.{IsServer}
use Rattle.service_moves.specs.Batches.{batch_wear}
use Rattle.service_moves.specs.Finishing.{mover_again}
use Rattle.service_moves.specs.Plans.{states_at}
use Rattle.service_moves.specs.Ships.{IsNextShip, IsSoundShip}
use Rattle.service_moves.proofs.Between.{server_store}
use Rattle.service_moves.proofs.Doing.{steps_one}
use Rattle.service_moves.proofs.Finished.{again_moves, may_ask_next, nothing_goes, one_does, one_goes_on}
use Rattle.service_moves.proofs.Moved.{may_later, step_goes, there_at}
use Rattle.service_moves.proofs.Twice.{done_none}
use Rattle.service_moves.proofs.Whole.{moves_none}
use Rattle.service_moves.proofs.Stores.{all_failed, all_more, all_ok, all_then, set_there, there_within}
use Rattle.service_moves.proofs.finishing.finish_from.Goals as goal

pub next_ship-requires-clause-ready : goal.next_ship-requires-clause-ready
next_ship-requires-clause-ready g c =
    let m = c.requires.have in
    let d = c.index-stores-place.result in
    let stores = c.args.stores.now in
    (server_store g.S.Store.view m.roster (2 ^ 46 + 2 ^ 13) stores c.args.from m.are m.is_from (get_or stores (c.args.from.0 - 1) d) (there_at m.roster stores c.args.from m.count m.is_from d)).ready

pub next_ship-requires-clause-wear : goal.next_ship-requires-clause-wear
next_ship-requires-clause-wear g c =
    let m = c.requires.have in
    let d = c.index-stores-place.result in
    let stores = c.args.stores.now in
    let worn = (server_store g.S.Store.view m.roster (2 ^ 46 + 2 ^ 13) stores c.args.from m.are m.is_from (get_or stores (c.args.from.0 - 1) d) (there_at m.roster stores c.args.from m.count m.is_from d)).wear in
    omega (arith, worn)

pub returns-in-Err-clause-goes_on : goal.returns-in-Err-clause-goes_on
returns-in-Err-clause-goes_on g c =
    let m = c.requires.have in
    let d = c.index-stores-place.result in
    let stores = c.args.stores.now in
    let first = step_goes g.S.Store.view batch_wear (Err c.in-Err.stopped) stores m.roster (2 ^ 46 + 2 ^ 13) c.args.from (get_or stores (c.args.from.0 - 1) d) c.next_ship.new.store m.are m.is_from.first
    (there_at m.roster stores c.args.from m.count m.is_from d) c.in-Err.ensures.goes_on c.in-Err.ensures.stopped in
    all_failed g.S.Store.view batch_wear (67 * batch_wear) c.in-Err.stopped stores (set stores (c.args.from.0 - 1) c.next_ship.new.store) (omega arith) first

pub send_again-requires-clause-may : goal.send_again-requires-clause-may
send_again-requires-clause-may g c =
    let m = c.requires.have in
    let d = c.index-stores-place.result in
    let stores = c.args.stores.now in
    let ship = c.in-Some.ship in
    let mid = set stores (c.args.from.0 - 1) c.next_ship.new.store in
    let was = there_at m.roster stores c.args.from m.count m.is_from d in
    let one = server_store g.S.Store.view m.roster (2 ^ 46 + 2 ^ 13) stores c.args.from m.are m.is_from (get_or stores (c.args.from.0 - 1) d) was in
    let first = step_goes g.S.Store.view batch_wear (Ok c.in-Ok.found) stores m.roster (2 ^ 46 + 2 ^ 13) c.args.from (get_or stores (c.args.from.0 - 1) d) c.next_ship.new.store m.are m.is_from.first
    was c.in-Ok.ensures.goes_on tt in
    let sound = subst (λ o. IfSome o (IsSoundShip (g.S.Store.view (get_or stores (c.args.from.0 - 1) d)).state.roster c.args.from)) c.in-Some.is c.in-Ok.ensures.sound in
    let is_from = subst (IsServer m.roster) (sym sound.from_is) m.is_from in
    let is_to = subst (λ r. IsServer r ship.to) one.roster_is sound.to in
    may_later g.S.Store.view c.in-Ok.found (2 ^ 13) (2 ^ 46 + 2 ^ 13) (2 ^ 46 + 2 ^ 14) stores mid ship.from ship.to (mover_again ship) m.roster refl m.count m.are
    (all_more g.S.Store.view batch_wear (2 ^ 13) (Ok c.in-Ok.found) stores mid (omega arith) first)
    is_from is_to (again_moves m.roster ship is_from is_to)

pub send_again-requires-clause-leaving : goal.send_again-requires-clause-leaving
send_again-requires-clause-leaving g c tells sender there at low =
    let m = c.requires.have in
    let d = c.index-stores-place.result in
    let stores = c.args.stores.now in
    let s1 = c.next_ship.new.store in
    let ship = c.in-Some.ship in
    let mid = set stores (c.args.from.0 - 1) s1 in
    let was = there_at m.roster stores c.args.from m.count m.is_from d in
    let sound = subst (λ o. IfSome o (IsSoundShip (g.S.Store.view (get_or stores (c.args.from.0 - 1) d)).state.roster c.args.from)) c.in-Some.is c.in-Ok.ensures.sound in
    let here = set_there stores (c.args.from.0 - 1) s1 (there_within stores (c.args.from.0 - 1) (get_or stores (c.args.from.0 - 1) d) was) in
    let both : Some s1 ≡ Some sender = sym here ∙ ap (λ s. slice_get mid (s.0 - 1)) (sym sound.from_is) ∙ there in
    let same : s1 ≡ sender = cc in
    let next = subst (IsNextShip c.args.from (g.S.Store.view s1).state (ship_told (g.S.Store.view s1).state)) c.in-Some.is (c.in-Ok.ensures.ship tells) in
    subst (λ s. IsLeavingOf (g.S.Store.view s).state ship.fileset at) same (may_ask_next c.args.from (g.S.Store.view s1).state ship next at low)

pub returns-in-Some-clause-finished : goal.returns-in-Some-clause-finished
returns-in-Some-clause-finished g c tells tree keep =
    let m = c.requires.have in
    let d = c.index-stores-place.result in
    let stores = c.args.stores.now in
    let s0 = get_or stores (c.args.from.0 - 1) d in
    let s1 = c.next_ship.new.store in
    let ship = c.in-Some.ship in
    let was = there_at m.roster stores c.args.from m.count m.is_from d in
    let one = server_store g.S.Store.view m.roster (2 ^ 46 + 2 ^ 13) stores c.args.from m.are m.is_from s0 was in
    let sound = subst (λ o. IfSome o (IsSoundShip (g.S.Store.view s0).state.roster c.args.from)) c.in-Some.is c.in-Ok.ensures.sound in
    let next = subst (IsNextShip c.args.from (g.S.Store.view s1).state (ship_told (g.S.Store.view s1).state)) c.in-Some.is (c.in-Ok.ensures.ship tells) in
    let from = subst (λ r. IsServer r c.args.from) (sym one.roster_is) m.is_from in
    one_goes_on g.S.Store.view stores c.send_again.new.stores c.send_again.result c.args.from tree s0 s1 ship keep was (c.in-Ok.ensures.state tells) next sound.from_is m.is_from.first sound.to.first
    one.server (again_moves (g.S.Store.view s0).state.roster ship (subst (IsServer (g.S.Store.view s0).state.roster) (sym sound.from_is) from) sound.to) (c.send_again.ensures.states tells)

pub returns-in-Some-clause-goes_on : goal.returns-in-Some-clause-goes_on
returns-in-Some-clause-goes_on g c =
    let m = c.requires.have in
    let d = c.index-stores-place.result in
    let stores = c.args.stores.now in
    let first = step_goes g.S.Store.view batch_wear (Ok c.in-Ok.found) stores m.roster (2 ^ 46 + 2 ^ 13) c.args.from (get_or stores (c.args.from.0 - 1) d) c.next_ship.new.store m.are m.is_from.first
    (there_at m.roster stores c.args.from m.count m.is_from d) c.in-Ok.ensures.goes_on tt in
    all_then g.S.Store.view c.in-Ok.found batch_wear (66 * batch_wear) (67 * batch_wear) c.send_again.result stores (set stores (c.args.from.0 - 1) c.next_ship.new.store)
    c.send_again.new.stores (omega arith) first c.send_again.ensures.goes_on

pub returns-in-None-clause-finished : goal.returns-in-None-clause-finished
returns-in-None-clause-finished g c tells tree keep =
    let m = c.requires.have in
    let d = c.index-stores-place.result in
    let stores = c.args.stores.now in
    nothing_goes g.S.Store.view stores c.args.from tree (get_or stores (c.args.from.0 - 1) d) c.next_ship.new.store c.in-Ok.found keep (there_at m.roster stores c.args.from m.count m.is_from d)
    (c.in-Ok.ensures.state tells) (c.in-Ok.ensures.ship tells) c.in-None.is

pub returns-in-None-clause-goes_on : goal.returns-in-None-clause-goes_on
returns-in-None-clause-goes_on g c =
    let m = c.requires.have in
    let d = c.index-stores-place.result in
    let stores = c.args.stores.now in
    let first = step_goes g.S.Store.view batch_wear (Ok c.in-Ok.found) stores m.roster (2 ^ 46 + 2 ^ 13) c.args.from (get_or stores (c.args.from.0 - 1) d) c.next_ship.new.store m.are m.is_from.first
    (there_at m.roster stores c.args.from m.count m.is_from d) c.in-Ok.ensures.goes_on tt in
    all_ok g.S.Store.view batch_wear (67 * batch_wear) c.in-Ok.found tt stores (set stores (c.args.from.0 - 1) c.next_ship.new.store) (omega arith) first

pub returns-in-Err-clause-does : goal.returns-in-Err-clause-does
returns-in-Err-clause-does g c tells tree keep =
    let m = c.requires.have in
    let d = c.index-stores-place.result in
    let stores = c.args.stores.now in
    let s0 = get_or stores (c.args.from.0 - 1) d in
    let s1 = c.next_ship.new.store in (
      [],
      moves_none (λ act. ⊥) (states_at g.S.Store.view c.args.stores.now),
      steps_one g.S.Store.view (Err c.in-Err.stopped) [] stores (c.args.from.0 - 1) s0 s1 (there_at m.roster stores c.args.from m.count m.is_from d)
          (done_none (Err c.in-Err.stopped) (g.S.Store.view s0) (g.S.Store.view s1) (c.in-Err.ensures.state tells) (c.in-Err.ensures.leaves tells)),
    )

pub returns-in-None-clause-does : goal.returns-in-None-clause-does
returns-in-None-clause-does g c tells tree keep =
    let m = c.requires.have in
    let d = c.index-stores-place.result in
    let stores = c.args.stores.now in
    let s0 = get_or stores (c.args.from.0 - 1) d in
    let s1 = c.next_ship.new.store in (
      [],
      moves_none (λ act. ⊥) (states_at g.S.Store.view c.args.stores.now),
      steps_one g.S.Store.view (Ok tt) [] stores (c.args.from.0 - 1) s0 s1 (there_at m.roster stores c.args.from m.count m.is_from d)
          (done_none (Ok tt) (g.S.Store.view s0) (g.S.Store.view s1) (c.in-Ok.ensures.state tells) (c.in-Ok.ensures.leaves tells)),
    )

pub returns-in-Some-clause-does : goal.returns-in-Some-clause-does
returns-in-Some-clause-does g c tells tree keep =
    let m = c.requires.have in
    let d = c.index-stores-place.result in
    let stores = c.args.stores.now in
    let s0 = get_or stores (c.args.from.0 - 1) d in
    let s1 = c.next_ship.new.store in
    let ship = c.in-Some.ship in
    let was = there_at m.roster stores c.args.from m.count m.is_from d in
    let one = server_store g.S.Store.view m.roster (2 ^ 46 + 2 ^ 13) stores c.args.from m.are m.is_from s0 was in
    let sound = subst (λ o. IfSome o (IsSoundShip (g.S.Store.view s0).state.roster c.args.from)) c.in-Some.is c.in-Ok.ensures.sound in
    let next = subst (IsNextShip c.args.from (g.S.Store.view s1).state (ship_told (g.S.Store.view s1).state)) c.in-Some.is (c.in-Ok.ensures.ship tells) in
    let from = subst (λ r. IsServer r c.args.from) (sym one.roster_is) m.is_from in
    one_does g.S.Store.view stores c.send_again.new.stores c.send_again.result c.args.from tree s0 s1 ship c.in-Ok.found keep was (c.in-Ok.ensures.state tells) (c.in-Ok.ensures.leaves tells) next sound.from_is
    one.server (again_moves (g.S.Store.view s0).state.roster ship (subst (IsServer (g.S.Store.view s0).state.roster) (sym sound.from_is) from) sound.to) (c.send_again.ensures.does tells)
