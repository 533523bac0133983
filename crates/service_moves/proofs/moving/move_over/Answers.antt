use Rattle.std.proofs.Common.{◌≡◌, ◌+◌, ◌-◌, ◌*◌, ◌^◌, [], ◌∷◌, get_or, set, refl, sym, subst, ◌∙◌, ap, arith}
use Rattle.std.specs.Prelude.{Ok, Err, Some, IfSome, slice_get}
use Rattle.store_memory.specs.Sound.{IsLeavingOf}
use Rattle.message_types.specs.Soundness.{IsServer}
use Rattle.service_moves.specs.Batches.{batch_wear}
use Rattle.store_acts.specs.declared.act.Act.TheVariants.{Leave}
use Rattle.store_state.specs.State.{held_so, is_of}
use Rattle.service_moves.specs.Ships.{CarriesOf, IsSoundShip}
use Rattle.service_moves.proofs.Between.{server_store}
use Rattle.service_moves.proofs.Carried.{may_ask}
use Rattle.service_moves.proofs.Moved.{may_later, moved, not_moved, step_goes, there_at}
use Rattle.service_moves.proofs.MovedSteps.{left_does, moved_does}
use Rattle.service_moves.proofs.Twice.{made_of}
use Rattle.service_moves.proofs.Stores.{all_failed, all_more, all_ok, all_then, set_there, there_within}
use Rattle.service_moves.proofs.moving.move_over.Goals as goal

pub leave-requires-clause-to : goal.leave-requires-clause-to
leave-requires-clause-to g c =
    let m = c.requires.may in
    let d = c.index-stores-place.result in
    let stores = c.args.stores.now in
    let one = server_store g.S.Store.view m.roster (2 ^ 46) stores c.args.from m.are m.is_from (get_or stores (c.args.from.0 - 1) d) (there_at m.roster stores c.args.from m.count m.is_from d) in
    subst (λ r. IsServer r c.args.to) (sym one.roster_is) m.is_to

pub leave-requires-clause-ready : goal.leave-requires-clause-ready
leave-requires-clause-ready g c =
    let m = c.requires.may in
    let d = c.index-stores-place.result in
    let stores = c.args.stores.now in
    (server_store g.S.Store.view m.roster (2 ^ 46) stores c.args.from m.are m.is_from (get_or stores (c.args.from.0 - 1) d) (there_at m.roster stores c.args.from m.count m.is_from d)).ready

pub leave-requires-clause-wear : goal.leave-requires-clause-wear
leave-requires-clause-wear g c =
    let m = c.requires.may in
    let d = c.index-stores-place.result in
    let stores = c.args.stores.now in
    let worn = (server_store g.S.Store.view m.roster (2 ^ 46) stores c.args.from m.are m.is_from (get_or stores (c.args.from.0 - 1) d) (there_at m.roster stores c.args.from m.count m.is_from d)).wear in
    omega (arith, worn)

pub returns-in-Err-clause-goes_on : goal.returns-in-Err-clause-goes_on
returns-in-Err-clause-goes_on g c =
    let m = c.requires.may in
    let d = c.index-stores-place.result in
    let stores = c.args.stores.now in
    let first = step_goes g.S.Store.view (2 * batch_wear) (Err c.in-Err.stopped) stores m.roster (2 ^ 46) c.args.from (get_or stores (c.args.from.0 - 1) d) c.leave.new.store m.are m.is_from.first
    (there_at m.roster stores c.args.from m.count m.is_from d) c.in-Err.ensures.goes_on c.in-Err.ensures.stopped in
    all_failed g.S.Store.view (2 * batch_wear) (68 * batch_wear) c.in-Err.stopped stores (set stores (c.args.from.0 - 1) c.leave.new.store) (omega arith) first

pub send_between-requires-clause-may : goal.send_between-requires-clause-may
send_between-requires-clause-may g c =
    let m = c.requires.may in
    let d = c.index-stores-place.result in
    let stores = c.args.stores.now in
    let mid = set stores (c.args.from.0 - 1) c.leave.new.store in
    let was = there_at m.roster stores c.args.from m.count m.is_from d in
    let one = server_store g.S.Store.view m.roster (2 ^ 46) stores c.args.from m.are m.is_from (get_or stores (c.args.from.0 - 1) d) was in
    let first = step_goes g.S.Store.view (2 * batch_wear) (Ok c.in-Ok.found) stores m.roster (2 ^ 46) c.args.from (get_or stores (c.args.from.0 - 1) d) c.leave.new.store m.are m.is_from.first
    was c.in-Ok.ensures.goes_on tt in
    let sound = subst (λ o. IfSome o (IsSoundShip (g.S.Store.view (get_or stores (c.args.from.0 - 1) d)).state.roster c.args.from)) c.in-Some.is c.in-Ok.ensures.sound in
    may_later g.S.Store.view c.in-Ok.found (2 ^ 14) (2 ^ 46) (2 ^ 46 + 2 ^ 14) stores mid c.in-Some.ship.from c.in-Some.ship.to c.args.mover.now m.roster refl m.count m.are
    (all_more g.S.Store.view (2 * batch_wear) (2 ^ 14) (Ok c.in-Ok.found) stores mid (omega arith) first)
    (subst (IsServer m.roster) (sym sound.from_is) m.is_from) (subst (λ r. IsServer r c.in-Some.ship.to) one.roster_is sound.to) m.is_mover

pub send_between-requires-clause-leaving : goal.send_between-requires-clause-leaving
send_between-requires-clause-leaving g c tells sender there at low =
    let m = c.requires.may in
    let d = c.index-stores-place.result in
    let stores = c.args.stores.now in
    let s1 = c.leave.new.store in
    let mid = set stores (c.args.from.0 - 1) s1 in
    let was = there_at m.roster stores c.args.from m.count m.is_from d in
    let sound = subst (λ o. IfSome o (IsSoundShip (g.S.Store.view (get_or stores (c.args.from.0 - 1) d)).state.roster c.args.from)) c.in-Some.is c.in-Ok.ensures.sound in
    let here = set_there stores (c.args.from.0 - 1) s1 (there_within stores (c.args.from.0 - 1) (get_or stores (c.args.from.0 - 1) d) was) in
    let both : Some s1 ≡ Some sender = sym here ∙ ap (λ s. slice_get mid (s.0 - 1)) (sym sound.from_is) ∙ there in
    let same : s1 ≡ sender = cc in
    let carried = subst (λ o. CarriesOf c.args.from (held_so (is_of c.args.fileset) (g.S.Store.view s1).state.slots) o) c.in-Some.is (c.in-Ok.ensures.ship tells) in
    subst (λ s. IsLeavingOf (g.S.Store.view s).state c.in-Some.ship.fileset at) same (may_ask c.args.from (g.S.Store.view s1).state c.args.fileset c.in-Some.ship carried at low)

pub returns-in-Some-clause-states : goal.returns-in-Some-clause-states
returns-in-Some-clause-states g c tells sender receiver holding one two may =
    let m = c.requires.may in
    let d = c.index-stores-place.result in
    let stores = c.args.stores.now in
    let s1 = c.leave.new.store in
    let carried = subst (λ o. CarriesOf c.args.from (held_so (is_of c.args.fileset) (g.S.Store.view s1).state.slots) o) c.in-Some.is (c.in-Ok.ensures.ship tells) in
    moved g.S.Store.view stores c.send_between.new.stores c.send_between.result c.args.from c.args.to c.args.fileset c.args.mover.now (get_or stores (c.args.from.0 - 1) d) s1 sender receiver holding
    c.in-Some.ship (there_at m.roster stores c.args.from m.count m.is_from d) one two may (λ fits again. made_of _ (Leave c.args.fileset c.args.to ∷ []) (g.S.Store.view (get_or stores (c.args.from.0 - 1) d)) (g.S.Store.view s1) (c.in-Ok.ensures.does tells fits again)) carried m.is_from.first m.is_to.first (c.send_between.ensures.states tells)

pub returns-in-Some-clause-goes_on : goal.returns-in-Some-clause-goes_on
returns-in-Some-clause-goes_on g c =
    let m = c.requires.may in
    let d = c.index-stores-place.result in
    let stores = c.args.stores.now in
    let first = step_goes g.S.Store.view (2 * batch_wear) (Ok c.in-Ok.found) stores m.roster (2 ^ 46) c.args.from (get_or stores (c.args.from.0 - 1) d) c.leave.new.store m.are m.is_from.first
    (there_at m.roster stores c.args.from m.count m.is_from d) c.in-Ok.ensures.goes_on tt in
    all_then g.S.Store.view c.in-Ok.found (2 * batch_wear) (66 * batch_wear) (68 * batch_wear) c.send_between.result stores (set stores (c.args.from.0 - 1) c.leave.new.store)
    c.send_between.new.stores (omega arith) first c.send_between.ensures.goes_on

pub returns-in-None-clause-states : goal.returns-in-None-clause-states
returns-in-None-clause-states g c tells sender receiver holding one two may =
    let m = c.requires.may in
    let d = c.index-stores-place.result in
    let stores = c.args.stores.now in
    let s1 = c.leave.new.store in
    let carried = subst (λ o. CarriesOf c.args.from (held_so (is_of c.args.fileset) (g.S.Store.view s1).state.slots) o) c.in-None.is (c.in-Ok.ensures.ship tells) in
    absurd (not_moved g.S.Store.view stores c.args.from c.args.to c.args.fileset c.args.mover.now (get_or stores (c.args.from.0 - 1) d) s1 sender receiver holding
    (there_at m.roster stores c.args.from m.count m.is_from d) one may (λ fits again. made_of _ (Leave c.args.fileset c.args.to ∷ []) (g.S.Store.view (get_or stores (c.args.from.0 - 1) d)) (g.S.Store.view s1) (c.in-Ok.ensures.does tells fits again)) carried)

pub returns-in-None-clause-goes_on : goal.returns-in-None-clause-goes_on
returns-in-None-clause-goes_on g c =
    let m = c.requires.may in
    let d = c.index-stores-place.result in
    let stores = c.args.stores.now in
    let first = step_goes g.S.Store.view (2 * batch_wear) (Ok c.in-Ok.found) stores m.roster (2 ^ 46) c.args.from (get_or stores (c.args.from.0 - 1) d) c.leave.new.store m.are m.is_from.first
    (there_at m.roster stores c.args.from m.count m.is_from d) c.in-Ok.ensures.goes_on tt in
    all_ok g.S.Store.view (2 * batch_wear) (68 * batch_wear) c.in-Ok.found tt stores (set stores (c.args.from.0 - 1) c.leave.new.store) (omega arith) first

pub returns-in-Err-clause-does : goal.returns-in-Err-clause-does
returns-in-Err-clause-does g c tells sender receiver holding one two may =
    let m = c.requires.may in
    let d = c.index-stores-place.result in
    let stores = c.args.stores.now in
    left_does g.S.Store.view stores c.args.from c.args.to c.args.fileset c.args.mover.now (get_or stores (c.args.from.0 - 1) d) c.leave.new.store sender receiver holding _ c.in-Err.stopped
    (there_at m.roster stores c.args.from m.count m.is_from d) one may (c.in-Err.ensures.does tells)

pub returns-in-Some-clause-does : goal.returns-in-Some-clause-does
returns-in-Some-clause-does g c tells sender receiver holding one two may =
    let m = c.requires.may in
    let d = c.index-stores-place.result in
    let stores = c.args.stores.now in
    let s1 = c.leave.new.store in
    let carried = subst (λ o. CarriesOf c.args.from (held_so (is_of c.args.fileset) (g.S.Store.view s1).state.slots) o) c.in-Some.is (c.in-Ok.ensures.ship tells) in
    moved_does g.S.Store.view stores c.send_between.new.stores c.send_between.result c.args.from c.args.to c.args.fileset c.args.mover.now (get_or stores (c.args.from.0 - 1) d) s1 sender receiver holding
    c.in-Some.ship c.in-Ok.found (there_at m.roster stores c.args.from m.count m.is_from d) one two may (c.in-Ok.ensures.does tells) carried m.is_from.first m.is_to.first (c.send_between.ensures.does tells)

pub returns-in-None-clause-does : goal.returns-in-None-clause-does
returns-in-None-clause-does g c tells sender receiver holding one two may =
    let m = c.requires.may in
    let d = c.index-stores-place.result in
    let stores = c.args.stores.now in
    let s1 = c.leave.new.store in
    let carried = subst (λ o. CarriesOf c.args.from (held_so (is_of c.args.fileset) (g.S.Store.view s1).state.slots) o) c.in-None.is (c.in-Ok.ensures.ship tells) in
    absurd (not_moved g.S.Store.view stores c.args.from c.args.to c.args.fileset c.args.mover.now (get_or stores (c.args.from.0 - 1) d) s1 sender receiver holding
    (there_at m.roster stores c.args.from m.count m.is_from d) one may (λ fits again. made_of _ (Leave c.args.fileset c.args.to ∷ []) (g.S.Store.view (get_or stores (c.args.from.0 - 1) d)) (g.S.Store.view s1) (c.in-Ok.ensures.does tells fits again)) carried)
