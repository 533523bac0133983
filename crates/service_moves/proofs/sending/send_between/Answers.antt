use Rattle.std.proofs.Common.{◌≡◌, ◌≢◌, ◌<◌, ◌+◌, ◌-◌, ◌*◌, ◌^◌, length, get_or, sym, subst, ◌∙◌, arith}
use Rattle.std.specs.Prelude.{OnOk}
use Rattle.service_moves.specs.Batches.{batch_wear}
use Rattle.store_acts.specs.Acts.{act_done, state_after}
use Rattle.store_acts.specs.declared.act.Act.TheVariants.{Left}
use Rattle.store_laws.specs.Moves.{all_parts}
use Rattle.service_moves.specs.Doing.{DoSteps}
use Rattle.service_moves.specs.Plans.{ship_steps}
use Rattle.service_moves.specs.Ships.{two_set}
use Rattle.service_moves.specs.Steps.{AllGoOn}
use Rattle.service_moves.specs.Stores.{states_of}
use Rattle.service_moves.proofs.Between.{both_set, high_there, low_there, may_take, sent_goes, sent_states, set_swap}
use Rattle.service_moves.proofs.Sent.{sent_does}
use Rattle.service_moves.proofs.Stores.{all_mendable, none_goes}
use Rattle.service_moves.proofs.sending.send_between.Goals as goal

pub send-requires-clause-may : goal.send-requires-clause-may
send-requires-clause-may g c =
    let low = c.split_at_mut-low.result.0.now in
    let high = c.split_at_mut-low.result.1.now in
    let e = c.split_at_mut-low.ensures in
    let t = c.if-from-to.true in
    may_take g.S.Store.view (2 ^ 46 + 2 ^ 14) c.args.stores.now c.args.ship.now c.args.mover.now c.requires.may
    (get_or low (c.args.ship.now.from.0 - 1) c.index-low-from.result) (get_or high 0 c.index-high-0.result)
    (low_there c.args.stores.now low high (c.args.ship.now.from.0 - 1) c.index-low-from.result e.value (let l = e.front_len in omega (arith, t, l)))
    (high_there c.args.stores.now low high (c.args.ship.now.to.0 - 1) c.index-high-0.result e.value e.front_len
    (let b = e.back_len in let m = c.requires.may.is_to in let n = c.requires.may.count in omega (arith, b, m.first, m.last, n)))

pub send-requires-clause-leaving : goal.send-requires-clause-leaving
send-requires-clause-leaving g c tells =
    let low = c.split_at_mut-low.result.0.now in
    let high = c.split_at_mut-low.result.1.now in
    let e = c.split_at_mut-low.ensures in
    let t = c.if-from-to.true in
    c.requires.leaving tells (get_or low (c.args.ship.now.from.0 - 1) c.index-low-from.result)
    (low_there c.args.stores.now low high (c.args.ship.now.from.0 - 1) c.index-low-from.result e.value (let l = e.front_len in omega (arith, t, l)))

pub returns-then-from-to-clause-states : goal.returns-then-from-to-clause-states
returns-then-from-to-clause-states g c tells sender receiver holding apart one two may =
    let low = c.split_at_mut-low.result.0.now in
    let high = c.split_at_mut-low.result.1.now in
    let e = c.split_at_mut-low.ensures in
    let t = c.if-from-to.true in
    let f = c.args.ship.now.from.0 - 1 in
    let to = c.args.ship.now.to.0 - 1 in
    let stores = c.args.stores.now in
    let some : 0 < length high = (let b = e.back_len in let m = c.requires.may.is_to in let n = c.requires.may.count in omega (arith, b, m.first, m.last, n)) in
    let made = both_set stores low high f to c.send.new.sender c.send.new.receiver e.value e.front_len t some in
    subst (λ xs. OnOk c.send.result (states_of g.S.Store.view xs
    ≡ two_set (states_of g.S.Store.view stores) f (act_done (g.S.Store.view sender).state (Left c.args.ship.now.fileset)).state to
    (state_after (g.S.Store.view receiver).state (all_parts holding c.args.ship.now.from c.args.ship.now.number c.args.mover.now)))) (sym made)
    (sent_states g.S.Store.view g.S.Store.tells stores c.send.result c.args.ship.now c.args.mover.now (get_or low f c.index-low-from.result) (get_or high 0 c.index-high-0.result)
    c.send.new.sender c.send.new.receiver c.send.ensures tells sender receiver holding
    (low_there stores low high f c.index-low-from.result e.value (let l = e.front_len in omega (arith, t, l)))
    (high_there stores low high to c.index-high-0.result e.value e.front_len some) one two may)

pub returns-then-from-to-clause-does : goal.returns-then-from-to-clause-does
returns-then-from-to-clause-does g c tells sender receiver holding apart one two may =
    let low = c.split_at_mut-low.result.0.now in
    let high = c.split_at_mut-low.result.1.now in
    let e = c.split_at_mut-low.ensures in
    let t = c.if-from-to.true in
    let f = c.args.ship.now.from.0 - 1 in
    let to = c.args.ship.now.to.0 - 1 in
    let ship = c.args.ship.now in
    let stores = c.args.stores.now in
    let some : 0 < length high = (let b = e.back_len in let m = c.requires.may.is_to in let n = c.requires.may.count in omega (arith, b, m.first, m.last, n)) in
    let made = both_set stores low high f to c.send.new.sender c.send.new.receiver e.value e.front_len t some in
    let places : f ≢ to = λ k. omega (arith, k, t) in
    subst (λ xs. DoSteps g.S.Store.view c.send.result (ship_steps ship.from ship.to ship.fileset holding ship.number c.args.mover.now) stores xs) (sym made)
    (sent_does g.S.Store.view g.S.Store.tells stores c.send.result ship c.args.mover.now (get_or low f c.index-low-from.result) (get_or high 0 c.index-high-0.result)
    c.send.new.sender c.send.new.receiver places c.send.ensures tells sender receiver holding
    (low_there stores low high f c.index-low-from.result e.value (let l = e.front_len in omega (arith, t, l)))
    (high_there stores low high to c.index-high-0.result e.value e.front_len some) one two may)

pub returns-then-from-to-clause-goes_on : goal.returns-then-from-to-clause-goes_on
returns-then-from-to-clause-goes_on g c =
    let low = c.split_at_mut-low.result.0.now in
    let high = c.split_at_mut-low.result.1.now in
    let e = c.split_at_mut-low.ensures in
    let t = c.if-from-to.true in
    let f = c.args.ship.now.from.0 - 1 in
    let to = c.args.ship.now.to.0 - 1 in
    let stores = c.args.stores.now in
    let m = c.requires.may in
    let some : 0 < length high = (let b = e.back_len in let n = m.count in omega (arith, b, m.is_to.first, m.is_to.last, n)) in
    let made = both_set stores low high f to c.send.new.sender c.send.new.receiver e.value e.front_len t some in
    let two : f ≢ to = λ k. omega (arith, k, t) in
    subst (λ xs. AllGoOn g.S.Store.view (66 * batch_wear) c.send.result stores xs) (sym made)
    (sent_goes g.S.Store.view g.S.Store.tells stores c.send.result c.args.ship.now c.args.mover.now (get_or low f c.index-low-from.result) (get_or high 0 c.index-high-0.result)
    c.send.new.sender c.send.new.receiver m.is_from.first m.is_to.first two
    (all_mendable g.S.Store.view m.roster (2 ^ 46 + 2 ^ 14) stores m.are)
    (low_there stores low high f c.index-low-from.result e.value (let l = e.front_len in omega (arith, t, l)))
    (high_there stores low high to c.index-high-0.result e.value e.front_len some) c.send.ensures)

pub send-requires-then-to-from-clause-may : goal.send-requires-then-to-from-clause-may
send-requires-then-to-from-clause-may g c =
    let low = c.split_at_mut-low-then-to-from.result.0.now in
    let high = c.split_at_mut-low-then-to-from.result.1.now in
    let e = c.split_at_mut-low-then-to-from.ensures in
    let t = c.if-to-from.true in
    may_take g.S.Store.view (2 ^ 46 + 2 ^ 14) c.args.stores.now c.args.ship.now c.args.mover.now c.requires.may
    (get_or high 0 c.index-high-0-then-to-from.result) (get_or low (c.args.ship.now.to.0 - 1) c.index-low-to.result)
    (high_there c.args.stores.now low high (c.args.ship.now.from.0 - 1) c.index-high-0-then-to-from.result e.value e.front_len
    (let b = e.back_len in let m = c.requires.may.is_from in let n = c.requires.may.count in omega (arith, b, m.first, m.last, n)))
    (low_there c.args.stores.now low high (c.args.ship.now.to.0 - 1) c.index-low-to.result e.value (let l = e.front_len in omega (arith, t, l)))

pub send-requires-then-to-from-clause-leaving : goal.send-requires-then-to-from-clause-leaving
send-requires-then-to-from-clause-leaving g c tells =
    let low = c.split_at_mut-low-then-to-from.result.0.now in
    let high = c.split_at_mut-low-then-to-from.result.1.now in
    let e = c.split_at_mut-low-then-to-from.ensures in
    c.requires.leaving tells (get_or high 0 c.index-high-0-then-to-from.result)
    (high_there c.args.stores.now low high (c.args.ship.now.from.0 - 1) c.index-high-0-then-to-from.result e.value e.front_len
    (let b = e.back_len in let m = c.requires.may.is_from in let n = c.requires.may.count in omega (arith, b, m.first, m.last, n)))

pub returns-then-to-from-clause-states : goal.returns-then-to-from-clause-states
returns-then-to-from-clause-states g c tells sender receiver holding apart one two may =
    let low = c.split_at_mut-low-then-to-from.result.0.now in
    let high = c.split_at_mut-low-then-to-from.result.1.now in
    let e = c.split_at_mut-low-then-to-from.ensures in
    let t = c.if-to-from.true in
    let f = c.args.ship.now.from.0 - 1 in
    let to = c.args.ship.now.to.0 - 1 in
    let stores = c.args.stores.now in
    let sent = c.send-then-to-from in
    let some : 0 < length high = (let b = e.back_len in let m = c.requires.may.is_from in let n = c.requires.may.count in omega (arith, b, m.first, m.last, n)) in
    let places : f ≢ to = λ k. omega (arith, k, t) in
    let made = both_set stores low high to f sent.new.receiver sent.new.sender e.value e.front_len t some ∙ set_swap stores f to sent.new.sender sent.new.receiver places in
    subst (λ xs. OnOk sent.result (states_of g.S.Store.view xs
    ≡ two_set (states_of g.S.Store.view stores) f (act_done (g.S.Store.view sender).state (Left c.args.ship.now.fileset)).state to
    (state_after (g.S.Store.view receiver).state (all_parts holding c.args.ship.now.from c.args.ship.now.number c.args.mover.now)))) (sym made)
    (sent_states g.S.Store.view g.S.Store.tells stores sent.result c.args.ship.now c.args.mover.now (get_or high 0 c.index-high-0-then-to-from.result) (get_or low to c.index-low-to.result)
    sent.new.sender sent.new.receiver sent.ensures tells sender receiver holding
    (high_there stores low high f c.index-high-0-then-to-from.result e.value e.front_len some)
    (low_there stores low high to c.index-low-to.result e.value (let l = e.front_len in omega (arith, t, l))) one two may)

pub returns-then-to-from-clause-does : goal.returns-then-to-from-clause-does
returns-then-to-from-clause-does g c tells sender receiver holding apart one two may =
    let low = c.split_at_mut-low-then-to-from.result.0.now in
    let high = c.split_at_mut-low-then-to-from.result.1.now in
    let e = c.split_at_mut-low-then-to-from.ensures in
    let t = c.if-to-from.true in
    let f = c.args.ship.now.from.0 - 1 in
    let to = c.args.ship.now.to.0 - 1 in
    let ship = c.args.ship.now in
    let stores = c.args.stores.now in
    let sent = c.send-then-to-from in
    let some : 0 < length high = (let b = e.back_len in let m = c.requires.may.is_from in let n = c.requires.may.count in omega (arith, b, m.first, m.last, n)) in
    let places : f ≢ to = λ k. omega (arith, k, t) in
    let made = both_set stores low high to f sent.new.receiver sent.new.sender e.value e.front_len t some ∙ set_swap stores f to sent.new.sender sent.new.receiver places in
    subst (λ xs. DoSteps g.S.Store.view sent.result (ship_steps ship.from ship.to ship.fileset holding ship.number c.args.mover.now) stores xs) (sym made)
    (sent_does g.S.Store.view g.S.Store.tells stores sent.result ship c.args.mover.now (get_or high 0 c.index-high-0-then-to-from.result) (get_or low to c.index-low-to.result)
    sent.new.sender sent.new.receiver places sent.ensures tells sender receiver holding
    (high_there stores low high f c.index-high-0-then-to-from.result e.value e.front_len some)
    (low_there stores low high to c.index-low-to.result e.value (let l = e.front_len in omega (arith, t, l))) one two may)

pub returns-then-to-from-clause-goes_on : goal.returns-then-to-from-clause-goes_on
returns-then-to-from-clause-goes_on g c =
    let low = c.split_at_mut-low-then-to-from.result.0.now in
    let high = c.split_at_mut-low-then-to-from.result.1.now in
    let e = c.split_at_mut-low-then-to-from.ensures in
    let t = c.if-to-from.true in
    let f = c.args.ship.now.from.0 - 1 in
    let to = c.args.ship.now.to.0 - 1 in
    let stores = c.args.stores.now in
    let sent = c.send-then-to-from in
    let m = c.requires.may in
    let some : 0 < length high = (let b = e.back_len in let n = m.count in omega (arith, b, m.is_from.first, m.is_from.last, n)) in
    let places : f ≢ to = λ k. omega (arith, k, t) in
    let made = both_set stores low high to f sent.new.receiver sent.new.sender e.value e.front_len t some ∙ set_swap stores f to sent.new.sender sent.new.receiver places in
    subst (λ xs. AllGoOn g.S.Store.view (66 * batch_wear) sent.result stores xs) (sym made)
    (sent_goes g.S.Store.view g.S.Store.tells stores sent.result c.args.ship.now c.args.mover.now (get_or high 0 c.index-high-0-then-to-from.result) (get_or low to c.index-low-to.result)
    sent.new.sender sent.new.receiver m.is_from.first m.is_to.first places
    (all_mendable g.S.Store.view m.roster (2 ^ 46 + 2 ^ 14) stores m.are)
    (high_there stores low high f c.index-high-0-then-to-from.result e.value e.front_len some)
    (low_there stores low high to c.index-low-to.result e.value (let l = e.front_len in omega (arith, t, l))) sent.ensures)

pub returns-clause-goes_on : goal.returns-clause-goes_on
returns-clause-goes_on g c =
    none_goes g.S.Store.view (66 * batch_wear) tt c.args.stores.now (all_mendable g.S.Store.view c.requires.may.roster (2 ^ 46 + 2 ^ 14) c.args.stores.now c.requires.may.are)

pub returns-clause-does : goal.returns-clause-does
returns-clause-does g c tells sender receiver holding apart one two may =
    let a = c.if-from-to.false in
    let b = c.if-to-from.false in
    let m = c.requires.may in
    let from = m.is_from.first in
    let to = m.is_to.first in
    absurd (apart (omega (arith, a, b, from, to)))
