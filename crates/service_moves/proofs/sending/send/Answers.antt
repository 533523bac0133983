use Rattle.std.proofs.Common.{◌≡◌, ◌≤◌, ◌+◌, ◌*◌, [], ◌∷◌, take, inl, sym, subst, arith, rules}
use Rattle.std.specs.Prelude.{Ok}
use Rattle.store_acts.specs.declared.act.Act.TheVariants.{Left}
use Rattle.service_moves.specs.Again.{IsRepeatable}
use Rattle.service_moves.specs.Batches.{batch_wear}
use Rattle.service_moves.specs.Steps.{StopsAt}
use Rattle.store_laws.specs.Moves.{all_parts}
use Rattle.store_memory.specs.Sound.{IsLeavingOf}
use Rattle.store_memory.specs.Views.{DoesActs}
use Rattle.store_memory.proofs.Doing.{does_none, does_then}
use Rattle.store_state.specs.declared.state.Holding.{Holding}
use Rattle.service_moves.specs.Ships.{MaySend}
use Rattle.service_moves.proofs.Carried.{all_taken, left_again}
use Rattle.service_moves.proofs.Sent.{all_sent, failed_sent, has_sent, part_done}
use Rattle.service_moves.proofs.Twice.{made_of, never_ok}
use Rattle.service_moves.proofs.Stores.{if_err_then, lasts_more, lasts_none, lasts_then, on_ok, on_ok_then, stops_then}
use Rattle.service_moves.proofs.sending.send.Goals as goal

pub loop-at-init : goal.loop-at-init
loop-at-init g c = record {
  still = λ t. does_none _ (g.S.Store.view c.args.sender.now);
  does = λ t holding m. does_none _ (g.S.Store.view c.args.receiver.now);
  sends = c.requires.may.sends;
  takes = c.requires.may.takes;
  first = lasts_none (g.S.Store.view c.args.sender.now) c.requires.may.first_mends;
  second = lasts_none (g.S.Store.view c.args.receiver.now) c.requires.may.second_mends;
}

pub send_part-requires-clause-leaving : goal.send_part-requires-clause-leaving
send_part-requires-clause-leaving g c tells =
    let start = g.S.Store.view c.args.sender.now in
    let now = g.S.Store.view c.loop-at.sender in
    let same : now.state ≡ start.state = made_of tt [] start now (c.loop-at.invariant.still tells) in
    let low : c.loop-at.at ≤ c.args.ship.now.objects = (let t = c.loop-at-test.true in omega (arith, t)) in
    subst (λ s. IsLeavingOf s c.args.ship.now.fileset c.loop-at.at) (sym same) (c.requires.leaving tells c.loop-at.at low)

pub loop-at-preserved : goal.loop-at-preserved
loop-at-preserved g c =
    let inv = c.loop-at.invariant in
    let done = c.in_ok-send_part.ensures in
    let at = c.loop-at.at in
    let low : at ≤ c.args.ship.now.objects = (let t = c.loop-at-test.true in omega (arith, t)) in
    let more : batch_wear * at + batch_wear ≤ batch_wear * (at + 1) = omega arith in
    record {
      still = λ t. does_then tt (Ok tt) [] [] (g.S.Store.view c.args.sender.now) (g.S.Store.view c.loop-at.sender) (g.S.Store.view c.send_part.new.sender) (inv.still t) (done.sender t);
      does = λ t holding m.
          part_done _ (g.S.Store.view c.args.sender.now).state (g.S.Store.view c.loop-at.sender).state (g.S.Store.view c.args.receiver.now) (g.S.Store.view c.loop-at.receiver)
          (g.S.Store.view c.send_part.new.receiver) holding c.args.ship.now c.args.mover.now at m low (made_of tt [] (g.S.Store.view c.args.sender.now) (g.S.Store.view c.loop-at.sender) (inv.still t)) (inv.does t holding m)
          (done.receiver t);
      sends = done.first.ready inv.sends;
      takes = done.second.ready inv.takes;
      first = lasts_more (batch_wear * at + batch_wear) (batch_wear * (at + 1)) (g.S.Store.view c.args.sender.now) (g.S.Store.view c.send_part.new.sender) more
          (lasts_then (batch_wear * at) batch_wear (g.S.Store.view c.args.sender.now) (g.S.Store.view c.loop-at.sender) (g.S.Store.view c.send_part.new.sender) inv.first done.first.lasts);
      second = lasts_more (batch_wear * at + batch_wear) (batch_wear * (at + 1)) (g.S.Store.view c.args.receiver.now) (g.S.Store.view c.send_part.new.receiver) more
          (lasts_then (batch_wear * at) batch_wear (g.S.Store.view c.args.receiver.now) (g.S.Store.view c.loop-at.receiver) (g.S.Store.view c.send_part.new.receiver) inv.second done.second.lasts);
    }

pub returns-in_err-send_part : goal.returns-in_err-send_part
returns-in_err-send_part g c =
    let inv = c.loop-at.invariant in
    let done = c.in_err-send_part.ensures in
    let ship = c.args.ship.now in
    let at = c.loop-at.at in
    let low : at ≤ ship.objects = (let t = c.loop-at-test.true in omega (arith, t)) in
    let failed = never_ok c.from_residual.result _ c.from_residual.ensures.1 in
    let start = g.S.Store.view c.args.sender.now in
    let now = g.S.Store.view c.loop-at.sender in
    let end = g.S.Store.view c.send_part.new.sender in
    record {
      states = search rules;
      does = λ t holding m.
          failed_sent _ c.from_residual.result (all_parts holding ship.from ship.number c.args.mover.now) at (Left ship.fileset) start now end (g.S.Store.view c.args.receiver.now) (g.S.Store.view c.send_part.new.receiver) failed
          (part_done _ start.state now.state (g.S.Store.view c.args.receiver.now) (g.S.Store.view c.loop-at.receiver) (g.S.Store.view c.send_part.new.receiver) holding ship c.args.mover.now at m low
          (made_of tt [] start now (inv.still t)) (inv.does t holding m) (done.receiver t))
          (inv.still t) (done.sender t);
      first = search rules;
      second = search rules;
      stopped = search rules;
    }

pub returns : goal.returns
returns g c =
    let inv = c.loop-at.invariant in
    let done = c.do_act.ensures in
    let ship = c.args.ship.now in
    let at = c.loop-at.at in
    let count : at ≡ ship.objects + 1 = (let f = c.loop-at-test.false in let l = c.loop-at.auto.at-end in omega (arith, f, l)) in
    let few : batch_wear * at + batch_wear ≤ 66 * batch_wear = (let l = c.requires.limit in omega (arith, l, count)) in
    let less : batch_wear * at ≤ 66 * batch_wear = (let l = c.requires.limit in omega (arith, l, count)) in
    let start = g.S.Store.view c.args.sender.now in
    let now = g.S.Store.view c.loop-at.sender in
    let end = g.S.Store.view c.do_act.new.store in
    let sent = λ (t : g.S.Store.tells) (holding : Holding) (m : MaySend start.state (g.S.Store.view c.args.receiver.now).state holding ship c.args.mover.now).
    (let parts = all_parts holding ship.from ship.number c.args.mover.now in
    let so_far = inv.still t in
    let same : now.state ≡ start.state = made_of tt [] start now so_far in
    let left : DoesActs c.do_act.result (Left ship.fileset ∷ []) now end =
    done.does t tt (subst (λ s. IsRepeatable s (Left ship.fileset)) (sym same) (left_again start.state ship.fileset m.storable)) in
    all_sent c.do_act.result parts (take at parts) (Left ship.fileset) start now end (g.S.Store.view c.args.receiver.now) (g.S.Store.view c.loop-at.receiver)
    (all_taken start.state (g.S.Store.view c.args.receiver.now).state holding ship c.args.mover.now at m count) (inv.does t holding m) so_far left) in
    record {
      states = λ t holding m. has_sent c.do_act.result (all_parts holding ship.from ship.number c.args.mover.now) (Left ship.fileset) start (g.S.Store.view c.args.receiver.now) end (g.S.Store.view c.loop-at.receiver) (sent t holding m);
      does = λ t holding m. sent t holding m;
      first = record {
        lasts = lasts_more (batch_wear * at + batch_wear) (66 * batch_wear) start end few (lasts_then (batch_wear * at) batch_wear start now end inv.first done.goes_on.lasts);
        ready = on_ok_then c.do_act.result (now.ready → end.ready) (start.ready → end.ready) (λ f r. f inv.sends) done.goes_on.ready;
      };
      second = record {
        lasts = lasts_more (batch_wear * at) (66 * batch_wear) (g.S.Store.view c.args.receiver.now) (g.S.Store.view c.loop-at.receiver) less inv.second;
        ready = on_ok c.do_act.result _ (λ r. inv.takes);
      };
      stopped = if_err_then c.do_act.result (StopsAt ship.from now end) _ (λ stopped s. inl (stops_then ship.from start now end stopped inv.first.counted s)) done.stopped;
    }
