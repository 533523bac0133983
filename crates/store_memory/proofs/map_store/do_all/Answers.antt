use Rattle.std.proofs.Common.{◌+◌, ◌++◌, ◌∷◌, [], take, sym, ap, ◌∙◌, arith}
use Rattle.store_acts.specs.Acts.{act_done, dones_of}
use Rattle.store_memory.proofs.Batches.{Reached, reached_next, dones_next, on_err}
use Rattle.store_memory.proofs.map_store.do_all.Goals as goal

pub returns-in_err-push-clause-fault : goal.returns-in_err-push-clause-fault
returns-in_err-push-clause-fault c =
    let inv = c.loop-act.invariant in
    let before : Reached c.args.state.now c.loop-act.state c.args.batch.now c.loop-act.act-index =
    record { state = inv.state; server = inv.server; roster = inv.roster; limits = inv.limits; counts = inv.counts } in
    let next = reached_next c.args.state.now c.loop-act.state c.apply_act.new.state c.args.batch.now c.loop-act.act-index
    c.act-item.result
    before c.requires.acts.each c.loop-act-test.true c.act-item.is c.in_ok-done.ensures.state in
    let low = c.loop-act-test.true in
    on_err c.from_residual-in_err-push.result _ (c.loop-act.act-index + 1, omega (arith, low), next.state)

pub returns-in_err-push-clause-server : goal.returns-in_err-push-clause-server
returns-in_err-push-clause-server c =
    let inv = c.loop-act.invariant in
    let before : Reached c.args.state.now c.loop-act.state c.args.batch.now c.loop-act.act-index =
    record { state = inv.state; server = inv.server; roster = inv.roster; limits = inv.limits; counts = inv.counts } in
    (reached_next c.args.state.now c.loop-act.state c.apply_act.new.state c.args.batch.now c.loop-act.act-index c.act-item.result
    before c.requires.acts.each c.loop-act-test.true c.act-item.is c.in_ok-done.ensures.state).server

pub returns-in_err-push-clause-roster : goal.returns-in_err-push-clause-roster
returns-in_err-push-clause-roster c =
    let inv = c.loop-act.invariant in
    let before : Reached c.args.state.now c.loop-act.state c.args.batch.now c.loop-act.act-index =
    record { state = inv.state; server = inv.server; roster = inv.roster; limits = inv.limits; counts = inv.counts } in
    (reached_next c.args.state.now c.loop-act.state c.apply_act.new.state c.args.batch.now c.loop-act.act-index c.act-item.result
    before c.requires.acts.each c.loop-act-test.true c.act-item.is c.in_ok-done.ensures.state).roster

pub returns-in_err-push-clause-limits : goal.returns-in_err-push-clause-limits
returns-in_err-push-clause-limits c =
    let inv = c.loop-act.invariant in
    let before : Reached c.args.state.now c.loop-act.state c.args.batch.now c.loop-act.act-index =
    record { state = inv.state; server = inv.server; roster = inv.roster; limits = inv.limits; counts = inv.counts } in
    (reached_next c.args.state.now c.loop-act.state c.apply_act.new.state c.args.batch.now c.loop-act.act-index c.act-item.result
    before c.requires.acts.each c.loop-act-test.true c.act-item.is c.in_ok-done.ensures.state).limits

pub returns-in_err-push-clause-counts : goal.returns-in_err-push-clause-counts
returns-in_err-push-clause-counts c =
    let inv = c.loop-act.invariant in
    let before : Reached c.args.state.now c.loop-act.state c.args.batch.now c.loop-act.act-index =
    record { state = inv.state; server = inv.server; roster = inv.roster; limits = inv.limits; counts = inv.counts } in
    let next = reached_next c.args.state.now c.loop-act.state c.apply_act.new.state c.args.batch.now c.loop-act.act-index
    c.act-item.result
    before c.requires.acts.each c.loop-act-test.true c.act-item.is c.in_ok-done.ensures.state in
    let most = next.counts in let low = c.loop-act-test.true in omega (arith, most, low)

pub loop-act-preserved : goal.loop-act-preserved
loop-act-preserved c =
    let inv = c.loop-act.invariant in
    let before : Reached c.args.state.now c.loop-act.state c.args.batch.now c.loop-act.act-index =
    record { state = inv.state; server = inv.server; roster = inv.roster; limits = inv.limits; counts = inv.counts } in
    let next = reached_next c.args.state.now c.loop-act.state c.apply_act.new.state c.args.batch.now c.loop-act.act-index
    c.act-item.result
    before c.requires.acts.each c.loop-act-test.true c.act-item.is c.in_ok-done.ensures.state in
    let first = dones_of c.args.state.now (take c.loop-act.act-index c.args.batch.now) in
    record {
      state = next.state;
      dones =
          c.in_ok-push.ensures.ok
          ∙ ap (λ dones. dones ++ c.in_ok-done.done ∷ []) inv.dones
          ∙ ap (λ done. first ++ done ∷ [])
          (c.in_ok-done.ensures.done ∙ ap (λ x. (act_done x c.act-item.result).done) inv.state)
          ∙ sym (dones_next c.args.batch.now c.loop-act.act-index c.act-item.result c.args.state.now
          c.loop-act-test.true c.act-item.is);
      server = next.server;
      roster = next.roster;
      limits = next.limits;
      counts = next.counts;
    }
