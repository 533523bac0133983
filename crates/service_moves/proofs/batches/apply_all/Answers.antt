use Rattle.std.proofs.Common.{◌+◌, ◌*◌, ◌++◌, ◌∙◌, take, drop, refl, subst, arith}
use Rattle.std.specs.Prelude.{Ok}
use Rattle.store_memory.specs.Views.{DoesActs}
use Rattle.store_memory.specs.declared.store.StoreFault.{StoreFault}
use Rattle.store_memory.proofs.Doing.{does_none, does_then}
use Rattle.service_moves.proofs.Tries.{batch_again, batch_in, take_all, take_batch, take_to, take_rest}
use Rattle.service_moves.proofs.Twice.{made_of, never_ok, stops_failed}
use Rattle.service_moves.proofs.batches.apply_all.Goals as goal

pub loop-at-init : goal.loop-at-init
loop-at-init g c = record {
  does = λ tells fits new. does_none _ (g.S.Store.view c.args.store.now);
  same = record { server = refl; roster = refl };
  ready = c.requires.ready;
  mendable = c.requires.mendable;
  wear = omega arith;
  counted = omega arith;
}

pub returns-in_err-apply_batch-clause-does : goal.returns-in_err-apply_batch-clause-does
returns-in_err-apply_batch-clause-does g c tells fits new =
    let start = g.S.Store.view c.args.store.now in
    let now = g.S.Store.view c.loop-at.store in
    let next = g.S.Store.view c.apply_batch.new.store in
    let acts = c.args.acts.now in
    let from = c.loop-at.at * 8 in
    let to = c.min-to.result in
    let so_far = c.loop-at.invariant.does tells fits new in
    let low = c.loop-at-test.true in
    let count = c.div_ceil-at-end.ensures in
    let end = c.min-to.ensures in
    let failed = c.in_err-apply_batch.ensures.does tells (batch_again start.state now.state acts from to (made_of _ (take from acts) start now so_far) fits new) in
    let both = does_then tt _ (take from acts) (batch_in acts from to) start now next so_far failed in
    subst (λ l. DoesActs c.from_residual.result l start next) (take_rest acts from to (omega (arith, low, count, end)))
    (stops_failed _ c.from_residual.result (take from acts ++ batch_in acts from to) (drop to acts) start next (never_ok c.from_residual.result _ c.from_residual.ensures.1) both)

pub loop-at-preserved : goal.loop-at-preserved
loop-at-preserved g c =
    let inv = c.loop-at.invariant in
    let done = c.in_ok-apply_batch.ensures in
    let to = c.min-to.result in
    record {
      does = λ tells fits new.
          (let start = g.S.Store.view c.args.store.now in
          let now = g.S.Store.view c.loop-at.store in
          let next = g.S.Store.view c.apply_batch.new.store in
          let acts = c.args.acts.now in
          let from = c.loop-at.at * 8 in
          let so_far = inv.does tells fits new in
          let low = c.loop-at-test.true in
          let count = c.div_ceil-at-end.ensures in
          let end = c.min-to.ensures in
          let made = done.does tells (batch_again start.state now.state acts from to (made_of _ (take from acts) start now so_far) fits new) in
          subst (λ l. DoesActs {E = StoreFault} (Ok tt) l start next) (take_batch acts from to (omega (arith, low, count, end)) ∙ take_to acts to ((c.loop-at.at + 1) * 8) (omega (arith, end)))
          (does_then tt _ (take from acts) (batch_in acts from to) start now next so_far made));
      same = record {
        server = c.in_ok-apply_batch.ensures.same.server ∙ inv.same.server;
        roster = c.in_ok-apply_batch.ensures.same.roster ∙ inv.same.roster;
      };
      ready = c.in_ok-apply_batch.ensures.ready;
      mendable = c.in_ok-apply_batch.ensures.mendable;
      wear = (let a = c.in_ok-apply_batch.ensures.wear in let b = inv.wear in omega (arith, a, b));
      counted = (let a = c.in_ok-apply_batch.ensures.blame.counted in let b = inv.counted in omega (arith, a, b));
    }

pub returns-clause-does : goal.returns-clause-does
returns-clause-does g c tells fits new =
    let acts = c.args.acts.now in
    let past = c.loop-at-test.false in
    let count = c.div_ceil-at-end.ensures in
    subst (λ l. DoesActs {T = Unit {0}} {E = StoreFault} (Ok tt) l (g.S.Store.view c.args.store.now) (g.S.Store.view c.loop-at.store)) (take_all (c.loop-at.at * 8) acts (omega (arith, past, count))) (c.loop-at.invariant.does tells fits new)
