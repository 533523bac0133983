use Rattle.std.proofs.Common.{◌≡◌, ◌≤◌, ◌+◌, ◌*◌, ◌^◌, ◌∙◌, OnOk, Some, None, [], ◌++◌, length, take, drop, refl, ap, sym, subst, arith}
use Rattle.std.specs.List.{position}
use Rattle.std.specs.Prelude.{Ok, Err}
use Rattle.std.proofs.Math.Seq.{take-length}
use Rattle.std.proofs.lemmas.List.{take_rest, length-take, length-drop}
use Rattle.std.proofs.lemmas.Result.{IfErr-weaker, err_from_is_err_and, on_ok_weaker}
use Rattle.tree_answers.specs.declared.tree.Tree.{Tree}
use Rattle.tree_answers.specs.Histories.{after_history}
use Rattle.store_laws.specs.HistoryLaws.{Happens}
use Rattle.store_laws.specs.Happening.{MayHappen}
use Rattle.store_laws.specs.MoveKeeping.{KeepAll}
use Rattle.store_laws.specs.MovedLaws.{moves_one, numbers_after}
use Rattle.service_moves.specs.Stopping.{IsStopped}
use Rattle.service_moves.specs.Stores.{AreStores, states_of}
use Rattle.service_stores.proofs.Goes.{goes_may, goes_tree, goes_within}
use Rattle.service_stores.proofs.Histories.{after_all, moves_nothing, numbers_all, numbers_both, roster_after}
use Rattle.service_moves.specs.declared.stopped.RunStopped.{RunStopped}
use Rattle.service_moves.specs.Plans.{states_at}
use Rattle.service_moves.proofs.Doing.{steps_none, steps_ok}
use Rattle.service_moves.proofs.Twice.{never_ok}
use Rattle.service_stores.proofs.Doing.{steps_failed}
use Rattle.service_stores.specs.Plans.{AreOfHistory, KeepsHistory}
use Rattle.service_stores.proofs.KeptSteps.{kept_more, none_behind, take_both}
use Rattle.service_stores.proofs.Planned.{last_number, no_history, number_both, number_none}
use Rattle.service_stores.proofs.KeepStores.{same_count, same_stores, same_then, stopped_then, stores_asked, stores_more}
use Rattle.service_stores.proofs.keeping.keep_all.Goals as goal

pub loop-place-init : goal.loop-place-init
loop-place-init g c = record {
  within = omega arith;
  tree = refl;
  may = c.requires.happens;
  kept = λ told keep. keep;
  cut = number_none;
  does = λ told keep. ([], no_history c.args.tree.now (states_at g.S.Store.view c.args.stores.now), steps_none g.S.Store.view (Ok tt) c.args.stores.now);
  same = same_stores g.S.Store.view c.args.tree.now.roster (2 ^ 40) 1 c.args.stores.now c.requires.stores;
  stores = c.requires.stores;
}

pub keep_to-requires-clause-count : goal.keep_to-requires-clause-count
keep_to-requires-clause-count g c =
    let inv = c.loop-place.invariant in
    let roster = ap (λ (t : Tree). t.roster) inv.tree ∙ roster_after (take c.loop-place.from c.args.history.now) c.args.tree.now in
    same_count g.S.Store.view c.args.stores.now c.loop-place.stores inv.same ∙ c.requires.count
    ∙ ap (λ r. length r.capacity) (sym roster)

pub keep_to-requires-clause-stores : goal.keep_to-requires-clause-stores
keep_to-requires-clause-stores g c =
    let inv = c.loop-place.invariant in
    let from = c.loop-place.from in
    let roster = ap (λ (t : Tree). t.roster) inv.tree ∙ roster_after (take from c.args.history.now) c.args.tree.now in
    let within = inv.within in
    let few = c.requires.few in
    let low : 2 ^ 40 + 2048 * from ≤ 2 ^ 45 = omega (arith, within, few) in
    subst (λ r. AreStores g.S.Store.view r (2 ^ 45) 1 c.loop-place.stores) (sym roster)
    (stores_more g.S.Store.view c.args.tree.now.roster (2 ^ 40 + 2048 * from) (2 ^ 45) 1 c.loop-place.stores low inv.stores)

pub returns-in_err-keep_to-clause-same : goal.returns-in_err-keep_to-clause-same
returns-in_err-keep_to-clause-same g c =
    same_then g.S.Store.view c.args.stores.now c.loop-place.stores c.keep_to.new.stores c.loop-place.invariant.same
    c.keep_to.ensures.same

pub returns-in_err-keep_to-clause-stopped : goal.returns-in_err-keep_to-clause-stopped
returns-in_err-keep_to-clause-stopped g c =
    let p = err_from_is_err_and c.from_residual.result c.from_residual.ensures.1 in
    rw (p.1, p.2)
    (stopped_then g.S.Store.tells g.S.Store.view c.args.stores.now c.loop-place.stores c.keep_to.new.stores
    c.in_err-keep_to.field-0.0 c.loop-place.invariant.same c.in_err-keep_to.ensures.stopped)

pub loop-place-preserved : goal.loop-place-preserved
loop-place-preserved g c =
    let view = g.S.Store.view in
    let inv = c.loop-place.invariant in
    let start = c.args.tree.now in
    let tree = c.loop-place.tree in
    let now = c.keep_to.new.tree in
    let history = c.args.history.now in
    let from = c.loop-place.from in
    let place = c.in-Some.place in
    let numbers = numbers_after (λ host. 1) (take from history) in
    let states = states_of view c.keep_to.new.stores in
    let rest = take_rest history from in
    let at = subst (λ entries. position moves_one entries ≡ Some place) rest (sym c.in-Some.ensures) in
    let e = c.in_ok-keep_to.ensures.tree ∙ ap (λ entries. after_history tree (take (place + 2) entries)) rest in
    let may = subst (MayHappen numbers tree) (sym rest) inv.may in
    let roster = ap (λ (t : Tree). t.roster) inv.tree ∙ roster_after (take from history) start in
    let worn = 2 ^ 40 + 2048 * from in
    let low : worn + 2048 * (place + 2) ≤ 2 ^ 40 + 2048 * (from + (place + 2)) = omega arith in
    record {
      within = goes_within numbers tree history from place inv.within inv.may at;
      tree = goes_tree start tree now history from (place + 2) inv.tree e;
      may = goes_may (λ host. 1) tree now history from place inv.may at e;
      kept = λ told keep.
          subst (λ n. KeepAll n now states) (sym (numbers_both (λ host. 1) from (place + 2) history))
          (subst (λ entries. KeepAll (numbers_after numbers (take (place + 2) entries)) now states) rest
          (c.in_ok-keep_to.ensures.kept told numbers may (inv.kept told keep)));
      cut =
          ap (last_number None) (sym (take_both from (place + 2) history)) ∙ number_both None (take from history) (take (place + 2) (drop from history))
          ∙ ap (λ n. last_number n (take (place + 2) (drop from history))) inv.cut ∙ none_behind numbers tree (drop from history) place None inv.may at;
      does = λ told keep.
          (let so_far = inv.does told keep in
          let d = subst (λ entries. KeepsHistory {E = RunStopped} view (Ok c.in_ok-keep_to.field-0) tree (take (place + 2) entries) c.loop-place.stores c.keep_to.new.stores) rest (c.in_ok-keep_to.ensures.does told numbers may (inv.kept told keep)) in
          let more = kept_more view (Ok c.in_ok-keep_to.field-0) start tree history from (place + 2) c.args.stores.now c.loop-place.stores c.keep_to.new.stores so_far.0 inv.tree inv.cut so_far.1 so_far.2 d in
          let size = length-take (place + 2) (drop from history) in
          let behind = length-drop from history in
          let within = goes_within numbers tree history from place inv.within inv.may at in
          let count : d.count ≡ place + 2 = (let e = d.all in omega (arith, e, size, behind, within)) in (
            so_far.0 ++ d.steps,
            subst (λ n. AreOfHistory start (take (from + n) history) (states_at view c.args.stores.now) (so_far.0 ++ d.steps)) count more.0,
            steps_ok view c.in_ok-keep_to.field-0 tt (so_far.0 ++ d.steps) c.args.stores.now c.keep_to.new.stores more.1,
          ));
      same = same_then view c.args.stores.now c.loop-place.stores c.keep_to.new.stores inv.same c.keep_to.ensures.same;
      stores =
          stores_more view start.roster (worn + 2048 * (place + 2)) (2 ^ 40 + 2048 * (from + (place + 2))) 1 c.keep_to.new.stores low
          (subst (λ r. AreStores view r (worn + 2048 * (place + 2)) 1 c.keep_to.new.stores) roster
          (c.in_ok-keep_to.ensures.stores worn
          (subst (λ r. AreStores view r worn 1 c.loop-place.stores) (sym roster) inv.stores)));
    }

pub keep_quiet-requires-clause-count : goal.keep_quiet-requires-clause-count
keep_quiet-requires-clause-count g c =
    let inv = c.loop-place.invariant in
    let roster = ap (λ (t : Tree). t.roster) inv.tree ∙ roster_after (take c.loop-place.from c.args.history.now) c.args.tree.now in
    same_count g.S.Store.view c.args.stores.now c.loop-place.stores inv.same ∙ c.requires.count
    ∙ ap (λ r. length r.capacity) (sym roster)

pub keep_quiet-requires-clause-stores : goal.keep_quiet-requires-clause-stores
keep_quiet-requires-clause-stores g c =
    let inv = c.loop-place.invariant in
    let from = c.loop-place.from in
    let roster = ap (λ (t : Tree). t.roster) inv.tree ∙ roster_after (take from c.args.history.now) c.args.tree.now in
    let within = inv.within in
    let few = c.requires.few in
    let low : 2 ^ 40 + 2048 * from ≤ 2 ^ 46 = omega (arith, within, few) in
    subst (λ r. AreStores g.S.Store.view r (2 ^ 46) 1 c.loop-place.stores) (sym roster)
    (stores_more g.S.Store.view c.args.tree.now.roster (2 ^ 40 + 2048 * from) (2 ^ 46) 1 c.loop-place.stores low inv.stores)

pub returns-clause-kept : goal.returns-clause-kept
returns-clause-kept g c told keep =
    let view = g.S.Store.view in
    let inv = c.loop-place.invariant in
    let start = c.args.tree.now in
    let tree = c.loop-place.tree in
    let history = c.args.history.now in
    let from = c.loop-place.from in
    let rest = drop from history in
    let states = states_of view c.keep_quiet.new.stores in
    let numbers = numbers_after (λ host. 1) (take from history) in
    let all = take_rest history from in
    let none : position moves_one rest ≡ None =
    subst (λ entries. position moves_one entries ≡ None) all (sym c.first_move.ensures ∙ c.in_default.is) in
    let happens = subst (Happens numbers tree) (sym all) (moves_nothing numbers tree rest inv.may none) in
    let trees : after_history tree rest ≡ after_history start history =
    ap (λ t. after_history t rest) inv.tree ∙ after_all start from history in
    subst (λ n. OnOk c.keep_quiet.result (KeepAll n (after_history start history) states)) (numbers_all (λ host. 1) from history)
    (subst (λ t. OnOk c.keep_quiet.result (KeepAll (numbers_after numbers rest) t states)) trees
    (subst (λ entries. OnOk c.keep_quiet.result (KeepAll (numbers_after numbers entries) (after_history tree entries) states)) all
    (c.keep_quiet.ensures.kept told numbers happens (inv.kept told keep))))

pub returns-clause-same : goal.returns-clause-same
returns-clause-same g c =
    same_then g.S.Store.view c.args.stores.now c.loop-place.stores c.keep_quiet.new.stores c.loop-place.invariant.same
    c.keep_quiet.ensures.same

pub returns-clause-stopped : goal.returns-clause-stopped
returns-clause-stopped g c =
    let view = g.S.Store.view in
    let tells = g.S.Store.tells in
    let old = c.args.stores.now in
    let now = c.loop-place.stores in
    let new = c.keep_quiet.new.stores in
    IfErr-weaker c.keep_quiet.result (IsStopped tells view [] now new) (IsStopped tells view [] old new)
    (λ why stopped. stopped_then tells view old now new why c.loop-place.invariant.same stopped) c.keep_quiet.ensures.stopped

pub returns-clause-ready : goal.returns-clause-ready
returns-clause-ready g c =
    let view = g.S.Store.view in
    let inv = c.loop-place.invariant in
    let from = c.loop-place.from in
    let roster = ap (λ (t : Tree). t.roster) inv.tree ∙ roster_after (take from c.args.history.now) c.args.tree.now in
    on_ok_weaker c.keep_quiet.result (λ are. stores_asked view _ _ 1 c.keep_quiet.new.stores are)
    (c.keep_quiet.ensures.stores (2 ^ 40 + 2048 * from)
    (subst (λ r. AreStores view r (2 ^ 40 + 2048 * from) 1 c.loop-place.stores) (sym roster) inv.stores))

pub returns-in_err-keep_to-clause-does : goal.returns-in_err-keep_to-clause-does
returns-in_err-keep_to-clause-does g c told keep =
    let view = g.S.Store.view in
    let inv = c.loop-place.invariant in
    let start = c.args.tree.now in
    let tree = c.loop-place.tree in
    let history = c.args.history.now in
    let from = c.loop-place.from in
    let place = c.in-Some.place in
    let numbers = numbers_after (λ host. 1) (take from history) in
    let rest = take_rest history from in
    let may = subst (MayHappen numbers tree) (sym rest) inv.may in
    let so_far = inv.does told keep in
    let why = c.in_err-keep_to.field-0.0 in
    let d = subst (λ entries. KeepsHistory {T = Unit {0}} view (Err why) tree (take (place + 2) entries) c.loop-place.stores c.keep_to.new.stores) rest (c.in_err-keep_to.ensures.does told numbers may (inv.kept told keep)) in
    let more = kept_more view (Err why) start tree history from (place + 2) c.args.stores.now c.loop-place.stores c.keep_to.new.stores so_far.0 inv.tree inv.cut so_far.1 so_far.2 d in
    let size = length-take (place + 2) (drop from history) in
    let behind = length-drop from history in
    let within = inv.within in
    let few = d.within in
    let failed = never_ok c.from_residual.result _ c.from_residual.ensures.1 in
    record {
      count = from + d.count;
      within = omega (arith, few, size, behind, within);
      all = on_ok_weaker c.from_residual.result (λ (never : ⊥). absurd never) failed;
      steps = so_far.0 ++ d.steps;
      are = more.0;
      does = steps_failed view (Err why) c.from_residual.result (so_far.0 ++ d.steps) c.args.stores.now c.keep_to.new.stores failed more.1;
    }

pub returns-clause-does : goal.returns-clause-does
returns-clause-does g c told keep =
    let view = g.S.Store.view in
    let inv = c.loop-place.invariant in
    let start = c.args.tree.now in
    let tree = c.loop-place.tree in
    let history = c.args.history.now in
    let from = c.loop-place.from in
    let rest = drop from history in
    let numbers = numbers_after (λ host. 1) (take from history) in
    let all = take_rest history from in
    let none : position moves_one rest ≡ None =
    subst (λ entries. position moves_one entries ≡ None) all (sym c.first_move.ensures ∙ c.in_default.is) in
    let happens = subst (Happens numbers tree) (sym all) (moves_nothing numbers tree rest inv.may none) in
    let so_far = inv.does told keep in
    let d0 = subst (λ entries. KeepsHistory view c.keep_quiet.result tree entries c.loop-place.stores c.keep_quiet.new.stores) all (c.keep_quiet.ensures.does told numbers happens (inv.kept told keep)) in
    let d = subst (λ entries. KeepsHistory view c.keep_quiet.result tree entries c.loop-place.stores c.keep_quiet.new.stores) (sym (take-length rest)) d0 in
    let more = kept_more view c.keep_quiet.result start tree history from (length rest) c.args.stores.now c.loop-place.stores c.keep_quiet.new.stores so_far.0 inv.tree inv.cut so_far.1 so_far.2 d in
    let size = length-take (length rest) rest in
    let behind = length-drop from history in
    let within = inv.within in
    let few = d.within in
    record {
      count = from + d.count;
      within = omega (arith, few, size, behind, within);
      all = on_ok_weaker c.keep_quiet.result (λ (e : d.count ≡ length (take (length rest) rest)). omega (arith, e, size, behind, within)) d.all;
      steps = so_far.0 ++ d.steps;
      are = more.0;
      does = more.1;
    }
