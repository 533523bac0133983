use Rattle.std.proofs.Common.{◌≡◌, ◌≤◌, ◌<◌, ◌+◌, ◌-◌, ◌*◌, ◌^◌, ◌∙◌, length, take, drop, slice_get, Some, refl, ap, sym, subst, arith}
use Rattle.std.specs.Prelude.{Ok, Err}
use Rattle.std.proofs.lemmas.List.{length-take}
use Rattle.std.proofs.lemmas.Option.{slice_get_read}
use Rattle.std.proofs.lemmas.Result.{err_from_is_err_and}
use Rattle.tree_answers.specs.declared.tree.Tree.{Tree}
use Rattle.tree_answers.specs.Histories.{after_history}
use Rattle.store_laws.specs.HistoryLaws.{IsGiven}
use Rattle.store_laws.specs.MovedLaws.{numbers_after}
use Rattle.service_moves.specs.Stores.{AreStores, states_of}
use Rattle.service_stores.proofs.Goes.{kept_to, legal_take, tree_to, two_there}
use Rattle.service_stores.proofs.Histories.{moves_at, roster_after}
use Rattle.service_moves.proofs.Twice.{never_ok}
use Rattle.service_stores.proofs.KeptSteps.{less_kept, to_does}
use Rattle.service_stores.proofs.KeepStores.{same_count, same_then, stopped_then, stores_more}
use Rattle.service_stores.proofs.Walk.{given_at}
use Rattle.service_stores.proofs.keeping.keep_to.Goals as goal

pub keep_quiet-requires-clause-stores : goal.keep_quiet-requires-clause-stores
keep_quiet-requires-clause-stores g c =
    stores_more g.S.Store.view c.args.tree.now.roster (2 ^ 45) (2 ^ 46) 1 c.args.stores.now (omega arith) c.requires.stores

pub keep_quiet-requires-clause-legal : goal.keep_quiet-requires-clause-legal
keep_quiet-requires-clause-legal g c =
    legal_take c.args.place c.args.history.now c.args.tree.now c.requires.happens.1.legal

pub keep_moved-requires-clause-count : goal.keep_moved-requires-clause-count
keep_moved-requires-clause-count g c =
    let tree = c.args.tree.now in
    let roster = ap (λ (t : Tree). t.roster) c.in_ok-follow_all.ensures ∙ roster_after (take c.args.place c.args.history.now) tree in
    same_count g.S.Store.view c.args.stores.now c.keep_quiet.new.stores c.keep_quiet.ensures.same ∙ c.requires.count
    ∙ ap (λ r. length r.capacity) (sym roster)

pub keep_moved-requires-clause-stores : goal.keep_moved-requires-clause-stores
keep_moved-requires-clause-stores g c =
    let tree = c.args.tree.now in
    let view = g.S.Store.view in
    let stores = c.keep_quiet.new.stores in
    let before = take c.args.place c.args.history.now in
    let roster = ap (λ (t : Tree). t.roster) c.in_ok-follow_all.ensures ∙ roster_after before tree in
    let n = length-take c.args.place c.args.history.now in
    let few = c.requires.few in
    let low : 2 ^ 45 + 2048 * length before ≤ 2 ^ 46 = omega (arith, n, few) in
    subst (λ r. AreStores view r (2 ^ 46) 1 stores) (sym roster)
    (stores_more view tree.roster (2 ^ 45 + 2048 * length before) (2 ^ 46) 1 stores low
    (c.in_ok-keep_quiet.ensures.stores (2 ^ 45) c.requires.stores))

pub keep_moved-requires-clause-given : goal.keep_moved-requires-clause-given
keep_moved-requires-clause-given g c =
    let tree = c.args.tree.now in
    let history = c.args.history.now in
    let entry = c.index-history-place.result in
    let may = c.requires.happens.1 in
    let roster = ap (λ (t : Tree). t.roster) c.in_ok-follow_all.ensures ∙ roster_after (take c.args.place history) tree in
    let two = two_there c.requires.happens.0 tree history c.args.place may c.requires.first in
    let lt : c.args.place < length history = omega (arith, two) in
    subst (λ r. IsGiven r entry) (sym roster)
    (given_at tree.roster history c.args.place entry lt c.index-history-place.is may.given)

pub returns-in_err-keep_moved-clause-same : goal.returns-in_err-keep_moved-clause-same
returns-in_err-keep_moved-clause-same g c =
    same_then g.S.Store.view c.args.stores.now c.keep_quiet.new.stores c.keep_moved.new.stores c.keep_quiet.ensures.same
    c.keep_moved.ensures.same

pub returns-in_err-keep_moved-clause-stopped : goal.returns-in_err-keep_moved-clause-stopped
returns-in_err-keep_moved-clause-stopped g c =
    let p = err_from_is_err_and c.from_residual-in_err-keep_moved.result c.from_residual-in_err-keep_moved.ensures.1 in
    rw (p.1, p.2)
    (stopped_then g.S.Store.tells g.S.Store.view c.args.stores.now c.keep_quiet.new.stores c.keep_moved.new.stores
    c.in_err-keep_moved.field-0.0 c.keep_quiet.ensures.same c.in_err-keep_moved.ensures.stopped)

pub slice_bounds-follow_all-end-2 : goal.slice_bounds-follow_all-end-2
slice_bounds-follow_all-end-2 g c =
    two_there c.requires.happens.0 c.args.tree.now c.args.history.now c.args.place c.requires.happens.1 c.requires.first

pub returns-in_err-follow_all-2-clause-same : goal.returns-in_err-follow_all-2-clause-same
returns-in_err-follow_all-2-clause-same g c =
    same_then g.S.Store.view c.args.stores.now c.keep_quiet.new.stores c.keep_moved.new.stores c.keep_quiet.ensures.same
    c.keep_moved.ensures.same

pub returns-clause-kept : goal.returns-clause-kept
returns-clause-kept g c told next may keep =
    let view = g.S.Store.view in
    let tree = c.args.tree.now in
    let middle = c.follow_all.new.tree in
    let last = c.follow_all-2.new.tree in
    let history = c.args.history.now in
    let place = c.args.place in
    let entry = c.index-history-place.result in
    let two = two_there next tree history place may c.requires.first in
    let lt : place < length history = omega (arith, two) in
    let there : slice_get history place ≡ Some entry =
    slice_get_read history (length history) place entry refl lt c.index-history-place.is in
    let n : (place + 2) - place ≡ 2 = omega arith in
    let f : last ≡ after_history middle (take 2 (drop place history)) =
    c.in_ok-follow_all-2.ensures ∙ ap (λ k. after_history middle (take k (drop place history))) n in
    kept_to next tree middle last history place entry (states_of view c.args.stores.now)
    (states_of view c.keep_quiet.new.stores) (states_of view c.keep_moved.new.stores) may c.requires.first there
    c.in_ok-follow_all.ensures f
    (λ happens kept. c.in_ok-keep_quiet.ensures.kept told next happens kept)
    (λ host k server name to fileset e formed kept moves number.
    c.in_ok-keep_moved.ensures.kept told (numbers_after next (take place history)) host k server name to fileset e formed
    kept moves number) keep

pub returns-clause-tree : goal.returns-clause-tree
returns-clause-tree g c =
    let middle = c.follow_all.new.tree in
    let last = c.follow_all-2.new.tree in
    let history = c.args.history.now in
    let place = c.args.place in
    let n : (place + 2) - place ≡ 2 = omega arith in
    let f : last ≡ after_history middle (take 2 (drop place history)) =
    c.in_ok-follow_all-2.ensures ∙ ap (λ k. after_history middle (take k (drop place history))) n in
    tree_to c.args.tree.now middle last history place c.in_ok-follow_all.ensures f

pub returns-clause-same : goal.returns-clause-same
returns-clause-same g c =
    same_then g.S.Store.view c.args.stores.now c.keep_quiet.new.stores c.keep_moved.new.stores c.keep_quiet.ensures.same
    c.keep_moved.ensures.same

pub returns-clause-stores : goal.returns-clause-stores
returns-clause-stores g c worn h =
    let view = g.S.Store.view in
    let tree = c.args.tree.now in
    let place = c.args.place in
    let before = take place c.args.history.now in
    let quiet = c.keep_quiet.new.stores in
    let moved = c.keep_moved.new.stores in
    let roster = ap (λ (t : Tree). t.roster) c.in_ok-follow_all.ensures ∙ roster_after before tree in
    let middle = worn + 2048 * length before in
    let n = length-take place c.args.history.now in
    let low : middle + 2048 ≤ worn + 2048 * (place + 2) = omega (arith, n) in
    stores_more view tree.roster (middle + 2048) (worn + 2048 * (place + 2)) 1 moved low
    (subst (λ r. AreStores view r (middle + 2048) 1 moved) roster
    (c.in_ok-keep_moved.ensures.stores middle
    (subst (λ r. AreStores view r middle 1 quiet) (sym roster) (c.in_ok-keep_quiet.ensures.stores worn h))))

pub returns-in_err-keep_quiet-clause-does : goal.returns-in_err-keep_quiet-clause-does
returns-in_err-keep_quiet-clause-does g c told next may keep =
    let tree = c.args.tree.now in
    let history = c.args.history.now in
    let place = c.args.place in
    let m = moves_at next tree history place may c.requires.first in
    less_kept g.S.Store.view _ c.from_residual.result tree history place (place + 2) c.args.stores.now c.keep_quiet.new.stores (never_ok c.from_residual.result _ c.from_residual.ensures.1) (omega arith)
    (c.in_err-keep_quiet.ensures.does told next m.splits.happens keep)

pub returns-in_err-follow_all-clause-does : goal.returns-in_err-follow_all-clause-does
returns-in_err-follow_all-clause-does g c told next may keep =
    let tree = c.args.tree.now in
    let history = c.args.history.now in
    let place = c.args.place in
    let m = moves_at next tree history place may c.requires.first in
    less_kept g.S.Store.view _ c.from_residual-in_err-follow_all.result tree history place (place + 2) c.args.stores.now c.keep_quiet.new.stores
    (never_ok c.from_residual-in_err-follow_all.result _ c.from_residual-in_err-follow_all.ensures.1) (omega arith) (c.in_ok-keep_quiet.ensures.does told next m.splits.happens keep)

pub returns-in_err-keep_moved-clause-does : goal.returns-in_err-keep_moved-clause-does
returns-in_err-keep_moved-clause-does g c told next may keep =
    let view = g.S.Store.view in
    let tree = c.args.tree.now in
    let history = c.args.history.now in
    let place = c.args.place in
    let entry = c.index-history-place.result in
    let two = two_there next tree history place may c.requires.first in
    let lt : place < length history = omega (arith, two) in
    let there : slice_get history place ≡ Some entry = slice_get_read history (length history) place entry refl lt c.index-history-place.is in
    less_kept view _ c.from_residual-in_err-keep_moved.result tree history (place + 2) (place + 2) c.args.stores.now c.keep_moved.new.stores
    (never_ok c.from_residual-in_err-keep_moved.result _ c.from_residual-in_err-keep_moved.ensures.1) (omega arith)
    (to_does view _ (Err c.in_err-keep_moved.field-0.0) next tree c.follow_all.new.tree history place entry c.args.stores.now c.keep_quiet.new.stores c.keep_moved.new.stores may c.requires.first there
    c.in_ok-follow_all.ensures (λ happens kept. c.in_ok-keep_quiet.ensures.kept told next happens kept)
    (λ host k server name to fileset e formed kept moves number. c.in_err-keep_moved.ensures.does told (numbers_after next (take place history)) host k server name to fileset e formed kept moves number)
    (λ happens. c.in_ok-keep_quiet.ensures.does told next happens keep) keep)

pub returns-in_err-follow_all-2-clause-does : goal.returns-in_err-follow_all-2-clause-does
returns-in_err-follow_all-2-clause-does g c told next may keep =
    let view = g.S.Store.view in
    let tree = c.args.tree.now in
    let history = c.args.history.now in
    let place = c.args.place in
    let entry = c.index-history-place.result in
    let two = two_there next tree history place may c.requires.first in
    let lt : place < length history = omega (arith, two) in
    let there : slice_get history place ≡ Some entry = slice_get_read history (length history) place entry refl lt c.index-history-place.is in
    less_kept view _ c.from_residual-in_err-follow_all-2.result tree history (place + 2) (place + 2) c.args.stores.now c.keep_moved.new.stores
    (never_ok c.from_residual-in_err-follow_all-2.result _ c.from_residual-in_err-follow_all-2.ensures.1) (omega arith)
    (to_does view _ (Ok c.in_ok-keep_moved.field-0) next tree c.follow_all.new.tree history place entry c.args.stores.now c.keep_quiet.new.stores c.keep_moved.new.stores may c.requires.first there
    c.in_ok-follow_all.ensures (λ happens kept. c.in_ok-keep_quiet.ensures.kept told next happens kept)
    (λ host k server name to fileset e formed kept moves number. c.in_ok-keep_moved.ensures.does told (numbers_after next (take place history)) host k server name to fileset e formed kept moves number)
    (λ happens. c.in_ok-keep_quiet.ensures.does told next happens keep) keep)

pub returns-clause-does : goal.returns-clause-does
returns-clause-does g c told next may keep =
    let view = g.S.Store.view in
    let tree = c.args.tree.now in
    let history = c.args.history.now in
    let place = c.args.place in
    let entry = c.index-history-place.result in
    let two = two_there next tree history place may c.requires.first in
    let lt : place < length history = omega (arith, two) in
    let there : slice_get history place ≡ Some entry = slice_get_read history (length history) place entry refl lt c.index-history-place.is in
    to_does view _ (Ok tt) next tree c.follow_all.new.tree history place entry c.args.stores.now c.keep_quiet.new.stores c.keep_moved.new.stores may c.requires.first there
    c.in_ok-follow_all.ensures (λ happens kept. c.in_ok-keep_quiet.ensures.kept told next happens kept)
    (λ host k server name to fileset e formed kept moves number. c.in_ok-keep_moved.ensures.does told (numbers_after next (take place history)) host k server name to fileset e formed kept moves number)
    (λ happens. c.in_ok-keep_quiet.ensures.does told next happens keep) keep
