use Rattle.std.proofs.Common.{◌^◌, OnOk, subst}
use Rattle.tree_answers.specs.declared.tree.Tree.{Tree}
use Rattle.tree_answers.specs.Histories.{after_history}
use Rattle.store_laws.specs.Shape.{number_after}
use Rattle.store_laws.specs.MoveKeeping.{KeepAll}
use Rattle.service_moves.specs.Stores.{states_of}
use Rattle.service_moves.proofs.Twice.{never_ok}
use Rattle.service_stores.specs.Plans.{KeepsHistory}
use Rattle.service_stores.proofs.KeptSteps.{none_kept}
use Rattle.service_stores.proofs.KeepStores.{same_stores}
use Rattle.service_stores.proofs.keeping.keep.Goals as goal

pub returns-then-history-gt-ENTRIES_MAX-clause-same : goal.returns-then-history-gt-ENTRIES_MAX-clause-same
returns-then-history-gt-ENTRIES_MAX-clause-same g c =
    same_stores g.S.Store.view c.args.start.now.roster (2 ^ 40) 1 c.args.stores.now c.requires.stores

pub returns-in_err-tree-clause-same : goal.returns-in_err-tree-clause-same
returns-in_err-tree-clause-same g c =
    same_stores g.S.Store.view c.args.start.now.roster (2 ^ 40) 1 c.args.stores.now c.requires.stores

pub returns-clause-kept : goal.returns-clause-kept
returns-clause-kept g c told keep =
    let view = g.S.Store.view in
    let history = c.args.history.now in
    subst (λ (t : Tree). KeepAll (λ host. 1) t (states_of view c.args.stores.now) → OnOk c.keep_all.result (KeepAll
    (λ host. number_after host 1 history) (after_history t history) (states_of view c.keep_all.new.stores)))
    c.in_ok-tree.ensures (c.keep_all.ensures.kept told) keep

pub returns-then-history-gt-ENTRIES_MAX-clause-does : goal.returns-then-history-gt-ENTRIES_MAX-clause-does
returns-then-history-gt-ENTRIES_MAX-clause-does g c told keep = none_kept g.S.Store.view _ c.args.start.now c.args.history.now c.args.stores.now tt

pub returns-in_err-tree-clause-does : goal.returns-in_err-tree-clause-does
returns-in_err-tree-clause-does g c told keep =
    none_kept g.S.Store.view c.from_residual.result c.args.start.now c.args.history.now c.args.stores.now (never_ok c.from_residual.result _ c.from_residual.ensures.1)

pub returns-clause-does : goal.returns-clause-does
returns-clause-does g c told keep =
    let view = g.S.Store.view in
    let history = c.args.history.now in
    subst (λ (t : Tree). KeepAll (λ host. 1) t (states_of view c.args.stores.now) → KeepsHistory view c.keep_all.result t history c.args.stores.now c.keep_all.new.stores)
    c.in_ok-tree.ensures (c.keep_all.ensures.does told) keep
