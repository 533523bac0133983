use Rattle.std.proofs.Common.{◌≡◌, ◌^◌, List, sym, subst}
use Rattle.std.specs.Prelude.{Ok, Err}
use Rattle.service_moves.specs.Stores.{states_of}
use Rattle.service_moves.specs.declared.stopped.RunStopped.{RunStopped}
use Rattle.service_plain.specs.Played.{IsPlayed}
use Rattle.service_stores.proofs.Whole.{runs_may_happen}
use Rattle.service_stores.specs.Plans.{KeepsHistory}
use Rattle.store_laws.specs.Happening.{MayHappen}
use Rattle.store_laws.specs.MoveKeeping.{KeepAll}
use Rattle.store_laws.specs.Shape.{number_after}
use Rattle.tree_answers.specs.Histories.{after_history}
use Rattle.tree_calls.specs.declared.entry.Entry.{Entry}
use Rattle.service_run.proofs.Hosts.{run_idle, run_kept, run_unkept}
use Rattle.service_run.proofs.disks.play_over.Goals as goal

pub returns-in_default : goal.returns-in_default
returns-in_default g c = run_idle g.S.Store.view g.S.Store.tells (λ stores. ⊥) c.args.script.now c.args.start (2 ^ 40)
    c.args.stores.now c.requires.stores

pub keep-requires-clause-happens : goal.keep-requires-clause-happens
keep-requires-clause-happens g c =
    subst (λ (l : List Entry). MayHappen (λ host. 1) c.in-Ok.played.start l) (sym c.as_slice.ensures)
    (runs_may_happen c.args.script.now c.in-Ok.played c.requires.sound c.requires.sayable
    c.in-Ok.ensures.played)

pub returns-in-Ok-keep : goal.returns-in-Ok-keep
returns-in-Ok-keep g c =
    (let view = g.S.Store.view in
    let run = c.in-Ok.played in
    let olds = c.args.stores.now in
    let news = c.keep.new.stores in
    run_kept view g.S.Store.tells (λ stores. ⊥) c.args.script.now c.args.start olds news run c.requires.moves
    c.in-Ok.ensures c.in-Ok-keep.ensures.same c.requires.kept
    (λ told held.
    subst (λ (l : List Entry). KeepAll (λ host. number_after host 1 l) (after_history run.start l)
    (states_of view news)) c.as_slice.ensures (c.in-Ok-keep.ensures.kept told held))
    c.in-Ok-keep.ensures.ready
    (λ told held.
    subst (λ (l : List Entry). KeepsHistory {T = Unit {0}} {E = RunStopped} view (Ok tt) run.start l olds news)
    c.as_slice.ensures (c.in-Ok-keep.ensures.does told held)))

pub returns-in-Err : goal.returns-in-Err
returns-in-Err g c =
    (let view = g.S.Store.view in
    let run = c.in-Ok.played in
    let olds = c.args.stores.now in
    let news = c.keep.new.stores in
    run_unkept view g.S.Store.tells (λ stores. ⊥) c.args.script.now c.args.start olds news run c.in-Err.stopped
    c.in-Ok.ensures c.in-Err.ensures.same c.requires.kept c.in-Err.ensures.stopped
    (λ told held.
    subst (λ (l : List Entry). KeepsHistory {T = Unit {0}} view (Err c.in-Err.stopped) run.start l olds news)
    c.as_slice.ensures (c.in-Err.ensures.does told held)))
