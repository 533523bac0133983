use Rattle.std.proofs.Common.{◌≡◌, ap, length, subst, sym, ◌++◌, ◌∙◌, arith}
use Rattle.service_disks.specs.Seats.{seat_tells, seat_view, stores_in}
use Rattle.service_disks.specs.Stores.{disks_of}
use Rattle.service_moves.specs.Stores.{states_of}
use Rattle.store_laws.specs.MoveKeeping.{KeepAll}
use Rattle.service_run.proofs.Hosts.{run_closed, run_wider}
use Rattle.service_run.proofs.Lists.{written_back}
use Rattle.service_run.proofs.Same.{same_count}
use Rattle.service_run.proofs.disks.run_over.Goals as goal
use Rattle.service_run.specs.Steps.{HaveHosted, IsClosedFrom, IsRunFrom}
use Rattle.std.specs.Prelude.{map}
use Rattle.store_state.specs.declared.state.StoreState.{StoreState}

pub play_over-result-requires-clause-kept : goal.play_over-result-requires-clause-kept
play_over-result-requires-clause-kept g c = λ told.
    (let view = seat_view g.D.Disk.tells g.D.Disk.view in
    subst (λ l. KeepAll (λ host. 1) c.args.start (states_of view l)) (sym c.as_mut_slice.ensures.value)
    (c.requires.kept told))

pub returns : goal.returns
returns g c =
    (let told = seat_tells g.D.Disk.tells g.C.Count.disks in
    let view = seat_view g.D.Disk.tells g.D.Disk.view in
    let seats = c.args.seats.items in
    let lent = c.as_mut_slice.result.now in
    let news = c.play_over-result.new.stores in
    let ran = c.play_over-result.ensures in
    let side = HaveHosted g.O.Origin.from view c.args.script.now c.args.start
    (map (λ (state : StoreState). state.epoch) (states_of view seats)) c.play_over-result.result in
    let same : length news ≡ length lent = same_count view lent news ran.same in
    let was : length lent ≡ length seats = ap length c.as_mut_slice.ensures.value in
    let len = c.as_mut_slice.ensures.len in
    let back = written_back c.args.seats.len seats news (same ∙ was) (omega (arith, len, was)) in
    run_closed view told side c.args.script.now c.args.start (λ seats. disks_of (stores_in seats)) seats news
    c.play_over-result.result c.args.disks.now.items c.close_seats.new.disks.items
    (subst (λ l. IsRunFrom told view side c.args.script.now c.args.start c.play_over-result.result l news)
    c.as_mut_slice.ensures.value
    (run_wider view told (λ stores. ⊥) c.args.script.now c.args.start side lent news c.play_over-result.result
    (λ stores none. absurd none) ran))
    (c.close_seats.ensures.back ∙ ap (λ l. disks_of (stores_in l) ++ c.args.disks.now.items) back))
