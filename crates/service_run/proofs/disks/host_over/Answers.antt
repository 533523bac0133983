use Rattle.std.proofs.Common.{◌≡◌, ◌+◌, ◌≤◌, ◌^◌, ◌∙◌, ◌++◌, List, [], ap, length, sym, subst, arith}
use Rattle.std.proofs.lemmas.List.{append-nil}
use Rattle.service_disks.specs.Seats.{seat_tells, seat_view, stores_in}
use Rattle.service_disks.specs.Stores.{disks_of}
use Rattle.service_moves.specs.Stores.{AreStores, states_of}
use Rattle.service_stores.specs.Starting.{HaveBegun}
use Rattle.service_watch.specs.Gone.{HaveGone as HaveWorked}
use Rattle.service_watch.specs.Watching.{store_in as watched_in, stores_in as all_watched}
use Rattle.store_laws.specs.MoveKeeping.{KeepAll}
use Rattle.service_run.proofs.Hosts.{nothing_so_far, run_closed, run_hosted, run_unwatched, so_far_in}
use Rattle.service_run.proofs.Same.{same_count, states_in, stores_in_are}
use Rattle.service_run.proofs.Seated.{stored_count, watched_count}
use Rattle.service_run.proofs.disks.host_over.Goals as goal
use Rattle.service_run.specs.Steps.{HaveHosted, HaveKeptSoFar, IsClosedFrom, IsRunFrom}
use Rattle.service_run.specs.declared.disks.Stopped.{Stopped}
use Rattle.service_run.specs.declared.disks.Stopped.TheVariants.{Run}
use Rattle.service_run.specs.declared.outcome.Course.{Course}
use Rattle.service_moves.specs.declared.stopped.RunStopped.TheVariants.{Memory}
use Rattle.store_state.specs.declared.state.StoreState.{StoreState}
use Rattle.std.specs.Prelude.{Err, Result, map}

pub run_hosts-hosted-requires-clause-count : goal.run_hosts-hosted-requires-clause-count
run_hosts-hosted-requires-clause-count g c κs w =
    sym (watched_count c.in-Ok.watched.items) ∙ ap length c.in-Ok.ensures.watched ∙ c.requires.count

pub run_hosts-hosted-requires-clause-stores : goal.run_hosts-hosted-requires-clause-stores
run_hosts-hosted-requires-clause-stores g c κs w =
    (let view = seat_view g.D.Disk.tells g.D.Disk.view in
    stores_in_are watched_in view c.args.script.now.roster (2 ^ 40) 1 c.in-Ok.watched.items
    (subst (λ l. AreStores view c.args.script.now.roster (2 ^ 40) 1 l) (sym c.in-Ok.ensures.watched)
    c.requires.stores))

pub run_hosts-hosted-requires-clause-kept : goal.run_hosts-hosted-requires-clause-kept
run_hosts-hosted-requires-clause-kept g c κs w = λ told.
    (let view = seat_view g.D.Disk.tells g.D.Disk.view in
    subst (λ l. KeepAll (λ host. 1) c.args.start l) (states_in watched_in view c.in-Ok.watched.items)
    (subst (λ l. KeepAll (λ host. 1) c.args.start (states_of view l)) (sym c.in-Ok.ensures.watched)
    (c.requires.kept told)))

pub run_hosts-hosted-requires-clause-begun : goal.run_hosts-hosted-requires-clause-begun
run_hosts-hosted-requires-clause-begun g c κs w = λ told.
    (let view = seat_view g.D.Disk.tells g.D.Disk.view in
    subst HaveBegun (states_in watched_in view c.in-Ok.watched.items)
    (subst (λ l. HaveBegun (states_of view l)) (sym c.in-Ok.ensures.watched) (c.requires.begun told)))

pub unwatch-requires : goal.unwatch-requires
unwatch-requires g c =
    (let view = seat_view g.D.Disk.tells g.D.Disk.view in
    let hosted = c.run_hosts-hosted in
    let same = same_count (λ s. view (watched_in s)) c.in-Ok.watched.items hosted.result.stores.items
    hosted.ensures.same in
    let mapped = watched_count c.in-Ok.watched.items in
    let was = ap length c.in-Ok.ensures.watched in
    let none = ap length c.in-Ok.ensures.taken in
    let room = c.in-Ok.ensures.room in
    let had = c.requires.seats_room in
    record { room = omega (arith, same, mapped, was, none, room, had) })

pub close_seats-requires : goal.close_seats-requires
close_seats-requires g c =
    (let view = seat_view g.D.Disk.tells g.D.Disk.view in
    let hosted = c.run_hosts-hosted in
    let same = same_count (λ s. view (watched_in s)) c.in-Ok.watched.items hosted.result.stores.items
    hosted.ensures.same in
    let mapped = watched_count c.in-Ok.watched.items in
    let behind = watched_count hosted.result.stores.items in
    let was = ap length c.in-Ok.ensures.watched in
    let back = ap length (c.unwatch.ensures.stores ∙ ap (λ l. all_watched hosted.result.stores.items ++ l)
    c.in-Ok.ensures.taken ∙ append-nil (all_watched hosted.result.stores.items)) in
    let room = c.requires.room in
    record { room = omega (arith, same, mapped, behind, was, back, room) })

pub returns-in-Ok : goal.returns-in-Ok
returns-in-Ok g c =
    (let told = seat_tells g.D.Disk.tells g.C.Count.disks in
    let view = seat_view g.D.Disk.tells g.D.Disk.view in
    let script = c.args.script.now in
    let start = c.args.start in
    let seats = c.args.seats.items in
    let hosted = c.run_hosts-hosted in
    let olds = c.in-Ok.watched.items in
    let news = hosted.result.stores.items in
    let after = c.unwatch.new.stores.items in
    let epochs = map (λ (state : StoreState). state.epoch) (states_of view seats) in
    let side = HaveHosted g.O.Origin.from view script start epochs c.course_of.result in
    let back = c.unwatch.ensures.stores ∙ ap (λ l. all_watched news ++ l) c.in-Ok.ensures.taken
    ∙ append-nil (all_watched news) in
    let worked : told → side (all_watched news) = λ t. record {
      may = c.requires.homes;
      worked = c.unwatch.ensures.gone t;
      so_far =
          subst (λ l. HaveKeptSoFar view script start (map (λ (state : StoreState). state.epoch) (states_of view l))
          c.course_of.result (all_watched news)) c.in-Ok.ensures.watched
          (subst (λ (r : Result Course Stopped). HaveKeptSoFar view script start
          (map (λ (state : StoreState). state.epoch) (states_of view (all_watched olds))) r (all_watched news))
          (sym c.course_of.ensures)
          (so_far_in watched_in view told script start olds news hosted.result.result hosted.ensures.held t));
    } in
    let ran = run_hosted watched_in view told side script start olds news hosted.result.result c.requires.sound
    c.requires.homes hosted.ensures.same hosted.ensures.hosted hosted.ensures.stopped worked in
    let here = subst (λ l. IsRunFrom told view side script start c.course_of.result l after) c.in-Ok.ensures.watched
    (subst (λ l. IsRunFrom told view side script start c.course_of.result (all_watched olds) l) (sym back)
    (subst (λ r. IsRunFrom told view side script start r (all_watched olds) (all_watched news))
    (sym c.course_of.ensures) ran)) in
    run_closed view told side script start (λ seats. disks_of (stores_in seats)) seats after c.course_of.result
    c.args.disks.now.items c.close_seats.new.disks.items here c.close_seats.ensures.back)

pub returns-in-Err : goal.returns-in-Err
returns-in-Err g c =
    (let told = seat_tells g.D.Disk.tells g.C.Count.disks in
    let view = seat_view g.D.Disk.tells g.D.Disk.view in
    let script = c.args.script.now in
    let start = c.args.start in
    let seats = c.args.seats.items in
    let result : Result Course Stopped = Err (Run Memory) in
    let epochs = map (λ (state : StoreState). state.epoch) (states_of view seats) in
    let side = HaveHosted g.O.Origin.from view script start epochs result in
    run_closed view told side script start (λ seats. disks_of (stores_in seats)) seats seats _
    c.args.disks.now.items c.close_seats-in-Err.new.disks.items
    (run_unwatched view told side script start (2 ^ 40) seats c.requires.stores
    (λ t. record {
      may = c.requires.homes;
      worked = c.requires.gone t;
      so_far =
          nothing_so_far view script start (2 ^ 40) seats c.requires.start c.requires.homes c.requires.count
          c.requires.stores (c.requires.kept t);
    }))
    (c.close_seats-in-Err.ensures.back
    ∙ ap (λ l. disks_of (stores_in l) ++ c.args.disks.now.items) c.in-Err.ensures.back))
