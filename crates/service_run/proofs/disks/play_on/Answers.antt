use Rattle.std.specs.Prelude.{map}
use Rattle.std.proofs.Common.{◌≡◌, ◌≤◌, ◌+◌, ◌++◌, ◌^◌, ◌∙◌, List, Err, ap, length, subst, sym, arith}
use Rattle.store_state.specs.declared.state.StoreState.{StoreState}
use Rattle.service_disks.specs.Seats.{seat_tells, seat_view, stores_in}
use Rattle.service_disks.specs.Stores.{disks_of}
use Rattle.service_moves.specs.Stores.{AreStores, states_of}
use Rattle.service_stores.proofs.Epochs.{have_begun}
use Rattle.service_stores.specs.Starting.{HaveBegun}
use Rattle.store_laws.specs.MoveKeeping.{KeepAll}
use Rattle.service_run.proofs.Gone.{gone_begun}
use Rattle.service_run.proofs.Lists.{lent_back}
use Rattle.service_run.proofs.Same.{run_from, run_stopped, same_count}
use Rattle.service_run.proofs.Seated.{run_seated, run_unseated, seats_stores, seats_storable, stored_count}
use Rattle.service_watch.specs.Gone.{HaveGone as HaveWorked}
use Rattle.service_watch.proofs.Going.{first_views}
use Rattle.service_run.proofs.Worked.{watched_first}
use Rattle.service_run.specs.Steps.{HaveHosted, IsRunFrom}
use Rattle.service_run.specs.declared.disks.Stopped.TheVariants.{Run}
use Rattle.service_run.proofs.disks.play_on.Goals as goal

pub returns-in-Err : goal.returns-in-Err
returns-in-Err g c =
    run_unseated (seat_tells g.D.Disk.tells g.C.Count.disks) g.D.Disk.tells g.D.Disk.view c.args.script.now
    c.args.count c.args.stores.items c.in-Err.stores.items c.args.disks.now.items c.close_stores.new.disks.items
    c.in-Err.ensures.back c.requires.none c.requires.stores
    c.close_stores.ensures.back

pub start_on-requires-clause-stores : goal.start_on-requires-clause-stores
start_on-requires-clause-stores g c =
    seats_stores c.args.script.now.roster c.as_mut_slice.result.now c.args.stores.items
    (ap (λ l. stores_in l) c.as_mut_slice.ensures.value ∙ c.in-Ok.ensures.seated) c.requires.stores

pub start_on-requires-clause-storable : goal.start_on-requires-clause-storable
start_on-requires-clause-storable g c = λ told.
    seats_storable c.as_mut_slice.result.now c.args.stores.items
    (ap (λ l. stores_in l) c.as_mut_slice.ensures.value ∙ c.in-Ok.ensures.seated) (c.requires.storable told)

pub run_over-requires-clause-count : goal.run_over-requires-clause-count
run_over-requires-clause-count g c κs w =
    (let view = seat_view g.D.Disk.tells g.D.Disk.view in
    let lent = c.as_mut_slice.result.now in
    let news = c.start_on.new.stores in
    let len = c.as_mut_slice.ensures.len in
    let was = ap length c.as_mut_slice.ensures.value in
    let same = same_count view lent news c.start_on.ensures.same in
    let back = lent_back c.in-Ok.seats.len c.in-Ok.seats.items lent news c.as_mut_slice.ensures.value
    (omega (arith, len, was)) same in
    let seated = ap length c.in-Ok.ensures.seated in
    let stores = c.requires.count in
    ap length back ∙ same ∙ was ∙ sym (stored_count c.in-Ok.seats.items) ∙ seated ∙ stores)

pub run_over-requires-clause-stores : goal.run_over-requires-clause-stores
run_over-requires-clause-stores g c κs w =
    (let view = seat_view g.D.Disk.tells g.D.Disk.view in
    let lent = c.as_mut_slice.result.now in
    let news = c.start_on.new.stores in
    let len = c.as_mut_slice.ensures.len in
    let was = ap length c.as_mut_slice.ensures.value in
    let same = same_count view lent news c.start_on.ensures.same in
    let back = lent_back c.in-Ok.seats.len c.in-Ok.seats.items lent news c.as_mut_slice.ensures.value
    (omega (arith, len, was)) same in
    subst (λ l. AreStores view c.args.script.now.roster (2 ^ 40) 1 l) (sym back) c.in-Ok-start_on.ensures.stores)

pub run_over-requires-clause-kept : goal.run_over-requires-clause-kept
run_over-requires-clause-kept g c κs w = λ told.
    (let view = seat_view g.D.Disk.tells g.D.Disk.view in
    let lent = c.as_mut_slice.result.now in
    let news = c.start_on.new.stores in
    let len = c.as_mut_slice.ensures.len in
    let was = ap length c.as_mut_slice.ensures.value in
    let same = same_count view lent news c.start_on.ensures.same in
    let back = lent_back c.in-Ok.seats.len c.in-Ok.seats.items lent news c.as_mut_slice.ensures.value
    (omega (arith, len, was)) same in
    subst (λ l. KeepAll (λ host. 1) c.in-Ok-start_on.start (states_of view l)) (sym back)
    (c.in-Ok-start_on.ensures.kept told))

pub run_over-requires-clause-begun : goal.run_over-requires-clause-begun
run_over-requires-clause-begun g c κs w = λ told.
    (let view = seat_view g.D.Disk.tells g.D.Disk.view in
    let lent = c.as_mut_slice.result.now in
    let news = c.start_on.new.stores in
    let len = c.as_mut_slice.ensures.len in
    let was = ap length c.as_mut_slice.ensures.value in
    let same = same_count view lent news c.start_on.ensures.same in
    let back = lent_back c.in-Ok.seats.len c.in-Ok.seats.items lent news c.as_mut_slice.ensures.value
    (omega (arith, len, was)) same in
    subst (λ l. HaveBegun (states_of view l)) (sym back) (have_begun (states_of view lent) (states_of view news)
    (c.in-Ok-start_on.ensures.begun told)))

pub run_over-requires-clause-gone : goal.run_over-requires-clause-gone
run_over-requires-clause-gone g c κs w = λ told.
    (let view = seat_view g.D.Disk.tells g.D.Disk.view in
    let lent = c.as_mut_slice.result.now in
    let news = c.start_on.new.stores in
    let len = c.as_mut_slice.ensures.len in
    let was = ap length c.as_mut_slice.ensures.value in
    let same = same_count view lent news c.start_on.ensures.same in
    let back = lent_back c.in-Ok.seats.len c.in-Ok.seats.items lent news c.as_mut_slice.ensures.value
    (omega (arith, len, was)) same in
    subst (λ l. HaveWorked (first_views view l) view l) (sym back)
    (watched_first view c.args.script.now.roster (2 ^ 40) news c.in-Ok-start_on.ensures.stores))

pub run_over-requires-clause-room : goal.run_over-requires-clause-room
run_over-requires-clause-room g c κs w =
    (let view = seat_view g.D.Disk.tells g.D.Disk.view in
    let lent = c.as_mut_slice.result.now in
    let news = c.start_on.new.stores in
    let len = c.as_mut_slice.ensures.len in
    let was = ap length c.as_mut_slice.ensures.value in
    let same = same_count view lent news c.start_on.ensures.same in
    let back = lent_back c.in-Ok.seats.len c.in-Ok.seats.items lent news c.as_mut_slice.ensures.value
    (omega (arith, len, was)) same in
    let none = ap length c.requires.none in
    let seated = ap length c.in-Ok.ensures.seated in
    let stored = stored_count c.in-Ok.seats.items in
    let size = ap length back in
    let room = c.requires.room in
    omega (arith, none, seated, stored, size, same, was, room))

pub returns-in-Ok-start_on : goal.returns-in-Ok-start_on
returns-in-Ok-start_on g c =
    (let view = seat_view g.D.Disk.tells g.D.Disk.view in
    let lent = c.as_mut_slice.result.now in
    let news = c.start_on.new.stores in
    let len = c.as_mut_slice.ensures.len in
    let was = ap length c.as_mut_slice.ensures.value in
    let same = same_count view lent news c.start_on.ensures.same in
    let back = lent_back c.in-Ok.seats.len c.in-Ok.seats.items lent news c.as_mut_slice.ensures.value
    (omega (arith, len, was)) same in
    let told = seat_tells g.D.Disk.tells g.C.Count.disks in
    let closed = c.run_over.ensures in
    let began = c.in-Ok-start_on.ensures in
    let script = c.args.script.now in
    let start = c.in-Ok-start_on.start in
    let from = subst (λ l. IsRunFrom told view (HaveHosted (first_views view l) view script start
    (map (λ (state : StoreState). state.epoch) (states_of view l)) c.run_over.result) script start
    c.run_over.result l closed.left) back closed.over in
    let ran = run_from view told script c.args.count (2 ^ 40) lent news closed.left start c.run_over.result
    began.stores c.start_on.ensures.same began.fit began.tree began.begun began.does from in
    run_seated told script c.args.count c.run_over.result c.args.stores.items lent closed.left c.args.disks.now.items
    c.run_over.new.disks.items (ap (λ l. stores_in l) c.as_mut_slice.ensures.value ∙ c.in-Ok.ensures.seated)
    c.requires.none ran
    closed.closed)

pub returns-in-Err-start_on : goal.returns-in-Err-start_on
returns-in-Err-start_on g c =
    (let view = seat_view g.D.Disk.tells g.D.Disk.view in
    let lent = c.as_mut_slice.result.now in
    let news = c.start_on.new.stores in
    let len = c.as_mut_slice.ensures.len in
    let was = ap length c.as_mut_slice.ensures.value in
    let same = same_count view lent news c.start_on.ensures.same in
    let back = lent_back c.in-Ok.seats.len c.in-Ok.seats.items lent news c.as_mut_slice.ensures.value
    (omega (arith, len, was)) same in
    let told = seat_tells g.D.Disk.tells g.C.Count.disks in
    let script = c.args.script.now in
    let stopped = c.in-Err-start_on.stopped in
    let ran = run_stopped view told script c.args.count lent news stopped c.start_on.ensures.same
    c.in-Err-start_on.ensures.stopped
    (λ t. gone_begun view script c.args.count _ (Err (Run stopped)) lent news tt (c.in-Err-start_on.ensures.does t)) in
    run_seated told script c.args.count (Err (Run stopped)) c.args.stores.items lent news c.args.disks.now.items
    c.close_seats.new.disks.items (ap (λ l. stores_in l) c.as_mut_slice.ensures.value ∙ c.in-Ok.ensures.seated)
    c.requires.none ran
    (c.close_seats.ensures.back ∙ ap (λ l. disks_of (stores_in l) ++ c.args.disks.now.items) back))
