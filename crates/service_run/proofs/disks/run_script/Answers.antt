use Rattle.std.proofs.Common.{◌≡◌, ℕ, ◌≤◌, List, Ok, Err, inl, inr, ⊎_elim, length, subst, sym, ap, ◌∙◌, arith}
use Rattle.base_types.specs.declared.limits.TheConstants.{SERVERS_MAX}
use Rattle.service_disks.proofs.Limits.{has_limits}
use Rattle.service_disks.specs.Seats.{seat_tells}
use Rattle.service_run.proofs.Opened.{are_seated, are_storable, are_stores, count_told, seats_told}
use Rattle.service_run.proofs.Ran.{printable, ran_told, runs_so}
use Rattle.service_run.proofs.RunsOver.{over_ended, over_told, over_unopened, placed_so, ran_ended, ran_unopened}
use Rattle.service_run.specs.Courses.{IsTold}
use Rattle.service_run.specs.Steps.{IsRunOn}
use Rattle.service_run.proofs.disks.run_script.Goals as goal

pub returns-in-Err-clause-ran : goal.returns-in-Err-clause-ran
returns-in-Err-clause-ran g c = ran_unopened _ c.args.play c.args.script c.refuse_opening.result _ _ c.in-Err.refused
    c.refuse_opening.ensures

pub returns-in-Err-clause-over : goal.returns-in-Err-clause-over
returns-in-Err-clause-over g c =
    over_unopened g.D.Disk.tells g.D.Disk.view c.args.script c.refuse_opening.result _ _ c.args.disks.now.items
    c.open_stores.new.disks.items c.in-Err.refused c.in-Err.ensures.back c.in-Err.ensures.stopped
    c.refuse_opening.ensures

pub play_on-requires-clause-stores : goal.play_on-requires-clause-stores
play_on-requires-clause-stores g c κs w = are_stores g.D.Disk.tells g.D.Disk.view c.args.script.roster 1
    c.args.disks.now.items c.in-Ok.stores.items c.in-Ok.ensures.opened

pub play_on-requires-clause-storable : goal.play_on-requires-clause-storable
play_on-requires-clause-storable g c κs w = λ told.
    (let few : length c.args.script.roster.capacity ≤ SERVERS_MAX =
    (has_limits c.args.script.roster c.requires.sound.roster).servers in
    let count = c.in-Ok.ensures.count in
    let counted = c.len-count.ensures in
    are_storable g.D.Disk.tells g.D.Disk.view c.args.script.roster 1 c.args.disks.now.items c.in-Ok.stores.items
    (count_told g.D.Disk.tells c.args.disks.now.items c.len-count.result (omega (arith, counted)) told)
    (omega arith) (omega (arith, few, count)) few c.in-Ok.ensures.opened)

pub play_on-requires-clause-seated : goal.play_on-requires-clause-seated
play_on-requires-clause-seated g c κs w =
    (let counted = c.len-count.ensures in
    are_seated g.D.Disk.tells g.D.Disk.view c.args.script.roster c.len-count.result 1 c.args.disks.now.items
    c.in-Ok.stores.items (omega arith) (omega (arith, counted)) c.in-Ok.ensures.opened)

pub tell_run-requires : goal.tell_run-requires
tell_run-requires g c =
    (let on = c.in-Ok-play_on.ensures in record {
      went = printable _ c.args.script c.in-Ok-play_on.course
          on.over.ran.went;
    })

pub returns-in-Ok-play_on-clause-ran : goal.returns-in-Ok-play_on-clause-ran
returns-in-Ok-play_on-clause-ran g c =
    (let counted = c.len-count.ensures in
    let same : c.len-count.result ≡ length c.args.disks.now.items = omega (arith, counted) in
    let told = seat_tells g.D.Disk.tells c.len-count.result in
    let tells = IsTold g.D.Disk.tells c.args.disks.now.items in
    let on = c.in-Ok-play_on.ensures in
    ran_told tells c.args.play c.args.script c.in-Ok-play_on.course c.tell_run.result _ _
    (runs_so told tells c.args.script c.in-Ok-play_on.course (seats_told g.D.Disk.tells c.args.disks.now.items
    c.len-count.result same) on.over.ran.went) c.tell_run.ensures.told)

pub returns-in-Ok-play_on-clause-over : goal.returns-in-Ok-play_on-clause-over
returns-in-Ok-play_on-clause-over g c =
    (let counted = c.len-count.ensures in
    let same : c.len-count.result ≡ length c.args.disks.now.items = omega (arith, counted) in
    let told = seat_tells g.D.Disk.tells c.len-count.result in
    over_told g.D.Disk.tells g.D.Disk.view c.args.script c.tell_run.result _ _ told c.args.disks.now.items
    c.play_on.new.disks.items (seats_told g.D.Disk.tells c.args.disks.now.items c.len-count.result same)
    c.in-Ok.stores.items c.in-Ok.ensures.opened c.in-Ok.ensures.count c.args.play c.in-Ok-play_on.course
    (subst (λ (n : ℕ). IsRunOn told g.D.Disk.tells g.D.Disk.view c.args.script n (Ok c.in-Ok-play_on.course)
    c.in-Ok.stores.items c.play_on.new.disks.items) same c.in-Ok-play_on.ensures) c.tell_run.ensures.told)

pub refuse_stopped-requires-clause-placed : goal.refuse_stopped-requires-clause-placed
refuse_stopped-requires-clause-placed g c =
    placed_so _ g.D.Disk.tells g.D.Disk.view c.args.script c.len-count.result c.in-Err-play_on.stopped
    c.in-Ok.stores.items c.play_on.new.disks.items c.in-Err-play_on.ensures

pub returns-in-Err-play_on-clause-ran : goal.returns-in-Err-play_on-clause-ran
returns-in-Err-play_on-clause-ran g c = ran_ended _ c.args.play c.args.script c.refuse_stopped.result _ _
    c.in-Err-play_on.stopped c.refuse_stopped.ensures

pub returns-in-Err-play_on-clause-over : goal.returns-in-Err-play_on-clause-over
returns-in-Err-play_on-clause-over g c =
    (let counted = c.len-count.ensures in
    let same : c.len-count.result ≡ length c.args.disks.now.items = omega (arith, counted) in
    let told = seat_tells g.D.Disk.tells c.len-count.result in
    over_ended g.D.Disk.tells g.D.Disk.view c.args.script c.refuse_stopped.result _ _ told c.args.disks.now.items
    c.play_on.new.disks.items (seats_told g.D.Disk.tells c.args.disks.now.items c.len-count.result same)
    c.in-Ok.stores.items c.in-Ok.ensures.opened c.in-Ok.ensures.count c.in-Err-play_on.stopped
    (subst (λ (n : ℕ). IsRunOn told g.D.Disk.tells g.D.Disk.view c.args.script n (Err c.in-Err-play_on.stopped)
    c.in-Ok.stores.items c.play_on.new.disks.items) same c.in-Err-play_on.ensures) c.refuse_stopped.ensures)
