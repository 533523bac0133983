use Rattle.disk_aggregate.proofs.Leaving.{fresh_idle, judged_leaves}
use Rattle.disk_aggregate.proofs.Mending.{opened_if}
use Rattle.disk_aggregate.proofs.Mounted.{page}
use Rattle.disk_aggregate.proofs.Mounting.{crash_err_if, crash_if, found_mounted, kept_if, record_err_if, record_if, stands_if, vain_record}
use Rattle.disk_aggregate.proofs.aggregate.Aggregate.mount.Goals as goal

pub open-requires-clause-idle : goal.open-requires-clause-idle
open-requires-clause-idle g c = fresh_idle g.D.Disk.tells g.D.Disk.view c.in-Ok.log c.in-Ok.ensures.fresh c.in-Ok.ensures.sound

pub returns-in-Ok-clause-stands : goal.returns-in-Ok-clause-stands
returns-in-Ok-clause-stands g c =
    (let view = g.D.Disk.view in
    let made = c.in-Ok.ensures in
    stands_if g.D.Disk.tells view (view c.args.disk) (view c.judge.new.disk) c.in-Ok.log c.args.server c.args.roster.now c.in_default.ensures.quiet c.in_default.ensures.taken made.sound made.mounted c.open.result
    c.open.ensures.opens c.open.ensures.wear c.open.ensures.open c.requires.servers (λ told. g.met.D.Disk.has_bytes c.args.disk told))

pub returns-in-Ok-clause-kept : goal.returns-in-Ok-clause-kept
returns-in-Ok-clause-kept g c = λ told.
    (let view = g.D.Disk.view in
    let made = c.in-Ok.ensures in
    kept_if g.D.Disk.tells view (view c.args.disk) (view c.judge.new.disk) c.in-Ok.log c.args.server c.args.roster.now c.in_default.ensures.quiet c.in_default.ensures.taken made.sound made.mounted c.open.result
    c.open.ensures.opens c.requires.servers (λ told. g.met.D.Disk.has_bytes c.args.disk told) told)

pub returns-in-Ok-clause-record : goal.returns-in-Ok-clause-record
returns-in-Ok-clause-record g c = λ told.
    (let view = g.D.Disk.view in
    let made = c.in-Ok.ensures in
    record_if g.D.Disk.tells view (view c.args.disk) (view c.judge.new.disk) c.in-Ok.log c.args.server c.args.roster.now c.in_default.ensures.quiet c.in_default.ensures.taken made.sound made.mounted c.open.result
    c.open.ensures.opens told)

pub returns-in-Ok-clause-crash : goal.returns-in-Ok-clause-crash
returns-in-Ok-clause-crash g c = λ told.
    (let tells = g.D.Disk.tells in
    let view = g.D.Disk.view in
    let made = c.in-Ok.ensures in
    let still = c.in_default.ensures.quiet in
    let none = c.in_default.ensures.taken in
    let log = c.in-Ok.log in
    let found = found_mounted tells view (view c.args.disk) (view c.judge.new.disk) log c.args.server c.args.roster.now still none made.sound made.mounted c.open.result told in
    crash_if tells view (view c.args.disk) (view c.judge.new.disk) log c.args.server c.args.roster.now still none made.sound made.mounted c.open.result told (made.crash told)
    (c.open.ensures.crash told (page tells view (view c.args.disk).image log log c.args.server c.args.roster.now made.sound found (none told) told)))

pub returns-in-Ok-clause-crash_err : goal.returns-in-Ok-clause-crash_err
returns-in-Ok-clause-crash_err g c = λ told.
    (let tells = g.D.Disk.tells in
    let view = g.D.Disk.view in
    let made = c.in-Ok.ensures in
    let still = c.in_default.ensures.quiet in
    let none = c.in_default.ensures.taken in
    let log = c.in-Ok.log in
    let found = found_mounted tells view (view c.args.disk) (view c.judge.new.disk) log c.args.server c.args.roster.now still none made.sound made.mounted c.open.result told in
    crash_err_if tells view (view c.args.disk) (view c.judge.new.disk) log c.args.server c.args.roster.now still none made.sound made.mounted c.open.result (λ e. e.0) told (made.crash told)
    (c.open.ensures.crash_err told (page tells view (view c.args.disk).image log log c.args.server c.args.roster.now made.sound found (none told) told)))

pub returns-in-Ok-clause-record_err : goal.returns-in-Ok-clause-record_err
returns-in-Ok-clause-record_err g c = λ told.
    (let tells = g.D.Disk.tells in
    let view = g.D.Disk.view in
    let made = c.in-Ok.ensures in
    let still = c.in_default.ensures.quiet in
    let none = c.in_default.ensures.taken in
    let log = c.in-Ok.log in
    let found = found_mounted tells view (view c.args.disk) (view c.judge.new.disk) log c.args.server c.args.roster.now still none made.sound made.mounted c.open.result told in
    record_err_if tells view (view c.args.disk) (view c.judge.new.disk) log c.args.server c.args.roster.now still none made.sound made.mounted c.open.result (λ e. e.0) told made.settled (λ d. g.met.D.Disk.reads_one d told)
    (c.open.ensures.crash_err told (page tells view (view c.args.disk).image log log c.args.server c.args.roster.now made.sound found (none told) told)))

pub returns-in-Err-mount-clause-record_err : goal.returns-in-Err-mount-clause-record_err
returns-in-Err-mount-clause-record_err g c = λ told.
    (let view = g.D.Disk.view in
    vain_record (view c.args.disk) (view c.judge.new.disk) (view c.in-Err-mount.disk) c.args.roster.now c.args.server c.in_default.ensures.quiet (g.met.D.Disk.reads_one c.in-Err-mount.disk told)
    (c.in-Err-mount.ensures.left_err told))

pub returns-in-Err-mount-clause-crash_err : goal.returns-in-Err-mount-clause-crash_err
returns-in-Err-mount-clause-crash_err g c = λ told.
    (let view = g.D.Disk.view in
    judged_leaves (view c.args.disk) (view c.judge.new.disk) (view c.in-Err-mount.disk) c.args.roster.now c.args.server c.in_default.ensures.quiet (c.in-Err-mount.ensures.crash_err told))

pub returns-in-Ok-clause-opened : goal.returns-in-Ok-clause-opened
returns-in-Ok-clause-opened g c = opened_if g.D.Disk.tells g.D.Disk.view c.open.result (λ disk told. g.met.D.Disk.has_bytes disk told) (returns-in-Ok-clause-stands g c) c.open.ensures.wear
