use Rattle.std.proofs.Common.{subst}
use Rattle.store_state.specs.declared.state.StoreState.{StoreState}
use Rattle.base_outside.specs.Runs.{LeavesOnly}
use Rattle.base_outside.proofs.Runs.{then}
use Rattle.disk_aggregate.specs.Records.{IsLeftOfFormat}
use Rattle.disk_aggregate.specs.Stands.{disk_in}
use Rattle.service_disks.proofs.Blank.{blank_gate}
use Rattle.service_disks.proofs.Tried.{ok_so, err_so}
use Rattle.service_disks.proofs.formatting.format_disk.Goals as goal

pub returns-in-Ok-clause-crash : goal.returns-in-Ok-clause-crash
returns-in-Ok-clause-crash g c = λ told blank.
    (let view = g.D.Disk.view in
    subst (λ (s : StoreState). LeavesOnly (IsLeftOfFormat s) (view c.args.disk) (view (disk_in c.in-Ok.store))) c.in-Ok.ensures.new
    (c.in-Ok.ensures.crash told (blank_gate (view c.args.disk).image blank)))

pub returns-in-Failed-clause-crash : goal.returns-in-Failed-clause-crash
returns-in-Failed-clause-crash g c = λ told blank.
    ok_so c.format_again.result (λ store made. then (c.in-Err.ensures.crash_err told (blank_gate (g.D.Disk.view c.args.disk).image blank)) made) (c.format_again.ensures.crash told)

pub returns-in-Failed-clause-crash_err : goal.returns-in-Failed-clause-crash_err
returns-in-Failed-clause-crash_err g c = λ told blank.
    err_so c.format_again.result (λ e made. then (c.in-Err.ensures.crash_err told (blank_gate (g.D.Disk.view c.args.disk).image blank)) made) (c.format_again.ensures.crash_err told)

pub returns-in-NotAggregate-clause-crash_err : goal.returns-in-NotAggregate-clause-crash_err
returns-in-NotAggregate-clause-crash_err g c = λ told blank. c.in-Err.ensures.crash_err told (blank_gate (g.D.Disk.view c.args.disk).image blank)
