use Rattle.std.proofs.Common.{inl, subst}
use Rattle.store_state.specs.declared.state.StoreState.{StoreState}
use Rattle.base_outside.specs.Runs.{LeavesOnly}
use Rattle.base_outside.proofs.Runs.{weaker}
use Rattle.disk_aggregate.specs.Records.{IsLeftOfFormat}
use Rattle.disk_aggregate.specs.Stands.{disk_in}
use Rattle.service_disks.proofs.Gate.{shut_then}
use Rattle.service_disks.proofs.Tried.{ok_both, err_so}
use Rattle.service_disks.specs.Opening.{new_store}
use Rattle.service_disks.proofs.formatting.format_again.Goals as goal

pub returns-in-Ok-clause-crash : goal.returns-in-Ok-clause-crash
returns-in-Ok-clause-crash g c = λ told.
    (let view = g.D.Disk.view in
    let mid = view c.shut_gate.new.disk in
    ok_both c.format.result
    (λ store new made. shut_then (new_store c.args.roster.now c.args.server) (view c.args.disk) mid (view (disk_in store)) (c.shut_gate.ensures.crash told)
    (subst (λ (s : StoreState). LeavesOnly (IsLeftOfFormat s) mid (view (disk_in store))) new made)) c.format.ensures.new (c.format.ensures.crash told (c.in-Ok.ensures.shut told)))

pub returns-in-Ok-clause-crash_err : goal.returns-in-Ok-clause-crash_err
returns-in-Ok-clause-crash_err g c = λ told.
    (let view = g.D.Disk.view in
    err_so c.format.result
    (λ e made. shut_then (new_store c.args.roster.now c.args.server) (view c.args.disk) (view c.shut_gate.new.disk) (view e.0) (c.shut_gate.ensures.crash told) made) (c.format.ensures.crash_err told (c.in-Ok.ensures.shut told)))

pub returns-in-Err-clause-crash_err : goal.returns-in-Err-clause-crash_err
returns-in-Err-clause-crash_err g c = λ told. weaker (c.shut_gate.ensures.crash told) (λ d none. inl none)
