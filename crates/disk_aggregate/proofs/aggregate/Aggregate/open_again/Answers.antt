use Rattle.std.proofs.Common.{◌∙◌}
use Rattle.base_outside.proofs.Runs.{weaker}
use Rattle.disk_log.specs.Log.{disk_of}
use Rattle.disk_aggregate.specs.Stands.{disk_in}
use Rattle.disk_aggregate.proofs.Again.{again_leaves, page, vain_store}
use Rattle.disk_aggregate.proofs.Leaving.{fresh_idle}
use Rattle.disk_aggregate.proofs.Left.{same_log_record}
use Rattle.disk_aggregate.proofs.Reopened.{left_again, stands_again, state_again}
use Rattle.disk_aggregate.proofs.aggregate.Aggregate.open_again.Goals as goal

pub returns-in-Err-clause-left : goal.returns-in-Err-clause-left
returns-in-Err-clause-left g c = λ told state holds.
    (let view = g.D.Disk.view in
    vain_store c.args.self.now.wear state (view (disk_in c.args.self.now)) (view (disk_of c.reopen.new.self)) holds.store (g.met.D.Disk.reads_one (disk_of c.reopen.new.self) told) (c.in-Err.ensures.left told))

pub returns-in-Err-clause-crash : goal.returns-in-Err-clause-crash
returns-in-Err-clause-crash g c = λ told state holds.
    weaker (c.reopen.ensures.crash told) (λ bytes same. same_log_record (g.D.Disk.view (disk_in c.args.self.now)).image bytes same state.roster state.server ∙ holds.store.found)

pub read_again-requires-clause-idle : goal.read_again-requires-clause-idle
read_again-requires-clause-idle g c = fresh_idle g.D.Disk.tells g.D.Disk.view c.reopen.new.self c.in_default.ensures.fresh c.in_default.ensures.sound

pub returns-clause-stands : goal.returns-clause-stands
returns-clause-stands g c = λ holds.
    (let view = g.D.Disk.view in
    let made = c.in_default.ensures in
    stands_again g.D.Disk.tells view c.args.self.now c.reopen.new.self c.read_again.new.self made.sound made.mounted c.read_again.result c.read_again.ensures.opens c.read_again.ensures.open c.read_again.ensures.wear
    (λ told. g.met.D.Disk.has_bytes (disk_in c.args.self.now) told) holds)

pub returns-clause-state : goal.returns-clause-state
returns-clause-state g c = λ told state holds.
    (let view = g.D.Disk.view in
    let made = c.in_default.ensures in
    state_again g.D.Disk.tells view c.args.self.now c.reopen.new.self c.read_again.new.self made.sound made.mounted c.read_again.result c.read_again.ensures.opens
    (g.met.D.Disk.has_bytes (disk_in c.args.self.now) told) told state holds)

pub returns-clause-left : goal.returns-clause-left
returns-clause-left g c = λ told state holds.
    (let tells = g.D.Disk.tells in
    let view = g.D.Disk.view in
    let made = c.in_default.ensures in
    let log = c.reopen.new.self in
    let server = page tells view (view (disk_in c.args.self.now)).image log log c.args.self.now.wear state made.sound (made.mounted told) holds.store told in
    left_again tells view c.args.self.now log c.read_again.new.self made.sound made.mounted c.read_again.result c.read_again.ensures.wear told state holds made.settled (c.read_again.ensures.crash told server)
    (g.met.D.Disk.reads_one (disk_in c.read_again.new.self) told))

pub returns-clause-crash : goal.returns-clause-crash
returns-clause-crash g c = λ told state holds.
    (let tells = g.D.Disk.tells in
    let view = g.D.Disk.view in
    let made = c.in_default.ensures in
    let log = c.reopen.new.self in
    let server = page tells view (view (disk_in c.args.self.now)).image log log c.args.self.now.wear state made.sound (made.mounted told) holds.store told in
    again_leaves tells view (view (disk_in c.args.self.now)) (view (disk_in c.read_again.new.self)) log log c.args.self.now.wear state made.sound (made.mounted told) holds.store told (c.reopen.ensures.crash told)
    (c.read_again.ensures.crash told server))
