use Rattle.std.proofs.Common.{◌≡◌, ◌≤◌, ◌+◌, ℕ, refl, sym, subst, ◌∙◌, ap, arith}
use Rattle.std.specs.Prelude.{true}
use Rattle.base_outside.proofs.Runs.{weaker}
use Rattle.base_outside.specs.Runs.{LeavesOnly}
use Rattle.store_state.specs.Capacity.{capacity_of}
use Rattle.store_state.specs.declared.state.StoreState.{StoreState}
use Rattle.disk_log.specs.Format.{superblock_of}
use Rattle.disk_log.specs.Log.{disk_of}
use Rattle.disk_aggregate.specs.Records.{HasRecord, IsLeftOfFormat}
use Rattle.disk_aggregate.specs.Stands.{StandsOn}
use Rattle.disk_aggregate.proofs.Formatted.{formatted_stands, left_format, new_record}
use Rattle.disk_aggregate.proofs.Mending.{stands_opened}
use Rattle.disk_aggregate.proofs.aggregate.Aggregate.format.Goals as goal

pub returns-in-Ok-format-clause-stands : goal.returns-in-Ok-format-clause-stands
returns-in-Ok-format-clause-stands g c =
    (let log = c.in-Ok-format.log in
    let roster = c.args.roster.now in
    let server = c.args.server in
    let capacity : c.state.result.now.capacity ≡ capacity_of roster server = ap (λ (s : StoreState). s.capacity) (c.state.ensures.kept ∙ c.in-Ok.ensures) in
    let made = c.in-Ok-format.ensures in (
      refl,
      subst (λ (s : StoreState). StandsOn g.D.Disk.tells g.D.Disk.view s 0 log) (sym c.in-Ok.ensures)
          (formatted_stands g.D.Disk.tells g.D.Disk.view log server (capacity_of roster server) (c.state.result.now.capacity + 1024) roster (ap (λ (n : ℕ). n + 1024) capacity) made.state made.sound made.formatted made.settled
          c.requires.declared.first (omega arith) c.requires.servers c.requires.least),
    ))

pub returns-in-Ok-format-clause-record : goal.returns-in-Ok-format-clause-record
returns-in-Ok-format-clause-record g c = λ told.
    (let log = c.in-Ok-format.log in
    let roster = c.args.roster.now in
    let server = c.args.server in
    let image = (g.D.Disk.view (disk_of log)).image in
    let capacity : c.state.result.now.capacity ≡ capacity_of roster server = ap (λ (s : StoreState). s.capacity) (c.state.ensures.kept ∙ c.in-Ok.ensures) in
    subst (λ (s : StoreState). HasRecord s image) (sym c.in-Ok.ensures)
    (new_record (superblock_of server.0 (c.state.result.now.capacity + 1024)) image (c.in-Ok-format.ensures.formatted told) server (capacity_of roster server) roster refl (ap (λ (n : ℕ). n + 1024) capacity)
    c.requires.declared.first (omega arith) c.requires.least))

pub returns-in-Ok-format-clause-crash : goal.returns-in-Ok-format-clause-crash
returns-in-Ok-format-clause-crash g c = λ told unset.
    (let log = c.in-Ok-format.log in
    let roster = c.args.roster.now in
    let server = c.args.server in
    let capacity : c.state.result.now.capacity ≡ capacity_of roster server = ap (λ (s : StoreState). s.capacity) (c.state.ensures.kept ∙ c.in-Ok.ensures) in
    let last : server.0 ≤ 4 = omega arith in
    subst (λ (s : StoreState). LeavesOnly (IsLeftOfFormat s) (g.D.Disk.view c.args.disk) (g.D.Disk.view (disk_of log))) (sym c.in-Ok.ensures)
    (weaker (c.in-Ok-format.ensures.crash told unset) (left_format (superblock_of server.0 (c.state.result.now.capacity + 1024)) server (capacity_of roster server) roster refl (ap (λ (n : ℕ). n + 1024) capacity) c.requires.declared.first last c.requires.least)))

pub returns-in-Err-format-clause-crash_err : goal.returns-in-Err-format-clause-crash_err
returns-in-Err-format-clause-crash_err g c = λ told unset.
    (let roster = c.args.roster.now in
    let server = c.args.server in
    let capacity : c.state.result.now.capacity ≡ capacity_of roster server = ap (λ (s : StoreState). s.capacity) (c.state.ensures.kept ∙ c.in-Ok.ensures) in
    let last : server.0 ≤ 4 = omega arith in
    weaker (c.in-Err-format.ensures.crash_err told unset) (left_format (superblock_of server.0 (c.state.result.now.capacity + 1024)) server (capacity_of roster server) roster refl (ap (λ (n : ℕ). n + 1024) capacity) c.requires.declared.first last c.requires.least))

pub returns-in-Ok-format-clause-opened : goal.returns-in-Ok-format-clause-opened
returns-in-Ok-format-clause-opened g c =
    stands_opened g.D.Disk.tells g.D.Disk.view (record { log = c.in-Ok-format.log; store = c.in-Ok.store; wear = 0; is_open = true }) (returns-in-Ok-format-clause-stands g c) refl
    (λ told. g.met.D.Disk.has_bytes (disk_of c.in-Ok-format.log) told)
