use Rattle.std.proofs.Common.{◌≡◌, ◌∙◌, sym}
use Rattle.disk_layout.specs.Half.{used_half}
use Rattle.disk_layout.specs.Places.{pages_of}
use Rattle.disk_image.specs.Faults.{faults_behind, faults_of}
use Rattle.disk_check.specs.Front.{faults_after}
use Rattle.disk_check.specs.declared.front.Front.{Front}
use Rattle.disk_check.specs.declared.fault.CheckRefused.{CheckRefused}
use Rattle.disk_check.proofs.Fronts.{front_in_range, front_out_of_range, ok_then}
use Rattle.disk_check.proofs.front.behind.Goals as goal

pub returns-then-not-is_aggregate-clause-faults : goal.returns-then-not-is_aggregate-clause-faults
returns-then-not-is_aggregate-clause-faults g c = λ told unblank is.
    front_out_of_range (g.D.Disk.view c.args.disk.now).image c.args.superblock unblank is (sym c.is_aggregate.ensures ∙ c.if-not-is_aggregate.true)

pub returns-clause-faults : goal.returns-clause-faults
returns-clause-faults g c = λ told unblank is.
    let image = (g.D.Disk.view c.args.disk.now).image in
    let superblock = c.args.superblock in
    ok_then {T = Front} {E = CheckRefused} c.settled.result (λ front. faults_after front image ≡ faults_behind superblock (used_half (pages_of superblock.blocks) image) image) (λ front. faults_after front image ≡ faults_of image) (c.settled.ensures.faults told is)
    (λ front e. e ∙ front_in_range (g.D.Disk.view c.args.disk.now).image c.args.superblock unblank is (sym c.is_aggregate.ensures ∙ c.if-not-is_aggregate.false))
