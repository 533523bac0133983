use Rattle.std.proofs.Common.{rules, ◌≡◌, ◌<◌, length, get_or, slice_get, Some, arith}
use Rattle.std.proofs.lemmas.Option.{slice_get-get_or}
use Rattle.disk_report.specs.Report.{report_of}
use Rattle.disk_report.proofs.Passed.{one_passed, passed_quiet, is_failing, reports_more}
use Rattle.disk_report.proofs.disks.reports_of.Goals as goal

pub returns-in_err-push-in-Ok-clause-quiet : goal.returns-in_err-push-in-Ok-clause-quiet
returns-in_err-push-in-Ok-clause-quiet g c =
    let lt : c.loop-k.k < length c.loop-k.disks = grind arith in
    let disk = get_or c.loop-k.disks c.loop-k.k c.index-disks-k.result in
    let at : slice_get c.loop-k.disks c.loop-k.k ≡ Some disk = slice_get-get_or c.loop-k.disks c.loop-k.k c.index-disks-k.result lt in
    passed_quiet _ _ _ _ (one_passed g.D.Disk.view c.loop-k.k c.args.disks.now c.loop-k.disks disk c.report_of.new.disk lt c.loop-k.invariant.0 at c.report_of.ensures.quiet)

pub returns-in-Err-Failed-clause-quiet : goal.returns-in-Err-Failed-clause-quiet
returns-in-Err-Failed-clause-quiet g c =
    let lt : c.loop-k.k < length c.loop-k.disks = grind arith in
    let disk = get_or c.loop-k.disks c.loop-k.k c.index-disks-k.result in
    let at : slice_get c.loop-k.disks c.loop-k.k ≡ Some disk = slice_get-get_or c.loop-k.disks c.loop-k.k c.index-disks-k.result lt in
    passed_quiet _ _ _ _ (one_passed g.D.Disk.view c.loop-k.k c.args.disks.now c.loop-k.disks disk c.report_of.new.disk lt c.loop-k.invariant.0 at c.report_of.ensures.quiet)

pub returns-in-Err-Failed-clause-stopped : goal.returns-in-Err-Failed-clause-stopped
returns-in-Err-Failed-clause-stopped g c =
    let lt : c.loop-k.k < length c.loop-k.disks = grind arith in
    let disk = get_or c.loop-k.disks c.loop-k.k c.index-disks-k.result in
    let at : slice_get c.loop-k.disks c.loop-k.k ≡ Some disk = slice_get-get_or c.loop-k.disks c.loop-k.k c.index-disks-k.result lt in
    is_failing g.D.Disk.view c.loop-k.k c.args.disks.now c.loop-k.disks disk c.report_of.new.disk c.in-Err-Failed.field-0 (search rules) (search rules) lt c.loop-k.invariant.0 at

pub returns-in-Err-Memory-clause-quiet : goal.returns-in-Err-Memory-clause-quiet
returns-in-Err-Memory-clause-quiet g c =
    let lt : c.loop-k.k < length c.loop-k.disks = grind arith in
    let disk = get_or c.loop-k.disks c.loop-k.k c.index-disks-k.result in
    let at : slice_get c.loop-k.disks c.loop-k.k ≡ Some disk = slice_get-get_or c.loop-k.disks c.loop-k.k c.index-disks-k.result lt in
    passed_quiet _ _ _ _ (one_passed g.D.Disk.view c.loop-k.k c.args.disks.now c.loop-k.disks disk c.report_of.new.disk lt c.loop-k.invariant.0 at c.report_of.ensures.quiet)

pub loop-k-preserved : goal.loop-k-preserved
loop-k-preserved g c =
    let lt : c.loop-k.k < length c.loop-k.disks = grind arith in
    let disk = get_or c.loop-k.disks c.loop-k.k c.index-disks-k.result in
    let at : slice_get c.loop-k.disks c.loop-k.k ≡ Some disk = slice_get-get_or c.loop-k.disks c.loop-k.k c.index-disks-k.result lt in (
      one_passed g.D.Disk.view c.loop-k.k c.args.disks.now c.loop-k.disks disk c.report_of.new.disk lt c.loop-k.invariant.0 at c.report_of.ensures.quiet,
      λ told. reports_more (λ disk. report_of (g.D.Disk.view disk).image) g.D.Disk.view c.loop-k.k c.args.disks.now c.loop-k.disks disk c.loop-k.reports c.push.new.self c.in-Ok.report c.loop-k.invariant.0 at
          (c.loop-k.invariant.1 told) (c.in-Ok.ensures.report told) (search rules),
    )
