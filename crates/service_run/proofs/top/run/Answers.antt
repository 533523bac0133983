use Rattle.std.proofs.Common.{◌≡◌, Some, map, length, refl, sym, ap, ◌∙◌, arith}
use Rattle.std.specs.String.{string_bytes}
use Rattle.disk_report.proofs.Passed.{none_passed, passed_quiet}
use Rattle.service_run.proofs.Checked.{checks_back, checks_stopped}
use Rattle.service_run.proofs.Lists.{written_back}
use Rattle.service_run.proofs.Names.{named_disks}
use Rattle.service_run.proofs.top.run.Goals as goal

pub returns-in-Err-clause-checks : goal.returns-in-Err-clause-checks
returns-in-Err-clause-checks g c = λ workers is.
    let disks = c.args.disks.now.items in
    let quiet = passed_quiet g.D.Disk.view 0 disks disks (none_passed g.D.Disk.view disks) in
    checks_stopped g.D.Disk.tells g.D.Disk.view c.without_run.result disks disks _ _ c.without_run.ensures.status c.without_run.ensures.empty quiet (λ w. refl)

pub run_play-requires-clause-disks : goal.run_play-requires-clause-disks
run_play-requires-clause-disks g c κs w =
    named_disks (map string_bytes c.args.words.now) c.in-Ok-Some-Play.play (length c.args.disks.now.items)
    (sym c.in-Ok-Some-Play.ensures.value ∙ c.in-Ok-Some-Play.field-0-is ∙ ap (λ x. Some x) c.in-Ok-Some-Play.field-0-0-is) c.requires.disks

pub returns-in-Ok-Some-Check-clause-checks : goal.returns-in-Ok-Some-Check-clause-checks
returns-in-Ok-Some-Check-clause-checks g c = λ workers is.
    (let disks = c.args.disks.now.items in
    let lent = c.as_mut_slice.result.now in
    let news = c.check_disks.new.disks in
    let same : length news ≡ length lent = c.check_disks.ensures.quiet.count in
    let was : length lent ≡ length disks = ap length c.as_mut_slice.ensures.value in
    let len = c.as_mut_slice.ensures.len in
    checks_back g.D.Disk.tells g.D.Disk.view c.check_disks.result disks lent news _ _ _ c.check_disks.ensures c.as_mut_slice.ensures.value (written_back c.args.disks.now.len disks news (same ∙ was) (omega (arith, len, was))))
