use Rattle.std.proofs.Common.{◌∙◌, ap, sym}
use Rattle.disk_image.specs.Aggregate.{is_blank}
use Rattle.disk_aggregate.specs.Stands.{disk_in}
use Rattle.service_disks.proofs.Tried.{ok_so, opened_blank}
use Rattle.service_disks.proofs.opening.open_disk.Goals as goal

pub returns-in-Ok-true-clause-crash : goal.returns-in-Ok-true-clause-crash
returns-in-Ok-true-clause-crash g c = λ told.
    (let view = g.D.Disk.view in
    let looked = c.in-Ok-true.ensures in
    let blank = sym (looked.blank told) ∙ c.in-Ok-true.field-0-test in
    ok_so c.format_disk.result (λ store made. opened_blank c.args.roster.now c.args.server (view c.args.disk) (view c.is_new.new.disk) (view (disk_in store)) looked.quiet blank made)
    (c.format_disk.ensures.crash told (ap is_blank looked.quiet.image ∙ blank)))
