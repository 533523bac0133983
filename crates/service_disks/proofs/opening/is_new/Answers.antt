use Rattle.std.specs.Prelude.{IsTrue, ◌↔◌}
use Rattle.std.proofs.Common.{List, ℕ, subst}
use Rattle.disk_layout.specs.Superblock.{IsBlank}
use Rattle.service_disks.proofs.Blank.{blank_same}
use Rattle.service_disks.proofs.Tried.{ok_so}
use Rattle.service_disks.proofs.opening.is_new.Goals as goal

pub returns-in-Ok-clause-blank : goal.returns-in-Ok-clause-blank
returns-in-Ok-clause-blank g c = λ told. blank_same c.in-Ok.blank (g.D.Disk.view c.args.disk.now).image (c.in-Ok.ensures.blank told)

pub returns-in-Err-clause-blank : goal.returns-in-Err-clause-blank
returns-in-Err-clause-blank g c = λ told.
    ok_so c.is_blank-in-Err.result
    (λ blank is. blank_same blank (g.D.Disk.view c.args.disk.now).image (subst (λ (l : List ℕ). IsTrue blank ↔ IsBlank l) c.in-Err.ensures.quiet.image is))
    (c.is_blank-in-Err.ensures.blank told)
