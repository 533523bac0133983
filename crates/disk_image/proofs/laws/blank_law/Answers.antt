use Rattle.std.proofs.Common.{◌≡◌}
use Rattle.std.specs.Prelude.{[]}
use Rattle.std.proofs.lemmas.Bool.{cond-true}
use Rattle.disk_image.specs.Aggregate.{is_blank, superblock_of}
use Rattle.disk_image.specs.Faults.{faults_of, faults_under}
use Rattle.disk_image.proofs.Front.{blank_passes, blank_is}
use Rattle.disk_image.proofs.laws.blank_law.Goals as goal

pub returns-clause-blank : goal.returns-clause-blank
returns-clause-blank c = λ image. (blank_is image, blank_passes image)

pub returns-clause-none : goal.returns-clause-none
unfolding faults_of
returns-clause-none c = λ image blank. cond-true (is_blank image) [] (faults_under (superblock_of image) image) (blank_passes image blank)
