-- What is found on a disk that is blank, and on one that isn't.
use Rattle.std.proofs.Common.{◌≡◌, ℕ, List, sym, true, false}
use Rattle.std.proofs.lemmas.Bool.{cond-true, cond-false}
use Rattle.disk_layout.specs.Superblock.{IsBlank}
use Rattle.disk_image.specs.Aggregate.{is_blank}
use Rattle.disk_image.specs.Faults.{faults_of}
use Rattle.disk_image.proofs.Front.{blank_passes, unblank_fails}
use Rattle.disk_report.specs.Report.{report_of}
use Rattle.disk_report.specs.declared.report.Report.TheVariants.{Blank, Faults}

pub blank_report : (image : List ℕ) → IsBlank image → Blank ≡ report_of image
unfolding report_of
blank_report image blank = sym (cond-true (is_blank image) Blank (Faults (faults_of image)) (blank_passes image blank))

pub faults_report : (image : List ℕ) → (IsBlank image → ⊥) → Faults (faults_of image) ≡ report_of image
unfolding report_of
faults_report image not_so = sym (cond-false (is_blank image) Blank (Faults (faults_of image)) (unblank_fails image not_so))
