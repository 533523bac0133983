-- What stands before the metadata of a disk, and the faults that follow.
use Rattle.std.specs.Prelude.{ℕ, List, [], ◌∷◌}
use Rattle.disk_image.specs.Faults.{faults_in}
use Rattle.disk_image.specs.declared.fault.Fault.{Fault}
use Rattle.disk_judge.specs.Metadata.{IsSized, over}
use Rattle.disk_check.specs.declared.front.Front.{Front}
use Rattle.disk_check.specs.declared.front.Front.TheVariants.{Blank, Broken, Settled}

abbrev pub faults_after : Front → List ℕ → List Fault
faults_after Blank image = []
faults_after (Broken fault) image = fault ∷ []
faults_after (Settled metadata) image = faults_in (over metadata image)

-- metadata has all its pages
abbrev pub IsWhole : Front → Type 0
IsWhole Blank = Unit {0}
IsWhole (Broken fault) = Unit {0}
IsWhole (Settled metadata) = IsSized metadata
