use Rattle.std.proofs.Common.{◌≡◌, ℕ, List, []}
use Rattle.disk_check.proofs.Refusing.{headers_part}
use Rattle.disk_image.specs.Joined.{joined}
use Rattle.disk_judge.specs.Metadata.{over}
use Rattle.disk_check.proofs.mountable.undeclared.Given as goal

abbrev pub invariant-loop-slot : goal.invariant-loop-slot
invariant-loop-slot l = (image : List ℕ) → joined (headers_part l.servers (over l.metadata image)) l.slot ≡ []
