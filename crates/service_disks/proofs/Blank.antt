-- Disks that are blank, and others.
use Rattle.std.proofs.Common.{◌≡◌, ℕ, List, refl, sym}
use Rattle.std.specs.Prelude.{Bool, true, false, IsTrue, ◌↔◌}
use Rattle.std.proofs.lemmas.Bool.{false≢true}
use Rattle.base_types.specs.Image.{byte_at}
use Rattle.disk_layout.specs.Superblock.{IsBlank}
use Rattle.disk_layout.proofs.Words.{not_blank}
use Rattle.disk_image.specs.Aggregate.{is_blank}
use Rattle.disk_image.proofs.Front.{blank_is, blank_passes, unblank_fails}

pub blank_same : (blank : Bool) (image : List ℕ) → (IsTrue blank ↔ IsBlank image) → blank ≡ is_blank image
blank_same true image so = sym (blank_passes image (so.0 refl))
blank_same false image so = sym (unblank_fails image (λ is. false≢true (so.1 is)))

-- the first byte of a blank disk isn't 1
pub blank_gate : (image : List ℕ) → is_blank image ≡ true → byte_at image 0 ≡ 1 → ⊥
blank_gate image blank gate = not_blank image gate (blank_is image blank)
