-- The bytes of a disk are one log at most.
use Rattle.std.proofs.Common.{◌≡◌, List, ℕ, sym, ◌∙◌, ap, Some}
use Rattle.disk_layout.specs.declared.half.Half.{Half}
use Rattle.disk_layout.specs.declared.superblock.Superblock.{Superblock}
use Rattle.disk_layout.specs.Places.{pages_of}
use Rattle.disk_layout.specs.Superblock.{IsSuperblock}
use Rattle.disk_layout.specs.Half.{used_half, HasLog}

pub superblock_unique : (superblock other : Superblock) (image : List ℕ) → IsSuperblock superblock image → IsSuperblock other image → superblock ≡ other
superblock_unique superblock other image is also = λ j. record { server = (sym is.server ∙ also.server) j; blocks = (sym is.blocks ∙ also.blocks) j }

pub log_unique : (superblock other : Superblock) (half there : Half) (image : List ℕ) → HasLog superblock half image → HasLog other there image → (superblock ≡ other) × (half ≡ there)
log_unique superblock other half there image log also =
    let same = superblock_unique superblock other image log.front also.front in
    let used : Some half ≡ Some there = sym log.used ∙ ap (λ (s : Superblock). used_half (pages_of s.blocks) image) same ∙ also.used in
    (same, cc)
