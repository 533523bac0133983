-- Bytes that are the same log, with the same blocks.
use Rattle.std.proofs.Common.{◌≡◌, ◌<◌, ◌≤◌, ℕ, List, [], ◌∷◌, length, inl, inr, refl, sym, subst, ◌∙◌, ap, arith}
use Rattle.std.specs.Prelude.{false, ◌==◌, ◌||◌, not, if◌then◌else◌, Option, Some, None}
use Rattle.disk_layout.specs.Half.{HasLog, used_half}
use Rattle.disk_layout.specs.Pages.{pages_in, HasPages}
use Rattle.disk_layout.specs.Places.{pages_of}
use Rattle.disk_layout.specs.declared.half.Half.{Half}
use Rattle.disk_layout.specs.declared.superblock.Superblock.{Superblock}
use Rattle.disk_layout.proofs.Unique.{superblock_unique}
use Rattle.disk_layout.proofs.Words.{not_blank}
use Rattle.disk_image.specs.Joined.{listed}
use Rattle.disk_image.specs.Aggregate.{Aggregate, aggregate_of, is_blank, superblock_of}
use Rattle.disk_image.specs.Faults.{faults_of, faults_in, faults_under, faults_behind}
use Rattle.disk_image.specs.Image.{image_of, image_under, image_behind, image_in}
use Rattle.disk_image.proofs.Front.{unblank_fails, superblock_some, superblock_is}
use Rattle.disk_image_laws.specs.SameLaws.{LogHasSameImage, BlocksHaveSameImage}
use Rattle.disk_image_laws.proofs.Alike.{SaysSame, faults_are, image_is, joined_same}

-- its own pages say the same
own_pages : (disk : Aggregate) → SaysSame disk disk.pages
own_pages disk = record { page = λ p some. refl; state = λ slot low. refl; header = λ slot low used. refl }

pub blocks_have_same_image : BlocksHaveSameImage
blocks_have_same_image disk c same =
    (faults_are disk disk.pages c (own_pages disk) same refl, image_is disk disk.pages c (own_pages disk) same)

listed_same : (f g : ℕ → List ℕ) (n : ℕ) → ((k : ℕ) → k < n → f k ≡ g k) → listed f n ≡ listed g n
listed_same f g n each = joined_same (λ k. f k ∷ []) (λ k. g k ∷ []) n (λ k lt. (let e = each k lt in λ j. e j ∷ []))

module _ (superblock : Superblock) (half : Half) (old c : List ℕ) (log : HasLog superblock half old) (has : HasPages superblock half.generation (pages_in half old) old c) where
  shown : (bytes : List ℕ) (there : Half) → HasLog superblock there bytes → is_blank bytes ≡ false
  shown bytes there is = unblank_fails bytes (not_blank bytes is.front.named.gate)

  front_same : superblock_of c ≡ superblock_of old
  front_same = by (superblock_of old) refl (superblock_of c) refl
    where
      by : (a : Option Superblock) → superblock_of old ≡ a → (b : Option Superblock) → superblock_of c ≡ b → b ≡ a
      by None p None q = refl
      by None p (Some s) q =
          let parts = superblock_is c s q in
          let one : s ≡ superblock = superblock_unique s superblock c parts.0 has.log.front in
          let ranges = parts in
          (let first : 1 ≤ superblock.server = subst (λ t. 1 ≤ t.server) one parts.1 in
          let last : superblock.server ≤ 4 = subst (λ t. t.server ≤ 4) one parts.2 in
          let most : 1092 ≤ superblock.blocks = subst (λ t. 1092 ≤ t.blocks) one parts.3 in
          absurd (cc (p, superblock_some old superblock log.front first last most)))
      by (Some s) p b q =
          let parts = superblock_is old s p in
          let one : s ≡ superblock = superblock_unique s superblock old parts.0 log.front in
          (let first : 1 ≤ superblock.server = subst (λ t. 1 ≤ t.server) one parts.1 in
          let last : superblock.server ≤ 4 = subst (λ t. t.server ≤ 4) one parts.2 in
          let most : 1092 ≤ superblock.blocks = subst (λ t. 1092 ≤ t.blocks) one parts.3 in
          sym q ∙ superblock_some c superblock has.log.front first last most ∙ ap Some (sym one))

  aggregate_same : aggregate_of superblock has.half c ≡ record (aggregate_of superblock half old) { image = c }
  aggregate_same = (let pages = listed_same (pages_in has.half c) (pages_in half old) (pages_of superblock.blocks) has.pages in λ j. record {
    server = superblock.server;
    blocks = superblock.blocks;
    pages = pages j;
    image = c;
  })

  behind_same : faults_behind superblock (used_half (pages_of superblock.blocks) c) c ≡ faults_behind superblock (used_half (pages_of superblock.blocks) old) old
  behind_same =
      ap (λ h. faults_behind superblock h c) has.log.used ∙ ap faults_in aggregate_same
      ∙ (blocks_have_same_image (aggregate_of superblock half old) c has.blocks).0
      ∙ sym (ap (λ h. faults_behind superblock h old) log.used)

  image_same : image_behind superblock (used_half (pages_of superblock.blocks) c) c ≡ image_behind superblock (used_half (pages_of superblock.blocks) old) old
  image_same =
      ap (λ h. image_behind superblock h c) has.log.used
      ∙ ap (λ disk. Some (image_in disk)) aggregate_same
      ∙ ap Some (blocks_have_same_image (aggregate_of superblock half old) c has.blocks).1
      ∙ sym (ap (λ h. image_behind superblock h old) log.used)

  -- what is found of the first page is it, or nothing
  under_same : (found : Option Superblock) → superblock_of old ≡ found → faults_under found c ≡ faults_under found old
  under_same None is = refl
  under_same (Some s) is =
      let one : superblock ≡ s = superblock_unique superblock s old log.front (superblock_is old s is).0 in
      subst (λ t. faults_under (Some t) c ≡ faults_under (Some t) old) one behind_same

  image_under_same : (server : ℕ) (found : Option Superblock) → superblock_of old ≡ found → image_under found server c ≡ image_under found server old
  image_under_same server None is = refl
  image_under_same server (Some s) is =
      let one : superblock ≡ s = superblock_unique superblock s old log.front (superblock_is old s is).0 in
      subst (λ t. image_under (Some t) server c ≡ image_under (Some t) server old) one
      (λ j. if superblock.server == server then image_same j else None)

  faults_same : faults_of c ≡ faults_of old
  unfolding faults_of
  faults_same =
      (λ j. if shown c has.half has.log j then [] else faults_under (front_same j) c)
      ∙ under_same (superblock_of old) refl
      ∙ sym (λ j. if shown old half log j then [] else faults_under (superblock_of old) old)

  pub image_of_same : (server : ℕ) → image_of server c ≡ image_of server old
  unfolding image_of
  image_of_same server =
      (λ j. if shown c has.half has.log j || not (length (faults_same j) == 0) then None else image_under (front_same j) server c)
      ∙ (λ j. if false || not (length (faults_of old) == 0) then None else image_under_same server (superblock_of old) refl j)
      ∙ sym (λ j. if shown old half log j || not (length (faults_of old) == 0) then None else image_under (superblock_of old) server old)

pub log_has_same_image : LogHasSameImage
log_has_same_image superblock half old c log has = (faults_same superblock half old c log has, image_of_same superblock half old c log has)
