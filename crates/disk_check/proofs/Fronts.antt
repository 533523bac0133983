-- What follows from the first page and the halves of the log.
use Rattle.std.proofs.Common.{◌≡◌, ◌<◌, ◌≤◌, ℕ, zero, suc, List, [], ◌∷◌, length, get_or, inl, inr, refl, sym, ◌∙◌, ap, arith}
use Rattle.std.specs.Prelude.{Bool, true, false, nat_le, ◌&&◌, Option, Some, None, Result, Ok, Err, IfOk}
use Rattle.std.proofs.lemmas.Bool.{cond-true, cond-false, and_parts, and_from, leb-true, le-leb, false≢true}
use Rattle.std.proofs.lemmas.List.{same_lists}
use Rattle.disk_layout.specs.Half.{used_half, HasNoLog}
use Rattle.disk_layout.specs.Pages.{pages_in}
use Rattle.disk_layout.specs.Places.{pages_of}
use Rattle.disk_layout.specs.Superblock.{IsBlank, IsSuperblock}
use Rattle.disk_layout.specs.declared.half.Half.{Half}
use Rattle.disk_layout.specs.declared.superblock.Superblock.{Superblock}
use Rattle.disk_layout.proofs.Unique.{superblock_unique}
use Rattle.disk_log.specs.Mount.{AreSettled}
use Rattle.disk_image.specs.Joined.{listed}
use Rattle.disk_image.specs.Aggregate.{aggregate_of, is_blank, superblock_of}
use Rattle.disk_image.specs.Faults.{faults_of, faults_in, faults_behind, faults_under, one_fault}
use Rattle.disk_image.specs.declared.fault.Rule.TheVariants as rules
use Rattle.disk_image.proofs.Front.{blank_passes, unblank_fails, superblock_some, superblock_is}
use Rattle.disk_image.proofs.Joined.{length-listed, get_or-listed}
use Rattle.disk_judge.specs.Metadata.{over}
use Rattle.disk_judge.specs.declared.metadata.Metadata.{Metadata}

-- a blank disk has no faults
pub blank_front : (image : List ℕ) → IsBlank image → [] ≡ faults_of image
unfolding faults_of
blank_front image blank = sym (cond-true (is_blank image) [] (faults_under (superblock_of image) image) (blank_passes image blank))

-- without a superblock of an aggregate it has one fault
pub no_front : (image : List ℕ) → (IsBlank image → ⊥)
    → ((superblock : Superblock) → IsSuperblock superblock image → 1 ≤ superblock.server → superblock.server ≤ 4 → 1092 ≤ superblock.blocks → ⊥)
    → one_fault 0 rules.Superblock ≡ faults_of image
unfolding faults_of
no_front image unblank none =
    sym (cond-false (is_blank image) [] (faults_under (superblock_of image) image) (unblank_fails image unblank) ∙ by (superblock_of image) refl)
  where
    by : (found : Option Superblock) → superblock_of image ≡ found → faults_under found image ≡ one_fault 0 rules.Superblock
    by None is = refl
    by (Some superblock) is = let all = superblock_is image superblock is in absurd (none superblock all.0 all.1 all.2 all.3)

-- and with one those behind it
pub front_there : (image : List ℕ) (superblock : Superblock) → (IsBlank image → ⊥) → IsSuperblock superblock image → 1 ≤ superblock.server → superblock.server ≤ 4 → 1092 ≤ superblock.blocks
    → faults_behind superblock (used_half (pages_of superblock.blocks) image) image ≡ faults_of image
unfolding faults_of
front_there image superblock unblank is first last some =
    sym (cond-false (is_blank image) [] (faults_under (superblock_of image) image) (unblank_fails image unblank)
    ∙ ap (λ found. faults_under found image) (superblock_some image superblock is first last some))

-- whether a log's superblock is that of an aggregate
abbrev pub in_range : Superblock → Bool
in_range superblock = nat_le 1 superblock.server && nat_le superblock.server 4 && nat_le 1092 superblock.blocks

pub front_in_range : (image : List ℕ) (superblock : Superblock) → (IsBlank image → ⊥) → IsSuperblock superblock image → in_range superblock ≡ true
    → faults_behind superblock (used_half (pages_of superblock.blocks) image) image ≡ faults_of image
front_in_range image superblock unblank is passes =
    let two = and_parts (nat_le 1 superblock.server && nat_le superblock.server 4) (nat_le 1092 superblock.blocks) passes in
    let one = and_parts (nat_le 1 superblock.server) (nat_le superblock.server 4) two.0 in
    front_there image superblock unblank is (leb-true 1 superblock.server one.0) (leb-true superblock.server 4 one.1) (leb-true 1092 superblock.blocks two.1)

pub front_out_of_range : (image : List ℕ) (superblock : Superblock) → (IsBlank image → ⊥) → IsSuperblock superblock image → in_range superblock ≡ false
    → one_fault 0 rules.Superblock ≡ faults_of image
front_out_of_range image superblock unblank is fails =
    no_front image unblank (λ other also first last some.
    let e = superblock_unique superblock other image is also in
    let passes : in_range other ≡ true =
    and_from (nat_le 1 other.server && nat_le other.server 4) (nat_le 1092 other.blocks)
    (and_from (nat_le 1 other.server) (nat_le other.server 4) (le-leb 1 other.server first) (le-leb other.server 4 last)) (le-leb 1092 other.blocks some) in
    false≢true (sym fails ∙ ap in_range e ∙ passes))

same_get : (xs : List (List ℕ)) (k : ℕ) (a b : List ℕ) → k < length xs → get_or xs k a ≡ get_or xs k b
same_get [] k a b lt = absurd (omega arith)
same_get (x ∷ xs) zero a b lt = refl
same_get (x ∷ xs) (suc k) a b lt = same_get xs k a b (omega arith)

same_pages : (pages : List (List ℕ)) (value : ℕ → List ℕ) (n : ℕ) → length pages ≡ n → ((p : ℕ) → p < length pages → get_or pages p [] ≡ value p) → pages ≡ listed value n
same_pages pages value n size each =
    same_lists pages (listed value n) (size ∙ sym (length-listed value n))
    (λ k other lt. same_get pages k other [] lt ∙ each k lt ∙ sym (get_or-listed value n k other (omega (arith, size, lt))))

some_same : (a b : Half) → Some a ≡ Some b → a ≡ b
some_same a b e = cc

module _ (image : List ℕ) (superblock : Superblock) (is : IsSuperblock superblock image) where
  abbrev half_of : Option Half
  half_of = used_half (pages_of superblock.blocks) image

  -- the pages are those of its blocks
  pub settled_size : (pages : List (List ℕ)) → AreSettled image pages → length pages ≡ pages_of superblock.blocks
  settled_size pages are = are.size ∙ ap (λ (s : Superblock). pages_of s.blocks) (superblock_unique are.superblock superblock image are.log.front is)

  -- and the faults behind the log are those of the metadata
  pub settled_faults : (metadata : Metadata) → metadata.server ≡ superblock.server → metadata.blocks ≡ superblock.blocks → AreSettled image metadata.pages.items
      → faults_in (over metadata image) ≡ faults_behind superblock half_of image
  settled_faults metadata server blocks are =
      let same : are.superblock ≡ superblock = superblock_unique are.superblock superblock image are.log.front is in
      let used : half_of ≡ Some are.half = ap (λ (s : Superblock). used_half (pages_of s.blocks) image) (sym same) ∙ are.log.used in
      let pages : metadata.pages.items ≡ listed (pages_in are.half image) (pages_of superblock.blocks) =
      same_pages metadata.pages.items (pages_in are.half image) (pages_of superblock.blocks) (settled_size metadata.pages.items are) are.each in
      (λ j. faults_in (record { server = server j; blocks = blocks j; pages = pages j; image = image }))
      ∙ ap (λ half. faults_behind superblock half image) (sym used)

  -- which is the aggregate behind the log
  pub settled_aggregate : (metadata : Metadata) → metadata.server ≡ superblock.server → metadata.blocks ≡ superblock.blocks → AreSettled image metadata.pages.items → (half : Half) → half_of ≡ Some half
      → over metadata image ≡ aggregate_of superblock half image
  settled_aggregate metadata server blocks are half is_used =
      let same : are.superblock ≡ superblock = superblock_unique are.superblock superblock image are.log.front is in
      let used : half_of ≡ Some are.half = ap (λ (s : Superblock). used_half (pages_of s.blocks) image) (sym same) ∙ are.log.used in
      let one : are.half ≡ half = some_same are.half half (sym used ∙ is_used) in
      let pages : metadata.pages.items ≡ listed (pages_in are.half image) (pages_of superblock.blocks) =
      same_pages metadata.pages.items (pages_in are.half image) (pages_of superblock.blocks) (settled_size metadata.pages.items are) are.each in
      (λ j. record { server = server j; blocks = blocks j; pages = pages j; image = image }) ∙ (λ j. aggregate_of superblock (one j) image)

  -- where there is no log, no half is used
  pub no_log : (place : ℕ) → HasNoLog place image → one_fault 512 rules.Log ≡ faults_behind superblock half_of image
  no_log place (inl none) = absurd (none.1 superblock is)
  no_log place (inr other) =
      let same : other.1.0 ≡ superblock = superblock_unique other.1.0 superblock image other.1.1 is in
      let used : half_of ≡ None = ap (λ (s : Superblock). used_half (pages_of s.blocks) image) (sym same) ∙ other.1.2 in
      ap (λ half. faults_behind superblock half image) (sym used)

-- what follows of what a call gives
pub ok_then : {T E : Type 0} (r : Result T E) (P Q : T → Type 0) → IfOk r P → ((v : T) → P v → Q v) → IfOk r Q
ok_then (Ok v) P Q holds step = step v holds
ok_then (Err e) P Q holds step = holds
