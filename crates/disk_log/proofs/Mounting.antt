-- What a mount finds.
use Rattle.std.proofs.Common.{◌≡◌, ◌≤◌, ◌<◌, ℕ, ◌+◌, List, length, refl, sym, ◌∙◌, ap, subst, inl, ⊎_elim, arith, get_or, Option, Some, None}
use Rattle.std.specs.Prelude.{IfSome, IfNone, MatchOption, Result, Ok, Err, OnErr}
use Rattle.base_types.specs.Image.{byte_at, bytes_from, Holds}
use Rattle.base_outside.proofs.Image.{get_or-bytes_from}
use Rattle.disk_layout.specs.Numbers.{number_at}
use Rattle.disk_layout.proofs.Bytes.{number-same}
use Rattle.base_types.specs.View.{View}
use Rattle.base_types.specs.Crash.{IsQuiet, IsSettled}
use Rattle.base_outside.specs.Runs.{LeavesOnly}
use Rattle.disk_layout.specs.Half.{HasLog}
use Rattle.disk_layout.specs.declared.superblock.Superblock.{Superblock}
use Rattle.disk_layout.specs.Superblock.{IsSuperblock}
use Rattle.disk_layout.proofs.Words.{front_read, front_reads}
use Rattle.disk_layout.proofs.Unique.{log_unique}
use Rattle.disk_layout.specs.declared.half.Half.{Half}
use Rattle.disk_layout.specs.Places.{pages_of, SameBlocks}
use Rattle.disk_layout.specs.Pages.{pages_in, HasPages}
use Rattle.disk_log.specs.Mount.{IsMounted, IsSameLog}
use Rattle.disk_log.specs.Puts.{page_of}
use Rattle.disk_log.specs.State.{State}

-- the superblock in the first page is that of the image
pub front_found : (found : Option Superblock) (page image : List ℕ) → page ≡ bytes_from image 0 512 → IfSome found (λ (superblock : Superblock). IsSuperblock superblock page) → IfNone found ((superblock : Superblock) → IsSuperblock superblock page → ⊥)
    → MatchOption found ((superblock : Superblock) → IsSuperblock superblock image → ⊥) (λ (superblock : Superblock). IsSuperblock superblock image)
front_found (Some superblock) page image read some none = front_read superblock image (subst (λ (l : List ℕ). IsSuperblock superblock l) read some)
front_found None page image read some none = λ superblock is. none superblock (subst (λ (l : List ℕ). IsSuperblock superblock l) (sym read) (front_reads superblock image is))

-- no call changes no byte
pub quiet_none : (view : View) → IsQuiet view view
quiet_none view = record { image = refl; later = omega arith; now = λ c left. left; since = λ t c le left. left; kept = λ t c le left. left }

-- a number that stands in a piece that was written
pub number_put : (n at number : ℕ) (piece image : List ℕ) → n ≤ length piece → number_at n 0 piece ≡ number → Holds at piece image → number_at n at image ≡ number
number_put n at number piece image le is holds =
    number-same n at 0 image piece (λ j lt. sym (get_or-bytes_from image at (length piece) j (omega arith)) ∙ ap (λ (l : List ℕ). get_or l j 0) holds.inside ∙ (let e : j ≡ 0 + j = omega arith in ap (byte_at piece) e)) ∙ is

-- what a crash left of a log is mounted: its pages are those, and its blocks
pub mounted_again : (superblock : Superblock) (generation : ℕ) (known : ℕ → List ℕ) (d c new : List ℕ) (next : State) → HasPages superblock generation known d c → IsMounted c new next
    → (next.superblock ≡ superblock) × ((p : ℕ) → p < pages_of superblock.blocks → page_of next.entries next.puts new p ≡ known p) × SameBlocks (pages_of superblock.blocks) d new
mounted_again superblock generation known d c new next has mounted =
    let one = log_unique next.superblock superblock mounted.half has.half c mounted.log has.log in
    let many : pages_of next.superblock.blocks ≡ pages_of superblock.blocks = ap (λ (s : Superblock). pages_of s.blocks) one.0 in (
      one.0,
      λ p lt. mounted.pages p (omega (arith, many, lt)) ∙ ap (λ (half : Half). pages_in half c p) one.1 ∙ has.pages p lt,
      λ at le. mounted.blocks at (omega (arith, many, le)) ∙ has.blocks at le,
    )

-- a run from a settled disk leaves what has P
pub settled_leaves : (P : List ℕ → Type 0) (old new : View) → IsSettled old → LeavesOnly P old new → P old.image → (c : List ℕ) → new.may_leave c → P c
settled_leaves P old new settled run reads c left =
    ⊎_elim (λ before. subst P (sym (settled c (old.only_now c before))) reads) (λ p. p) (run.each old.moment c (omega arith) (new.counts_now old.moment c run.later left))

-- a log is the same as itself
pub same_log : (superblock : Superblock) (half : Half) (image : List ℕ) → HasLog superblock half image → HasPages superblock half.generation (pages_in half image) image image
same_log superblock half image log = record { half = half; log = log; follows = inl refl; pages = λ p lt. refl; blocks = λ k from. refl }

pub any_err : {T E : Type 0} {A : Type 0} (result : Result T E) → A → OnErr result A
any_err (Ok x) a = tt
any_err (Err e) a = a

-- a run from a settled disk that holds a log leaves this log, as it was before a quiet call
pub log_left : (old mid new : View) (superblock : Superblock) (half : Half) → HasLog superblock half old.image → mid.image ≡ old.image → IsSettled mid
    → LeavesOnly (HasPages superblock half.generation (pages_in half mid.image) mid.image) mid new → (c : List ℕ) → new.may_leave c → IsSameLog old.image c
log_left old mid new superblock half log same settled run c left = record {
  superblock = superblock;
  half = half;
  log = log;
  same = subst (λ (image : List ℕ). HasPages superblock half.generation (pages_in half image) image c) same
      (settled_leaves _ mid new settled run (same_log superblock half mid.image (subst (λ (image : List ℕ). HasLog superblock half image) (sym same) log)) c left);
}
