-- A block that is written.
use Rattle.disk_layout.specs.Places.{in_place, pages_end, SameButBlocks}
use Rattle.std.proofs.Common.{◌≡◌, ◌<◌, ◌≤◌, ℕ, zero, suc, List, [], ◌∷◌, length, take, drop, sym, ◌∙◌, arith, length-take}
use Rattle.base_types.specs.Image.{Torn}
use Rattle.base_types.specs.View.{View}
use Rattle.base_types.specs.Crash.{ChangesBy}
use Rattle.disk_layout.specs.declared.entry.Entry.{Entry}
use Rattle.disk_layout.specs.declared.entry.Entry.TheVariants.{Update, End}
use Rattle.disk_layout.specs.declared.half.Half.{Half}
use Rattle.disk_layout.specs.Pages.{redone}
use Rattle.disk_layout.proofs.Pages.{redone_at, whole_agree, AreBelow}
use Rattle.disk_layout.proofs.Left.{used_same, entries_stay, page_same, start_low}
use Rattle.disk_log.specs.Append.{AllFit, LeavesBlocks}
use Rattle.disk_log.specs.Puts.{page_of, ArePuts, AreApart, IsOnDisk, IsSteady}
use Rattle.disk_log.proofs.Under.{overlaid_at}
use Rattle.disk_log.specs.declared.put.Put.{Put}

all_below : (half : Half) (xs : List Entry) → AllFit half xs → AreBelow half.pages xs
all_below half [] fits = tt
all_below half (Update t page old new ∷ xs) fits = (fits 0 (omega arith), all_below half xs (λ k lt. fits (suc k) (omega arith)))
all_below half (End t ∷ xs) fits = all_below half xs (λ k lt. fits (suc k) (omega arith))

below_take : (n k : ℕ) (xs : List Entry) → AreBelow n xs → AreBelow n (take k xs)
below_take n zero xs below = tt
below_take n (suc k) [] below = tt
below_take n (suc k) (Update t page old new ∷ xs) below = (below.0, below_take n k xs below.1)
below_take n (suc k) (End t ∷ xs) below = below_take n k xs below

below_drop : (n k : ℕ) (xs : List Entry) → AreBelow n xs → AreBelow n (drop k xs)
below_drop n zero xs below = below
below_drop n (suc k) [] below = tt
below_drop n (suc k) (Update t page old new ∷ xs) below = below_drop n k xs below.1
below_drop n (suc k) (End t ∷ xs) below = below_drop n k xs below

puts_agree : (n : ℕ) (puts : List Put) (a b : ℕ → List ℕ) → ((p : ℕ) → p < n → b p ≡ a p) → AreApart n puts → ArePuts a puts → ArePuts b puts
puts_agree n [] a b same apart over = tt
puts_agree n (put ∷ puts) a b same apart over = (over.0 ∙ sym (same put.page apart.0), puts_agree n puts a b same apart.2 over.1)

pub same_but_blocks : (pages at n : ℕ) (old new : List ℕ) → pages_end pages ≤ at → Torn at n old new → SameButBlocks pages old new
same_but_blocks pages at n old new le torn = λ k below. torn.before k (omega arith)

module _ (half : Half) (old new : List ℕ) (same : SameButBlocks half.pages old new) where
  place : (p : ℕ) → p < half.pages → in_place new p ≡ in_place old p
  place p lt = page_same half.pages p old new lt (λ k from below. same k below)

  pub page_beside : (entries : List Entry) (puts : List Put) (p : ℕ) → p < half.pages → page_of entries puts new p ≡ page_of entries puts old p
  unfolding page_of
  page_beside entries puts p lt = overlaid_at puts (λ (q : ℕ). redone entries (in_place new) q) (λ (q : ℕ). redone entries (in_place old) q) p (redone_at entries (in_place new) (in_place old) p (place p lt))

on_disk_beside : (old new : View) (half : Half) (entries : List Entry) (forced : ℕ) (puts : List Put) → length entries ≤ 2048 → AllFit half entries → AreApart half.pages puts
    → SameButBlocks half.pages old.image new.image → LeavesBlocks half.pages new → IsOnDisk old half entries forced puts → IsOnDisk new half entries forced puts
on_disk_beside old new half entries forced puts room fits apart same settled on_disk =
    let n = half.pages in
    let below = all_below half entries fits in
    let here = place half old.image new.image same in
    let size = length-take forced entries in
    record {
      log = record {
        place = on_disk.log.place;
        used = used_same half.pages old.image new.image (record { zeroth = λ k from lt. same k (omega arith); first = λ k from lt. same k (omega arith) }) ∙ on_disk.log.used;
        entries = entries_stay half (take forced entries) old.image new.image (start_low half on_disk.log.place) (omega arith) (λ k lt. same k (omega arith)) on_disk.log.entries;
      };
      whole = record {
        forced = whole_agree n (take forced entries) _ _ _ _ _ _ here here (below_take n forced entries below) on_disk.whole.forced;
        ended = whole_agree n (drop forced entries) _ _ _ _ _ _ (λ p lt. redone_at (take forced entries) (in_place new.image) (in_place old.image) p (here p lt)) (λ p lt. redone_at (take forced entries) (in_place new.image) (in_place old.image) p (here p lt))
            (below_drop n forced entries below) on_disk.whole.ended;
      };
      puts_over = puts_agree n puts _ _ (λ p lt. redone_at entries (in_place new.image) (in_place old.image) p (here p lt)) apart on_disk.puts_over;
      settled = settled;
    }

leaves_beside : (old new : View) (pages at n : ℕ) → pages_end pages ≤ at → Torn at n old.image new.image → ChangesBy (Torn at n) old new → LeavesBlocks pages old → LeavesBlocks pages new
leaves_beside old new pages at n le torn changes settled d left k below =
    let changed = changes.now d left in
    changed.2.before k (omega arith) ∙ settled changed.0 changed.1 k below ∙ sym (torn.before k (omega arith))

-- a log stays sound where a block is written, or torn
pub sound_beside : (tells : Type 0) (old new : View) (half : Half) (entries : List Entry) (forced : ℕ) (puts : List Put) (at n : ℕ) → pages_end half.pages ≤ at → (tells → Torn at n old.image new.image) → ChangesBy (Torn at n) old new
    → IsSteady tells old half entries forced puts → IsSteady tells new half entries forced puts
sound_beside tells old new half entries forced puts at n le torn changes sound = record {
  placed = sound.placed;
  few_pages = sound.few_pages;
  forced_le = sound.forced_le;
  room = sound.room;
  fits = sound.fits;
  apart = sound.apart;
  on_disk = λ told. on_disk_beside old new half entries forced puts sound.room sound.fits sound.apart (same_but_blocks half.pages at n old.image new.image le (torn told)) (leaves_beside old new half.pages at n le (torn told) changes (sound.on_disk told).settled) (sound.on_disk told);
}
