-- Counts in pages.
use Rattle.std.proofs.Common.{◌≡◌, ◌≢◌, ◌<◌, ◌≤◌, ◌⊎◌, ℕ, suc, min, ◌+◌, ◌*◌, ◌/◌, ◌%◌, ◌-◌, List, refl, sym, ◌∙◌, ap, arith, get_or, inl, inr}
use Rattle.std.specs.Prelude.{Bool, true, false, ◌==◌, if◌then◌else◌, nat_lt, Some}
use Rattle.std.proofs.lemmas.Bool.Decides.{nat_tests}
use Rattle.base_types.specs.Image.{byte_at, Torn}
use Rattle.disk_layout.specs.Numbers.{number_at}
use Rattle.disk_layout.proofs.Bytes.{number-same}
use Rattle.disk_log.specs.Puts.{page_of, settled_byte}
use Rattle.disk_log.specs.State.{State}
use Rattle.disk_space.specs.Counts.{count_page, count_place, count_now, count_settled, AreBothZero, IsFree, IsFound, AreUsed, SetsCount}

-- a count in a page that was read
pub count_read : (state : State) (image : List ℕ) (block : ℕ) (page : List ℕ) → page ≡ page_of state.entries state.puts image (count_page block) →
    number_at 2 (count_place block) page ≡ count_now state image block
unfolding count_now
count_read state image block page is = ap (number_at 2 (count_place block)) is

-- the page of a block's count is a page
pub page_there : (block blocks : ℕ) → block < blocks → count_page block < 1058 + (blocks + 255) / 256
page_there block blocks lt = omega arith

-- two counts of one page stand apart
number_kept : (a b : ℕ) → a ≢ b → count_page a ≡ count_page b → (old new : List ℕ) → Torn (count_place a) 2 old new → number_at 2 (count_place b) new ≡ number_at 2 (count_place b) old
number_kept a b other same old new torn = number-same 2 (count_place b) (count_place b) new old (λ j lt. by j lt (nat_lt (b % 256) (a % 256)) refl)
  where
    by : (j : ℕ) → j < 2 → (lower : Bool) → nat_lt (b % 256) (a % 256) ≡ lower → byte_at new (count_place b + j) ≡ byte_at old (count_place b + j)
    by j lt true is = let low : b % 256 < a % 256 = grind (arith, nat_tests) in torn.before _ (omega arith)
    by j lt false is = let high : a % 256 ≤ b % 256 = grind (arith, nat_tests) in torn.after _ (omega arith)

-- the number of two bytes
two_bytes : (at : ℕ) (xs : List ℕ) → number_at 2 at xs ≡ 256 * byte_at xs at + byte_at xs (at + 1)
unfolding number_at
two_bytes at xs = (let e : suc at ≡ at + 1 = omega arith in omega (arith, ap (byte_at xs) e))

-- a count that was put
pub count_put : (block n : ℕ) (old new : State) (image page after : List ℕ) →
    page ≡ page_of old.entries old.puts image (count_page block) → number_at 2 (count_place block) after ≡ n → Torn (count_place block) 2 page after →
    ((p : ℕ) → page_of new.entries new.puts image p ≡ (if count_page block == p then after else page_of old.entries old.puts image p)) →
    SetsCount block n old new image
unfolding count_now
count_put block n old new image page after read is torn pages = record {
  count = ap (number_at 2 (count_place block)) (here block refl) ∙ is;
  others = λ other differs. by other differs (count_page block == count_page other) refl;
  pages = λ p low. there p (omega arith);
}
  where
    here : (b : ℕ) → count_page block ≡ count_page b → page_of new.entries new.puts image (count_page b) ≡ after
    here b e = pages (count_page b) ∙ rw (yes) refl
      where
        yes : (count_page block == count_page b) ≡ true
        yes = grind (arith, nat_tests)

    there : (p : ℕ) → count_page block ≢ p → page_of new.entries new.puts image p ≡ page_of old.entries old.puts image p
    there p differs = pages p ∙ rw (isnt) refl
      where
        isnt : (count_page block == p) ≡ false
        isnt = grind (arith, nat_tests)

    by : (other : ℕ) → other ≢ block → (same : Bool) → (count_page block == count_page other) ≡ same → count_now new image other ≡ count_now old image other
    by other differs true e =
        let same : count_page block ≡ count_page other = grind (arith, nat_tests) in
        ap (number_at 2 (count_place other)) (here other same) ∙ number_kept block other (λ is. differs (sym is)) same page after torn
        ∙ ap (number_at 2 (count_place other)) (read ∙ ap (page_of old.entries old.puts image) same)
    by other differs false e = ap (number_at 2 (count_place other)) (there (count_page other) (λ is. grind (arith, nat_tests)))

-- the counts of the blocks from the first of a page on, as they stand in the page now and as settled
module _ (state : State) (image now settled : List ℕ) (first counts : ℕ) (whole : first % 256 ≡ 0) (few : counts ≤ 256)
    (read : now ≡ page_of state.entries state.puts image (count_page first))
    (or : (k : ℕ) → k < 512 → get_or settled k 0 ≡ settled_byte state.entries state.forced image (count_page first) k) where
  now_at : (i : ℕ) → i < 256 → number_at 2 (2 * i) now ≡ count_now state image (first + i)
  now_at i lt =
      let place : count_place (first + i) ≡ 2 * i = omega arith in
      let page : count_page first ≡ count_page (first + i) = omega arith in
      ap (λ (at : ℕ). number_at 2 at now) (sym place) ∙ count_read state image (first + i) now (read ∙ ap (page_of state.entries state.puts image) page)

  settled_at : (i : ℕ) → i < 256 → number_at 2 (2 * i) settled ≡ count_settled state image (first + i)
  unfolding count_settled
  settled_at i lt =
      let place : 2 * i ≡ count_place (first + i) = omega arith in
      let page : count_page first ≡ count_page (first + i) = omega arith in
      two_bytes (2 * i) settled ∙ (λ j. 256 * or (2 * i) (omega arith) j + or (2 * i + 1) (omega arith) j)
      ∙ (λ j. 256 * settled_byte state.entries state.forced image (page j) (place j) + settled_byte state.entries state.forced image (page j) (place j + 1))

  zero_of : (block : ℕ) → first ≤ block → block < first + 256 → IsFree state image block → AreBothZero now settled (block - first)
  zero_of block le lt free =
      let e : first + (block - first) ≡ block = omega arith in
      (now_at (block - first) (omega arith) ∙ ap (count_now state image) e ∙ free.now, settled_at (block - first) (omega arith) ∙ ap (count_settled state image) e ∙ free.settled)

  -- no count of the page is free
  pub found_none : (counts ≡ 256) ⊎ (state.superblock.blocks ≤ first + counts) → ((i : ℕ) → i < counts → AreBothZero now settled i → ⊥) → AreUsed state image first (first + 256)
  found_none all none block le lt free = none (block - first) (by all) (zero_of block le lt free)
    where
      by : (counts ≡ 256) ⊎ (state.superblock.blocks ≤ first + counts) → block - first < counts
      by (inl e) = omega arith
      by (inr e) = omega (arith, free.there)

  -- the lowest free one
  pub found_some : (i : ℕ) → first + counts ≤ state.superblock.blocks → i < counts → AreBothZero now settled i → ((j : ℕ) → j < i → AreBothZero now settled j → ⊥) → IsFound state image first (first + 256) (Some (first + i))
  found_some i within lt (here, there) lower = (
    record {
      there = omega arith;
      now = sym (now_at i (omega arith)) ∙ here;
      settled = sym (settled_at i (omega arith)) ∙ there;
    },
    λ block le less free. lower (block - first) (omega arith) (zero_of block le (omega arith) free),
  )

-- fewer counts than fill a page are all that are left
pub cut_short : (counts first left blocks : ℕ) → counts ≡ min 256 (left - first) → left ≡ blocks → (counts ≡ 256) ⊎ (blocks ≤ first + counts)
cut_short counts first left blocks is same = by (nat_lt counts 256) refl
  where
    by : (less : Bool) → nat_lt counts 256 ≡ less → (counts ≡ 256) ⊎ (blocks ≤ first + counts)
    by true e = let lt : counts < 256 = grind (arith, nat_tests) in inr (omega arith)
    by false e = let le : 256 ≤ counts = grind (arith, nat_tests) in inl (omega arith)
