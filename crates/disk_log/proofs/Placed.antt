-- Pages that stand in their places after a checkpoint's first step.
use Rattle.std.proofs.Common.{length, get_or, Option, Some, None, ◌⊎◌, ◌≡◌, ◌<◌, ◌≤◌, ℕ, suc, ◌+◌, List, [], ◌∷◌, inl, inr, ⊎_elim, refl, sym, ◌∙◌, arith}
use Rattle.std.specs.Prelude.{Bool, true, false, ◌==◌, ◌&&◌, ◌||◌, not, if◌then◌else◌, IsSome}
use Rattle.std.proofs.lemmas.Bool.{cases_lt}
use Rattle.std.proofs.lemmas.Bool.Decides.{nat_tests}
use Rattle.base_types.specs.Image.{byte_at}
use Rattle.disk_layout.specs.declared.entry.Entry.{Entry}
use Rattle.disk_layout.specs.declared.entry.Entry.TheVariants.{Update, End}
use Rattle.disk_layout.specs.declared.half.Half.{Half}
use Rattle.disk_layout.specs.declared.superblock.Superblock.{Superblock}
use Rattle.disk_layout.specs.Places.{in_place, entry_start, pages_of, SameBlocks}
use Rattle.disk_layout.specs.Entry.{entries}
use Rattle.disk_layout.specs.Half.{AreSides, IsAhead}
use Rattle.disk_layout.specs.Pages.{redone, is_ended, undone, recovered, pages_in, is_named, SameButPages, SameButNamed, HasPages, IsBeside}
use Rattle.disk_layout.proofs.Bytes.{number-same}
use Rattle.disk_layout.proofs.Words.{superblock_same}
use Rattle.disk_layout.proofs.Entries.{entries_same}
use Rattle.disk_layout.proofs.Pages.{recovered_at}
use Rattle.disk_layout.proofs.Steps.{recovered_named}
use Rattle.disk_layout.proofs.Switch.{ahead_pages}
use Rattle.disk_log.specs.Append.{AllFit}
use Rattle.disk_log.specs.Recovered.{blank_page, AreRecovered}
use Rattle.disk_log.proofs.Recovering.{wider_pages}
use Rattle.disk_log.specs.Switch.{IsReady, IsUsed}

or_left : (a b : Bool) → (a || b) ≡ false → a ≡ false
or_left true b e = e
or_left false b e = refl

or_right : (a b : Bool) → (a || b) ≡ false → b ≡ false
or_right true b e = absurd (grind (arith, e))
or_right false b e = e

redone_unnamed : (held : List Entry) (pages : ℕ → List ℕ) (p : ℕ) → is_named p held ≡ false → redone held pages p ≡ pages p
redone_unnamed [] pages p out = refl
redone_unnamed (End t ∷ held) pages p out = redone_unnamed held pages p out
redone_unnamed (Update t page old new ∷ held) pages p out =
    redone_unnamed held (λ (q : ℕ). if page == q then new else pages q) p (or_right (page == p) (is_named p held) out) ∙ (λ j. if or_left (page == p) (is_named p held) out j then new else pages p)

undone_unnamed : (all held : List Entry) (pages : ℕ → List ℕ) (p : ℕ) → is_named p held ≡ false → undone all held pages p ≡ pages p
undone_unnamed all [] pages p out = refl
undone_unnamed all (End t ∷ held) pages p out = undone_unnamed all held pages p out
undone_unnamed all (Update t page old new ∷ held) pages p out =
    (λ j. if or_left (page == p) (is_named p held) out j && not (is_ended t all) then old else undone all held pages p) ∙ undone_unnamed all held pages p (or_right (page == p) (is_named p held) out)

-- recovery leaves a page that no entry names
pub recovered_unnamed : (held : List Entry) (pages : ℕ → List ℕ) (p : ℕ) → is_named p held ≡ false → recovered held pages p ≡ pages p
unfolding recovered
recovered_unnamed held pages p out = undone_unnamed held held (redone held pages) p out ∙ redone_unnamed held pages p out

-- entries that fit name pages that are there
pub fits_named : (half : Half) (held : List Entry) (p : ℕ) → AllFit half held → half.pages ≤ p → is_named p held ≡ false
fits_named half [] p fits le = refl
fits_named half (End t ∷ held) p fits le = fits_named half held p (λ k lt. fits (suc k) (omega arith)) le
fits_named half (Update t page old new ∷ held) p fits le =
    let lt : page < half.pages = fits 0 (omega arith) in
    let other : (page == p) ≡ false = grind (arith, nat_tests) in
    (λ j. other j || is_named p held) ∙ fits_named half held p (λ k lt. fits (suc k) (omega arith)) le

-- the log's own bytes say which half is ahead
log_ahead : (half : Half) (other : ℕ) (a b : List ℕ) → half.start ≤ 3146752 → other ≤ 3146752 → ((at : ℕ) → at < 6292992 → byte_at b at ≡ byte_at a at) → IsAhead half other a → IsAhead half other b
log_ahead half other a b low also same ahead = record {
  gate = same half.start (omega arith) ∙ ahead.gate;
  generation = number-same 8 (half.start + 8) (half.start + 8) b a (λ j lt. same (half.start + 8 + j) (omega arith)) ∙ ahead.generation;
  ahead = ⊎_elim (λ shut. inl (λ is. shut (sym (same other (omega arith)) ∙ is)))
      (λ lower. inr (let e = number-same 8 (other + 8) (other + 8) b a (λ j lt. same (other + 8 + j) (omega arith)) in omega (arith, e, lower))) ahead.ahead;
}

pub sides_low : (half : Half) (other : ℕ) → AreSides half.start other → (half.start ≤ 3146752) × (other ≤ 3146752)
sides_low half other (inl e) = let f = e.0 in let g = e.1 in (omega arith, omega arith)
sides_low half other (inr e) = let f = e.0 in let g = e.1 in (omega arith, omega arith)

module _ (superblock : Superblock) (half : Half) (other : ℕ) (held : List Entry) (old : List ℕ) (sides : AreSides half.start other) (used : IsUsed superblock half other held old) (fits : AllFit half held)
    (c : List ℕ) (same : SameButNamed held old c) where
  ahead_still : IsAhead half other c
  ahead_still = let low = sides_low half other sides in log_ahead half other old c low.0 low.1 same.log used.ahead

  region : (at : ℕ) → entry_start half.start 0 ≤ at → at < entry_start half.start 2048 → byte_at c at ≡ byte_at old at
  region at from below = let low = sides_low half other sides in same.log at (omega (arith, low.0))

  beside : IsBeside half (entries half old) old c
  beside = record {
    front = λ at lt. same.log at (omega arith);
    entries = region;
    pages = λ p lt out. same.pages p ((λ j. is_named p (sym used.held_there j)) ∙ out);
    blocks = same.blocks half.pages (λ p le. fits_named half held p fits le);
  }

  -- pages that are torn in their places are recovered
  pub torn_pages : HasPages superblock half.generation (pages_in half old) old c
  torn_pages = ahead_pages superblock half other old c used.many used.front sides ahead_still beside

  entries_still : entries half c ≡ held
  entries_still = entries_same half old c region ∙ used.held_there

  -- the pages after recovery stay
  pub pages_still : (p : ℕ) → pages_in half c p ≡ pages_in half old p
  unfolding pages_in
  pages_still p = (λ j. recovered (entries_still j) (in_place c) p) ∙ by (is_named p held) refl ∙ (λ j. recovered (sym used.held_there j) (in_place old) p)
    where
      by : (b : Bool) → is_named p held ≡ b → recovered held (in_place c) p ≡ recovered held (in_place old) p
      by true is = recovered_named held (in_place c) (in_place old) p is
      by false is = recovered_at held (in_place c) (in_place old) p (same.pages p is)

  module _ (written : (p : ℕ) → is_named p held ≡ true → in_place c p ≡ recovered held (λ (q : ℕ). blank_page) p) where
    placed_now : (p : ℕ) → pages_in half c p ≡ in_place c p
    unfolding pages_in
    placed_now p = (λ j. recovered (entries_still j) (in_place c) p) ∙ by (is_named p held) refl
      where
        by : (b : Bool) → is_named p held ≡ b → recovered held (in_place c) p ≡ in_place c p
        by true is = recovered_named held (in_place c) (λ (q : ℕ). blank_page) p is ∙ sym (written p is)
        by false is = recovered_unnamed held (in_place c) p is

    pub is_ready : IsReady superblock half other c
    is_ready = record {
      many = used.many;
      front = superblock_same superblock old c (λ at lt. same.log at (omega arith)) used.front;
      ahead = ahead_still;
      placed = λ p lt. placed_now p;
    }

    pub placed_known : (p : ℕ) → in_place c p ≡ pages_in half old p
    placed_known p = sym (placed_now p) ∙ pages_still p

-- the same pages and blocks, seen from before
pub seen_before : (superblock : Superblock) (half : Half) (old mid c : List ℕ) → half.pages ≡ pages_of superblock.blocks → ((p : ℕ) → pages_in half mid p ≡ pages_in half old p) → SameBlocks half.pages old mid
    → HasPages superblock half.generation (pages_in half mid) mid c → HasPages superblock half.generation (pages_in half old) old c
seen_before superblock half old mid c many pages blocks has = record {
  half = has.half;
  log = has.log;
  follows = has.follows;
  pages = λ p lt. has.pages p lt ∙ pages p;
  blocks = λ at le. has.blocks at le ∙ blocks at (omega (arith, many, le));
}

-- a table of what recovery makes of the pages that the entries name, and of no others
module _ (half : Half) (held : List Entry) (table : List (Option (List ℕ))) (size : length table ≡ half.pages) (fits : AllFit half held) (are : AreRecovered held table) where
  pub table_named : (old new : List ℕ) → SameButPages (λ (q : ℕ). get_or table q None ≡ None) old new → SameButNamed held old new
  table_named old new same = wider_pages _ _ old new are.others same

  pub table_written : (c : List ℕ) → ((p : ℕ) (bytes : List ℕ) → get_or table p None ≡ Some bytes → in_place c p ≡ bytes) → (p : ℕ) → is_named p held ≡ true → in_place c p ≡ recovered held (λ (q : ℕ). blank_page) p
  table_written c written p named = by (cases_lt p half.pages)
    where
      found : (o : Option (List ℕ)) → get_or table p None ≡ o → IsSome o → in_place c p ≡ recovered held (λ (q : ℕ). blank_page) p
      found (Some bytes) is some = written p bytes is ∙ are.kept p bytes is
      found None is some = absurd (grind (arith, some))

      by : (p < half.pages) ⊎ (half.pages ≤ p) → in_place c p ≡ recovered held (λ (q : ℕ). blank_page) p
      by (inl lt) = found _ refl (are.named p (omega arith) named)
      by (inr le) = let out = fits_named half held p fits le in absurd (grind (arith, named, out))
