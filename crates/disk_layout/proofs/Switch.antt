-- The steps of a checkpoint leave the pages.
use Rattle.std.proofs.Common.{◌≡◌, ◌≢◌, ◌<◌, ◌≤◌, ℕ, ◌+◌, List, inl, inr, ⊎_elim, refl, sym, ◌∙◌, ap, subst, arith, Some}
use Rattle.std.specs.Prelude.{Bool, true, false, ◌==◌}
use Rattle.std.proofs.lemmas.Bool.Decides.{nat_tests}
use Rattle.base_types.specs.Image.{byte_at, Torn}
use Rattle.disk_layout.specs.declared.half.Half.{Half}
use Rattle.disk_layout.specs.declared.superblock.Superblock.{Superblock}
use Rattle.disk_layout.specs.Numbers.{number_at}
use Rattle.disk_layout.specs.Places.{in_place, pages_of, SameBlocks}
use Rattle.disk_layout.specs.Superblock.{IsSuperblock}
use Rattle.disk_layout.specs.Entry.{gate_at, entries}
use Rattle.disk_layout.specs.Half.{used_half, header_at, IsAhead, AreSides}
use Rattle.disk_layout.specs.Pages.{recovered, pages_in, is_named, HasPages, IsSameOrNext, IsBeside}
use Rattle.disk_layout.proofs.Bytes.{number-same}
use Rattle.disk_layout.proofs.Words.{superblock_same}
use Rattle.disk_layout.proofs.Entries.{entries_same}
use Rattle.disk_layout.proofs.Pages.{recovered_at}
use Rattle.disk_layout.proofs.Steps.{recovered_named, zeroth_used, first_used, none_held}

test_yes : (a : ℕ) → a ≡ 1 → (a == 1) ≡ true
test_yes a is = grind (arith, nat_tests)

test_no : (a : ℕ) → a ≢ 1 → (a == 1) ≡ false
test_no a other = grind (arith, nat_tests)

-- the half that is ahead is the used one, on either side
pub ahead_used : (half : Half) (other : ℕ) (image : List ℕ) → AreSides half.start other → IsAhead half other image → used_half half.pages image ≡ Some half
unfolding used_half
ahead_used half other image (inl sides) ahead =
    zeroth_used half.pages (header_at image 0) (header_at image 1) (test_yes _ (ap (byte_at image) (sym sides.0) ∙ ahead.gate))
    (⊎_elim (λ shut. inl (test_no _ (λ is. shut (ap (byte_at image) sides.1 ∙ is))))
    (λ lower. inr (let e = ap (λ (s : ℕ). number_at 8 (s + 8) image) sides.1 in let f = ap (λ (s : ℕ). number_at 8 (s + 8) image) sides.0 in let g = ahead.generation in omega (arith, e, f, g, lower))) ahead.ahead)
    ∙ (λ j. Some (record { start = sym sides.0 j; generation = (ap (λ (s : ℕ). number_at 8 (s + 8) image) (sym sides.0) ∙ ahead.generation) j; pages = half.pages }))
ahead_used half other image (inr sides) ahead =
    first_used half.pages (header_at image 0) (header_at image 1) (test_yes _ (ap (byte_at image) (sym sides.0) ∙ ahead.gate))
    (⊎_elim (λ shut. inl (test_no _ (λ is. shut (ap (byte_at image) sides.1 ∙ is))))
    (λ lower. inr (let e = ap (λ (s : ℕ). number_at 8 (s + 8) image) sides.1 in let f = ap (λ (s : ℕ). number_at 8 (s + 8) image) sides.0 in let g = ahead.generation in omega (arith, e, f, g, lower))) ahead.ahead)
    ∙ (λ j. Some (record { start = sym sides.0 j; generation = (ap (λ (s : ℕ). number_at 8 (s + 8) image) (sym sides.0) ∙ ahead.generation) j; pages = half.pages }))

-- While the half is ahead its entries count, whatever the other half holds and whatever stands in the pages that
-- they name. It holds of any entries.
pub ahead_pages : (superblock : Superblock) (half : Half) (other : ℕ) (old new : List ℕ) → half.pages ≡ pages_of superblock.blocks → IsSuperblock superblock old → AreSides half.start other → IsAhead half other new
    → IsBeside half (entries half old) old new → HasPages superblock half.generation (λ (p : ℕ). pages_in half old p) old new
unfolding pages_in
ahead_pages superblock half other old new many is sides ahead beside = record {
  half = half;
  follows = inl refl;
  log = record { front = superblock_same superblock old new beside.front is; used = subst (λ (n : ℕ). used_half n new ≡ Some half) many (ahead_used half other new sides ahead) };
  pages = λ p lt. (λ j. recovered (entries_same half old new beside.entries j) (in_place new) p) ∙ by p (omega arith) (is_named p (entries half old)) refl;
  blocks = subst (λ (n : ℕ). SameBlocks n old new) many beside.blocks;
}
  where
    by : (p : ℕ) → p < half.pages → (named : Bool) → is_named p (entries half old) ≡ named → recovered (entries half old) (in_place new) p ≡ recovered (entries half old) (in_place old) p
    by p lt true is = recovered_named (entries half old) (in_place new) (in_place old) p is
    by p lt false is = recovered_at (entries half old) (in_place new) (in_place old) p (beside.pages p lt is)

-- once the other half is ahead, with all its gates closed, the pages are those in place
pub switched_pages : (superblock : Superblock) (half : Half) (other generation : ℕ) (image : List ℕ) → IsSameOrNext generation half.generation → half.pages ≡ pages_of superblock.blocks → IsSuperblock superblock image → AreSides half.start other → IsAhead half other image
    → ((i : ℕ) → i < 2048 → gate_at half.start image i ≢ 1) → HasPages superblock generation (λ (p : ℕ). in_place image p) image image
switched_pages superblock half other generation image follows many is sides ahead shut = record {
  half = half;
  follows = follows;
  log = record { front = is; used = subst (λ (n : ℕ). used_half n image ≡ Some half) many (ahead_used half other image sides ahead) };
  pages = λ p lt. none_held half image shut p;
  blocks = λ k from. refl;
}

-- a write within the other half's header leaves this half's
header_beside : (half : Half) (other at n : ℕ) (old new : List ℕ) → AreSides half.start other → other ≤ at → at + n ≤ other + 16 → Torn at n old new
    → (byte_at new half.start ≡ byte_at old half.start) × (number_at 8 (half.start + 8) new ≡ number_at 8 (half.start + 8) old)
header_beside half other at n old new (inl sides) from up_to torn =
    let e = sides.0 in let f = sides.1 in (torn.before half.start (omega arith), number-same 8 (half.start + 8) (half.start + 8) new old (λ j lt. torn.before (half.start + 8 + j) (omega arith)))
header_beside half other at n old new (inr sides) from up_to torn =
    let e = sides.0 in let f = sides.1 in (torn.after half.start (omega arith), number-same 8 (half.start + 8) (half.start + 8) new old (λ j lt. torn.after (half.start + 8 + j) (omega arith)))

-- An open gate of a half that is behind may be torn. So a closed one must not be written again: its generation may be
-- any.
pub gate_torn : (half : Half) (other : ℕ) (old new : List ℕ) → AreSides half.start other → IsAhead half other old → byte_at old other ≡ 1 → Torn other 1 old new → IsAhead half other new
gate_torn half other old new sides ahead opened torn =
    let here = header_beside half other other 1 old new sides (omega arith) (omega arith) torn in
    record {
      gate = here.0 ∙ ahead.gate;
      generation = here.1 ∙ ahead.generation;
      ahead = ⊎_elim (λ shut. absurd (shut opened)) (λ lower. inr (let e = number-same 8 (other + 8) (other + 8) new old (λ j lt. torn.after (other + 8 + j) (omega arith)) in omega (arith, e, lower))) ahead.ahead;
    }

-- the generation of a closed half may be torn
pub generation_torn : (half : Half) (other n : ℕ) (old new : List ℕ) → n ≡ 8 → AreSides half.start other → IsAhead half other old → byte_at old other ≢ 1 → Torn (other + 8) n old new → IsAhead half other new
generation_torn half other n old new size sides ahead shut torn =
    let here = header_beside half other (other + 8) n old new sides (omega arith) (omega arith) torn in
    record {
      gate = here.0 ∙ ahead.gate;
      generation = here.1 ∙ ahead.generation;
      ahead = inl (λ is. shut (sym (torn.before other (omega arith)) ∙ is));
    }
