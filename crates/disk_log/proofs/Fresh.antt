-- A log that was just mounted or formatted.
use Rattle.std.proofs.Common.{◌≡◌, ◌≢◌, ◌<◌, ◌≤◌, ◌⊎◌, ℕ, zero, suc, ◌+◌, List, [], inl, inr, ⊎_elim, refl, sym, ◌∙◌, ap, subst, arith, get_or, length, replicate, Option, Some, None}
use Rattle.std.specs.Prelude.{Bool, true, false, ◌==◌, nat_lt, if◌then◌else◌}
use Rattle.std.proofs.lemmas.Bool.Decides.{nat_tests}
use Rattle.std.proofs.lemmas.List.{length-replicate}
use Rattle.std.proofs.lemmas.List.Folds.{sum_by-replicate}
use Rattle.base_types.specs.Image.{byte_at}
use Rattle.base_types.specs.View.{View}
use Rattle.base_types.specs.Crash.{IsSettled}
use Rattle.disk_layout.specs.declared.half.Half.{Half}
use Rattle.disk_layout.specs.declared.half.Header.{Header}
use Rattle.disk_layout.specs.declared.superblock.Superblock.{Superblock}
use Rattle.disk_layout.specs.Numbers.{number_at}
use Rattle.disk_layout.specs.Places.{half_start, in_place, pages_of, SameBlocks}
use Rattle.disk_layout.specs.Superblock.{IsSuperblock}
use Rattle.disk_layout.specs.Half.{used_of, half_of, header_at, used_half, HasLog, IsLog, AreSides, IsAhead}
use Rattle.disk_layout.specs.Pages.{pages_in}
use Rattle.disk_log.specs.Mount.{IsMounted}
use Rattle.disk_log.specs.Pages.{HoldsPages}
use Rattle.disk_log.specs.Puts.{page_of}
use Rattle.disk_log.specs.State.{State, fresh_state, IsSound}
use Rattle.disk_log.specs.Switch.{other_of, next_half}

pub sides_of : (half : Half) → (half.start ≡ half_start 0) ⊎ (half.start ≡ half_start 1) → AreSides half.start (other_of half.start)
sides_of half placed = ⊎_elim (λ e. inl (e, omega (arith, e))) (λ e. inr (e, omega (arith, e))) placed

pub other_placed : (start other : ℕ) → AreSides start other → (other ≡ half_start 0) ⊎ (other ≡ half_start 1)
other_placed start other (inl e) = inr e.1
other_placed start other (inr e) = inl e.1

-- which of two headers is used says which half is ahead
abbrev Ahead : Header → Header → Half → Type 0
Ahead here there half = (here.is_open ≡ true) × (half.generation ≡ here.generation) × ((there.is_open ≡ false) ⊎ (there.generation < half.generation))

module _ (pages : ℕ) (zeroth first : Header) (half : Half) where
  is_zeroth : half.start ≡ half_start 0 → used_of pages zeroth first ≡ Some half → Ahead zeroth first half
  is_zeroth at is = by zeroth.is_open refl first.is_open refl (nat_lt first.generation zeroth.generation) refl (nat_lt zeroth.generation first.generation) is
    where
      by : (a : Bool) → zeroth.is_open ≡ a → (b : Bool) → first.is_open ≡ b → (c : Bool) → nat_lt first.generation zeroth.generation ≡ c → (d : Bool)
          → (if a then (if b then (if c then Some (half_of pages 0 zeroth.generation) else if d then Some (half_of pages 1 first.generation) else None) else Some (half_of pages 0 zeroth.generation)) else if b then Some (half_of pages 1 first.generation) else None) ≡ Some half
          → Ahead zeroth first half
      by true o true p true lt d e =
          let h : half_of pages 0 zeroth.generation ≡ half = cc in
          let g : zeroth.generation ≡ half.generation = ap (λ (l : Half). l.generation) h in
          let less : first.generation < zeroth.generation = grind (arith, nat_tests, lt) in
          (o, sym g, inr (omega arith))
      by true o true p false lt true e =
          let h : half_of pages 1 first.generation ≡ half = cc in
          let s = ap (λ (l : Half). l.start) h in absurd (omega (arith, s, at))
      by true o true p false lt false e = absurd (cc)
      by true o false p c lt d e =
          let h : half_of pages 0 zeroth.generation ≡ half = cc in
          (o, sym (ap (λ (l : Half). l.generation) h), inl p)
      by false o true p c lt d e =
          let h : half_of pages 1 first.generation ≡ half = cc in
          let s = ap (λ (l : Half). l.start) h in absurd (omega (arith, s, at))
      by false o false p c lt d e = absurd (cc)

  is_first : half.start ≡ half_start 1 → used_of pages zeroth first ≡ Some half → Ahead first zeroth half
  is_first at is = by zeroth.is_open refl first.is_open refl (nat_lt first.generation zeroth.generation) refl (nat_lt zeroth.generation first.generation) refl is
    where
      by : (a : Bool) → zeroth.is_open ≡ a → (b : Bool) → first.is_open ≡ b → (c : Bool) → nat_lt first.generation zeroth.generation ≡ c → (d : Bool) → nat_lt zeroth.generation first.generation ≡ d
          → (if a then (if b then (if c then Some (half_of pages 0 zeroth.generation) else if d then Some (half_of pages 1 first.generation) else None) else Some (half_of pages 0 zeroth.generation)) else if b then Some (half_of pages 1 first.generation) else None) ≡ Some half
          → Ahead first zeroth half
      by true o true p true lt d gt e =
          let h : half_of pages 0 zeroth.generation ≡ half = cc in
          let s = ap (λ (l : Half). l.start) h in absurd (omega (arith, s, at))
      by true o true p false lt true gt e =
          let h : half_of pages 1 first.generation ≡ half = cc in
          let g : first.generation ≡ half.generation = ap (λ (l : Half). l.generation) h in
          let less : zeroth.generation < first.generation = grind (arith, nat_tests, gt) in
          (p, sym g, inr (omega arith))
      by true o true p false lt false gt e = absurd (cc)
      by true o false p c lt d gt e =
          let h : half_of pages 0 zeroth.generation ≡ half = cc in
          let s = ap (λ (l : Half). l.start) h in absurd (omega (arith, s, at))
      by false o true p c lt d gt e =
          let h : half_of pages 1 first.generation ≡ half = cc in
          (p, sym (ap (λ (l : Half). l.generation) h), inl o)
      by false o false p c lt d gt e = absurd (cc)

open_test : (a : ℕ) → (a == 1) ≡ true → a ≡ 1
open_test a is = grind (arith, nat_tests)

shut_test : (a : ℕ) → (a == 1) ≡ false → a ≢ 1
shut_test a is = λ e. absurd (grind (arith, nat_tests, is, e))

-- the used half is ahead
pub used_ahead : (pages other : ℕ) (half : Half) (image : List ℕ) → AreSides half.start other → used_half pages image ≡ Some half → IsAhead half other image
unfolding used_half
used_ahead pages other half image (inl e) is =
    let a = is_zeroth pages (header_at image 0) (header_at image 1) half e.0 is in
    record {
      gate = ap (byte_at image) e.0 ∙ open_test _ a.0;
      generation = ap (λ (s : ℕ). number_at 8 (s + 8) image) e.0 ∙ sym a.1;
      ahead = ⊎_elim (λ shut. inl (λ o. shut_test _ shut (ap (byte_at image) (sym e.1) ∙ o))) (λ lower. inr (let f = ap (λ (s : ℕ). number_at 8 (s + 8) image) e.1 in omega (arith, f, lower))) a.2;
    }
used_ahead pages other half image (inr e) is =
    let a = is_first pages (header_at image 0) (header_at image 1) half e.0 is in
    record {
      gate = ap (byte_at image) e.0 ∙ open_test _ a.0;
      generation = ap (λ (s : ℕ). number_at 8 (s + 8) image) e.0 ∙ sym a.1;
      ahead = ⊎_elim (λ shut. inl (λ o. shut_test _ shut (ap (byte_at image) (sym e.1) ∙ o))) (λ lower. inr (let f = ap (λ (s : ℕ). number_at 8 (s + 8) image) e.1 in omega (arith, f, lower))) a.2;
    }

pub get_or-same : {A : Type 0} (n k : ℕ) (x : A) → get_or (replicate n x) k x ≡ x
get_or-same zero k x = refl
get_or-same (suc n) zero x = refl
get_or-same (suc n) (suc k) x = get_or-same n k x

-- a log without entries is sound
pub emptied_sound : (tells : Type 0) (view : View) (superblock : Superblock) (half : Half) (pages : List (Option (List ℕ))) → (half.start ≡ half_start 0) ⊎ (half.start ≡ half_start 1) → superblock.blocks ≤ 66560
    → half.pages ≡ pages_of superblock.blocks → length pages ≡ half.pages → (tells → HoldsPages pages [] view.image) → (tells → IsSuperblock superblock view.image) → (tells → IsLog half [] view.image) → IsSettled view
    → IsSound tells view pages (fresh_state superblock half)
emptied_sound tells view superblock half pages placed few many size kept front log settled = record {
  steady = record {
    placed = placed;
    few_pages = omega arith;
    forced_le = omega arith;
    room = omega arith;
    fits = λ k lt. absurd (omega arith);
    apart = tt;
    on_disk = λ told. record {
      log = log told;
      whole = record { forced = refl; ended = refl };
      puts_over = tt;
      settled = λ d left at below. ap (λ (l : List ℕ). byte_at l at) (settled d left);
    };
  };
  accounts = record {
    slots = length-replicate {A = ℕ} 2048 0;
    in_all = sym (sum_by-replicate (λ (n : ℕ). n) 2048 0);
    room = omega arith;
    enough = λ slot. omega arith;
  };
  many = many;
  blocks = few;
  front = front;
  slots = size;
  kept = kept;
}

-- so is one that was just made
pub fresh_sound : (tells : Type 0) (view : View) (superblock : Superblock) (half : Half) → (half.start ≡ half_start 0) ⊎ (half.start ≡ half_start 1) → superblock.blocks ≤ 66560 → half.pages ≡ pages_of superblock.blocks
    → (tells → IsSuperblock superblock view.image) → (tells → IsLog half [] view.image) → IsSettled view → IsSound tells view (replicate half.pages None) (fresh_state superblock half)
fresh_sound tells view superblock half placed few many front log settled =
    emptied_sound tells view superblock half (replicate half.pages None) placed few many (length-replicate half.pages None)
    (λ told p bytes is. let e : None ≡ Some bytes = sym (get_or-same half.pages p None) ∙ is in absurd (cc)) front log settled

pub mounted_as : (old new : List ℕ) (state : State) (superblock : Superblock) (half : Half) → half.pages ≡ pages_of superblock.blocks → state ≡ fresh_state superblock (next_half half) → HasLog superblock half old → half.generation < 18446744073709551615
    → ((p : ℕ) → p < half.pages → in_place new p ≡ pages_in half old p) → SameBlocks half.pages old new → IsMounted old new state
unfolding page_of
mounted_as old new state superblock half many is log unworn pages blocks =
    subst (λ (s : State). IsMounted old new s) (sym is)
    (record { half = half; log = log; unworn = unworn; state_is = refl; pages = λ p lt. pages p (omega arith); blocks = λ at le. blocks at (omega (arith, many, le)) })
