-- What the steps of a checkpoint leave.
use Rattle.std.proofs.Common.{◌≡◌, ◌≢◌, ◌<◌, ◌⊎◌, ℕ, List, [], ◌∷◌, inl, inr, refl, sym, ◌∙◌, arith, Some, None}
use Rattle.std.specs.Prelude.{Bool, true, false, ◌==◌, ◌||◌, if◌then◌else◌, nat_lt}
use Rattle.std.proofs.lemmas.Bool.Decides.{nat_tests}
use Rattle.disk_layout.specs.declared.entry.Entry.{Entry}
use Rattle.disk_layout.specs.declared.entry.Entry.TheVariants.{Update, End}
use Rattle.disk_layout.specs.declared.half.Half.{Half}
use Rattle.disk_layout.specs.declared.half.Header.{Header}
use Rattle.disk_layout.specs.Places.{in_place}
use Rattle.disk_layout.specs.Entry.{gate_at}
use Rattle.disk_layout.specs.Half.{used_of, half_of}
use Rattle.disk_layout.specs.Pages.{redone, recovered, pages_in, is_named}
use Rattle.disk_layout.proofs.Entries.{held_entries}
use Rattle.disk_layout.proofs.Pages.{redone_at, undone_at}

-- a page that an entry names is what the entries make of it, whatever stands in place
pub redone_named : (held : List Entry) (a b : ℕ → List ℕ) (p : ℕ) → is_named p held ≡ true → redone held a p ≡ redone held b p
redone_named [] a b p named = absurd (grind (arith, named))
redone_named (End t ∷ held) a b p named = redone_named held a b p named
redone_named (Update t page old new ∷ held) a b p named =
    by (page == p) refl named (λ later. redone_named held (λ (q : ℕ). if page == q then new else a q) (λ (q : ℕ). if page == q then new else b q) p later)
    (λ same. redone_at held (λ (q : ℕ). if page == q then new else a q) (λ (q : ℕ). if page == q then new else b q) p same)
  where
    by : (here : Bool) → (page == p) ≡ here → (here || is_named p held) ≡ true → (is_named p held ≡ true → redone held (λ (q : ℕ). if page == q then new else a q) p ≡ redone held (λ (q : ℕ). if page == q then new else b q) p)
        → ((if page == p then new else a p) ≡ (if page == p then new else b p) → redone held (λ (q : ℕ). if page == q then new else a q) p ≡ redone held (λ (q : ℕ). if page == q then new else b q) p)
        → redone held (λ (q : ℕ). if page == q then new else a q) p ≡ redone held (λ (q : ℕ). if page == q then new else b q) p
    by true is named later same = same ((λ j. if is j then new else a p) ∙ (λ j. if sym is j then new else b p))
    by false is named later same = later named

-- The used half: the other one is closed or has a lower generation. So where it is closed its generation may be torn.
module _ (pages : ℕ) (zeroth first : Header) where
  zeroth_alone : zeroth.is_open ≡ true → first.is_open ≡ false → used_of pages zeroth first ≡ Some (half_of pages 0 zeroth.generation)
  zeroth_alone opened shut = λ j. used_of pages (record { is_open = opened j; generation = zeroth.generation }) (record { is_open = shut j; generation = first.generation })

  pub zeroth_used : zeroth.is_open ≡ true → (first.is_open ≡ false) ⊎ (first.generation < zeroth.generation) → used_of pages zeroth first ≡ Some (half_of pages 0 zeroth.generation)
  zeroth_used opened (inl shut) = zeroth_alone opened shut
  zeroth_used opened (inr lower) = by first.is_open refl
    where
      by : (b : Bool) → first.is_open ≡ b → used_of pages zeroth first ≡ Some (half_of pages 0 zeroth.generation)
      by false is = zeroth_alone opened is
      by true is =
          let lt : nat_lt first.generation zeroth.generation ≡ true = grind (arith, nat_tests) in
          (λ j. used_of pages (record { is_open = opened j; generation = zeroth.generation }) (record { is_open = is j; generation = first.generation }))
          ∙ (λ j. if lt j then Some (half_of pages 0 zeroth.generation) else if nat_lt zeroth.generation first.generation then Some (half_of pages 1 first.generation) else None)

  first_alone : first.is_open ≡ true → zeroth.is_open ≡ false → used_of pages zeroth first ≡ Some (half_of pages 1 first.generation)
  first_alone opened shut = λ j. used_of pages (record { is_open = shut j; generation = zeroth.generation }) (record { is_open = opened j; generation = first.generation })

  pub first_used : first.is_open ≡ true → (zeroth.is_open ≡ false) ⊎ (zeroth.generation < first.generation) → used_of pages zeroth first ≡ Some (half_of pages 1 first.generation)
  first_used opened (inl shut) = first_alone opened shut
  first_used opened (inr lower) = by zeroth.is_open refl
    where
      by : (b : Bool) → zeroth.is_open ≡ b → used_of pages zeroth first ≡ Some (half_of pages 1 first.generation)
      by false is = first_alone opened is
      by true is =
          let ge : nat_lt first.generation zeroth.generation ≡ false = grind (arith, nat_tests) in
          let lt : nat_lt zeroth.generation first.generation ≡ true = grind (arith, nat_tests) in
          (λ j. used_of pages (record { is_open = is j; generation = zeroth.generation }) (record { is_open = opened j; generation = first.generation }))
          ∙ (λ j. if ge j then Some (half_of pages 0 zeroth.generation) else if lt j then Some (half_of pages 1 first.generation) else None)

-- a half whose gates are all closed has no entries, and so its pages are those in place
pub none_held : (half : Half) (image : List ℕ) → ((i : ℕ) → i < 2048 → gate_at half.start image i ≢ 1) → (p : ℕ) → pages_in half image p ≡ in_place image p
unfolding pages_in recovered
none_held half image shut p =
    (λ j. recovered (held_entries half [] image (omega arith) (record { stand = λ k lt. absurd (omega arith); opened = λ k lt. absurd (omega arith); closed = λ i from below. shut i below }) j) (in_place image) p)

-- What recovery makes of a page that an entry names, whatever stands in place. It holds of any entries, also of those
-- of a transaction that didn't end.
pub recovered_named : (held : List Entry) (a b : ℕ → List ℕ) (p : ℕ) → is_named p held ≡ true → recovered held a p ≡ recovered held b p
unfolding recovered
recovered_named held a b p named = undone_at held held (redone held a) (redone held b) p (redone_named held a b p named)
