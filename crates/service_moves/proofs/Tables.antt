-- What is held in a table of slots, once one slot has changed.
use Rattle.std.proofs.Common.{◌≡◌, ◌≤◌, ◌⊎◌, ℕ, zero, suc, ◌+◌, List, [], ◌∷◌, length, set, inl, inr, refl, sym, ◌∙◌, ap, arith, nat_lt}
use Rattle.std.specs.Prelude.{Bool, true, false, not, cond, Option, Some, None, is_none, unwrap_or}
use Rattle.std.specs.List.{list_any, position_or_len}
use Rattle.std.specs.Option.{option_map}
use Rattle.std.proofs.lemmas.Bool.{or_parts}
use Rattle.std.proofs.lemmas.Bool.Decides.{leb_tells}
use Rattle.std.proofs.lemmas.Grind.{common_steps}
use Rattle.std.proofs.lemmas.List.Sums.{prefix_len-le-length}
use Rattle.base_types.specs.Lists.{changed_at}
use Rattle.store_state.specs.Founding.{free_slot}
use Rattle.store_state.specs.State.{held_at, held_so, is_used_so, slot_so}
use Rattle.store_state.specs.declared.state.Holding.{Holding}
use Rattle.store_state.proofs.Slots.{first, slot_first, first_changed}

-- what is found passes the test
first_passes : (test : Holding → Bool) (slots : List (Option Holding)) (holding : Holding) → held_at slots (first test slots) ≡ Some holding → test holding ≡ true
first_passes test [] holding e = absurd (cc)
first_passes test (None ∷ slots) holding e =
    let n : 1 + first test slots ≡ suc (first test slots) = omega arith in
    first_passes test slots holding (ap (held_at (None ∷ slots)) (sym n) ∙ e)
first_passes test (Some other ∷ slots) holding e = by (test other) refl e (λ k. first_passes test slots holding k)
  where
    by : (b : Bool) → test other ≡ b → held_at (Some other ∷ slots) (cond (not b) (1 + first test slots) 0) ≡ Some holding
        → (held_at slots (first test slots) ≡ Some holding → test holding ≡ true) → test holding ≡ true
    by true t k rest = let same : other ≡ holding = cc in ap test (sym same) ∙ t
    by false t k rest =
        let n : 1 + first test slots ≡ suc (first test slots) = omega arith in
        rest (ap (held_at (Some other ∷ slots)) (sym n) ∙ k)

pub found_passes : (test : Holding → Bool) (slots : List (Option Holding)) (holding : Holding) → held_so test slots ≡ Some holding → test holding ≡ true
found_passes test slots holding e = first_passes test slots holding (ap (held_at slots) (sym (slot_first test slots)) ∙ e)

pub none_any : (test : Holding → Bool) (slots : List (Option Holding)) → list_any (is_used_so test) slots ≡ false → (t : ℕ) (b : Holding) → held_at slots t ≡ Some b → test b ≡ false
none_any test [] h t b e = absurd (cc)
none_any test (slot ∷ slots) h zero b e = ap (is_used_so test) (sym e) ∙ (or_parts (is_used_so test slot) _ h).0
none_any test (slot ∷ slots) h (suc t) b e = none_any test slots (or_parts (is_used_so test slot) _ h).1 t b e

-- a holding is as before, or the one that was changed
abbrev pub IsChanged : (Holding → Holding) → List (Option Holding) → ℕ → Holding → Holding → Type 0
IsChanged f slots at old new = (new ≡ old) ⊎ ((new ≡ f old) × (held_at slots at ≡ Some old))

changed_held : (slots : List (Option Holding)) (at s : ℕ) (f : Holding → Holding) (b : Holding) → held_at slots s ≡ Some b
    → (c : Holding) × (held_at (changed_at slots at (option_map f)) s ≡ Some c) × IsChanged f slots at b c
changed_held [] at s f b e = absurd (cc)
changed_held (slot ∷ slots) zero zero f b e = (f b, ap (option_map f) e, inr (refl, e))
changed_held (slot ∷ slots) zero (suc s) f b e = (b, e, inl refl)
changed_held (slot ∷ slots) (suc at) zero f b e = (b, e, inl refl)
changed_held (slot ∷ slots) (suc at) (suc s) f b e = changed_held slots at s f b e

-- what was held where something is held now
pub held_before : (slots : List (Option Holding)) (at s : ℕ) (f : Holding → Holding) (c : Holding) → held_at (changed_at slots at (option_map f)) s ≡ Some c
    → (b : Holding) × (held_at slots s ≡ Some b) × ((c ≡ b) ⊎ (c ≡ f b))
held_before [] at s f c e = absurd (cc)
held_before (None ∷ slots) zero zero f c e = absurd (cc)
held_before (Some b ∷ slots) zero zero f c e = (b, refl, inr (cc))
held_before (slot ∷ slots) zero (suc s) f c e = (c, e, inl refl)
held_before (slot ∷ slots) (suc at) zero f c e = (c, e, inl refl)
held_before (slot ∷ slots) (suc at) (suc s) f c e = held_before slots at s f c e

-- a change that a test doesn't tell leaves where a holding is found
pub changed_found : (test : Holding → Bool) (f : Holding → Holding) → ((holding : Holding) → test (f holding) ≡ test holding) → (slots : List (Option Holding)) (at : ℕ) (b : Holding)
    → held_so test slots ≡ Some b → (c : Holding) × (held_so test (changed_at slots at (option_map f)) ≡ Some c) × IsChanged f slots at b c
changed_found test f same slots at b e =
    let place : slot_so test (changed_at slots at (option_map f)) ≡ slot_so test slots =
    slot_first test (changed_at slots at (option_map f)) ∙ first_changed test f same slots at ∙ sym (slot_first test slots) in
    let (c, there, is) = changed_held slots at (slot_so test slots) f b e in
    (c, ap (held_at (changed_at slots at (option_map f))) place ∙ there, is)

-- the lowest free slot is free
free_first : (slots : List (Option Holding)) → free_slot slots ≡ position_or_len is_none slots
free_first slots = by (prefix_len-le-length (λ slot. not (is_none slot)) slots)
  where
    by : position_or_len is_none slots ≤ length slots → free_slot slots ≡ position_or_len is_none slots
    by h = elim (leb_tells (suc (position_or_len is_none slots)) (length slots)) as
        (λ _. unwrap_or (cond (nat_lt (position_or_len is_none slots) (length slots)) (Some (position_or_len is_none slots)) None) (length slots)
        ≡ position_or_len is_none slots) [
          | inl (e, k) ↦
              (let l : nat_lt (position_or_len is_none slots) (length slots) ≡ true = grind (arith, common_steps, k) in rw l refl)
          | inr (e, k) ↦
              (let l : nat_lt (position_or_len is_none slots) (length slots) ≡ false = grind (arith, common_steps, k) in
              rw l (omega (arith, h, k)))
        ]

nothing_first : (slots : List (Option Holding)) → held_at slots (position_or_len is_none slots) ≡ None
nothing_first [] = refl
nothing_first (None ∷ slots) = refl
nothing_first (Some holding ∷ slots) =
    let n : 1 + position_or_len is_none slots ≡ suc (position_or_len is_none slots) = omega arith in
    ap (held_at (Some holding ∷ slots)) n ∙ nothing_first slots

pub nothing_free : (slots : List (Option Holding)) → held_at slots (free_slot slots) ≡ None
nothing_free slots = ap (held_at slots) (free_first slots) ∙ nothing_first slots

-- a holding put into a free slot leaves what is held
pub held_added : (slots : List (Option Holding)) (at s : ℕ) (new b : Holding) → held_at slots at ≡ None → held_at slots s ≡ Some b
    → held_at (set slots at (Some new)) s ≡ Some b
held_added [] at s new b free e = e
held_added (slot ∷ slots) zero zero new b free e = absurd (cc)
held_added (slot ∷ slots) zero (suc s) new b free e = e
held_added (slot ∷ slots) (suc at) zero new b free e = e
held_added (slot ∷ slots) (suc at) (suc s) new b free e = held_added slots at s new b free e

-- and what is held then was, or is the new one
pub added_before : (slots : List (Option Holding)) (at s : ℕ) (new c : Holding) → held_at (set slots at (Some new)) s ≡ Some c
    → (c ≡ new) ⊎ (held_at slots s ≡ Some c)
added_before [] at s new c e = absurd (cc)
added_before (slot ∷ slots) zero zero new c e = inl (cc)
added_before (slot ∷ slots) zero (suc s) new c e = inr e
added_before (slot ∷ slots) (suc at) zero new c e = inr e
added_before (slot ∷ slots) (suc at) (suc s) new c e = added_before slots at s new c e

first_added : (test : Holding → Bool) (slots : List (Option Holding)) (at : ℕ) (new : Holding) → held_at slots at ≡ None → test new ≡ false
    → first test (set slots at (Some new)) ≡ first test slots
first_added test [] at new free t = refl
first_added test (None ∷ slots) zero new free t = ap (λ b. cond (not b) (1 + first test slots) 0) t
first_added test (Some other ∷ slots) zero new free t = absurd (cc)
first_added test (slot ∷ slots) (suc at) new free t = ap (λ n. cond (not (is_used_so test slot)) (1 + n) 0) (first_added test slots at new free t)

-- one that fails a test leaves where a holding is found
pub found_added : (test : Holding → Bool) (slots : List (Option Holding)) (at : ℕ) (new b : Holding) → held_at slots at ≡ None → test new ≡ false
    → held_so test slots ≡ Some b → held_so test (set slots at (Some new)) ≡ Some b
found_added test slots at new b free t e =
    let place : slot_so test (set slots at (Some new)) ≡ slot_so test slots =
    slot_first test (set slots at (Some new)) ∙ first_added test slots at new free t ∙ sym (slot_first test slots) in
    ap (held_at (set slots at (Some new))) place ∙ held_added slots at (slot_so test slots) new b free e
