-- What changes in a table of slots, where something is sought in it, and what it promises.
use Rattle.std.proofs.Common.{◌≡◌, ◌≢◌, ◌≤◌, ℕ, zero, suc, ◌+◌, List, [], ◌∷◌, length, map, set, refl, sym, ◌∙◌, ap, arith}
use Rattle.std.specs.Prelude.{Bool, true, false, not, cond, Option, Some, None}
use Rattle.std.specs.List.{list_any}
use Rattle.std.specs.Option.{option_map}
use Rattle.std.proofs.lemmas.Bool.{or_parts, false≢true}
use Rattle.std.proofs.lemmas.List.Sums.{sum_by-cons}
use Rattle.base_types.specs.Lists.{changed_at}
use Rattle.base_types.specs.Name.{same_name}
use Rattle.tree_filesets.proofs.Names.{names_equal, same_self}
use Rattle.store_state.specs.Founding.{held_promise, promised}
use Rattle.store_state.specs.State.{held_at, held_so, is_used_so, slot_so}
use Rattle.store_state.specs.declared.state.Holding.{Holding}
use Rattle.store_state.proofs.Slots.{first, slot_first}

-- other slots stay
pub held_set_other : (slots : List (Option Holding)) (at s : ℕ) (holding : Holding) → s ≢ at → held_at (set slots at (Some holding)) s ≡ held_at slots s
held_set_other [] at s holding apart = refl
held_set_other (slot ∷ slots) zero zero holding apart = absurd (apart refl)
held_set_other (slot ∷ slots) zero (suc s) holding apart = refl
held_set_other (slot ∷ slots) (suc at) zero holding apart = refl
held_set_other (slot ∷ slots) (suc at) (suc s) holding apart = held_set_other slots at s holding (λ e. apart (ap suc e))

pub held_changed_other : (slots : List (Option Holding)) (at s : ℕ) (f : Holding → Holding) → s ≢ at
    → held_at (changed_at slots at (option_map f)) s ≡ held_at slots s
held_changed_other [] at s f apart = refl
held_changed_other (slot ∷ slots) zero zero f apart = absurd (apart refl)
held_changed_other (slot ∷ slots) zero (suc s) f apart = refl
held_changed_other (slot ∷ slots) (suc at) zero f apart = refl
held_changed_other (slot ∷ slots) (suc at) (suc s) f apart = held_changed_other slots at s f (λ e. apart (ap suc e))

-- all are changed
pub held_mapped : (slots : List (Option Holding)) (s : ℕ) (f : Holding → Holding) → held_at (map (option_map f) slots) s ≡ option_map f (held_at slots s)
held_mapped [] s f = refl
held_mapped (slot ∷ slots) zero f = refl
held_mapped (slot ∷ slots) (suc s) f = held_mapped slots s f

-- what is found passes the test
first_passes : (test : Holding → Bool) (slots : List (Option Holding)) (holding : Holding) → held_at slots (first test slots) ≡ Some holding → test holding ≡ true
first_passes test [] holding e = absurd (cc)
first_passes test (None ∷ slots) holding e =
    let n : 1 + first test slots ≡ suc (first test slots) = omega arith in
    first_passes test slots holding (ap (held_at (None ∷ slots)) (sym n) ∙ e)
first_passes test (Some other ∷ slots) holding e = by (test other) refl e (λ k. first_passes test slots holding k)
  where
    by : (b : Bool) → test other ≡ b → held_at (Some other ∷ slots) (cond (not b) (1 + first test slots) 0) ≡ Some holding
        → (held_at slots (first test slots) ≡ Some holding → test holding ≡ true) → test holding ≡ true
    by true t k rest = let same : other ≡ holding = cc in ap test (sym same) ∙ t
    by false t k rest =
        let n : 1 + first test slots ≡ suc (first test slots) = omega arith in
        rest (ap (held_at (Some other ∷ slots)) (sym n) ∙ k)

pub found_passes : (test : Holding → Bool) (slots : List (Option Holding)) (holding : Holding) → held_so test slots ≡ Some holding → test holding ≡ true
found_passes test slots holding e = first_passes test slots holding (ap (held_at slots) (sym (slot_first test slots)) ∙ e)

-- where none is found, none passes
none_first : (test : Holding → Bool) (slots : List (Option Holding)) → length slots ≤ first test slots → (t : ℕ) (b : Holding) → held_at slots t ≡ Some b → test b ≡ false
none_first test [] h t b e = absurd (cc)
none_first test (None ∷ slots) h zero b e = absurd (cc)
none_first test (None ∷ slots) h (suc t) b e = none_first test slots (omega (arith, h)) t b e
none_first test (Some other ∷ slots) h t b e = by (test other) refl h t e (λ k t e. none_first test slots k t b e)
  where
    by : (c : Bool) → test other ≡ c → suc (length slots) ≤ cond (not c) (1 + first test slots) 0 → (t : ℕ) → held_at (Some other ∷ slots) t ≡ Some b
        → (length slots ≤ first test slots → (t : ℕ) → held_at slots t ≡ Some b → test b ≡ false) → test b ≡ false
    by true is k t e rest = absurd (omega (arith, k))
    by false is k zero e rest = let same : other ≡ b = cc in ap test (sym same) ∙ is
    by false is k (suc t) e rest = rest (omega (arith, k)) t e

pub none_found : (test : Holding → Bool) (slots : List (Option Holding)) → length slots ≤ slot_so test slots → (t : ℕ) (b : Holding) → held_at slots t ≡ Some b → test b ≡ false
none_found test slots h = let e = slot_first test slots in none_first test slots (omega (arith, e, h))

pub none_any : (test : Holding → Bool) (slots : List (Option Holding)) → list_any (is_used_so test) slots ≡ false → (t : ℕ) (b : Holding) → held_at slots t ≡ Some b → test b ≡ false
none_any test [] h t b e = absurd (cc)
none_any test (slot ∷ slots) h zero b e = ap (is_used_so test) (sym e) ∙ (or_parts (is_used_so test slot) _ h).0
none_any test (slot ∷ slots) h (suc t) b e = none_any test slots (or_parts (is_used_so test slot) _ h).1 t b e

-- what is promised
pub promised_set : (slots : List (Option Holding)) (at : ℕ) (holding : Holding) → promised (set slots at (Some holding)) ≤ promised slots + held_promise (Some holding)
promised_set [] at holding = omega arith
promised_set (slot ∷ slots) zero holding =
    let a = sum_by-cons held_promise (Some holding) slots in
    let b = sum_by-cons held_promise slot slots in
    omega (arith, a, b)
promised_set (slot ∷ slots) (suc at) holding =
    let a = sum_by-cons held_promise slot (set slots at (Some holding)) in
    let b = sum_by-cons held_promise slot slots in
    let rest = promised_set slots at holding in
    omega (arith, a, b, rest)

pub promised_changed : (slots : List (Option Holding)) (at : ℕ) (f : Holding → Holding) → ((a : Holding) → held_at slots at ≡ Some a → held_promise (Some (f a)) ≤ held_promise (Some a))
    → promised (changed_at slots at (option_map f)) ≤ promised slots
promised_changed [] at f k = omega arith
promised_changed (None ∷ slots) zero f k = omega arith
promised_changed (Some a ∷ slots) zero f k =
    let here = k a refl in
    let x = sum_by-cons held_promise (Some (f a)) slots in
    let y = sum_by-cons held_promise (Some a) slots in
    omega (arith, here, x, y)
promised_changed (slot ∷ slots) (suc at) f k =
    let x = sum_by-cons held_promise slot (changed_at slots at (option_map f)) in
    let y = sum_by-cons held_promise slot slots in
    let rest = promised_changed slots at f k in
    omega (arith, x, y, rest)

pub promised_mapped : (slots : List (Option Holding)) (f : Holding → Holding) → ((a : Holding) → held_promise (Some (f a)) ≤ held_promise (Some a))
    → promised (map (option_map f) slots) ≤ promised slots
promised_mapped [] f k = omega arith
promised_mapped (slot ∷ slots) f k =
    let x = sum_by-cons held_promise (option_map f slot) (map (option_map f) slots) in
    let y = sum_by-cons held_promise slot slots in
    let here = by slot in
    let rest = promised_mapped slots f k in
    omega (arith, x, y, here, rest)
  where
    by : (slot : Option Holding) → held_promise (option_map f slot) ≤ held_promise slot
    by None = omega arith
    by (Some a) = k a

-- names that differ, from either side
pub names_apart : (a b : List ℕ) → same_name b a ≡ false → same_name a b ≡ false
names_apart a b h = by (same_name a b) refl
  where
    by : (c : Bool) → same_name a b ≡ c → c ≡ false
    by false e = refl
    by true e = absurd (false≢true (sym h ∙ ap (λ n. same_name b n) (names_equal a b e) ∙ same_self b))
