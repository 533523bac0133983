-- Where in the table a fileset is found, once a slot has changed.
use Rattle.std.proofs.Common.{◌≡◌, ◌≤◌, ◌<◌, ℕ, zero, suc, ◌+◌, nat_lt, Bool, true, false, not, cond, List, [], ◌∷◌, length, set, Option, Some, None, unwrap_or, refl, ap, ◌∙◌, subst, inl, inr, arith}
use Rattle.std.specs.List.{position_or_len}
use Rattle.std.specs.Option.{option_map}
use Rattle.std.proofs.lemmas.Bool.Decides.{leb_tells}
use Rattle.std.proofs.lemmas.Grind.{common_steps}
use Rattle.std.proofs.lemmas.List.Sums.{prefix_len-le-length}
use Rattle.base_types.specs.Lists.{changed_at}
use Rattle.store_state.specs.State.{is_used_so, slot_so, held_at}
use Rattle.store_state.specs.declared.state.Holding.{Holding}

-- the first slot that passes a test, or the end
abbrev pub first : (Holding → Bool) → List (Option Holding) → ℕ
first test slots = position_or_len (is_used_so test) slots

pub slot_first : (test : Holding → Bool) (slots : List (Option Holding)) → slot_so test slots ≡ first test slots
slot_first test slots = by (prefix_len-le-length (λ slot. not (is_used_so test slot)) slots)
  where
    by : first test slots ≤ length slots → slot_so test slots ≡ first test slots
    by h = elim (leb_tells (suc (first test slots)) (length slots)) as
        (λ _. unwrap_or (cond (nat_lt (first test slots) (length slots)) (Some (first test slots)) None) (length slots)
        ≡ first test slots) [
          | inl (e, k) ↦
              (let l : nat_lt (first test slots) (length slots) ≡ true = grind (arith, common_steps, k) in rw l refl)
          | inr (e, k) ↦
              (let l : nat_lt (first test slots) (length slots) ≡ false = grind (arith, common_steps, k) in
              rw l (omega (arith, h, k)))
        ]

-- a slot that is used is in the table
pub held_inside : (slots : List (Option Holding)) (at : ℕ) (holding : Holding) → held_at slots at ≡ Some holding →
    at < length slots
held_inside [] at holding e = absurd (cc)
held_inside (slot ∷ slots) zero holding e = omega arith
held_inside (slot ∷ slots) (suc at) holding e = let h = held_inside slots at holding e in omega (arith, h)

-- what was put into a slot is held there
pub held_set : (slots : List (Option Holding)) (at : ℕ) (holding : Holding) → at < length slots →
    held_at (set slots at (Some holding)) at ≡ Some holding
held_set [] at holding h = absurd (omega (arith, h))
held_set (slot ∷ slots) zero holding h = refl
held_set (slot ∷ slots) (suc at) holding h = held_set slots at holding (omega (arith, h))

-- and so is what was changed
pub held_changed : (slots : List (Option Holding)) (at : ℕ) (change : Holding → Holding) →
    held_at (changed_at slots at (option_map change)) at ≡ option_map change (held_at slots at)
held_changed [] at change = refl
held_changed (slot ∷ slots) zero change = refl
held_changed (slot ∷ slots) (suc at) change = held_changed slots at change

-- a slot is still the first once it is put at or before it
pub first_set : (test : Holding → Bool) (slots : List (Option Holding)) (at : ℕ) (holding : Holding) →
    at ≤ first test slots → at < length slots → test holding ≡ true →
    first test (set slots at (Some holding)) ≡ at
first_set test [] at holding h l t = absurd (omega (arith, l))
first_set test (slot ∷ slots) zero holding h l t =
    ap (λ b. cond (not b) (1 + first test slots) 0) t
first_set test (slot ∷ slots) (suc at) holding h l t =
    by (is_used_so test slot) h
    (λ k. first_set test slots at holding k (omega (arith, l)) t)
  where
    by : (b : Bool) → suc at ≤ cond (not b) (1 + first test slots) 0 →
        (at ≤ first test slots → first test (set slots at (Some holding)) ≡ at) →
        cond (not b) (1 + first test (set slots at (Some holding))) 0 ≡ suc at
    by true k rest = absurd (omega (arith, k))
    by false k rest = let e = rest (omega (arith, k)) in omega (arith, e)

-- a change that keeps what a test tells keeps the first
pub first_changed : (test : Holding → Bool) (change : Holding → Holding) →
    ((holding : Holding) → test (change holding) ≡ test holding) → (slots : List (Option Holding)) (at : ℕ) →
    first test (changed_at slots at (option_map change)) ≡ first test slots
first_changed test change k [] at = refl
first_changed test change k (None ∷ slots) zero = refl
first_changed test change k (Some holding ∷ slots) zero =
    ap (λ b. cond (not b) (1 + first test slots) 0) (k holding)
first_changed test change k (slot ∷ slots) (suc at) =
    ap (λ n. cond (not (is_used_so test slot)) (1 + n) 0) (first_changed test change k slots at)

-- the first one that passes a test is the first that passes a stricter one, where it passes that
pub first_narrow : (test strict : Holding → Bool) →
    ((holding : Holding) → strict holding ≡ true → test holding ≡ true) → (slots : List (Option Holding))
    (holding : Holding) → held_at slots (first test slots) ≡ Some holding → strict holding ≡ true →
    first strict slots ≡ first test slots
first_narrow test strict k [] holding e s = refl
first_narrow test strict k (None ∷ slots) holding e s =
    let n : 1 + first test slots ≡ suc (first test slots) = omega arith in
    let there : held_at (None ∷ slots) (suc (first test slots)) ≡ Some holding =
    subst (λ m. held_at (None ∷ slots) m ≡ Some holding) n e in
    ap (λ m. 1 + m) (first_narrow test strict k slots holding there s)
first_narrow test strict k (Some other ∷ slots) holding e s =
    by (test other) (strict other) refl refl e (λ there. first_narrow test strict k slots holding there s)
  where
    by : (b c : Bool) → test other ≡ b → strict other ≡ c →
        held_at (Some other ∷ slots) (cond (not b) (1 + first test slots) 0) ≡ Some holding →
        (held_at slots (first test slots) ≡ Some holding → first strict slots ≡ first test slots) →
        cond (not c) (1 + first strict slots) 0 ≡ cond (not b) (1 + first test slots) 0
    by true true t c e rest = refl
    by true false t c e rest =
        let same : other ≡ holding = cc in
        let told : strict other ≡ true = ap strict same ∙ s in
        absurd (cc)
    by false true t c e rest = let told = k other c in absurd (cc)
    by false false t c e rest =
        let n : 1 + first test slots ≡ suc (first test slots) = omega arith in
        ap (λ m. 1 + m) (rest (subst (λ m. held_at (Some other ∷ slots) m ≡ Some holding) n e))
