-- What a store tells of its slots.
use Rattle.std.proofs.Common.{◌≡◌, ◌≢◌, ℕ, zero, suc, ◌+◌, ◌≤◌, ◌==◌, Bool, true, false, List, [], ◌∷◌, length, Option, Some, None, refl, sym, ap, ◌∙◌, subst, arith, inl, inr, rules}
use Rattle.std.specs.Prelude.{if◌then◌else◌}
use Rattle.std.specs.List.{find}
use Rattle.std.proofs.lemmas.Grind.{common_steps}
use Rattle.base_types.specs.Name.{same_name}
use Rattle.base_types.specs.declared.ids.FilesetId.{FilesetId}
use Rattle.store_memory.specs.Reading.{is_kept, filesets_kept, slot_told, slots_from}
use Rattle.store_memory.specs.declared.told.Slot.{Slot}
use Rattle.tree_answers.proofs.Totals.{total, sum_total}
use Rattle.tree_answers.specs.Finding.{has_id}
use Rattle.store_records.specs.Stored.{AreTwo}
use Rattle.store_state.specs.Founding.{held_promise, promised}
use Rattle.store_state.specs.State.{held_at}
use Rattle.store_state.specs.declared.state.Holding.{Holding}
use Rattle.service_starts.proofs.Standing.{In}
use Rattle.service_starts.proofs.Puts.{Pairs}

-- a slot tells of what is held
abbrev pub Tells : Slot → Holding → Type 0
Tells slot holding = (at : ℕ) × (slot ≡ slot_told at holding)

pub slot_held : (n : ℕ) (slots : List (Option Holding)) (slot : Slot) → In slot (slots_from n slots) → (at : ℕ) × (holding : Holding) × (held_at slots at ≡ Some holding) × Tells slot holding
slot_held n [] slot h = absurd h
slot_held n (None ∷ slots) slot h = let w = slot_held (n + 1) slots slot h in (suc w.0, w.1, w.2, w.3)
slot_held n (Some holding ∷ slots) slot (inl e) = (0, holding, refl, (n, sym e))
slot_held n (Some holding ∷ slots) slot (inr h) = let w = slot_held (n + 1) slots slot h in (suc w.0, w.1, w.2, w.3)

-- two of them
abbrev pub AreApart : List (Option Holding) → Type 0
AreApart slots = (s t : ℕ) (a b : Holding) → s ≢ t → held_at slots s ≡ Some a → held_at slots t ≡ Some b → AreTwo a b

pub apart_rest : (slot : Option Holding) (slots : List (Option Holding)) → AreApart (slot ∷ slots) → AreApart slots
apart_rest slot slots h s t a b other ha hb = h (suc s) (suc t) a b (λ e. other (omega (arith, e))) ha hb

pub other_ids : (a b : Holding) → AreTwo a b → a.fileset.id.0 ≢ b.fileset.id.0
other_ids a b two e = two.ids (ap (λ n. let id : FilesetId = record { 0 = n } in id) e)

pub record TwoSlots (a b : Slot) : Type 0 where
  pub ids : a.fileset.0 ≢ b.fileset.0
  pub names : same_name a.name b.name ≡ false

pub slots_apart : (n : ℕ) (slots : List (Option Holding)) → AreApart slots → Pairs TwoSlots (slots_from n slots)
slots_apart n [] h = tt
slots_apart n (None ∷ slots) h = slots_apart (n + 1) slots (apart_rest None slots h)
slots_apart n (Some holding ∷ slots) h = (
  (λ slot k.
      let w = slot_held (n + 1) slots slot k in
      let two = h 0 (suc w.0) holding w.1 (λ e. absurd (omega (arith, e))) refl w.2 in
      let tells : slot ≡ slot_told w.3.0 w.1 = w.3.1 in
      let apart : TwoSlots (slot_told n holding) (slot_told w.3.0 w.1) = record { ids = other_ids holding w.1 two; names = two.names } in
      subst (λ one. TwoSlots (slot_told n holding) one) (sym tells) apart),
  slots_apart (n + 1) slots (apart_rest (Some holding) slots h),
)

pub slots_few : (n : ℕ) (slots : List (Option Holding)) → length (slots_from n slots) ≤ length slots
slots_few n [] = omega arith
slots_few n (None ∷ slots) = let rest = slots_few (n + 1) slots in omega (arith, rest)
slots_few n (Some holding ∷ slots) = let rest = slots_few (n + 1) slots in omega (arith, rest)

-- the fileset that is kept in a slot is found among those that are kept
pub kept_found : (slots : List (Option Holding)) (at : ℕ) (holding : Holding) → AreApart slots → held_at slots at ≡ Some holding → is_kept holding.stay ≡ true
    → find (has_id holding.fileset.id) (filesets_kept slots) ≡ Some holding.fileset
kept_found [] at holding h e k = absurd (search (rules, e))
kept_found (None ∷ slots) zero holding h e k = absurd (search (rules, e))
kept_found (None ∷ slots) (suc at) holding h e k = kept_found slots at holding (apart_rest None slots h) e k
kept_found (Some first ∷ slots) zero holding h e k =
    let same : first ≡ holding = cc in
    let kept : is_kept first.stay ≡ true = ap (λ one. is_kept one.stay) same ∙ k in
    let its : (first.fileset.id.0 == holding.fileset.id.0) ≡ true = let n : first.fileset.id.0 ≡ holding.fileset.id.0 = ap (λ one. one.fileset.id.0) same in grind (arith, common_steps, n) in
    rw (kept, its) (ap (λ one. Some one.fileset) same)
kept_found (Some first ∷ slots) (suc at) holding h e k =
    let two = h 0 (suc at) first holding (λ z. absurd (omega (arith, z))) refl e in
    let other : first.fileset.id.0 ≢ holding.fileset.id.0 = other_ids first holding two in
    let its : (first.fileset.id.0 == holding.fileset.id.0) ≡ false = grind (arith, common_steps, other) in
    let rest = kept_found slots at holding (apart_rest (Some first) slots h) e k in
    choice (is_kept first.stay) its rest
  where
    choice : (b : Bool) → (first.fileset.id.0 == holding.fileset.id.0) ≡ false → find (has_id holding.fileset.id) (filesets_kept slots) ≡ Some holding.fileset
        → find (has_id holding.fileset.id) (if b then first.fileset ∷ filesets_kept slots else filesets_kept slots) ≡ Some holding.fileset
    choice true its rest = rw its rest
    choice false its rest = rest

-- what slots count for, where each counts for no more than what is promised to it
pub slots_promised : (w : Slot → ℕ) (n : ℕ) (slots : List (Option Holding)) → ((at : ℕ) (holding : Holding) (slot : Slot) → held_at slots at ≡ Some holding → Tells slot holding → In slot (slots_from n slots) → w slot ≤ held_promise (Some holding))
    → total w (slots_from n slots) ≤ total held_promise slots
slots_promised w n [] h = omega arith
slots_promised w n (None ∷ slots) h =
    let rest = slots_promised w (n + 1) slots (λ at holding slot e t i. h (suc at) holding slot e t i) in omega (arith, rest)
slots_promised w n (Some holding ∷ slots) h =
    let rest = slots_promised w (n + 1) slots (λ at other slot e t i. h (suc at) other slot e t (inr i)) in
    let here = h 0 holding (slot_told n holding) refl (n, refl) (inl refl) in
    omega (arith, rest, here)

pub promised_total : (slots : List (Option Holding)) → promised slots ≡ total held_promise slots
promised_total slots = sum_total held_promise slots
