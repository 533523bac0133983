-- What is found in a table of slots, where one of them changes.
use Rattle.std.proofs.Common.{◌≡◌, ◌≢◌, ℕ, zero, suc, ◌+◌, ◌==◌, Bool, true, false, not, cond, List, [], ◌∷◌, set, Option, Some, None, refl, sym, ap, ◌∙◌, arith}
use Rattle.std.specs.Prelude.{slice_get}
use Rattle.std.specs.List.{find}
use Rattle.std.specs.Option.{option_map, option_and_then}
use Rattle.std.proofs.lemmas.List.Folds.{find_at}
use Rattle.base_types.specs.Lists.{changed_at}
use Rattle.base_types.specs.declared.ids.FilesetId.{FilesetId}
use Rattle.store_state.specs.State.{is_of, is_used_so, slot_so, held_at, held_so}
use Rattle.store_state.specs.declared.state.Holding.{Holding}
use Rattle.store_state.proofs.Slots.{first, slot_first, held_changed, first_changed}
use Rattle.store_laws.proofs.Keys.{same_key, equal_keys, keys_sym, found_passes}

-- a table
abbrev pub Table : Type 0
Table = List (Option Holding)

-- the only slot that passes a test is the first that does
only_first : (test : Holding → Bool) (slots : Table) (at : ℕ) (holding : Holding) → held_at slots at ≡ Some holding →
    test holding ≡ true →
    ((other : ℕ) (b : Holding) → other ≢ at → held_at slots other ≡ Some b → test b ≡ false) → first test slots ≡ at
only_first test [] at holding e t k = absurd (cc)
only_first test (None ∷ slots) zero holding e t k = absurd (cc)
only_first test (Some b ∷ slots) zero holding e t k =
    let same : holding ≡ b = cc in
    let passes : test b ≡ true = ap test (sym same) ∙ t in
    ap (λ c. cond (not c) (1 + first test slots) 0) passes
only_first test (None ∷ slots) (suc at) holding e t k =
    let rest = only_first test slots at holding e t (λ other b apart. k (suc other) b (λ same. apart (cc))) in
    omega (arith, rest)
only_first test (Some b ∷ slots) (suc at) holding e t k =
    let rest = only_first test slots at holding e t (λ other c apart. k (suc other) c (λ same. apart (cc))) in
    let fails : test b ≡ false = k zero b (λ same. absurd (cc)) refl in
    ap (λ c. cond (not c) (1 + first test slots) 0) fails ∙ omega (arith, rest)

pub only_slot : (test : Holding → Bool) (slots : Table) (at : ℕ) (holding : Holding) → held_at slots at ≡ Some holding →
    test holding ≡ true →
    ((other : ℕ) (b : Holding) → other ≢ at → held_at slots other ≡ Some b → test b ≡ false) → slot_so test slots ≡ at
only_slot test slots at holding e t k = slot_first test slots ∙ only_first test slots at holding e t k

-- other slots stay
changed_other : (slots : Table) (at s : ℕ) (f : Holding → Holding) → s ≢ at →
    held_at (changed_at slots at (option_map f)) s ≡ held_at slots s
changed_other [] at s f apart = refl
changed_other (slot ∷ slots) zero zero f apart = absurd (apart refl)
changed_other (slot ∷ slots) zero (suc s) f apart = refl
changed_other (slot ∷ slots) (suc at) zero f apart = refl
changed_other (slot ∷ slots) (suc at) (suc s) f apart = changed_other slots at s f (λ e. apart (ap suc e))

-- a change that keeps what a test tells, of the holding that is found
pub found_changed : (test : Holding → Bool) (f : Holding → Holding) → ((holding : Holding) → test (f holding) ≡ test holding) →
    (slots : Table) →
    held_so test (changed_at slots (slot_so test slots) (option_map f)) ≡ option_map f (held_so test slots)
found_changed test f k slots =
    let at = slot_so test slots in
    let place : slot_so test (changed_at slots at (option_map f)) ≡ at =
    slot_first test (changed_at slots at (option_map f)) ∙ first_changed test f k slots at ∙ sym (slot_first test slots) in
    ap (held_at (changed_at slots at (option_map f))) place ∙ held_changed slots at f

-- and of another one
pub found_beside : (test : Holding → Bool) (f : Holding → Holding) → ((holding : Holding) → test (f holding) ≡ test holding) →
    (slots : Table) (at : ℕ) → slot_so test slots ≢ at →
    held_so test (changed_at slots at (option_map f)) ≡ held_so test slots
found_beside test f k slots at apart =
    let place : slot_so test (changed_at slots at (option_map f)) ≡ slot_so test slots =
    slot_first test (changed_at slots at (option_map f)) ∙ first_changed test f k slots at ∙ sym (slot_first test slots) in
    ap (held_at (changed_at slots at (option_map f))) place ∙ changed_other slots at (slot_so test slots) f apart

-- what is found is what stands first
pub found_is : (test : Holding → Bool) (slots : Table) →
    held_so test slots ≡ option_and_then (λ slot. slot) (find (is_used_so test) slots)
found_is test slots =
    ap (held_at slots) (slot_first test slots) ∙ sym (ap (option_and_then (λ slot. slot)) (find_at (is_used_so test) slots))

-- it passes the test
pub held_passes : (test : Holding → Bool) (slots : Table) (holding : Holding) → held_so test slots ≡ Some holding →
    test holding ≡ true
held_passes test slots holding e = by (find (is_used_so test) slots) refl (sym (found_is test slots) ∙ e)
  where
    by : (found : Option (Option Holding)) → find (is_used_so test) slots ≡ found →
        option_and_then (λ slot. slot) found ≡ Some holding → test holding ≡ true
    by None f k = absurd (cc)
    by (Some slot) f k =
        let passes = found_passes (is_used_so test) slots slot f in
        let same : slot ≡ Some holding = k in
        ap (is_used_so test) (sym same) ∙ passes

-- two ids are found in two slots
pub apart_slots : (slots : Table) (id other : FilesetId) (holding : Holding) → held_so (is_of id) slots ≡ Some holding →
    (other.0 == id.0) ≡ false → slot_so (is_of other) slots ≢ slot_so (is_of id) slots
apart_slots slots id other holding e apart same =
    let its = equal_keys holding.fileset.id.0 id.0 (held_passes (is_of id) slots holding e) in
    let others = equal_keys holding.fileset.id.0 other.0
    (held_passes (is_of other) slots holding (ap (held_at slots) same ∙ e)) in
    let wrong : (other.0 == id.0) ≡ true = ap (λ n. n == id.0) (sym others ∙ its) ∙ same_key id.0 in
    absurd (cc)

-- Of a table what is found of one id has changed, and of no other one.
pub record ChangesOne (slots news : Table) (id : FilesetId) (found : Option Holding) : Type 0 where
  pub here : held_so (is_of id) news ≡ found
  pub others : (other : FilesetId) → (other.0 == id.0) ≡ false →
      held_so (is_of other) news ≡ held_so (is_of other) slots

-- so it is where the holding of an id is changed
pub changes_one : (slots : Table) (id : FilesetId) (holding : Holding) (f : Holding → Holding) →
    ((any : FilesetId) (h : Holding) → is_of any (f h) ≡ is_of any h) → held_so (is_of id) slots ≡ Some holding →
    ChangesOne slots (changed_at slots (slot_so (is_of id) slots) (option_map f)) id (Some (f holding))
changes_one slots id holding f k e = record {
  here = found_changed (is_of id) f (k id) slots ∙ ap (option_map f) e;
  others = λ other apart.
      found_beside (is_of other) f (k other) slots (slot_so (is_of id) slots) (apart_slots slots id other holding e apart);
}

-- and changed again
pub changes_then : (a b c : Table) (id : FilesetId) (first second : Option Holding) → ChangesOne a b id first →
    ChangesOne b c id second → ChangesOne a c id second
changes_then a b c id first second x y =
    record { here = y.here; others = λ other apart. y.others other apart ∙ x.others other apart }

-- a free slot takes one whose id isn't there
find_put : (test : Holding → Bool) (slots : Table) (at : ℕ) (holding : Holding) → slice_get slots at ≡ Some None →
    find (is_used_so test) slots ≡ None → test holding ≡ true →
    find (is_used_so test) (set slots at (Some holding)) ≡ Some (Some holding)
find_put test [] at holding e n t = absurd (cc)
find_put test (slot ∷ slots) zero holding e n t =
    ap (λ b. cond b (Some (Some holding)) (find (is_used_so test) slots)) t
find_put test (slot ∷ slots) (suc at) holding e n t =
    by (is_used_so test slot) n (λ k. find_put test slots at holding e k t)
  where
    by : (b : Bool) → cond b (Some slot) (find (is_used_so test) slots) ≡ None →
        (find (is_used_so test) slots ≡ None →
        find (is_used_so test) (set slots at (Some holding)) ≡ Some (Some holding)) →
        cond b (Some slot) (find (is_used_so test) (set slots at (Some holding))) ≡ Some (Some holding)
    by true n rest = absurd (cc)
    by false n rest = rest n

find_past : (test : Holding → Bool) (slots : Table) (at : ℕ) (holding : Holding) → slice_get slots at ≡ Some None →
    test holding ≡ false → find (is_used_so test) (set slots at (Some holding)) ≡ find (is_used_so test) slots
find_past test [] at holding e t = absurd (cc)
find_past test (slot ∷ slots) zero holding e t =
    let free : slot ≡ None = cc in
    let fails : is_used_so test slot ≡ false = ap (is_used_so test) free in
    ap (λ b. cond b (Some (Some holding)) (find (is_used_so test) slots)) t
    ∙ sym (ap (λ b. cond b (Some slot) (find (is_used_so test) slots)) fails)
find_past test (slot ∷ slots) (suc at) holding e t =
    ap (λ o. cond (is_used_so test slot) (Some slot) o) (find_past test slots at holding e t)

-- none is found where nothing used passes
pub none_used : (test : Holding → Bool) (slots : Table) → held_so test slots ≡ None → find (is_used_so test) slots ≡ None
none_used test slots e = by (find (is_used_so test) slots) refl (sym (found_is test slots) ∙ e)
  where
    by : (found : Option (Option Holding)) → find (is_used_so test) slots ≡ found →
        option_and_then (λ slot. slot) found ≡ None → find (is_used_so test) slots ≡ None
    by None f k = f
    by (Some (Some holding)) f k = absurd (cc)
    by (Some None) f k = let wrong : false ≡ true = found_passes (is_used_so test) slots None f in absurd (cc)

pub takes_one : (slots : Table) (at : ℕ) (id : FilesetId) (holding : Holding) → slice_get slots at ≡ Some None →
    held_so (is_of id) slots ≡ None → holding.fileset.id ≡ id →
    ChangesOne slots (set slots at (Some holding)) id (Some holding)
takes_one slots at id holding free none its = record {
  here = found_is (is_of id) (set slots at (Some holding))
      ∙ ap (option_and_then (λ slot. slot))
      (find_put (is_of id) slots at holding free (none_used (is_of id) slots none)
      (ap (λ (i : FilesetId). i.0 == id.0) its ∙ same_key id.0));
  others = λ other apart.
      found_is (is_of other) (set slots at (Some holding))
      ∙ ap (option_and_then (λ slot. slot))
      (find_past (is_of other) slots at holding free
      (ap (λ (i : FilesetId). i.0 == other.0) its ∙ keys_sym other.0 id.0 apart))
      ∙ sym (found_is (is_of other) slots);
}
