-- Names that are found by an index.
use Rattle.std.proofs.Common.{◌≡◌, ◌⊎◌, ℕ, zero, suc, ◌<◌, ◌==◌, ◌||◌, Bool, true, false, List, [], ◌∷◌, ◌++◌, length, get_or, set, slice_get, None, Some, inl, inr, refl, sym, ap, ◌∙◌, arith, true≢false}
use Rattle.std.specs.List.{list_any}
use Rattle.std.specs.Option.{option_map_or}
use mathlib.Core.Bool.{or-true}
use Rattle.std.proofs.lemmas.Bool.{or_cases, eq-eqb, eqb-true}
use Rattle.std.proofs.lemmas.List.Folds.{list_any-append}
use Rattle.std.proofs.lemmas.Option.{none-some, same_Some}
use Rattle.script_lines.proofs.Circles.{itself}
use Rattle.std.specs.Cmp.Lexicographic.{same_text}
use Rattle.base_types.specs.Name.{same_name, is_among}
use Rattle.script_lines.specs.Index.{slot_of, is_in, is_at, places_of, StayIn, AreFound}

-- one more empty slot answers as none
pub empty_slot : {X : Type 0} (xs : List (List X)) (i : ℕ) → get_or (xs ++ [] ∷ []) i [] ≡ get_or xs i []
empty_slot [] zero = refl
empty_slot [] (suc i) = refl
empty_slot (x ∷ xs) zero = refl
empty_slot (x ∷ xs) (suc i) = empty_slot xs i

-- no slot answers as an empty one
pub no_slot : {X : Type 0} (xs : List (List X)) (i : ℕ) → None ≡ slice_get xs i → [] ≡ get_or xs i []
no_slot [] i e = refl
no_slot (x ∷ xs) zero e = absurd (none-some x e)
no_slot (x ∷ xs) (suc i) e = no_slot xs i e

-- what is in a list is in a longer one
any_kept : {X : Type 0} (p : X → Bool) (xs ys : List X) → list_any p xs ≡ true → list_any p (xs ++ ys) ≡ true
any_kept p xs ys h = list_any-append p xs ys ∙ ap (λ b. b || list_any p ys) h

last_in : (places : List ℕ) (place : ℕ) → is_in (places ++ place ∷ []) place ≡ true
last_in places place =
    list_any-append (λ other. other == place) places (place ∷ [])
    ∙ ap (λ b. is_in places place || (b || false)) (eq-eqb place place refl)
    ∙ or-true (is_in places place)

-- one more place in a slot
pub slot_keeps : (slots : List (List ℕ)) (slot i place p : ℕ) (places : List ℕ) → places ≡ get_or slots slot places
    → is_in (get_or slots i []) p ≡ true → is_in (get_or (set slots slot (places ++ place ∷ [])) i []) p ≡ true
slot_keeps [] slot i place p places e h = h
slot_keeps (x ∷ slots) zero zero place p places e h =
    any_kept (λ other. other == p) places (place ∷ []) (ap (λ xs. is_in xs p) e ∙ h)
slot_keeps (x ∷ slots) zero (suc i) place p places e h = h
slot_keeps (x ∷ slots) (suc slot) zero place p places e h = h
slot_keeps (x ∷ slots) (suc slot) (suc i) place p places e h = slot_keeps slots slot i place p places e h

pub slot_adds : (slots : List (List ℕ)) (slot place : ℕ) (places : List ℕ) → slot < length slots
    → is_in (get_or (set slots slot (places ++ place ∷ [])) slot []) place ≡ true
slot_adds [] slot place places h = absurd (omega (arith, h))
slot_adds (x ∷ slots) zero place places h = last_in places place
slot_adds (x ∷ slots) (suc slot) place places h = slot_adds slots slot place places (omega (arith, h))

-- where the slots were as before, but for more empty ones, the places stay
pub grown_stay : (before now : List (List ℕ)) → ((i : ℕ) → get_or now i [] ≡ get_or before i []) → StayIn before now
grown_stay before now same name place h = ap (λ xs. is_in xs place) (same (slot_of name)) ∙ h

pub added_stay : (before grown : List (List ℕ)) (slot place : ℕ) (places : List ℕ)
    → ((i : ℕ) → get_or grown i [] ≡ get_or before i []) → places ≡ get_or grown slot places
    → StayIn before (set grown slot (places ++ place ∷ []))
added_stay before grown slot place places same e name p h =
    slot_keeps grown slot (slot_of name) place p places e (grown_stay before grown same name p h)

pub ruleset slots_more = (grown_stay, added_stay, slot_adds)

-- a name that stands at one of some places is among all
at_among : (names : List (List ℕ)) (name : List ℕ) (place : ℕ) → is_at names name place ≡ true → is_among names name ≡ true
at_among [] name place h = absurd (true≢false (sym h))
at_among (x ∷ names) name zero h = ap (λ b. b || is_among names name) h
at_among (x ∷ names) name (suc place) h =
    ap (λ b. same_name x name || b) (at_among names name place h) ∙ or-true (same_name x name)

sound : (names : List (List ℕ)) (name places : List ℕ) → list_any (is_at names name) places ≡ true → is_among names name ≡ true
sound names name [] h = absurd (true≢false (sym h))
sound names name (place ∷ places) h = elim (or_cases (is_at names name place) (list_any (is_at names name) places) h) [
  | inl e ↦ at_among names name place e
  | inr e ↦ sound names name places e
]

-- where a name stands that is among all
stands : (names : List (List ℕ)) (name : List ℕ) → is_among names name ≡ true → (place : ℕ) × (slice_get names place ≡ Some name)
stands [] name h = absurd (true≢false (sym h))
stands (x ∷ names) name h = elim (or_cases (same_name x name) (is_among names name) h) [
  | inl e ↦ (0, ap (λ (n : List ℕ). Some n) (same_text x name (sym e)))
  | inr e ↦ (let there = stands names name e in (suc there.0, there.1))
]

in_at : (names : List (List ℕ)) (name places : List ℕ) (place : ℕ) → slice_get names place ≡ Some name
    → is_in places place ≡ true → list_any (is_at names name) places ≡ true
in_at names name [] place got h = absurd (true≢false (sym h))
in_at names name (p ∷ places) place got h = elim (or_cases (p == place) (is_in places place) h) [
  | inl e ↦ (ap (λ b. b || list_any (is_at names name) places)
      (ap (is_at names name) (eqb-true p place e) ∙ ap (λ o. option_map_or (λ other. same_name other name) o false) got ∙ itself name))
  | inr e ↦ (ap (λ b. is_at names name p || b) (in_at names name places place got e) ∙ or-true (is_at names name p))
]

both_ways : (a b : Bool) → (a ≡ true → b ≡ true) → (b ≡ true → a ≡ true) → a ≡ b
both_ways true b to from = sym (to refl)
both_ways false true to from = from refl
both_ways false false to from = refl

-- to look at the places of a name tells whether it is among all
pub told_found : (names : List (List ℕ)) (index : List (List ℕ)) (name : List ℕ) → AreFound names index
    → list_any (is_at names name) (places_of index name) ≡ is_among names name
told_found names index name found =
    both_ways (list_any (is_at names name) (places_of index name)) (is_among names name) (sound names name (places_of index name))
    (λ h. let there = stands names name h in
    in_at names name (places_of index name) there.0 there.1 (found there.0 name there.1))

pub none_found : (index : List (List ℕ)) → AreFound [] index
none_found index place name e = absurd (none-some name e)

pub stay_found : (names : List (List ℕ)) (before now : List (List ℕ)) → AreFound names before → StayIn before now → AreFound names now
stay_found names before now found stay place name e = stay name place (found place name e)

-- where a name stands in a list with one more
pushed : (names : List (List ℕ)) (new name : List ℕ) (place : ℕ) → slice_get (names ++ new ∷ []) place ≡ Some name
    → (slice_get names place ≡ Some name) ⊎ ((place ≡ length names) × (new ≡ name))
pushed [] new name zero e = inr (refl, same_Some new name e)
pushed [] new name (suc place) e = inl e
pushed (x ∷ names) new name zero e = inl e
pushed (x ∷ names) new name (suc place) e = elim (pushed names new name place e) [
  | inl h ↦ inl h
  | inr h ↦ inr (ap suc h.0, h.1)
]

pub more_found : (names : List (List ℕ)) (before now : List (List ℕ)) (name : List ℕ) → AreFound names before
    → StayIn before now → is_in (places_of now name) (length names) ≡ true → AreFound (names ++ name ∷ []) now
more_found names before now name found stay new place other e = elim (pushed names name other place e) [
  | inl h ↦ stay other place (found place other h)
  | inr h ↦ (ap (is_in (places_of now other)) h.0 ∙ ap (λ n. is_in (places_of now n) (length names)) (sym h.1) ∙ new)
]

pub ruleset finds = (stay_found, more_found)
