-- Lines that wait for flags, and where they stand.
use Rattle.std.proofs.Common.{◌≡◌, ◌⊎◌, ℕ, zero, suc, ◌+◌, ◌<◌, ◌≤◌, ◌≢◌, ◌||◌, Bool, true, false, cond, List, []}
use Rattle.std.proofs.Common.{◌∷◌, ◌++◌, length, get_or, take, drop, map, slice_get, Some, is_some, inl, inr, refl}
use Rattle.std.proofs.Common.{sym, ap, ◌∙◌, arith, true≢false}
use Rattle.std.specs.Cmp.Lexicographic.{same_text}
use Rattle.std.proofs.lemmas.Bool.{ne_eqb}
use Rattle.std.proofs.lemmas.List.{take_more, take_all, drop_all, length-take-le}
use Rattle.std.proofs.lemmas.Option.{none-some, same_Some}
use Rattle.base_types.specs.Lists.{changed_at}
use Rattle.base_types.specs.Name.{same_name}
use Rattle.script_lines.specs.Index.{StayIn, is_in, places_of}
use Rattle.hub_board.specs.Follows.{flag_for, if_flag, mark_raised, raised_mark, told, waits_for, with_told}
use Rattle.hub_board.specs.Waits.{AreKnown, AreWaiting}
use Rattle.hub_board.specs.declared.follow.Follow.{Follow}
use Rattle.hub_board.specs.declared.follow.Mark.{Mark}
use Rattle.hub_board.specs.declared.follow.Mark.TheVariants.{Plain, Raise, Await, Raised, Told}

-- a line that has taken notice of a flag waits for it no longer
calm : (flag : List ℕ) (m : Mark) → waits_for flag (mark_raised flag m) ≡ false
calm flag (Await name) = by_name (same_name name flag) refl
  where
    by_name : (b : Bool) → same_name name flag ≡ b → waits_for flag (cond b (Raised name) (Await name)) ≡ false
    by_name true e = refl
    by_name false e = e
calm flag Plain = refl
calm flag (Raise name) = refl
calm flag (Raised name) = refl
calm flag Told = refl

stays_calm : (flag : List ℕ) (m : Mark) → waits_for flag m ≡ false → mark_raised flag m ≡ m
stays_calm flag m e = ap (λ b. cond b (raised_mark m) m) e

map_changed : (flag : List ℕ) (ms : List Mark) (p : ℕ)
    → map (mark_raised flag) (changed_at ms p (mark_raised flag)) ≡ map (mark_raised flag) ms
map_changed flag [] p = refl
map_changed flag (m ∷ ms) zero =
    ap (λ x. x ∷ map (mark_raised flag) ms) (stays_calm flag (mark_raised flag m) (calm flag m))
map_changed flag (m ∷ ms) (suc p) = ap (λ xs. mark_raised flag m ∷ xs) (map_changed flag ms p)

-- a line that still waits is another one
waits_changed : (flag : List ℕ) (ms : List Mark) (p q : ℕ) (m : Mark)
    → slice_get (changed_at ms p (mark_raised flag)) q ≡ Some m → waits_for flag m ≡ true
    → (slice_get ms q ≡ Some m) × (p ≢ q)
waits_changed flag [] p q m e w = absurd (none-some m e)
waits_changed flag (x ∷ ms) zero zero m e w =
    absurd (true≢false (sym w ∙ ap (waits_for flag) (sym (same_Some (mark_raised flag x) m e)) ∙ calm flag x))
waits_changed flag (x ∷ ms) zero (suc q) m e w = (e, λ s. absurd (omega (arith, s)))
waits_changed flag (x ∷ ms) (suc p) zero m e w = (e, λ s. absurd (omega (arith, s)))
waits_changed flag (x ∷ ms) (suc p) (suc q) m e w =
    let before = waits_changed flag ms p q m e w in
    (before.0, λ s. before.1 (omega (arith, s)))

in_rest : (places : List ℕ) (i q d : ℕ) → i < length places → get_or places i d ≢ q → is_in (drop i places) q ≡ true
    → is_in (drop (i + 1) places) q ≡ true
in_rest [] i q d l n h = absurd (omega (arith, l))
in_rest (x ∷ places) zero q d l n h = sym (ap (λ b. b || is_in places q) (ne_eqb x q n)) ∙ h
in_rest (x ∷ places) (suc i) q d l n h =
    let s : suc i + 1 ≡ suc (i + 1) = omega arith in
    rw s (in_rest places i q d (omega (arith, l)) n h)

-- one more place
pub raises_next : (flag : List ℕ) (ms : List Mark) (places : List ℕ) (i d : ℕ) → i < length places
    → AreWaiting flag ms (drop i places)
    → AreWaiting flag (changed_at ms (get_or places i d) (mark_raised flag)) (drop (i + 1) places)
raises_next flag ms places i d l h q m got w =
    let before = waits_changed flag ms (get_or places i d) q m got w in
    in_rest places i q d l before.1 (h q m before.0 w)

pub raises_same : (flag : List ℕ) (ms first : List Mark) (place : ℕ) → map (mark_raised flag) ms ≡ map
    (mark_raised flag) first
    → map (mark_raised flag) (changed_at ms place (mark_raised flag)) ≡ map (mark_raised flag) first
raises_same flag ms first place e = map_changed flag ms place ∙ e

none_waits : (flag : List ℕ) (ms : List Mark) → AreWaiting flag ms [] → map (mark_raised flag) ms ≡ ms
none_waits flag [] h = refl
none_waits flag (m ∷ ms) h =
    ap (λ x. x ∷ map (mark_raised flag) ms) (stays_calm flag m (by_test (waits_for flag m) refl))
    ∙ ap (λ xs. m ∷ xs) (none_waits flag ms (λ q x got w. absurd (true≢false (sym (h (suc q) x got w)))))
  where
    by_test : (b : Bool) → waits_for flag m ≡ b → waits_for flag m ≡ false
    by_test true e = absurd (true≢false (sym (h 0 m refl e)))
    by_test false e = e

pub raises_done : (flag : List ℕ) (ms first : List Mark) (places : List ℕ) (i : ℕ) → length places ≤ i
    → map (mark_raised flag) ms ≡ map (mark_raised flag) first → AreWaiting flag ms (drop i places)
    → ms ≡ map (mark_raised flag) first
raises_done flag ms first places i l e h =
    sym (none_waits flag ms (λ q m got w. sym (ap (λ ps. is_in ps q) (drop_all i places l)) ∙ h q m got w)) ∙ e

-- where a line stands of a list with one more
pushed : (ms : List Mark) (new m : Mark) (place : ℕ) → slice_get (ms ++ new ∷ []) place ≡ Some m
    → (slice_get ms place ≡ Some m) ⊎ ((place ≡ length ms) × (new ≡ m))
pushed [] new m zero e = inr (refl, same_Some new m e)
pushed [] new m (suc place) e = inl e
pushed (x ∷ ms) new m zero e = inl e
pushed (x ∷ ms) new m (suc place) e = elim (pushed ms new m place e) [
  | inl h ↦ inl h
  | inr h ↦ inr (ap suc h.0, h.1)
]

pub known_none : (slots : List (List ℕ)) → AreKnown [] slots
known_none slots flag place m e w = absurd (none-some m e)

pub known_more : (marks : List Mark) (i : ℕ) (mark : Mark) (before now : List (List ℕ)) → i < length marks
    → mark ≡ get_or marks i mark → AreKnown (take i marks) before → StayIn before now
    → ((flag : List ℕ) → waits_for flag mark ≡ true → is_in (places_of now flag) i ≡ true)
    → AreKnown (take (i + 1) marks) now
known_more marks i mark before now l e known stay new flag q m got w =
    elim (pushed (take i marks) (get_or marks i mark) m q (ap (λ xs. slice_get xs q) (sym (take_more marks i mark l))
    ∙ got)) [
      | inl h ↦ stay flag q (known flag q m h w)
      | inr h ↦ (let at : length (take i marks) ≡ i = length-take-le i marks (omega (arith, l)) in
          ap (is_in (places_of now flag)) (h.0 ∙ at) ∙ new flag (ap (waits_for flag) (e ∙ h.1) ∙ w))
    ]

pub known_all : (marks : List Mark) (n : ℕ) (slots : List (List ℕ)) → length marks ≤ n → AreKnown (take n marks) slots
    → AreKnown marks slots
known_all marks n slots l known flag q m got w =
    known flag q m (ap (λ xs. slice_get xs q) (take_all n marks l) ∙ got) w

pub ruleset knows = (known_none, known_more, known_all)

from_map : (flag : List ℕ) (ms : List Mark) (q : ℕ) (m : Mark) → slice_get (map (mark_raised flag) ms) q ≡ Some m
    → (x : Mark) × (slice_get ms q ≡ Some x) × (mark_raised flag x ≡ m)
from_map flag [] q m e = absurd (none-some m e)
from_map flag (x ∷ ms) zero m e = (x, refl, same_Some (mark_raised flag x) m e)
from_map flag (x ∷ ms) (suc q) m e = from_map flag ms q m e

waits_before : (flag other : List ℕ) (x : Mark) → waits_for other (mark_raised flag x) ≡ true → waits_for other x ≡ true
waits_before flag other (Await name) w = by_name (same_name name flag) w
  where
    by_name : (b : Bool) → waits_for other (cond b (Raised name) (Await name)) ≡ true → same_name name other ≡ true
    by_name true v = absurd (true≢false (sym v))
    by_name false v = v
waits_before flag other Plain w = w
waits_before flag other (Raise name) w = w
waits_before flag other (Raised name) w = w
waits_before flag other Told w = w

-- flags that are raised, and those of which a node was told, leave no line waiting elsewhere
pub known_raised : (flag : List ℕ) (marks : List Mark) (slots : List (List ℕ)) → AreKnown marks slots
    → AreKnown (map (mark_raised flag) marks) slots
known_raised flag marks slots known other q m got w =
    let there = from_map flag marks q m got in
    known other q there.0 there.1 (waits_before flag other there.0 (ap (waits_for other) there.2 ∙ w))

not_told : (ms : List Mark) (p q : ℕ) (flag : List ℕ) (m : Mark) → slice_get (changed_at ms p told) q ≡ Some m
    → waits_for flag m ≡ true → slice_get ms q ≡ Some m
not_told [] p q flag m e w = e
not_told (x ∷ ms) zero zero flag m e w =
    absurd (true≢false (sym w ∙ ap (waits_for flag) (sym (same_Some Told m e))))
not_told (x ∷ ms) zero (suc q) flag m e w = e
not_told (x ∷ ms) (suc p) zero flag m e w = e
not_told (x ∷ ms) (suc p) (suc q) flag m e w = not_told ms p q flag m e w

pub known_told : (f : Follow) (slots : List (List ℕ)) → AreKnown f.marks slots → AreKnown (if_flag f).marks slots
known_told f slots known = by_flag (is_some (flag_for f))
  where
    by_flag : (b : Bool) → AreKnown (cond b (with_told f) f).marks slots
    by_flag true flag q m got w = known flag q m (not_told f.marks f.gone q flag m got w) w
    by_flag false flag q m got w = known flag q m got w

pub added : (name flag : List ℕ) (slots : List (List ℕ)) (place : ℕ) → is_in (places_of slots name) place ≡ true
    → same_name name flag ≡ true → is_in (places_of slots flag) place ≡ true
added name flag slots place h w = ap (λ n. is_in (places_of slots n) place) (sym (same_text name flag (sym w))) ∙ h
