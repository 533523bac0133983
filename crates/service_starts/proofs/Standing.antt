-- Where filesets are once the disks fit.
use Rattle.std.proofs.Common.{◌≡◌, ℕ, zero, suc, ◌+◌, ◌-◌, ◌<◌, ◌≤◌, ◌==◌, nat_lt, Bool, true, false, ◌&&◌, ◌||◌, not, cond, List, [], ◌∷◌, ◌++◌, length, get_or, take, Option, Some, None, refl, sym, ap, ◌∙◌, subst, arith, inl, inr, rules, ◌⊎◌}
use Rattle.std.specs.Prelude.{slice_get}
use Rattle.std.specs.List.{find, list_any, list_all, Contains}
use Rattle.std.specs.Option.{option_map_or}
use Rattle.std.proofs.lemmas.Bool.Decides.{eqb_tells}
use Rattle.std.proofs.lemmas.Grind.{common_steps}
use Rattle.base_types.specs.declared.ids.ServerId.{ServerId}
use Rattle.tree_answers.specs.WellFormed.{is_given}
use Rattle.tree_answers.proofs.Places.{equal_is}
use Rattle.store_memory.specs.declared.told.Slot.{Slot}
use Rattle.store_state.specs.declared.state.Stay.{Stay}
use Rattle.store_state.specs.declared.state.Stay.TheVariants.{Writable, Clone, Leaving, Arriving, Gone}
use Rattle.service_starts.specs.declared.told.Told.{Told}
use Rattle.service_starts.proofs.Tests.{and_left, and_right, and_both}
use Rattle.service_starts.specs.Told.{slots_of, Placed, placed_at, placed_from, placed, is_same, is_later, has_come, stands_as, stands, rooms_of}
use Rattle.service_starts.specs.Laws.{FilesetsAreOnce}
use Rattle.service_starts.specs.Fitting.{fits, misfit, is_matched, is_continued, is_earlier}

-- an element of a list
abbrev pub In : {X : Type 0} → X → List X → Type 0
In x [] = ⊥
In x (y ∷ ys) = (y ≡ x) ⊎ In x ys

pub contains_in : {X : Type 0} (xs : List X) (x : X) → Contains xs x → In x xs
contains_in xs x h = at xs x h.0 h.1 h.2
  where
    at : {X : Type 0} (xs : List X) (x : X) (k : ℕ) → k < length xs → get_or xs k x ≡ x → In x xs
    at [] x k h e = absurd (omega (arith, h))
    at (y ∷ ys) x zero h e = inl e
    at (y ∷ ys) x (suc k) h e = inr (at ys x k (omega (arith, h)) e)

pub in_contains : {X : Type 0} (xs : List X) (x : X) → In x xs → Contains xs x
in_contains [] x h = absurd h
in_contains (y ∷ ys) x (inl e) = (0, omega arith, e)
in_contains (y ∷ ys) x (inr h) = let c = in_contains ys x h in let lt = c.1 in (suc c.0, omega arith, c.2)

pub in_left : {X : Type 0} (xs ys : List X) (x : X) → In x xs → In x (xs ++ ys)
in_left [] ys x h = absurd h
in_left (y ∷ xs) ys x (inl e) = inl e
in_left (y ∷ xs) ys x (inr h) = inr (in_left xs ys x h)

pub in_right : {X : Type 0} (xs ys : List X) (x : X) → In x ys → In x (xs ++ ys)
in_right [] ys x h = h
in_right (y ∷ xs) ys x h = inr (in_right xs ys x h)

pub in_either : {X : Type 0} (xs ys : List X) (x : X) → In x (xs ++ ys) → In x xs ⊎ In x ys
in_either [] ys x h = inr h
in_either (y ∷ xs) ys x (inl e) = inl (inl e)
in_either (y ∷ xs) ys x (inr h) = elim (in_either xs ys x h) [ inl k ↦ inl (inr k) | inr k ↦ inr k ]

-- what some of them passes
pub any_in : {X : Type 0} (p : X → Bool) (xs : List X) → list_any p xs ≡ true → (x : X) × In x xs × (p x ≡ true)
any_in p [] h = absurd (search (rules, h))
any_in {X = X} p (y ∷ ys) h = choice (p y) refl h (λ k. any_in p ys k)
  where
    choice : (b : Bool) → p y ≡ b → (b || list_any p ys) ≡ true → (list_any p ys ≡ true → (x : X) × In x ys × (p x ≡ true)) → (x : X) × In x (y ∷ ys) × (p x ≡ true)
    choice true e k rest = (y, inl refl, e)
    choice false e k rest = let w = rest k in (w.0, inr w.1, w.2)

pub in_any : {X : Type 0} (p : X → Bool) (xs : List X) (x : X) → In x xs → p x ≡ true → list_any p xs ≡ true
in_any p [] x h k = absurd h
in_any p (y ∷ ys) x (inl e) k = let one : p y ≡ true = ap p e ∙ k in rw one refl
in_any p (y ∷ ys) x (inr h) k = let rest : list_any p ys ≡ true = in_any p ys x h k in elim (p y) as (λ t. (t || list_any p ys) ≡ true) [ true ↦ refl | false ↦ rest ]

pub in_all : {X : Type 0} (p : X → Bool) (xs : List X) (x : X) → In x xs → list_all p xs ≡ true → p x ≡ true
in_all p [] x h k = absurd h
in_all p (y ∷ ys) x (inl e) k = sym (ap p e) ∙ and_left _ _ k
in_all p (y ∷ ys) x (inr h) k = in_all p ys x h (and_right _ _ k)

-- where none fails, each passes
pub none_fails : {X : Type 0} (q : X → Bool) (xs : List X) (x : X) → find (λ y. not (q y)) xs ≡ None → In x xs → q x ≡ true
none_fails q [] x h k = absurd k
none_fails q (y ∷ ys) x h k = choice (q y) refl h k (λ n s. none_fails q ys x n s)
  where
    choice : (b : Bool) → q y ≡ b → cond (not b) (Some y) (find (λ y. not (q y)) ys) ≡ None → In x (y ∷ ys) → (find (λ y. not (q y)) ys ≡ None → In x ys → q x ≡ true) → q x ≡ true
    choice true e n (inl s) rest = sym (ap q s) ∙ e
    choice true e n (inr s) rest = rest n s
    choice false e n s rest = absurd (search (rules, n))

pub in_placed : (n : ℕ) (slots : List Slot) (slot : Slot) → In slot slots → In (record { server = record { 0 = n }; slot = slot }) (placed_at n slots)
in_placed n [] slot h = absurd h
in_placed n (s ∷ slots) slot (inl e) = inl (ap (λ one. record { server = record { 0 = n }; slot = one }) e)
in_placed n (s ∷ slots) slot (inr h) = inr (in_placed n slots slot h)

pub placed_in : (n : ℕ) (slots : List Slot) (at : Placed) → In at (placed_at n slots) → (at.server.0 ≡ n) × In at.slot slots
placed_in n [] at h = absurd h
placed_in n (s ∷ slots) at (inl e) = (ap (λ one. one.server.0) (sym e), inl (ap (λ one. one.slot) e))
placed_in n (s ∷ slots) at (inr h) = let k = placed_in n slots at h in (k.0, inr k.1)

-- a slot of a server among all slots, and the other way round
pub in_all_slots : (n : ℕ) (all : List Told) (i : ℕ) (told : Told) (slot : Slot) → slice_get all i ≡ Some told → In slot told.slots → In (record { server = record { 0 = n + i }; slot = slot }) (placed_from n all)
in_all_slots n [] i told slot h k = absurd (search (rules, h))
in_all_slots n (t ∷ all) zero told slot h k =
    let same : t ≡ told = cc in
    let here : In slot t.slots = subst (λ one. In slot one.slots) (sym same) k in
    let e : n + 0 ≡ n = omega arith in
    rw e (in_left (placed_at n t.slots) (placed_from (n + 1) all) (record { server = record { 0 = n }; slot = slot }) (in_placed n t.slots slot here))
in_all_slots n (t ∷ all) (suc i) told slot h k =
    let e : n + suc i ≡ n + 1 + i = omega arith in
    rw e (in_right (placed_at n t.slots) (placed_from (n + 1) all) (record { server = record { 0 = n + 1 + i }; slot = slot }) (in_all_slots (n + 1) all i told slot h k))

pub of_all_slots : (n : ℕ) (all : List Told) (at : Placed) → In at (placed_from n all) → (i : ℕ) × (told : Told) × (slice_get all i ≡ Some told) × (at.server.0 ≡ n + i) × In at.slot told.slots
of_all_slots n [] at h = absurd h
of_all_slots n (t ∷ all) at h =
    elim (in_either (placed_at n t.slots) (placed_from (n + 1) all) at h) [
      | inl k ↦ let w = placed_in n t.slots at k in let same = w.0 in (0, t, refl, omega arith, w.1)
      | inr k ↦ let w = of_all_slots (n + 1) all at k in let same = w.3 in (suc w.0, w.1, w.2, omega arith, w.4)
    ]

-- a slot that is found at a server
pub in_slots_of : (all : List Told) (to : ServerId) (slot : Slot) → In slot (slots_of all to) → In (record { server = to; slot = slot }) (placed all)
in_slots_of all to slot h = choice (to.0 == 0) refl h
  where
    within : (o : Option Told) → slice_get all (to.0 - 1) ≡ o → 1 ≤ to.0 → In slot (option_map_or (λ told. told.slots) o []) → In (record { server = to; slot = slot }) (placed all)
    within None e l k = absurd k
    within (Some told) e l k =
        let same : 1 + (to.0 - 1) ≡ to.0 = omega (arith, l) in
        subst (λ n. In (record { server = record { 0 = n }; slot = slot }) (placed all)) same (in_all_slots 1 all (to.0 - 1) told slot e k)

    choice : (b : Bool) → (to.0 == 0) ≡ b → In slot (option_map_or (λ told. told.slots) (cond b None (slice_get all (to.0 - 1))) []) → In (record { server = to; slot = slot }) (placed all)
    choice true e k = absurd k
    choice false e k = let some : 1 ≤ to.0 = grind (arith, common_steps, e) in within (slice_get all (to.0 - 1)) refl some k

-- what a fileset that has come is
pub come_at : (all : List Told) (slot : Slot) (to : ServerId) → has_come all slot to ≡ true → (other : Slot) × In (record { server = to; slot = other }) (placed all) × (other.fileset.0 ≡ slot.fileset.0) × (slot.moves < other.moves)
come_at all slot to h =
    let w = any_in (is_later slot) (slots_of all to) h in
    let later : (is_same slot w.0 && nat_lt slot.moves w.0.moves) ≡ true = w.2 in
    let more : nat_lt slot.moves w.0.moves ≡ true = and_right (is_same slot w.0) (nat_lt slot.moves w.0.moves) later in
    (w.0, in_slots_of all to w.0 w.1, equal_is w.0.fileset.0 slot.fileset.0 (and_left (is_same slot w.0) (nat_lt slot.moves w.0.moves) later), grind (arith, common_steps, more))

-- all moves together
abbrev pub moves_of : List Placed → ℕ
moves_of [] = 0
moves_of (at ∷ rest) = at.slot.moves + moves_of rest

pub moves_most : (slots : List Placed) (at : Placed) → In at slots → at.slot.moves ≤ moves_of slots
moves_most [] at h = absurd h
moves_most (s ∷ slots) at (inl e) = let same : s.slot.moves ≡ at.slot.moves = ap (λ one. one.slot.moves) e in omega arith
moves_most (s ∷ slots) at (inr h) = let k = moves_most slots at h in omega (arith, k)

-- the slot that a fileset is in, after at least as many moves
abbrev pub StandsFor : List Told → Placed → Type 0
StandsFor all at =
    (other : Placed) × In other (placed all) × (other.slot.fileset.0 ≡ at.slot.fileset.0) × (stands all other.slot ≡ true) × (at.slot.moves ≤ other.slot.moves)

pub gone_on : (all : List Told) (at : Placed) (to : ServerId) → has_come all at.slot to ≡ true
    → ((other : Placed) → In other (placed all) → at.slot.moves < other.slot.moves → StandsFor all other) → StandsFor all at
gone_on all at to h next =
    let w = come_at all at.slot to h in
    let more = w.3 in
    let v = next (record { server = to; slot = w.0 }) w.1 w.3 in
    let most = v.4 in
    (v.0, v.1, v.2 ∙ w.2, v.3, omega arith)

pub stand_or_go : (all : List Told) (at : Placed) (stay : Stay) → at.slot.stay ≡ stay → In at (placed all) → is_matched all at.server at.slot stay ≡ true
    → ((other : Placed) → In other (placed all) → at.slot.moves < other.slot.moves → StandsFor all other) → StandsFor all at
stand_or_go all at Writable e h m next = (at, h, refl, ap (stands_as all at.slot) e, omega arith)
stand_or_go all at Clone e h m next = (at, h, refl, ap (stands_as all at.slot) e, omega arith)
stand_or_go all at (Arriving from ship parts) e h m next = (at, h, refl, ap (stands_as all at.slot) e, omega arith)
stand_or_go all at (Gone to) e h m next = gone_on all at to (and_right _ _ m) next
stand_or_go all at (Leaving to ship) e h m next = choice (has_come all at.slot to) refl
  where
    choice : (b : Bool) → has_come all at.slot to ≡ b → StandsFor all at
    choice true k = gone_on all at to k next
    choice false k = (at, h, refl, ap (stands_as all at.slot) e ∙ ap not k, omega arith)

-- the tests of a slot that fits
pub fit_of : (all : List Told) (at : Placed) → misfit all ≡ None → In at (placed all) → fits all at ≡ true
fit_of all at h k = none_fails (fits all) (placed all) at h k

pub matched_of : (all : List Told) (at : Placed) → fits all at ≡ true → is_matched all at.server at.slot at.slot.stay ≡ true
matched_of all at h =
    and_right (is_given (rooms_of all) at.slot.fileset) (is_matched all at.server at.slot at.slot.stay)
    (and_left (is_given (rooms_of all) at.slot.fileset && is_matched all at.server at.slot at.slot.stay) (is_continued all at.slot)
    (and_left (is_given (rooms_of all) at.slot.fileset && is_matched all at.server at.slot at.slot.stay && is_continued all at.slot) (not (stands all at.slot && is_earlier all at.server at.slot)) h))

reach : (all : List Told) → misfit all ≡ None → (n : ℕ) (at : Placed) → In at (placed all) → moves_of (placed all) < at.slot.moves + n → StandsFor all at
reach all h zero at k l = let most = moves_most (placed all) at k in absurd (omega (arith, most, l))
reach all h (suc n) at k l =
    stand_or_go all at at.slot.stay refl k (matched_of all at (fit_of all at h k)) (λ other j m. reach all h n other j (omega (arith, l, m)))

-- each fileset is somewhere
pub stands_for : (all : List Told) → misfit all ≡ None → (at : Placed) → In at (placed all) → StandsFor all at
stands_for all h at k = reach all h (moves_of (placed all) + 1) at k (omega arith)

-- an element among the first so many
pub any_take : {X : Type 0} (p : X → Bool) (xs : List X) (i m : ℕ) (x : X) → slice_get xs i ≡ Some x → i < m → p x ≡ true → list_any p (take m xs) ≡ true
any_take p [] i m x h l k = absurd (search (rules, h))
any_take p (y ∷ ys) i zero x h l k = absurd (omega (arith, l))
any_take p (y ∷ ys) zero (suc m) x h l k = let same : y ≡ x = cc in let one : p y ≡ true = ap p same ∙ k in rw one refl
any_take p (y ∷ ys) (suc i) (suc m) x h l k =
    let rest : list_any p (take m ys) ≡ true = any_take p ys i m x h (omega (arith, l)) k in elim (p y) as (λ t. (t || list_any p (take m ys)) ≡ true) [ true ↦ refl | false ↦ rest ]

-- a fileset that is in two slots is not at an earlier server
pub not_before : (all : List Told) → misfit all ≡ None → (a b : Placed) → In a (placed all) → In b (placed all) → b.slot.fileset.0 ≡ a.slot.fileset.0 → stands all a.slot ≡ true → stands all b.slot ≡ true → b.server.0 < a.server.0 → ⊥
not_before all h a b ka kb same sa sb less =
    let w = of_all_slots 1 all b kb in
    let at = w.3 in
    let eqs : is_same a.slot b.slot ≡ true = grind (arith, common_steps, same) in
    let one : list_any (λ other. is_same a.slot other && stands all other) w.1.slots ≡ true = in_any (λ other. is_same a.slot other && stands all other) w.1.slots b.slot w.4 (and_both _ _ eqs sb) in
    let early : is_earlier all a.server a.slot ≡ true =
    any_take (λ told. list_any (λ other. is_same a.slot other && stands all other) told.slots) all w.0 (a.server.0 - 1) w.1 w.2 (omega (arith, at, less)) one in
    let both : (stands all a.slot && is_earlier all a.server a.slot) ≡ true = and_both (stands all a.slot) (is_earlier all a.server a.slot) sa early in
    let free : not (stands all a.slot && is_earlier all a.server a.slot) ≡ true =
    and_right (is_given (rooms_of all) a.slot.fileset && is_matched all a.server a.slot a.slot.stay && is_continued all a.slot) (not (stands all a.slot && is_earlier all a.server a.slot)) (fit_of all a h ka) in
    let wrong : false ≡ true = subst (λ t. not t ≡ true) both free in
    search (rules, wrong)

-- it is at one server
pub stands_once : (all : List Told) → misfit all ≡ None → (a b : Placed) → In a (placed all) → In b (placed all) → a.slot.fileset.0 ≡ b.slot.fileset.0 → stands all a.slot ≡ true → stands all b.slot ≡ true → a.server.0 ≡ b.server.0
stands_once all h a b ka kb same sa sb =
    elim (eqb_tells a.server.0 b.server.0) as (λ _. a.server.0 ≡ b.server.0) [
      | inl (e, k) ↦ k
      | inr (e, k) ↦ choice (nat_lt a.server.0 b.server.0) refl k
    ]
  where
    choice : (t : Bool) → nat_lt a.server.0 b.server.0 ≡ t → (a.server.0 ≡ b.server.0 → ⊥) → a.server.0 ≡ b.server.0
    choice true e k = absurd (not_before all h b a kb ka same sb sa (grind (arith, common_steps, e)))
    choice false e k = let less : b.server.0 < a.server.0 = grind (arith, common_steps, e, k) in absurd (not_before all h a b ka kb (sym same) sa sb less)

pub filesets_are_once : FilesetsAreOnce
filesets_are_once all h = record {
  some = λ at k.
      let w = stands_for all h at (contains_in (placed all) at k) in
      (w.0, in_contains (placed all) w.0 w.1, ap (λ n. record { 0 = n }) w.2, w.3, w.4);
  one = λ a b ka kb same sa sb.
      ap (λ n. record { 0 = n }) (stands_once all h a b (contains_in (placed all) a ka) (contains_in (placed all) b kb) (ap (λ id. id.0) same) sa sb);
}
