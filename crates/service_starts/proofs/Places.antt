-- Slots of all servers: each two are apart, and what they count for.
use Rattle.std.proofs.Common.{◌≡◌, ◌≢◌, ℕ, zero, suc, ◌+◌, ◌<◌, ◌≤◌, ◌==◌, nat_lt, Bool, true, false, ◌&&◌, ◌||◌, not, cond, List, [], ◌∷◌, ◌++◌, Some, None, refl, sym, ap, ◌∙◌, subst, arith, inl, inr, rules}
use Rattle.std.specs.Prelude.{slice_get}
use Rattle.std.specs.List.{list_all}
use Rattle.std.proofs.lemmas.Bool.Decides.{eqb_tells}
use Rattle.std.proofs.lemmas.Grind.{common_steps}
use Rattle.base_types.specs.declared.ids.ServerId.{ServerId}
use Rattle.store_memory.specs.declared.told.Slot.{Slot}
use Rattle.tree_answers.proofs.Totals.{total}
use Rattle.store_state.specs.declared.state.StoreState.{StoreState}
use Rattle.service_starts.proofs.Standing.{In, placed_in, of_all_slots, stands_for, come_at, fit_of, in_all}
use Rattle.service_starts.proofs.Tests.{and_left, and_right, and_both}
use Rattle.service_starts.specs.Fitting.{fits, misfit, is_still, is_continued, is_matched, is_earlier}
use Rattle.service_starts.specs.Told.{Placed, placed, placed_at, placed_from, stands, stands_as, is_same, is_later, has_come, rooms_of}
use Rattle.service_starts.specs.declared.told.Told.{Told}
use Rattle.store_state.specs.declared.state.Stay.{Stay}
use Rattle.store_state.specs.declared.state.Stay.TheVariants.{Writable, Clone, Leaving, Arriving, Gone}
use Rattle.tree_answers.specs.WellFormed.{is_given}
use Rattle.service_starts.proofs.Puts.{Pairs, pairs_both, pairs_case}
use Rattle.service_starts.proofs.Slots.{TwoSlots, slots_apart}
use Rattle.service_starts.specs.Starts.{IsToldOf, AreTold}

-- two slots of one server are of two filesets with two names
abbrev pub PlacedApart : Placed → Placed → Type 0
PlacedApart a b = a.server.0 ≡ b.server.0 → TwoSlots a.slot b.slot

pairs_at : (n : ℕ) (slots : List Slot) → Pairs TwoSlots slots → Pairs PlacedApart (placed_at n slots)
pairs_at n [] p = tt
pairs_at n (slot ∷ slots) p = ((λ at h same. let w = placed_in n slots at h in p.0 at.slot w.1), pairs_at n slots p.1)

pairs_from : (n : ℕ) (those : List Told) → ((place : ℕ) (told : Told) → slice_get those place ≡ Some told → (state : StoreState) × IsToldOf (n + place) state told) → Pairs PlacedApart (placed_from n those)
pairs_from n [] h = tt
pairs_from n (told ∷ rest) h =
    let here = h 0 told refl in
    let state = here.0 in
    let own : Pairs TwoSlots told.slots = subst (λ slots. Pairs TwoSlots slots) (sym here.1.slots) (slots_apart 0 state.slots here.1.storable.apart) in
    let others : Pairs PlacedApart (placed_from (n + 1) rest) =
    pairs_from (n + 1) rest (λ place other e. let e' : n + suc place ≡ n + 1 + place = omega arith in let w = h (suc place) other e in (w.0, subst (λ m. IsToldOf m w.0 other) e' w.1)) in
    pairs_both PlacedApart (placed_at n told.slots) (placed_from (n + 1) rest) (pairs_at n told.slots own) others
    (λ a b ia ib same. let x = placed_in n told.slots a ia in let y = of_all_slots (n + 1) rest b ib in let p = x.0 in let q = y.3 in absurd (omega (arith, p, q, same)))

pub all_apart : (all : List Told) → AreTold all → Pairs PlacedApart (placed all)
all_apart all h = pairs_from 1 all (λ place told e. let w = h place told e in let same : place + 1 ≡ 1 + place = omega arith in (w.0, subst (λ m. IsToldOf m w.0 told) same w.1))

-- a server has one slot of a fileset
pub same_place : (all : List Told) → AreTold all → (a b : Placed) → In a (placed all) → In b (placed all) → a.server.0 ≡ b.server.0 → a.slot.fileset.0 ≡ b.slot.fileset.0 → a ≡ b
same_place all h a b ia ib server id =
    elim (pairs_case PlacedApart (placed all) (all_apart all h) a b ia ib) [
      | inl e ↦ e
      | inr (inl k) ↦ absurd ((k server).ids id)
      | inr (inr k) ↦ absurd ((k (sym server)).ids (sym id))
    ]

-- where a fileset is that isn't in a slot of it
abbrev pub GoesOn : List Told → Placed → Type 0
GoesOn all at = (other : Placed) × In other (placed all) × (other.slot.fileset.0 ≡ at.slot.fileset.0) × (stands all other.slot ≡ true) × (at.slot.moves < other.slot.moves)

come_on : (all : List Told) → misfit all ≡ None → (at : Placed) (to : ServerId) → has_come all at.slot to ≡ true → GoesOn all at
come_on all f at to h =
    let w = come_at all at.slot to h in
    let v = stands_for all f (record { server = to; slot = w.0 }) w.1 in
    let more = w.3 in
    let most = v.4 in
    (v.0, v.1, v.2 ∙ w.2, v.3, omega arith)

not_so : (b : Bool) → not b ≡ false → b ≡ true
not_so true h = refl
not_so false h = absurd (search (rules, h))

pub matched_at : (all : List Told) (at : Placed) → fits all at ≡ true → is_matched all at.server at.slot at.slot.stay ≡ true
matched_at all at h =
    and_right (is_given (rooms_of all) at.slot.fileset) (is_matched all at.server at.slot at.slot.stay)
    (and_left (is_given (rooms_of all) at.slot.fileset && is_matched all at.server at.slot at.slot.stay) (is_continued all at.slot)
    (and_left (is_given (rooms_of all) at.slot.fileset && is_matched all at.server at.slot at.slot.stay && is_continued all at.slot) (not (stands all at.slot && is_earlier all at.server at.slot)) h))

pub given_at : (all : List Told) (at : Placed) → fits all at ≡ true → is_given (rooms_of all) at.slot.fileset ≡ true
given_at all at h =
    and_left (is_given (rooms_of all) at.slot.fileset) (is_matched all at.server at.slot at.slot.stay)
    (and_left (is_given (rooms_of all) at.slot.fileset && is_matched all at.server at.slot at.slot.stay) (is_continued all at.slot)
    (and_left (is_given (rooms_of all) at.slot.fileset && is_matched all at.server at.slot at.slot.stay && is_continued all at.slot) (not (stands all at.slot && is_earlier all at.server at.slot)) h))

pub continued_at : (all : List Told) (at : Placed) → fits all at ≡ true → is_continued all at.slot ≡ true
continued_at all at h =
    and_right (is_given (rooms_of all) at.slot.fileset && is_matched all at.server at.slot at.slot.stay) (is_continued all at.slot)
    (and_left (is_given (rooms_of all) at.slot.fileset && is_matched all at.server at.slot at.slot.stay && is_continued all at.slot) (not (stands all at.slot && is_earlier all at.server at.slot)) h)

goes_on_as : (all : List Told) → misfit all ≡ None → (at : Placed) (stay : Stay) → at.slot.stay ≡ stay → is_matched all at.server at.slot stay ≡ true → stands_as all at.slot stay ≡ false → GoesOn all at
goes_on_as all f at Writable e m h = absurd (search (rules, h))
goes_on_as all f at Clone e m h = absurd (search (rules, h))
goes_on_as all f at (Leaving to ship) e m h = come_on all f at to (not_so (has_come all at.slot to) h)
goes_on_as all f at (Arriving from ship parts) e m h = absurd (search (rules, h))
goes_on_as all f at (Gone to) e m h = come_on all f at to (and_right _ (has_come all at.slot to) m)

pub goes_on : (all : List Told) → misfit all ≡ None → (at : Placed) → In at (placed all) → stands all at.slot ≡ false → GoesOn all at
goes_on all f at i h = goes_on_as all f at at.slot.stay refl (matched_at all at (fit_of all at f i)) h

-- a place in a list
pub get_in : {X : Type 0} (xs : List X) (i : ℕ) (x : X) → slice_get xs i ≡ Some x → In x xs
get_in [] i x h = absurd (search (rules, h))
get_in (y ∷ ys) zero x h = let same : y ≡ x = cc in inl same
get_in (y ∷ ys) (suc i) x h = inr (get_in ys i x h)

-- what a fileset that went on has of the slot that it left
pub still : (all : List Told) → misfit all ≡ None → (at other : Placed) → In at (placed all) → In other (placed all) → other.slot.fileset.0 ≡ at.slot.fileset.0 → stands all other.slot ≡ true → at.slot.moves < other.slot.moves
    → is_still at.slot other.slot at.slot.stay ≡ true
still all f at other ia io id s more =
    let w = of_all_slots 1 all other io in
    let test : Slot → Bool = λ one. not (is_later at.slot one && stands all one) || is_still at.slot one at.slot.stay in
    let those : list_all test w.1.slots ≡ true =
    in_all (λ told. list_all (λ one. not (is_later at.slot one && stands all one) || is_still at.slot one at.slot.stay) told.slots) all w.1 (get_in all w.0 w.1 w.2) (continued_at all at (fit_of all at f ia)) in
    let it : test other.slot ≡ true = in_all test w.1.slots other.slot w.4 those in
    let same : is_same at.slot other.slot ≡ true = grind (arith, common_steps, id) in
    let less : nat_lt at.slot.moves other.slot.moves ≡ true = grind (arith, common_steps, more) in
    let later : (is_later at.slot other.slot && stands all other.slot) ≡ true = and_both (is_later at.slot other.slot) (stands all other.slot) (and_both (is_same at.slot other.slot) (nat_lt at.slot.moves other.slot.moves) same less) s in
    subst (λ t. (not t || is_still at.slot other.slot at.slot.stay) ≡ true) later it

-- what lists count for together
total_append : {X : Type 0} (f : X → ℕ) (xs ys : List X) → total f (xs ++ ys) ≡ total f xs + total f ys
total_append f [] ys = omega arith
total_append f (x ∷ xs) ys = let rest = total_append f xs ys in omega (arith, rest)

none_here : (w : Placed → ℕ) (server n : ℕ) (slots : List Slot) → n ≢ server → total (λ at. cond (at.server.0 == server) (w at) 0) (placed_at n slots) ≡ 0
none_here w server n [] h = refl
none_here w server n (slot ∷ slots) h = let e : (n == server) ≡ false = grind (arith, common_steps, h) in let rest = none_here w server n slots h in rw e (omega (arith, rest))

all_here : (w : Placed → ℕ) (server : ℕ) (slots : List Slot) → total (λ at. cond (at.server.0 == server) (w at) 0) (placed_at server slots) ≡ total w (placed_at server slots)
all_here w server [] = refl
all_here w server (slot ∷ slots) = let s : ℕ = server in let e : (s == s) ≡ true = grind (arith, common_steps) in let rest = all_here w server slots in rw e (omega (arith, rest))

none_later : (w : Placed → ℕ) (server n : ℕ) (those : List Told) → server < n → total (λ at. cond (at.server.0 == server) (w at) 0) (placed_from n those) ≡ 0
none_later w server n [] h = refl
none_later w server n (told ∷ rest) h =
    let f : Placed → ℕ = λ at. cond (at.server.0 == server) (w at) 0 in
    let here = none_here w server n told.slots (λ e. absurd (omega (arith, e, h))) in
    let others = none_later w server (n + 1) rest (omega (arith, h)) in
    total_append f (placed_at n told.slots) (placed_from (n + 1) rest) ∙ omega (arith, here, others)

-- what the slots of one server count for
pub server_total : (w : Placed → ℕ) (server bound n : ℕ) (those : List Told) → ((place : ℕ) (told : Told) → slice_get those place ≡ Some told → n + place ≡ server → total w (placed_at server told.slots) ≤ bound)
    → total (λ at. cond (at.server.0 == server) (w at) 0) (placed_from n those) ≤ bound
server_total w server bound n [] h = omega arith
server_total w server bound n (told ∷ rest) h =
    let f : Placed → ℕ = λ at. cond (at.server.0 == server) (w at) 0 in
    let sum = total_append f (placed_at n told.slots) (placed_from (n + 1) rest) in
    elim (eqb_tells n server) as (λ _. total f (placed_from n (told ∷ rest)) ≤ bound) [
      | inl (e, k) ↦
          let mine : total w (placed_at server told.slots) ≤ bound = h 0 told refl (omega (arith, k)) in
          let own : total f (placed_at n told.slots) ≡ total w (placed_at server told.slots) = ap (λ m. total f (placed_at m told.slots)) k ∙ all_here w server told.slots in
          let none = none_later w server (n + 1) rest (omega (arith, k)) in
          omega (arith, sum, own, none, mine)
      | inr (e, k) ↦
          let none = none_here w server n told.slots k in
          let others = server_total w server bound (n + 1) rest (λ place other g s. h (suc place) other g (omega (arith, s))) in
          omega (arith, sum, none, others)
    ]
