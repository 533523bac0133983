-- What a store tells once it has settled what it had to.
use Rattle.std.proofs.Common.{◌≡◌, ◌≢◌, ℕ, zero, suc, ◌+◌, ◌==◌, ◌<◌, Bool, true, false, ◌||◌, cond, List, [], ◌∷◌, ◌++◌, Some, refl, sym, ap, ◌∙◌, subst, arith, inl, inr, rules}
use Rattle.std.specs.Prelude.{if◌then◌else◌, map, filter, slice_get}
use Rattle.std.specs.List.{list_any}
use Rattle.std.proofs.lemmas.Grind.{common_steps}
use Rattle.std.proofs.lemmas.List.{map-append}
use Rattle.std.proofs.lemmas.List.Elements.{filter-append}
use Rattle.base_types.specs.declared.ids.FilesetId.{FilesetId}
use Rattle.store_memory.specs.declared.told.Slot.{Slot}
use Rattle.tree_answers.proofs.Places.{equal_is}
use Rattle.service_starts.proofs.Placing.{settlings_both}
use Rattle.service_starts.proofs.Standing.{In, in_any, any_in}
use Rattle.service_starts.specs.Fitting.{is_open, settlings_in}
use Rattle.service_starts.specs.Settled.{slot_after, told_after}
use Rattle.service_starts.specs.Told.{Placed, placed_at, placed_from}
use Rattle.service_starts.specs.declared.fitting.Settling.{Settling}
use Rattle.service_starts.specs.declared.told.Told.{Told}
use Rattle.service_starts.proofs.Puts.{Pairs, pairs_case}
use Rattle.service_starts.proofs.Slots.{TwoSlots, slots_apart}
use Rattle.service_starts.proofs.Turned.{turn, told_once}
use Rattle.service_starts.specs.Settles.{acts_at, StoresSettle}
use Rattle.service_starts.specs.Starts.{IsToldOf}
use Rattle.store_acts.specs.Acts.{act_done, state_after}
use Rattle.store_acts.specs.Moving.{stay_settled}
use Rattle.store_acts.specs.declared.act.Act.{Act}
use Rattle.store_acts.specs.declared.act.Act.TheVariants.{Settle}
use Rattle.store_state.specs.declared.state.Stay.{Stay}
use Rattle.store_state.specs.declared.state.Stay.TheVariants.{Writable, Clone, Leaving, Arriving, Gone}
use Rattle.store_state.specs.declared.state.StoreState.{StoreState}

-- the acts on filesets
abbrev settles : List FilesetId → List Act
settles ids = map (λ id. Settle id) ids

-- what becomes of a slot by them
abbrev turns : List FilesetId → Slot → Slot
turns [] slot = slot
turns (id ∷ ids) slot = turns ids (turn id slot)

map_map : {X : Type 0} (f g : X → X) (xs : List X) → map f (map g xs) ≡ map (λ x. f (g x)) xs
map_map f g [] = refl
map_map f g (x ∷ xs) = ap (λ ys. f (g x) ∷ ys) (map_map f g xs)

map_none : {X : Type 0} (xs : List X) → map (λ (x : X). x) xs ≡ xs
map_none [] = refl
map_none (x ∷ xs) = ap (λ ys. x ∷ ys) (map_none xs)

told_all : (server : ℕ) (ids : List FilesetId) (state : StoreState) (told : Told) → IsToldOf server state told → IsToldOf server (state_after state (settles ids)) (record told { slots = map (turns ids) told.slots })
told_all server [] state told h = subst (λ slots. IsToldOf server state (record told { slots = slots })) (sym (map_none told.slots)) h
told_all server (id ∷ ids) state told h =
    let rest = told_all server ids (act_done state (Settle id)).state (record told { slots = map (turn id) told.slots }) (told_once server state told id h) in
    subst (λ slots. IsToldOf server (state_after (act_done state (Settle id)).state (settles ids)) (record told { slots = slots })) (map_map (turns ids) (turn id) told.slots) rest

twice : (stay : Stay) → stay_settled (stay_settled stay) ≡ stay_settled stay
twice Writable = refl
twice Clone = refl
twice (Leaving to ship) = refl
twice (Arriving from ship parts) = refl
twice (Gone to) = refl

-- a slot is turned where its fileset is among them
turned_by : (ids : List FilesetId) (slot : Slot) → turns ids slot ≡ record slot { stay = if list_any (λ id. slot.fileset.0 == id.0) ids then stay_settled slot.stay else slot.stay }
turned_by [] slot = refl
turned_by (id ∷ ids) slot = turned_by ids (turn id slot) ∙ ap (λ stay. record slot { stay = stay }) (choice (slot.fileset.0 == id.0) (list_any (λ other. slot.fileset.0 == other.0) ids))
  where
    choice : (b c : Bool) → (if c then stay_settled (if b then stay_settled slot.stay else slot.stay) else (if b then stay_settled slot.stay else slot.stay)) ≡ (if b || c then stay_settled slot.stay else slot.stay)
    choice true true = twice slot.stay
    choice true false = refl
    choice false true = refl
    choice false false = refl

-- those that are to be settled
in_filter : {X : Type 0} (p : X → Bool) (xs : List X) (x : X) → In x xs → p x ≡ true → In x (filter p xs)
in_filter p [] x i e = absurd i
in_filter p (y ∷ ys) x (inl s) e = let t : p y ≡ true = ap p s ∙ e in rw t (inl s)
in_filter p (y ∷ ys) x (inr i) e = let rest = in_filter p ys x i e in elim (p y) as (λ b. In x (cond b (y ∷ filter p ys) (filter p ys))) [ true ↦ inr rest | false ↦ rest ]

filter_in : {X : Type 0} (p : X → Bool) (xs : List X) (x : X) → In x (filter p xs) → In x xs × (p x ≡ true)
filter_in p [] x i = absurd i
filter_in p (y ∷ ys) x i = choice (p y) refl i (λ k. filter_in p ys x k)
  where
    choice : (b : Bool) → p y ≡ b → In x (cond b (y ∷ filter p ys) (filter p ys)) → (In x (filter p ys) → In x ys × (p x ≡ true)) → In x (y ∷ ys) × (p x ≡ true)
    choice true e (inl s) rest = (inl s, sym (ap p s) ∙ e)
    choice true e (inr k) rest = let w = rest k in (inr w.0, w.1)
    choice false e k rest = let w = rest k in (inr w.0, w.1)

in_ids : (slots : List Slot) (slot : Slot) → In slot slots → In slot.fileset (map (λ (one : Slot). one.fileset) slots)
in_ids [] slot i = absurd i
in_ids (y ∷ ys) slot (inl s) = inl (ap (λ one. one.fileset) s)
in_ids (y ∷ ys) slot (inr i) = inr (in_ids ys slot i)

ids_in : (slots : List Slot) (id : FilesetId) → In id (map (λ (one : Slot). one.fileset) slots) → (slot : Slot) × In slot slots × (slot.fileset ≡ id)
ids_in [] id i = absurd i
ids_in (y ∷ ys) id (inl s) = (y, inl refl, s)
ids_in (y ∷ ys) id (inr i) = let w = ids_in ys id i in (w.0, inr w.1, w.2)

abbrev open_ids : List Told → List Slot → List FilesetId
open_ids all slots = map (λ (slot : Slot). slot.fileset) (filter (is_open all) slots)

among : (all : List Told) (slots : List Slot) (slot : Slot) → Pairs TwoSlots slots → In slot slots → list_any (λ (id : FilesetId). slot.fileset.0 == id.0) (open_ids all slots) ≡ is_open all slot
among all slots slot p i = choice (is_open all slot) refl (list_any (λ (id : FilesetId). slot.fileset.0 == id.0) (open_ids all slots)) refl
  where
    choice : (b : Bool) → is_open all slot ≡ b → (c : Bool) → list_any (λ (id : FilesetId). slot.fileset.0 == id.0) (open_ids all slots) ≡ c → c ≡ b
    choice true e c k =
        let n : ℕ = slot.fileset.0 in
        let own : (n == n) ≡ true = grind (arith, common_steps) in
        sym k ∙ in_any (λ (id : FilesetId). slot.fileset.0 == id.0) (open_ids all slots) slot.fileset (in_ids (filter (is_open all) slots) slot (in_filter (is_open all) slots slot i e)) own
    choice false e true k =
        let w = any_in (λ (id : FilesetId). slot.fileset.0 == id.0) (open_ids all slots) k in
        let v = ids_in (filter (is_open all) slots) w.0 w.1 in
        let u = filter_in (is_open all) slots v.0 v.1 in
        let same : slot.fileset.0 ≡ v.0.fileset.0 = equal_is slot.fileset.0 w.0.0 w.2 ∙ sym (ap (λ id. id.0) v.2) in
        elim (pairs_case TwoSlots slots p slot v.0 i u.0) [
          | inl s ↦ (let wrong : false ≡ true = sym e ∙ ap (is_open all) s ∙ u.1 in search (rules, wrong))
          | inr (inl two) ↦ absurd (two.ids same)
          | inr (inr two) ↦ absurd (two.ids (sym same))
        ]
    choice false e false k = refl

map_same : {X : Type 0} {Y : Type 0} (f g : X → Y) (xs : List X) → ((x : X) → In x xs → f x ≡ g x) → map f xs ≡ map g xs
map_same f g [] h = refl
map_same f g (x ∷ xs) h = let one = h x (inl refl) in let rest = map_same f g xs (λ y i. h y (inr i)) in rw (one, rest) refl

-- a server's acts
pub acts_both : (server : ℕ) (xs ys : List Settling) → acts_at server (xs ++ ys) ≡ acts_at server xs ++ acts_at server ys
acts_both server xs ys =
    ap (λ zs. map (λ (one : Settling). Settle one.fileset) zs) (filter-append (λ (one : Settling). one.server.0 == server) xs ys)
    ∙ map-append (λ (one : Settling). Settle one.fileset) (filter (λ one. one.server.0 == server) xs) (filter (λ one. one.server.0 == server) ys)

acts_own : (all : List Told) (server : ℕ) (slots : List Slot) → acts_at server (settlings_in all (placed_at server slots)) ≡ settles (open_ids all slots)
acts_own all server [] = refl
acts_own all server (slot ∷ slots) = choice (is_open all slot) (acts_own all server slots)
  where
    choice : (b : Bool) → acts_at server (settlings_in all (placed_at server slots)) ≡ settles (open_ids all slots)
        → acts_at server (map (λ (at : Placed). record { server = at.server; fileset = at.slot.fileset }) (cond b (record { server = record { 0 = server }; slot = slot } ∷ filter (λ (at : Placed). is_open all at.slot) (placed_at server slots)) (filter (λ (at : Placed). is_open all at.slot) (placed_at server slots))))
        ≡ settles (map (λ (one : Slot). one.fileset) (cond b (slot ∷ filter (is_open all) slots) (filter (is_open all) slots)))
    choice true rest = let n : ℕ = server in let own : (n == n) ≡ true = grind (arith, common_steps) in rw own (ap (λ acts. Settle slot.fileset ∷ acts) rest)
    choice false rest = rest

acts_other : (all : List Told) (server n : ℕ) (slots : List Slot) → n ≢ server → acts_at server (settlings_in all (placed_at n slots)) ≡ []
acts_other all server n [] h = refl
acts_other all server n (slot ∷ slots) h = choice (is_open all slot) (acts_other all server n slots h)
  where
    choice : (b : Bool) → acts_at server (settlings_in all (placed_at n slots)) ≡ []
        → acts_at server (map (λ (at : Placed). record { server = at.server; fileset = at.slot.fileset }) (cond b (record { server = record { 0 = n }; slot = slot } ∷ filter (λ (at : Placed). is_open all at.slot) (placed_at n slots)) (filter (λ (at : Placed). is_open all at.slot) (placed_at n slots)))) ≡ []
    choice true rest = let other : (n == server) ≡ false = grind (arith, common_steps, h) in rw other rest
    choice false rest = rest

acts_later : (all : List Told) (server n : ℕ) (those : List Told) → server < n → acts_at server (settlings_in all (placed_from n those)) ≡ []
acts_later all server n [] h = refl
acts_later all server n (told ∷ those) h =
    let one = acts_other all server n told.slots (λ e. absurd (omega (arith, e, h))) in
    let rest = acts_later all server (n + 1) those (omega (arith, h)) in
    ap (acts_at server) (settlings_both all (placed_at n told.slots) (placed_from (n + 1) those)) ∙ acts_both server (settlings_in all (placed_at n told.slots)) (settlings_in all (placed_from (n + 1) those)) ∙ rw (one, rest) refl

pub append_none : {X : Type 0} (xs : List X) → xs ++ [] ≡ xs
append_none [] = refl
append_none (x ∷ xs) = ap (λ ys. x ∷ ys) (append_none xs)

acts_of : (all : List Told) (server n place : ℕ) (those : List Told) (told : Told) → slice_get those place ≡ Some told → n + place ≡ server → acts_at server (settlings_in all (placed_from n those)) ≡ settles (open_ids all told.slots)
acts_of all server n place [] told e s = absurd (search (rules, e))
acts_of all server n zero (first ∷ those) told e s =
    let same : first ≡ told = cc in
    let here : n ≡ server = omega (arith, s) in
    let later = acts_later all server (n + 1) those (omega (arith, here)) in
    ap (acts_at server) (settlings_both all (placed_at n first.slots) (placed_from (n + 1) those)) ∙ acts_both server (settlings_in all (placed_at n first.slots)) (settlings_in all (placed_from (n + 1) those))
    ∙ ap (λ acts. acts_at server (settlings_in all (placed_at n first.slots)) ++ acts) later ∙ append_none (acts_at server (settlings_in all (placed_at n first.slots)))
    ∙ ap (λ m. acts_at server (settlings_in all (placed_at m first.slots))) here ∙ acts_own all server first.slots ∙ ap (λ one. settles (open_ids all one.slots)) same
acts_of all server n (suc place) (first ∷ those) told e s =
    let none = acts_other all server n first.slots (λ k. absurd (omega (arith, k, s))) in
    ap (acts_at server) (settlings_both all (placed_at n first.slots) (placed_from (n + 1) those)) ∙ acts_both server (settlings_in all (placed_at n first.slots)) (settlings_in all (placed_from (n + 1) those))
    ∙ ap (λ acts. acts ++ acts_at server (settlings_in all (placed_from (n + 1) those))) none ∙ acts_of all server (n + 1) place those told e (omega (arith, s))

pub stores_settle : StoresSettle
stores_settle all place told state e h =
    let acts = acts_of all (place + 1) 1 place all told e (omega arith) in
    let pairs : Pairs TwoSlots told.slots = subst (λ slots. Pairs TwoSlots slots) (sym h.slots) (slots_apart 0 state.slots h.storable.apart) in
    let slots : map (turns (open_ids all told.slots)) told.slots ≡ map (slot_after all) told.slots =
    map_same (turns (open_ids all told.slots)) (slot_after all) told.slots (λ slot i.
    turned_by (open_ids all told.slots) slot ∙ ap (λ b. record slot { stay = if b then stay_settled slot.stay else slot.stay }) (among all told.slots slot pairs i)) in
    let many = told_all (place + 1) (open_ids all told.slots) state told h in
    let same = subst (λ those. IsToldOf (place + 1) (state_after state (settles (open_ids all told.slots))) (record told { slots = those })) slots many in
    subst (λ list. IsToldOf (place + 1) (state_after state list) (told_after all told)) (sym acts) same
