-- What is told once the unfinished moves are settled.
use Rattle.std.proofs.Common.{◌≡◌, ℕ, zero, suc, ◌+◌, ◌-◌, ◌==◌, nat_lt, Bool, true, false, ◌&&◌, ◌||◌, not, cond, List, [], ◌∷◌, take, Option, Some, None, refl, sym, ap, ◌∙◌, subst, arith, inl, inr, rules}
use Rattle.std.specs.Prelude.{slice_get, if◌then◌else◌, map, filter, fold}
use Rattle.std.specs.List.{find, list_any, list_all, filter_map}
use Rattle.std.specs.Option.{option_map, option_map_or}
use Rattle.std.proofs.lemmas.Grind.{common_steps}
use Rattle.std.proofs.lemmas.List.{map-append, take-map}
use Rattle.base_types.specs.Name.{same_name}
use Rattle.base_types.specs.declared.ids.ServerId.{ServerId}
use Rattle.tree_filesets.specs.declared.fileset.Fileset.{Fileset}
use Rattle.store_memory.specs.declared.told.Slot.{Slot}
use Rattle.tree_answers.proofs.Places.{equal_is}
use Rattle.tree_answers.specs.Away.{with_away}
use Rattle.tree_answers.specs.Finding.{has_id}
use Rattle.tree_answers.specs.WellFormed.{is_given}
use Rattle.tree_answers.specs.declared.tree.ServerRoom.{ServerRoom}
use Rattle.store_acts.specs.Moving.{is_unsettled, stay_settled}
use Rattle.store_state.specs.declared.state.Stay.{Stay}
use Rattle.store_state.specs.declared.state.Stay.TheVariants.{Writable, Clone, Leaving, Arriving, Gone}
use Rattle.service_starts.proofs.Standing.{In, in_any, any_in, fit_of, of_all_slots}
use Rattle.service_starts.proofs.Tests.{and_left, and_right, and_both}
use Rattle.service_starts.specs.Fitting.{has_disk, is_shipped, is_sender, is_matched, is_clone, is_still, is_still_in, is_continued, is_earlier, fits, misfit, is_open, settlings_in}
use Rattle.service_starts.specs.Laws.{SettlesOnce}
use Rattle.service_starts.specs.Settled.{stay_after, slot_after, told_after, settled}
use Rattle.service_starts.specs.Starting.{kept_by, keeper_of, fileset_of, fileset_in, away_of, away_in, with_one, start_of}
use Rattle.service_starts.specs.Told.{told_of, slots_of, Placed, placed_at, placed_from, placed, rooms_of, is_same, is_later, has_come, stands_as, stands}
use Rattle.service_starts.specs.declared.told.Told.{Told}

-- tests of lists whose elements are changed
any_map : {X : Type 0} {Y : Type 0} (p : Y → Bool) (g : X → Y) (xs : List X) → list_any p (map g xs) ≡ list_any (λ x. p (g x)) xs
any_map p g [] = refl
any_map p g (x ∷ xs) = ap (λ b. p (g x) || b) (any_map p g xs)

all_map : {X : Type 0} {Y : Type 0} (p : Y → Bool) (g : X → Y) (xs : List X) → list_all p (map g xs) ≡ list_all (λ x. p (g x)) xs
all_map p g [] = refl
all_map p g (x ∷ xs) = ap (λ b. p (g x) && b) (all_map p g xs)

any_same : {X : Type 0} (p q : X → Bool) → ((x : X) → p x ≡ q x) → (xs : List X) → list_any p xs ≡ list_any q xs
any_same p q h [] = refl
any_same p q h (x ∷ xs) = let one = h x in let rest = any_same p q h xs in rw (one, rest) refl

all_more : {X : Type 0} (p q : X → Bool) (xs : List X) → ((x : X) → In x xs → p x ≡ true → q x ≡ true) → list_all p xs ≡ true → list_all q xs ≡ true
all_more p q [] h k = refl
all_more p q (x ∷ xs) h k = and_both (q x) (list_all q xs) (h x (inl refl) (and_left (p x) (list_all p xs) k)) (all_more p q xs (λ y i. h y (inr i)) (and_right (p x) (list_all p xs) k))

get_map : {X : Type 0} {Y : Type 0} (g : X → Y) (xs : List X) (i : ℕ) → slice_get (map g xs) i ≡ option_map g (slice_get xs i)
get_map g [] i = refl
get_map g (x ∷ xs) zero = refl
get_map g (x ∷ xs) (suc i) = get_map g xs i

-- what is told of a server
told_same : (all : List Told) (server : ServerId) → told_of (settled all) server ≡ option_map (told_after all) (told_of all server)
told_same all server = choice (server.0 == 0)
  where
    choice : (b : Bool) → cond b None (slice_get (settled all) (server.0 - 1)) ≡ option_map (told_after all) (cond b None (slice_get all (server.0 - 1)))
    choice true = refl
    choice false = get_map (told_after all) all (server.0 - 1)

slots_same : (all : List Told) (server : ServerId) → slots_of (settled all) server ≡ map (slot_after all) (slots_of all server)
slots_same all server = ap (λ o. option_map_or (λ told. told.slots) o []) (told_same all server) ∙ choice (told_of all server)
  where
    choice : (o : Option Told) → option_map_or (λ told. told.slots) (option_map (told_after all) o) [] ≡ map (slot_after all) (option_map_or (λ told. told.slots) o [])
    choice None = refl
    choice (Some told) = refl

kept_same : (all : List Told) (server : ServerId) → kept_by (settled all) server ≡ kept_by all server
kept_same all server = ap (λ o. option_map_or (λ told. told.kept.filesets) o []) (told_same all server) ∙ choice (told_of all server)
  where
    choice : (o : Option Told) → option_map_or (λ told. told.kept.filesets) (option_map (told_after all) o) [] ≡ option_map_or (λ told. told.kept.filesets) o []
    choice None = refl
    choice (Some told) = refl

disk_same : (all : List Told) (server : ServerId) → has_disk (settled all) server ≡ has_disk all server
disk_same all server = ap (λ o. option_map_or (λ told. told.on_disk) o false) (told_same all server) ∙ choice (told_of all server)
  where
    choice : (o : Option Told) → option_map_or (λ told. told.on_disk) (option_map (told_after all) o) false ≡ option_map_or (λ told. told.on_disk) o false
    choice None = refl
    choice (Some told) = refl

rooms_same : (all those : List Told) → rooms_of (map (told_after all) those) ≡ rooms_of those
rooms_same all [] = refl
rooms_same all (told ∷ those) = ap (λ rest. let room : ServerRoom = record { capacity = told.kept.capacity; next = told.kept.next } in room ∷ rest) (rooms_same all those)

-- where a fileset has come
come_same : (all : List Told) (slot : Slot) (to : ServerId) → has_come (settled all) slot to ≡ has_come all slot to
come_same all slot to = ap (list_any (is_later slot)) (slots_same all to) ∙ any_map (is_later slot) (slot_after all) (slots_of all to)

-- where it is
stands_after : (all : List Told) (slot : Slot) (stay : Stay) → stands_as (settled all) (slot_after all slot) (stay_after all slot stay) ≡ stands_as all slot stay
stands_after all slot Writable = refl
stands_after all slot Clone = refl
stands_after all slot (Leaving to ship) = choice (has_come all slot to) refl
  where
    choice : (b : Bool) → has_come all slot to ≡ b → stands_as (settled all) (slot_after all slot) (if not b then Writable else Leaving to ship) ≡ not b
    choice true e = ap not (come_same all (slot_after all slot) to ∙ e)
    choice false e = refl
stands_after all slot (Arriving from ship parts) = elim (parts == 1) as (λ b. stands_as (settled all) (slot_after all slot) (if not b && true then Arriving from ship 1 else Arriving from ship parts) ≡ true) [ true ↦ refl | false ↦ refl ]
stands_after all slot (Gone to) = refl

stands_same : (all : List Told) (slot : Slot) → stands (settled all) (slot_after all slot) ≡ stands all slot
stands_same all slot = stands_after all slot slot.stay

clone_same : (all : List Told) (slot : Slot) (stay : Stay) → is_clone (stay_after all slot stay) ≡ is_clone stay
clone_same all slot Writable = refl
clone_same all slot Clone = refl
clone_same all slot (Leaving to ship) = elim (has_come all slot to) as (λ b. is_clone (if not b then Writable else Leaving to ship) ≡ false) [ true ↦ refl | false ↦ refl ]
clone_same all slot (Arriving from ship parts) = elim (parts == 1) as (λ b. is_clone (if not b && true then Arriving from ship 1 else Arriving from ship parts) ≡ false) [ true ↦ refl | false ↦ refl ]
clone_same all slot (Gone to) = refl

-- what isn't in a slot stays so
out_same : (all : List Told) (slot : Slot) (stay : Stay) → stands_as all slot stay ≡ false → stay_after all slot stay ≡ stay
out_same all slot stay h = ap (λ b. if is_unsettled stay && b then stay_settled stay else stay) h ∙ (elim (is_unsettled stay) as (λ b. (if b && false then stay_settled stay else stay) ≡ stay) [ true ↦ refl | false ↦ refl ])

-- the slots
abbrev after : List Told → Placed → Placed
after all at = record at { slot = slot_after all at.slot }

placed_after : (all : List Told) (n : ℕ) (slots : List Slot) → placed_at n (map (slot_after all) slots) ≡ map (after all) (placed_at n slots)
placed_after all n [] = refl
placed_after all n (slot ∷ slots) = ap (λ rest. let at : Placed = record { server = record { 0 = n }; slot = slot_after all slot } in at ∷ rest) (placed_after all n slots)

placed_same : (all : List Told) (n : ℕ) (those : List Told) → placed_from n (map (told_after all) those) ≡ map (after all) (placed_from n those)
placed_same all n [] = refl
placed_same all n (told ∷ those) =
    let one = placed_after all n told.slots in
    let rest = placed_same all (n + 1) those in
    rw (one, rest) (sym (map-append (after all) (placed_at n told.slots) (placed_from (n + 1) those)))

-- a slot in a server's list
in_server : (all : List Told) (at : Placed) → In at (placed all) → In at.slot (slots_of all at.server)
in_server all at i =
    let w = of_all_slots 1 all at i in
    let n = w.3 in
    let some : (at.server.0 == 0) ≡ false = grind (arith, common_steps, n) in
    let here : at.server.0 - 1 ≡ w.0 = omega (arith, n) in
    let found : told_of all at.server ≡ Some w.1 = rw (some, here) w.2 in
    subst (λ o. In at.slot (option_map_or (λ told. told.slots) o [])) (sym found) w.4

-- what an arriving fileset comes from still is there
sender_same : (all : List Told) (server : ServerId) (ship : ℕ) (slot other : Slot) → In slot (slots_of all server) → is_sender server ship slot other ≡ true → is_sender server ship slot (slot_after all other) ≡ true
sender_same all server ship slot other i h =
    let a : Bool = is_same slot other in
    let b : Bool = is_shipped server ship other.stay in
    let c : Bool = other.moves + 1 == slot.moves in
    let d : Bool = same_name other.name slot.name in
    let e : Bool = other.objects == slot.objects in
    let abcd : (a && b && c && d) ≡ true = and_left (a && b && c && d) e h in
    let abc : (a && b && c) ≡ true = and_left (a && b && c) d abcd in
    let ab : (a && b) ≡ true = and_left (a && b) c abc in
    let same : a ≡ true = and_left a b ab in
    let more : c ≡ true = and_right (a && b) c abc in
    let less : nat_lt other.moves slot.moves ≡ true = grind (arith, common_steps, more) in
    let turned : (slot.fileset.0 == other.fileset.0) ≡ true = grind (arith, common_steps, same) in
    let come : has_come all other server ≡ true = in_any (is_later other) (slots_of all server) slot i (and_both (is_same other slot) (nat_lt other.moves slot.moves) turned less) in
    let stay : stay_after all other other.stay ≡ other.stay = shipped_stays other.stay (and_right a b ab) come in
    ap (λ s. a && is_shipped server ship s && c && d && e) stay ∙ h
  where
    shipped_stays : (stay : Stay) → is_shipped server ship stay ≡ true → has_come all other server ≡ true → stay_after all other stay ≡ stay
    shipped_stays Writable k come = absurd (search (rules, k))
    shipped_stays Clone k come = absurd (search (rules, k))
    shipped_stays (Leaving to sent) k come =
        let its : to ≡ server = ap (λ n. let id : ServerId = record { 0 = n } in id) (equal_is to.0 server.0 (and_left (to.0 == server.0) (sent == ship) k)) in
        out_same all other (Leaving to sent) (ap (λ s. not (has_come all other s)) its ∙ ap not come)
    shipped_stays (Arriving from taken parts) k come = absurd (search (rules, k))
    shipped_stays (Gone to) k come = absurd (search (rules, k))

senders_same : (all : List Told) (server from : ServerId) (ship : ℕ) (slot : Slot) → In slot (slots_of all server) → list_any (is_sender server ship slot) (slots_of all from) ≡ true → list_any (is_sender server ship slot) (slots_of (settled all) from) ≡ true
senders_same all server from ship slot i h =
    let w = any_in (is_sender server ship slot) (slots_of all from) h in
    let one : list_any (λ other. is_sender server ship slot (slot_after all other)) (slots_of all from) ≡ true = in_any (λ other. is_sender server ship slot (slot_after all other)) (slots_of all from) w.0 w.1 (sender_same all server ship slot w.0 i w.2) in
    ap (list_any (is_sender server ship slot)) (slots_same all from) ∙ any_map (is_sender server ship slot) (slot_after all) (slots_of all from) ∙ one

-- a slot is matched still
matched_after : (all : List Told) (server : ServerId) (slot : Slot) (stay : Stay) → In slot (slots_of all server) → is_matched all server slot stay ≡ true → is_matched (settled all) server (slot_after all slot) (stay_after all slot stay) ≡ true
matched_after all server slot Writable i h = refl
matched_after all server slot Clone i h = refl
matched_after all server slot (Leaving to ship) i h = choice (has_come all slot to)
  where
    choice : (b : Bool) → is_matched (settled all) server (slot_after all slot) (if not b then Writable else Leaving to ship) ≡ true
    choice true = disk_same all to ∙ h
    choice false = refl
matched_after all server slot (Arriving from ship parts) i h = choice (parts == 1)
  where
    choice : (b : Bool) → is_matched (settled all) server (slot_after all slot) (if not b && true then Arriving from ship 1 else Arriving from ship parts) ≡ true
    choice true = senders_same all server from ship slot i h
    choice false = senders_same all server from ship slot i h
matched_after all server slot (Gone to) i h =
    and_both (has_disk (settled all) to) (has_come (settled all) (slot_after all slot) to) (disk_same all to ∙ and_left (has_disk all to) (has_come all slot to) h)
    (come_same all (slot_after all slot) to ∙ and_right (has_disk all to) (has_come all slot to) h)

-- and is still the fileset's
still_after : (all : List Told) (slot other : Slot) (stay : Stay) → is_still slot other stay ≡ true → is_still (slot_after all slot) (slot_after all other) (stay_after all slot stay) ≡ true
still_after all slot other Writable h = refl
still_after all slot other Clone h = refl
still_after all slot other (Leaving to ship) h = choice (has_come all slot to)
  where
    choice : (b : Bool) → is_still (slot_after all slot) (slot_after all other) (if not b then Writable else Leaving to ship) ≡ true
    choice true = ap (λ b. same_name other.name slot.name && not b && (other.objects == slot.objects)) (clone_same all other other.stay) ∙ h
    choice false = refl
still_after all slot other (Arriving from ship parts) h = elim (parts == 1) as (λ b. is_still (slot_after all slot) (slot_after all other) (if not b && true then Arriving from ship 1 else Arriving from ship parts) ≡ true) [ true ↦ refl | false ↦ refl ]
still_after all slot other (Gone to) h = h

still_in_after : (all : List Told) (slot other : Slot) → is_still_in all slot other ≡ true → is_still_in (settled all) (slot_after all slot) (slot_after all other) ≡ true
still_in_after all slot other h =
    let same : (is_later slot other && stands (settled all) (slot_after all other)) ≡ (is_later slot other && stands all other) = ap (λ b. is_later slot other && b) (stands_same all other) in
    choice (is_later slot other && stands all other) same h
  where
    choice : (b : Bool) → (is_later slot other && stands (settled all) (slot_after all other)) ≡ b → (not b || is_still slot other slot.stay) ≡ true → is_still_in (settled all) (slot_after all slot) (slot_after all other) ≡ true
    choice true e k = let s = still_after all slot other slot.stay k in ap (λ b. not b || is_still (slot_after all slot) (slot_after all other) (stay_after all slot slot.stay)) e ∙ s
    choice false e k = ap (λ b. not b || is_still (slot_after all slot) (slot_after all other) (stay_after all slot slot.stay)) e

continued_after : (all : List Told) (slot : Slot) → is_continued all slot ≡ true → is_continued (settled all) (slot_after all slot) ≡ true
continued_after all slot h =
    let after_slot : Slot = slot_after all slot in
    all_map (λ told. list_all (is_still_in (settled all) after_slot) told.slots) (told_after all) all
    ∙ all_more (λ told. list_all (is_still_in all slot) told.slots) (λ told. list_all (is_still_in (settled all) after_slot) (map (slot_after all) told.slots)) all
    (λ told i k.
    all_map (is_still_in (settled all) after_slot) (slot_after all) told.slots
    ∙ all_more (is_still_in all slot) (λ other. is_still_in (settled all) after_slot (slot_after all other)) told.slots (λ other j m. still_in_after all slot other m) k)
    h

-- no earlier server has it
earlier_same : (all : List Told) (server : ServerId) (slot : Slot) → is_earlier (settled all) server (slot_after all slot) ≡ is_earlier all server slot
earlier_same all server slot =
    let test : Slot → Bool = λ other. is_same slot other && stands (settled all) other in
    ap (list_any (λ told. list_any test told.slots)) (take-map (told_after all) (server.0 - 1) all)
    ∙ any_map (λ told. list_any test told.slots) (told_after all) (take (server.0 - 1) all)
    ∙ any_same (λ told. list_any test (map (slot_after all) told.slots)) (λ told. list_any (λ other. is_same slot other && stands all other) told.slots)
    (λ told.
    any_map test (slot_after all) told.slots
    ∙ any_same (λ other. test (slot_after all other)) (λ other. is_same slot other && stands all other) (λ other. ap (λ b. is_same slot other && b) (stands_same all other)) told.slots)
    (take (server.0 - 1) all)

fits_after : (all : List Told) → misfit all ≡ None → (at : Placed) → In at (placed all) → fits (settled all) (after all at) ≡ true
fits_after all f at i =
    let h = fit_of all at f i in
    let a : Bool = is_given (rooms_of all) at.slot.fileset in
    let b : Bool = is_matched all at.server at.slot at.slot.stay in
    let c : Bool = is_continued all at.slot in
    let d : Bool = not (stands all at.slot && is_earlier all at.server at.slot) in
    let abc : (a && b && c) ≡ true = and_left (a && b && c) d h in
    let ab : (a && b) ≡ true = and_left (a && b) c abc in
    let given : is_given (rooms_of (settled all)) at.slot.fileset ≡ true = ap (λ rooms. is_given rooms at.slot.fileset) (rooms_same all all) ∙ and_left a b ab in
    let matched = matched_after all at.server at.slot at.slot.stay (in_server all at i) (and_right a b ab) in
    let continued = continued_after all at.slot (and_right (a && b) c abc) in
    let free : not (stands (settled all) (slot_after all at.slot) && is_earlier (settled all) at.server (slot_after all at.slot)) ≡ true =
    ap (λ t. not (t && is_earlier (settled all) at.server (slot_after all at.slot))) (stands_same all at.slot) ∙ ap (λ t. not (stands all at.slot && t)) (earlier_same all at.server at.slot) ∙ and_right (a && b && c) d h in
    rw (given, matched, continued, free) refl

none_found : {X : Type 0} {Y : Type 0} (q : Y → Bool) (g : X → Y) (xs : List X) → ((x : X) → In x xs → q (g x) ≡ true) → find (λ y. not (q y)) (map g xs) ≡ None
none_found q g [] h = refl
none_found q g (x ∷ xs) h = let one : q (g x) ≡ true = h x (inl refl) in let rest = none_found q g xs (λ y i. h y (inr i)) in rw one rest

-- nothing more is to be settled
closed_after : (all : List Told) (slot : Slot) (stay : Stay) → (is_unsettled (stay_after all slot stay) && stands_as (settled all) (slot_after all slot) (stay_after all slot stay)) ≡ false
closed_after all slot Writable = refl
closed_after all slot Clone = refl
closed_after all slot (Leaving to ship) = choice (has_come all slot to) refl
  where
    choice : (b : Bool) → has_come all slot to ≡ b → (is_unsettled (if not b then Writable else Leaving to ship) && stands_as (settled all) (slot_after all slot) (if not b then Writable else Leaving to ship)) ≡ false
    choice true e = ap not (come_same all (slot_after all slot) to ∙ e)
    choice false e = refl
closed_after all slot (Arriving from ship parts) = choice (parts == 1) refl
  where
    choice : (b : Bool) → (parts == 1) ≡ b → (is_unsettled (if not b && true then Arriving from ship 1 else Arriving from ship parts) && stands_as (settled all) (slot_after all slot) (if not b && true then Arriving from ship 1 else Arriving from ship parts)) ≡ false
    choice true e = ap (λ t. not t && true) e
    choice false e = refl
closed_after all slot (Gone to) = refl

none_kept : {X : Type 0} {Y : Type 0} (p : Y → Bool) (g : X → Y) (xs : List X) → ((x : X) → p (g x) ≡ false) → filter p (map g xs) ≡ []
none_kept p g [] h = refl
none_kept p g (x ∷ xs) h = let one = h x in rw one (none_kept p g xs h)

-- what is made of the slots
made_same : {X : Type 0} (f h : Placed → Option X) (g : Placed → Placed) (xs : List Placed) → ((x : Placed) → f (g x) ≡ h x) → filter_map f (map g xs) ≡ filter_map h xs
made_same f h g [] k = refl
made_same f h g (x ∷ xs) k = let one = k x in let rest = made_same f h g xs k in rw (one, rest) refl

keeper_after : (all : List Told) (server : ServerId) (slot : Slot) (stay : Stay) → keeper_of server (stay_after all slot stay) ≡ keeper_of server stay
keeper_after all server slot Writable = refl
keeper_after all server slot Clone = refl
keeper_after all server slot (Leaving to ship) = elim (has_come all slot to) as (λ b. keeper_of server (if not b then Writable else Leaving to ship) ≡ server) [ true ↦ refl | false ↦ refl ]
keeper_after all server slot (Arriving from ship parts) = elim (parts == 1) as (λ b. keeper_of server (if not b && true then Arriving from ship 1 else Arriving from ship parts) ≡ from) [ true ↦ refl | false ↦ refl ]
keeper_after all server slot (Gone to) = refl

fileset_same : (all : List Told) (at : Placed) → fileset_in (settled all) (after all at) ≡ fileset_in all at
fileset_same all at =
    let own : fileset_of (settled all) (after all at) ≡ fileset_of all at =
    ap (λ filesets. option_map {T = Fileset} {U = Fileset} (λ fileset. record fileset { server = at.server; moves = at.slot.moves }) (find (has_id at.slot.fileset) filesets))
    (kept_same all (keeper_of at.server (stay_after all at.slot at.slot.stay)) ∙ ap (kept_by all) (keeper_after all at.server at.slot at.slot.stay)) in
    ap (λ b. if b then fileset_of (settled all) (after all at) else None) (stands_same all at.slot) ∙ ap (λ o. if stands all at.slot then o else None) own

away_same : (all : List Told) (at : Placed) → away_in (settled all) (after all at) ≡ away_in all at
away_same all at = ap (λ b. if b then None else away_of (after all at) (stay_after all at.slot at.slot.stay)) (stands_same all at.slot) ∙ choice (stands all at.slot) refl
  where
    parts_same : (stay : Stay) → away_of (after all at) stay ≡ away_of at stay
    parts_same Writable = refl
    parts_same Clone = refl
    parts_same (Leaving to ship) = refl
    parts_same (Arriving from ship parts) = refl
    parts_same (Gone to) = refl

    choice : (b : Bool) → stands all at.slot ≡ b → (if b then None else away_of (after all at) (stay_after all at.slot at.slot.stay)) ≡ (if b then None else away_of at at.slot.stay)
    choice true e = refl
    choice false e = ap (away_of (after all at)) (out_same all at.slot at.slot.stay e) ∙ parts_same at.slot.stay

pub settles_once : SettlesOnce
settles_once roster all f =
    let those = placed_same all 1 all in
    let none : find (λ at. not (fits (settled all) at)) (map (after all) (placed all)) ≡ None = none_found (fits (settled all)) (after all) (placed all) (fits_after all f) in
    let closed : filter (λ at. is_open (settled all) at.slot) (map (after all) (placed all)) ≡ [] = none_kept (λ at. is_open (settled all) at.slot) (after all) (placed all) (λ at. closed_after all at.slot at.slot.stay) in
    let filesets : filter_map (fileset_in (settled all)) (placed (settled all)) ≡ filter_map (fileset_in all) (placed all) =
    ap (filter_map (fileset_in (settled all))) those ∙ made_same (fileset_in (settled all)) (fileset_in all) (after all) (placed all) (fileset_same all) in
    let records : filter_map (away_in (settled all)) (placed (settled all)) ≡ filter_map (away_in all) (placed all) =
    ap (filter_map (away_in (settled all))) those ∙ made_same (away_in (settled all)) (away_in all) (after all) (placed all) (away_same all) in
    record {
      fit = (ap (find (λ at. not (fits (settled all) at))) those ∙ none, ap (settlings_in (settled all)) those ∙ ap (λ xs. map (λ (at : Placed). record { server = at.server; fileset = at.slot.fileset }) xs) closed);
      start =
          ap (λ rooms. record (start_of roster (settled all)) { servers = rooms }) (rooms_same all all)
          ∙ ap (λ xs. record (start_of roster all) { filesets = fold with_one [] xs; away = fold with_away [] (filter_map (away_in (settled all)) (placed (settled all))) }) filesets
          ∙ ap (λ xs. record (start_of roster all) { away = fold with_away [] xs }) records;
    }
