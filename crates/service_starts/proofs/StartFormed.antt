-- The tree that is made of stores whose disks fit is well formed.
use Rattle.std.proofs.Common.{◌≡◌, ◌≢◌, ℕ, zero, suc, ◌+◌, ◌-◌, ◌≤◌, ◌==◌, nat_le, Bool, true, false, ◌&&◌, ◌||◌, not, cond, List, [], ◌∷◌, length, Option, Some, None, refl, sym, ap, ◌∙◌, subst, arith, inl, inr, rules, ◌⊎◌}
use Rattle.std.specs.Prelude.{slice_get, if◌then◌else◌}
use Rattle.std.specs.List.{find, list_all, list_any, cons_option}
use Rattle.std.specs.Option.{option_map, option_map_or}
use Rattle.std.proofs.lemmas.Bool.Decides.{eqb_tells}
use Rattle.std.proofs.lemmas.Grind.{common_steps}
use Rattle.std.proofs.lemmas.List.{length-map}
use Rattle.std.proofs.lemmas.Option.{slice_get_within}
use Rattle.base_types.specs.Name.{same_name}
use Rattle.base_types.specs.declared.ids.FilesetId.{FilesetId}
use Rattle.base_types.specs.declared.ids.ServerId.{ServerId}
use Rattle.base_types.specs.declared.limits.TheConstants.{FILESETS_MAX}
use Rattle.tree_calls.specs.Limits.{is_between, keeps_limits}
use Rattle.tree_calls.specs.declared.roster.Roster.{Roster}
use Rattle.tree_filesets.specs.Promises.{promise}
use Rattle.tree_filesets.specs.WellFormed.{is_at_rest, IsWellFormed as IsWellFormedFileset}
use Rattle.tree_filesets.specs.declared.fileset.Fileset.{Fileset}
use Rattle.store_memory.specs.Reading.{slots_from}
use Rattle.store_memory.specs.declared.told.Slot.{Slot}
use Rattle.tree_answers.proofs.Inserted.{promised_total}
use Rattle.tree_answers.proofs.Places.{equal_is, not_true}
use Rattle.tree_answers.proofs.Totals.{total, sum_total}
use Rattle.tree_answers.specs.Finding.{is_named, has_id}
use Rattle.tree_answers.specs.Founding.{room_of, away_promise, away_promised, promised_at, count_at}
use Rattle.tree_answers.specs.WellFormed.{AreWellFormed, AreRecords, IsWellFormed, rests_if_clone, is_elsewhere, is_declared, is_given}
use Rattle.tree_answers.specs.declared.tree.Away.{Away}
use Rattle.tree_answers.specs.declared.tree.ServerRoom.{ServerRoom}
use Rattle.store_state.specs.Founding.{held_promise}
use Rattle.store_state.specs.State.{is_leaving, is_gone}
use Rattle.store_state.specs.declared.state.Holding.{Holding}
use Rattle.store_state.specs.declared.state.Stay.{Stay}
use Rattle.store_state.specs.declared.state.Stay.TheVariants.{Writable, Clone, Leaving, Arriving, Gone}
use Rattle.store_state.specs.declared.state.StoreState.{StoreState}
use Rattle.store_records.specs.Stored.{StaysRight}
use Rattle.service_starts.proofs.Standing.{In, in_contains, fit_of, stands_once, of_all_slots, in_all_slots}
use Rattle.service_starts.proofs.Tests.{and_left, and_right, and_both}
use Rattle.service_starts.specs.Fitting.{misfit, is_still, is_clone}
use Rattle.service_starts.specs.Starting.{fileset_of, fileset_in, away_of, away_in, left_for, start_of}
use Rattle.service_starts.specs.Told.{Placed, placed, placed_at, stands, stands_as, rooms_of}
use Rattle.service_starts.specs.declared.told.Told.{Told}
use Rattle.service_starts.proofs.Known.{IsHeld}
use Rattle.service_starts.proofs.Places.{same_place, goes_on, still, given_at, server_total}
use Rattle.service_starts.proofs.Puts.{puts_have, total_puts, totals_both, made_in, all_of}
use Rattle.service_starts.proofs.Slots.{slots_few, slots_promised, promised_total as store_promised_total}
use Rattle.service_starts.proofs.Started.{filesets_in, records_in, fileset_at, record_at, tree_filesets, tree_records, has_one, come_there, away_there, away_of_slot, tree_ordered, tree_named, records_ordered, records_named, apart_names, none_any, other_names, has_as}
use Rattle.service_starts.specs.Starts.{AreTold, NoneGoesOn, TreesStart}

-- the number of a server is in range
in_range : (all : List Told) → AreTold all → (at : Placed) → In at (placed all) → (1 ≤ at.server.0) × (at.server.0 ≤ length all)
in_range all t at i =
    let w = of_all_slots 1 all at i in
    let here = w.3 in
    let within = slice_get_within all w.0 w.1 w.2 in
    (omega (arith, here), omega (arith, here, within))

declared_at : (all : List Told) → AreTold all → (at : Placed) → In at (placed all) → is_declared (length (rooms_of all)) at.server ≡ true
declared_at all t at i =
    let w = in_range all t at i in
    let least = w.0 in
    let most = w.1 in
    let len : length (rooms_of all) ≡ length all = length-map all (λ told. let room : ServerRoom = record { capacity = told.kept.capacity; next = told.kept.next } in room) in
    let a : nat_le 1 at.server.0 ≡ true = grind (arith, common_steps, least) in
    let b : nat_le at.server.0 (length (rooms_of all)) ≡ true = grind (arith, common_steps, most, len) in
    and_both (nat_le 1 at.server.0) (nat_le at.server.0 (length (rooms_of all))) a b

all_formed : (filesets : List Fileset) → ((fileset : Fileset) → In fileset filesets → IsWellFormedFileset fileset) → AreWellFormed filesets
all_formed [] h = tt
all_formed (fileset ∷ filesets) h = (h fileset (inl refl), all_formed filesets (λ one i. h one (inr i)))

-- what is found has the id
pub found_one : (id : FilesetId) (filesets : List Fileset) (fileset : Fileset) → In fileset filesets → fileset.id.0 ≡ id.0 → (one : Fileset) × (find (has_id id) filesets ≡ Some one) × In one filesets × (one.id.0 ≡ id.0)
found_one id [] fileset i e = absurd i
found_one id (first ∷ filesets) fileset (inl s) e =
    let its : first.id.0 ≡ id.0 = ap (λ one. one.id.0) s ∙ e in
    let test : (first.id.0 == id.0) ≡ true = grind (arith, common_steps, its) in
    (first, rw test refl, inl refl, its)
found_one id (first ∷ filesets) fileset (inr i) e =
    let rest = found_one id filesets fileset i e in
    elim (eqb_tells first.id.0 id.0) as (λ _. (one : Fileset) × (find (has_id id) (first ∷ filesets) ≡ Some one) × In one (first ∷ filesets) × (one.id.0 ≡ id.0))
    [ inl (t, its) ↦ (first, rw t refl, inl refl, its) | inr (t, differs) ↦ (rest.0, rw t rest.1, inr rest.2, rest.3) ]

-- the fileset of a record
pub record Elsewhere (all : List Told) (at : Placed) (fileset : Fileset) : Type 0 where
  pub found : find (has_id at.slot.fileset) (tree_filesets all) ≡ Some fileset
  pub server : fileset.server.0 ≢ at.server.0
  pub still : (other : Slot) × (is_still at.slot other at.slot.stay ≡ true) × (fileset.name ≡ other.name) × (fileset.objects ≡ other.objects) × (is_clone other.stay ≡ false → fileset.read_only ≡ false)

elsewhere_of : (all : List Told) → AreTold all → misfit all ≡ None → (at : Placed) → In at (placed all) → stands all at.slot ≡ false → (fileset : Fileset) × Elsewhere all at fileset
elsewhere_of all t f at i out =
    let on = goes_on all f at i out in
    let other = on.0 in
    let has = has_one all t f other on.1 on.3 in
    let one = has.3 in
    let made : fileset_in all other ≡ Some one.0 = ap (λ b. if b then fileset_of all other else None) on.3 ∙ one.1 in
    let listed : In one.0 (tree_filesets all) = puts_have fileset_at [] (filesets_in all) one.0 (inr (made_in (fileset_in all) (placed all) other one.0 on.1 made)) in
    let id : one.0.id.0 ≡ at.slot.fileset.0 = ap (λ id. id.0) one.2.id ∙ on.2 in
    let found = found_one at.slot.fileset (tree_filesets all) one.0 listed id in
    let from = come_there all t f found.0 found.2 in
    let come = from.2 in
    let b = from.0 in
    let ids : b.slot.fileset.0 ≡ at.slot.fileset.0 = ap (λ id. id.0) (sym come.is_in.id) ∙ found.3 in
    let servers : b.server.0 ≡ other.server.0 = stands_once all f b other come.here on.1 (ids ∙ sym on.2) come.stands on.3 in
    let same : b ≡ other = same_place all t b other come.here on.1 servers (ids ∙ sym on.2) in
    let kept : is_still at.slot b.slot at.slot.stay ≡ true = subst (λ one. is_still at.slot one.slot at.slot.stay ≡ true) (sym same) (still all f at other i on.1 on.2 on.3 on.4) in (
      found.0,
      record {
        found = found.1;
        server = λ e.
            let there : at.server.0 ≡ b.server.0 = sym e ∙ ap (λ one. one.0) come.is_in.server in
            let two : at ≡ b = same_place all t at b i come.here there (sym ids) in
            let wrong : false ≡ true = sym out ∙ ap (λ one. stands all one.slot) two ∙ come.stands in
            search (rules, wrong);
        still = (b.slot, kept, come.is_in.name, come.is_in.objects, come.is_in.writable);
      },
    )

-- a name stays
still_named : (slot other : Slot) (stay : Stay) (at : Placed) (away : Away) → is_still slot other stay ≡ true → away_of at stay ≡ Some away → same_name other.name slot.name ≡ true
still_named slot other Writable at away h e = absurd (search (rules, e))
still_named slot other Clone at away h e = absurd (search (rules, e))
still_named slot other (Leaving to ship) at away h e =
    and_left (same_name other.name slot.name) (not (is_clone other.stay)) (and_left (same_name other.name slot.name && not (is_clone other.stay)) (other.objects == slot.objects) h)
still_named slot other (Arriving from ship parts) at away h e = absurd (search (rules, e))
still_named slot other (Gone to) at away h e = h

record_elsewhere : (all : List Told) → AreTold all → misfit all ≡ None → (away : Away) → In away (tree_records all) → is_elsewhere (tree_filesets all) away ≡ true
record_elsewhere all t f away i =
    let w = away_there all away i in
    let at = w.0 in
    let of_it = w.1 in
    let there = elsewhere_of all t f at of_it.here of_it.out in
    let fileset = there.0 in
    let is_there = there.1 in
    let kept = is_there.still in
    let found : find (has_id away.fileset) (tree_filesets all) ≡ Some fileset = ap (λ id. find (has_id id) (tree_filesets all)) of_it.id ∙ is_there.found in
    let other : fileset.server.0 ≢ away.server.0 = λ e. is_there.server (e ∙ ap (λ one. one.0) of_it.server) in
    let server : (fileset.server.0 == away.server.0) ≡ false = grind (arith, common_steps, other) in
    let named : same_name fileset.name away.name ≡ true =
    ap (λ n. same_name n away.name) kept.2 ∙ ap (λ n. same_name kept.0.name n) of_it.name ∙ still_named at.slot kept.0 at.slot.stay at away kept.1 of_it.made in
    rw (found, server, named) refl

record_free : (all : List Told) → AreTold all → misfit all ≡ None → (away : Away) → In away (tree_records all) → list_any (is_named away.server away.name) (tree_filesets all) ≡ false
record_free all t f away i =
    let w = away_there all away i in
    let at = w.0 in
    let of_it = w.1 in
    none_any (is_named away.server away.name) (tree_filesets all) (λ fileset j.
    let from = come_there all t f fileset j in
    let b = from.0 in
    let come = from.2 in
    apart_names away.server fileset.server away.name fileset.name (λ s.
    let servers : at.server.0 ≡ b.server.0 = ap (λ one. one.0) (sym of_it.server) ∙ s ∙ ap (λ one. one.0) come.is_in.server in
    ap (λ n. same_name n away.name) come.is_in.name ∙ ap (λ n. same_name b.slot.name n) of_it.name ∙ other_names all t at b of_it.here come.here servers
    (λ two. let wrong : false ≡ true = sym of_it.out ∙ ap (λ one. stands all one.slot) two ∙ come.stands in search (rules, wrong))))

-- each fileset of the tree is at rest
tree_rests : (all : List Told) → AreTold all → misfit all ≡ None → list_all is_at_rest (tree_filesets all) ≡ true
tree_rests all t f = all_of is_at_rest (tree_filesets all) (λ fileset i. let from = come_there all t f fileset i in from.2.is_in.rest)

-- where no move goes on no room is kept
room_of_stay : (all : List Told) (at : Placed) (stay : Stay) (away : Away) → at.slot.stay ≡ stay → away_of at stay ≡ Some away → (is_leaving stay ≡ true → ⊥) → not away.room_kept ≡ true
room_of_stay all at Writable away e m n = absurd (search (rules, m))
room_of_stay all at Clone away e m n = absurd (search (rules, m))
room_of_stay all at (Leaving to ship) away e m n = absurd (n refl)
room_of_stay all at (Arriving from ship parts) away e m n = absurd (search (rules, m))
room_of_stay all at (Gone to) away e m n = let same : left_for at to ≡ away = cc in ap (λ one. not one.room_kept) (sym same)

tree_rooms : (all : List Told) → NoneGoesOn all → list_all (λ away. not away.room_kept) (tree_records all) ≡ true
tree_rooms all n =
    all_of (λ away. not away.room_kept) (tree_records all) (λ away i.
    let w = away_there all away i in
    let of_it = w.1 in
    room_of_stay all w.0 w.0.slot.stay away refl of_it.made (λ leaving.
    let wrong : false ≡ true = sym of_it.out ∙ n w.0 (in_contains (placed all) w.0 of_it.here) leaving in search (rules, wrong)))

-- what the filesets and records of a server count for
abbrev one_fileset : ServerId → Fileset → ℕ
one_fileset server fileset = cond (fileset.server.0 == server.0) 1 0

abbrev one_record : ServerId → Away → ℕ
one_record server away = cond (away.server.0 == server.0) 1 0

abbrev one_slot : Placed → ℕ
one_slot at = 1

-- the server of what is made of a slot
fileset_server : (all : List Told) (at : Placed) (fileset : Fileset) → fileset_in all at ≡ Some fileset → fileset.server ≡ at.server
fileset_server all at fileset e = choice (stands all at.slot) e
  where
    made : (o : Option Fileset) → option_map {T = Fileset} {U = Fileset} (λ one. record one { server = at.server; moves = at.slot.moves }) o ≡ Some fileset → fileset.server ≡ at.server
    made None k = absurd (search (rules, k))
    made (Some one) k = let same : record one { server = at.server; moves = at.slot.moves } ≡ fileset = cc in ap (λ z. z.server) (sym same)

    choice : (b : Bool) → (if b then fileset_of all at else None) ≡ Some fileset → fileset.server ≡ at.server
    choice true k = made _ k
    choice false k = absurd (search (rules, k))

-- a slot makes a fileset or a record, and not both
made_apart : (all : List Told) (at : Placed) → (fileset_in all at ≡ None) ⊎ (away_in all at ≡ None)
made_apart all at = choice (stands all at.slot) refl
  where
    choice : (b : Bool) → stands all at.slot ≡ b → (fileset_in all at ≡ None) ⊎ (away_in all at ≡ None)
    choice true e = inr (ap (λ b. if b then None else away_of at at.slot.stay) e)
    choice false e = inl (ap (λ b. if b then fileset_of all at else None) e)

-- what is made of a slot counts for its server alone
made_count : (f : Fileset → ℕ) (g : Away → ℕ) (server : ServerId) (at : Placed) (o : Option Fileset) (q : Option Away) → ((x : Fileset) → o ≡ Some x → x.server ≡ at.server) → ((x : Away) → q ≡ Some x → x.server ≡ at.server)
    → total (λ x. cond (x.server.0 == server.0) (f x) 0) (cons_option o []) + total (λ x. cond (x.server.0 == server.0) (g x) 0) (cons_option q []) ≤ cond (at.server.0 == server.0) (total f (cons_option o []) + total g (cons_option q [])) 0
made_count f g server at o q ho hq =
    let left = part_fileset o ho in
    let right = part_away q hq in
    both (at.server.0 == server.0) left right
  where
    part_fileset : (o : Option Fileset) → ((x : Fileset) → o ≡ Some x → x.server ≡ at.server) → total (λ x. cond (x.server.0 == server.0) (f x) 0) (cons_option o []) ≡ cond (at.server.0 == server.0) (total f (cons_option o [])) 0
    part_fileset None h = elim (at.server.0 == server.0) as (λ b. ◌≡◌ {A = ℕ} 0 (cond b 0 0)) [ true ↦ refl | false ↦ refl ]
    part_fileset (Some x) h = let n : x.server.0 ≡ at.server.0 = ap (λ one. one.0) (h x refl) in ap (λ m. cond (m == server.0) (f x) 0 + 0) n ∙ elim (at.server.0 == server.0) as (λ b. cond b (f x) 0 + 0 ≡ cond b (f x + 0) 0) [ true ↦ refl | false ↦ refl ]

    part_away : (q : Option Away) → ((x : Away) → q ≡ Some x → x.server ≡ at.server) → total (λ x. cond (x.server.0 == server.0) (g x) 0) (cons_option q []) ≡ cond (at.server.0 == server.0) (total g (cons_option q [])) 0
    part_away None h = elim (at.server.0 == server.0) as (λ b. ◌≡◌ {A = ℕ} 0 (cond b 0 0)) [ true ↦ refl | false ↦ refl ]
    part_away (Some x) h = let n : x.server.0 ≡ at.server.0 = ap (λ one. one.0) (h x refl) in ap (λ m. cond (m == server.0) (g x) 0 + 0) n ∙ elim (at.server.0 == server.0) as (λ b. cond b (g x) 0 + 0 ≡ cond b (g x + 0) 0) [ true ↦ refl | false ↦ refl ]

    both : (b : Bool) → total (λ x. cond (x.server.0 == server.0) (f x) 0) (cons_option o []) ≡ cond b (total f (cons_option o [])) 0 → total (λ x. cond (x.server.0 == server.0) (g x) 0) (cons_option q []) ≡ cond b (total g (cons_option q [])) 0
        → total (λ x. cond (x.server.0 == server.0) (f x) 0) (cons_option o []) + total (λ x. cond (x.server.0 == server.0) (g x) 0) (cons_option q []) ≤ cond b (total f (cons_option o []) + total g (cons_option q [])) 0
    both true l r = omega (arith, l, r)
    both false l r = omega (arith, l, r)

-- what a slot counts for
abbrev weight : List Told → (Fileset → ℕ) → (Away → ℕ) → Placed → ℕ
weight all f g at = total f (cons_option (fileset_in all at) []) + total g (cons_option (away_in all at) [])

-- what the tree has at a server counts for no more than what its slots do
at_server : (all : List Told) (f : Fileset → ℕ) (g : Away → ℕ) (server : ServerId) (bound : ℕ)
    → ((place : ℕ) (told : Told) → slice_get all place ≡ Some told → 1 + place ≡ server.0 → total (weight all f g) (placed_at server.0 told.slots) ≤ bound)
    → total (λ x. cond (x.server.0 == server.0) (f x) 0) (tree_filesets all) + total (λ x. cond (x.server.0 == server.0) (g x) 0) (tree_records all) ≤ bound
at_server all f g server bound h =
    let ff : Fileset → ℕ = λ x. cond (x.server.0 == server.0) (f x) 0 in
    let gg : Away → ℕ = λ x. cond (x.server.0 == server.0) (g x) 0 in
    let one = total_puts ff fileset_at [] (filesets_in all) in
    let two = total_puts gg record_at [] (records_in all) in
    let all_less = totals_both ff (fileset_in all) gg (away_in all) (λ at. cond (at.server.0 == server.0) (weight all f g at) 0) (placed all)
    (λ at i. made_count f g server at (fileset_in all at) (away_in all at) (fileset_server all at) (λ x e. let of_it = away_of_slot all at x i e in of_it.server)) in
    let most = server_total (weight all f g) server.0 bound 1 all h in
    omega (arith, one, two, all_less, most)

-- each slot makes one at most
weight_one : (all : List Told) (server : ℕ) (slots : List Slot) → total (weight all (λ x. 1) (λ x. 1)) (placed_at server slots) ≤ length slots
weight_one all server [] = omega arith
weight_one all server (slot ∷ slots) =
    let at : Placed = record { server = record { 0 = server }; slot = slot } in
    let rest = weight_one all server slots in
    let here : weight all (λ x. 1) (λ x. 1) at ≤ 1 = elim (made_apart all at) [ inl e ↦ rw e (second (away_in all at)) | inr e ↦ rw e (first (fileset_in all at)) ] in
    omega (arith, rest, here)
  where
    first : (o : Option Fileset) → total (λ (x : Fileset). 1) (cons_option o []) + 0 ≤ 1
    first None = omega arith
    first (Some x) = omega arith

    second : (o : Option Away) → 0 + total (λ (x : Away). 1) (cons_option o []) ≤ 1
    second None = omega arith
    second (Some x) = omega arith

tree_counted : (roster : Roster) (all : List Told) → AreTold all → (server : ServerId) → count_at (start_of roster all) server ≤ FILESETS_MAX
tree_counted roster all t server =
    let few = at_server all (λ x. 1) (λ x. 1) server FILESETS_MAX (λ place told e s.
    let w = t place told e in
    let state = w.0 in
    let table : length state.slots ≡ FILESETS_MAX = w.1.storable.limits.table in
    let len : length told.slots ≡ length (slots_from 0 state.slots) = ap length w.1.slots in
    let short = slots_few 0 state.slots in
    let one = weight_one all server.0 told.slots in
    omega (arith, table, len, short, one)) in
    let filesets = sum_total (one_fileset server) (tree_filesets all) in
    let records = sum_total (one_record server) (tree_records all) in
    omega (arith, few, filesets, records)

-- the blocks of records
record_total : (server : ServerId) (filesets : List Fileset) (records : List Away) → away_promised server filesets records ≡ total (λ x. cond (x.server.0 == server.0) (away_promise filesets x) 0) records
record_total server filesets [] = refl
record_total server filesets (x ∷ xs) = ap (λ n. cond (x.server.0 == server.0) (away_promise filesets x) 0 + n) (record_total server filesets xs)

not_gone : (all : List Told) (slot : Slot) (stay : Stay) → stands_as all slot stay ≡ true → is_gone stay ≡ false
not_gone all slot Writable h = refl
not_gone all slot Clone h = refl
not_gone all slot (Leaving to ship) h = refl
not_gone all slot (Arriving from ship parts) h = refl
not_gone all slot (Gone to) h = absurd (search (rules, h))

-- the blocks of a slot's fileset
in_bound : (all : List Told) → AreTold all → misfit all ≡ None → (at : Placed) (state : StoreState) (holding : Holding) → IsHeld all at state holding → In at (placed all) → stands all at.slot ≡ true
    → weight all promise (away_promise (tree_filesets all)) at ≤ held_promise (Some holding)
in_bound all t f at state holding h i s =
    let has = has_as all t at state holding h at.slot.stay refl f i s in
    let made : fileset_in all at ≡ Some has.0 = ap (λ b. if b then fileset_of all at else None) s ∙ has.1 in
    let none : away_in all at ≡ None = ap (λ b. if b then None else away_of at at.slot.stay) s in
    let same : promise has.0 ≡ promise holding.fileset = has.2.promise in
    let here : is_gone holding.stay ≡ false = ap is_gone (sym (ap (λ one. one.stay) h.tells.1)) ∙ not_gone all at.slot at.slot.stay s in
    let most : held_promise (Some holding) ≡ promise holding.fileset = ap (λ b. if b then 0 else promise holding.fileset) here in
    let count : weight all promise (away_promise (tree_filesets all)) at ≡ promise has.0 + 0 + 0 =
    ap (λ o. total promise (cons_option o []) + total (away_promise (tree_filesets all)) (cons_option (away_in all at) [])) made
    ∙ ap (λ o. total promise (cons_option (Some has.0) []) + total (away_promise (tree_filesets all)) (cons_option o [])) none in
    omega (arith, count, most, same)

-- the blocks that are kept for one that is leaving
kept_bound : (all : List Told) → AreTold all → misfit all ≡ None → (at : Placed) (state : StoreState) (holding : Holding) (to : ServerId) (ship : ℕ) → IsHeld all at state holding → In at (placed all) → stands all at.slot ≡ false → at.slot.stay ≡ Leaving to ship
    → away_promise (tree_filesets all) (record (left_for at to) { room_kept = true }) ≡ held_promise (Some holding)
kept_bound all t f at state holding to ship h i out e =
    let there = elsewhere_of all t f at i out in
    let fileset = there.0 in
    let kept = there.1.still in
    let other = kept.0 in
    let still_so : is_still at.slot other (Leaving to ship) ≡ true = subst (λ one. is_still at.slot other one ≡ true) e kept.1 in
    let front : (same_name other.name at.slot.name && not (is_clone other.stay)) ≡ true = and_left (same_name other.name at.slot.name && not (is_clone other.stay)) (other.objects == at.slot.objects) still_so in
    let limit : other.objects ≡ at.slot.objects = equal_is other.objects at.slot.objects (and_right (same_name other.name at.slot.name && not (is_clone other.stay)) (other.objects == at.slot.objects) still_so) in
    let apart : is_clone other.stay ≡ false = not_true (is_clone other.stay) (and_right (same_name other.name at.slot.name) (not (is_clone other.stay)) front) in
    let theirs : fileset.read_only ≡ false = kept.4 apart in
    let stay : holding.stay ≡ Leaving to ship = sym (ap (λ one. one.stay) h.tells.1) ∙ e in
    let right : StaysRight state holding.fileset (Leaving to ship) = subst (StaysRight state holding.fileset) stay h.stored.stay in
    let mine : holding.fileset.read_only ≡ false = right.1 in
    let limits : fileset.objects ≡ holding.fileset.objects = kept.3 ∙ limit ∙ ap (λ one. one.objects) h.tells.1 in
    let same : promise fileset ≡ promise holding.fileset = rw (theirs, mine, limits) refl in
    let here : held_promise (Some holding) ≡ promise holding.fileset = ap (λ one. if is_gone one then 0 else promise holding.fileset) stay in
    ap (λ o. option_map_or promise o 0) there.1.found ∙ same ∙ sym here

out_bound : (all : List Told) → AreTold all → misfit all ≡ None → (at : Placed) (state : StoreState) (holding : Holding) → IsHeld all at state holding → In at (placed all) → (stay : Stay) → at.slot.stay ≡ stay → stands all at.slot ≡ false
    → total (away_promise (tree_filesets all)) (cons_option (away_of at stay) []) ≤ held_promise (Some holding)
out_bound all t f at state holding h i Writable e out = omega arith
out_bound all t f at state holding h i Clone e out = omega arith
out_bound all t f at state holding h i (Leaving to ship) e out = let same = kept_bound all t f at state holding to ship h i out e in omega (arith, same)
out_bound all t f at state holding h i (Arriving from ship parts) e out = omega arith
out_bound all t f at state holding h i (Gone to) e out = omega arith

slot_bound : (all : List Told) → AreTold all → misfit all ≡ None → (at : Placed) (state : StoreState) (holding : Holding) → IsHeld all at state holding → In at (placed all) → weight all promise (away_promise (tree_filesets all)) at ≤ held_promise (Some holding)
slot_bound all t f at state holding h i = choice (stands all at.slot) refl
  where
    choice : (b : Bool) → stands all at.slot ≡ b → weight all promise (away_promise (tree_filesets all)) at ≤ held_promise (Some holding)
    choice true s = in_bound all t f at state holding h i s
    choice false s =
        let none : fileset_in all at ≡ None = ap (λ b. if b then fileset_of all at else None) s in
        let made : away_in all at ≡ away_of at at.slot.stay = ap (λ b. if b then None else away_of at at.slot.stay) s in
        let count : weight all promise (away_promise (tree_filesets all)) at ≡ 0 + total (away_promise (tree_filesets all)) (cons_option (away_of at at.slot.stay) []) =
        ap (λ o. total promise (cons_option o []) + total (away_promise (tree_filesets all)) (cons_option (away_in all at) [])) none
        ∙ ap (λ o. 0 + total (away_promise (tree_filesets all)) (cons_option o [])) made in
        let most = out_bound all t f at state holding h i at.slot.stay refl s in
        omega (arith, count, most)

total_placed : (w : Placed → ℕ) (server : ℕ) (slots : List Slot) → total w (placed_at server slots) ≡ total (λ slot. w (record { server = record { 0 = server }; slot = slot })) slots
total_placed w server [] = refl
total_placed w server (slot ∷ slots) = ap (λ n. w (record { server = record { 0 = server }; slot = slot }) + n) (total_placed w server slots)

-- what the slots of a server count for is no more than what its store has promised
store_bound : (all : List Told) → AreTold all → misfit all ≡ None → (place server : ℕ) (told : Told) → slice_get all place ≡ Some told → 1 + place ≡ server
    → total (weight all promise (away_promise (tree_filesets all))) (placed_at server told.slots) ≤ told.kept.capacity
store_bound all t f place server told e s =
    let w = t place told e in
    let state = w.0 in
    let of_it = w.1 in
    let g : Placed → ℕ = weight all promise (away_promise (tree_filesets all)) in
    let one : Slot → ℕ = λ slot. g (record { server = record { 0 = server }; slot = slot }) in
    let sum = total_placed g server told.slots in
    let those : total one told.slots ≡ total one (slots_from 0 state.slots) = ap (total one) of_it.slots in
    let own = of_it.own in
    let most = slots_promised one 0 state.slots (λ k holding slot held tells inside.
    let at : Placed = record { server = record { 0 = server }; slot = slot } in
    let mine : In slot told.slots = subst (λ xs. In slot xs) (sym of_it.slots) inside in
    let first : In (record { server = record { 0 = 1 + place }; slot = slot }) (placed all) = in_all_slots 1 all place told slot e mine in
    let here : In at (placed all) = subst (λ n. In (record { server = record { 0 = n }; slot = slot }) (placed all)) s first in
    let numbers : state.server.0 ≡ server = omega (arith, own, s) in
    slot_bound all t f at state holding (record {
      storable = of_it.storable;
      own = numbers;
      told = (place, told, e, sym s, of_it.kept, of_it.slots);
      held = (k, held);
      stored = of_it.storable.each k holding held;
      tells = tells;
    }) here) in
    let promises = store_promised_total state.slots in
    let room = of_it.storable.room in
    let capacity : told.kept.capacity ≡ state.capacity = ap (λ one. one.capacity) of_it.kept in
    omega (arith, sum, those, most, promises, room, capacity)

-- a server's room
pub get_room : (all : List Told) (place : ℕ) (told : Told) → slice_get all place ≡ Some told → slice_get (rooms_of all) place ≡ Some (record { capacity = told.kept.capacity; next = told.kept.next })
get_room [] place told e = absurd (search (rules, e))
get_room (x ∷ all) zero told e = let same : x ≡ told = cc in ap (λ one. Some (let room : ServerRoom = record { capacity = one.kept.capacity; next = one.kept.next } in room)) same
get_room (x ∷ all) (suc place) told e = get_room all place told e

room_at : (all : List Told) (server : ServerId) (room : ServerRoom) (place : ℕ) (told : Told) → room_of (rooms_of all) server ≡ Some room → slice_get all place ≡ Some told → 1 + place ≡ server.0 → room.capacity ≡ told.kept.capacity
room_at all server room place told r e s =
    let some : (server.0 == 0) ≡ false = grind (arith, common_steps, s) in
    let here : server.0 - 1 ≡ place = omega (arith, s) in
    let found : room_of (rooms_of all) server ≡ Some (record { capacity = told.kept.capacity; next = told.kept.next }) = rw (some, here) (get_room all place told e) in
    let same : record { capacity = told.kept.capacity; next = told.kept.next } ≡ room = let both : Some (record { capacity = told.kept.capacity; next = told.kept.next }) ≡ Some room = sym found ∙ r in cc in
    ap (λ one. one.capacity) (sym same)

tree_promised : (roster : Roster) (all : List Told) → AreTold all → misfit all ≡ None → (server : ServerId) (room : ServerRoom) → room_of (rooms_of all) server ≡ Some room → promised_at (start_of roster all) server ≤ room.capacity
tree_promised roster all t f server room r =
    let few = at_server all promise (away_promise (tree_filesets all)) server room.capacity (λ place told e s.
    let capacity = room_at all server room place told r e s in
    let most = store_bound all t f place server.0 told e s in
    omega (arith, capacity, most)) in
    let filesets = promised_total server (tree_filesets all) in
    let records = record_total server (tree_filesets all) (tree_records all) in
    omega (arith, few, filesets, records)

-- each server's next number is in range
rooms_number : (all : List Told) → ((place : ℕ) (told : Told) → slice_get all place ≡ Some told → (1 ≤ told.kept.next) × (told.kept.next ≤ 65536)) → list_all (λ room. is_between 1 65536 room.next) (rooms_of all) ≡ true
rooms_number [] h = refl
rooms_number (told ∷ all) h =
    let w = h 0 told refl in
    let least = w.0 in
    let most = w.1 in
    let a : nat_le 1 told.kept.next ≡ true = grind (arith, common_steps, least) in
    let b : nat_le told.kept.next 65536 ≡ true = grind (arith, common_steps, most) in
    let rest = rooms_number all (λ place other e. h (suc place) other e) in
    and_both (is_between 1 65536 told.kept.next) (list_all (λ room. is_between 1 65536 room.next) (rooms_of all)) (and_both (nat_le 1 told.kept.next) (nat_le told.kept.next 65536) a b) rest

or_true : (b : Bool) → (b || true) ≡ true
or_true true = refl
or_true false = refl

tree_away : (roster : Roster) (all : List Told) → AreTold all → misfit all ≡ None → AreRecords (start_of roster all)
tree_away roster all t f = record {
  ordered = records_ordered all t;
  named = records_named all t;
  free = all_of (λ away. not (list_any (is_named away.server away.name) (tree_filesets all))) (tree_records all) (λ away i. ap not (record_free all t f away i));
  declared = all_of (λ away. is_declared (length (rooms_of all)) away.server) (tree_records all) (λ away i.
      let w = away_there all away i in ap (is_declared (length (rooms_of all))) w.1.server ∙ declared_at all t w.0 w.1.here);
  elsewhere = all_of (is_elsewhere (tree_filesets all)) (tree_records all) (record_elsewhere all t f);
}

trees : (roster : Roster) (all : List Told) → keeps_limits roster ≡ true → length all ≡ length roster.capacity → AreTold all → misfit all ≡ None → IsWellFormed (start_of roster all)
trees roster all k l t f = record {
  roster = k;
  servers = length-map all (λ told. let room : ServerRoom = record { capacity = told.kept.capacity; next = told.kept.next } in room) ∙ l;
  ordered = tree_ordered all t f;
  named = tree_named all t f;
  declared = all_of (λ fileset. is_declared (length (rooms_of all)) fileset.server) (tree_filesets all) (λ fileset i.
      let w = come_there all t f fileset i in ap (is_declared (length (rooms_of all))) w.2.is_in.server ∙ declared_at all t w.0 w.2.here);
  given = all_of (λ fileset. is_given (rooms_of all) fileset.id) (tree_filesets all) (λ fileset i.
      let w = come_there all t f fileset i in ap (is_given (rooms_of all)) w.2.is_in.id ∙ given_at all w.0 (fit_of all w.0 f w.2.here));
  filesets = all_formed (tree_filesets all) (λ fileset i. let w = come_there all t f fileset i in w.2.is_in.formed);
  clones = all_of rests_if_clone (tree_filesets all) (λ fileset i.
      let w = come_there all t f fileset i in ap (λ b. not fileset.read_only || b) w.2.is_in.rest ∙ or_true (not fileset.read_only));
  away = tree_away roster all t f;
  counted = tree_counted roster all t;
  promised = tree_promised roster all t f;
  numbers = rooms_number all (λ place told e.
      let w = t place told e in
      let next : told.kept.next ≡ w.0.next = ap (λ one. one.next) w.1.kept in
      let range = w.1.storable.next in
      let least = range.0 in
      let most = range.1 in
      (omega (arith, next, least), omega (arith, next, most)));
  locks = refl;
  opens = refl;
}

pub trees_start : TreesStart
trees_start roster all k l t f =
    let formed = trees roster all k l t f in
    let rest = tree_rests all t f in
    record {
      may = record { formed = formed; roster = refl; rest = rest; locks = refl; opens = refl };
      settled = λ none. record { formed = formed; roster = refl; rest = rest; locks = refl; opens = refl; rooms = tree_rooms all none };
    }
