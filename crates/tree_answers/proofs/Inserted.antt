-- Filesets, locks and opens that were put into their lists.
use Rattle.std.proofs.Common.{◌≡◌, ◌≢◌, ℕ, zero, suc, ◌+◌, ◌-◌, ◌/◌, ◌%◌, ◌<◌, ◌≤◌, ◌==◌, nat_lt, nat_le, Bool, true, false, ◌&&◌, ◌||◌, not, cond, List, [], ◌∷◌, length, insert, Some, None, unwrap_or, refl, sym, ap, ◌∙◌, subst, arith, inl, inr, rules}
use Rattle.std.specs.Prelude.{slice_get, slice_set, if◌then◌else◌}
use Rattle.std.specs.List.{find, list_any, list_all, position, prefix_len}
use Rattle.std.specs.Option.{option_map_or}
use Rattle.std.specs.Ordering.{is_eq, ordering_reverse, nat_cmp}
use Rattle.std.specs.declared.cmp.Ordering.{Ordering}
use Rattle.std.specs.declared.cmp.Ordering.TheVariants.{Less, Equal, Greater}
use Rattle.std.specs.Cmp.Lexicographic.{slice_cmp}
use Rattle.std.proofs.lemmas.Cmp.{nat_list_cmp_total}
use Rattle.std.proofs.lemmas.Map.Text.{is_eq-slice_cmp}
use Rattle.std.proofs.lemmas.Grind.{common_steps}
use Rattle.std.proofs.lemmas.Bool.Decides.{leb_tells, eqb_tells}
use Rattle.std.proofs.lemmas.Nat.{div-mul-add, mod-mul-add}
use Rattle.std.proofs.lemmas.Option.{slice_get_within}
use Rattle.base_types.specs.Name.{same_name}
use Rattle.base_types.specs.declared.ids.Fid.{Fid}
use Rattle.base_types.specs.declared.ids.FilesetId.{FilesetId}
use Rattle.base_types.specs.declared.ids.ServerId.{ServerId}
use Rattle.base_types.specs.declared.limits.TheConstants.{FILESET_NUMBER_MAX}
use Rattle.tree_objects.proofs.Observed.{and_left, and_right}
use Rattle.tree_objects.proofs.Rising.{and_both, all_implied}
use Rattle.tree_filesets.specs.declared.fileset.Fileset.{Fileset}
use Rattle.tree_filesets.specs.WellFormed.{IsWellFormed as IsWellFormedFileset}
use Rattle.tree_filesets.specs.Laws.{is_file_at}
use Rattle.tree_answers.specs.declared.tree.ServerRoom.{ServerRoom}
use Rattle.tree_answers.specs.Finding.{is_named, has_id, id_place}
use Rattle.tree_answers.specs.Away.{is_away_named}
use Rattle.tree_answers.proofs.Places.{not_true}
use Rattle.tree_answers.proofs.Totals.{total, sum_total, total_insert}
use Rattle.tree_filesets.specs.Promises.{promise}
use Rattle.tree_answers.specs.declared.tree.Away.{Away}
use Rattle.tree_answers.specs.Founding.{room_of, next_id, promised, away_promise, away_promised, fileset_count}
use Rattle.tree_answers.specs.WellFormed.{ids_rise, names_differ, is_declared, is_given, AreWellFormed, is_elsewhere, names_file}

-- what holds of one and of all others
pub all_insert : {X : Type 0} (p : X → Bool) (x : X) (i : ℕ) (xs : List X) → p x ≡ true → list_all p xs ≡ true → list_all p (insert xs i x) ≡ true
all_insert p x zero xs h k = and_both _ _ h k
all_insert p x (suc i) [] h k = and_both _ _ h refl
all_insert p x (suc i) (y ∷ ys) h k = and_both _ _ (and_left _ _ k) (all_insert p x i ys h (and_right _ _ k))

pub or_both : (a b : Bool) → a ≡ false → b ≡ false → (a || b) ≡ false
or_both a b h k = rw (h, k) refl

pub or_first : (a b : Bool) → (a || b) ≡ false → a ≡ false
or_first true b h = h
or_first false b h = refl

pub or_second : (a b : Bool) → (a || b) ≡ false → b ≡ false
or_second true b h = absurd (search (rules, h))
or_second false b h = h

-- what holds of none
pub any_insert : {X : Type 0} (p : X → Bool) (x : X) (i : ℕ) (xs : List X) → p x ≡ false → list_any p xs ≡ false → list_any p (insert xs i x) ≡ false
any_insert p x zero xs h k = or_both _ _ h k
any_insert p x (suc i) [] h k = or_both _ _ h refl
any_insert p x (suc i) (y ∷ ys) h k = or_both _ _ (or_first _ _ k) (any_insert p x i ys h (or_second _ _ k))

-- what is found beside one that isn't sought
pub find_insert : {X : Type 0} (p : X → Bool) (x : X) (i : ℕ) (xs : List X) → p x ≡ false → find p (insert xs i x) ≡ find p xs
find_insert p x zero xs h = rw h refl
find_insert p x (suc i) [] h = rw h refl
find_insert p x (suc i) (y ∷ ys) h = ap (λ o. cond (p y) (Some y) o) (find_insert p x i ys h)

-- a front is no longer than the whole
prefix_within : {X : Type 0} (p : X → Bool) (xs : List X) → prefix_len p xs ≤ length xs
prefix_within p [] = omega arith
prefix_within p (x ∷ xs) =
    let rest = prefix_within p xs in
    elim (p x) as (λ t. cond t (1 + prefix_len p xs) 0 ≤ suc (length xs)) [ true ↦ omega (arith, rest) | false ↦ omega arith ]

-- where the first stands, or the end
pub position_or_end : {X : Type 0} (p : X → Bool) (xs : List X) → unwrap_or (position p xs) (length xs) ≡ prefix_len (λ x. not (p x)) xs
position_or_end p xs =
    let within = prefix_within (λ x. not (p x)) xs in
    elim (leb_tells (suc (prefix_len (λ x. not (p x)) xs)) (length xs)) as (λ _. unwrap_or (cond (nat_lt (prefix_len (λ x. not (p x)) xs) (length xs)) (Some (prefix_len (λ x. not (p x)) xs)) None) (length xs) ≡ prefix_len (λ x. not (p x)) xs)
    [ inl (e, h) ↦ rw e refl | inr (e, h) ↦ rw e (omega (arith, within, h)) ]

-- what stands there is what is found
pub found_there : {X : Type 0} (p : X → Bool) (xs : List X) (x : X) → Some x ≡ slice_get xs (prefix_len (λ x. not (p x)) xs) → find p xs ≡ Some x
found_there p [] x = λ h. absurd (search (rules, h))
found_there p (y ∷ ys) x =
    let one : 1 + prefix_len (λ x. not (p x)) ys ≡ suc (prefix_len (λ x. not (p x)) ys) = omega arith in
    elim (p y) as (λ t. Some x ≡ slice_get (y ∷ ys) (cond (not t) (1 + prefix_len (λ x. not (p x)) ys) 0) → cond t (Some y) (find p ys) ≡ Some x)
    [ true ↦ λ h. sym h | false ↦ λ h. found_there p ys x (subst (λ k. Some x ≡ slice_get (y ∷ ys) k) one h) ]

-- no fileset has the id
abbrev pub IsFresh : List Fileset → FilesetId → Type 0
IsFresh filesets id = list_all (λ fileset. not (fileset.id.0 == id.0)) filesets ≡ true

pub not_same : (a b : ℕ) → not (a == b) ≡ true → a ≢ b
not_same a b h k = let e : (a == b) ≡ true = grind (arith, common_steps, k) in let wrong : not true ≡ true = subst (λ t. not t ≡ true) e h in search (rules, wrong)

-- ids still rise
rise_insert : (new : Fileset) (filesets : List Fileset) → IsFresh filesets new.id → ids_rise filesets ≡ true → ids_rise (insert filesets (prefix_len (λ fileset. not (nat_lt new.id.0 fileset.id.0)) filesets) new) ≡ true
rise_insert new [] f h = refl
rise_insert new (x ∷ xs) f h =
    let one : 1 + prefix_len (λ fileset. not (nat_lt new.id.0 fileset.id.0)) xs ≡ suc (prefix_len (λ fileset. not (nat_lt new.id.0 fileset.id.0)) xs) = omega arith in
    let rest = rise_insert new xs (and_right _ _ f) (and_right _ _ h) in
    let other : x.id.0 ≢ new.id.0 = not_same _ _ (and_left _ _ f) in
    elim (leb_tells (suc new.id.0) x.id.0) as (λ _. ids_rise (insert (x ∷ xs) (cond (not (nat_lt new.id.0 x.id.0)) (1 + prefix_len (λ fileset. not (nat_lt new.id.0 fileset.id.0)) xs) 0) new) ≡ true) [
      | inl (e, k) ↦
          let l : nat_lt new.id.0 x.id.0 ≡ true = grind (arith, common_steps, k) in
          let later : list_all (λ other. nat_lt new.id.0 other.id.0) xs ≡ true = all_implied (λ other. nat_lt x.id.0 other.id.0) (λ other. nat_lt new.id.0 other.id.0) (λ o m. grind (arith, common_steps, k, m)) xs (and_left _ _ h) in
          rw l (and_both _ _ (and_both _ _ l later) h)
      | inr (e, k) ↦
          let l : nat_lt new.id.0 x.id.0 ≡ false = grind (arith, common_steps, k) in
          let less : x.id.0 < new.id.0 = omega (arith, k, other) in
          let m : nat_lt x.id.0 new.id.0 ≡ true = grind (arith, common_steps, less) in
          rw (l, one) (and_both _ _ (all_insert (λ other. nat_lt x.id.0 other.id.0) new (prefix_len (λ fileset. not (nat_lt new.id.0 fileset.id.0)) xs) xs m (and_left _ _ h)) rest)
    ]

pub ordered_insert : (new : Fileset) (filesets : List Fileset) → IsFresh filesets new.id → ids_rise filesets ≡ true → ids_rise (insert filesets (id_place filesets new.id) new) ≡ true
ordered_insert new filesets f h = ap (λ i. ids_rise (insert filesets i new)) (position_or_end (λ fileset. nat_lt new.id.0 fileset.id.0) filesets) ∙ rise_insert new filesets f h

-- names are the same either way
is_eq_reverse : (o : Ordering) → is_eq (ordering_reverse o) ≡ is_eq o
is_eq_reverse Less = refl
is_eq_reverse Equal = refl
is_eq_reverse Greater = refl

pub same_name_sym : (a b : List ℕ) → same_name a b ≡ same_name b a
same_name_sym a b = sym (is_eq-slice_cmp a b) ∙ ap is_eq (nat_list_cmp_total.antisymm a b) ∙ is_eq_reverse (slice_cmp nat_cmp b a) ∙ is_eq-slice_cmp b a

pub eq_sym : (a b : ℕ) → (a == b) ≡ (b == a)
eq_sym a b = elim (eqb_tells a b) as (λ _. (a == b) ≡ (b == a)) [
  | inl (e, k) ↦ let f : (b == a) ≡ true = grind (arith, common_steps, k) in rw (e, f) refl
  | inr (e, k) ↦ let f : (b == a) ≡ false = grind (arith, common_steps, k) in rw (e, f) refl
]

pub named_sym : (a b : Fileset) → is_named a.server a.name b ≡ is_named b.server b.name a
named_sym a b = ap (λ t. t && same_name b.name a.name) (eq_sym b.server.0 a.server.0) ∙ ap (λ t. (a.server.0 == b.server.0) && t) (same_name_sym b.name a.name)

-- names still differ
pub named_insert : (new : Fileset) (i : ℕ) (filesets : List Fileset) → list_any (is_named new.server new.name) filesets ≡ false → names_differ filesets ≡ true → names_differ (insert filesets i new) ≡ true
named_insert new zero filesets h k = and_both _ _ (ap not h) k
named_insert new (suc i) [] h k = refl
named_insert new (suc i) (x ∷ xs) h k =
    let other : is_named x.server x.name new ≡ false = named_sym x new ∙ or_first _ _ h in
    let not_those : list_any (is_named x.server x.name) xs ≡ false = not_false _ (and_left _ _ k) in
    and_both _ _ (ap not (any_insert (is_named x.server x.name) new i xs other not_those)) (named_insert new i xs (or_second _ _ h) (and_right _ _ k))
  where
    not_false : (b : Bool) → not b ≡ true → b ≡ false
    not_false true h = absurd (search (rules, h))
    not_false false h = refl

-- a fileset has the name of a record exactly where the record has that of the fileset
pub away_sym : (fileset : Fileset) (away : Away) → is_named away.server away.name fileset ≡ is_away_named fileset.server fileset.name away
away_sym fileset away = ap (λ t. t && same_name fileset.name away.name) (eq_sym fileset.server.0 away.server.0) ∙ ap (λ t. (away.server.0 == fileset.server.0) && t) (same_name_sym fileset.name away.name)

-- no fileset has the name of a record
pub free_insert : (new : Fileset) (i : ℕ) (filesets : List Fileset) (away : Away) → not (is_away_named new.server new.name away) ≡ true →
    not (list_any (is_named away.server away.name) filesets) ≡ true → not (list_any (is_named away.server away.name) (insert filesets i new)) ≡ true
free_insert new i filesets away other free =
    ap not (any_insert (is_named away.server away.name) new i filesets (away_sym new away ∙ not_true _ other) (not_true _ free))

-- all are well formed
pub formed_insert : (new : Fileset) (i : ℕ) (filesets : List Fileset) → IsWellFormedFileset new → AreWellFormed filesets → AreWellFormed (insert filesets i new)
formed_insert new zero filesets h k = (h, k)
formed_insert new (suc i) [] h k = (h, tt)
formed_insert new (suc i) (x ∷ xs) h k = (k.0, formed_insert new i xs h k.1)

-- what is told of a fileset that is there
other_id : (test : Fileset → Bool) (filesets : List Fileset) (id sought : FilesetId) → IsFresh filesets id → option_map_or test (find (has_id sought) filesets) false ≡ true → (id.0 == sought.0) ≡ false
other_id test [] id sought f = λ h. absurd (search (rules, h))
other_id test (x ∷ xs) id sought f =
    elim (eqb_tells x.id.0 sought.0) as (λ _. option_map_or test (find (has_id sought) (x ∷ xs)) false ≡ true → (id.0 == sought.0) ≡ false) [
      | inl (e, k) ↦ λ h. let other : x.id.0 ≢ id.0 = not_same _ _ (and_left _ _ f) in let apart : id.0 ≢ sought.0 = λ s. other (k ∙ sym s) in grind (arith, common_steps, apart)
      | inr (e, k) ↦ rw e (λ h. other_id test xs id sought (and_right _ _ f) h)
    ]

pub told_insert : (test : Fileset → Bool) (new : Fileset) (i : ℕ) (filesets : List Fileset) (sought : FilesetId) → IsFresh filesets new.id → option_map_or test (find (has_id sought) filesets) false ≡ true →
    find (has_id sought) (insert filesets i new) ≡ find (has_id sought) filesets
told_insert test new i filesets sought f h = find_insert (has_id sought) new i filesets (other_id test filesets new.id sought f h)

-- the files that are named are there
pub names_insert : (new : Fileset) (i : ℕ) (filesets : List Fileset) (fid : Fid) → IsFresh filesets new.id → names_file filesets fid ≡ true → names_file (insert filesets i new) fid ≡ true
names_insert new i filesets fid f h = ap (λ o. option_map_or (λ fileset. is_file_at fileset fid) o false) (told_insert (λ fileset. is_file_at fileset fid) new i filesets fid.fileset f h) ∙ h

-- and the filesets that records tell of
pub elsewhere_insert : (new : Fileset) (i : ℕ) (filesets : List Fileset) (away : Away) → IsFresh filesets new.id → is_elsewhere filesets away ≡ true → is_elsewhere (insert filesets i new) away ≡ true
elsewhere_insert new i filesets away f h =
    let test : Fileset → Bool = λ fileset. not (fileset.server.0 == away.server.0) && same_name fileset.name away.name in
    ap (λ o. option_map_or test o false) (told_insert test new i filesets away.fileset f h) ∙ h

-- how many filesets a server has, and what they are promised
pub count_insert : (new : Fileset) (i : ℕ) (filesets : List Fileset) (server : ServerId) → fileset_count server (insert filesets i new) ≡ cond (new.server.0 == server.0) 1 0 + fileset_count server filesets
count_insert new i filesets server =
    let one : Fileset → ℕ = λ fileset. cond (fileset.server.0 == server.0) 1 0 in
    sum_total one (insert filesets i new) ∙ total_insert one new i filesets ∙ ap (λ n. one new + n) (sym (sum_total one filesets))

pub promised_total : (server : ServerId) (filesets : List Fileset) → promised server filesets ≡ total (λ fileset. if fileset.server.0 == server.0 then promise fileset else 0) filesets
promised_total server [] = refl
promised_total server (x ∷ xs) = ap (λ n. (if x.server.0 == server.0 then promise x else 0) + n) (promised_total server xs)

pub promised_insert : (new : Fileset) (i : ℕ) (filesets : List Fileset) (server : ServerId) → promised server (insert filesets i new) ≡ (if new.server.0 == server.0 then promise new else 0) + promised server filesets
promised_insert new i filesets server =
    let blocks : Fileset → ℕ = λ fileset. if fileset.server.0 == server.0 then promise fileset else 0 in
    promised_total server (insert filesets i new) ∙ total_insert blocks new i filesets ∙ ap (λ n. blocks new + n) (sym (promised_total server filesets))

pub away_promised_insert : (new : Fileset) (i : ℕ) (filesets : List Fileset) (records : List Away) (server : ServerId) → IsFresh filesets new.id → list_all (is_elsewhere filesets) records ≡ true →
    away_promised server (insert filesets i new) records ≡ away_promised server filesets records
away_promised_insert new i filesets [] server f h = refl
away_promised_insert new i filesets (away ∷ records) server f h =
    let test : Fileset → Bool = λ fileset. not (fileset.server.0 == away.server.0) && same_name fileset.name away.name in
    ap (λ o. (if away.server.0 == server.0 then (if away.room_kept then option_map_or promise o 0 else 0) else 0) + away_promised server (insert filesets i new) records)
    (told_insert test new i filesets away.fileset f (and_left _ _ h))
    ∙ ap (λ n. (if away.server.0 == server.0 then away_promise filesets away else 0) + n) (away_promised_insert new i filesets records server f (and_right _ _ h))

-- what a server has after one of its numbers was given
pub set_here : (rooms : List ServerRoom) (i : ℕ) (old room : ServerRoom) → slice_get rooms i ≡ Some old → slice_get (slice_set rooms i room) i ≡ Some room
set_here [] i old room h = absurd (search (rules, h))
set_here (x ∷ xs) zero old room h = refl
set_here (x ∷ xs) (suc i) old room h = set_here xs i old room h

pub set_other : (rooms : List ServerRoom) (i j : ℕ) (room : ServerRoom) → j ≢ i → slice_get (slice_set rooms i room) j ≡ slice_get rooms j
set_other [] i j room h = refl
set_other (x ∷ xs) zero zero room h = absurd (h refl)
set_other (x ∷ xs) zero (suc j) room h = refl
set_other (x ∷ xs) (suc i) zero room h = refl
set_other (x ∷ xs) (suc i) (suc j) room h = set_other xs i j room (λ e. h (ap suc e))

-- the room of a server that is there
pub room_within : (rooms : List ServerRoom) (server : ServerId) (room : ServerRoom) → room_of rooms server ≡ Some room → (server.0 ≢ 0) × (slice_get rooms (server.0 - 1) ≡ Some room)
room_within rooms server room =
    elim (eqb_tells server.0 0) as (λ _. room_of rooms server ≡ Some room → (server.0 ≢ 0) × (slice_get rooms (server.0 - 1) ≡ Some room))
    [ inl (e, k) ↦ rw e (λ h. absurd (search (rules, h))) | inr (e, k) ↦ rw e (λ h. (k, h)) ]

-- a server that has room is declared
pub declared_by_room : (rooms : List ServerRoom) (server : ServerId) (room : ServerRoom) → room_of rooms server ≡ Some room → is_declared (length rooms) server ≡ true
declared_by_room rooms server room h =
    let (some, there) = room_within rooms server room h in
    let inside = slice_get_within rooms (server.0 - 1) room there in
    let low : 1 ≤ server.0 = omega (arith, some) in let high : server.0 ≤ length rooms = omega (arith, some, inside) in
    let a : nat_le 1 server.0 ≡ true = grind (arith, common_steps, low) in let b : nat_le server.0 (length rooms) ≡ true = grind (arith, common_steps, high) in
    and_both _ _ a b

-- the number of a server's next fileset
pub number_of : (server : ServerId) (room : ServerRoom) → room.next ≤ FILESET_NUMBER_MAX → ((next_id server room).0 / 65536 ≡ server.0) × ((next_id server room).0 % 65536 ≡ room.next)
number_of server room h = let below : room.next < 65536 = omega (arith, h) in (div-mul-add server.0 65536 room.next below, mod-mul-add server.0 65536 room.next below)

-- whether a server gave a number
abbrev given_by : List ServerRoom → ℕ → ℕ → Bool
given_by rooms server number = option_map_or (λ room. nat_lt number room.next) (room_of rooms (record { 0 = server })) true

-- that number was given to no other fileset
fresh_one : (rooms : List ServerRoom) (server : ServerId) (room : ServerRoom) (id : FilesetId) → room.next ≤ FILESET_NUMBER_MAX → room_of rooms server ≡ Some room → is_given rooms id ≡ true → not (id.0 == (next_id server room).0) ≡ true
fresh_one rooms server room id h r g =
    elim (eqb_tells id.0 (next_id server room).0) as (λ _. not (id.0 == (next_id server room).0) ≡ true) [
      | inl (e, k) ↦
          let (quotient, rest) = number_of server room h in
          let half : given_by rooms server.0 (id.0 % 65536) ≡ true = subst (λ q. given_by rooms q (id.0 % 65536) ≡ true) (ap (λ n. n / 65536) k ∙ quotient) g in
          let here : given_by rooms server.0 room.next ≡ true = subst (λ n. given_by rooms server.0 n ≡ true) (ap (λ n. n % 65536) k ∙ rest) half in
          let wrong : nat_lt room.next room.next ≡ true = subst (λ o. option_map_or (λ x. nat_lt room.next x.next) o true ≡ true) r here in
          let less : room.next < room.next = grind (arith, common_steps, wrong) in absurd (omega (arith, less))
      | inr (e, k) ↦ rw e refl
    ]

pub fresh_id : (rooms : List ServerRoom) (server : ServerId) (room : ServerRoom) (filesets : List Fileset) → room.next ≤ FILESET_NUMBER_MAX → room_of rooms server ≡ Some room →
    list_all (λ fileset. is_given rooms fileset.id) filesets ≡ true → IsFresh filesets (next_id server room)
fresh_id rooms server room filesets h r g =
    all_implied (λ fileset. is_given rooms fileset.id) (λ fileset. not (fileset.id.0 == (next_id server room).0)) (λ fileset k. fresh_one rooms server room fileset.id h r k) filesets g

-- numbers that were given stay given
still_by : (rooms : List ServerRoom) (server : ServerId) (room : ServerRoom) (q n : ℕ) → room_of rooms server ≡ Some room → given_by rooms q n ≡ true →
    given_by (slice_set rooms (server.0 - 1) (record room { next = room.next + 1 })) q n ≡ true
still_by rooms server room q n r =
    let (some, there) = room_within rooms server room r in
    let raised : ServerRoom = record room { next = room.next + 1 } in
    let after = slice_set rooms (server.0 - 1) raised in
    elim (eqb_tells q 0) as (λ _. given_by rooms q n ≡ true → given_by after q n ≡ true) [
      | inl (e, k) ↦ rw e (λ g. refl)
      | inr (e, k) ↦ rw e (elim (eqb_tells (q - 1) (server.0 - 1)) as (λ _. option_map_or (λ x. nat_lt n x.next) (slice_get rooms (q - 1)) true ≡ true → option_map_or (λ x. nat_lt n x.next) (slice_get after (q - 1)) true ≡ true) [
        | inl (f, same) ↦ λ g.
            let was : nat_lt n room.next ≡ true = subst (λ o. option_map_or (λ x. nat_lt n x.next) o true ≡ true) (ap (λ i. slice_get rooms i) same ∙ there) g in
            let now : slice_get after (q - 1) ≡ Some raised = ap (λ i. slice_get after i) same ∙ set_here rooms (server.0 - 1) room raised there in
            let more : nat_lt n (room.next + 1) ≡ true = grind (arith, common_steps, was) in
            subst (λ o. option_map_or (λ x. nat_lt n x.next) o true ≡ true) (sym now) more
        | inr (f, other) ↦ λ g. subst (λ o. option_map_or (λ x. nat_lt n x.next) o true ≡ true) (sym (set_other rooms (server.0 - 1) (q - 1) raised other)) g
      ])
    ]

still_given : (rooms : List ServerRoom) (server : ServerId) (room : ServerRoom) (id : FilesetId) → room_of rooms server ≡ Some room → is_given rooms id ≡ true →
    is_given (slice_set rooms (server.0 - 1) (record room { next = room.next + 1 })) id ≡ true
still_given rooms server room id r g = still_by rooms server room (id.0 / 65536) (id.0 % 65536) r g

pub given_after : (rooms : List ServerRoom) (server : ServerId) (room : ServerRoom) (filesets : List Fileset) → room_of rooms server ≡ Some room → list_all (λ fileset. is_given rooms fileset.id) filesets ≡ true →
    list_all (λ fileset. is_given (slice_set rooms (server.0 - 1) (record room { next = room.next + 1 })) fileset.id) filesets ≡ true
given_after rooms server room filesets r g =
    all_implied (λ fileset. is_given rooms fileset.id) (λ fileset. is_given (slice_set rooms (server.0 - 1) (record room { next = room.next + 1 })) fileset.id) (λ fileset k. still_given rooms server room fileset.id r k) filesets g

-- the number is given now
pub given_now : (rooms : List ServerRoom) (server : ServerId) (room : ServerRoom) → room.next ≤ FILESET_NUMBER_MAX → room_of rooms server ≡ Some room →
    is_given (slice_set rooms (server.0 - 1) (record room { next = room.next + 1 })) (next_id server room) ≡ true
given_now rooms server room h r =
    let (some, there) = room_within rooms server room r in
    let (quotient, rest) = number_of server room h in
    let raised : ServerRoom = record room { next = room.next + 1 } in
    let after = slice_set rooms (server.0 - 1) raised in
    let zero_not : (server.0 == 0) ≡ false = grind (arith, common_steps, some) in
    let now : room_of after server ≡ Some raised = ap (λ t. cond t None (slice_get after (server.0 - 1))) zero_not ∙ set_here rooms (server.0 - 1) room raised there in
    let more : nat_lt room.next (room.next + 1) ≡ true = grind (arith, common_steps) in
    let here : given_by after server.0 room.next ≡ true = subst (λ o. option_map_or (λ x. nat_lt room.next x.next) o true ≡ true) (sym now) more in
    let half : given_by after server.0 ((next_id server room).0 % 65536) ≡ true = subst (λ n. given_by after server.0 n ≡ true) (sym rest) here in
    subst (λ q. given_by after q ((next_id server room).0 % 65536) ≡ true) (sym quotient) half
