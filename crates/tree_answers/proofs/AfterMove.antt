-- A tree in which a fileset moved is well formed.
use Rattle.std.proofs.Common.{◌≡◌, ℕ, zero, suc, ◌+◌, ◌<◌, ◌≤◌, ◌==◌, nat_le, nat_lt, Bool, true, false, ◌&&◌, ◌||◌, ◌⊎◌, not, cond, List, [], ◌∷◌, length, insert, filter, Some, refl, sym, ap, ◌∙◌, subst, arith, rules, inl, inr}
use Rattle.std.specs.Prelude.{slice_get, slice_set, if◌then◌else◌}
use Rattle.std.specs.List.{find, list_any, list_all, prefix_len}
use Rattle.std.specs.Option.{option_map_or}
use Rattle.std.proofs.lemmas.Grind.{common_steps}
use Rattle.std.proofs.lemmas.Bool.Decides.{eqb_tells}
use Rattle.base_types.specs.Name.{same_name}
use Rattle.base_types.specs.declared.ids.Fid.{Fid}
use Rattle.base_types.specs.declared.ids.FilesetId.{FilesetId}
use Rattle.base_types.specs.declared.ids.ServerId.{ServerId}
use Rattle.base_types.specs.declared.limits.TheConstants.{FILESETS_MAX}
use Rattle.tree_objects.proofs.Observed.{and_left, and_right}
use Rattle.tree_objects.proofs.Rising.{and_both, all_filter, all_implied}
use Rattle.tree_filesets.specs.declared.fileset.Fileset.{Fileset}
use Rattle.tree_filesets.specs.declared.fileset.TheConstants.{MOVES_MAX}
use Rattle.tree_filesets.specs.Founding.{moved}
use Rattle.tree_filesets.specs.Promises.{promise}
use Rattle.tree_filesets.specs.WellFormed.{IsWellFormed as IsWellFormedFileset}
use Rattle.tree_filesets.specs.Laws.{is_file_at}
use Rattle.tree_filesets.proofs.Moved.{moved_rests}
use Rattle.tree_filesets.proofs.Names.{same_self}
use Rattle.tree_filesets.proofs.StaysWellFormed.{stays_well_formed_moved}
use Rattle.tree_answers.specs.declared.tree.Away.{Away}
use Rattle.tree_answers.specs.declared.tree.ServerRoom.{ServerRoom}
use Rattle.tree_answers.specs.declared.tree.Tree.{Tree}
use Rattle.tree_answers.specs.Away.{is_away, is_away_named, has_away, away_before, away_place, with_away, without_away}
use Rattle.tree_answers.specs.Finding.{is_named, has_id}
use Rattle.tree_answers.specs.Founding.{promised, away_promise, away_promised, promised_at, fileset_count, away_count, count_at, room_of}
use Rattle.tree_answers.specs.Moving.{is_fileset_used, is_taken_by_other, left_by, with_moved}
use Rattle.tree_answers.specs.WellFormed.{ids_rise, names_differ, is_declared, is_given, AreWellFormed, records_rise, record_names_differ, is_elsewhere, AreRecords, rests_if_clone, names_file, IsWellFormed}
use Rattle.tree_answers.proofs.Places.{equal_is, get_all, find_put, find_put_other, find_at_place, all_set, none_all, not_true}
use Rattle.tree_answers.proofs.Inserted.{all_insert, any_insert, position_or_end, or_both, or_first, or_second, eq_sym, same_name_sym, named_sym, away_sym, declared_by_room, promised_total}
use Rattle.tree_answers.proofs.Followed.{all_both}
use Rattle.tree_answers.proofs.Totals.{total, sum_total, total_insert, total_set, total_filter, total_drop}

-- what the checks of a move say of the fileset at a place
pub record IsMove (tree : Tree) (place : ℕ) (fileset : Fileset) (to : ServerId) : Type 0 where
  pub there : Some fileset ≡ slice_get tree.filesets place
  pub writable : fileset.read_only ≡ false
  pub goes : (fileset.server.0 == to.0) ≡ false
  pub unused : is_fileset_used tree.locks tree.opens fileset.id ≡ false
  pub moves : fileset.moves < MOVES_MAX
  pub free : is_taken_by_other tree to fileset ≡ false
  pub room : ServerRoom
  pub declared : room_of tree.servers to ≡ Some room
  pub counted : (not (has_away tree.away to fileset.id) && nat_le FILESETS_MAX (count_at tree to)) ≡ false
  pub fits : promised_at tree to + promise fileset ≤ room.capacity

-- one of a list is replaced
pub any_put : {X : Type 0} (p : X → Bool) (xs : List X) (i : ℕ) (x : X) → p x ≡ false → list_any p xs ≡ false → list_any p (slice_set xs i x) ≡ false
any_put p [] i x h k = k
any_put p (y ∷ ys) zero x h k = or_both _ _ h (or_second _ _ k)
any_put p (y ∷ ys) (suc i) x h k = or_both _ _ (or_first _ _ k) (any_put p ys i x h (or_second _ _ k))

-- what holds of none doesn't hold of the one at a place
pub get_none : {X : Type 0} (p : X → Bool) (xs : List X) (i : ℕ) (x : X) → Some x ≡ slice_get xs i → list_any p xs ≡ false → p x ≡ false
get_none p xs i x h k = not_true (p x) (get_all (λ y. not (p y)) xs i x h (none_all p xs k))

all_put_same : {X : Type 0} (q : X → Bool) (xs : List X) (i : ℕ) (old new : X) → Some old ≡ slice_get xs i → q new ≡ q old → list_all q (slice_set xs i new) ≡ list_all q xs
all_put_same q [] i old new h k = refl
all_put_same q (y ∷ ys) zero old new h k = let same : q old ≡ q y = ap q (let s : old ≡ y = cc in s) in ap (λ t. t && list_all q ys) (k ∙ same)
all_put_same q (y ∷ ys) (suc i) old new h k = ap (λ t. q y && t) (all_put_same q ys i old new h k)

rise_put : (filesets : List Fileset) (i : ℕ) (old new : Fileset) → Some old ≡ slice_get filesets i → new.id ≡ old.id → ids_rise (slice_set filesets i new) ≡ ids_rise filesets
rise_put [] i old new h k = refl
rise_put (y ∷ ys) zero old new h k = let same : old.id ≡ y.id = ap (λ f. f.id) (let s : old ≡ y = cc in s) in ap (λ id. list_all (λ other. nat_lt id.0 other.id.0) ys && ids_rise ys) (k ∙ same)
rise_put (y ∷ ys) (suc i) old new h k =
    ap (λ t. t && ids_rise (slice_set ys i new)) (all_put_same (λ other. nat_lt y.id.0 other.id.0) ys i old new h (ap (λ id. nat_lt y.id.0 id.0) k))
    ∙ ap (λ t. list_all (λ other. nat_lt y.id.0 other.id.0) ys && t) (rise_put ys i old new h k)

names_put : (filesets : List Fileset) (i : ℕ) (new : Fileset) → names_differ filesets ≡ true → list_any (is_named new.server new.name) filesets ≡ false → names_differ (slice_set filesets i new) ≡ true
names_put [] i new h k = h
names_put (y ∷ ys) zero new h k =
    let none : list_any (is_named new.server new.name) ys ≡ false = or_second (is_named new.server new.name y) (list_any (is_named new.server new.name) ys) k in
    let rest : names_differ ys ≡ true = and_right (not (list_any (is_named y.server y.name) ys)) (names_differ ys) h in
    and_both (not (list_any (is_named new.server new.name) ys)) (names_differ ys) (ap not none) rest
names_put (y ∷ ys) (suc i) new h k =
    let other : is_named y.server y.name new ≡ false = named_sym y new ∙ or_first _ _ k in
    and_both _ _ (ap not (any_put (is_named y.server y.name) ys i new other (not_true _ (and_left _ _ h)))) (names_put ys i new (and_right _ _ h) (or_second _ _ k))

-- no other fileset has its name
pub alone_put : (filesets : List Fileset) (i : ℕ) (old new : Fileset) → Some old ≡ slice_get filesets i → names_differ filesets ≡ true → is_named old.server old.name new ≡ false →
    list_any (is_named old.server old.name) (slice_set filesets i new) ≡ false
alone_put [] i old new h k m = refl
alone_put (y ∷ ys) zero old new h k m =
    let same : old ≡ y = cc in
    let rest : list_any (is_named old.server old.name) ys ≡ false = subst (λ f. list_any (is_named f.server f.name) ys ≡ false) (sym same) (not_true _ (and_left _ _ k)) in
    or_both _ _ m rest
alone_put (y ∷ ys) (suc i) old new h k m =
    let other : is_named y.server y.name old ≡ false = get_none (is_named y.server y.name) ys i old h (not_true _ (and_left _ _ k)) in
    or_both _ _ (named_sym old y ∙ other) (alone_put ys i old new h (and_right _ _ k) m)

formed_put : (filesets : List Fileset) (i : ℕ) (new : Fileset) → IsWellFormedFileset new → AreWellFormed filesets → AreWellFormed (slice_set filesets i new)
formed_put [] i new h k = k
formed_put (y ∷ ys) zero new h k = (h, k.1)
formed_put (y ∷ ys) (suc i) new h k = (k.0, formed_put ys i new h k.1)

pub formed_get : (filesets : List Fileset) (i : ℕ) (fileset : Fileset) → Some fileset ≡ slice_get filesets i → AreWellFormed filesets → IsWellFormedFileset fileset
formed_get [] i fileset h k = absurd (search (rules, h))
formed_get (y ∷ ys) zero fileset h k = let same : y ≡ fileset = cc in subst IsWellFormedFileset same k.0
formed_get (y ∷ ys) (suc i) fileset h k = formed_get ys i fileset h k.1

-- a file of another fileset
file_put : (filesets : List Fileset) (i : ℕ) (old new : Fileset) (id : FilesetId) (test : Fileset → Bool) → Some old ≡ slice_get filesets i → new.id ≡ old.id → (id.0 == old.id.0) ≡ false →
    option_map_or test (find (has_id id) filesets) false ≡ true → option_map_or test (find (has_id id) (slice_set filesets i new)) false ≡ true
file_put filesets i old new id test h k other found = ap (λ o. option_map_or test o false) (find_put_other id filesets i old new h k (eq_sym old.id.0 id.0 ∙ other)) ∙ found

-- records in their order
or_true : (b : Bool) → (b || true) ≡ true
or_true true = refl
or_true false = refl

comes_after : (new x : Away) → is_away new.server new.fileset x ≡ false → away_before new.server new.fileset x ≡ false → away_before x.server x.fileset new ≡ true
comes_after new x other before =
    elim (eqb_tells new.server.0 x.server.0) as (λ _. away_before x.server x.fileset new ≡ true) [
      | inl (e, k) ↦
          let back : (x.server.0 == new.server.0) ≡ true = eq_sym x.server.0 new.server.0 ∙ e in
          let not_id : (x.fileset.0 == new.fileset.0) ≡ false = subst (λ t. (t && (x.fileset.0 == new.fileset.0)) ≡ false) back other in
          let no_later : nat_lt new.fileset.0 x.fileset.0 ≡ false = subst (λ t. (t && nat_lt new.fileset.0 x.fileset.0) ≡ false) e (or_second _ _ before) in
          let less : nat_lt x.fileset.0 new.fileset.0 ≡ true = grind (arith, common_steps, not_id, no_later) in
          rw (back, less) (or_true _)
      | inr (e, k) ↦
          let no_later : nat_lt new.server.0 x.server.0 ≡ false = or_first _ _ before in
          let less : nat_lt x.server.0 new.server.0 ≡ true = grind (arith, common_steps, e, no_later) in
          rw less refl
    ]

before_trans : (a b c : Away) → away_before a.server a.fileset b ≡ true → away_before b.server b.fileset c ≡ true → away_before a.server a.fileset c ≡ true
before_trans a b c h k = grind (arith, common_steps, h, k)

records_insert : (new : Away) (records : List Away) → list_any (is_away new.server new.fileset) records ≡ false → records_rise records ≡ true →
    records_rise (insert records (prefix_len (λ away. not (away_before new.server new.fileset away)) records) new) ≡ true
records_insert new [] f h = refl
records_insert new (x ∷ xs) f h =
    let one : 1 + prefix_len (λ away. not (away_before new.server new.fileset away)) xs ≡ suc (prefix_len (λ away. not (away_before new.server new.fileset away)) xs) = omega arith in
    let rest = records_insert new xs (or_second _ _ f) (and_right _ _ h) in
    by_test (away_before new.server new.fileset x) refl one rest
  where
    by_test : (b : Bool) → away_before new.server new.fileset x ≡ b →
        (1 + prefix_len (λ away. not (away_before new.server new.fileset away)) xs ≡ suc (prefix_len (λ away. not (away_before new.server new.fileset away)) xs)) →
        records_rise (insert xs (prefix_len (λ away. not (away_before new.server new.fileset away)) xs) new) ≡ true →
        records_rise (insert (x ∷ xs) (cond (not b) (1 + prefix_len (λ away. not (away_before new.server new.fileset away)) xs) 0) new) ≡ true
    by_test true e one rest =
        let later = all_implied (away_before x.server x.fileset) (away_before new.server new.fileset) (λ o m. before_trans new x o e m) xs (and_left _ _ h) in
        and_both _ _ (and_both _ _ e later) h
    by_test false e one rest =
        let behind : away_before x.server x.fileset new ≡ true = comes_after new x (or_first _ _ f) e in
        rw one (and_both _ _ (all_insert (away_before x.server x.fileset) new (prefix_len (λ away. not (away_before new.server new.fileset away)) xs) xs behind (and_left _ _ h)) rest)

pub ordered_away : (new : Away) (records : List Away) → list_any (is_away new.server new.fileset) records ≡ false → records_rise records ≡ true → records_rise (with_away records new) ≡ true
ordered_away new records f h = ap (λ i. records_rise (insert records i new)) (position_or_end (away_before new.server new.fileset) records) ∙ records_insert new records f h

records_filter : (p : Away → Bool) (records : List Away) → records_rise records ≡ true → records_rise (filter p records) ≡ true
records_filter p [] h = refl
records_filter p (x ∷ xs) h = by_test (p x) (records_filter p xs (and_right _ _ h))
  where
    by_test : (b : Bool) → records_rise (filter p xs) ≡ true → records_rise (cond b (x ∷ filter p xs) (filter p xs)) ≡ true
    by_test true rest = and_both _ _ (all_filter (away_before x.server x.fileset) p xs (and_left _ _ h)) rest
    by_test false rest = rest

-- names of records
record_named_sym : (a b : Away) → is_away_named a.server a.name b ≡ is_away_named b.server b.name a
record_named_sym a b = ap (λ t. t && same_name b.name a.name) (eq_sym b.server.0 a.server.0) ∙ ap (λ t. (a.server.0 == b.server.0) && t) (same_name_sym b.name a.name)

record_names_insert : (new : Away) (i : ℕ) (records : List Away) → list_any (is_away_named new.server new.name) records ≡ false → record_names_differ records ≡ true → record_names_differ (insert records i new) ≡ true
record_names_insert new zero records h k = and_both _ _ (ap not h) k
record_names_insert new (suc i) [] h k = refl
record_names_insert new (suc i) (x ∷ xs) h k =
    let other : is_away_named x.server x.name new ≡ false = record_named_sym x new ∙ or_first _ _ h in
    and_both _ _ (ap not (any_insert (is_away_named x.server x.name) new i xs other (not_true _ (and_left _ _ k)))) (record_names_insert new i xs (or_second _ _ h) (and_right _ _ k))

any_filter : {X : Type 0} (q p : X → Bool) (xs : List X) → list_any q xs ≡ false → list_any q (filter p xs) ≡ false
any_filter q p [] h = refl
any_filter q p (x ∷ xs) h = by_test (p x) (any_filter q p xs (or_second _ _ h))
  where
    by_test : (b : Bool) → list_any q (filter p xs) ≡ false → list_any q (cond b (x ∷ filter p xs) (filter p xs)) ≡ false
    by_test true rest = or_both _ _ (or_first _ _ h) rest
    by_test false rest = rest

record_names_filter : (p : Away → Bool) (records : List Away) → record_names_differ records ≡ true → record_names_differ (filter p records) ≡ true
record_names_filter p [] h = refl
record_names_filter p (x ∷ xs) h = by_test (p x) (record_names_filter p xs (and_right _ _ h))
  where
    by_test : (b : Bool) → record_names_differ (filter p xs) ≡ true → record_names_differ (cond b (x ∷ filter p xs) (filter p xs)) ≡ true
    by_test true rest = and_both _ _ (ap not (any_filter (is_away_named x.server x.name) p xs (not_true _ (and_left _ _ h)))) rest
    by_test false rest = rest

-- what holds of each that passes a test, where another holds of each
all_passing : {X : Type 0} (p q r : X → Bool) → ((x : X) → p x ≡ true → q x ≡ true → r x ≡ true) → (xs : List X) → list_all q xs ≡ true → list_all r (filter p xs) ≡ true
all_passing p q r f [] h = refl
all_passing p q r f (x ∷ xs) h = by_test (p x) refl (all_passing p q r f xs (and_right _ _ h))
  where
    by_test : (b : Bool) → p x ≡ b → list_all r (filter p xs) ≡ true → list_all r (cond b (x ∷ filter p xs) (filter p xs)) ≡ true
    by_test true e rest = and_both _ _ (f x e (and_left _ _ h)) rest
    by_test false e rest = rest

-- what holds of all isn't denied of any
none_of : {X : Type 0} (p q : X → Bool) → ((x : X) → q x ≡ true → p x ≡ false) → (xs : List X) → list_all q xs ≡ true → list_any p xs ≡ false
none_of p q f [] h = refl
none_of p q f (x ∷ xs) h = or_both _ _ (f x (and_left _ _ h)) (none_of p q f xs (and_right _ _ h))

all_and : {X : Type 0} (p q : X → Bool) (xs : List X) → list_all p xs ≡ true → list_all q xs ≡ true → list_all (λ x. p x && q x) xs ≡ true
all_and p q [] h k = refl
all_and p q (x ∷ xs) h k =
    and_both (p x && q x) (list_all (λ x. p x && q x) xs) (and_both (p x) (q x) (and_left (p x) (list_all p xs) h) (and_left (q x) (list_all q xs) k))
    (all_and p q xs (and_right (p x) (list_all p xs) h) (and_right (q x) (list_all q xs) k))

-- what a move puts in the place of a fileset
pub same_server : (a b : ServerId) → (a.0 == b.0) ≡ true → a ≡ b
same_server a b h = ap (λ n. let id : ServerId = record { 0 = n } in id) (equal_is a.0 b.0 h)

moved_promise : (fileset : Fileset) (to : ServerId) → fileset.read_only ≡ false → promise (moved fileset to) ≡ promise fileset
unfolding moved
moved_promise fileset to e = rw e refl

moved_clone : (fileset : Fileset) (to : ServerId) → rests_if_clone (moved fileset to) ≡ true
unfolding moved
moved_clone fileset to = ap (λ t. not fileset.read_only || t) (moved_rests fileset to) ∙ or_true (not fileset.read_only)

pub moved_parts : (fileset : Fileset) (to : ServerId) → ((moved fileset to).id ≡ fileset.id) × ((moved fileset to).server ≡ to) × ((moved fileset to).name ≡ fileset.name)
unfolding moved
moved_parts fileset to = (refl, refl, refl)

-- a server has no record of a fileset that it has
no_own : (tree : Tree) (place : ℕ) (fileset : Fileset) → IsWellFormed tree → Some fileset ≡ slice_get tree.filesets place → list_any (is_away fileset.server fileset.id) tree.away ≡ false
no_own tree place fileset w there = none_of (is_away fileset.server fileset.id) (is_elsewhere tree.filesets) (λ away h. by_test away (is_away fileset.server fileset.id away) refl h) tree.away w.away.elsewhere
  where
    by_test : (away : Away) (b : Bool) → is_away fileset.server fileset.id away ≡ b → is_elsewhere tree.filesets away ≡ true → b ≡ false
    by_test away false e h = refl
    by_test away true e h =
        let its : (fileset.id.0 == away.fileset.0) ≡ true = eq_sym fileset.id.0 away.fileset.0 ∙ and_right _ _ e in
        let found = find_at_place away.fileset tree.filesets place fileset there w.ordered its in
        let test : Fileset → Bool = λ f. not (f.server.0 == away.server.0) && same_name f.name away.name in
        let here : test fileset ≡ true = sym (ap (λ o. option_map_or test o false) found) ∙ h in
        let apart : (fileset.server.0 == away.server.0) ≡ false = not_true _ (and_left _ _ here) in
        let one : (fileset.server.0 == away.server.0) ≡ true = eq_sym fileset.server.0 away.server.0 ∙ and_left _ _ e in
        sym one ∙ apart

-- nor one of its name
pub no_own_name : (tree : Tree) (place : ℕ) (fileset : Fileset) → IsWellFormed tree → Some fileset ≡ slice_get tree.filesets place → list_any (is_away_named fileset.server fileset.name) tree.away ≡ false
no_own_name tree place fileset w there =
    none_of (is_away_named fileset.server fileset.name) (λ away. not (list_any (is_named away.server away.name) tree.filesets))
    (λ away h. sym (away_sym fileset away) ∙ get_none (is_named away.server away.name) tree.filesets place fileset there (not_true _ h)) tree.away w.away.free

-- no record of another fileset has its name where it goes
goes_free : (tree : Tree) (fileset : Fileset) (to : ServerId) (away : Away) → (is_away_named to fileset.name away && not (away.fileset.0 == fileset.id.0)) ≡ false → is_away to fileset.id away ≡ false → is_away_named to fileset.name away ≡ false
goes_free tree fileset to away h k = by_tests (away.server.0 == to.0) (same_name away.name fileset.name) (away.fileset.0 == fileset.id.0) h k
  where
    by_tests : (s n i : Bool) → ((s && n) && not i) ≡ false → (s && i) ≡ false → (s && n) ≡ false
    by_tests false n i a b = refl
    by_tests true false i a b = refl
    by_tests true true true a b = absurd (search (rules, b))
    by_tests true true false a b = absurd (search (rules, a))

-- a record's fileset is elsewhere after the move too
abbrev elsewhere_test : Away → Fileset → Bool
elsewhere_test away fileset = not (fileset.server.0 == away.server.0) && same_name fileset.name away.name

moved_elsewhere : (tree : Tree) (place : ℕ) (fileset : Fileset) (to : ServerId) (away : Away) → IsWellFormed tree → Some fileset ≡ slice_get tree.filesets place → is_away to fileset.id away ≡ false → is_elsewhere tree.filesets away ≡ true →
    is_elsewhere (slice_set tree.filesets place (moved fileset to)) away ≡ true
moved_elsewhere tree place fileset to away w there other h = by_test (has_id away.fileset fileset) refl
  where
    by_id : (s i : Bool) → i ≡ true → (s && i) ≡ false → s ≡ false
    by_id true true e k = k
    by_id true false e k = absurd (search (rules, e))
    by_id false i e k = refl

    by_test : (b : Bool) → has_id away.fileset fileset ≡ b → is_elsewhere (slice_set tree.filesets place (moved fileset to)) away ≡ true
    by_test true its =
        let parts = moved_parts fileset to in
        let found = find_at_place away.fileset tree.filesets place fileset there w.ordered its in
        let was : elsewhere_test away fileset ≡ true = sym (ap (λ o. option_map_or (elsewhere_test away) o false) found) ∙ h in
        let now = find_put away.fileset tree.filesets place fileset (moved fileset to) there w.ordered parts.0 its in
        let id_is : (away.fileset.0 == fileset.id.0) ≡ true = eq_sym away.fileset.0 fileset.id.0 ∙ its in
        let off : (away.server.0 == to.0) ≡ false = by_id (away.server.0 == to.0) (away.fileset.0 == fileset.id.0) id_is other in
        let apart : ((moved fileset to).server.0 == away.server.0) ≡ false = ap (λ s. s.0 == away.server.0) parts.1 ∙ eq_sym to.0 away.server.0 ∙ off in
        let named : same_name (moved fileset to).name away.name ≡ true = ap (λ n. same_name n away.name) parts.2 ∙ and_right _ _ was in
        ap (λ o. option_map_or (elsewhere_test away) o false) now ∙ and_both _ _ (ap not apart) named
    by_test false its = ap (λ o. option_map_or (elsewhere_test away) o false) (find_put_other away.fileset tree.filesets place fileset (moved fileset to) there (moved_parts fileset to).0 its) ∙ h

-- what is known of each record before one of them goes: no fileset has its name after the move, or it was there before
abbrev away_stays : Tree → ℕ → Fileset → ServerId → Away → Bool
away_stays tree place fileset to away =
    not (list_any (is_named away.server away.name) (slice_set tree.filesets place (moved fileset to)))
    || (not (list_any (is_named away.server away.name) tree.filesets) && not (is_away_named to fileset.name away && not (away.fileset.0 == fileset.id.0)))

or_cases : (a b : Bool) → (a || b) ≡ true → (a ≡ true) ⊎ (b ≡ true)
or_cases true b h = inl refl
or_cases false b h = inr h

stays_free : (tree : Tree) (place : ℕ) (fileset : Fileset) (to : ServerId) (away : Away) → not (is_away to fileset.id away) ≡ true → away_stays tree place fileset to away ≡ true →
    not (list_any (is_named away.server away.name) (slice_set tree.filesets place (moved fileset to))) ≡ true
stays_free tree place fileset to away k h =
    elim (or_cases (not (list_any (is_named away.server away.name) (slice_set tree.filesets place (moved fileset to))))
    (not (list_any (is_named away.server away.name) tree.filesets) && not (is_away_named to fileset.name away && not (away.fileset.0 == fileset.id.0))) h) as
    (λ _. not (list_any (is_named away.server away.name) (slice_set tree.filesets place (moved fileset to))) ≡ true) [
      | inl now ↦ now
      | inr was ↦
          let parts = moved_parts fileset to in
          let not_named : is_away_named to fileset.name away ≡ false = goes_free tree fileset to away (not_true _ (and_right _ _ was)) (not_true _ k) in
          let new_named : is_away_named (moved fileset to).server (moved fileset to).name away ≡ false = rw (parts.1, parts.2) not_named in
          ap not (any_put (is_named away.server away.name) tree.filesets place (moved fileset to) (away_sym (moved fileset to) away ∙ new_named) (not_true _ (and_left _ _ was)))
    ]

stays_elsewhere : (tree : Tree) (place : ℕ) (fileset : Fileset) (to : ServerId) (away : Away) → IsWellFormed tree → Some fileset ≡ slice_get tree.filesets place → is_away to fileset.id away ≡ false →
    (is_elsewhere (slice_set tree.filesets place (moved fileset to)) away || is_elsewhere tree.filesets away) ≡ true → is_elsewhere (slice_set tree.filesets place (moved fileset to)) away ≡ true
stays_elsewhere tree place fileset to away w there k h =
    elim (or_cases (is_elsewhere (slice_set tree.filesets place (moved fileset to)) away) (is_elsewhere tree.filesets away) h) as
    (λ _. is_elsewhere (slice_set tree.filesets place (moved fileset to)) away ≡ true) [ inl now ↦ now | inr was ↦ moved_elsewhere tree place fileset to away w there k was ]

-- the record that the move makes
left_elsewhere : (tree : Tree) (place : ℕ) (fileset : Fileset) (to : ServerId) → IsWellFormed tree → IsMove tree place fileset to → is_elsewhere (slice_set tree.filesets place (moved fileset to)) (left_by fileset to) ≡ true
left_elsewhere tree place fileset to w m =
    let parts = moved_parts fileset to in
    let its : (fileset.id.0 == fileset.id.0) ≡ true = grind (arith, common_steps) in
    let found = find_put fileset.id tree.filesets place fileset (moved fileset to) m.there w.ordered parts.0 its in
    let apart : ((moved fileset to).server.0 == fileset.server.0) ≡ false = ap (λ s. s.0 == fileset.server.0) parts.1 ∙ eq_sym to.0 fileset.server.0 ∙ m.goes in
    let named : same_name (moved fileset to).name fileset.name ≡ true = ap (λ n. same_name n fileset.name) parts.2 ∙ same_self fileset.name in
    let test : Fileset → Bool = λ f. not (f.server.0 == fileset.server.0) && same_name f.name fileset.name in
    ap (λ o. option_map_or test o false) found ∙ and_both _ _ (ap not apart) named

-- records after a move
formed_records : (tree : Tree) (place : ℕ) (fileset : Fileset) (to : ServerId) → IsWellFormed tree → IsMove tree place fileset to → AreRecords (with_moved tree place fileset to)
formed_records tree place fileset to w m =
    let new : Fileset = moved fileset to in
    let parts = moved_parts fileset to in
    let left : Away = left_by fileset to in
    let kept : Away → Bool = λ away. not (is_away to fileset.id away) in
    let none = no_own tree place fileset w m.there in
    let none_named = no_own_name tree place fileset w m.there in
    let here : list_any (is_named to fileset.name) tree.filesets ≡ false = or_first _ _ m.free in
    let at_to : is_named fileset.server fileset.name new ≡ false = ap (λ s. (s.0 == fileset.server.0) && same_name new.name fileset.name) parts.1 ∙ ap (λ t. t && same_name new.name fileset.name) (eq_sym to.0 fileset.server.0 ∙ m.goes) in
    let left_free : not (list_any (is_named fileset.server fileset.name) (slice_set tree.filesets place new)) ≡ true =
    ap not (alone_put tree.filesets place fileset new m.there w.named at_to) in
    let places = away_place tree.away fileset.server fileset.id in
    record {
      ordered = records_filter kept (with_away tree.away left) (ordered_away left tree.away none w.away.ordered);
      named = record_names_filter kept (with_away tree.away left) (record_names_insert left places tree.away none_named w.away.named);
      free = all_passing kept (λ away. away_stays tree place fileset to away) (λ away. not (list_any (is_named away.server away.name) (slice_set tree.filesets place new)))
          (λ away k h. stays_free tree place fileset to away k h) (with_away tree.away left)
          (all_insert (λ away. away_stays tree place fileset to away) left places tree.away (or_left _ _ left_free)
          (all_implied (λ away. not (list_any (is_named away.server away.name) tree.filesets) && not (is_away_named to fileset.name away && not (away.fileset.0 == fileset.id.0)))
          (λ away. away_stays tree place fileset to away) (λ away h. or_right _ _ h) tree.away
          (all_and (λ away. not (list_any (is_named away.server away.name) tree.filesets)) (λ away. not (is_away_named to fileset.name away && not (away.fileset.0 == fileset.id.0))) tree.away
          w.away.free (none_all (λ away. is_away_named to fileset.name away && not (away.fileset.0 == fileset.id.0)) tree.away (or_second _ _ m.free)))));
      declared = all_filter (λ away. is_declared (length tree.servers) away.server) kept (with_away tree.away left)
          (all_insert (λ away. is_declared (length tree.servers) away.server) left places tree.away
          (get_all (λ f. is_declared (length tree.servers) f.server) tree.filesets place fileset m.there w.declared) w.away.declared);
      elsewhere = all_passing kept (λ away. is_elsewhere (slice_set tree.filesets place new) away || is_elsewhere tree.filesets away) (is_elsewhere (slice_set tree.filesets place new))
          (λ away k h. stays_elsewhere tree place fileset to away w m.there (not_true _ k) h) (with_away tree.away left)
          (all_insert (λ away. is_elsewhere (slice_set tree.filesets place new) away || is_elsewhere tree.filesets away) left places tree.away
          (or_left _ _ (left_elsewhere tree place fileset to w m))
          (all_implied (is_elsewhere tree.filesets) (λ away. is_elsewhere (slice_set tree.filesets place new) away || is_elsewhere tree.filesets away) (λ away h. or_right _ _ h) tree.away w.away.elsewhere));
    }
  where
    or_left : (a b : Bool) → a ≡ true → (a || b) ≡ true
    or_left a b h = rw h refl

    or_right : (a b : Bool) → b ≡ true → (a || b) ≡ true
    or_right true b h = refl
    or_right false b h = h

-- how many filesets and records servers have after a move
one_at : ServerId → Fileset → ℕ
one_at server fileset = cond (fileset.server.0 == server.0) 1 0

record_at : ServerId → Away → ℕ
record_at server away = cond (away.server.0 == server.0) 1 0

filesets_counted : (server : ServerId) (filesets : List Fileset) → fileset_count server filesets ≡ total (one_at server) filesets
unfolding one_at
filesets_counted server filesets = sum_total (λ fileset. cond (fileset.server.0 == server.0) 1 0) filesets

records_counted : (server : ServerId) (records : List Away) → away_count server records ≡ total (record_at server) records
unfolding record_at
records_counted server records = sum_total (λ away. cond (away.server.0 == server.0) 1 0) records

-- a record of the fileset where it goes is one there
one_record : (to : ServerId) (id : FilesetId) (away : Away) → is_away to id away ≡ true → record_at to away ≡ 1
unfolding record_at
one_record to id away h = ap (λ t. cond t 1 0) (and_left _ _ h)

any_there : {X : Type 0} (p : X → Bool) (x : X) (i : ℕ) (xs : List X) → list_any p xs ≡ true → list_any p (insert xs i x) ≡ true
any_there p x zero xs h = or_last (p x) h
  where
    or_last : (a : Bool) {b : Bool} → b ≡ true → (a || b) ≡ true
    or_last true k = refl
    or_last false k = k
any_there p x (suc i) [] h = absurd (search (rules, h))
any_there p x (suc i) (y ∷ ys) h = by_test (p y) h (λ k. any_there p x i ys k)
  where
    by_test : (b : Bool) → (b || list_any p ys) ≡ true → (list_any p ys ≡ true → list_any p (insert ys i x) ≡ true) → (b || list_any p (insert ys i x)) ≡ true
    by_test true k rest = refl
    by_test false k rest = rest k

one_there : (server : ServerId) (fileset : Fileset) → (fileset.server.0 == server.0) ≡ true → one_at server fileset ≡ 1
unfolding one_at
one_there server fileset e = ap (λ t. cond t 1 0) e

one_off : (server : ServerId) (fileset : Fileset) → (fileset.server.0 == server.0) ≡ false → one_at server fileset ≡ 0
unfolding one_at
one_off server fileset e = ap (λ t. cond t 1 0) e

record_of : (server : ServerId) (fileset : Fileset) (to : ServerId) → record_at server (left_by fileset to) ≡ one_at server fileset
unfolding record_at one_at
record_of server fileset to = refl

-- the records that are left
abbrev records_left : Tree → Fileset → ServerId → List Away
records_left tree fileset to = without_away (with_away tree.away (left_by fileset to)) to fileset.id

count_moves : (tree : Tree) (place : ℕ) (fileset : Fileset) (to at : ServerId) → Some fileset ≡ slice_get tree.filesets place →
    total (one_at at) (slice_set tree.filesets place (moved fileset to)) + one_at at fileset ≡ total (one_at at) tree.filesets + one_at at (moved fileset to)
count_moves tree place fileset to at there = total_set (one_at at) tree.filesets place fileset (moved fileset to) there

records_fewer : (tree : Tree) (fileset : Fileset) (to at : ServerId) → total (record_at at) (records_left tree fileset to) ≤ one_at at fileset + total (record_at at) tree.away
records_fewer tree fileset to at =
    let less = total_filter (record_at at) (λ away. not (is_away to fileset.id away)) (with_away tree.away (left_by fileset to)) in
    let more = total_insert (record_at at) (left_by fileset to) (away_place tree.away fileset.server fileset.id) tree.away in
    let same = record_of at fileset to in
    omega (arith, less, more, same)

records_fewer_by_one : (tree : Tree) (fileset : Fileset) (to : ServerId) → has_away tree.away to fileset.id ≡ true → total (record_at to) (records_left tree fileset to) + 1 ≤ one_at to fileset + total (record_at to) tree.away
records_fewer_by_one tree fileset to h =
    let there = any_there (is_away to fileset.id) (left_by fileset to) (away_place tree.away fileset.server fileset.id) tree.away h in
    let less = total_drop (record_at to) (is_away to fileset.id) (one_record to fileset.id) (with_away tree.away (left_by fileset to)) there in
    let more = total_insert (record_at to) (left_by fileset to) (away_place tree.away fileset.server fileset.id) tree.away in
    let same = record_of to fileset to in
    omega (arith, less, more, same)

one_new : (fileset : Fileset) (to at : ServerId) (b : Bool) → (to.0 == at.0) ≡ b → one_at at (moved fileset to) ≡ cond b 1 0
unfolding one_at
one_new fileset to at b e = ap (λ s. cond (s.0 == at.0) 1 0) (moved_parts fileset to).1 ∙ ap (λ t. cond t 1 0) e

count_after : (tree : Tree) (place : ℕ) (fileset : Fileset) (to at : ServerId) →
    count_at (with_moved tree place fileset to) at ≡ total (one_at at) (slice_set tree.filesets place (moved fileset to)) + total (record_at at) (records_left tree fileset to)
count_after tree place fileset to at =
    let f = filesets_counted at (slice_set tree.filesets place (moved fileset to)) in
    let r = records_counted at (records_left tree fileset to) in
    omega (arith, f, r)

count_before : (tree : Tree) (at : ServerId) → count_at tree at ≡ total (one_at at) tree.filesets + total (record_at at) tree.away
count_before tree at = let f = filesets_counted at tree.filesets in let r = records_counted at tree.away in omega (arith, f, r)

-- no server has too many
counted_there : (tree : Tree) (place : ℕ) (fileset : Fileset) (to : ServerId) (h : Bool) → IsWellFormed tree → IsMove tree place fileset to → has_away tree.away to fileset.id ≡ h → count_at (with_moved tree place fileset to) to ≤ FILESETS_MAX
counted_there tree place fileset to true w m h =
    let same : (to.0 == to.0) ≡ true = grind (arith, common_steps) in
    let a = count_after tree place fileset to to in let b = count_before tree to in let c = count_moves tree place fileset to to m.there in
    let d = records_fewer_by_one tree fileset to h in let n = one_new fileset to to true same in let o = one_off to fileset m.goes in
    let limit = w.counted to in
    omega (arith, a, b, c, d, n, o, limit)
counted_there tree place fileset to false w m h =
    let same : (to.0 == to.0) ≡ true = grind (arith, common_steps) in
    let a = count_after tree place fileset to to in let b = count_before tree to in let c = count_moves tree place fileset to to m.there in
    let d = records_fewer tree fileset to to in let n = one_new fileset to to true same in let o = one_off to fileset m.goes in
    let few : nat_le FILESETS_MAX (count_at tree to) ≡ false = subst (λ t. (not t && nat_le FILESETS_MAX (count_at tree to)) ≡ false) h m.counted in
    let less : count_at tree to < FILESETS_MAX = grind (arith, common_steps, few) in
    omega (arith, a, b, c, d, n, o, less)

counted_moved : (tree : Tree) (place : ℕ) (fileset : Fileset) (to server : ServerId) → IsWellFormed tree → IsMove tree place fileset to → count_at (with_moved tree place fileset to) server ≤ FILESETS_MAX
counted_moved tree place fileset to server w m = by_test (to.0 == server.0) refl
  where
    by_test : (b : Bool) → (to.0 == server.0) ≡ b → count_at (with_moved tree place fileset to) server ≤ FILESETS_MAX
    by_test false e =
        let a = count_after tree place fileset to server in let b = count_before tree server in let c = count_moves tree place fileset to server m.there in
        let d = records_fewer tree fileset to server in let n = one_new fileset to server false e in
        let limit = w.counted server in
        omega (arith, a, b, c, d, n, limit)
    by_test true e = subst (λ s. count_at (with_moved tree place fileset to) s ≤ FILESETS_MAX) (same_server to server e) (counted_there tree place fileset to (has_away tree.away to fileset.id) w m refl)

-- what servers have promised after a move
blocks_at : ServerId → Fileset → ℕ
blocks_at server fileset = if fileset.server.0 == server.0 then promise fileset else 0

record_blocks : ServerId → List Fileset → Away → ℕ
record_blocks server filesets away = if away.server.0 == server.0 then away_promise filesets away else 0

filesets_promised : (server : ServerId) (filesets : List Fileset) → promised server filesets ≡ total (blocks_at server) filesets
unfolding blocks_at
filesets_promised server filesets = promised_total server filesets

records_promised : (server : ServerId) (filesets : List Fileset) (records : List Away) → away_promised server filesets records ≡ total (record_blocks server filesets) records
unfolding record_blocks
records_promised server filesets [] = refl
records_promised server filesets (away ∷ records) = ap (λ n. (if away.server.0 == server.0 then away_promise filesets away else 0) + n) (records_promised server filesets records)

-- records are promised as much
put_promise : (tree : Tree) (place : ℕ) (fileset : Fileset) (to : ServerId) (id : FilesetId) → IsWellFormed tree → IsMove tree place fileset to →
    option_map_or promise (find (has_id id) (slice_set tree.filesets place (moved fileset to))) 0 ≡ option_map_or promise (find (has_id id) tree.filesets) 0
put_promise tree place fileset to id w m = by_test (has_id id fileset) refl
  where
    by_test : (b : Bool) → has_id id fileset ≡ b → option_map_or promise (find (has_id id) (slice_set tree.filesets place (moved fileset to))) 0 ≡ option_map_or promise (find (has_id id) tree.filesets) 0
    by_test true e =
        ap (λ o. option_map_or promise o 0) (find_put id tree.filesets place fileset (moved fileset to) m.there w.ordered (moved_parts fileset to).0 e)
        ∙ moved_promise fileset to m.writable ∙ sym (ap (λ o. option_map_or promise o 0) (find_at_place id tree.filesets place fileset m.there w.ordered e))
    by_test false e = ap (λ o. option_map_or promise o 0) (find_put_other id tree.filesets place fileset (moved fileset to) m.there (moved_parts fileset to).0 e)

records_put : (tree : Tree) (place : ℕ) (fileset : Fileset) (to server : ServerId) (records : List Away) → IsWellFormed tree → IsMove tree place fileset to →
    away_promised server (slice_set tree.filesets place (moved fileset to)) records ≡ away_promised server tree.filesets records
records_put tree place fileset to server [] w m = refl
records_put tree place fileset to server (away ∷ records) w m =
    ap (λ n. (if away.server.0 == server.0 then (if away.room_kept then n else 0) else 0) + away_promised server (slice_set tree.filesets place (moved fileset to)) records) (put_promise tree place fileset to away.fileset w m)
    ∙ ap (λ n. (if away.server.0 == server.0 then away_promise tree.filesets away else 0) + n) (records_put tree place fileset to server records w m)

-- the record that the move makes is promised what its fileset was
left_blocks : (tree : Tree) (place : ℕ) (fileset : Fileset) (to server : ServerId) → IsWellFormed tree → Some fileset ≡ slice_get tree.filesets place → record_blocks server tree.filesets (left_by fileset to) ≡ blocks_at server fileset
unfolding record_blocks blocks_at
left_blocks tree place fileset to server w there =
    let its : (fileset.id.0 == fileset.id.0) ≡ true = grind (arith, common_steps) in
    ap (λ o. if fileset.server.0 == server.0 then option_map_or promise o 0 else 0) (find_at_place fileset.id tree.filesets place fileset there w.ordered its)

blocks_off : (server : ServerId) (fileset : Fileset) → (fileset.server.0 == server.0) ≡ false → blocks_at server fileset ≡ 0
unfolding blocks_at
blocks_off server fileset e = ap (λ t. if t then promise fileset else 0) e

blocks_new : (fileset : Fileset) (to server : ServerId) (b : Bool) → fileset.read_only ≡ false → (to.0 == server.0) ≡ b → blocks_at server (moved fileset to) ≡ cond b (promise fileset) 0
unfolding blocks_at
blocks_new fileset to server b r e =
    ap (λ s. if s.0 == server.0 then promise (moved fileset to) else 0) (moved_parts fileset to).1 ∙ ap (λ t. if t then promise (moved fileset to) else 0) e ∙ ap (λ n. cond b n 0) (moved_promise fileset to r)

blocks_move : (tree : Tree) (place : ℕ) (fileset : Fileset) (to server : ServerId) → Some fileset ≡ slice_get tree.filesets place →
    total (blocks_at server) (slice_set tree.filesets place (moved fileset to)) + blocks_at server fileset ≡ total (blocks_at server) tree.filesets + blocks_at server (moved fileset to)
blocks_move tree place fileset to server there = total_set (blocks_at server) tree.filesets place fileset (moved fileset to) there

blocks_fewer : (tree : Tree) (place : ℕ) (fileset : Fileset) (to server : ServerId) → IsWellFormed tree → Some fileset ≡ slice_get tree.filesets place →
    total (record_blocks server tree.filesets) (records_left tree fileset to) ≤ blocks_at server fileset + total (record_blocks server tree.filesets) tree.away
blocks_fewer tree place fileset to server w there =
    let less = total_filter (record_blocks server tree.filesets) (λ away. not (is_away to fileset.id away)) (with_away tree.away (left_by fileset to)) in
    let more = total_insert (record_blocks server tree.filesets) (left_by fileset to) (away_place tree.away fileset.server fileset.id) tree.away in
    let same = left_blocks tree place fileset to server w there in
    omega (arith, less, more, same)

blocks_after : (tree : Tree) (place : ℕ) (fileset : Fileset) (to server : ServerId) → IsWellFormed tree → IsMove tree place fileset to →
    promised_at (with_moved tree place fileset to) server ≡ total (blocks_at server) (slice_set tree.filesets place (moved fileset to)) + total (record_blocks server tree.filesets) (records_left tree fileset to)
blocks_after tree place fileset to server w m =
    let f = filesets_promised server (slice_set tree.filesets place (moved fileset to)) in
    let r = records_put tree place fileset to server (records_left tree fileset to) w m in
    let s = records_promised server tree.filesets (records_left tree fileset to) in
    omega (arith, f, r, s)

blocks_before : (tree : Tree) (server : ServerId) → promised_at tree server ≡ total (blocks_at server) tree.filesets + total (record_blocks server tree.filesets) tree.away
blocks_before tree server = let f = filesets_promised server tree.filesets in let r = records_promised server tree.filesets tree.away in omega (arith, f, r)

promised_moved : (tree : Tree) (place : ℕ) (fileset : Fileset) (to server : ServerId) (room : ServerRoom) → IsWellFormed tree → IsMove tree place fileset to → room_of tree.servers server ≡ Some room →
    promised_at (with_moved tree place fileset to) server ≤ room.capacity
promised_moved tree place fileset to server room w m h = by_test (to.0 == server.0) refl
  where
    by_test : (b : Bool) → (to.0 == server.0) ≡ b → promised_at (with_moved tree place fileset to) server ≤ room.capacity
    by_test false e =
        let a = blocks_after tree place fileset to server w m in let b = blocks_before tree server in let c = blocks_move tree place fileset to server m.there in
        let d = blocks_fewer tree place fileset to server w m.there in let n = blocks_new fileset to server false m.writable e in
        let limit = w.promised server room h in
        omega (arith, a, b, c, d, n, limit)
    by_test true e =
        let same = same_server to server e in
        let its : m.room ≡ room = let both : Some m.room ≡ Some room = sym m.declared ∙ ap (λ s. room_of tree.servers s) same ∙ h in cc in
        let fits : promised_at tree server + promise fileset ≤ room.capacity = subst (λ r. promised_at tree server + promise fileset ≤ r.capacity) its (subst (λ s. promised_at tree s + promise fileset ≤ m.room.capacity) same m.fits) in
        let off : (fileset.server.0 == server.0) ≡ false = subst (λ s. (fileset.server.0 == s.0) ≡ false) same m.goes in
        let a = blocks_after tree place fileset to server w m in let b = blocks_before tree server in let c = blocks_move tree place fileset to server m.there in
        let d = blocks_fewer tree place fileset to server w m.there in let n = blocks_new fileset to server true m.writable e in let o = blocks_off server fileset off in
        omega (arith, a, b, c, d, n, o, fits)

-- locks and opens are on other filesets
stays_named : (tree : Tree) (place : ℕ) (fileset : Fileset) (to : ServerId) (fid : Fid) → Some fileset ≡ slice_get tree.filesets place → (fid.fileset.0 == fileset.id.0) ≡ false → names_file tree.filesets fid ≡ true →
    names_file (slice_set tree.filesets place (moved fileset to)) fid ≡ true
stays_named tree place fileset to fid there other h =
    file_put tree.filesets place fileset (moved fileset to) fid.fileset (λ f. is_file_at f fid) there (moved_parts fileset to).0 other h

pub formed_moved : (tree : Tree) (place : ℕ) (fileset : Fileset) (to : ServerId) → IsWellFormed tree → IsMove tree place fileset to → IsWellFormed (with_moved tree place fileset to)
formed_moved tree place fileset to w m =
    let new : Fileset = moved fileset to in
    let parts = moved_parts fileset to in
    let here : list_any (is_named to fileset.name) tree.filesets ≡ false = or_first _ _ m.free in
    let new_here : list_any (is_named new.server new.name) tree.filesets ≡ false = rw (parts.1, parts.2) here in
    let declared : is_declared (length tree.servers) new.server ≡ true = ap (λ s. is_declared (length tree.servers) s) parts.1 ∙ declared_by_room tree.servers to m.room m.declared in
    let given : is_given tree.servers new.id ≡ true = ap (λ id. is_given tree.servers id) parts.0 ∙ get_all (λ f. is_given tree.servers f.id) tree.filesets place fileset m.there w.given in
    record {
      roster = w.roster;
      servers = w.servers;
      ordered = rise_put tree.filesets place fileset new m.there parts.0 ∙ w.ordered;
      named = names_put tree.filesets place new w.named new_here;
      declared = all_set (λ f. is_declared (length tree.servers) f.server) tree.filesets place new declared w.declared;
      given = all_set (λ f. is_given tree.servers f.id) tree.filesets place new given w.given;
      filesets = formed_put tree.filesets place new (stays_well_formed_moved fileset to (formed_get tree.filesets place fileset m.there w.filesets)) w.filesets;
      clones = all_set rests_if_clone tree.filesets place new (moved_clone fileset to) w.clones;
      away = formed_records tree place fileset to w m;
      counted = λ server. counted_moved tree place fileset to server w m;
      promised = λ server room h. promised_moved tree place fileset to server room w m h;
      numbers = w.numbers;
      locks = all_both (λ lock. names_file tree.filesets lock.fid) (λ lock. not (lock.fid.fileset.0 == fileset.id.0)) (λ lock. names_file (slice_set tree.filesets place new) lock.fid)
          (λ lock h k. stays_named tree place fileset to lock.fid m.there (not_true _ k) h) tree.locks w.locks (none_all (λ lock. lock.fid.fileset.0 == fileset.id.0) tree.locks (or_first _ _ m.unused));
      opens = all_both (λ opened. names_file tree.filesets opened.fid) (λ opened. not (opened.fid.fileset.0 == fileset.id.0)) (λ opened. names_file (slice_set tree.filesets place new) opened.fid)
          (λ opened h k. stays_named tree place fileset to opened.fid m.there (not_true _ k) h) tree.opens w.opens (none_all (λ opened. opened.fid.fileset.0 == fileset.id.0) tree.opens (or_second _ _ m.unused));
    }
