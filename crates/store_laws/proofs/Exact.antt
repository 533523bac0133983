-- A store that keeps its part of a tree has just that.
use Rattle.std.proofs.Common.{
  ◌≡◌,
  ◌≢◌,
  ◌≤◌,
  ◌<◌,
  ℕ,
  zero,
  suc,
  ◌+◌,
  ◌-◌,
  ◌==◌,
  nat_lt,
  nat_le,
  Bool,
  true,
  false,
  ◌&&◌,
  ◌||◌,
  not,
  cond,
  List,
  [],
  ◌∷◌,
  length,
  Option,
  Some,
  None,
  inl,
  inr,
  refl,
  sym,
  ap,
  ◌∙◌,
  subst,
  arith,
}
use Rattle.std.specs.Prelude.{slice_get, map, filter, is_none, unwrap_or, if◌then◌else◌, option_and_then, IsPermutation}
use Rattle.std.specs.List.{list_all, find, filter_map, cons_option, list_any, prefix_len, sum_by, count_by}
use Rattle.std.specs.Option.{option_map}
use Rattle.std.proofs.lemmas.Bool.Decides.{leb_tells}
use Rattle.std.proofs.lemmas.Grind.{common_steps}
use Rattle.std.proofs.lemmas.List.Sorted.{length_permutation, list_any-IsPermutation, sum_by-IsPermutation}
use Rattle.std.proofs.lemmas.Bool.{leb-true}
use Rattle.std.proofs.lemmas.List.Sums.{sum_by-cons, length-filter, count_by-le-length}
use Rattle.base_types.specs.Name.{same_name}
use Rattle.base_types.specs.declared.ids.FilesetId.{FilesetId}
use Rattle.base_types.specs.declared.ids.ServerId.{ServerId}
use Rattle.base_types.specs.declared.limits.TheConstants.{FILESETS_MAX, SERVERS_MAX}
use Rattle.tree_calls.specs.Limits.{keeps_limits}
use Rattle.tree_calls.specs.declared.roster.Roster.{Roster}
use Rattle.tree_objects.proofs.Observed.{and_left, and_right}
use Rattle.tree_filesets.specs.Promises.{promise}
use Rattle.tree_filesets.specs.WellFormed.{is_at_rest}
use Rattle.tree_filesets.specs.declared.fileset.Fileset.{Fileset}
use Rattle.store_memory.specs.Reading.{filesets_kept, is_kept}
use Rattle.tree_answers.specs.declared.tree.Away.{Away}
use Rattle.tree_answers.specs.declared.tree.Tree.{Tree}
use Rattle.tree_answers.specs.Away.{is_away, is_away_named, away_before}
use Rattle.tree_answers.specs.Finding.{is_named as is_tree_named, has_id, is_taken}
use Rattle.tree_answers.specs.Founding.{
  promised as tree_promised,
  away_promise,
  away_promised,
  promised_at,
  fileset_count,
  away_count,
  count_at,
  new_room,
  new_tree,
}
use Rattle.tree_answers.specs.WellFormed.{ids_rise, records_rise, is_declared, IsWellFormed}
use Rattle.tree_answers.proofs.Inserted.{position_or_end, or_first, or_second}
use Rattle.tree_answers.proofs.Places.{find_all, find_at_place, get_all}
use Rattle.store_records.specs.Stored.{IsStorable}
use Rattle.store_records.proofs.Acts.{new_is_storable}
use Rattle.store_laws.specs.Founds.{HaveRoom}
use Rattle.store_state.specs.Capacity.{capacity_of}
use Rattle.store_state.specs.Founding.{held_promise, promised, free_slot}
use Rattle.store_state.specs.Sought.{is_named}
use Rattle.store_state.specs.State.{new_state, is_here, is_gone, is_of, is_used_so, held_at, held_so, slot_so}
use Rattle.store_state.specs.declared.state.Holding.{Holding}
use Rattle.store_state.specs.declared.state.Stay.{Stay}
use Rattle.store_state.specs.declared.state.Stay.TheVariants.{Writable, Clone, Leaving, Arriving, Gone}
use Rattle.store_state.specs.declared.state.StoreState.{StoreState}
use Rattle.store_laws.specs.Exact.{records_kept, HasExactly, StoresKeepExactly}
use Rattle.store_laws.specs.TreeKeeping.{if_at, if_here, if_gone, left_for, gone_from, KeepsOf}
use Rattle.store_laws.proofs.Called.{same_id}
use Rattle.store_laws.proofs.Keys.{AreOnce, TakesOver, same_key, equal_keys, same_elements, find_taken, differ_taken, found_passes}
use Rattle.store_laws.proofs.Slots.{Table, found_is, held_passes, none_used, only_slot}
use Rattle.store_laws.proofs.KeptSteps.{held_here}

-- what is taken of a slot, of a tree's filesets and of its records
abbrev take_here : Option Holding → Option Fileset
take_here slot = option_and_then if_here slot

abbrev take_gone : ServerId → Option Holding → Option Away
take_gone server slot = option_and_then (if_gone server) slot

abbrev take_away : ServerId → Away → Option Away
take_away server away = if away.server.0 == server.0 then Some away else None

abbrev id_of : ℕ → FilesetId
id_of k = record { 0 = k }

abbrev slot_test : ℕ → Option Holding → Bool
slot_test k = is_used_so (is_of (id_of k))

abbrev fileset_test : ℕ → Fileset → Bool
fileset_test k = has_id (id_of k)

abbrev away_test : ServerId → ℕ → Away → Bool
away_test server k = is_away server (id_of k)

abbrev fileset_key : Fileset → ℕ
fileset_key fileset = fileset.id.0

abbrev away_key : Away → ℕ
away_key away = away.fileset.0

-- under the same ids
here_over : TakesOver slot_test take_here fileset_key
here_over None y k e = absurd (cc)
here_over (Some h) y k e = by (is_here h.stay) e
  where
    by : (b : Bool) → (if b then Some h.fileset else None) ≡ Some y → (h.fileset.id.0 == k) ≡ (y.id.0 == k)
    by true e = let same : h.fileset ≡ y = cc in ap (λ (f : Fileset). f.id.0 == k) same
    by false e = absurd (cc)

gone_over : (server : ServerId) → TakesOver slot_test (take_gone server) away_key
gone_over server None y k e = absurd (cc)
gone_over server (Some h) y k e = by (left_for h.stay) e
  where
    by : (o : Option ServerId) → option_map (gone_from server h.fileset) o ≡ Some y →
        (h.fileset.id.0 == k) ≡ (y.fileset.0 == k)
    by None e = absurd (cc)
    by (Some to) e =
        let same : gone_from server h.fileset to ≡ y = cc in ap (λ (a : Away). a.fileset.0 == k) same

at_over : (server : ServerId) → TakesOver fileset_test (if_at server) fileset_key
at_over server f y k e = by (f.server.0 == server.0) e
  where
    by : (b : Bool) → (if b then Some f else None) ≡ Some y → (f.id.0 == k) ≡ (y.id.0 == k)
    by true e = let same : f ≡ y = cc in ap (λ (f : Fileset). f.id.0 == k) same
    by false e = absurd (cc)

away_over : (server : ServerId) → TakesOver (away_test server) (take_away server) away_key
away_over server a y k e = by (a.server.0 == server.0) e
  where
    by : (b : Bool) → (if b then Some a else None) ≡ Some y → (b && (a.fileset.0 == k)) ≡ (y.fileset.0 == k)
    by true e = let same : a ≡ y = cc in ap (λ (a : Away). a.fileset.0 == k) same
    by false e = absurd (cc)

-- each id is there once
abbrev Apart : Table → Type 0
Apart slots = (s t : ℕ) (a b : Holding) → s ≢ t → held_at slots s ≡ Some a → held_at slots t ≡ Some b →
    a.fileset.id ≢ b.fileset.id

slots_once : (slots : Table) → Apart slots → AreOnce slot_test slots
slots_once [] apart = tt
slots_once (slot ∷ slots) apart =
    (here slot apart, slots_once slots (λ s t a b off. apart (suc s) (suc t) a b (λ e. off (cc))))
  where
    here : (slot : Option Holding) → Apart (slot ∷ slots) → (k : ℕ) → slot_test k slot ≡ true →
        find (slot_test k) slots ≡ None
    here None apart k e = absurd (cc)
    here (Some a) apart k e = by (held_so (is_of (id_of k)) slots) refl
      where
        by : (found : Option Holding) → held_so (is_of (id_of k)) slots ≡ found → find (slot_test k) slots ≡ None
        by None f = none_used (is_of (id_of k)) slots f
        by (Some b) f =
            let its = equal_keys a.fileset.id.0 k e in
            let others = equal_keys b.fileset.id.0 k (held_passes (is_of (id_of k)) slots b f) in
            let same : a.fileset.id ≡ b.fileset.id = ap id_of (its ∙ sym others) in
            absurd (apart zero (suc (slot_so (is_of (id_of k)) slots)) a b (λ z. absurd (cc)) refl f same)

filesets_once : (filesets : List Fileset) → ids_rise filesets ≡ true → AreOnce fileset_test filesets
filesets_once [] r = tt
filesets_once (x ∷ xs) r = (here, filesets_once xs (and_right _ _ r))
  where
    here : (k : ℕ) → (x.id.0 == k) ≡ true → find (fileset_test k) xs ≡ None
    here k e = by (find (fileset_test k) xs) refl
      where
        by : (found : Option Fileset) → find (fileset_test k) xs ≡ found → found ≡ None
        by None f = refl
        by (Some y) f =
            let its = equal_keys x.id.0 k e in
            let others = equal_keys y.id.0 k (found_passes (fileset_test k) xs y f) in
            let less : nat_lt x.id.0 y.id.0 ≡ true =
            find_all (fileset_test k) (λ (other : Fileset). nat_lt x.id.0 other.id.0) xs y f (and_left _ _ r) in
            let below : x.id.0 < y.id.0 = grind (arith, common_steps, less) in
            absurd (omega (arith, below, its, others))

-- one record comes before another of its server and fileset
not_before : (server : ServerId) (x y : Away) (k : ℕ) → is_away server (id_of k) x ≡ true →
    is_away server (id_of k) y ≡ true → away_before x.server x.fileset y ≡ true → ⊥
not_before server x y k a b c =
    let xs = equal_keys x.server.0 server.0 (and_left _ _ a) in
    let ys = equal_keys y.server.0 server.0 (and_left _ _ b) in
    let xk = equal_keys x.fileset.0 k (and_right _ _ a) in
    let yk = equal_keys y.fileset.0 k (and_right _ _ b) in
    by (nat_lt x.server.0 y.server.0) (x.server.0 == y.server.0) (nat_lt x.fileset.0 y.fileset.0) refl refl
    (xs ∙ sym ys) (xk ∙ sym yk) c
  where
    by : (p q r : Bool) → nat_lt x.server.0 y.server.0 ≡ p → nat_lt x.fileset.0 y.fileset.0 ≡ r →
        x.server.0 ≡ y.server.0 → x.fileset.0 ≡ y.fileset.0 → (p || (q && r)) ≡ true → ⊥
    by true q r e f s t c =
        let below : x.server.0 < y.server.0 = grind (arith, common_steps, e) in absurd (omega (arith, below, s))
    by false true true e f s t c =
        let below : x.fileset.0 < y.fileset.0 = grind (arith, common_steps, f) in absurd (omega (arith, below, t))
    by false true false e f s t c = absurd (cc)
    by false false r e f s t c = absurd (cc)

records_once : (server : ServerId) (records : List Away) → records_rise records ≡ true →
    AreOnce (away_test server) records
records_once server [] r = tt
records_once server (x ∷ xs) r = (here, records_once server xs (and_right _ _ r))
  where
    here : (k : ℕ) → is_away server (id_of k) x ≡ true → find (away_test server k) xs ≡ None
    here k e = by (find (away_test server k) xs) refl
      where
        by : (found : Option Away) → find (away_test server k) xs ≡ found → found ≡ None
        by None f = refl
        by (Some y) f =
            absurd (not_before server x y k e (found_passes (away_test server k) xs y f)
            (find_all (away_test server k) (away_before x.server x.fileset) xs y f (and_left _ _ r)))

-- what is taken of what is found
taken_of : {Y : Type 0} (take : Holding → Option Y) (slots : Table) (k : ℕ) →
    option_and_then (λ slot. option_and_then take slot) (find (slot_test k) slots)
    ≡ option_and_then take (held_so (is_of (id_of k)) slots)
taken_of take slots k =
    by (find (slot_test k) slots) ∙ ap (option_and_then take) (sym (found_is (is_of (id_of k)) slots))
  where
    by : (found : Option (Option Holding)) → option_and_then (λ slot. option_and_then take slot) found
        ≡ option_and_then take (option_and_then (λ slot. slot) found)
    by None = refl
    by (Some slot) = refl

ids_apart : (state : StoreState) → IsStorable state → Apart state.slots
ids_apart state s i j a b off x y = (s.apart i j a b off x y).ids

found_away : (server : ServerId) (records : List Away) (k : ℕ) →
    option_and_then (take_away server) (find (away_test server k) records) ≡ find (away_test server k) records
found_away server records k = by (find (away_test server k) records) refl
  where
    by : (found : Option Away) → find (away_test server k) records ≡ found → option_and_then (take_away server) found ≡ found
    by None e = refl
    by (Some a) e =
        ap (λ b. if b then Some a else None)
        (and_left (a.server.0 == server.0) (a.fileset.0 == k) (found_passes (away_test server k) records a e))

same_filesets : (tree : Tree) (state : StoreState) → IsWellFormed tree → KeepsOf tree state →
    IsPermutation (filter_map take_here state.slots) (filter_map (if_at state.server) tree.filesets)
same_filesets tree state w k =
    let slots = slots_once state.slots (ids_apart state k.storable) in
    let filesets = filesets_once tree.filesets w.ordered in
    same_elements fileset_key _ _ (differ_taken slot_test take_here fileset_key here_over state.slots slots)
    (differ_taken fileset_test (if_at state.server) fileset_key (at_over state.server) tree.filesets filesets)
    (λ n. find_taken slot_test take_here fileset_key here_over state.slots slots n ∙ taken_of if_here state.slots n
    ∙ k.filesets (id_of n)
    ∙ sym (find_taken fileset_test (if_at state.server) fileset_key (at_over state.server) tree.filesets filesets n))

same_records : (tree : Tree) (state : StoreState) → IsWellFormed tree → KeepsOf tree state →
    IsPermutation (records_kept state.server state.slots) (filter_map (take_away state.server) tree.away)
same_records tree state w k =
    let slots = slots_once state.slots (ids_apart state k.storable) in
    let records = records_once state.server tree.away w.away.ordered in
    same_elements away_key _ _
    (differ_taken slot_test (take_gone state.server) away_key (gone_over state.server) state.slots slots)
    (differ_taken (away_test state.server) (take_away state.server) away_key (away_over state.server) tree.away records)
    (λ n. find_taken slot_test (take_gone state.server) away_key (gone_over state.server) state.slots slots n
    ∙ taken_of (if_gone state.server) state.slots n ∙ k.records (id_of n)
    ∙ sym (find_taken (away_test state.server) (take_away state.server) away_key (away_over state.server) tree.away
    records n ∙ found_away state.server tree.away n))

-- how filesets stay where none is on its way
data StillKind (stay : Stay) : Type 0 where
  IsHere : is_here stay ≡ true → is_kept stay ≡ true → is_gone stay ≡ false → left_for stay ≡ None → StillKind stay
  HasGone : (to : ServerId) → is_here stay ≡ false → is_kept stay ≡ false → is_gone stay ≡ true
      → left_for stay ≡ Some to → StillKind stay

still_kind : (stay : Stay) → (is_here stay || is_gone stay) ≡ true → StillKind stay
still_kind Writable h = IsHere refl refl refl refl
still_kind Clone h = IsHere refl refl refl refl
still_kind (Leaving to ship) h = absurd (cc)
still_kind (Arriving from ship parts) h = absurd (cc)
still_kind (Gone to) h = HasGone to refl refl refl refl

abbrev AreStill : Table → Type 0
AreStill [] = Unit {0}
AreStill (None ∷ slots) = AreStill slots
AreStill (Some h ∷ slots) = StillKind h.stay × AreStill slots

still_slots : (slots : Table) →
    ((s : ℕ) (h : Holding) → held_at slots s ≡ Some h → (is_here h.stay || is_gone h.stay) ≡ true) → AreStill slots
still_slots [] k = tt
still_slots (None ∷ slots) k = still_slots slots (λ s h e. k (suc s) h e)
still_slots (Some h ∷ slots) k = (still_kind h.stay (k zero h refl), still_slots slots (λ s h e. k (suc s) h e))

-- what is held in a slot is found by its id
pub held_self : (state : StoreState) (s : ℕ) (holding : Holding) → IsStorable state →
    held_at state.slots s ≡ Some holding → held_so (is_of holding.fileset.id) state.slots ≡ Some holding
held_self state s holding st e =
    ap (held_at state.slots) (only_slot (is_of holding.fileset.id) state.slots s holding e
    (same_key holding.fileset.id.0) (λ other b off there.
    by other b off there (is_of holding.fileset.id b) refl)) ∙ e
  where
    by : (other : ℕ) (b : Holding) → other ≢ s → held_at state.slots other ≡ Some b → (t : Bool) →
        is_of holding.fileset.id b ≡ t → t ≡ false
    by other b off there true same =
        absurd ((st.apart other s b holding off there e).ids (same_id b.fileset.id holding.fileset.id same))
    by other b off there false same = refl

still_of : (tree : Tree) (state : StoreState) → KeepsOf tree state → AreStill state.slots
still_of tree state k =
    still_slots state.slots (λ s h e. k.still h.fileset.id h (held_self state s h k.storable e))

-- the filesets of a table, one by one
kept_taken : (slots : Table) → AreStill slots → filesets_kept slots ≡ filter_map take_here slots
kept_taken [] a = refl
kept_taken (None ∷ slots) a = kept_taken slots a
kept_taken (Some h ∷ slots) a = by a.0 (kept_taken slots a.1)
  where
    by : StillKind h.stay → filesets_kept slots ≡ filter_map take_here slots →
        (if is_kept h.stay then h.fileset ∷ filesets_kept slots else filesets_kept slots)
        ≡ cons_option (if is_here h.stay then Some h.fileset else None) (filter_map take_here slots)
    by (IsHere here kept gone left) rest = rw kept (rw here (ap (λ xs. h.fileset ∷ xs) rest))
    by (HasGone to here kept gone left) rest = rw kept (rw here rest)

taken_filter : {X : Type 0} (p : X → Bool) (xs : List X) →
    filter_map (λ x. if p x then Some x else None) xs ≡ filter p xs
taken_filter p [] = refl
taken_filter {X} p (x ∷ xs) = by (p x) (taken_filter p xs)
  where
    by : (b : Bool) → filter_map (λ x. if p x then Some x else None) xs ≡ filter p xs →
        cons_option (if b then Some x else None) (filter_map (λ x. if p x then Some x else None) xs)
        ≡ cond b (x ∷ filter p xs) (filter p xs)
    by true e = ap (λ ys. x ∷ ys) e
    by false e = e

-- names
or_move : (a b c : Bool) → (a || (b || c)) ≡ (b || (a || c))
or_move true true c = refl
or_move true false c = refl
or_move false b c = refl

or_assoc : (a b c : Bool) → ((a || b) || c) ≡ (a || (b || c))
or_assoc true b c = refl
or_assoc false b c = refl

abbrev has_name : List ℕ → Fileset → Bool
has_name name fileset = same_name fileset.name name

abbrev has_away_name : List ℕ → Away → Bool
has_away_name name away = same_name away.name name

names_of : (server : ServerId) (name : List ℕ) (slots : Table) → AreStill slots →
    list_any (is_used_so (is_named name)) slots
    ≡ (list_any (has_name name) (filter_map take_here slots)
    || list_any (has_away_name name) (records_kept server slots))
names_of server name [] a = refl
names_of server name (None ∷ slots) a = names_of server name slots a
names_of server name (Some h ∷ slots) a = by a.0 (names_of server name slots a.1)
  where
    by : StillKind h.stay → list_any (is_used_so (is_named name)) slots
        ≡ (list_any (has_name name) (filter_map take_here slots)
        || list_any (has_away_name name) (records_kept server slots)) →
        (same_name h.fileset.name name || list_any (is_used_so (is_named name)) slots)
        ≡ (list_any (has_name name)
        (cons_option (if is_here h.stay then Some h.fileset else None) (filter_map take_here slots))
        || list_any (has_away_name name)
        (cons_option (option_map (gone_from server h.fileset) (left_for h.stay)) (records_kept server slots)))
    by (IsHere here kept gone left) rest =
        rw here (rw left (ap (λ b. same_name h.fileset.name name || b) rest ∙ sym (or_assoc (same_name h.fileset.name name)
        (list_any (has_name name) (filter_map take_here slots)) _)))
    by (HasGone to here kept gone left) rest =
        rw here (rw left (ap (λ b. same_name h.fileset.name name || b) rest ∙ or_move (same_name h.fileset.name name)
        (list_any (has_name name) (filter_map take_here slots)) _))

tree_names : (server : ServerId) (name : List ℕ) (filesets : List Fileset) →
    list_any (is_tree_named server name) filesets ≡ list_any (has_name name) (filter_map (if_at server) filesets)
tree_names server name [] = refl
tree_names server name (x ∷ xs) = by (x.server.0 == server.0) (tree_names server name xs)
  where
    by : (b : Bool) →
        list_any (is_tree_named server name) xs ≡ list_any (has_name name) (filter_map (if_at server) xs) →
        ((b && same_name x.name name) || list_any (is_tree_named server name) xs)
        ≡ list_any (has_name name) (cons_option (if b then Some x else None) (filter_map (if_at server) xs))
    by true e = ap (λ c. same_name x.name name || c) e
    by false e = e

away_names : (server : ServerId) (name : List ℕ) (records : List Away) →
    list_any (is_away_named server name) records
    ≡ list_any (has_away_name name) (filter_map (take_away server) records)
away_names server name [] = refl
away_names server name (x ∷ xs) = by (x.server.0 == server.0) (away_names server name xs)
  where
    by : (b : Bool) →
        list_any (is_away_named server name) xs ≡ list_any (has_away_name name) (filter_map (take_away server) xs) →
        ((b && same_name x.name name) || list_any (is_away_named server name) xs)
        ≡ list_any (has_away_name name) (cons_option (if b then Some x else None) (filter_map (take_away server) xs))
    by true e = ap (λ c. same_name x.name name || c) e
    by false e = e

-- counts
used_slots : (server : ServerId) (slots : Table) → AreStill slots →
    length (filter_map take_here slots) + length (records_kept server slots) ≡ count_by (λ slot. not (is_none slot)) slots
used_slots server [] a = refl
used_slots server (None ∷ slots) a = used_slots server slots a
used_slots server (Some h ∷ slots) a = by a.0 (used_slots server slots a.1)
  where
    by : StillKind h.stay → length (filter_map take_here slots) + length (records_kept server slots)
        ≡ count_by (λ slot. not (is_none slot)) slots →
        length (cons_option (if is_here h.stay then Some h.fileset else None) (filter_map take_here slots))
        + length (cons_option (option_map (gone_from server h.fileset) (left_for h.stay)) (records_kept server slots))
        ≡ count_by (λ slot. not (is_none slot)) (Some h ∷ slots)
    by (IsHere here kept gone left) rest = rw here (rw left (grind (arith, common_steps, rest)))
    by (HasGone to here kept gone left) rest = rw here (rw left (grind (arith, common_steps, rest)))

counted : {X : Type 0} (p : X → Bool) (xs : List X) →
    count_by p xs ≡ length (filter_map (λ x. if p x then Some x else None) xs)
counted p xs = sym (ap length (taken_filter p xs) ∙ length-filter p xs)

le_both : (a b c d : ℕ) → (a ≤ b → c ≤ d) → (c ≤ d → a ≤ b) → nat_le a b ≡ nat_le c d
le_both a b c d f g =
    elim (leb_tells a b) as (λ _. nat_le a b ≡ nat_le c d) [
      | inl (e, k) ↦ (elim (leb_tells c d) as (λ _. nat_le a b ≡ nat_le c d) [
        | inl (x, y) ↦ e ∙ sym x
        | inr (x, y) ↦ (let z = f k in absurd (omega (arith, z, y)))
      ])
      | inr (e, k) ↦ (elim (leb_tells c d) as (λ _. nat_le a b ≡ nat_le c d) [
        | inl (x, y) ↦ (let z = g y in absurd (omega (arith, z, k)))
        | inr (x, y) ↦ e ∙ sym x
      ])
    ]

abbrev pub is_taken_slot : Option Holding → Bool
is_taken_slot slot = not (is_none slot)

full_front : (slots : Table) → length slots ≤ count_by is_taken_slot slots →
    length slots ≤ prefix_len is_taken_slot slots
full_front [] h = omega arith
full_front (None ∷ slots) h =
    let e : count_by is_taken_slot (None ∷ slots) ≡ count_by is_taken_slot slots = grind (arith, common_steps) in
    let most = count_by-le-length is_taken_slot slots in
    absurd (omega (arith, h, e, most))
full_front (Some x ∷ slots) h =
    let e : count_by is_taken_slot (Some x ∷ slots) ≡ 1 + count_by is_taken_slot slots = grind (arith, common_steps) in
    let rest = full_front slots (omega (arith, h, e)) in
    omega (arith, rest)

front_full : (slots : Table) → length slots ≤ prefix_len is_taken_slot slots →
    length slots ≤ count_by is_taken_slot slots
front_full [] h = omega arith
front_full (None ∷ slots) h = absurd (omega (arith, h))
front_full (Some x ∷ slots) h =
    let e : count_by is_taken_slot (Some x ∷ slots) ≡ 1 + count_by is_taken_slot slots = grind (arith, common_steps) in
    let rest = front_full slots (omega (arith, h)) in
    omega (arith, rest, e)

-- promises
none_more : (n : ℕ) → 0 + n ≡ n
none_more n = omega arith

slot_promises : (slots : Table) → AreStill slots → promised slots ≡ sum_by promise (filter_map take_here slots)
slot_promises [] a = refl
slot_promises (None ∷ slots) a = slot_promises slots a
slot_promises (Some h ∷ slots) a = by a.0 (slot_promises slots a.1)
  where
    by : StillKind h.stay → promised slots ≡ sum_by promise (filter_map take_here slots) →
        promised (Some h ∷ slots)
        ≡ sum_by promise (cons_option (if is_here h.stay then Some h.fileset else None) (filter_map take_here slots))
    by (IsHere here kept gone left) rest =
        rw here (sum_by-cons held_promise (Some h) slots
        ∙ ap (λ b. (if b then 0 else promise h.fileset) + promised slots) gone
        ∙ ap (λ n. promise h.fileset + n) rest ∙ sym (sum_by-cons promise h.fileset (filter_map take_here slots)))
    by (HasGone to here kept gone left) rest =
        rw here (sum_by-cons held_promise (Some h) slots
        ∙ ap (λ b. (if b then 0 else promise h.fileset) + promised slots) gone ∙ none_more (promised slots) ∙ rest)

tree_promises : (server : ServerId) (filesets : List Fileset) →
    tree_promised server filesets ≡ sum_by promise (filter_map (if_at server) filesets)
tree_promises server [] = refl
tree_promises server (x ∷ xs) = by (x.server.0 == server.0) (tree_promises server xs)
  where
    by : (b : Bool) → tree_promised server xs ≡ sum_by promise (filter_map (if_at server) xs) →
        (if b then promise x else 0) + tree_promised server xs
        ≡ sum_by promise (cons_option (if b then Some x else None) (filter_map (if_at server) xs))
    by true e = ap (λ n. promise x + n) e ∙ sym (sum_by-cons promise x (filter_map (if_at server) xs))
    by false e = none_more (tree_promised server xs) ∙ e

abbrev keeps_room : Away → Bool
keeps_room away = away.room_kept

gone_rooms : (server : ServerId) (slots : Table) → list_any keeps_room (records_kept server slots) ≡ false
gone_rooms server [] = refl
gone_rooms server (None ∷ slots) = gone_rooms server slots
gone_rooms server (Some h ∷ slots) = by (left_for h.stay) (gone_rooms server slots)
  where
    by : (o : Option ServerId) → list_any keeps_room (records_kept server slots) ≡ false →
        list_any keeps_room (cons_option (option_map (gone_from server h.fileset) o) (records_kept server slots)) ≡ false
    by None e = e
    by (Some to) e = e

no_promises : (server : ServerId) (filesets : List Fileset) (records : List Away) →
    list_any keeps_room (filter_map (take_away server) records) ≡ false → away_promised server filesets records ≡ 0
no_promises server filesets [] h = refl
no_promises server filesets (x ∷ xs) h = by (x.server.0 == server.0) h (λ k. no_promises server filesets xs k)
  where
    freed : (kept : Bool) → kept ≡ false → (n : ℕ) → (if kept then n else 0) ≡ 0
    freed true e n = absurd (cc)
    freed false e n = refl

    by : (b : Bool) →
        list_any keeps_room (cons_option (if b then Some x else None) (filter_map (take_away server) xs)) ≡ false →
        (list_any keeps_room (filter_map (take_away server) xs) ≡ false → away_promised server filesets xs ≡ 0) →
        (if b then away_promise filesets x else 0) + away_promised server filesets xs ≡ 0
    by true h rest =
        let none = freed x.room_kept (or_first x.room_kept _ h) _ in
        let others = rest (or_second x.room_kept _ h) in
        ap (λ n. n + away_promised server filesets xs) none ∙ none_more (away_promised server filesets xs) ∙ others
    by false h rest = none_more (away_promised server filesets xs) ∙ rest h

pub have_room : (tree : Tree) (state : StoreState) → IsWellFormed tree → KeepsOf tree state → HaveRoom tree state
have_room tree state w k = record { room = k.room; names = names; full = full; blocks = blocks }
  where
    filesets : IsPermutation (filter_map take_here state.slots) (filter_map (if_at state.server) tree.filesets)
    filesets = same_filesets tree state w k

    records : IsPermutation (records_kept state.server state.slots) (filter_map (take_away state.server) tree.away)
    records = same_records tree state w k

    still : AreStill state.slots
    still = still_of tree state k

    names : (name : List ℕ) →
        is_taken tree state.server name ≡ list_any (is_used_so (is_named name)) state.slots
    names name =
        let there = tree_names state.server name tree.filesets
        ∙ sym (list_any-IsPermutation (has_name name) _ _ filesets) in
        let gone = away_names state.server name tree.away
        ∙ sym (list_any-IsPermutation (has_away_name name) _ _ records) in
        ap (λ b. b || list_any (is_away_named state.server name) tree.away) there
        ∙ ap (λ b. list_any (has_name name) (filter_map take_here state.slots) || b) gone
        ∙ sym (names_of state.server name state.slots still)

    count : count_at tree state.server ≡ count_by is_taken_slot state.slots
    count =
        let here = length_permutation _ _ filesets in
        let gone = length_permutation _ _ records in
        let a : fileset_count state.server tree.filesets ≡ length (filter_map (if_at state.server) tree.filesets)
        = counted (λ (f : Fileset). f.server.0 == state.server.0) tree.filesets in
        let b : away_count state.server tree.away ≡ length (filter_map (take_away state.server) tree.away)
        = counted (λ (a : Away). a.server.0 == state.server.0) tree.away in
        let used = used_slots state.server state.slots still in
        ap (λ n. n + away_count state.server tree.away) (a ∙ here)
        ∙ ap (λ n. length (filter_map take_here state.slots) + n) (b ∙ gone) ∙ used

    table : length state.slots ≡ FILESETS_MAX
    table = k.storable.limits.table

    full : nat_le FILESETS_MAX (count_at tree state.server) ≡ nat_le (length state.slots) (free_slot state.slots)
    full =
        ap (nat_le FILESETS_MAX) count
        ∙ ap (λ n. nat_le n (count_by is_taken_slot state.slots)) (sym table)
        ∙ le_both (length state.slots) (count_by is_taken_slot state.slots) (length state.slots)
        (prefix_len is_taken_slot state.slots) (full_front state.slots) (front_full state.slots)
        ∙ ap (nat_le (length state.slots)) (sym (position_or_end is_none state.slots))

    blocks : promised_at tree state.server ≡ promised state.slots
    blocks =
        let none = no_promises state.server tree.filesets tree.away
        (sym (list_any-IsPermutation keeps_room _ _ records) ∙ gone_rooms state.server state.slots) in
        let sum = tree_promises state.server tree.filesets ∙ sum_by-IsPermutation promise _ _ filesets
        ∙ sym (slot_promises state.slots still) in
        omega (arith, none, sum)

has_exactly : (tree : Tree) (state : StoreState) → IsWellFormed tree → KeepsOf tree state → HasExactly tree state
has_exactly tree state w k = record {
  filesets =
      subst (λ xs. IsPermutation xs (filter (λ (f : Fileset). f.server.0 == state.server.0) tree.filesets))
      (sym (kept_taken state.slots (still_of tree state k)))
      (subst (IsPermutation (filter_map take_here state.slots))
      (taken_filter (λ (f : Fileset). f.server.0 == state.server.0) tree.filesets) (same_filesets tree state w k));
  records =
      subst (IsPermutation (records_kept state.server state.slots))
      (taken_filter (λ (a : Away). a.server.0 == state.server.0) tree.away) (same_records tree state w k);
  room = have_room tree state w k;
}

-- a new store
room_got : (capacity : List ℕ) (i : ℕ) → i < length capacity →
    slice_get (map new_room capacity) i ≡ Some (new_room (unwrap_or (slice_get capacity i) 0))
room_got [] i h = absurd (omega (arith, h))
room_got (x ∷ xs) zero h = refl
room_got (x ∷ xs) (suc i) h = room_got xs i (omega (arith, h))

starts : (roster : Roster) (server : ServerId) → keeps_limits roster ≡ true →
    is_declared (length roster.capacity) server ≡ true →
    KeepsOf (new_tree roster) (new_state server (capacity_of roster server) roster)
starts roster server limits declared =
    let least = leb-true 1 server.0 (and_left _ _ declared) in
    let most = leb-true server.0 (length roster.capacity) (and_right _ _ declared) in
    let few = leb-true (length roster.capacity) SERVERS_MAX
    (and_right _ _ (and_left _ _ (and_left _ _ (and_left _ _ (and_left _ _ limits))))) in
    let some : (server.0 == 0) ≡ false = grind (arith, common_steps, least) in
    record {
      storable = new_is_storable server (capacity_of roster server) roster least (omega (arith, most, few)) few;
      roster = refl;
      room = rw some (room_got roster.capacity (server.0 - 1) (omega (arith, least, most)));
      filesets = λ id. refl;
      records = λ id. refl;
      still = λ id holding e. absurd (cc);
      older = λ id holding fileset e. absurd (cc);
    }

-- what holds at each place holds of all
all_places : {X : Type 0} (p : X → Bool) (xs : List X) →
    ((i : ℕ) (x : X) → slice_get xs i ≡ Some x → p x ≡ true) → list_all p xs ≡ true
all_places p [] k = refl
all_places p (x ∷ xs) k =
    ap (λ b. b && list_all p xs) (k zero x refl) ∙ all_places p xs (λ i y e. k (suc i) y e)

all_rest : (tree : Tree) (stores : ServerId → StoreState) → IsWellFormed tree →
    ((server : ServerId) → is_declared (length tree.servers) server ≡ true →
    ((stores server).server ≡ server) × KeepsOf tree (stores server)) → list_all is_at_rest tree.filesets ≡ true
all_rest tree stores w all = all_places is_at_rest tree.filesets one
  where
    one : (i : ℕ) (fileset : Fileset) → slice_get tree.filesets i ≡ Some fileset → is_at_rest fileset ≡ true
    one i fileset e =
        let declared = get_all (λ (f : Fileset). is_declared (length tree.servers) f.server) tree.filesets i fileset
        (sym e) w.declared in
        let (at, k) = all fileset.server declared in
        let known = find_at_place fileset.id tree.filesets i fileset (sym e) w.ordered (same_key fileset.id.0) in
        let (holding, h) = held_here tree (stores fileset.server) fileset k known (sym at) in
        let each = k.storable.each (slot_so (is_of fileset.id) (stores fileset.server).slots) holding h.held in
        subst (λ (f : Fileset). is_at_rest f ≡ true) h.same each.rest

pub stores_keep_exactly : StoresKeepExactly
stores_keep_exactly = record { exactly = has_exactly; rest = all_rest; new = starts }
