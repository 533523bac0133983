-- Names and positions that rise.
use Rattle.std.proofs.Common.{◌≡◌, ℕ, suc, ◌+◌, ◌<◌, ◌≤◌, nat_le, nat_lt, Bool, true, false, ◌&&◌, not, cond, List}
use Rattle.std.proofs.Common.{[], ◌∷◌, ◌++◌, length, filter, insert, Option, Some, None, unwrap_or, refl, sym, ap}
use Rattle.std.proofs.Common.{◌∙◌, subst, arith, inl, inr, rules}
use Rattle.std.specs.List.{list_all, prefix_len}
use Rattle.std.specs.Ordering.{is_lt, is_eq, ordering_reverse, nat_cmp}
use Rattle.std.specs.declared.cmp.Ordering.{Ordering}
use Rattle.std.specs.declared.cmp.Ordering.TheVariants.{Less, Equal, Greater}
use Rattle.std.specs.Cmp.Lexicographic.{slice_cmp}
use Rattle.std.proofs.lemmas.Cmp.{nat_list_cmp_total}
use Rattle.std.proofs.lemmas.Map.Text.{is_eq-slice_cmp}
use Rattle.std.proofs.lemmas.Grind.{common_steps}
use Rattle.std.proofs.lemmas.Bool.Decides.{leb_tells}
use Rattle.base_types.specs.Name.{same_name, is_before}
use Rattle.base_types.specs.declared.ids.HostId.{HostId}
use Rattle.tree_calls.specs.declared.part.DirEntry.{DirEntry}
use Rattle.tree_objects.specs.declared.content.Unsaved.{Unsaved}
use Rattle.tree_objects.specs.Entries.{entry_named, entry_place}
use Rattle.tree_objects.specs.Changes.{written, unsaved_after}
use Rattle.tree_objects.specs.Sound.{names_rise}
use Rattle.tree_objects.specs.Positions.{positions_rise}
use Rattle.tree_objects.proofs.Observed.{and_left, and_right}

-- both hold
pub and_both : (a b : Bool) → a ≡ true → b ≡ true → (a && b) ≡ true
and_both a b h k = rw (h, k) refl

-- what holds of all holds of those that pass a test
pub all_filter : {X : Type 0} (p test : X → Bool) (xs : List X) → list_all p xs ≡ true → list_all p (filter test xs)
    ≡ true
all_filter p test [] h = refl
all_filter p test (x ∷ xs) h =
    let rest = all_filter p test xs (and_right _ _ h) in
    elim (test x) as (λ t. list_all p (cond t (x ∷ filter test xs) (filter test xs)) ≡ true)
    [ true ↦ and_both _ _ (and_left _ _ h) rest | false ↦ rest ]

-- what follows for each follows for all
pub all_implied : {X : Type 0} (p q : X → Bool) → ((x : X) → p x ≡ true → q x ≡ true) → (xs : List X) → list_all p xs
    ≡ true → list_all q xs ≡ true
all_implied p q f [] h = refl
all_implied p q f (x ∷ xs) h = and_both _ _ (f x (and_left _ _ h)) (all_implied p q f xs (and_right _ _ h))

-- all of two lists
pub all_append : {X : Type 0} (p : X → Bool) (xs ys : List X) → list_all p xs ≡ true → list_all p ys ≡ true
    → list_all p (xs ++ ys) ≡ true
all_append p [] ys h k = k
all_append p (x ∷ xs) ys h k = and_both _ _ (and_left _ _ h) (all_append p xs ys (and_right _ _ h) k)

-- the bytes that pass a test
pub rise_filter : (test : Unsaved → Bool) (xs : List Unsaved) → positions_rise xs ≡ true → positions_rise
    (filter test xs) ≡ true
rise_filter test [] h = refl
rise_filter test (x ∷ xs) h =
    let rest = rise_filter test xs (and_right _ _ h) in
    elim (test x) as (λ t. positions_rise (cond t (x ∷ filter test xs) (filter test xs)) ≡ true)
    [ true ↦ and_both _ _ (all_filter (λ other. nat_lt x.at other.at) test xs (and_left _ _ h)) rest | false ↦ rest ]

-- bytes below a position and bytes from there on
rise_append : (m : ℕ) (xs ys : List Unsaved) → positions_rise xs ≡ true → positions_rise ys ≡ true → list_all
    (λ b. nat_lt b.at m) xs ≡ true → list_all (λ b. nat_le m b.at) ys ≡ true → positions_rise (xs ++ ys) ≡ true
rise_append m [] ys h k low high = k
rise_append m (x ∷ xs) ys h k low high =
    let below : nat_lt x.at m ≡ true = and_left _ _ low in
    and_both _ _
    (all_append (λ other. nat_lt x.at other.at) xs ys (and_left _ _ h)
    (all_implied (λ b. nat_le m b.at) (λ b. nat_lt x.at b.at) (λ b l. grind (arith, common_steps, below, l)) ys high))
    (rise_append m xs ys (and_right _ _ h) k (and_right _ _ low) high)

-- what passes a test passes it
all_passing : {X : Type 0} (test : X → Bool) (xs : List X) → list_all test (filter test xs) ≡ true
all_passing test [] = refl
all_passing test (x ∷ xs) =
    let rest = all_passing test xs in
    elim (test x) as (λ t. t ≡ test x → list_all test (cond t (x ∷ filter test xs) (filter test xs)) ≡ true)
    [ true ↦ λ e. and_both _ _ (sym e) rest | false ↦ λ e. rest ] refl

-- written bytes stand from the first position on
pub written_from : (host : HostId) (m at : ℕ) (bytes : List ℕ) → m ≤ at → list_all (λ b. nat_le m b.at)
    (written host at bytes) ≡ true
written_from host m at [] h = refl
written_from host m at (x ∷ xs) h = and_both _ _ (grind (arith, common_steps, h))
    (written_from host m (at + 1) xs (omega (arith, h)))

-- written bytes stand before the end
pub written_below : (host : HostId) (at m : ℕ) (bytes : List ℕ) → at + length bytes ≤ m → list_all
    (λ b. nat_lt b.at m) (written host at bytes) ≡ true
written_below host at m [] h = refl
written_below host at m (x ∷ xs) h =
    let k : at < m = omega (arith, h) in
    and_both _ _ (grind (arith, common_steps, k)) (written_below host (at + 1) m xs (omega (arith, h)))

-- written bytes stand at rising positions
written_rise : (host : HostId) (at : ℕ) (bytes : List ℕ) → positions_rise (written host at bytes) ≡ true
written_rise host at [] = refl
written_rise host at (x ∷ xs) =
    and_both _ _
    (all_implied (λ b. nat_le (at + 1) b.at) (λ b. nat_lt at b.at) (λ b l. grind (arith, common_steps, l))
    (written host (at + 1) xs) (written_from host (at + 1) (at + 1) xs (omega arith)))
    (written_rise host (at + 1) xs)

-- the unsaved bytes after a write
pub rise_written : (unsaved : List Unsaved) (host : HostId) (from : ℕ) (bytes : List ℕ) → positions_rise unsaved
    ≡ true → positions_rise (unsaved_after unsaved host from bytes) ≡ true
rise_written unsaved host from bytes h =
    let end = from + length bytes in
    let low = filter (λ byte. nat_lt byte.at from) unsaved in
    let front : positions_rise (low ++ written host from bytes) ≡ true
    = rise_append from low (written host from bytes) (rise_filter _ unsaved h) (written_rise host from bytes)
    (all_passing _ unsaved) (written_from host from from bytes (omega arith)) in
    let ends : list_all (λ b. nat_lt b.at end) (low ++ written host from bytes) ≡ true
    = all_append (λ b. nat_lt b.at end) low (written host from bytes)
    (all_implied (λ b. nat_lt b.at from) (λ b. nat_lt b.at end) (λ b l. grind (arith, common_steps, l)) low
    (all_passing _ unsaved))
    (written_below host from end bytes (omega arith)) in
    rise_append end (low ++ written host from bytes) (filter (λ byte. nat_le end byte.at) unsaved) front
    (rise_filter _ unsaved h) ends (all_passing _ unsaved)

-- the positions after a write
pub within_written : (m : ℕ) (unsaved : List Unsaved) (host : HostId) (from : ℕ) (bytes : List ℕ) → from + length
    bytes ≤ m → list_all (λ b. nat_lt b.at m) unsaved ≡ true → list_all (λ b. nat_lt b.at m)
    (unsaved_after unsaved host from bytes) ≡ true
within_written m unsaved host from bytes h k =
    all_append (λ b. nat_lt b.at m) (filter (λ byte. nat_lt byte.at from) unsaved ++ written host from bytes)
    (filter (λ byte. nat_le (from + length bytes) byte.at) unsaved)
    (all_append (λ b. nat_lt b.at m) (filter (λ byte. nat_lt byte.at from) unsaved) (written host from bytes)
    (all_filter (λ b. nat_lt b.at m) _ unsaved k) (written_below host from m bytes h))
    (all_filter (λ b. nat_lt b.at m) _ unsaved k)

-- of two names that aren't the same one comes first
by_order : (r s : Ordering) → s ≡ ordering_reverse r → is_lt s ≡ false → is_eq r ≡ false → is_lt r ≡ true
by_order Less s e h k = refl
by_order Equal s e h k = absurd (search (rules, k))
by_order Greater s e h k = let g : is_lt Less ≡ false = subst (λ o. is_lt o ≡ false) e h in absurd (search (rules, g))

pub before_other : (a b : List ℕ) → is_before a b ≡ false → same_name b a ≡ false → is_before b a ≡ true
before_other a b h k = by_order (slice_cmp nat_cmp b a) (slice_cmp nat_cmp a b) (nat_list_cmp_total.antisymm a b) h
    (is_eq-slice_cmp b a ∙ k)

-- less
lt_less : (r : Ordering) → is_lt r ≡ true → r ≡ Less
lt_less Less h = refl
lt_less Equal h = absurd (search (rules, h))
lt_less Greater h = absurd (search (rules, h))

pub before_trans : (a b c : List ℕ) → is_before a b ≡ true → is_before b c ≡ true → is_before a c ≡ true
before_trans a b c h k = ap is_lt (nat_list_cmp_total.trans a b c (lt_less _ h) (lt_less _ k))

-- the entries that pass a test
pub names_filter : (test : DirEntry → Bool) (xs : List DirEntry) → names_rise xs ≡ true → names_rise (filter test xs)
    ≡ true
names_filter test [] h = refl
names_filter test (x ∷ xs) h =
    let rest = names_filter test xs (and_right _ _ h) in
    elim (test x) as (λ t. names_rise (cond t (x ∷ filter test xs) (filter test xs)) ≡ true) [
      | true ↦ and_both _ _ (all_filter (λ other. is_before x.name other.name) test xs (and_left _ _ h)) rest
      | false ↦
          rest
    ]

-- an entry before the first with a greater name
abbrev inserted : DirEntry → List DirEntry → List DirEntry
inserted entry [] = entry ∷ []
inserted entry (x ∷ xs) = cond (is_before entry.name x.name) (entry ∷ x ∷ xs) (x ∷ inserted entry xs)

-- a front is no longer than the whole
prefix_within : {X : Type 0} (p : X → Bool) (xs : List X) → prefix_len p xs ≤ length xs
prefix_within p [] = omega arith
prefix_within p (x ∷ xs) =
    let rest = prefix_within p xs in
    elim (p x) as (λ t. cond t (1 + prefix_len p xs) 0 ≤ suc (length xs))
    [ true ↦ omega (arith, rest) | false ↦ omega arith ]

-- the entries that don't come after a name
abbrev front_len : List ℕ → List DirEntry → ℕ
front_len name xs = prefix_len (λ entry. not (is_before name entry.name)) xs

place_is : (xs : List DirEntry) (name : List ℕ) → entry_place xs name ≡ front_len name xs
place_is xs name =
    let within = prefix_within (λ entry. not (is_before name entry.name)) xs in
    elim (leb_tells (suc (front_len name xs)) (length xs)) as
    (λ _. unwrap_or (cond (nat_lt (front_len name xs) (length xs)) (Some (front_len name xs)) None) (length xs)
    ≡ front_len name xs)
    [ inl (e, h) ↦ rw e refl | inr (e, h) ↦ rw e (omega (arith, within, h)) ]

insert_front : (entry : DirEntry) (xs : List DirEntry) → insert xs (front_len entry.name xs) entry ≡ inserted entry xs
insert_front entry [] = refl
insert_front entry (x ∷ xs) =
    let rest = insert_front entry xs in
    let one : 1 + front_len entry.name xs ≡ suc (front_len entry.name xs) = omega arith in
    elim (is_before entry.name x.name) as (λ t. insert (x ∷ xs) (cond (not t) (1 + front_len entry.name xs) 0) entry
    ≡ cond t (entry ∷ x ∷ xs) (x ∷ inserted entry xs))
    [ true ↦ refl | false ↦ rw one (ap (λ zs. x ∷ zs) rest) ]

-- what holds of an entry and of all others
all_inserted : (p : DirEntry → Bool) (entry : DirEntry) (xs : List DirEntry) → p entry ≡ true → list_all p xs ≡ true
    → list_all p (inserted entry xs) ≡ true
all_inserted p entry [] h k = and_both _ _ h refl
all_inserted p entry (x ∷ xs) h k =
    let rest = all_inserted p entry xs h (and_right _ _ k) in
    elim (is_before entry.name x.name) as (λ t. list_all p (cond t (entry ∷ x ∷ xs) (x ∷ inserted entry xs)) ≡ true)
    [ true ↦ and_both _ _ h k | false ↦ and_both _ _ (and_left _ _ k) rest ]

-- nothing is found
none_first : (b : Bool) (x : DirEntry) (o : Option DirEntry) → cond b (Some x) o ≡ None → (b ≡ false) × (o ≡ None)
none_first true x o h = absurd (search (rules, h))
none_first false x o h = (refl, h)

names_inserted : (entry : DirEntry) (xs : List DirEntry) → entry_named xs entry.name ≡ None → names_rise xs ≡ true
    → names_rise (inserted entry xs) ≡ true
names_inserted entry [] f h = refl
names_inserted entry (x ∷ xs) f h =
    let (other, fresh) = none_first (same_name x.name entry.name) x (entry_named xs entry.name) f in
    let rest = names_inserted entry xs fresh (and_right _ _ h) in
    elim (is_before entry.name x.name) as (λ t. is_before entry.name x.name ≡ t → names_rise
    (cond t (entry ∷ x ∷ xs) (x ∷ inserted entry xs)) ≡ true) [
      | true ↦ λ e. and_both _ _ (and_both _ _ e (all_implied (λ other. is_before x.name other.name)
          (λ other. is_before entry.name other.name) (λ other k. before_trans entry.name x.name other.name e k) xs
          (and_left _ _ h))) h
      | false ↦ λ e. and_both _ _ (all_inserted (λ other. is_before x.name other.name) entry xs
          (before_other entry.name x.name e other) (and_left _ _ h)) rest
    ] refl

-- a directory with an entry more
pub names_insert : (entry : DirEntry) (xs : List DirEntry) → entry_named xs entry.name ≡ None → names_rise xs ≡ true
    → names_rise (insert xs (entry_place xs entry.name) entry) ≡ true
names_insert entry xs f h = rw (place_is xs entry.name, insert_front entry xs) (names_inserted entry xs f h)
