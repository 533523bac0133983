-- The tree in which no server keeps room any more.
use Rattle.store_laws.proofs.Moved.{find_mapped}
use Rattle.std.proofs.Common.{◌≡◌, Bool, true, false, ◌&&◌, ◌||◌, not, cond, List, [], ◌∷◌, map, Some, refl, sym, ap, ◌∙◌, subst, inl, inr, ◌==◌}
use Rattle.std.specs.Prelude.{if◌then◌else◌}
use Rattle.std.specs.List.{find, list_any, list_all}
use Rattle.std.specs.Option.{option_map}
use Rattle.base_types.specs.declared.ids.FilesetId.{FilesetId}
use Rattle.base_types.specs.declared.ids.ServerId.{ServerId}
use Rattle.tree_answers.proofs.Kept.{formed_left}
use Rattle.tree_answers.specs.Away.{is_away}
use Rattle.tree_answers.specs.Moving.{left_tree}
use Rattle.tree_answers.specs.WellFormed.{IsWellFormed}
use Rattle.tree_answers.specs.declared.tree.Away.{Away}
use Rattle.tree_answers.specs.declared.tree.Tree.{Tree}
use Rattle.service_starts.proofs.Standing.{In, in_any}
use Rattle.service_starts.specs.UnderWay.{free, freed}
use Rattle.store_laws.proofs.Keys.{same_key}
use Rattle.store_laws.specs.TreeKeeping.{record_at}

pub record_freed : (tree : Tree) (server : ServerId) (id : FilesetId) →
    record_at (freed tree) server id ≡ option_map free (record_at tree server id)
record_freed tree server id = find_mapped (is_away server id) free (λ away. refl) tree.away

-- a record whose room is freed if it is a server's of a fileset
abbrev pub free_if : ServerId → FilesetId → Away → Away
free_if server id away = if is_away server id away then record away { room_kept = false } else away

free_same : (server : ServerId) (id : FilesetId) (at : ServerId) (of : FilesetId) (away : Away) →
    is_away at of (free_if server id away) ≡ is_away at of away
free_same server id at of away = by (is_away server id away)
  where
    by : (b : Bool) → is_away at of (if b then record away { room_kept = false } else away) ≡ is_away at of away
    by true = refl
    by false = refl

pub record_left : (tree : Tree) (server : ServerId) (id : FilesetId) (at : ServerId) (of : FilesetId) →
    record_at (left_tree tree server id) at of ≡ option_map (free_if server id) (record_at tree at of)
unfolding left_tree
record_left tree server id at of =
    find_mapped (is_away at of) (free_if server id) (free_same server id at of) tree.away

pub record Left (tree : Tree) (server : ServerId) (id : FilesetId) : Type 0 where
  pub roster : (left_tree tree server id).roster ≡ tree.roster
  pub servers : (left_tree tree server id).servers ≡ tree.servers
  pub filesets : (left_tree tree server id).filesets ≡ tree.filesets
  pub freed_too : freed (left_tree tree server id) ≡ freed tree

map_map : {X : Type 0} (f g h : X → X) → ((x : X) → f (g x) ≡ h x) → (xs : List X) → map f (map g xs) ≡ map h xs
map_map f g h k [] = refl
map_map f g h k (x ∷ xs) = ap (λ y. y ∷ map f (map g xs)) (k x) ∙ ap (λ ys. h x ∷ ys) (map_map f g h k xs)

free_twice : (server : ServerId) (id : FilesetId) (away : Away) → free (free_if server id away) ≡ free away
free_twice server id away = by (is_away server id away)
  where
    by : (b : Bool) → free (if b then record away { room_kept = false } else away) ≡ free away
    by true = refl
    by false = refl

pub left_parts : (tree : Tree) (server : ServerId) (id : FilesetId) → Left tree server id
unfolding left_tree
left_parts tree server id = record {
  roster = refl;
  servers = refl;
  filesets = refl;
  freed_too = ap (λ records. record tree { away = records })
      (map_map free (free_if server id) free (free_twice server id) tree.away);
}

-- the room of each of these records is freed
abbrev leave_all : List Away → Tree → Tree
leave_all [] tree = tree
leave_all (away ∷ records) tree = leave_all records (left_tree tree away.server away.fileset)

formed_all : (records : List Away) (tree : Tree) → IsWellFormed tree → IsWellFormed (leave_all records tree)
formed_all [] tree w = w
formed_all (away ∷ records) tree w =
    formed_all records (left_tree tree away.server away.fileset) (formed_left tree away.server away.fileset w)

abbrev is_one : Away → Away → Bool
is_one away one = is_away one.server one.fileset away

abbrev free_among : List Away → Away → Away
free_among records away = if list_any (is_one away) records then free away else away

map_none : (records : List Away) → map (free_among []) records ≡ records
map_none [] = refl
map_none (away ∷ records) = ap (λ rest. away ∷ rest) (map_none records)

one_freed : (away one : Away) (records : List Away) →
    free_among records (free_if one.server one.fileset away) ≡ free_among (one ∷ records) away
one_freed away one records = by (is_away one.server one.fileset away) (list_any (is_one away) records)
    (any_same (is_away one.server one.fileset away) records)
  where
    any_same : (b : Bool) (records : List Away) →
        list_any (is_one (if b then free away else away)) records ≡ list_any (is_one away) records
    any_same true records = refl
    any_same false records = refl

    by : (b c : Bool) → list_any (is_one (if b then free away else away)) records ≡ c →
        (if list_any (is_one (if b then free away else away)) records then free (if b then free away else away)
        else (if b then free away else away))
        ≡ (if b || c then free away else away)
    by true true e = ap (λ t. if t then free away else free away) e
    by true false e = ap (λ t. if t then free away else free away) e
    by false c e = ap (λ t. if t then free away else away) e

leave_freed : (records : List Away) (tree : Tree) →
    leave_all records tree ≡ record tree { away = map (free_among records) tree.away }
unfolding left_tree
leave_freed [] tree = ap (λ those. record tree { away = those }) (sym (map_none tree.away))
leave_freed (one ∷ records) tree =
    leave_freed records (left_tree tree one.server one.fileset)
    ∙ ap (λ those. record tree { away = those })
    (map_map (free_among records) (free_if one.server one.fileset) (free_among (one ∷ records))
    (λ away. one_freed away one records) tree.away)

map_same : {X : Type 0} (f g : X → X) (xs : List X) → ((x : X) → In x xs → f x ≡ g x) → map f xs ≡ map g xs
map_same f g [] h = refl
map_same f g (x ∷ xs) h =
    ap (λ y. y ∷ map f xs) (h x (inl refl)) ∙ ap (λ ys. g x ∷ ys) (map_same f g xs (λ y i. h y (inr i)))

own : (away : Away) → is_one away away ≡ true
own away = ap (λ b. b && (away.fileset.0 == away.fileset.0)) (same_key away.server.0) ∙ same_key away.fileset.0

all_freed : (tree : Tree) → leave_all tree.away tree ≡ freed tree
all_freed tree =
    leave_freed tree.away tree
    ∙ ap (λ those. record tree { away = those }) (map_same (free_among tree.away) free tree.away (λ away i.
    ap (λ b. if b then free away else away) (in_any (is_one away) tree.away away i (own away))))

-- it is well formed
pub freed_formed : (tree : Tree) → IsWellFormed tree → IsWellFormed (freed tree)
freed_formed tree w = subst IsWellFormed (all_freed tree) (formed_all tree.away tree w)

-- and the tree itself, where no room is kept
none_kept : (records : List Away) → list_all (λ away. not away.room_kept) records ≡ true → map free records ≡ records
none_kept [] h = refl
none_kept (away ∷ records) h = by away.room_kept refl h (λ k. none_kept records k)
  where
    by : (b : Bool) → away.room_kept ≡ b → (not b && list_all (λ one. not one.room_kept) records) ≡ true →
        (list_all (λ one. not one.room_kept) records ≡ true → map free records ≡ records) →
        free away ∷ map free records ≡ away ∷ records
    by true e k rest = absurd (cc)
    by false e k rest =
        ap (λ b. record away { room_kept = b } ∷ map free records) (sym e) ∙ ap (λ those. away ∷ those) (rest k)

pub freed_same : (tree : Tree) → list_all (λ away. not away.room_kept) tree.away ≡ true → freed tree ≡ tree
freed_same tree h = ap (λ those. record tree { away = those }) (none_kept tree.away h)
