-- What a server keeps is what is kept of a tree.
use Rattle.std.proofs.Common.{Bool, List, Some, ap, arith, false, inl, inr, nat_lt, refl, sym, true, ◌&&◌, ◌==◌, ◌||◌}
use Rattle.std.proofs.Common.{◌∙◌, ◌∷◌, ◌≡◌}
use Rattle.std.proofs.lemmas.Bool.{and_parts}
use Rattle.std.proofs.lemmas.Grind.{common_steps}
use Rattle.std.specs.List.{find, list_all, list_any}
use Rattle.std.specs.Prelude.{[], filter, if◌then◌else◌, map}
use Rattle.base_types.specs.declared.ids.FilesetId.{FilesetId}
use Rattle.base_types.specs.declared.ids.ServerId.{ServerId}
use Rattle.tree_filesets.specs.WellFormed.{is_at_rest}
use Rattle.tree_filesets.specs.declared.fileset.Fileset.{Fileset}
use Rattle.tree_answers.specs.Finding.{has_id}
use Rattle.tree_answers.specs.Founding.{room_of}
use Rattle.tree_answers.specs.WellFormed.{ids_rise}
use Rattle.tree_answers.specs.declared.tree.Away.{Away}
use Rattle.tree_answers.specs.declared.tree.ServerRoom.{ServerRoom}
use Rattle.tree_answers.specs.declared.tree.Tree.{Tree}
use Rattle.need_server.proofs.Resting.{rest_fileset}
use Rattle.need_server.specs.Kept.{kept_fileset, kept_tree}
use Rattle.need_laws.specs.Keeps.{KeepsAll}
use Rattle.need_laws.specs.Known.{SameAt, filesets_of, is_known, is_record_of, records_of}
use Rattle.run_history.specs.Changes.{are_home, is_home}
use Rattle.run_history.specs.PastStanding.{KeepsAs}
use Rattle.run_rules.specs.Kept.{filesets_first}
use Rattle.run_rules.specs.Past.{In}

-- lists
pub filter_mapped : {X Y : Type 0} (p : Y → Bool) (q : X → Bool) (f : X → Y) → ((x : X) → p (f x) ≡ q x) → (xs : List X)
    → filter p (map f xs) ≡ map f (filter q xs)
filter_mapped p q f same [] = refl
filter_mapped p q f same (x ∷ xs) =
    ap (λ (b : Bool). if b then f x ∷ filter p (map f xs) else filter p (map f xs)) (same x)
    ∙ go (q x) (filter_mapped p q f same xs)
  where
    go : (b : Bool) → filter p (map f xs) ≡ map f (filter q xs)
        → (if b then f x ∷ filter p (map f xs) else filter p (map f xs))
        ≡ map f (if b then x ∷ filter q xs else filter q xs)
    go true rest = ap (λ ys. f x ∷ ys) rest
    go false rest = rest

pub filter_all : {X : Type 0} (p : X → Bool) (xs : List X) → list_all p (filter p xs) ≡ true
filter_all p [] = refl
filter_all p (x ∷ xs) = go (p x) refl (filter_all p xs)
  where
    go : (b : Bool) → p x ≡ b → list_all p (filter p xs) ≡ true
        → list_all p (if b then x ∷ filter p xs else filter p xs) ≡ true
    go true e rest = ap (λ (b : Bool). b && list_all p (filter p xs)) e ∙ rest
    go false e rest = rest

pub filter_some : {X : Type 0} (p q : X → Bool) (xs : List X) → list_all p xs ≡ true → list_all p (filter q xs) ≡ true
filter_some p q [] e = refl
filter_some p q (x ∷ xs) e = go (q x) (filter_some p q xs k.1)
  where
    k : (p x ≡ true) × (list_all p xs ≡ true)
    k = and_parts (p x) (list_all p xs) e

    go : (b : Bool) → list_all p (filter q xs) ≡ true
        → list_all p (if b then x ∷ filter q xs else filter q xs) ≡ true
    go true rest = ap (λ (b : Bool). b && list_all p (filter q xs)) k.0 ∙ rest
    go false rest = rest

pub all_mapped : {X Y : Type 0} (p : Y → Bool) (q : X → Bool) (f : X → Y) → ((x : X) → p (f x) ≡ q x) → (xs : List X)
    → list_all p (map f xs) ≡ list_all q xs
all_mapped p q f same [] = refl
all_mapped p q f same (x ∷ xs) = λ i. same x i && all_mapped p q f same xs i

pub map_in : {X Y : Type 0} (f g : X → Y) (xs : List X) → ((x : X) → In x xs → f x ≡ g x) → map f xs ≡ map g xs
map_in f g [] same = refl
map_in f g (x ∷ xs) same =
    ap (λ y. y ∷ map f xs) (same x (inl refl)) ∙ ap (λ ys. g x ∷ ys) (map_in f g xs (λ y i. same y (inr i)))

pub in_filter : {X : Type 0} (p : X → Bool) (xs : List X) (x : X) → In x (filter p xs) → In x xs
in_filter p [] x i = i
in_filter p (y ∷ ys) x i = go (p y) (λ j. in_filter p ys x j) i
  where
    go : (b : Bool) → (In x (filter p ys) → In x ys) → In x (if b then y ∷ filter p ys else filter p ys) → In x (y ∷ ys)
    go true rest (inl e) = inl e
    go true rest (inr j) = inr (rest j)
    go false rest j = inr (rest j)

all_it : {X : Type 0} (p : X → Bool) (xs : List X) (x : X) → list_all p xs ≡ true → In x xs → p x ≡ true
all_it p [] x e i = elim i [ ]
all_it p (y ∷ ys) x e (inl q) = ap p q ∙ (and_parts (p y) (list_all p ys) e).0
all_it p (y ∷ ys) x e (inr i) = all_it p ys x (and_parts (p y) (list_all p ys) e).1 i

-- a fileset of a list whose ids rise is found by its id
pub found_in : (id : FilesetId) (xs : List Fileset) (x : Fileset) → ids_rise xs ≡ true → In x xs → has_id id x ≡ true
    → find (has_id id) xs ≡ Some x
found_in id [] x rise i e = elim i [ ]
found_in id (y ∷ ys) x rise (inl q) e =
    ap (λ (b : Bool). if b then Some y else find (has_id id) ys) (ap (has_id id) (sym q) ∙ e) ∙ ap Some (sym q)
found_in id (y ∷ ys) x rise (inr i) e =
    let k = and_parts (list_all (λ other. nat_lt y.id.0 other.id.0) ys) (ids_rise ys) rise in
    let before : nat_lt y.id.0 x.id.0 ≡ true = all_it (λ (other : Fileset). nat_lt y.id.0 other.id.0) ys x k.0 i in
    let its : (x.id.0 == id.0) ≡ true = e in
    let not_it : (y.id.0 == id.0) ≡ false = grind (arith, common_steps, before, its) in
    ap (λ (b : Bool). if b then Some y else find (has_id id) ys) not_it ∙ found_in id ys x k.1 i e

-- filesets of a server
or_none : (b : Bool) → (b || false) ≡ b
or_none true = refl
or_none false = refl

module _ (v : ServerId) where
  abbrev pub is_its : Fileset → Bool
  is_its fileset = fileset.server.0 == v.0

  known_own : (records : List Away) (xs : List Fileset) → list_all is_its xs ≡ true
      → filter (is_known records v) xs ≡ xs
  known_own records [] e = refl
  known_own records (x ∷ xs) e =
      let k = and_parts (is_its x) (list_all is_its xs) e in
      ap (λ (b : Bool). if b || list_any (λ (away : Away). has_id away.fileset x) records
      then x ∷ filter (is_known records v) xs else filter (is_known records v) xs) k.0
      ∙ ap (λ ys. x ∷ ys) (known_own records xs k.1)

  pub no_records : (t : Tree) → t.away ≡ [] → records_of v t ≡ []
  no_records t none = ap (λ xs. filter (is_record_of v) xs) none

  pub its_filesets : (t : Tree) → t.away ≡ [] → filesets_of v t ≡ filter is_its t.filesets
  its_filesets t none =
      ap (λ (rs : List Away). filter (is_known rs v) t.filesets) (no_records t none)
      ∙ ap (λ (p : Fileset → Bool). filter p t.filesets) (λ i fileset. or_none (fileset.server.0 == v.0) i)

  its_kept : (t : Tree) → t.away ≡ [] → filesets_of v (kept_tree t) ≡ map kept_fileset (filter is_its t.filesets)
  its_kept t none =
      its_filesets (kept_tree t) none ∙ filter_mapped is_its is_its kept_fileset (λ x. refl) t.filesets

  module _ (K t : Tree) where
    -- as lists
    pub kept_list : KeepsAs v K t → t.away ≡ [] → K.filesets ≡ map kept_fileset (filter is_its t.filesets)
    kept_list k none =
        sym (known_own (records_of v K) K.filesets k.own) ∙ (k.same.filesets ∙ its_kept t none)

    pub from_list : K.roster ≡ t.roster → room_of K.servers v ≡ room_of t.servers v → records_of v K ≡ records_of v t
        → list_all is_its K.filesets ≡ true → t.away ≡ []
        → K.filesets ≡ map kept_fileset (filter is_its t.filesets) → SameAt v K (kept_tree t)
    from_list roster room records own none list = record {
      roster = roster;
      room = room;
      filesets = known_own (records_of v K) K.filesets own ∙ (list ∙ sym (its_kept t none));
      records = records;
    }

    -- each fileset is at home
    pub homes_of : KeepsAs v K t → t.away ≡ [] → are_home t ≡ true → are_home K ≡ true
    homes_of k none homes =
        ap (λ xs. list_all is_home xs) (kept_list k none)
        ∙ (all_mapped is_home is_home kept_fileset (λ x. refl) (filter is_its t.filesets)
        ∙ filter_some is_home is_its t.filesets homes)

-- of a tree of which all that servers keep is the same, it is the same
pub still_keeps : (v : ServerId) (K old new : Tree) → KeepsAll old new → KeepsAs v K old → KeepsAs v K new
still_keeps v K old new all k = record {
  same = record {
    roster = k.same.roster ∙ sym all.roster;
    room = k.same.room ∙ ap (λ (rooms : List ServerRoom). room_of rooms v) (sym all.servers);
    filesets = k.same.filesets
        ∙ (λ i. filter (is_known (filter (is_record_of v) (sym all.away i)) v) (sym all.filesets i));
    records = k.same.records ∙ ap (λ (xs : List Away). filter (is_record_of v) xs) (sym all.away);
  };
  own = k.own;
  locks = k.locks;
  opens = k.opens;
}

pub still_home : (old new : Tree) → KeepsAll old new → are_home old ≡ true → are_home new ≡ true
still_home old new all homes =
    sym (all_mapped is_home is_home kept_fileset (λ x. refl) new.filesets)
    ∙ (ap (λ xs. list_all is_home xs) all.filesets
    ∙ (all_mapped is_home is_home kept_fileset (λ x. refl) old.filesets ∙ homes))

-- of a tree that is the same for the server
pub same_keeps : (v : ServerId) (K old new : Tree) → SameAt v old new → KeepsAs v K old → KeepsAs v K new
same_keeps v K old new so k = record {
  same = record {
    roster = k.same.roster ∙ so.roster;
    room = k.same.room ∙ so.room;
    filesets = k.same.filesets ∙ (kept_known old ∙ (ap (λ xs. map kept_fileset xs) so.filesets ∙ sym (kept_known new)));
    records = k.same.records ∙ so.records;
  };
  own = k.own;
  locks = k.locks;
  opens = k.opens;
}
  where
    kept_known : (t : Tree) → filesets_of v (kept_tree t) ≡ map kept_fileset (filesets_of v t)
    kept_known t =
        filter_mapped (is_known (records_of v t) v) (is_known (records_of v t) v) kept_fileset (λ x. refl) t.filesets

-- at the start
pub rest_all : (xs : List Fileset) → list_all is_at_rest xs ≡ true → map kept_fileset xs ≡ xs
rest_all [] e = refl
rest_all (x ∷ xs) e =
    let q = and_parts (is_at_rest x) (list_all is_at_rest xs) e in
    λ i. rest_fileset x q.0 i ∷ rest_all xs q.1 i

pub starts_as : (v : ServerId) (start : Tree) → list_all is_at_rest start.filesets ≡ true → start.away ≡ []
    → KeepsAs v (filesets_first start v) start
starts_as v start rests none = record {
  same = from_list v (filesets_first start v) start refl refl refl (filter_all (is_its v) start.filesets) none
      (sym (ap (λ xs. filter (is_its v) xs) (rest_all start.filesets rests))
      ∙ filter_mapped (is_its v) (is_its v) kept_fileset (λ x. refl) start.filesets);
  own = filter_all (is_its v) start.filesets;
  locks = refl;
  opens = refl;
}
