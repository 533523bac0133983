-- Trees whose filesets follow those of another tree, one by one.
use Rattle.std.proofs.Common.{◌≡◌, ℕ, zero, suc, ◌==◌, ◌+◌, nat_lt, Bool, true, false, ◌&&◌, ◌||◌, not, cond, List, [], ◌∷◌, length, Some, refl, sym, ap, ◌∙◌, subst, arith, inl, inr}
use Rattle.std.specs.Prelude.{slice_get, slice_set, map, if◌then◌else◌}
use Rattle.std.specs.List.{find, list_any, list_all}
use Rattle.std.specs.Option.{option_map_or}
use Rattle.std.proofs.lemmas.Grind.{common_steps}
use Rattle.std.proofs.lemmas.Bool.Decides.{eqb_tells}
use Rattle.base_types.specs.Lists.{changed_at}
use Rattle.base_types.specs.declared.ids.Fid.{Fid}
use Rattle.base_types.specs.declared.ids.FilesetId.{FilesetId}
use Rattle.tree_objects.proofs.Observed.{and_left, and_right}
use Rattle.tree_objects.proofs.Rising.{and_both, all_implied}
use Rattle.tree_filesets.specs.declared.fileset.Fileset.{Fileset}
use Rattle.tree_filesets.specs.WellFormed.{is_at_rest, IsWellFormed as IsWellFormedFileset}
use Rattle.tree_filesets.specs.Laws.{is_file_at, IsSameFileset}
use Rattle.tree_answers.specs.declared.tree.Tree.{Tree}
use Rattle.tree_answers.specs.declared.tree.LockUse.{LockUse}
use Rattle.tree_answers.specs.declared.tree.OpenUse.{OpenUse}
use Rattle.tree_answers.specs.Finding.{is_named, has_id}
use Rattle.tree_answers.specs.Founding.{promised, away_promise, away_promised, fileset_count}
use Rattle.tree_answers.proofs.Totals.{total, sum_total}
use Rattle.tree_filesets.specs.Promises.{promise, clone_promise, new_promise}
use Rattle.base_types.specs.Name.{same_name}
use Rattle.base_types.specs.declared.ids.ServerId.{ServerId}
use Rattle.tree_answers.specs.declared.tree.Away.{Away}
use Rattle.base_types.specs.Ids.{same_fid}
use Rattle.tree_answers.specs.Uses.{is_used}
use Rattle.tree_answers.specs.WellFormed.{ids_rise, names_differ, is_declared, is_given, AreWellFormed, is_elsewhere, rests_if_clone, names_file, IsWellFormed}

-- A fileset comes after another: it is the same one, it stays well formed, the files in use stay, and a clone stays as it is.
pub record Follows (used : Fid → Bool) (old new : Fileset) : Type 0 where
  pub same : IsSameFileset old new
  pub formed : IsWellFormedFileset old → IsWellFormedFileset new
  pub files : (fid : Fid) → IsWellFormedFileset old → fid.fileset ≡ old.id → used fid ≡ true → is_file_at old fid ≡ true → is_file_at new fid ≡ true
  pub clone : old.read_only ≡ true → is_at_rest old ≡ true → new ≡ old

-- so do all
abbrev pub AllFollow : (Fid → Bool) → List Fileset → List Fileset → Type 0
AllFollow used [] [] = Unit {0}
AllFollow used [] (new ∷ news) = ⊥
AllFollow used (old ∷ olds) [] = ⊥
AllFollow used (old ∷ olds) (new ∷ news) = Follows used old new × AllFollow used olds news

-- each follows itself
pub follows_itself : (used : Fid → Bool) (fileset : Fileset) → Follows used fileset fileset
follows_itself used fileset = record { same = record { server = refl; id = refl; name = refl; read_only = refl; objects = refl; moves = refl }; formed = λ w. w; files = λ fid w e u h. h; clone = λ r q. refl }

pub all_follow_themselves : (used : Fid → Bool) (filesets : List Fileset) → AllFollow used filesets filesets
all_follow_themselves used [] = tt
all_follow_themselves used (fileset ∷ filesets) = (follows_itself used fileset, all_follow_themselves used filesets)

-- one is put in another's place
pub set_follows : (used : Fid → Bool) (filesets : List Fileset) (place : ℕ) (old new : Fileset) → Some old ≡ slice_get filesets place → Follows used old new → AllFollow used filesets (slice_set filesets place new)
set_follows used [] place old new e f = tt
set_follows used (x ∷ xs) zero old new e f = let same : old ≡ x = cc in (subst (λ o. Follows used o new) same f, all_follow_themselves used xs)
set_follows used (x ∷ xs) (suc place) old new e f = (follows_itself used x, set_follows used xs place old new e f)

-- one is changed
pub changed_follows : (used : Fid → Bool) (filesets : List Fileset) (place : ℕ) (change : Fileset → Fileset) → ((old : Fileset) → Some old ≡ slice_get filesets place → Follows used old (change old)) → AllFollow used filesets (changed_at filesets place change)
changed_follows used [] place change f = tt
changed_follows used (x ∷ xs) zero change f = (f x refl, all_follow_themselves used xs)
changed_follows used (x ∷ xs) (suc place) change f = (follows_itself used x, changed_follows used xs place change f)

-- all are changed
pub map_follows : (used : Fid → Bool) (change : Fileset → Fileset) → ((old : Fileset) → Follows used old (change old)) → (filesets : List Fileset) → AllFollow used filesets (map change filesets)
map_follows used change f [] = tt
map_follows used change f (x ∷ xs) = (f x, map_follows used change f xs)

-- what goes by id, server and name alone
same_all : (used : Fid → Bool) (test : Fileset → Bool) → ((old new : Fileset) → IsSameFileset old new → test new ≡ test old) → (olds news : List Fileset) → AllFollow used olds news → list_all test news ≡ list_all test olds
same_all used test t [] [] a = refl
same_all used test t [] (new ∷ news) a = absurd a
same_all used test t (old ∷ olds) [] a = absurd a
same_all used test t (old ∷ olds) (new ∷ news) a = rw (t old new a.0.same, same_all used test t olds news a.1) refl

same_any : (used : Fid → Bool) (test : Fileset → Bool) → ((old new : Fileset) → IsSameFileset old new → test new ≡ test old) → (olds news : List Fileset) → AllFollow used olds news → list_any test news ≡ list_any test olds
same_any used test t [] [] a = refl
same_any used test t [] (new ∷ news) a = absurd a
same_any used test t (old ∷ olds) [] a = absurd a
same_any used test t (old ∷ olds) (new ∷ news) a = rw (t old new a.0.same, same_any used test t olds news a.1) refl

same_rise : (used : Fid → Bool) (olds news : List Fileset) → AllFollow used olds news → ids_rise news ≡ ids_rise olds
same_rise used [] [] a = refl
same_rise used [] (new ∷ news) a = absurd a
same_rise used (old ∷ olds) [] a = absurd a
same_rise used (old ∷ olds) (new ∷ news) a =
    rw (a.0.same.id, same_all used (λ other. nat_lt old.id.0 other.id.0) (λ x y s. ap (λ id. nat_lt old.id.0 id.0) s.id) olds news a.1, same_rise used olds news a.1) refl

same_names : (used : Fid → Bool) (olds news : List Fileset) → AllFollow used olds news → names_differ news ≡ names_differ olds
same_names used [] [] a = refl
same_names used [] (new ∷ news) a = absurd a
same_names used (old ∷ olds) [] a = absurd a
same_names used (old ∷ olds) (new ∷ news) a =
    rw (a.0.same.server, a.0.same.name, same_any used (is_named old.server old.name) (λ x y s. rw (s.server, s.name) refl) olds news a.1, same_names used olds news a.1) refl

-- a clone stays at rest, and each fileset is promised as much
still_rests : (used : Fid → Bool) (old new : Fileset) → Follows used old new → rests_if_clone old ≡ true → rests_if_clone new ≡ true
still_rests used old new f h = rw f.same.read_only (by_kind old.read_only refl h)
  where
    by_kind : (read_only : Bool) → old.read_only ≡ read_only → (not read_only || is_at_rest old) ≡ true → (not read_only || is_at_rest new) ≡ true
    by_kind true e q = ap is_at_rest (f.clone e q) ∙ q
    by_kind false e q = refl

still_promised : (used : Fid → Bool) (old new : Fileset) → Follows used old new → rests_if_clone old ≡ true → promise new ≡ promise old
still_promised used old new f h = rw (f.same.read_only, f.same.objects) (by_kind old.read_only refl h)
  where
    by_kind : (read_only : Bool) → old.read_only ≡ read_only → (not read_only || is_at_rest old) ≡ true →
        (if read_only then clone_promise new else new_promise old.objects) ≡ (if read_only then clone_promise old else new_promise old.objects)
    by_kind true e q = ap clone_promise (f.clone e q)
    by_kind false e q = refl

all_rest : (used : Fid → Bool) (olds news : List Fileset) → AllFollow used olds news → list_all rests_if_clone olds ≡ true → list_all rests_if_clone news ≡ true
all_rest used [] [] a h = refl
all_rest used [] (new ∷ news) a h = absurd a
all_rest used (old ∷ olds) [] a h = absurd a
all_rest used (old ∷ olds) (new ∷ news) a h = and_both _ _ (still_rests used old new a.0 (and_left _ _ h)) (all_rest used olds news a.1 (and_right _ _ h))

same_promised : (used : Fid → Bool) (server : ServerId) (olds news : List Fileset) → AllFollow used olds news → list_all rests_if_clone olds ≡ true → promised server news ≡ promised server olds
same_promised used server [] [] a h = refl
same_promised used server [] (new ∷ news) a h = absurd a
same_promised used server (old ∷ olds) [] a h = absurd a
same_promised used server (old ∷ olds) (new ∷ news) a h =
    ap (λ at. (if at.0 == server.0 then promise new else 0) + promised server news) a.0.same.server
    ∙ ap (λ n. (if old.server.0 == server.0 then n else 0) + promised server news) (still_promised used old new a.0 (and_left (rests_if_clone old) (list_all rests_if_clone olds) h))
    ∙ ap (λ n. (if old.server.0 == server.0 then promise old else 0) + n) (same_promised used server olds news a.1 (and_right (rests_if_clone old) (list_all rests_if_clone olds) h))

same_total : (used : Fid → Bool) (f : Fileset → ℕ) → ((old new : Fileset) → IsSameFileset old new → f new ≡ f old) → (olds news : List Fileset) → AllFollow used olds news → total f news ≡ total f olds
same_total used f t [] [] a = refl
same_total used f t [] (new ∷ news) a = absurd a
same_total used f t (old ∷ olds) [] a = absurd a
same_total used f t (old ∷ olds) (new ∷ news) a = rw (t old new a.0.same, same_total used f t olds news a.1) refl

pub same_count : (used : Fid → Bool) (server : ServerId) (olds news : List Fileset) → AllFollow used olds news → fileset_count server news ≡ fileset_count server olds
same_count used server olds news a =
    sum_total (λ fileset. cond (fileset.server.0 == server.0) 1 0) news
    ∙ same_total used (λ fileset. cond (fileset.server.0 == server.0) 1 0) (λ x y s. ap (λ at. cond (at.0 == server.0) 1 0) s.server) olds news a
    ∙ sym (sum_total (λ fileset. cond (fileset.server.0 == server.0) 1 0) olds)

-- what is told of the fileset with an id
same_found : {X : Type 0} (used : Fid → Bool) (f : Fileset → X) (none : X) (id : FilesetId) → ((old new : Fileset) → Follows used old new → rests_if_clone old ≡ true → f new ≡ f old) →
    (olds news : List Fileset) → AllFollow used olds news → list_all rests_if_clone olds ≡ true → option_map_or f (find (has_id id) news) none ≡ option_map_or f (find (has_id id) olds) none
same_found used f none id t [] [] a h = refl
same_found used f none id t [] (new ∷ news) a h = absurd a
same_found used f none id t (old ∷ olds) [] a h = absurd a
same_found used f none id t (old ∷ olds) (new ∷ news) a h =
    ap (λ i. option_map_or f (cond (i.0 == id.0) (Some new) (find (has_id id) news)) none) a.0.same.id
    ∙ by_id (old.id.0 == id.0) (t old new a.0 (and_left (rests_if_clone old) (list_all rests_if_clone olds) h))
    (same_found used f none id t olds news a.1 (and_right (rests_if_clone old) (list_all rests_if_clone olds) h))
  where
    by_id : (b : Bool) → f new ≡ f old → option_map_or f (find (has_id id) news) none ≡ option_map_or f (find (has_id id) olds) none →
        option_map_or f (cond b (Some new) (find (has_id id) news)) none ≡ option_map_or f (cond b (Some old) (find (has_id id) olds)) none
    by_id true here rest = here
    by_id false here rest = rest

same_away_promised : (used : Fid → Bool) (server : ServerId) (olds news : List Fileset) (records : List Away) → AllFollow used olds news → list_all rests_if_clone olds ≡ true →
    away_promised server news records ≡ away_promised server olds records
same_away_promised used server olds news [] a h = refl
same_away_promised used server olds news (away ∷ records) a h =
    ap (λ n. (if away.server.0 == server.0 then (if away.room_kept then n else 0) else 0) + away_promised server news records) (same_found used promise 0 away.fileset (still_promised used) olds news a h)
    ∙ ap (λ n. (if away.server.0 == server.0 then away_promise olds away else 0) + n) (same_away_promised used server olds news records a h)

same_elsewhere : (used : Fid → Bool) (olds news : List Fileset) (records : List Away) → AllFollow used olds news → list_all rests_if_clone olds ≡ true → list_all (is_elsewhere news) records ≡ list_all (is_elsewhere olds) records
same_elsewhere used olds news [] a h = refl
same_elsewhere used olds news (away ∷ records) a h =
    ap (λ t. t && list_all (is_elsewhere news) records) (same_found used (λ fileset. not (fileset.server.0 == away.server.0) && same_name fileset.name away.name) false away.fileset
    (λ old new f q. rw (f.same.server, f.same.name) refl) olds news a h)
    ∙ ap (λ t. is_elsewhere olds away && t) (same_elsewhere used olds news records a h)

same_free : (used : Fid → Bool) (olds news : List Fileset) (records : List Away) → AllFollow used olds news →
    list_all (λ away. not (list_any (is_named away.server away.name) news)) records ≡ list_all (λ away. not (list_any (is_named away.server away.name) olds)) records
same_free used olds news [] a = refl
same_free used olds news (away ∷ records) a =
    ap (λ t. not t && list_all (λ away. not (list_any (is_named away.server away.name) news)) records) (same_any used (is_named away.server away.name) (λ x y s. rw (s.server, s.name) refl) olds news a)
    ∙ ap (λ t. not (list_any (is_named away.server away.name) olds) && t) (same_free used olds news records a)

-- all stay well formed
all_formed : (used : Fid → Bool) (olds news : List Fileset) → AllFollow used olds news → AreWellFormed olds → AreWellFormed news
all_formed used [] [] a w = tt
all_formed used [] (new ∷ news) a w = absurd a
all_formed used (old ∷ olds) [] a w = absurd a
all_formed used (old ∷ olds) (new ∷ news) a w = (a.0.formed w.0, all_formed used olds news a.1 w.1)

-- a file in use is still there
pub file_there : (used : Fid → Bool) (olds news : List Fileset) → AllFollow used olds news → AreWellFormed olds → (fid : Fid) → used fid ≡ true → names_file olds fid ≡ true → names_file news fid ≡ true
file_there used [] [] a w fid u = λ h. h
file_there used [] (new ∷ news) a w fid u = absurd a
file_there used (old ∷ olds) [] a w fid u = absurd a
file_there used (old ∷ olds) (new ∷ news) a w fid u =
    elim (eqb_tells old.id.0 fid.fileset.0) as (λ _. names_file (old ∷ olds) fid ≡ true → names_file (new ∷ news) fid ≡ true) [
      | inl (e, k) ↦
          let is_its : fid.fileset ≡ old.id = ap (λ n. let id : FilesetId = record { 0 = n } in id) (sym k) in
          rw (a.0.same.id, e) (λ h. a.0.files fid w.0 is_its u h)
      | inr (e, k) ↦ rw (a.0.same.id, e) (file_there used olds news a.1 w.1 fid u)
    ]

-- one of two
or_left : (a b : Bool) → a ≡ true → (a || b) ≡ true
or_left a b h = rw h refl

or_right : (a b : Bool) → b ≡ true → (a || b) ≡ true
or_right true b h = refl
or_right false b h = h

pub same_fid_itself : (fid : Fid) → same_fid fid fid ≡ true
same_fid_itself fid =
    let a : (fid.fileset.0 == fid.fileset.0) ≡ true = grind (arith, common_steps) in let b : (fid.anode == fid.anode) ≡ true = grind (arith, common_steps) in
    let c : (fid.unique == fid.unique) ≡ true = grind (arith, common_steps) in rw (a, b, c) refl

-- what is locked, and what is open, is in use
all_locked : (locks : List LockUse) → list_all (λ lock. list_any (λ other. same_fid other.fid lock.fid) locks) locks ≡ true
all_locked [] = refl
all_locked (lock ∷ locks) =
    and_both _ _ (or_left _ _ (same_fid_itself lock.fid))
    (all_implied (λ x. list_any (λ other. same_fid other.fid x.fid) locks) (λ x. same_fid lock.fid x.fid || list_any (λ other. same_fid other.fid x.fid) locks) (λ x h. or_right _ _ h) locks (all_locked locks))

all_opened : (opens : List OpenUse) → list_all (λ opened. list_any (λ other. same_fid other.fid opened.fid) opens) opens ≡ true
all_opened [] = refl
all_opened (opened ∷ opens) =
    and_both _ _ (or_left _ _ (same_fid_itself opened.fid))
    (all_implied (λ x. list_any (λ other. same_fid other.fid x.fid) opens) (λ x. same_fid opened.fid x.fid || list_any (λ other. same_fid other.fid x.fid) opens) (λ x h. or_right _ _ h) opens (all_opened opens))

-- what follows from two
pub all_both : {X : Type 0} (p q r : X → Bool) → ((x : X) → p x ≡ true → q x ≡ true → r x ≡ true) → (xs : List X) → list_all p xs ≡ true → list_all q xs ≡ true → list_all r xs ≡ true
all_both p q r f [] h k = refl
all_both p q r f (x ∷ xs) h k = and_both _ _ (f x (and_left _ _ h) (and_left _ _ k)) (all_both p q r f xs (and_right _ _ h) (and_right _ _ k))

-- a tree whose filesets follow stays well formed
pub well_formed_followed : (tree : Tree) (news : List Fileset) → IsWellFormed tree → AllFollow (is_used tree.locks tree.opens) tree.filesets news → IsWellFormed (record tree { filesets = news })
well_formed_followed tree news w a =
    let used = is_used tree.locks tree.opens in
    record {
      roster = w.roster;
      servers = w.servers;
      ordered = same_rise used tree.filesets news a ∙ w.ordered;
      named = same_names used tree.filesets news a ∙ w.named;
      declared = same_all used (λ fileset. is_declared (length tree.servers) fileset.server) (λ x y s. ap (λ server. is_declared (length tree.servers) server) s.server) tree.filesets news a ∙ w.declared;
      given = same_all used (λ fileset. is_given tree.servers fileset.id) (λ x y s. ap (λ id. is_given tree.servers id) s.id) tree.filesets news a ∙ w.given;
      filesets = all_formed used tree.filesets news a w.filesets;
      clones = all_rest used tree.filesets news a w.clones;
      away = record {
        ordered = w.away.ordered;
        named = w.away.named;
        free = same_free used tree.filesets news tree.away a ∙ w.away.free;
        declared = w.away.declared;
        elsewhere = same_elsewhere used tree.filesets news tree.away a w.clones ∙ w.away.elsewhere;
      };
      counted = λ server. let same = same_count used server tree.filesets news a in let before = w.counted server in omega (arith, same, before);
      promised = λ server room h.
          let filesets = same_promised used server tree.filesets news a w.clones in
          let records = same_away_promised used server tree.filesets news tree.away a w.clones in
          let before = w.promised server room h in
          omega (arith, filesets, records, before);
      numbers = w.numbers;
      locks = all_both (λ lock. names_file tree.filesets lock.fid) (λ lock. list_any (λ other. same_fid other.fid lock.fid) tree.locks) (λ lock. names_file news lock.fid)
          (λ lock there h. file_there used tree.filesets news a w.filesets lock.fid (or_left _ _ h) there) tree.locks w.locks (all_locked tree.locks);
      opens = all_both (λ opened. names_file tree.filesets opened.fid) (λ opened. list_any (λ other. same_fid other.fid opened.fid) tree.opens) (λ opened. names_file news opened.fid)
          (λ opened there h. file_there used tree.filesets news a w.filesets opened.fid (or_right _ _ h) there) tree.opens w.opens (all_opened tree.opens);
    }
