-- With what a server starts.
use Rattle.std.proofs.Common.{◌≡◌, ◌≤◌, ◌+◌, ◌==◌, nat_lt, Bool, true, false, ◌||◌, List, [], ◌∷◌, filter, refl, ap}
use Rattle.std.proofs.Common.{◌∙◌, arith}
use Rattle.std.proofs.lemmas.Bool.{and_parts, false≢true}
use Rattle.std.proofs.lemmas.List.Sums.{sum_by-cons}
use Rattle.std.specs.List.{list_all, list_any}
use Rattle.std.specs.Prelude.{cond, if◌then◌else◌, not}
use Rattle.base_types.specs.declared.ids.ServerId.{ServerId}
use Rattle.tree_filesets.specs.Promises.{promise}
use Rattle.tree_filesets.specs.WellFormed.{is_at_rest}
use Rattle.tree_filesets.specs.declared.fileset.Fileset.{Fileset}
use Rattle.tree_objects.proofs.Rising.{all_filter}
use Rattle.tree_answers.specs.Finding.{is_named}
use Rattle.tree_answers.specs.Founding.{away_promised, count_at, fileset_count, promised, promised_at}
use Rattle.tree_answers.specs.WellFormed.{AreRecords, AreWellFormed, IsWellFormed, ids_rise, names_differ}
use Rattle.tree_answers.specs.declared.tree.Away.{Away}
use Rattle.tree_answers.specs.declared.tree.Tree.{Tree}
use Rattle.run_contents.proofs.KeptGives.{both}
use Rattle.run_contents.specs.Starts.{StartsKept}
use Rattle.run_rules.specs.Kept.{filesets_first}

module _ (test : Fileset → Bool) where
  rise : (xs : List Fileset) → ids_rise xs ≡ true → ids_rise (filter test xs) ≡ true
  rise [] h = refl
  rise (x ∷ xs) h = go (rise xs q.1) (test x)
    where
      q : (list_all (λ other. nat_lt x.id.0 other.id.0) xs ≡ true) × (ids_rise xs ≡ true)
      q = and_parts (list_all (λ other. nat_lt x.id.0 other.id.0) xs) (ids_rise xs) h

      go : ids_rise (filter test xs) ≡ true → (b : Bool)
          → ids_rise (if b then x ∷ filter test xs else filter test xs) ≡ true
      go rest true =
          both (list_all (λ other. nat_lt x.id.0 other.id.0) (filter test xs)) (ids_rise (filter test xs))
          (all_filter (λ other. nat_lt x.id.0 other.id.0) test xs q.0) rest
      go rest false = rest

  none_any : (p : Fileset → Bool) (xs : List Fileset) → not (list_any p xs) ≡ true
      → not (list_any p (filter test xs)) ≡ true
  none_any p [] h = refl
  none_any p (x ∷ xs) h = go (none_any p xs) (p x) refl h
    where
      by : p x ≡ false → not (list_any p (filter test xs)) ≡ true → (t : Bool)
          → not (list_any p (if t then x ∷ filter test xs else filter test xs)) ≡ true
      by e rest true = ap (λ (a : Bool). not (a || list_any p (filter test xs))) e ∙ rest
      by e rest false = rest

      go : (not (list_any p xs) ≡ true → not (list_any p (filter test xs)) ≡ true) → (b : Bool) → p x ≡ b
          → not (b || list_any p xs) ≡ true
          → not (list_any p (if test x then x ∷ filter test xs else filter test xs)) ≡ true
      go rest true e h = absurd (false≢true h)
      go rest false e h = by e (rest h) (test x)

  differ : (xs : List Fileset) → names_differ xs ≡ true → names_differ (filter test xs) ≡ true
  differ [] h = refl
  differ (x ∷ xs) h = go (differ xs q.1) (test x)
    where
      q : (not (list_any (is_named x.server x.name) xs) ≡ true) × (names_differ xs ≡ true)
      q = and_parts (not (list_any (is_named x.server x.name) xs)) (names_differ xs) h

      go : names_differ (filter test xs) ≡ true → (b : Bool)
          → names_differ (if b then x ∷ filter test xs else filter test xs) ≡ true
      go rest true =
          both (not (list_any (is_named x.server x.name) (filter test xs))) (names_differ (filter test xs))
          (none_any (is_named x.server x.name) xs q.0) rest
      go rest false = rest

  all_formed : (xs : List Fileset) → AreWellFormed xs → AreWellFormed (filter test xs)
  all_formed [] h = tt
  all_formed (x ∷ xs) h = go (all_formed xs h.1) (test x)
    where
      go : AreWellFormed (filter test xs) → (b : Bool)
          → AreWellFormed (if b then x ∷ filter test xs else filter test xs)
      go rest true = (h.0, rest)
      go rest false = rest

  fewer : (server : ServerId) (xs : List Fileset) → fileset_count server (filter test xs) ≤ fileset_count server xs
  fewer server [] = omega arith
  fewer server (x ∷ xs) = go (fewer server xs) (test x)
    where
      one : (ys : List Fileset)
          → fileset_count server (x ∷ ys) ≡ cond (x.server.0 == server.0) 1 0 + fileset_count server ys
      one ys = sum_by-cons (λ (fileset : Fileset). cond (fileset.server.0 == server.0) 1 0) x ys

      go : fileset_count server (filter test xs) ≤ fileset_count server xs → (b : Bool)
          → fileset_count server (if b then x ∷ filter test xs else filter test xs) ≤ fileset_count server (x ∷ xs)
      go le true = let a = one (filter test xs) in let b = one xs in omega (arith, le, a, b)
      go le false = let b = one xs in omega (arith, le, b)

  less : (server : ServerId) (xs : List Fileset) → promised server (filter test xs) ≤ promised server xs
  less server [] = omega arith
  less server (x ∷ xs) = go (less server xs) (test x)
    where
      go : promised server (filter test xs) ≤ promised server xs → (b : Bool)
          → promised server (if b then x ∷ filter test xs else filter test xs)
          ≤ (if x.server.0 == server.0 then promise x else 0) + promised server xs
      go le true = omega (arith, le)
      go le false = omega (arith, le)

module _ (tree : Tree) (server : ServerId) (w : IsWellFormed tree) (none : tree.away ≡ []) where
  abbrev mine : Fileset → Bool
  mine fileset = fileset.server.0 == server.0

  records : AreRecords (filesets_first tree server)
  records = by tree.away none
    where
      by : (away : List Away) → away ≡ []
          → AreRecords (record (filesets_first tree server) { away = away })
      by [] e = record { ordered = refl; named = refl; free = refl; declared = refl; elsewhere = refl }
      by (a ∷ away) e = absurd (let k : a ∷ away ≡ [] = e in cc)

  counts : (at : ServerId) → count_at (filesets_first tree server) at ≤ count_at tree at
  counts at = let k = fewer mine at tree.filesets in omega (arith, k)

  promises : (at : ServerId) → promised_at (filesets_first tree server) at ≤ promised_at tree at
  promises at =
      let k = less mine at tree.filesets in
      let a : away_promised at (filter mine tree.filesets) tree.away ≡ 0 =
      ap (λ records. away_promised at (filter mine tree.filesets) records) none in
      omega (arith, k, a)

  start_formed : IsWellFormed (filesets_first tree server)
  start_formed = record {
    roster = w.roster;
    servers = w.servers;
    ordered = rise mine tree.filesets w.ordered;
    named = differ mine tree.filesets w.named;
    declared = all_filter _ mine tree.filesets w.declared;
    given = all_filter _ mine tree.filesets w.given;
    filesets = all_formed mine tree.filesets w.filesets;
    clones = all_filter _ mine tree.filesets w.clones;
    away = records;
    counted = λ at. (let k = counts at in let l = w.counted at in omega (arith, k, l));
    promised = λ at room is. (let k = promises at in let l = w.promised at room is in omega (arith, k, l));
    numbers = w.numbers;
    locks = refl;
    opens = refl;
  }

pub starts_kept : StartsKept
starts_kept tree server k none = record {
  formed = start_formed tree server k.formed none;
  rests = all_filter is_at_rest (λ fileset. fileset.server.0 == server.0) tree.filesets k.rests;
}
