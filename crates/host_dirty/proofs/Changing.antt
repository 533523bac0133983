-- How what is dirty changes.
use Rattle.std.proofs.Common.{◌≡◌, ℕ, Bool, true, false, ◌==◌, ◌&&◌, ◌||◌, not, cond, List, [], ◌∷◌, length, Option}
use Rattle.std.proofs.Common.{Some}
use Rattle.std.proofs.Common.{None, is_none, IsSome, Result, Ok, Err, OnErr, unwrap_or, refl, sym, ap, subst, ◌∙◌}
use Rattle.std.proofs.Common.{arith}
use Rattle.std.proofs.Common.{rules}
use Rattle.std.specs.Ordering.{nat_cmp, is_eq, ordering_then}
use Rattle.std.specs.declared.cmp.Ordering.{Ordering}
use Rattle.std.specs.declared.cmp.Ordering.TheVariants.{Less, Equal, Greater}
use Rattle.std.specs.BTreeMap.{get, is_at}
use Rattle.std.specs.Map.{lookup}
use Rattle.std.proofs.lemmas.Bool.Decides.{nat_tests}
use Rattle.base_types.specs.Ids.{same_fid}
use Rattle.base_types.specs.Spans.{has_byte, in_spans}
use Rattle.base_types.specs.declared.ids.Fid.{Fid}
use Rattle.base_types.specs.declared.span.Span.{Span}
use Rattle.token_ranges.specs.Positions.{Joins, Leaves}
use Rattle.host_dirty.specs.Files.{FileKey, key_of, key_cmp, clean, is_clean}
use Rattle.host_dirty.specs.Dirtiness.{file_at, length_of, is_dirty, Puts, Adds, Cuts, IsSame, SetsLength}
use Rattle.host_dirty.specs.declared.dirty.Dirty.{Dirty}
use Rattle.host_dirty.specs.declared.file.DirtyFile.{DirtyFile}

eq_then : (x y : Ordering) → is_eq (ordering_then x y) ≡ (is_eq x && is_eq y)
eq_then Less y = refl
eq_then Equal y = refl
eq_then Greater y = refl

eq_nat : (a b : ℕ) → is_eq (nat_cmp a b) ≡ (a == b)
eq_nat a b = grind (arith, nat_tests)

and_regrouped : (x y z : Bool) → (x && (y && z)) ≡ ((x && y) && z)
and_regrouped true y z = refl
and_regrouped false y z = refl

-- keys tie where the fids are the same
pub same_key : (a b : Fid) → is_at (key_cmp (key_of a)) (key_of b) ≡ same_fid a b
same_key a b =
    eq_then (nat_cmp a.fileset.0 b.fileset.0) (ordering_then (nat_cmp a.anode b.anode) (nat_cmp a.unique b.unique))
    ∙ (λ i. eq_nat a.fileset.0 b.fileset.0 i && eq_then (nat_cmp a.anode b.anode) (nat_cmp a.unique b.unique) i)
    ∙ (λ i. (a.fileset.0 == b.fileset.0) && (eq_nat a.anode b.anode i && eq_nat a.unique b.unique i))
    ∙ and_regrouped (a.fileset.0 == b.fileset.0) (a.anode == b.anode) (a.unique == b.unique)

same_means : (a b c x y z : ℕ) → (((a == b) && (c == x)) && (y == z)) ≡ true → (a ≡ b) × (c ≡ x) × (y ≡ z)
same_means a b c x y z e = (grind (arith, nat_tests), grind (arith, nat_tests), grind (arith, nat_tests))

pub one_fid : (a b : Fid) → same_fid a b ≡ true → a ≡ b
one_fid a b e =
    let p = same_means a.fileset.0 b.fileset.0 a.anode b.anode a.unique b.unique e in
    λ i. record { fileset = record { 0 = p.0 i }; anode = p.1 i; unique = p.2 i }

-- a file that is clean
no_spans : (spans : List Span) → (length spans == 0) ≡ true → spans ≡ []
no_spans [] h = refl
no_spans (span ∷ spans) h = absurd (search (rules, h))

no_length : (length : Option ℕ) → is_none length ≡ true → length ≡ None
no_length None h = refl
no_length (Some n) h = absurd (search (rules, h))

and_both : (a b : Bool) → (a && b) ≡ true → (a ≡ true) × (b ≡ true)
and_both true b h = (refl, h)
and_both false b h = absurd (search (rules, h))

pub clean_is : (file : DirtyFile) → is_clean file ≡ true → file ≡ clean
clean_is file h =
    let both = and_both (length file.spans == 0) (is_none file.length) h in
    let spans = no_spans file.spans both.0 in
    let len = no_length file.length both.1 in
    λ i. record { spans = spans i; length = len i }

-- a file was put into the map, or taken out
pub put_in : (old new : Dirty) (fid : Fid) (file : DirtyFile) →
    ((q : FileKey) → get key_cmp new.files q
    ≡ cond (is_at (key_cmp (key_of fid)) q) (Some file) (get key_cmp old.files q)) → Puts old fid file new
put_in old new fid file updates other =
    ap (λ o. unwrap_or o clean) (updates (key_of other))
    ∙ ap (λ t. unwrap_or (cond t (Some file) (get key_cmp old.files (key_of other))) clean) (same_key fid other)
    ∙ by_test (same_fid fid other)
  where
    by_test : (t : Bool) → unwrap_or (cond t (Some file) (get key_cmp old.files (key_of other))) clean
        ≡ cond t file (file_at old other)
    by_test true = refl
    by_test false = refl

pub taken_out : (old new : Dirty) (fid : Fid) (file : DirtyFile) → file ≡ clean →
    ((q : FileKey) → get key_cmp new.files q
    ≡ cond (is_at (key_cmp (key_of fid)) q) None (get key_cmp old.files q)) → Puts old fid file new
taken_out old new fid file is_clean updates other =
    ap (λ o. unwrap_or o clean) (updates (key_of other))
    ∙ ap (λ t. unwrap_or (cond t None (get key_cmp old.files (key_of other))) clean) (same_key fid other)
    ∙ by_test (same_fid fid other)
  where
    by_test : (t : Bool) → unwrap_or (cond t None (get key_cmp old.files (key_of other))) clean
        ≡ cond t file (file_at old other)
    by_test true = sym is_clean
    by_test false = refl

module _ (old new : Dirty) (fid : Fid) (file was : DirtyFile)
    (before : was ≡ file_at old fid) (puts : Puts old fid file new) where
  pub added : (span : Span) → Joins was.spans span file.spans → file.length ≡ was.length → Adds old fid span new
  unfolding Joins
  added span joins same =
      record {
        positions = λ other at.
            ap (λ f. in_spans f.spans at) (puts other) ∙ position other at (same_fid fid other) refl;
        lengths = λ other. ap (λ f. f.length) (puts other) ∙ length other (same_fid fid other) refl;
      }
    where
      position : (other : Fid) (at : ℕ) (t : Bool) → same_fid fid other ≡ t →
          in_spans (cond t file (file_at old other)).spans at ≡ (is_dirty old other at || (t && has_byte span at))
      position other at true e =
          joins at ∙ ap (λ f. in_spans f.spans at || has_byte span at) (before ∙ ap (file_at old) (one_fid fid other e))
      position other at false e = sym (or_none (is_dirty old other at))
        where
          or_none : (b : Bool) → (b || false) ≡ b
          or_none true = refl
          or_none false = refl

      length : (other : Fid) (t : Bool) → same_fid fid other ≡ t →
          (cond t file (file_at old other)).length ≡ length_of old other
      length other true e = same ∙ ap (λ f. f.length) (before ∙ ap (file_at old) (one_fid fid other e))
      length other false e = refl

  pub was_cut : (span : Span) → Leaves was.spans span file.spans → file.length ≡ was.length → Cuts old fid span new
  unfolding Leaves
  was_cut span leaves same =
      record {
        positions = λ other at.
            ap (λ f. in_spans f.spans at) (puts other) ∙ position other at (same_fid fid other) refl;
        lengths = λ other. ap (λ f. f.length) (puts other) ∙ length other (same_fid fid other) refl;
      }
    where
      position : (other : Fid) (at : ℕ) (t : Bool) → same_fid fid other ≡ t →
          in_spans (cond t file (file_at old other)).spans at ≡ (is_dirty old other at && not (t && has_byte span at))
      position other at true e =
          leaves at ∙ ap (λ f. in_spans f.spans at && not (has_byte span at))
          (before ∙ ap (file_at old) (one_fid fid other e))
      position other at false e = sym (and_all (is_dirty old other at))
        where
          and_all : (b : Bool) → (b && true) ≡ b
          and_all true = refl
          and_all false = refl

      length : (other : Fid) (t : Bool) → same_fid fid other ≡ t →
          (cond t file (file_at old other)).length ≡ length_of old other
      length other true e = same ∙ ap (λ f. f.length) (before ∙ ap (file_at old) (one_fid fid other e))
      length other false e = refl

  pub length_set : (length : Option ℕ) → file.spans ≡ was.spans → file.length ≡ length → SetsLength old fid length new
  length_set length same given =
      record {
        positions = λ other at.
            ap (λ f. in_spans f.spans at) (puts other) ∙ position other at (same_fid fid other) refl;
        lengths = λ other. ap (λ f. f.length) (puts other) ∙ lengths other (same_fid fid other);
      }
    where
      position : (other : Fid) (at : ℕ) (t : Bool) → same_fid fid other ≡ t →
          in_spans (cond t file (file_at old other)).spans at ≡ is_dirty old other at
      position other at true e =
          ap (λ spans. in_spans spans at) same ∙ ap (λ f. in_spans f.spans at)
          (before ∙ ap (file_at old) (one_fid fid other e))
      position other at false e = refl

      lengths : (other : Fid) (t : Bool) →
          (cond t file (file_at old other)).length ≡ cond t length (length_of old other)
      lengths other true = given
      lengths other false = refl

-- where the map is the same, the same is dirty
pub same_map : (old new : Dirty) → new.files.entries ≡ old.files.entries → IsSame old new
same_map old new same fid = ap (λ es. unwrap_or (lookup (is_at (key_cmp (key_of fid))) es) clean) same

-- a file that was found is what is dirty of it
pub found_is : (old : Dirty) (fid : Fid) (k : FileKey) (was : DirtyFile) → k ≡ key_of fid
    → Some was ≡ get key_cmp old.files k → was ≡ file_at old fid
found_is old fid k was is there =
    ap (λ o. unwrap_or o clean) (there ∙ ap (λ q. get key_cmp old.files q) is)

some_there : (was : DirtyFile) (o : Option DirtyFile) → Some was ≡ o → IsSome o
some_there was o e = subst (λ p. IsSome p) e refl

-- it was changed in its place
pub put_at : (old new : Dirty) (fid : Fid) (k : FileKey) (was file : DirtyFile) → k ≡ key_of fid
    → Some was ≡ get key_cmp old.files k
    → (IsSome (get key_cmp old.files k) → (q : FileKey) →
    get key_cmp new.files q ≡ cond (is_at (key_cmp k) q) (Some file) (get key_cmp old.files q))
    → Puts old fid file new
put_at old new fid k was file is there updates =
    put_in old new fid file (λ q. updates (some_there was (get key_cmp old.files k) there) q
    ∙ ap (λ p. cond (is_at (key_cmp p) q) (Some file) (get key_cmp old.files q)) is)

-- it was changed in its place, and then taken out
out_after : (t : Bool) (w x : Option DirtyFile) → cond t None (cond t w x) ≡ cond t None x
out_after true w x = refl
out_after false w x = refl

pub put_out : (old between new : Dirty) (fid : Fid) (k : FileKey) (was file : DirtyFile) → k ≡ key_of fid
    → Some was ≡ get key_cmp old.files k → file ≡ clean
    → (IsSome (get key_cmp old.files k) → (q : FileKey) →
    get key_cmp between.files q ≡ cond (is_at (key_cmp k) q) (Some file) (get key_cmp old.files q))
    → ((q : FileKey) → get key_cmp new.files q ≡ cond (is_at (key_cmp k) q) None (get key_cmp between.files q))
    → Puts old fid file new
put_out old between new fid k was file is there none updates gone =
    taken_out old new fid file none (λ q. gone q
    ∙ ap (λ o. cond (is_at (key_cmp k) q) None o) (updates (some_there was (get key_cmp old.files k) there) q)
    ∙ out_after (is_at (key_cmp k) q) (Some file) (get key_cmp old.files q)
    ∙ ap (λ p. cond (is_at (key_cmp p) q) None (get key_cmp old.files q)) is)

-- what holds anyway, holds on an error
pub on_err : {A E P : Type 0} (r : Result A E) → P → OnErr r P
on_err (Ok a) p = tt
on_err (Err e) p = p
