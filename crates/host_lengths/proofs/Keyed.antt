-- Lengths, as entries under their files.
use Rattle.std.proofs.Common.{◌≡◌, ◌≤◌, ℕ, Bool, true, false, not, cond, ◌&&◌, ◌==◌, List, [], ◌∷◌}
use Rattle.std.proofs.Common.{map, length, Some, None, refl, sym, ap, ◌∙◌, subst, arith, if◌then◌else◌}
use Rattle.std.specs.List.{AllByRecursion, IsDistinct, filter}
use Rattle.std.specs.Map.{keys_of, lookup, remove_entry, set_value, values_of}
use Rattle.std.proofs.lemmas.Bool.{and_parts, eqb-true}
use Rattle.std.proofs.lemmas.Bool.Decides.{nat_tests}
use Rattle.std.proofs.lemmas.Map.Keys.{IsDistinct-head, IsDistinct-tail}
use Rattle.indexmap.specs.IndexMap.{insert_entry}
use Rattle.base_types.specs.declared.ids.Fid.{Fid}
use Rattle.host_lengths.specs.Giving.{is_given, length_given, with_given, without_file}
use Rattle.host_lengths.specs.Lengths.{FileKey, file_key, keyed, same_file}
use Rattle.host_lengths.specs.declared.given.Given.{Given}

numbers_turned : (a b c x y z : ℕ) → ((a == x) && ((b == y) && (c == z))) ≡ (((x == a) && (y == b)) && (z == c))
numbers_turned a b c x y z = grind (arith, nat_tests)

pub key_is : (fid : Fid) (g : Given) → same_file (file_key fid) (file_key g.fid) ≡ is_given fid g
key_is fid g =
    numbers_turned fid.fileset.0 fid.anode fid.unique g.fid.fileset.0 g.fid.anode g.fid.unique

pub file_is : (a b : FileKey) → same_file a b ≡ true → a ≡ b
file_is a b h =
    let first = and_parts (a.0 == b.0) ((a.1.0 == b.1.0) && (a.1.1 == b.1.1)) h in
    let second = and_parts (a.1.0 == b.1.0) (a.1.1 == b.1.1) first.1 in
    let x : a.0 ≡ b.0 = eqb-true a.0 b.0 first.0 in
    let y : a.1.0 ≡ b.1.0 = eqb-true a.1.0 b.1.0 second.0 in
    let z : a.1.1 ≡ b.1.1 = eqb-true a.1.1 b.1.1 second.1 in λ i. (x i, (y i, z i))

pub file_itself : (a : FileKey) → same_file a a ≡ true
file_itself a = numbers_same a.0 a.1.0 a.1.1
  where
    numbers_same : (x y z : ℕ) → ((x == x) && ((y == y) && (z == z))) ≡ true
    numbers_same x y z = grind (arith, nat_tests)

pub values_keyed : (gs : List Given) → values_of (keyed gs) ≡ gs
values_keyed [] = refl
values_keyed (g ∷ gs) = ap (λ hs. g ∷ hs) (values_keyed gs)

-- entries that stand under their files
pub rekeyed : (es : List (FileKey × Given)) (gs : List Given) → es ≡ keyed gs →
    (es ≡ keyed (values_of es)) × (values_of es ≡ gs)
rekeyed es gs e =
    let v = ap values_of e ∙ values_keyed gs in (e ∙ ap keyed (sym v), v)

none_kept : (p : Given → Bool) (gs : List Given) → length (filter p gs) ≡ 0 → filter (λ g. not (p g)) gs ≡ gs
none_kept p [] none = refl
none_kept p (g ∷ gs) none =
    (elim (p g) as (λ b. length (cond b (g ∷ filter p gs) (filter p gs)) ≡ 0 →
    cond (not b) (g ∷ filter (λ h. not (p h)) gs) (filter (λ h. not (p h)) gs) ≡ g ∷ gs) [
      | true ↦ λ k. absurd (omega (arith, k))
      | false ↦ λ k. ap (λ hs. g ∷ hs) (none_kept p gs k)
    ]) none

module _ (fid : Fid) where
  abbrev test : FileKey → Bool
  test key = same_file (file_key fid) key

  pub lookup_keyed : (gs : List Given) → lookup test (keyed gs) ≡ length_given gs fid
  lookup_keyed [] = refl
  lookup_keyed (g ∷ gs) = λ i. cond (key_is fid g i) (Some g) (lookup_keyed gs i)

  pub removed_keyed : (gs : List Given) → length (filter (is_given fid) gs) ≤ 1 →
      remove_entry test (keyed gs) ≡ keyed (without_file fid gs)
  removed_keyed [] once = refl
  removed_keyed (g ∷ gs) once =
      (λ i. cond (key_is fid g i) (keyed gs) ((file_key g.fid, g) ∷ remove_entry test (keyed gs)))
      ∙ (elim (is_given fid g) as (λ b. length (cond b (g ∷ filter (is_given fid) gs) (filter (is_given fid) gs)) ≤ 1 →
      cond b (keyed gs) ((file_key g.fid, g) ∷ remove_entry test (keyed gs))
      ≡ keyed (cond (not b) (g ∷ without_file fid gs) (without_file fid gs))) [
        | true ↦ λ k. ap keyed (sym (none_kept (is_given fid) gs (omega (arith, k))))
        | false ↦ λ k. ap (λ es. (file_key g.fid, g) ∷ es) (removed_keyed gs k)
      ]) once

-- a length is put in place of that of its file, or behind all
pub put_keyed : (new : Given) (gs : List Given) →
    insert_entry same_file (keyed gs) (file_key new.fid) new ≡ keyed (with_given new gs)
put_keyed new [] = refl
put_keyed new (g ∷ gs) =
    by_test (same_file (file_key new.fid) (file_key g.fid)) refl (put_keyed new gs)
    ∙ ap (λ b. keyed (if b then new ∷ gs else g ∷ with_given new gs)) (key_is new.fid g)
  where
    by_test : (b : Bool) → same_file (file_key new.fid) (file_key g.fid) ≡ b →
        insert_entry same_file (keyed gs) (file_key new.fid) new ≡ keyed (with_given new gs) →
        (if b then (file_key g.fid, new) ∷ keyed gs
        else (file_key g.fid, g) ∷ insert_entry same_file (keyed gs) (file_key new.fid) new)
        ≡ keyed (if b then new ∷ gs else g ∷ with_given new gs)
    by_test true e rest = ap (λ k. (k, new) ∷ keyed gs) (sym (file_is (file_key new.fid) (file_key g.fid) e))
    by_test false e rest = ap (λ es. (file_key g.fid, g) ∷ es) rest

-- a file that no other is
none_like : (fid : Fid) (g : Given) (gs : List Given) → is_given fid g ≡ true →
    AllByRecursion (λ key. same_file (file_key g.fid) key ≡ false) (keys_of (keyed gs)) →
    length (filter (is_given fid) gs) ≡ 0
none_like fid g [] same apart = refl
none_like fid g (x ∷ gs) same apart =
    let rest = none_like fid g gs same apart.1 in
    let is : file_key fid ≡ file_key g.fid = file_is (file_key fid) (file_key g.fid) (key_is fid g ∙ same) in
    let other : is_given fid x ≡ false =
    sym (key_is fid x) ∙ ap (λ k. same_file k (file_key x.fid)) is ∙ apart.0 in
    ap (λ b. length (cond b (x ∷ filter (is_given fid) gs) (filter (is_given fid) gs))) other ∙ rest

-- lengths whose keys differ are of files of their own
pub once_keyed : (fid : Fid) (gs : List Given) → IsDistinct same_file (keys_of (keyed gs)) →
    length (filter (is_given fid) gs) ≤ 1
once_keyed fid [] distinct = omega arith
once_keyed fid (g ∷ gs) distinct =
    let rest = once_keyed fid gs (IsDistinct-tail same_file (file_key g.fid) (keys_of (keyed gs)) distinct) in
    let apart = IsDistinct-head same_file (file_key g.fid) (keys_of (keyed gs)) distinct in
    elim (is_given fid g) as (λ b. is_given fid g ≡ b →
    length (cond b (g ∷ filter (is_given fid) gs) (filter (is_given fid) gs)) ≤ 1) [
      | true ↦ λ e. let none = none_like fid g gs e apart in omega (arith, none)
      | false ↦ λ e. rest
    ] refl

module _ (f : Given → Given) (fids : (g : Given) → (f g).fid ≡ g.fid) (key : FileKey) where
  -- what changes no length but that of one file
  abbrev pub KeepsOthers : List Given → Type 0
  KeepsOthers [] = Unit {0}
  KeepsOthers (g ∷ gs) = (same_file key (file_key g.fid) ≡ false → f g ≡ g) × KeepsOthers gs

  pub kept_all : (gs : List Given) → KeepsOthers gs →
      AllByRecursion (λ k. same_file key k ≡ false) (keys_of (keyed gs)) → map f gs ≡ gs
  kept_all [] keeps apart = refl
  kept_all (g ∷ gs) keeps apart =
      ap (λ h. h ∷ map f gs) (keeps.0 apart.0) ∙ ap (λ hs. g ∷ hs) (kept_all gs keeps.1 apart.1)

  pub kept_absent : (gs : List Given) → KeepsOthers gs → lookup (same_file key) (keyed gs) ≡ None → map f gs ≡ gs
  kept_absent [] keeps none = refl
  kept_absent (g ∷ gs) keeps none =
      by_test (same_file key (file_key g.fid)) refl none (λ k. kept_absent gs keeps.1 k)
    where
      by_test : (b : Bool) → same_file key (file_key g.fid) ≡ b →
          cond b (Some g) (lookup (same_file key) (keyed gs)) ≡ None →
          (lookup (same_file key) (keyed gs) ≡ None → map f gs ≡ gs) → map f (g ∷ gs) ≡ g ∷ gs
      by_test true e k rest = absurd (cc)
      by_test false e k rest = ap (λ h. h ∷ map f gs) (keeps.0 e) ∙ ap (λ hs. g ∷ hs) (rest k)

  pub set_keyed : (gs : List Given) (h : Given) → IsDistinct same_file (keys_of (keyed gs)) → KeepsOthers gs →
      lookup (same_file key) (keyed gs) ≡ Some h → set_value (same_file key) (keyed gs) (f h) ≡ keyed (map f gs)
  set_keyed [] h distinct keeps there = absurd (cc)
  set_keyed (g ∷ gs) h distinct keeps there =
      by_test (same_file key (file_key g.fid)) refl there
      (λ k. set_keyed gs h (IsDistinct-tail same_file (file_key g.fid) (keys_of (keyed gs)) distinct) keeps.1 k)
    where
      by_test : (b : Bool) → same_file key (file_key g.fid) ≡ b →
          cond b (Some g) (lookup (same_file key) (keyed gs)) ≡ Some h →
          (lookup (same_file key) (keyed gs) ≡ Some h → set_value (same_file key) (keyed gs) (f h) ≡ keyed (map f gs)) →
          cond b ((file_key g.fid, f h) ∷ keyed gs) ((file_key g.fid, g) ∷ set_value (same_file key) (keyed gs) (f h))
          ≡ (file_key (f g).fid, f g) ∷ keyed (map f gs)
      by_test true e k rest =
          let same : g ≡ h = cc in
          let apart = IsDistinct-head same_file (file_key g.fid) (keys_of (keyed gs)) distinct in
          let none = subst (λ q. AllByRecursion (λ x. same_file q x ≡ false) (keys_of (keyed gs)))
          (sym (file_is key (file_key g.fid) e)) apart in
          (λ i. (file_key (sym (fids g) i), f (sym same i)) ∷ keyed (sym (kept_all gs keeps.1 none) i))
      by_test false e k rest =
          (λ i. (file_key (sym (ap (λ (x : Given). x.fid) (keeps.0 e)) i), sym (keeps.0 e) i) ∷ rest k i)
