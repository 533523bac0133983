-- Tables that change: at the place of an entry, or at the end; and what is read of them afterwards.
use Rattle.std.proofs.Common.{◌≡◌, ◌≤◌, ◌<◌, ℕ, zero, suc, ◌+◌, ◌/◌, ◌%◌, Bool, true, false, ◌==◌, ◌&&◌, ◌||◌, not}
use Rattle.std.proofs.Common.{cond, List, [], ◌∷◌, ◌++◌, length, map, Option, Some, None, unwrap_or, refl, sym, ap}
use Rattle.std.proofs.Common.{subst, ◌∙◌, arith, rules}
use Rattle.std.specs.Prelude.{slice_set}
use Rattle.std.specs.List.{find, list_any, position}
use Rattle.std.specs.Option.{option_map, option_map_or}
use Rattle.std.proofs.lemmas.Bool.{cases_Bool, eqb-true}
use Rattle.std.proofs.lemmas.Bool.Decides.{nat_tests}
use Rattle.std.proofs.lemmas.List.Folds.{list_any-append}
use Rattle.base_types.specs.Ids.{same_fid}
use Rattle.base_types.specs.Name.{same_name}
use Rattle.base_types.specs.declared.ids.Fid.{Fid}
use Rattle.base_types.specs.declared.ids.FilesetId.{FilesetId}
use Rattle.base_types.specs.declared.ids.ServerId.{ServerId}
use Rattle.tree_laws.proofs.Steps.{fid_is, find_mapped}
use Rattle.host_gives.proofs.Places.{place, at_place, at_none}
use Rattle.run_rules.specs.Messages.{home}
use Rattle.host_tables.proofs.Lists.{names_are}
use Rattle.host_tables.specs.Tables.{fresh_site, home_of, is_counter, site_at}
use Rattle.host_tables.specs.UpdateLaws.{ReadsAfter}
use Rattle.host_tables.specs.Updates.{fresh_sites, home_at, is_fetched, is_floor, is_given, is_home, is_site, known_by}
use Rattle.host_tables.specs.Updates.{put_by, set_by}
use Rattle.host_tables.specs.declared.calls.Home.{Home}
use Rattle.host_tables.specs.declared.files.Floor.{Floor}
use Rattle.host_lengths.specs.declared.given.Given.{Given}
use Rattle.host_tables.specs.declared.numbers.Changed.{Changed}
use Rattle.host_tables.specs.declared.numbers.Fetched.{Fetched}
use Rattle.host_tables.specs.declared.sites.Site.{Site}

-- ---- at the place of the first that passes, or at the end
module _ {A : Type 0} (test : A → Bool) (new : A) where
  put_there : (xs : List A) → place test xs < length xs → slice_set xs (place test xs) new ≡ put_by test new xs
  put_there [] lt = absurd (omega (arith, lt))
  put_there (x ∷ xs) lt =
      elim (test x) as (λ t. cond (not t) (1 + place test xs) 0 < suc (length xs) →
      slice_set (x ∷ xs) (cond (not t) (1 + place test xs) 0) new ≡ cond t (new ∷ xs) (x ∷ put_by test new xs)) [
        | true ↦ λ k. refl
        | false ↦ λ k.
            let same : 1 + place test xs ≡ suc (place test xs) = omega arith in
            ap (λ n. slice_set (x ∷ xs) n new) same ∙ ap (λ ys. x ∷ ys) (put_there xs (omega (arith, k)))
      ] lt

  set_there : (xs : List A) → place test xs < length xs → slice_set xs (place test xs) new ≡ set_by test new xs
  set_there [] lt = absurd (omega (arith, lt))
  set_there (x ∷ xs) lt =
      elim (test x) as (λ t. cond (not t) (1 + place test xs) 0 < suc (length xs) →
      slice_set (x ∷ xs) (cond (not t) (1 + place test xs) 0) new ≡ cond t (new ∷ xs) (x ∷ set_by test new xs)) [
        | true ↦ λ k. refl
        | false ↦ λ k.
            let same : 1 + place test xs ≡ suc (place test xs) = omega arith in
            ap (λ n. slice_set (x ∷ xs) n new) same ∙ ap (λ ys. x ∷ ys) (set_there xs (omega (arith, k)))
      ] lt

  pushed_there : (xs : List A) → length xs ≤ place test xs → xs ++ new ∷ [] ≡ put_by test new xs
  pushed_there [] le = refl
  pushed_there (x ∷ xs) le =
      elim (test x) as (λ t. suc (length xs) ≤ cond (not t) (1 + place test xs) 0 →
      x ∷ (xs ++ new ∷ []) ≡ cond t (new ∷ xs) (x ∷ put_by test new xs)) [
        | true ↦ λ k. absurd (omega (arith, k))
        | false ↦ λ k. ap (λ ys. x ∷ ys) (pushed_there xs (omega (arith, k)))
      ] le

  kept_there : (xs : List A) → length xs ≤ place test xs → xs ≡ set_by test new xs
  kept_there [] le = refl
  kept_there (x ∷ xs) le =
      elim (test x) as (λ t. suc (length xs) ≤ cond (not t) (1 + place test xs) 0 →
      x ∷ xs ≡ cond t (new ∷ xs) (x ∷ set_by test new xs)) [
        | true ↦ λ k. absurd (omega (arith, k))
        | false ↦ λ k. ap (λ ys. x ∷ ys) (kept_there xs (omega (arith, k)))
      ] le

  -- after a search for the place
  pub put_at : (xs : List A) (i : ℕ) → position test xs ≡ Some i → slice_set xs i new ≡ put_by test new xs
  put_at xs i h = let k = at_place test xs i h in ap (λ n. slice_set xs n new) k.1 ∙ put_there xs k.0

  pub put_last : (xs : List A) → position test xs ≡ None → xs ++ new ∷ [] ≡ put_by test new xs
  put_last xs h = pushed_there xs (at_none test xs h)

  pub set_at : (xs : List A) (i : ℕ) → position test xs ≡ Some i → slice_set xs i new ≡ set_by test new xs
  set_at xs i h = let k = at_place test xs i h in ap (λ n. slice_set xs n new) k.1 ∙ set_there xs k.0

  pub set_nowhere : (xs : List A) → position test xs ≡ None → xs ≡ set_by test new xs
  set_nowhere xs h = kept_there xs (at_none test xs h)

-- ---- what is found afterwards
module _ {A : Type 0} (p q : A → Bool) (new : A) (same : (x : A) → p x ≡ true → q x ≡ q new)
    (apart : (x : A) → p x ≡ false → q new ≡ true → q x ≡ false) where
  pub find_put : (xs : List A) → find q (put_by p new xs) ≡ cond (q new) (Some new) (find q xs)
  find_put [] = refl
  find_put (x ∷ xs) = by_test (find_put xs) (p x) refl (q new) refl
    where
      by_test : find q (put_by p new xs) ≡ cond (q new) (Some new) (find q xs) →
          (b : Bool) → p x ≡ b → (t : Bool) → q new ≡ t →
          find q (cond b (new ∷ xs) (x ∷ put_by p new xs)) ≡ cond t (Some new) (find q (x ∷ xs))
      by_test rest true e true k = ap (λ t. cond t (Some new) (find q xs)) k
      by_test rest true e false k =
          ap (λ t. cond t (Some new) (find q xs)) k
          ∙ sym (ap (λ t. cond t (Some x) (find q xs)) (same x e ∙ k))
      by_test rest false e true k =
          ap (λ t. cond t (Some x) (find q (put_by p new xs))) (apart x e k)
          ∙ rest ∙ ap (λ t. cond t (Some new) (find q xs)) k
      by_test rest false e false k =
          ap (λ o. cond (q x) (Some x) o) (rest ∙ ap (λ t. cond t (Some new) (find q xs)) k)

  pub find_set : (xs : List A) →
      find q (set_by p new xs) ≡ cond (q new && list_any p xs) (Some new) (find q xs)
  find_set [] = sym (ap (λ t. cond t (Some new) None) (no_more (q new)))
    where
      no_more : (b : Bool) → (b && false) ≡ false
      no_more true = refl
      no_more false = refl
  find_set (x ∷ xs) = by_test (find_set xs) (p x) refl (q new) refl
    where
      by_test : find q (set_by p new xs) ≡ cond (q new && list_any p xs) (Some new) (find q xs) →
          (b : Bool) → p x ≡ b → (t : Bool) → q new ≡ t →
          find q (cond b (new ∷ xs) (x ∷ set_by p new xs))
          ≡ cond (t && (b || list_any p xs)) (Some new) (find q (x ∷ xs))
      by_test rest true e true k = ap (λ t. cond t (Some new) (find q xs)) k
      by_test rest true e false k =
          ap (λ t. cond t (Some new) (find q xs)) k
          ∙ sym (ap (λ t. cond t (Some x) (find q xs)) (same x e ∙ k))
      by_test rest false e true k =
          let later = apart x e k in
          ap (λ t. cond t (Some x) (find q (set_by p new xs))) later
          ∙ rest ∙ ap (λ t. cond (t && list_any p xs) (Some new) (find q xs)) k
          ∙ ap (λ o. cond (list_any p xs) (Some new) o) (sym (ap (λ t. cond t (Some x) (find q xs)) later))
      by_test rest false e false k =
          ap (λ o. cond (q x) (Some x) o)
          (rest ∙ ap (λ t. cond (t && list_any p xs) (Some new) (find q xs)) k)

-- ---- keys
-- tests for two keys: alike where the keys are, and apart where they aren't
module _ {K : Type 0} (eq : K → K → Bool) (sound : (a b : K) → eq a b ≡ true → a ≡ b) (k other : K) where
  pub key_same : (x : K) → eq x k ≡ true → eq x other ≡ eq k other
  key_same x h = ap (λ y. eq y other) (sound x k h)

  pub key_apart : (x : K) → eq x k ≡ false → eq k other ≡ true → eq x other ≡ false
  key_apart x h e = sym (ap (eq x) (sound k other e)) ∙ h

-- ---- the laws
module _ {A B : Type 0} (f : A → B) where
  map_cond : (b : Bool) (x : A) (o : Option A) →
      option_map f (cond b (Some x) o) ≡ cond b (Some (f x)) (option_map f o)
  map_cond true x o = refl
  map_cond false x o = refl

  map_or_cond : (b : Bool) (x : A) (o : Option A) (d : B) →
      option_map_or f (cond b (Some x) o) d ≡ cond b (f x) (option_map_or f o d)
  map_or_cond true x o d = refl
  map_or_cond false x o d = refl

unwrap_cond : {A : Type 0} (b : Bool) (x : A) (o : Option A) (d : A) →
    unwrap_or (cond b (Some x) o) d ≡ cond b x (unwrap_or o d)
unwrap_cond true x o d = refl
unwrap_cond false x o d = refl

both : (a b : Bool) → (a && b) ≡ true → (a ≡ true) × (b ≡ true)
both true b h = (refl, h)
both false b h = absurd (search (rules, h))

-- a server and a name
abbrev same_place : ℕ × List ℕ → ℕ × List ℕ → Bool
same_place a b = (a.0 == b.0) && same_name a.1 b.1

place_is : (a b : ℕ × List ℕ) → same_place a b ≡ true → a ≡ b
place_is a b h =
    let parts = both (a.0 == b.0) (same_name a.1 b.1) h in
    let number = eqb-true a.0 b.0 parts.0 in
    let name = names_are a.1 b.1 parts.1 in
    λ i. (number i, name i)

-- two counters of Changes
counters_same : (xf xs f s o a : ℕ) → ((xf == f) && (not (f == 0) || (xs == s))) ≡ true →
    ((xf == o) && (not (o == 0) || (xs == a))) ≡ ((f == o) && (not (o == 0) || (s == a)))
counters_same xf xs f s o a h = grind (arith, nat_tests, h)

counters_apart : (xf xs f s o a : ℕ) → ((xf == f) && (not (f == 0) || (xs == s))) ≡ false →
    ((f == o) && (not (o == 0) || (s == a))) ≡ true → ((xf == o) && (not (o == 0) || (xs == a))) ≡ false
counters_apart xf xs f s o a h k = grind (arith, nat_tests, h, k)

-- servers of which nothing is known
abbrev AllFresh : List Site → Type 0
AllFresh [] = Unit {0}
AllFresh (site ∷ sites) = (site ≡ fresh_site site.server) × AllFresh sites

fresh_push : (sites : List Site) (server : ServerId) → AllFresh sites → AllFresh (sites ++ fresh_site server ∷ [])
fresh_push [] server h = (refl, tt)
fresh_push (site ∷ sites) server h = (h.0, fresh_push sites server h.1)

all_fresh : (n : ℕ) → AllFresh (fresh_sites n)
all_fresh zero = tt
all_fresh (suc n) = fresh_push (fresh_sites n) (record { 0 = suc n }) (all_fresh n)

fresh_found : (server : ServerId) (sites : List Site) → AllFresh sites → site_at sites server ≡ fresh_site server
fresh_found server [] h = refl
fresh_found server (site ∷ sites) h =
    unwrap_cond (is_site server site) site (find (is_site server) sites) (fresh_site server)
    ∙ by_test (fresh_found server sites h.1) (is_site server site) refl
  where
    by_test : site_at sites server ≡ fresh_site server → (b : Bool) → is_site server site ≡ b →
        cond b site (unwrap_or (find (is_site server) sites) (fresh_site server)) ≡ fresh_site server
    by_test rest true e =
        let number = eqb-true site.server.0 server.0 e in
        h.0 ∙ ap (λ n. fresh_site (record { 0 = n })) number
    by_test rest false e = rest

fresh_declared : (n : ℕ) (server : ServerId) → 1 ≤ server.0 → server.0 ≤ n →
    list_any (is_site server) (fresh_sites n) ≡ true
fresh_declared zero server low high = absurd (omega (arith, low, high))
fresh_declared (suc n) server low high =
    list_any-append (is_site server) (fresh_sites n) (fresh_site (record { 0 = suc n }) ∷ [])
    ∙ by_test (λ lower. fresh_declared n server low lower) (suc n == server.0) refl
  where
    or_true : (b : Bool) → (b || (true || false)) ≡ true
    or_true true = refl
    or_true false = refl

    by_test : (server.0 ≤ n → list_any (is_site server) (fresh_sites n) ≡ true) → (b : Bool) →
        (suc n == server.0) ≡ b →
        (list_any (is_site server) (fresh_sites n) || ((suc n == server.0) || false)) ≡ true
    by_test rest true e =
        ap (λ t. list_any (is_site server) (fresh_sites n) || (t || false)) e
        ∙ or_true (list_any (is_site server) (fresh_sites n))
    by_test rest false e =
        let lower : server.0 ≤ n = grind (arith, nat_tests, e, high) in
        ap (λ t. t || ((suc n == server.0) || false)) (rest lower)

home_found : (fileset : FilesetId) → fileset.0 < 16777216 → home_at fileset ≡ home fileset
unfolding home
home_found fileset h =
    let number : fileset.0 / 65536 % 256 ≡ fileset.0 / 65536 = omega (arith, h) in λ i. record { 0 = number i }

pub reads_after : ReadsAfter
reads_after = record {
  homes = λ homes server name id at other.
      let new : Home = record { server = server; name = name; id = id } in
      ap (option_map (λ (home : Home). home.id))
      (find_put (is_home server name) (is_home at other) new
      (λ x. key_same same_place place_is (server.0, name) (at.0, other) (x.server.0, x.name))
      (λ x. key_apart same_place place_is (server.0, name) (at.0, other) (x.server.0, x.name)) homes)
      ∙ map_cond (λ (home : Home). home.id) (is_home at other new) new (find (is_home at other) homes);
  floors = λ floors floor fid.
      ap (λ o. option_map_or (λ (floor : Floor). floor.stamp) o 0)
      (find_put (is_floor floor.fid) (is_floor fid) floor
      (λ x. key_same same_fid fid_is floor.fid fid x.fid) (λ x. key_apart same_fid fid_is floor.fid fid x.fid) floors)
      ∙ map_or_cond (λ (floor : Floor). floor.stamp) (same_fid floor.fid fid) floor (find (is_floor fid) floors) 0;
  lengths = λ lengths given fid.
      find_put (is_given given.fid) (is_given fid) given
      (λ x. key_same same_fid fid_is given.fid fid x.fid) (λ x. key_apart same_fid fid_is given.fid fid x.fid) lengths;
  known = λ lengths fileset number fid.
      find_mapped (is_given fid) (known_by fileset number) (λ x. refl) lengths;
  fetches = λ fetched fileset number other.
      let new : Fetched = record { fileset = fileset; number = number } in
      ap (λ o. option_map_or (λ (f : Fetched). f.number) o 0)
      (find_put (is_fetched fileset) (is_fetched other) new
      (λ x. key_same (λ a b. a == b) eqb-true fileset.0 other.0 x.fileset.0)
      (λ x. key_apart (λ a b. a == b) eqb-true fileset.0 other.0 x.fileset.0) fetched)
      ∙ map_or_cond (λ (f : Fetched). f.number) (fileset.0 == other.0) new (find (is_fetched other) fetched) 0;
  changes = λ changed server fileset number at other.
      let new : Changed = record { server = server; fileset = fileset; number = number } in
      ap (λ o. option_map_or (λ (c : Changed). c.number) o 0)
      (find_put (is_counter server fileset) (is_counter at other) new
      (λ x. counters_same x.fileset.0 x.server.0 fileset.0 server.0 other.0 at.0)
      (λ x. counters_apart x.fileset.0 x.server.0 fileset.0 server.0 other.0 at.0) changed)
      ∙ map_or_cond (λ (c : Changed). c.number) (is_counter at other new) new (find (is_counter at other) changed) 0;
  sites = λ sites site server.
      ap (λ o. unwrap_or o (fresh_site server))
      (find_set (is_site site.server) (is_site server) site
      (λ x. key_same (λ a b. a == b) eqb-true site.server.0 server.0 x.server.0)
      (λ x. key_apart (λ a b. a == b) eqb-true site.server.0 server.0 x.server.0) sites)
      ∙ unwrap_cond ((site.server.0 == server.0) && list_any (is_site site.server) sites) site
      (find (is_site server) sites) (fresh_site server);
  fresh = λ n server. fresh_found server (fresh_sites n) (all_fresh n);
  declared = fresh_declared;
  home_is = home_found;
  bare_is = λ node cause. refl;
}
