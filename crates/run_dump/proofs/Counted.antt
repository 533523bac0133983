-- Each object of a fileset is printed once, and so many does the summary count.
use Rattle.std.proofs.Common.{Bool, List, None, Option, Some, ap, arith, cond, false, inl, inr, is_some, length, refl, subst, suc, sym, true, ℕ, ◌+◌, ◌-◌, ◌<◌, ◌==◌, ◌∙◌, ◌∷◌, ◌≡◌, ◌≢◌, ◌≤◌, []}
use Rattle.std.specs.Cmp.Lexicographic.{pointwise}
use Rattle.std.specs.List.{count_by}
use Rattle.std.specs.Option.{option_and_then}
use Rattle.std.specs.Prelude.{if◌then◌else◌, slice_get}
use Rattle.std.proofs.lemmas.Bool.Decides.{eqb_tells}
use Rattle.std.proofs.lemmas.Grind.{common_steps}
use Rattle.std.proofs.lemmas.List.Sums.{sum_by-cons}
use Rattle.std.proofs.lemmas.Option.{slice_get_within}
use Rattle.base_types.specs.Name.{same_name}
use Rattle.message_types.specs.Soundness.{Each}
use Rattle.script_output.specs.Summary.{objects_of}
use Rattle.tree_filesets.proofs.Leads.{some_then}
use Rattle.tree_filesets.proofs.Names.{names_equal, same_self}
use Rattle.tree_filesets.proofs.Observations.{object_from, object_not_zero}
use Rattle.tree_filesets.specs.Walk.{object_at}
use Rattle.tree_filesets.specs.WellFormed.{IsWellFormed, leads}
use Rattle.tree_filesets.specs.declared.fileset.Fileset.{Fileset}
use Rattle.tree_laws.proofs.Counts.{count_none}
use Rattle.tree_laws.proofs.Reached.{depth, leads_once}
use Rattle.tree_objects.proofs.Observed.{and_left, and_right}
use Rattle.tree_objects.proofs.Rising.{and_both}
use Rattle.tree_objects.specs.declared.content.Anode.{Anode}
use Rattle.tree_objects.specs.declared.content.Object.{Object}
use Rattle.run_dump.proofs.Sights.{on_path, on_paths, seen_below, sights_below}
use Rattle.run_dump.specs.Shown.{IsSeen, Sight}

count_cons : {X : Type 0} (p : X → Bool) (x : X) (xs : List X) → count_by p (x ∷ xs) ≡ cond (p x) 1 0 + count_by p xs
count_cons p x xs = sum_by-cons (λ x. cond (p x) 1 0) x xs

-- tests that agree on all of a list
count_each : {X : Type 0} (P : X → Type 0) (p q : X → Bool) → ((x : X) → P x → p x ≡ q x) → (xs : List X) → Each P xs →
    count_by p xs ≡ count_by q xs
count_each P p q same [] a = refl
count_each P p q same (x ∷ xs) a =
    count_cons p x xs ∙ ap (λ b. cond b 1 0 + count_by p xs) (same x a.0)
    ∙ ap (λ n. cond (q x) 1 0 + n) (count_each P p q same xs a.1) ∙ sym (count_cons q x xs)

-- paths
paths_self : (path : List (List ℕ)) → pointwise same_name path path ≡ true
paths_self [] = refl
paths_self (name ∷ names) = and_both _ _ (same_self name) (paths_self names)

paths_equal : (a b : List (List ℕ)) → pointwise same_name a b ≡ true → a ≡ b
paths_equal [] [] h = refl
paths_equal [] (y ∷ ys) h = absurd (cc)
paths_equal (x ∷ xs) [] h = absurd (cc)
paths_equal (x ∷ xs) (y ∷ ys) h =
    ap (λ n. n ∷ xs) (names_equal x y (and_left _ _ h)) ∙ ap (λ ns. y ∷ ns) (paths_equal xs ys (and_right _ _ h))

both_ways : (s t : Bool) → (s ≡ true → t ≡ true) → (t ≡ true → s ≡ true) → s ≡ t
both_ways true t f g = sym (f refl)
both_ways false true f g = g refl
both_ways false false f g = refl

same_number : (a b : ℕ) → (a == b) ≡ true → a ≡ b
same_number a b e = grind (arith, common_steps, e)

is_itself : (a : ℕ) → (a == a) ≡ true
is_itself a = grind (arith, common_steps)

apart : (a b : ℕ) → (a ≡ b → ⊥) → (a == b) ≡ false
apart a b h = elim (eqb_tells a b) as (λ _. (a == b) ≡ false) [ inl (e, k) ↦ absurd (h k) | inr (e, k) ↦ e ]

module _ (fileset : Fileset) (w : IsWellFormed fileset) (root : Object)
    (there : object_at fileset.anodes 1 ≡ Some root) where
  abbrev anodes : List Anode
  anodes = fileset.anodes

  abbrev pub all_sights : List Sight
  all_sights = sights_below (length anodes) anodes 1 root

  pub all_seen : Each (IsSeen fileset) all_sights
  all_seen = seen_below fileset w (length anodes) 1 root there

  -- none of a free anode
  free : (anode : ℕ) → object_at anodes anode ≡ None → count_by (λ sight. sight.anode == anode) all_sights ≡ 0
  free anode none =
      count_each (IsSeen fileset) (λ sight. sight.anode == anode) (λ sight. false) other all_sights all_seen
      ∙ count_none (λ (sight : Sight). false) (λ sight. refl) all_sights
    where
      other : (sight : Sight) → IsSeen fileset sight → (sight.anode == anode) ≡ false
      other sight h = apart sight.anode anode (λ same.
          (let clash : Some sight.object ≡ None = sym h.1 ∙ ap (object_at anodes) same ∙ none in cc))

  -- one of each object
  taken : (anode : ℕ) (object : Object) → object_at anodes anode ≡ Some object →
      count_by (λ sight. sight.anode == anode) all_sights ≡ 1
  taken anode object e =
      let (path, way) = w.reached anode object e in
      count_each (IsSeen fileset) (λ sight. sight.anode == anode) (on_path fileset w path) (same path way) all_sights
      all_seen
      ∙ on_paths fileset w (length anodes) 1 root path there (λ to h. depth fileset w path to h)
      ∙ ap (λ o. if is_some o then 1 else 0) way
    where
      one : (a b : ℕ) → Some a ≡ Some b → a ≡ b
      one a b h = cc

      same : (path : List (List ℕ)) → leads anodes 1 path ≡ Some anode → (sight : Sight) → IsSeen fileset sight →
          (sight.anode == anode) ≡ on_path fileset w path sight
      same path way sight h =
          both_ways (sight.anode == anode) (pointwise same_name sight.names path)
          (λ k.
          (let led_there : leads anodes 1 sight.names ≡ Some anode = h.0 ∙ ap Some (same_number sight.anode anode k) in
          let names = leads_once fileset w sight.names path anode led_there way in
          subst (λ p. pointwise same_name p path ≡ true) (sym names) (paths_self path)))
          (λ k.
          (let names = paths_equal sight.names path k in
          let at = one sight.anode anode (sym h.0 ∙ ap (leads anodes 1) names ∙ way) in
          subst (λ n. (n == anode) ≡ true) (sym at) (is_itself anode)))

  pub once : (anode : ℕ) → count_by (λ sight. sight.anode == anode) all_sights
      ≡ (if is_some (object_at anodes anode) then 1 else 0)
  once anode = by (object_at anodes anode) refl
    where
      by : (o : Option Object) → object_at anodes anode ≡ o →
          count_by (λ sight. sight.anode == anode) all_sights ≡ (if is_some o then 1 else 0)
      by None e = free anode e
      by (Some object) e = taken anode object e

  -- so many from one anode on
  total : (X : List Sight) → ℕ → List Anode → ℕ
  total X at [] = 0
  total X at (anode ∷ rest) = count_by (λ sight. sight.anode == at) X + total X (at + 1) rest

  within : (sight : Sight) → IsSeen fileset sight → (1 ≤ sight.anode) × (sight.anode ≤ length anodes)
  within sight h =
      let some = object_not_zero anodes sight.anode sight.object h.1 in
      let (anode, got, k) = some_then (slice_get anodes (sight.anode - 1)) (λ a. a.object) sight.object
      (sym (object_from anodes sight.anode some) ∙ h.1) in
      let below = slice_get_within anodes (sight.anode - 1) anode got in
      (omega (arith, some), omega (arith, some, below))

  total_none : (at : ℕ) (rest : List Anode) → total [] at rest ≡ 0
  unfolding total
  total_none at [] = refl
  total_none at (anode ∷ rest) = let more = total_none (at + 1) rest in omega (arith, more)

  abbrev one_if : Bool → ℕ
  one_if b = cond b 1 0

  -- one sight more
  abbrev hit : ℕ → ℕ → ℕ
  hit a at = one_if (a == at)

  hits : ℕ → ℕ → List Anode → ℕ
  hits a at [] = 0
  hits a at (anode ∷ rest) = hit a at + hits a (at + 1) rest

  hits_none : (a at : ℕ) (rest : List Anode) → a < at → hits a at rest ≡ 0
  unfolding hits
  hits_none a at [] low = refl
  hits_none a at (anode ∷ rest) low =
      let other : hit a at ≡ 0 = ap one_if (apart a at (λ same. omega (arith, low, same))) in
      let more = hits_none a (at + 1) rest (omega (arith, low)) in omega (arith, other, more)

  hits_one : (a at : ℕ) (rest : List Anode) → at ≤ a → a < at + length rest → hits a at rest ≡ 1
  unfolding hits
  hits_one a at [] low high = absurd (omega (arith, low, high))
  hits_one a at (anode ∷ rest) low high = elim (eqb_tells a at) as (λ _. hit a at + hits a (at + 1) rest ≡ 1) [
    | inl (e, same) ↦
        let here : hit a at ≡ 1 = ap one_if e in
        let more = hits_none a (at + 1) rest (omega (arith, same)) in omega (arith, here, more)
    | inr (e, other) ↦
        let none : hit a at ≡ 0 = ap one_if e in
        let more = hits_one a (at + 1) rest (omega (arith, low, other)) (omega (arith, high)) in
        omega (arith, none, more)
  ]

  total_more : (sight : Sight) (X : List Sight) (at : ℕ) (rest : List Anode) →
      total (sight ∷ X) at rest ≡ hits sight.anode at rest + total X at rest
  unfolding hits total
  total_more sight X at [] = refl
  total_more sight X at (anode ∷ rest) =
      let first = count_cons (λ (s : Sight). s.anode == at) sight X in
      let more = total_more sight X (at + 1) rest in omega (arith, first, more)

  total_all : (X : List Sight) → Each (IsSeen fileset) X → total X 1 anodes ≡ length X
  total_all [] seen = total_none 1 anodes
  total_all (sight ∷ X) seen =
      let k = within sight seen.0 in
      let one = hits_one sight.anode 1 anodes k.0 (omega (arith, k.1)) in
      let more = total_all X seen.1 in
      let both = total_more sight X 1 anodes in omega (arith, one, more, both)

  total_objects : (at : ℕ) (rest : List Anode) →
      ((i : ℕ) (anode : Anode) → slice_get rest i ≡ Some anode → object_at anodes (at + i) ≡ anode.object) →
      total all_sights at rest ≡ objects_of rest
  unfolding total
  total_objects at [] k = refl
  total_objects at (anode ∷ rest) k =
      let here : object_at anodes at ≡ anode.object =
      ap (object_at anodes) (let same : at ≡ at + 0 = omega arith in same) ∙ k 0 anode refl in
      let first = once at ∙ ap (λ o. if is_some o then 1 else 0) here in
      let more = total_objects (at + 1) rest (λ i a e.
      ap (object_at anodes) (let same : (at + 1) + i ≡ at + suc i = omega arith in same) ∙ k (suc i) a e) in
      let both = count_cons (λ (a : Anode). is_some a.object) anode rest in omega (arith, first, more, both)

  at_place : (i : ℕ) (anode : Anode) → slice_get anodes i ≡ Some anode → object_at anodes (1 + i) ≡ anode.object
  at_place i anode e =
      let some : (1 + i) ≢ 0 = omega arith in
      object_from anodes (1 + i) some
      ∙ ap (option_and_then (λ (a : Anode). a.object))
      (ap (slice_get anodes) (let same : (1 + i) - 1 ≡ i = omega arith in same) ∙ e)

  pub counted : objects_of anodes ≡ length all_sights
  counted = sym (total_objects 1 anodes at_place) ∙ total_all all_sights all_seen
