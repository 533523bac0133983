-- A fileset that is a tree has no faults of reach.
use Rattle.std.proofs.Common.{◌≡◌, ◌<◌, ◌≤◌, ◌⊎◌, ℕ, zero, suc, ◌+◌, List, [], ◌∷◌, ◌++◌, inl, inr, refl, sym, ◌∙◌, ap, arith}
use Rattle.std.specs.Prelude.{Bool, true, false, count_by, cond, Option, Some, None, is_some, slice_get, ◌&&◌, ◌||◌, ◌==◌, if◌then◌else◌}
use Rattle.std.specs.Option.{option_and_then, option_map_or}
use Rattle.std.proofs.lemmas.Bool.{cases_Bool, cases_eq, cases_lt, and_parts, and_from, or_cases, or_parts, cond-true, cond-false, false≢true, eqb-true, eq-eqb}
use Rattle.base_types.specs.Image.{byte_at}
use Rattle.tree_calls.specs.declared.part.DirEntry.{DirEntry}
use Rattle.tree_objects.specs.declared.content.Anode.{Anode}
use Rattle.tree_objects.specs.declared.content.Object.{Object}
use Rattle.base_types.specs.Name.{is_before, same_name}
use Rattle.tree_filesets.proofs.Names.{same_self}
use Rattle.tree_filesets.specs.Walk.{object_at}
use Rattle.tree_filesets.specs.WellFormed.{entry_at, leads, IsWellFormed}
use Rattle.disk_pages.specs.Anode.{is_object, unique_of}
use Rattle.disk_pages.specs.Blocks.{entry_anode, entry_unique, entry_of}
use Rattle.disk_image.specs.Joined.{joined, total}
use Rattle.disk_image.specs.Aggregate.{Aggregate, anode_page}
use Rattle.disk_image.specs.Slots.{state_at, is_whole}
use Rattle.disk_image.specs.Anodes.{entries_in, entry_bytes, link_of, links_at}
use Rattle.disk_image.specs.Reach.{is_reached, times_reached, times_under, is_reached_right, links_of, reach_fault, reach_faults}
use Rattle.disk_image.specs.Image.{fileset_of}
use Rattle.disk_image.specs.declared.found.Link.{Link}
use Rattle.disk_image_laws.proofs.Sums.{count_joined, count_cons, listed_one, joined_one}
use Rattle.disk_image_laws.proofs.Reached.{root_reached}
use Rattle.disk_image_laws.proofs.Levels.{reached_next}
use Rattle.disk_image_laws.proofs.Clean.{IsRightSlot}
use Rattle.disk_image_laws.proofs.Finding.{some_counted}
use Rattle.disk_image_laws.proofs.Contents.{object_page, links_are, no_links, entry_facts, names_rise_at}
use Rattle.disk_image_laws.proofs.Formed as tree
use Rattle.disk_image_laws.specs.Formed.{FormedIsReached}

pub nothing_joined : {A : Type 0} (part : ℕ → List A) (n : ℕ) → ((k : ℕ) → k < n → part k ≡ []) → joined part n ≡ []
unfolding joined
nothing_joined part zero none = refl
nothing_joined part (suc n) none = (λ i. nothing_joined part n (λ k lt. none k (omega arith)) i ++ none n (omega arith) i)

-- a sum of which one number at most isn't zero, and that is 1
pub total_none : (f : ℕ → ℕ) (n : ℕ) → ((k : ℕ) → k < n → f k ≡ 0) → total f n ≡ 0
unfolding total
total_none f zero none = refl
total_none f (suc n) none = let rest = total_none f n (λ k lt. none k (omega arith)) in let here = none n (omega arith) in omega (arith, rest, here)

pub total_once : (f : ℕ → ℕ) (n : ℕ) → ((k : ℕ) → k < n → f k ≤ 1) → ((a b : ℕ) → a < n → b < n → 1 ≤ f a → 1 ≤ f b → a ≡ b) → total f n ≤ 1
unfolding total
total_once f zero few once = omega arith
total_once f (suc n) few once =
    let here = few n (omega arith) in
    elim (cases_eq (f n) 0) [
      | inl none ↦
          let rest = total_once f n (λ k lt. few k (omega arith)) (λ a b low_a low_b. once a b (omega arith) (omega arith)) in
          omega (arith, rest, none)
      | inr some ↦
          let rest = total_none f n (λ k lt. elim (cases_eq (f k) 0) [
            | inl none ↦ none
            | inr other ↦ (let e = once k n (omega arith) (omega arith) (omega (arith, other)) (omega (arith, some)) in absurd (omega (arith, e, lt)))
          ]) in
          omega (arith, rest, here)
    ]

pub total_some : (f : ℕ → ℕ) (n : ℕ) → 1 ≤ total f n → (k : ℕ) × (k < n) × (1 ≤ f k)
unfolding total
total_some f zero some = absurd (omega (arith, some))
total_some f (suc n) some = elim (cases_eq (f n) 0) [
  | inl none ↦ let found = total_some f n (omega (arith, some, none)) in (found.0, (let low = found.1 in omega (arith, low)), found.2)
  | inr here ↦ (n, omega arith, omega (arith, here))
]

-- one value
single : {X : Type 0} (test : X → Bool) (x : X) → count_by test (x ∷ []) ≡ cond (test x) 1 0
single test x = count_cons test x [] ∙ by (test x)
  where
    by : (b : Bool) → 0 + cond {A = ℕ} b 1 0 + 0 ≡ cond b 1 0
    by true = refl
    by false = refl

single_few : {X : Type 0} (test : X → Bool) (x : X) → count_by test (x ∷ []) ≤ 1
single_few test x = by (test x) (single test x)
  where
    by : (b : Bool) → count_by test (x ∷ []) ≡ cond b 1 0 → count_by test (x ∷ []) ≤ 1
    by true e = omega (arith, e)
    by false e = omega (arith, e)

single_is : {X : Type 0} (test : X → Bool) (x : X) → 1 ≤ count_by test (x ∷ []) → test x ≡ true
single_is test x some = elim (cases_Bool (test x)) [
  | inl is ↦ is
  | inr off ↦ (let e : count_by test (x ∷ []) ≡ 0 = single test x ∙ ap (λ b. cond b 1 0) off in absurd (omega (arith, e, some)))
]

module _ (disk : Aggregate) (slot : ℕ) (right : IsRightSlot disk slot) (whole : is_whole (state_at disk slot) ≡ true) (formed : IsWellFormed (fileset_of disk slot)) where
  abbrev page : ℕ → List ℕ
  page i = anode_page disk slot i

  abbrev anodes : List Anode
  anodes = (fileset_of disk slot).anodes

  abbrev links : List Link
  links = links_of disk slot

  abbrev bytes : ℕ → List ℕ
  bytes i = entry_bytes disk slot i

  abbrev is_free : ℕ → Bool
  is_free i = byte_at (page i) 0 == 0

  -- an entry of a directory, and where it leads
  record IsWay (i j x : ℕ) : Type 0 where
    pub low : i < 64
    pub dir : (byte_at (page i) 0 == 1) ≡ true
    pub below : j < entries_in (page i)
    pub to : entry_anode (bytes i) j ≡ x

  entry_of_way : (i j x : ℕ) → IsWay i j x → entry_at anodes (i + 1) (tree.names_of disk slot right whole i j) ≡ Some (entry_of (bytes i) j)
  entry_of_way i j x way = tree.entry_here disk slot right whole i j way.low way.dir way.below

  -- two ways to one anode are one
  same_way : (a j b k x : ℕ) → IsWay a j x → IsWay b k x → (a ≡ b) × (j ≡ k)
  same_way a j b k x one two =
      let both = formed.once (a + 1) (b + 1) (tree.names_of disk slot right whole a j) (tree.names_of disk slot right whole b k) (entry_of (bytes a) j) (entry_of (bytes b) k) (entry_of_way a j x one) (entry_of_way b k x two) (one.to ∙ sym two.to) in
      let e : a ≡ b = (let f = both.0 in omega (arith, f)) in
      (e, same_place a j b k x one two e both.1)
    where
      before_self : (name other : List ℕ) → name ≡ other → is_before name other ≡ true → ⊥
      before_self name other e before = false≢true (sym (tree.before_apart disk slot right whole name other before) ∙ ap (λ n. same_name name n) (sym e) ∙ same_self name)

      names_apart : (d : ℕ) (low : d < 64) (dir : (byte_at (page d) 0 == 1) ≡ true) (j k : ℕ) → j < entries_in (page d) → k < entries_in (page d) → (j ≡ k → ⊥)
          → tree.names_of disk slot right whole d j ≡ tree.names_of disk slot right whole d k → j ≡ k
      names_apart d low dir j k below_j below_k apart e = elim (cases_lt j k) [
        | inl less ↦ absurd (before_self (tree.names_of disk slot right whole d j) (tree.names_of disk slot right whole d k) e (names_rise_at disk slot right d low dir j k less below_k))
        | inr more ↦ absurd (before_self (tree.names_of disk slot right whole d k) (tree.names_of disk slot right whole d j) (sym e) (names_rise_at disk slot right d low dir k j (omega (arith, more, apart)) below_j))
      ]

      same_place : (a j b k x : ℕ) → IsWay a j x → IsWay b k x → a ≡ b → tree.names_of disk slot right whole a j ≡ tree.names_of disk slot right whole b k → j ≡ k
      same_place a j b k x one two e names = elim (cases_eq j k) [
        | inl is ↦ is
        | inr apart ↦
            let here : tree.names_of disk slot right whole a j ≡ tree.names_of disk slot right whole a k = names ∙ ap (λ d. tree.names_of disk slot right whole d k) (sym e) in
            let below_k : k < entries_in (page a) = (let f = ap (λ d. entries_in (page d)) e in let g = two.below in omega (arith, f, g)) in
            names_apart a one.low one.dir j k one.below below_k apart here
      ]

  -- a test of links to an anode is passed by one at most
  module _ (x : ℕ) (test : Link → Bool) (leads_there : (link : Link) → test link ≡ true → link.to ≡ x) where
    way_of : (i j : ℕ) → i < 64 → (byte_at (page i) 0 == 1) ≡ true → j < entries_in (page i) → test (link_of disk slot i j) ≡ true → IsWay i j x
    way_of i j low dir below is = record { low = low; dir = dir; below = below; to = leads_there (link_of disk slot i j) is }

    abbrev in_anode : ℕ → ℕ
    in_anode i = count_by test (links_at disk slot i)

    counted_in : (i : ℕ) (low : i < 64) (dir : (byte_at (page i) 0 == 1) ≡ true) → in_anode i ≡ total (λ j. count_by test (link_of disk slot i j ∷ [])) (entries_in (page i))
    counted_in i low dir = ap (count_by test) (links_are disk slot right i low dir) ∙ count_joined test (λ j. link_of disk slot i j ∷ []) (entries_in (page i))

    some_way : (i : ℕ) → i < 64 → 1 ≤ in_anode i → (j : ℕ) × IsWay i j x
    some_way i low some = elim (cases_Bool (byte_at (page i) 0 == 1)) [
      | inl dir ↦
          let e = counted_in i low dir in
          let found = total_some (λ j. count_by test (link_of disk slot i j ∷ [])) (entries_in (page i)) (omega (arith, e, some)) in
          (found.0, way_of i found.0 low dir found.1 (single_is test (link_of disk slot i found.0) found.2))
      | inr no_dir ↦ (let e = ap (count_by test) (no_links disk slot right i no_dir) in absurd (omega (arith, e, some)))
    ]

    few_in : (i : ℕ) → i < 64 → in_anode i ≤ 1
    few_in i low = elim (cases_Bool (byte_at (page i) 0 == 1)) [
      | inl dir ↦
          let e = counted_in i low dir in
          let f = total_once (λ j. count_by test (link_of disk slot i j ∷ [])) (entries_in (page i)) (λ j below. single_few test (link_of disk slot i j))
          (λ a b low_a low_b some_a some_b. (same_way i a i b x (way_of i a low dir low_a (single_is test (link_of disk slot i a) some_a)) (way_of i b low dir low_b (single_is test (link_of disk slot i b) some_b))).1) in
          omega (arith, e, f)
      | inr no_dir ↦ (let e = ap (count_by test) (no_links disk slot right i no_dir) in omega (arith, e))
    ]

    at_most_one : count_by test links ≤ 1
    at_most_one =
        let e = count_joined test (links_at disk slot) 64 in
        let f = total_once in_anode 64 few_in (λ a b low_a low_b some_a some_b.
        let one = some_way a low_a some_a in
        let two = some_way b low_b some_b in
        (same_way a one.0 b two.0 x one.1 two.1).0) in
        omega (arith, e, f)

    none_there : ((i j : ℕ) → IsWay i j x → ⊥) → count_by test links ≡ 0
    none_there never =
        let e = count_joined test (links_at disk slot) 64 in
        let f = total_none in_anode 64 (λ i low. elim (cases_eq (in_anode i) 0) [
          | inl none ↦ none
          | inr some ↦ (let one = some_way i low (omega (arith, some)) in absurd (never i one.0 one.1))
        ]) in
        omega (arith, e, f)

    one_there : (i j : ℕ) → IsWay i j x → test (link_of disk slot i j) ≡ true → count_by test links ≡ 1
    one_there i j way is =
        let a = listed_one test (link_of disk slot i) (entries_in (page i)) j way.below is in
        let b = ap (count_by test) (links_are disk slot right i way.low way.dir) in
        let c = joined_one test (links_at disk slot) 64 i 1 way.low (omega (arith, a, b)) in
        let d = at_most_one in
        omega (arith, c, d)

  abbrev leads_to : ℕ → Link → Bool
  leads_to x link = (link.to == x) && is_reached links link.from

  to_is : (x : ℕ) (link : Link) → leads_to x link ≡ true → link.to ≡ x
  to_is x link is = eqb-true link.to x (and_parts (link.to == x) (is_reached links link.from) is).0

  -- what an entry of a reached directory leads to is reached
  step : (i j x : ℕ) → IsWay i j x → is_reached links (i + 1) ≡ true → is_reached links x ≡ true
  step i j x way from =
      let facts = entry_facts disk slot right i way.low way.dir j way.below in
      let some : 1 ≤ x = (let a = facts.some in let e = way.to in omega (arith, a, e)) in
      let few : x ≤ 64 = (let a = facts.few in let e = way.to in omega (arith, a, e)) in
      let is : leads_to x (link_of disk slot i j) ≡ true = and_from (entry_anode (bytes i) j == x) (is_reached links (i + 1)) (eq-eqb (entry_anode (bytes i) j) x way.to) from in
      let count = one_there x (leads_to x) (to_is x) i j way is in
      reached_next links (tree.from_anodes disk slot right whole) x some few (some_counted (leads_to x) links (omega (arith, count)))

  -- the last entry of a path
  last_way : (path : List (List ℕ)) (at x : ℕ) → leads anodes at path ≡ Some x → is_reached links at ≡ true
      → (x ≡ at) ⊎ ((i : ℕ) × (j : ℕ) × IsWay i j x × (is_reached links (i + 1) ≡ true))
  last_way [] at x is from = inl (some_same x at (sym is))
    where
      some_same : (a b : ℕ) → Some a ≡ Some b → a ≡ b
      some_same a b e = cc
  last_way (name ∷ path) at x is from = by (entry_at anodes at name) refl is (λ next. last_way path next x)
    where
      by : (found : Option DirEntry) → entry_at anodes at name ≡ found → option_and_then (λ entry. leads anodes entry.anode path) found ≡ Some x
          → ((next : ℕ) → leads anodes next path ≡ Some x → is_reached links next ≡ true → (x ≡ next) ⊎ ((i : ℕ) × (j : ℕ) × IsWay i j x × (is_reached links (i + 1) ≡ true)))
          → (x ≡ at) ⊎ ((i : ℕ) × (j : ℕ) × IsWay i j x × (is_reached links (i + 1) ≡ true))
      by None there e rest = absurd (cc)
      by (Some entry) there e rest =
          let one = tree.entry_there disk slot right whole at name entry there in
          let way : IsWay one.i one.j entry.anode = record { low = one.low; dir = one.dir; below = one.below; to = ap (λ (d : DirEntry). d.anode) (sym one.entry_is) } in
          let reached : is_reached links (one.i + 1) ≡ true = ap (is_reached links) (sym one.is) ∙ from in
          elim (rest entry.anode e (step one.i one.j entry.anode way reached)) [
            | inl same ↦ inr (one.i, one.j, record { low = one.low; dir = one.dir; below = one.below; to = way.to ∙ sym same }, reached)
            | inr later ↦ inr later
          ]

  -- an object at an anode that an entry names
  no_way_to : (i a j : ℕ) → ((i + 1 == 1) || is_free i) ≡ true → IsWay a j (i + 1) → ⊥
  no_way_to i a j holds way = elim (or_cases (i + 1 == 1) (is_free i) holds) [
    | inl root ↦ formed.rootless (a + 1) (tree.names_of disk slot right whole a j) (entry_of (bytes a) j) (entry_of_way a j (i + 1) way) (way.to ∙ eqb-true (i + 1) 1 root)
    | inr free ↦
        let used = (formed.named (a + 1) (tree.names_of disk slot right whole a j) (entry_of (bytes a) j) (entry_of_way a j (i + 1) way)).0 in
        by (object_at anodes (i + 1)) refl (ap (λ k. is_some (object_at anodes k)) (sym way.to) ∙ used) free
  ]
    where
      by : (found : Option Object) → object_at anodes (i + 1) ≡ found → is_some (object_at anodes (i + 1)) ≡ true → is_free i ≡ true → ⊥
      by None there used free = false≢true (ap (λ (o : Option Object). is_some o) (sym there) ∙ used)
      by (Some object) there used free =
          let one = tree.object_there disk slot right whole (i + 1) object there in
          let e : one.i ≡ i = (let f = one.is in omega (arith, f)) in
          false≢true (sym one.kind ∙ ap is_free e ∙ free)

  abbrev under : ℕ → ℕ → Link → Bool
  under x unique link = (link.to == x) && (link.unique == unique) && is_reached links link.from

  under_is : (x unique : ℕ) (link : Link) → under x unique link ≡ true → link.to ≡ x
  under_is x unique link is = eqb-true link.to x (and_parts (link.to == x) (link.unique == unique) (and_parts ((link.to == x) && (link.unique == unique)) (is_reached links link.from) is).0).0

  -- each anode is reached as it should be
  pub reached_right : (i : ℕ) → i < 64 → is_reached_right links (i + 1) (page i) ≡ true
  unfolding is_reached_right
  reached_right i low = elim (cases_Bool ((i + 1 == 1) || is_free i)) [
    | inl never ↦
        let none = none_there (i + 1) (leads_to (i + 1)) (to_is (i + 1)) (λ a j way. no_way_to i a j never way) in
        cond-true ((i + 1 == 1) || is_free i) (times_reached links (i + 1) == 0) _ never ∙ eq-eqb (times_reached links (i + 1)) 0 none
    | inr once ↦ at_object once
  ]
    where
      at_object : ((i + 1 == 1) || is_free i) ≡ false
          → (if (i + 1 == 1) || is_free i then times_reached links (i + 1) == 0 else if is_object (page i) then (times_reached links (i + 1) == 1) && (times_under links (i + 1) (unique_of (page i)) == 1) else true) ≡ true
      at_object once =
          let parts = or_parts (i + 1 == 1) (is_free i) once in
          let used = tree.used_page disk slot right whole i low parts.1 in
          let there = tree.used_at disk slot right whole i used.below parts.1 in
          let path = formed.reached (i + 1) (tree.object_of disk slot right whole i) there in
          elim (last_way path.0 1 (i + 1) path.1 (root_reached links)) [
            | inl root ↦ absurd (false≢true (sym parts.0 ∙ eq-eqb (i + 1) 1 root))
            | inr found ↦
                let a : ℕ = found.0 in
                let j : ℕ = found.1 in
                let way = found.2 in
                let from = found.3 in
                let named = (formed.named (a + 1) (tree.names_of disk slot right whole a j) (entry_of (bytes a) j) (entry_of_way a j (i + 1) way)).1 in
                let unique : entry_unique (bytes a) j ≡ unique_of (page i) =
                sym named ∙ ap (λ k. option_map_or (λ (d : Anode). d.unique) k 0) (ap (λ k. slice_get anodes k) (let e = way.to in omega (arith, e)) ∙ tree.anode_there disk slot right whole i used.below) in
                let one : times_reached links (i + 1) ≡ 1 = one_there (i + 1) (leads_to (i + 1)) (to_is (i + 1)) a j way (and_from (entry_anode (bytes a) j == i + 1) (is_reached links (a + 1)) (eq-eqb (entry_anode (bytes a) j) (i + 1) way.to) from) in
                let two : times_under links (i + 1) (unique_of (page i)) ≡ 1 = one_there (i + 1) (under (i + 1) (unique_of (page i))) (under_is (i + 1) (unique_of (page i))) a j way
                (and_from _ (is_reached links (a + 1)) (and_from (entry_anode (bytes a) j == i + 1) (entry_unique (bytes a) j == unique_of (page i)) (eq-eqb (entry_anode (bytes a) j) (i + 1) way.to) (eq-eqb (entry_unique (bytes a) j) (unique_of (page i)) unique)) from) in
                cond-false ((i + 1 == 1) || is_free i) _ _ once ∙ cond-true (is_object (page i)) _ true (object_page disk slot right i used.object).object
                ∙ and_from (times_reached links (i + 1) == 1) (times_under links (i + 1) (unique_of (page i)) == 1) (eq-eqb (times_reached links (i + 1)) 1 one) (eq-eqb (times_under links (i + 1) (unique_of (page i))) 1 two)
          ]

pub formed_is_reached : FormedIsReached
unfolding reach_faults
formed_is_reached disk slot header anodes formed = elim (cases_Bool (is_whole (state_at disk slot))) [
  | inl whole ↦
      let right : IsRightSlot disk slot = record { header = header; anodes = anodes } in
      cond-true (is_whole (state_at disk slot)) (joined (reach_fault disk slot) 64) [] whole
      ∙ nothing_joined (reach_fault disk slot) 64 (λ i low. cond-true (is_reached_right (links_of disk slot) (i + 1) (anode_page disk slot i)) [] _ (reached_right disk slot right whole formed i low))
  | inr other ↦ cond-false (is_whole (state_at disk slot)) (joined (reach_fault disk slot) 64) [] other
]
