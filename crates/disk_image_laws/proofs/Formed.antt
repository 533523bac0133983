-- A fileset of an aggregate without faults is a tree.
use Rattle.std.proofs.Common.{◌≡◌, ◌<◌, ◌≤◌, ℕ, zero, suc, ◌+◌, ◌-◌, List, [], ◌∷◌, ◌++◌, length, inl, inr, refl, sym, subst, ◌∙◌, ap, arith, ◌⊎◌}
use Rattle.std.specs.Prelude.{Bool, true, false, nat_le, count_by, cond, Option, Some, None, is_some, slice_get, ◌&&◌, ◌||◌, ◌==◌, if◌then◌else◌}
use Rattle.std.specs.Option.{option_and_then, option_map_or}
use Rattle.std.specs.List.{list_any, list_all, AllByRecursion}
use Rattle.std.proofs.lemmas.Bool.{cases_Bool, cases_eq, and_parts, and_from, or_cases, or_parts, cond-true, cond-false, false≢true, leb-true, leb-false, le-leb, eqb-true, eq-eqb, ne_eqb}
use Rattle.base_types.specs.Image.{byte_at}
use Rattle.base_types.specs.Name.{is_before, same_name}
use Rattle.tree_calls.specs.declared.part.DirEntry.{DirEntry}
use Rattle.tree_objects.specs.Objects.{is_dir}
use Rattle.tree_objects.specs.Sound.{is_sound, names_rise}
use Rattle.tree_objects.specs.declared.content.Content.{Content}
use Rattle.tree_objects.specs.declared.content.Content.TheVariants.{Dir, File}
use Rattle.tree_objects.specs.declared.content.Object.{Object}
use Rattle.tree_objects.specs.declared.content.Anode.{Anode}
use Rattle.tree_filesets.specs.Walk.{object_at}
use Rattle.tree_filesets.specs.WellFormed.{entry_in, entry_at, leads, IsUsed, IsWellFormed}
use Rattle.tree_filesets.proofs.Names.{names_equal, same_self}
use Rattle.disk_layout.specs.Numbers.{number_at}
use Rattle.disk_pages.specs.Words.{name_at}
use Rattle.disk_pages.specs.Anode.{is_object, unique_of, bytes_in}
use Rattle.disk_pages.specs.Blocks.{entry_name, entry_anode, entry_unique, entry_of}
use Rattle.disk_image.specs.Joined.{joined, listed}
use Rattle.disk_anode.specs.Anode.{content_at}
use Rattle.disk_image.specs.Aggregate.{Aggregate, anode_page, header_page, node_at}
use Rattle.disk_image.specs.Slots.{state_at, is_whole}
use Rattle.disk_image.specs.Anodes.{entries_in, entry_bytes, link_of, links_at}
use Rattle.disk_image.specs.Reach.{is_within, is_reached, times_reached, times_under, is_reached_right, links_of}
use Rattle.disk_image.specs.Image.{anode_of, content_of, entries_of, file_bytes, list_of, fileset_of}
use Rattle.disk_image.specs.declared.found.Link.{Link}
use Rattle.disk_image.proofs.Joined.{length-listed}
use Rattle.disk_image_laws.proofs.Sums.{count_cons, listed_one, listed_two, joined_one, joined_two}
use Rattle.std.specs.Ordering.{is_lt, ordering_reverse, nat_cmp}
use Rattle.std.specs.declared.cmp.Ordering.{Ordering}
use Rattle.std.specs.declared.cmp.Ordering.TheVariants.{Less, Equal, Greater}
use Rattle.std.specs.Cmp.Lexicographic.{slice_cmp}
use Rattle.std.proofs.lemmas.Cmp.{nat_list_cmp_total}
use Rattle.tree_objects.proofs.Rising.{all_append}
use Rattle.disk_image_laws.proofs.Reached.{root_reached}
use Rattle.disk_image_laws.proofs.Levels.{FromAnode, unfolded, any_one, reached_next}
use Rattle.disk_image_laws.proofs.Clean.{IsRightSlot, slot_right, reach_right}
use Rattle.disk_image_laws.proofs.Finding.{get_listed, get_past, found_at, first_found, all_follow, some_counted}
use Rattle.disk_image_laws.proofs.Contents as kinds
use Rattle.disk_image_laws.specs.Formed.{FilesetsAreFormed}

-- what leads on
lead_on : (anodes : List Anode) (path : List (List ℕ)) (at next : ℕ) (name : List ℕ) (entry : DirEntry) → leads anodes at path ≡ Some next → entry_at anodes next name ≡ Some entry
    → leads anodes at (path ++ name ∷ []) ≡ Some entry.anode
lead_on anodes [] at next name entry is found =
    let e : at ≡ next = cc in
    ap (λ a. option_and_then (λ other. leads anodes other.anode []) (entry_at anodes a name)) e ∙ ap (option_and_then (λ other. Some other.anode)) found
lead_on anodes (one ∷ path) at next name entry is found = by (entry_at anodes at one) (λ from e. lead_on anodes path from next name entry e found) is
  where
    by : (step : Option DirEntry) → ((from : ℕ) → leads anodes from path ≡ Some next → leads anodes from (path ++ name ∷ []) ≡ Some entry.anode) → option_and_then (λ other. leads anodes other.anode path) step ≡ Some next → option_and_then (λ other. leads anodes other.anode (path ++ name ∷ [])) step ≡ Some entry.anode
    by None rest e = absurd (cc)
    by (Some other) rest e = rest other.anode e

-- two tests that no element passes both, and a third that is passed with either
counts_within : {X : Type 0} (p q r : X → Bool) → ((x : X) → cond (p x) 1 0 + cond (q x) 1 0 ≤ cond (r x) 1 0) → (xs : List X) → count_by p xs + count_by q xs ≤ count_by r xs
counts_within p q r le [] = omega arith
counts_within p q r le (x ∷ xs) =
    let rest = counts_within p q r le xs in
    let here = le x in
    let a = count_cons p x xs in
    let b = count_cons q x xs in
    let d = count_cons r x xs in
    omega (arith, rest, here, a, b, d)

-- names that rise
all_of : {X : Type 0} (test : X → Bool) (value : ℕ → X) (n : ℕ) → ((k : ℕ) → k < n → test (value k) ≡ true) → list_all test (listed value n) ≡ true
unfolding joined
all_of test value zero each = refl
all_of test value (suc n) each = all_append test (listed value n) (value n ∷ []) (all_of test value n (λ k low. each k (omega arith))) (and_from (test (value n)) true (each n (omega arith)) refl)

rise_more : (xs : List DirEntry) (y : DirEntry) → names_rise xs ≡ true → list_all (λ (x : DirEntry). is_before x.name y.name) xs ≡ true → names_rise (xs ++ y ∷ []) ≡ true
rise_more [] y rise before = refl
rise_more (x ∷ xs) y rise before =
    let parts = and_parts (list_all (λ (other : DirEntry). is_before x.name other.name) xs) (names_rise xs) rise in
    let firsts = and_parts (is_before x.name y.name) (list_all (λ (z : DirEntry). is_before z.name y.name) xs) before in
    and_from (list_all (λ (other : DirEntry). is_before x.name other.name) (xs ++ y ∷ [])) (names_rise (xs ++ y ∷ []))
    (all_append (λ (other : DirEntry). is_before x.name other.name) xs (y ∷ []) parts.0 (and_from (is_before x.name y.name) true firsts.0 refl)) (rise_more xs y parts.1 firsts.1)

pub rise_all : (value : ℕ → DirEntry) (n : ℕ) → ((j k : ℕ) → j < k → k < n → is_before (value j).name (value k).name ≡ true) → names_rise (listed value n) ≡ true
unfolding joined
rise_all value zero each = refl
rise_all value (suc n) each = rise_more (listed value n) (value n) (rise_all value n (λ j k less low. each j k less (omega arith))) (all_of (λ (x : DirEntry). is_before x.name (value n).name) value n (λ k low. each k n low (omega arith)))

module _ (disk : Aggregate) (slot : ℕ) (right : IsRightSlot disk slot) (whole : is_whole (state_at disk slot) ≡ true) where
  abbrev pub page : ℕ → List ℕ
  page i = anode_page disk slot i

  abbrev pub objects : ℕ
  objects = number_at 4 8 (header_page disk slot)

  abbrev pub anodes : List Anode
  anodes = listed (anode_of disk slot) objects

  abbrev pub links : List Link
  links = links_of disk slot

  pub few_objects : (1 ≤ objects) × (objects ≤ 64)
  few_objects = kinds.few_objects disk slot right whole

  -- what stands at an anode
  abbrev pub object_of : ℕ → Object
  object_of i = record { owner = name_at 76 (page i); group = name_at 137 (page i); content = content_of disk slot i }

  abbrev pub is_free : ℕ → Bool
  is_free i = byte_at (page i) 0 == 0

  pub anode_there : (i : ℕ) → i < objects → slice_get anodes i ≡ Some (anode_of disk slot i)
  anode_there i below = get_listed (anode_of disk slot) objects i below

  pub at_anode : (at i : ℕ) → at ≡ i + 1 → i < objects → object_at anodes at ≡ (if is_free i then None else Some (object_of i))
  at_anode at i is below =
      let e : at - 1 ≡ i = omega (arith, is) in
      cond-false (at == 0) None _ (ne_eqb at 0 (omega (arith, is)))
      ∙ ap (λ k. option_and_then (λ (a : Anode). a.object) (slice_get anodes k)) e
      ∙ ap (option_and_then (λ (a : Anode). a.object)) (anode_there i below)

  pub record IsObjectAt (at : ℕ) (object : Object) : Type 0 where
    pub i : ℕ
    pub is : at ≡ i + 1
    pub below : i < objects
    pub kind : is_free i ≡ false
    pub object_is : object ≡ object_of i

  some_same : {X : Type 0} (a b : X) → Some a ≡ Some b → a ≡ b
  some_same a b e = cc

  pub object_there : (at : ℕ) (object : Object) → object_at anodes at ≡ Some object → IsObjectAt at object
  object_there at object is = elim (cases_eq at 0) [
    | inl zero_at ↦ let none : object_at anodes at ≡ None = cond-true (at == 0) None _ (eq-eqb at 0 zero_at) in absurd (cc)
    | inr apart ↦ by (cases_lt objects (at - 1) (omega (arith, apart)))
  ]
    where
      cases_lt : (n k : ℕ) → at ≡ k + 1 → ((k < n) × (at ≡ k + 1)) ⊎ ((n ≤ k) × (at ≡ k + 1))
      cases_lt n k e = elim (cases_Bool (nat_le n k)) [
        | inl holds ↦ inr (leb-true n k holds, e)
        | inr fails ↦ inl (below n k fails, e)
      ]
        where
          below : (n k : ℕ) → nat_le n k ≡ false → k < n
          below n k fails = leb-false n k fails

      by : (((at - 1) < objects) × (at ≡ at - 1 + 1)) ⊎ ((objects ≤ at - 1) × (at ≡ at - 1 + 1)) → IsObjectAt at object
      by (inr (far, e)) =
          let none : object_at anodes at ≡ None = cond-false (at == 0) None _ (ne_eqb at 0 (omega (arith, e))) ∙ ap (option_and_then (λ (a : Anode). a.object)) (get_past (anode_of disk slot) objects (at - 1) far) in
          absurd (cc)
      by (inl (below, e)) = elim (cases_Bool (is_free (at - 1))) [
        | inl free ↦
            let none : object_at anodes at ≡ None = at_anode at (at - 1) e below ∙ cond-true (is_free (at - 1)) None (Some (object_of (at - 1))) free in absurd (cc)
        | inr kind ↦
            let there : object_at anodes at ≡ Some (object_of (at - 1)) = at_anode at (at - 1) e below ∙ cond-false (is_free (at - 1)) None (Some (object_of (at - 1))) kind in
            record { i = at - 1; is = e; below = below; kind = kind; object_is = some_same object (object_of (at - 1)) (sym is ∙ there) }
      ]

  pub used_at : (i : ℕ) → i < objects → is_free i ≡ false → object_at anodes (i + 1) ≡ Some (object_of i)
  used_at i below kind = at_anode (i + 1) i refl below ∙ cond-false (is_free i) None (Some (object_of i)) kind

  -- entries of a directory
  abbrev pub bytes : ℕ → List ℕ
  bytes i = entry_bytes disk slot i

  abbrev pub is_directory : ℕ → Bool
  is_directory i = byte_at (page i) 0 == 1

  abbrev pub names_of : ℕ → ℕ → List ℕ
  names_of i j = entry_name (bytes i) j

  abbrev pub IsUsedPage : ℕ → Type 0
  IsUsedPage i = kinds.IsUsedPage disk slot right whole i

  pub used_page : (i : ℕ) → i < 64 → is_free i ≡ false → IsUsedPage i
  used_page i low kind = kinds.used_page disk slot right whole i low kind

  pub dir_kind : (i : ℕ) → is_directory i ≡ true → is_free i ≡ false
  dir_kind i dir = ap (λ b. b == 0) (eqb-true (byte_at (page i) 0) 1 dir)

  pub dir_below : (i : ℕ) → i < 64 → is_directory i ≡ true → i < objects
  dir_below i low dir = (used_page i low (dir_kind i dir)).below

  abbrev pub dir_content : ℕ → Content
  dir_content i = Dir (entries_of disk slot i) (list_of disk slot i 0 ∷ list_of disk slot i 1 ∷ list_of disk slot i 2 ∷ [])

  abbrev pub file_content : ℕ → Content
  file_content i = File (list_of disk slot i 0) (file_bytes disk slot i) [] None

  pub content_dir : (i : ℕ) → is_directory i ≡ true → content_of disk slot i ≡ dir_content i
  content_dir i dir = cond-true (is_directory i) (dir_content i) (file_content i) dir

  pub content_file : (i : ℕ) → is_directory i ≡ false → content_of disk slot i ≡ file_content i
  content_file i no_dir = cond-false (is_directory i) (dir_content i) (file_content i) no_dir

  -- an entry that is found
  pub record IsEntryIn (at : ℕ) (name : List ℕ) (entry : DirEntry) : Type 0 where
    pub i : ℕ
    pub j : ℕ
    pub is : at ≡ i + 1
    pub low : i < 64
    pub dir : is_directory i ≡ true
    pub below : j < entries_in (page i)
    pub entry_is : entry ≡ entry_of (bytes i) j
    pub name_is : names_of i j ≡ name

  pub entry_there : (at : ℕ) (name : List ℕ) (entry : DirEntry) → entry_at anodes at name ≡ Some entry → IsEntryIn at name entry
  entry_there at name entry is = by (object_at anodes at) refl is
    where
      by : (found : Option Object) → object_at anodes at ≡ found → option_and_then (λ object. entry_in object.content name) found ≡ Some entry → IsEntryIn at name entry
      by None there e = absurd (cc)
      by (Some object) there e =
          let one = object_there at object there in
          let i : ℕ = one.i in
          let low : i < 64 = let a = one.below in let b = few_objects.1 in omega (arith, a, b) in
          let here : entry_in (content_of disk slot i) name ≡ Some entry = ap (λ (o : Object). entry_in o.content name) (sym one.object_is) ∙ e in
          elim (cases_Bool (is_directory i)) [
            | inl dir ↦
                let found = found_at (λ (other : DirEntry). same_name other.name name) (entry_of (bytes i)) (entries_in (page i)) entry (ap (λ c. entry_in c name) (sym (content_dir i dir)) ∙ here) in
                record { i = i; j = found.0; is = one.is; low = low; dir = dir; below = found.1; entry_is = found.2; name_is = names_equal (names_of i found.0) name found.3 }
            | inr no_dir ↦
                let none : entry_in (content_of disk slot i) name ≡ None = ap (λ c. entry_in c name) (content_file i no_dir) in absurd (cc)
          ]

  -- the entry of a name
  self_before : (r : Ordering) → r ≡ ordering_reverse r → is_lt r ≡ false
  self_before Less e = absurd (cc)
  self_before Equal e = refl
  self_before Greater e = refl

  pub before_apart : (a b : List ℕ) → is_before a b ≡ true → same_name a b ≡ false
  before_apart a b before = elim (cases_Bool (same_name a b)) [
    | inl same ↦
        let e = names_equal a b same in
        let self : is_before b b ≡ true = ap (λ n. is_before n b) (sym e) ∙ before in
        absurd (false≢true (sym (self_before (slice_cmp nat_cmp b b) (nat_list_cmp_total.antisymm b b)) ∙ self))
    | inr apart ↦ apart
  ]

  pub entry_here : (i j : ℕ) → i < 64 → is_directory i ≡ true → j < entries_in (page i) → entry_at anodes (i + 1) (names_of i j) ≡ Some (entry_of (bytes i) j)
  entry_here i j low dir below =
      ap (option_and_then (λ (object : Object). entry_in object.content (names_of i j))) (used_at i (dir_below i low dir) (dir_kind i dir))
      ∙ ap (λ c. entry_in c (names_of i j)) (content_dir i dir)
      ∙ first_found (λ (other : DirEntry). same_name other.name (names_of i j)) (entry_of (bytes i)) (entries_in (page i)) j below (same_self (names_of i j))
      (λ k less. before_apart (names_of i k) (names_of i j) (kinds.names_rise_at disk slot right i low dir k j less below))

  -- links
  abbrev pub IsLink : Link → Type 0
  IsLink link = kinds.IsLink disk slot right link

  pub known : AllByRecursion IsLink links
  known = kinds.links_known disk slot right

  pub from_anodes : AllByRecursion FromAnode links
  from_anodes = all_follow IsLink FromAnode links (λ link one.
      let at = one.2 in
      let e : link.from ≡ one.0 + 1 = ap (λ (l : Link). l.from) at.is in
      let low = at.low in
      (omega (arith, e), omega (arith, e, low))) known

  -- what each anode is reached by, where this is right
  module _ (reach : (i : ℕ) → i < 64 → is_reached_right (links_of disk slot) (i + 1) (anode_page disk slot i) ≡ true) where
    abbrev leads_to : ℕ → Link → Bool
    leads_to x link = (link.to == x) && is_reached links link.from

    right_at : (i : ℕ) → i < 64 → is_reached_right links (i + 1) (page i) ≡ true
    right_at i low = reach i low

    -- an object that isn't the root is reached once
    pub record IsOnce (i : ℕ) : Type 0 where
      pub times : times_reached links (i + 1) ≡ 1
      pub under : times_under links (i + 1) (unique_of (page i)) ≡ 1

    object_kind : (i : ℕ) → i < 64 → is_free i ≡ false → is_object (page i) ≡ true
    object_kind i low kind = (kinds.object_page disk slot right i (used_page i low kind).object).object

    once_at : (i : ℕ) → i < 64 → is_free i ≡ false → (i ≡ 0 → ⊥) → IsOnce i
    unfolding is_reached_right
    once_at i low kind not_root =
        let no : ((i + 1 == 1) || is_free i) ≡ false = (λ j. ne_eqb (i + 1) 1 (λ e. not_root (omega (arith, e))) j || kind j) in
        let all = sym (cond-false ((i + 1 == 1) || is_free i) _ _ no ∙ cond-true (is_object (page i)) _ _ (object_kind i low kind)) ∙ right_at i low in
        let parts = and_parts (times_reached links (i + 1) == 1) (times_under links (i + 1) (unique_of (page i)) == 1) all in
        record { times = eqb-true (times_reached links (i + 1)) 1 parts.0; under = eqb-true (times_under links (i + 1) (unique_of (page i))) 1 parts.1 }

    never_at : (i : ℕ) → i < 64 → ((i + 1 == 1) || is_free i) ≡ true → times_reached links (i + 1) ≡ 0
    unfolding is_reached_right
    never_at i low holds = eqb-true (times_reached links (i + 1)) 0 (sym (cond-true ((i + 1 == 1) || is_free i) (times_reached links (i + 1) == 0) _ holds) ∙ right_at i low)

    reached_at : (i : ℕ) → i < 64 → is_free i ≡ false → is_reached links (i + 1) ≡ true
    reached_at i low kind = elim (cases_eq i 0) [
      | inl root ↦ let e : i + 1 ≡ 1 = omega (arith, root) in ap (is_reached links) e ∙ root_reached links
      | inr not_root ↦
          let times = (once_at i low kind not_root).times in
          reached_next links from_anodes (i + 1) (omega arith) (omega arith) (some_counted (leads_to (i + 1)) links (omega (arith, times)))
    ]

    -- entries of directories count
    module _ (i j : ℕ) (low : i < 64) (dir : is_directory i ≡ true) (below : j < entries_in (page i)) where
      abbrev to : ℕ
      to = entry_anode (bytes i) j

      dir_reached : is_reached links (i + 1) ≡ true
      dir_reached = reached_at i low (dir_kind i dir)

      passes : (x : ℕ) → to ≡ x → leads_to x (link_of disk slot i j) ≡ true
      passes x is = and_from (to == x) (is_reached links (i + 1)) (eq-eqb to x is) dir_reached

      listed_of : (test : Link → Bool) (m : ℕ) → m ≤ count_by test (listed (link_of disk slot i) (entries_in (page i))) → m ≤ count_by test (links_at disk slot i)
      listed_of test m le = let e = ap (count_by test) (kinds.links_are disk slot right i low dir) in omega (arith, e, le)

      one_counted : (test : Link → Bool) → test (link_of disk slot i j) ≡ true → 1 ≤ count_by test (links_at disk slot i)
      one_counted test is = listed_of test 1 (listed_one test (link_of disk slot i) (entries_in (page i)) j below is)

      counted : (test : Link → Bool) → test (link_of disk slot i j) ≡ true → 1 ≤ count_by test links
      counted test is = joined_one test (links_at disk slot) 64 i 1 low (one_counted test is)

      facts : kinds.IsEntryAt disk slot right i low dir j
      facts = kinds.entry_facts disk slot right i low dir j below

      target_is : to ≡ to - 1 + 1
      target_is = let a = facts.some in omega (arith, a)

      target_low : to - 1 < 64
      target_low = let a = facts.some in let b = facts.few in omega (arith, a, b)

      not_never : ((to - 1 + 1 == 1) || is_free (to - 1)) ≡ false
      not_never = elim (cases_Bool ((to - 1 + 1 == 1) || is_free (to - 1))) [
        | inl holds ↦
            let none = never_at (to - 1) target_low holds in
            let some = counted (leads_to (to - 1 + 1)) (passes (to - 1 + 1) target_is) in
            absurd (omega (arith, none, some))
        | inr fails ↦ fails
      ]

      target_kind : is_free (to - 1) ≡ false
      target_kind = (or_parts (to - 1 + 1 == 1) (is_free (to - 1)) not_never).1

      target_root : to ≡ 1 → ⊥
      target_root e = false≢true (sym (or_parts (to - 1 + 1 == 1) (is_free (to - 1)) not_never).0 ∙ eq-eqb (to - 1 + 1) 1 (omega (arith, e)))

      target_once : IsOnce (to - 1)
      target_once = once_at (to - 1) target_low target_kind (λ e. target_root (let a = facts.some in omega (arith, a, e)))

      target_below : to - 1 < objects
      target_below = (used_page (to - 1) target_low target_kind).below

      -- under its unique number
      abbrev under : ℕ → Link → Bool
      under unique link = (link.to == to - 1 + 1) && (link.unique == unique) && is_reached links link.from

      target_unique : unique_of (page (to - 1)) ≡ entry_unique (bytes i) j
      target_unique = elim (cases_eq (unique_of (page (to - 1))) (entry_unique (bytes i) j)) [
        | inl e ↦ e
        | inr apart ↦
            let mine = counted (under (entry_unique (bytes i) j)) (and_from _ _ (and_from _ _ (eq-eqb to (to - 1 + 1) target_is) (eq-eqb (entry_unique (bytes i) j) (entry_unique (bytes i) j) refl)) dir_reached) in
            let both = counts_within (under (unique_of (page (to - 1)))) (under (entry_unique (bytes i) j)) (leads_to (to - 1 + 1))
            (λ link. exclusive (link.to == to - 1 + 1) (link.unique == unique_of (page (to - 1))) (link.unique == entry_unique (bytes i) j) (is_reached links link.from)
            (λ a b. apart (sym (eqb-true link.unique (unique_of (page (to - 1))) a) ∙ eqb-true link.unique (entry_unique (bytes i) j) b))) links in
            let a = target_once.times in
            let b = target_once.under in
            absurd (omega (arith, mine, both, a, b))
      ]
        where
          exclusive : (a u v r : Bool) → (u ≡ true → v ≡ true → ⊥) → cond ((a && u) && r) 1 0 + cond ((a && v) && r) 1 0 ≤ cond (a && r) 1 0
          exclusive false u v r apart_ones = omega arith
          exclusive true false false r apart_ones = omega arith
          exclusive true false true true apart_ones = omega arith
          exclusive true false true false apart_ones = omega arith
          exclusive true true false true apart_ones = omega arith
          exclusive true true false false apart_ones = omega arith
          exclusive true true true r apart_ones = absurd (apart_ones refl refl)

    -- two entries that lead to one anode are one
    same_entry : (a j b k : ℕ) (low_a : a < 64) (dir_a : is_directory a ≡ true) (below_a : j < entries_in (page a)) (low_b : b < 64) (dir_b : is_directory b ≡ true) (below_b : k < entries_in (page b))
        → entry_anode (bytes a) j ≡ entry_anode (bytes b) k → (a ≡ b) × (j ≡ k)
    same_entry a j b k low_a dir_a below_a low_b dir_b below_b same =
        let x : ℕ = entry_anode (bytes a) j in
        let e = target_is a j low_a dir_a below_a in
        let once = (target_once a j low_a dir_a below_a).times in
        let times : times_reached links x ≡ 1 = ap (times_reached links) e ∙ once in
        let first = passes a j low_a dir_a below_a x refl in
        let second = passes b k low_b dir_b below_b x (sym same) in
        elim (cases_eq a b) [
          | inl one ↦ elim (cases_eq j k) [
            | inl two ↦ (one, two)
            | inr apart ↦
                let below : k < entries_in (page a) = let h = ap (λ i. entries_in (page i)) one in omega (arith, h, below_b) in
                let same_link : leads_to x (link_of disk slot a k) ≡ true = ap (λ i. leads_to x (link_of disk slot i k)) one ∙ second in
                let two = listed_of a j low_a dir_a below_a (leads_to x) 2 (listed_two (leads_to x) (link_of disk slot a) (entries_in (page a)) j k below_a below apart first same_link) in
                let all = joined_one (leads_to x) (links_at disk slot) 64 a 2 low_a two in
                absurd (omega (arith, all, times))
          ]
          | inr apart ↦
              let all = joined_two (leads_to x) (links_at disk slot) 64 a b low_a low_b apart (one_counted a j low_a dir_a below_a (leads_to x) first) (one_counted b k low_b dir_b below_b (leads_to x) second) in
              absurd (omega (arith, all, times))
        ]

    -- a path to what is within some entries of the root
    at_root : (x : ℕ) → is_within links zero x ≡ (x == 1)
    unfolding is_within
    at_root x = refl

    way : (n x : ℕ) → is_within links n x ≡ true → (path : List (List ℕ)) × (leads anodes 1 path ≡ Some x)
    way zero x is = ([], ap Some (sym (eqb-true x 1 (sym (at_root x) ∙ is))))
    way (suc n) x is = elim (or_cases (is_within links n x) (list_any (λ link. (link.to == x) && is_within links n link.from) links) (sym (unfolded links n x) ∙ is)) [
      | inl before ↦ way n x before
      | inr any ↦
          let found = any_one IsLink (λ link. (link.to == x) && is_within links n link.from) links known any in
          let link : Link = found.0 in
          let i : ℕ = found.1.0 in
          let j : ℕ = found.1.1 in
          let at = found.1.2 in
          let parts = and_parts (link.to == x) (is_within links n link.from) found.2 in
          let front = way n link.from parts.1 in
          let from_is : link.from ≡ i + 1 = ap (λ (l : Link). l.from) at.is in
          let to_is : link.to ≡ entry_anode (bytes i) j = ap (λ (l : Link). l.to) at.is in (
            front.0 ++ names_of i j ∷ [],
            lead_on anodes front.0 1 (i + 1) (names_of i j) (entry_of (bytes i) j) (front.1 ∙ ap Some from_is) (entry_here i j at.low at.dir at.below)
                ∙ ap Some (sym to_is ∙ eqb-true link.to x parts.0),
          )
    ]

    -- each object is well formed by itself
    sound_at : (i : ℕ) → i < 64 → is_sound (content_of disk slot i) ≡ true
    sound_at i low = elim (cases_Bool (is_directory i)) [
      | inl dir ↦
          ap is_sound (content_dir i dir)
          ∙ and_from (names_rise (entries_of disk slot i)) true (rise_all (entry_of (bytes i)) (entries_in (page i)) (kinds.names_rise_at disk slot right i low dir)) refl
      | inr no_dir ↦
          let few : length (file_bytes disk slot i) ≤ 65536 = let e = length-listed (content_at disk.image (node_at disk slot i) (bytes_in (page i))) (bytes_in (page i)) in omega (arith, e) in
          let le = le-leb (length (file_bytes disk slot i)) 65536 few in
          ap is_sound (content_file i no_dir) ∙ (λ j. (((le j && le j) && true) && true) && true)
    ]

    root_dir : is_directory 0 ≡ true
    root_dir = (and_parts (is_directory 0) (unique_of (page 0) == 1) (kinds.root_page disk slot right whole)).0

    -- the fileset
    used_is : (i j : ℕ) (low : i < 64) (dir : is_directory i ≡ true) (below : j < entries_in (page i)) → IsUsed anodes (entry_of (bytes i) j)
    used_is i j low dir below =
        let e = target_is i j low dir below in
        let t : ℕ = entry_anode (bytes i) j - 1 in
        let there = target_below i j low dir below in (
          ap (λ (o : Option Object). is_some o) (ap (object_at anodes) e ∙ used_at t there (target_kind i j low dir below)),
          ap (λ k. option_map_or (λ (a : Anode). a.unique) k 0) (anode_there t there) ∙ target_unique i j low dir below,
        )

    below_64 : (i : ℕ) → i < objects → i < 64
    below_64 i low = let a = few_objects.1 in omega (arith, a, low)

    formed_is : IsWellFormed (fileset_of disk slot)
    formed_is = record {
      count = length-listed (anode_of disk slot) objects;
      limit = few_objects.1;
      first = ap (λ k. option_map_or (λ (a : Anode). a.unique) k 0) (anode_there 0 (let a = few_objects.0 in omega (arith, a)))
          ∙ eqb-true (unique_of (page 0)) 1 (and_parts (is_directory 0) (unique_of (page 0) == 1) (kinds.root_page disk slot right whole)).1;
      root = ap (λ (o : Option Object). option_map_or (λ object. is_dir object.content) o false) (used_at 0 (let a = few_objects.0 in omega (arith, a)) (dir_kind 0 root_dir))
          ∙ ap is_dir (content_dir 0 root_dir);
      sound = λ at object is. let one = object_there at object is in ap (λ (o : Object). is_sound o.content) one.object_is ∙ sound_at one.i (below_64 one.i one.below);
      named = λ at name entry is. let one = entry_there at name entry is in subst (λ (e : DirEntry). IsUsed anodes e) (sym one.entry_is) (used_is one.i one.j one.low one.dir one.below);
      once = λ a b m n e f first second same.
          let one = entry_there a m e first in
          let two = entry_there b n f second in
          let both = same_entry one.i one.j two.i two.j one.low one.dir one.below two.low two.dir two.below (ap (λ (x : DirEntry). x.anode) (sym one.entry_is) ∙ same ∙ ap (λ (x : DirEntry). x.anode) two.entry_is) in
          (one.is ∙ ap (λ k. k + 1) both.0 ∙ sym two.is, sym one.name_is ∙ (λ j. names_of (both.0 j) (both.1 j)) ∙ two.name_is);
      rootless = λ at name entry is e. let one = entry_there at name entry is in target_root one.i one.j one.low one.dir one.below (ap (λ (x : DirEntry). x.anode) (sym one.entry_is) ∙ e);
      reached = λ at object is.
          let one = object_there at object is in
          let found = way 64 (one.i + 1) (reached_at one.i (below_64 one.i one.below) one.kind) in
          (found.0, found.1 ∙ ap Some (sym one.is));
    }

pub formed : FilesetsAreFormed
formed disk clean slot lt whole = formed_is disk slot (slot_right disk clean slot lt) whole (λ i low. reach_right disk clean slot lt i low whole)
