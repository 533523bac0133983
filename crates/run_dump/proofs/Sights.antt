-- The objects of a fileset as they are printed, level by level.
use Rattle.std.proofs.Common.{Bool, List, None, Option, Some, ap, append_assoc, arith, cond, false, is_some, length, map, refl, subst, suc, sym, true, zero, ℕ, ◌&&◌, ◌+◌, ◌++◌, ◌<◌, ◌∙◌, ◌∷◌, ◌≡◌, []}
use Rattle.std.specs.Cmp.Lexicographic.{pointwise}
use Rattle.std.specs.List.{count_by, flat_map, list_all, sum_by}
use Rattle.std.specs.Option.{option_and_then, option_map_or}
use Rattle.std.specs.Prelude.{if◌then◌else◌, not}
use Rattle.std.proofs.lemmas.List.{append-nil}
use Rattle.std.proofs.lemmas.List.Sums.{sum_by-cons}
use Rattle.base_types.specs.Name.{is_before, same_name}
use Rattle.message_types.specs.Soundness.{Each}
use Rattle.script_output.specs.Dump.{lines_below, object_lines}
use Rattle.script_output.specs.Texts.{path_of}
use Rattle.tree_calls.specs.declared.part.DirEntry.{DirEntry}
use Rattle.tree_filesets.proofs.Found.{some_of}
use Rattle.tree_filesets.proofs.Leads.{leads_first}
use Rattle.tree_filesets.proofs.Names.{names_equal, same_self}
use Rattle.tree_filesets.specs.Laws.{entries_in}
use Rattle.tree_filesets.specs.Walk.{object_at}
use Rattle.tree_filesets.specs.WellFormed.{IsWellFormed, entry_at, entry_in, leads}
use Rattle.tree_filesets.specs.declared.fileset.Fileset.{Fileset}
use Rattle.tree_laws.proofs.Counts.{count_flat, count_map, count_none, sum_of_one, sum_same, two_implied}
use Rattle.tree_laws.proofs.Lost.{never_before}
use Rattle.tree_laws.specs.Labels.{each_two}
use Rattle.tree_objects.proofs.Observed.{and_left, and_right}
use Rattle.tree_objects.proofs.Rising.{and_both}
use Rattle.tree_objects.specs.Entries.{entry_named}
use Rattle.tree_objects.specs.Sound.{is_sound, names_rise}
use Rattle.tree_objects.specs.declared.content.Anode.{Anode}
use Rattle.tree_objects.specs.declared.content.Content.{Content}
use Rattle.tree_objects.specs.declared.content.Content.TheVariants.{Dir, File}
use Rattle.tree_objects.specs.declared.content.Object.{Object}
use Rattle.run_dump.specs.Shown.{Sight}

-- an object below another name
abbrev pub under : List ℕ → Sight → Sight
under name sight = record sight { names = name ∷ sight.names }

-- an object and those below it, down to so many levels
abbrev pub sights_below : ℕ → List Anode → ℕ → Object → List Sight
sights_below zero anodes at object = []
sights_below (suc levels) anodes at object =
    record { names = []; anode = at; object = object }
    ∷ flat_map (λ entry. option_map_or (λ child. map (under entry.name) (sights_below levels anodes entry.anode child))
    (object_at anodes entry.anode) []) (entries_in object.content)

abbrev pub below_entry : ℕ → List Anode → DirEntry → List Sight
below_entry levels anodes entry =
    option_map_or (λ child. map (under entry.name) (sights_below levels anodes entry.anode child))
    (object_at anodes entry.anode) []

-- their lines
abbrev lines_under : List ℕ → Sight → List ℕ
lines_under path sight = object_lines (path ++ path_of sight.names) sight.object

flat_map_map : {X Y Z : Type 0} (f : Y → List Z) (g : X → Y) (xs : List X) →
    flat_map f (map g xs) ≡ flat_map (λ x. f (g x)) xs
flat_map_map f g [] = refl
flat_map_map f g (x ∷ xs) = ap (λ ys. f (g x) ++ ys) (flat_map_map f g xs)

flat_map_append : {X Y : Type 0} (f : X → List Y) (xs ys : List X) →
    flat_map f (xs ++ ys) ≡ flat_map f xs ++ flat_map f ys
flat_map_append f [] ys = refl
flat_map_append f (x ∷ xs) ys =
    ap (λ zs. f x ++ zs) (flat_map_append f xs ys) ∙ sym (append_assoc (f x) (flat_map f xs) (flat_map f ys))

flat_map_flat : {X Y Z : Type 0} (f : Y → List Z) (g : X → List Y) (xs : List X) →
    flat_map f (flat_map g xs) ≡ flat_map (λ x. flat_map f (g x)) xs
flat_map_flat f g [] = refl
flat_map_flat f g (x ∷ xs) =
    flat_map_append f (g x) (flat_map g xs) ∙ ap (λ ys. flat_map f (g x) ++ ys) (flat_map_flat f g xs)

flat_same : {X Y : Type 0} (f g : X → List Y) → ((x : X) → f x ≡ g x) → (xs : List X) → flat_map f xs ≡ flat_map g xs
flat_same f g same [] = refl
flat_same f g same (x ∷ xs) =
    ap (λ ys. ys ++ flat_map f xs) (same x) ∙ ap (λ ys. g x ++ ys) (flat_same f g same xs)

pub lines_of : (levels : ℕ) (anodes : List Anode) (path : List ℕ) (at : ℕ) (object : Object) →
    lines_below levels anodes path object ≡ flat_map (lines_under path) (sights_below levels anodes at object)
lines_of zero anodes path at object = refl
lines_of (suc levels) anodes path at object =
    ap (λ p. object_lines p object ++ flat_map shown (entries_in object.content)) (sym (append-nil path))
    ∙ ap (λ ys. object_lines (path ++ []) object ++ ys)
    (flat_same shown (λ entry. flat_map (lines_under path) (below_entry levels anodes entry))
    (each (lines_of levels anodes))
    (entries_in object.content)
    ∙ sym (flat_map_flat (lines_under path) (below_entry levels anodes) (entries_in object.content)))
  where
    shown : DirEntry → List ℕ
    shown entry = option_map_or (lines_below levels anodes (path ++ 47 ∷ entry.name)) (object_at anodes entry.anode) []

    longer : (name : List ℕ) (sight : Sight) →
        lines_under (path ++ 47 ∷ name) sight ≡ lines_under path (under name sight)
    longer name sight =
        ap (λ p. object_lines p sight.object) (append_assoc path (47 ∷ name) (path_of sight.names))

    by : (entry : DirEntry) (o : Option Object) →
        ((child : Object) → lines_below levels anodes (path ++ 47 ∷ entry.name) child
        ≡ flat_map (lines_under (path ++ 47 ∷ entry.name)) (sights_below levels anodes entry.anode child)) →
        option_map_or (lines_below levels anodes (path ++ 47 ∷ entry.name)) o []
        ≡ flat_map (lines_under path)
        (option_map_or (λ child. map (under entry.name) (sights_below levels anodes entry.anode child)) o [])
    by entry None below = refl
    by entry (Some child) below =
        below child
        ∙ flat_same (lines_under (path ++ 47 ∷ entry.name)) (λ sight. lines_under path (under entry.name sight))
        (longer entry.name) (sights_below levels anodes entry.anode child)
        ∙ sym (flat_map_map (lines_under path) (under entry.name) (sights_below levels anodes entry.anode child))

    each : ((path : List ℕ) (at : ℕ) (child : Object) →
        lines_below levels anodes path child ≡ flat_map (lines_under path) (sights_below levels anodes at child)) →
        (entry : DirEntry) → shown entry ≡ flat_map (lines_under path) (below_entry levels anodes entry)
    each below entry = by entry (object_at anodes entry.anode) (below (path ++ 47 ∷ entry.name) entry.anode)

-- what holds of all of some lists
each_append : {X : Type 0} (P : X → Type 0) (xs ys : List X) → Each P xs → Each P ys → Each P (xs ++ ys)
each_append P [] ys a b = b
each_append P (x ∷ xs) ys a b = (a.0, each_append P xs ys a.1 b)

each_map : {X Y : Type 0} (P : Y → Type 0) (f : X → Y) (xs : List X) → Each (λ x. P (f x)) xs → Each P (map f xs)
each_map P f [] a = tt
each_map P f (x ∷ xs) a = (a.0, each_map P f xs a.1)

pub each_implied : {X : Type 0} (P Q : X → Type 0) → ((x : X) → P x → Q x) → (xs : List X) → Each P xs → Each Q xs
each_implied P Q k [] a = tt
each_implied P Q k (x ∷ xs) a = (k x a.0, each_implied P Q k xs a.1)

in_entries : (content : Content) (name : List ℕ) → entry_named (entries_in content) name ≡ entry_in content name
in_entries (Dir entries lists) name = refl
in_entries (File list kept unsaved len) name = refl

entries_rise : (content : Content) → is_sound content ≡ true → names_rise (entries_in content) ≡ true
entries_rise (Dir entries lists) s = and_left _ _ s
entries_rise (File list kept unsaved len) s = refl

rise_two : (entries : List DirEntry) → names_rise entries ≡ true →
    each_two (λ a b. is_before a.name b.name) entries ≡ true
rise_two [] h = refl
rise_two (entry ∷ entries) h = and_both _ _ (and_left _ _ h) (rise_two entries (and_right _ _ h))

before_other : (name : List ℕ) (a b : DirEntry) → is_before a.name b.name ≡ true →
    not (same_name a.name name && same_name b.name name) ≡ true
before_other name a b e = by (same_name a.name name) (same_name b.name name) refl refl
  where
    by : (s t : Bool) → same_name a.name name ≡ s → same_name b.name name ≡ t → not (s && t) ≡ true
    by true true f g =
        let one : a.name ≡ b.name = names_equal a.name name f ∙ sym (names_equal b.name name g) in
        let clash : false ≡ true =
        sym (never_before b.name) ∙ subst (λ n. is_before n b.name ≡ true) one e in absurd (cc)
    by true false f g = refl
    by false t f g = refl

-- an entry in the order of names is that of its name
found_itself : (entries : List DirEntry) → names_rise entries ≡ true →
    Each (λ entry. entry_named entries entry.name ≡ Some entry) entries
found_itself [] h = tt
found_itself (first ∷ entries) h = (
  ap (λ b. cond b (Some first) (entry_named entries first.name)) (same_self first.name),
  later entries (and_left _ _ h) (found_itself entries (and_right _ _ h)),
)
  where
    other : (entry : DirEntry) → is_before first.name entry.name ≡ true → same_name first.name entry.name ≡ false
    other entry e = by (same_name first.name entry.name) refl
      where
        by : (b : Bool) → same_name first.name entry.name ≡ b → same_name first.name entry.name ≡ false
        by false f = f
        by true f =
            let same = names_equal first.name entry.name f in
            let clash : false ≡ true =
            sym (never_before entry.name) ∙ subst (λ n. is_before n entry.name ≡ true) same e in absurd (cc)

    later : (some : List DirEntry) → list_all (λ other. is_before first.name other.name) some ≡ true →
        Each (λ entry. entry_named entries entry.name ≡ Some entry) some →
        Each (λ entry. entry_named (first ∷ entries) entry.name ≡ Some entry) some
    later [] a k = tt
    later (entry ∷ some) a k = (
      ap (λ b. cond b (Some first) (entry_named entries entry.name)) (other entry (and_left _ _ a)) ∙ k.0,
      later some (and_right _ _ a) k.1,
    )

abbrev There : List Anode → ℕ → Sight → Type 0
There anodes at sight =
    (leads anodes at sight.names ≡ Some sight.anode) × (object_at anodes sight.anode ≡ Some sight.object)

module _ (fileset : Fileset) (w : IsWellFormed fileset) where
  abbrev anodes : List Anode
  anodes = fileset.anodes

  -- an entry of an object that is there
  entry_is : (at : ℕ) (object : Object) (name : List ℕ) → object_at anodes at ≡ Some object →
      entry_named (entries_in object.content) name ≡ entry_at anodes at name
  entry_is at object name e =
      in_entries object.content name ∙ sym (ap (option_and_then (λ (o : Object). entry_in o.content name)) e)

  entries_at : (at : ℕ) (object : Object) → object_at anodes at ≡ Some object →
      Each (λ entry. entry_at anodes at entry.name ≡ Some entry) (entries_in object.content)
  entries_at at object e =
      each_implied (λ entry. entry_named (entries_in object.content) entry.name ≡ Some entry)
      (λ entry. entry_at anodes at entry.name ≡ Some entry)
      (λ entry k. sym (entry_is at object entry.name e) ∙ k) (entries_in object.content)
      (found_itself (entries_in object.content) (entries_rise object.content (w.sound at object e)))

  -- each stands where its names lead
  pub seen_below : (levels at : ℕ) (object : Object) → object_at anodes at ≡ Some object →
      Each (There anodes at) (sights_below levels anodes at object)
  seen_below zero at object e = tt
  seen_below (suc levels) at object e =
      ((refl, e), all (seen_below levels) (entries_in object.content) (entries_at at object e))
    where
      one : ((at : ℕ) (object : Object) → object_at anodes at ≡ Some object →
          Each (There anodes at) (sights_below levels anodes at object)) →
          (entry : DirEntry) → entry_at anodes at entry.name ≡ Some entry → (o : Option Object) →
          object_at anodes entry.anode ≡ o → Each (There anodes at)
          (option_map_or (λ child. map (under entry.name) (sights_below levels anodes entry.anode child)) o [])
      one below entry k None f = tt
      one below entry k (Some child) f =
          each_map (There anodes at) (under entry.name) (sights_below levels anodes entry.anode child)
          (each_implied (There anodes entry.anode) (λ sight. There anodes at (under entry.name sight))
          (λ sight h. (leads_first anodes at entry.name sight.names entry sight.anode k h.0, h.1))
          (sights_below levels anodes entry.anode child) (below entry.anode child f))

      all : ((at : ℕ) (object : Object) → object_at anodes at ≡ Some object →
          Each (There anodes at) (sights_below levels anodes at object)) →
          (entries : List DirEntry) → Each (λ entry. entry_at anodes at entry.name ≡ Some entry) entries →
          Each (There anodes at) (flat_map (below_entry levels anodes) entries)
      all below [] k = tt
      all below (entry ∷ entries) k =
          each_append (There anodes at) (below_entry levels anodes entry) (flat_map (below_entry levels anodes) entries)
          (one below entry k.0 (object_at anodes entry.anode) refl) (all below entries k.1)

  -- how many stand on a path
  abbrev pub on_path : List (List ℕ) → Sight → Bool
  on_path names sight = pointwise same_name sight.names names

  abbrev pub led : ℕ → List (List ℕ) → ℕ
  led at names = if is_some (leads anodes at names) then 1 else 0

  count_cons : {X : Type 0} (p : X → Bool) (x : X) (xs : List X) → count_by p (x ∷ xs) ≡ cond (p x) 1 0 + count_by p xs
  count_cons p x xs = sum_by-cons (λ x. cond (p x) 1 0) x xs

  -- below an entry no path is empty
  entry_none : (levels : ℕ) (name : List ℕ) (to : ℕ) (o : Option Object) →
      count_by (on_path []) (option_map_or (λ child. map (under name) (sights_below levels anodes to child)) o []) ≡ 0
  entry_none levels name to None = refl
  entry_none levels name to (Some child) =
      count_map (on_path []) (under name) (sights_below levels anodes to child)
      ∙ count_none (λ (sight : Sight). false) (λ sight. refl) (sights_below levels anodes to child)

  entry_count : (levels : ℕ) (first name : List ℕ) (names : List (List ℕ)) (to : ℕ) (o : Option Object) →
      count_by (on_path (name ∷ names))
      (option_map_or (λ child. map (under first) (sights_below levels anodes to child)) o [])
      ≡ (if same_name first name
      then count_by (on_path names) (option_map_or (sights_below levels anodes to) o []) else 0)
  entry_count levels first name names to None = by (same_name first name)
    where
      by : (b : Bool) → ◌≡◌ {A = ℕ} 0 (if b then 0 else 0)
      by true = refl
      by false = refl
  entry_count levels first name names to (Some child) =
      count_map (on_path (name ∷ names)) (under first) (sights_below levels anodes to child)
      ∙ by (same_name first name)
    where
      by : (b : Bool) →
          count_by (λ (sight : Sight). b && pointwise same_name sight.names names) (sights_below levels anodes to child)
          ≡ (if b then count_by (on_path names) (sights_below levels anodes to child) else 0)
      by true = refl
      by false = count_none (λ (sight : Sight). false) (λ sight. refl) (sights_below levels anodes to child)

  sum_none : {X : Type 0} (f : X → ℕ) → ((x : X) → f x ≡ 0) → (xs : List X) → sum_by f xs ≡ 0
  sum_none f k [] = refl
  sum_none f k (x ∷ xs) =
      let one = k x in let rest = sum_none f k xs in let both = sum_by-cons f x xs in omega (arith, one, rest, both)

  abbrev Few : ℕ → ℕ → List (List ℕ) → Type 0
  Few levels at names = (to : ℕ) → leads anodes at names ≡ Some to → length names < levels

  pub on_paths : (levels at : ℕ) (object : Object) (names : List (List ℕ)) → object_at anodes at ≡ Some object →
      Few levels at names → count_by (on_path names) (sights_below levels anodes at object) ≡ led at names
  on_paths zero at object names e few = by (leads anodes at names) refl
    where
      by : (o : Option ℕ) → leads anodes at names ≡ o → ◌≡◌ {A = ℕ} 0 (if is_some o then 1 else 0)
      by None k = refl
      by (Some to) k = let none = few to k in absurd (omega (arith, none))
  on_paths (suc levels) at object [] e few =
      count_cons (on_path []) (record { names = []; anode = at; object = object })
      (flat_map (below_entry levels anodes) (entries_in object.content))
      ∙ ap (λ n. 1 + n) (count_flat (on_path []) (below_entry levels anodes) (entries_in object.content)
      ∙ sum_none (λ entry. count_by (on_path []) (below_entry levels anodes entry))
      (λ entry. entry_none levels entry.name entry.anode (object_at anodes entry.anode)) (entries_in object.content))
  on_paths (suc levels) at object (name ∷ names) e few =
      count_cons (on_path (name ∷ names)) (record { names = []; anode = at; object = object })
      (flat_map (below_entry levels anodes) (entries_in object.content))
      ∙ zero_add (count_by (on_path (name ∷ names)) (flat_map (below_entry levels anodes) (entries_in object.content)))
      ∙ count_flat (on_path (name ∷ names)) (below_entry levels anodes) (entries_in object.content)
      ∙ sum_same (λ entry. count_by (on_path (name ∷ names)) (below_entry levels anodes entry))
      (λ entry. if same_name entry.name name then behind entry else 0)
      (λ entry. entry_count levels entry.name name names entry.anode (object_at anodes entry.anode))
      (entries_in object.content)
      ∙ sum_of_one (λ entry. same_name entry.name name) behind (entries_in object.content)
      (two_implied (λ a b. is_before a.name b.name) (λ a b. not (same_name a.name name && same_name b.name name))
      (before_other name) (entries_in object.content)
      (rise_two (entries_in object.content) (entries_rise object.content (w.sound at object e))))
      ∙ ap (λ o. option_map_or behind o 0) (entry_is at object name e)
      ∙ by (λ to child h k. on_paths levels to child names h k) (entry_at anodes at name) refl
    where
      zero_add : (n : ℕ) → 0 + n ≡ n
      zero_add n = omega arith

      behind : DirEntry → ℕ
      behind entry = count_by (on_path names)
          (option_map_or (sights_below levels anodes entry.anode) (object_at anodes entry.anode) [])

      by : ((to : ℕ) (child : Object) → object_at anodes to ≡ Some child → Few levels to names →
          count_by (on_path names) (sights_below levels anodes to child) ≡ led to names) →
          (o : Option DirEntry) → entry_at anodes at name ≡ o → option_map_or behind o 0 ≡ led at (name ∷ names)
      by below None k =
          sym (ap (λ o. if is_some (option_and_then (λ (entry : DirEntry). leads anodes entry.anode names) o)
          then 1 else 0) k)
      by below (Some entry) k =
          let (child, there) = some_of (object_at anodes entry.anode) (w.named at name entry k).0 in
          ap (λ o. count_by (on_path names) (option_map_or (sights_below levels anodes entry.anode) o [])) there
          ∙ below entry.anode child there (λ to h.
          (let more = few to (leads_first anodes at name names entry to k h) in omega (arith, more)))
          ∙ sym (ap (λ o. if is_some (option_and_then (λ (entry : DirEntry). leads anodes entry.anode names) o)
          then 1 else 0) k)
