-- Each object of a well formed fileset is within the limits of what is told.
use Rattle.std.proofs.Common.{◌≡◌, ◌≢◌, ◌≤◌, nat_le, ℕ, zero, suc, ◌+◌, ◌-◌, ◌==◌, Bool, true, false, not, cond, List, [], ◌∷◌, ◌++◌, length, map, filter, Option, Some, None, inl, inr, refl, sym, ap, ◌∙◌, subst, append_assoc, arith}
use Rattle.std.specs.Prelude.{if◌then◌else◌, is_some, option_and_then, slice_get}
use Rattle.std.specs.List.{list_all}
use Rattle.std.specs.Option.{option_map_or}
use Rattle.std.specs.Ordering.{is_eq, is_lt, nat_cmp}
use Rattle.std.specs.declared.cmp.Ordering.{Ordering}
use Rattle.std.specs.declared.cmp.Ordering.TheVariants.{Less, Equal, Greater}
use Rattle.std.specs.Cmp.Lexicographic.{slice_cmp}
use Rattle.std.proofs.lemmas.Bool.Decides.{eqb_tells}
use Rattle.std.proofs.lemmas.Grind.{common_steps}
use Rattle.std.proofs.lemmas.Map.Text.{is_eq-slice_cmp}
use Rattle.base_types.specs.Name.{is_before, same_name}
use Rattle.base_types.specs.declared.access.AccessEntry.{AccessEntry}
use Rattle.base_types.specs.declared.limits.TheConstants.{OBJECTS_MAX}
use Rattle.tree_calls.specs.declared.part.DirEntry.{DirEntry}
use Rattle.tree_objects.specs.Entries.{entry_named}
use Rattle.tree_objects.specs.Sound.{is_sound, names_rise}
use Rattle.tree_objects.specs.declared.content.Anode.{Anode}
use Rattle.tree_objects.specs.declared.content.Content.{Content}
use Rattle.tree_objects.specs.declared.content.Content.TheVariants.{Dir, File}
use Rattle.tree_objects.specs.declared.content.Object.{Object}
use Rattle.tree_objects.proofs.Observed.{and_left, and_right}
use Rattle.tree_objects.proofs.Rising.{and_both}
use Rattle.tree_filesets.specs.Walk.{object_at}
use Rattle.tree_filesets.specs.WellFormed.{IsWellFormed, entry_at, entry_in}
use Rattle.tree_filesets.specs.declared.fileset.Fileset.{Fileset}
use Rattle.tree_filesets.proofs.Names.{same_self}
use Rattle.message_types.specs.Soundness.{Each}
use Rattle.store_acts.specs.Parts.{is_tellable}
use Rattle.store_laws.specs.Moves.{are_tellable}

-- numbers that differ, none of which is above a limit, are no more than that
abbrev IsOnce : List ℕ → Type 0
IsOnce [] = Unit {0}
IsOnce (x ∷ xs) = Each (λ y. y ≢ x) xs × IsOnce xs

abbrev without : ℕ → List ℕ → List ℕ
without n xs = filter (λ x. not (x == n)) xs

each_without : (P : ℕ → Type 0) (n : ℕ) (xs : List ℕ) → Each P xs → Each P (without n xs)
each_without P n [] h = tt
each_without P n (x ∷ xs) h = by (x == n) (each_without P n xs h.1)
  where
    by : (b : Bool) → Each P (without n xs) → Each P (cond (not b) (x ∷ without n xs) (without n xs))
    by true rest = rest
    by false rest = (h.0, rest)

once_without : (n : ℕ) (xs : List ℕ) → IsOnce xs → IsOnce (without n xs)
once_without n [] h = tt
once_without n (x ∷ xs) h = by (x == n) (once_without n xs h.1)
  where
    by : (b : Bool) → IsOnce (without n xs) → IsOnce (cond (not b) (x ∷ without n xs) (without n xs))
    by true rest = rest
    by false rest = (each_without (λ y. y ≢ x) n xs h.0, rest)

same_without : (n : ℕ) (xs : List ℕ) → Each (λ y. y ≢ n) xs → without n xs ≡ xs
same_without n [] h = refl
same_without n (x ∷ xs) h =
    elim (eqb_tells x n) as (λ _. cond (not (x == n)) (x ∷ without n xs) (without n xs) ≡ x ∷ xs) [
      | inl (e, k) ↦ absurd (h.0 k)
      | inr (e, k) ↦
          ap (λ b. cond (not b) (x ∷ without n xs) (without n xs)) e ∙ ap (λ ys. x ∷ ys) (same_without n xs h.1)
    ]

few_without : (n : ℕ) (xs : List ℕ) → IsOnce xs → length xs ≤ length (without n xs) + 1
few_without n [] h = omega arith
few_without n (x ∷ xs) h =
    elim (eqb_tells x n) as (λ _. suc (length xs) ≤ length (cond (not (x == n)) (x ∷ without n xs) (without n xs)) + 1) [
      | inl (e, k) ↦
          (let same = ap length (same_without n xs (subst (λ m. Each (λ y. y ≢ m) xs) k h.0)) in
          let gone = ap (λ b. length (cond (not b) (x ∷ without n xs) (without n xs))) e in
          omega (arith, same, gone))
      | inr (e, k) ↦
          (let rest = few_without n xs h.1 in
          let stays = ap (λ b. length (cond (not b) (x ∷ without n xs) (without n xs))) e in
          omega (arith, rest, stays))
    ]

less_without : (n : ℕ) (xs : List ℕ) → Each (λ x. (1 ≤ x) × (x ≤ suc n)) xs →
    Each (λ x. (1 ≤ x) × (x ≤ n)) (without (suc n) xs)
less_without n [] h = tt
less_without n (x ∷ xs) h =
    elim (eqb_tells x (suc n)) as (λ _. Each (λ x. (1 ≤ x) × (x ≤ n))
    (cond (not (x == suc n)) (x ∷ without (suc n) xs) (without (suc n) xs))) [
      | inl (e, k) ↦
          subst (λ b. Each (λ x. (1 ≤ x) × (x ≤ n)) (cond (not b) (x ∷ without (suc n) xs) (without (suc n) xs))) (sym e)
          (less_without n xs h.1)
      | inr (e, k) ↦
          (let low = h.0.0 in let high = h.0.1 in
          subst (λ b. Each (λ x. (1 ≤ x) × (x ≤ n)) (cond (not b) (x ∷ without (suc n) xs) (without (suc n) xs))) (sym e)
          ((low, omega (arith, high, k)), less_without n xs h.1))
    ]

few_below : (n : ℕ) (xs : List ℕ) → IsOnce xs → Each (λ x. (1 ≤ x) × (x ≤ n)) xs → length xs ≤ n
few_below zero [] h k = omega arith
few_below zero (x ∷ xs) h k = let low = k.0.0 in let high = k.0.1 in absurd (omega (arith, low, high))
few_below (suc n) xs h k =
    let rest = few_below n (without (suc n) xs) (once_without (suc n) xs h) (less_without n xs k) in
    let few = few_without (suc n) xs h in
    omega (arith, rest, few)

-- names that rise are found
less_other : (o : Ordering) → is_lt o ≡ true → is_eq o ≡ false
less_other Less e = refl
less_other Equal e = absurd (cc)
less_other Greater e = absurd (cc)

before_other : (a b : List ℕ) → is_before a b ≡ true → same_name a b ≡ false
before_other a b e = sym (is_eq-slice_cmp a b) ∙ less_other (slice_cmp nat_cmp a b) e

abbrev IsFound : List DirEntry → DirEntry → Type 0
IsFound entries entry = entry_named entries entry.name ≡ Some entry

found_behind : (first : DirEntry) (entries some : List DirEntry) →
    list_all (λ other. is_before first.name other.name) some ≡ true → Each (IsFound entries) some →
    Each (IsFound (first ∷ entries)) some
found_behind first entries [] b f = tt
found_behind first entries (entry ∷ some) b f = (
  ap (λ t. cond t (Some first) (entry_named entries entry.name))
      (before_other first.name entry.name (and_left _ _ b)) ∙ f.0,
  found_behind first entries some (and_right _ _ b) f.1,
)

all_found : (entries : List DirEntry) → names_rise entries ≡ true → Each (IsFound entries) entries
all_found [] h = tt
all_found (entry ∷ entries) h = (
  ap (λ t. cond t (Some entry) (entry_named entries entry.name)) (same_self entry.name),
  found_behind entry entries entries (and_left _ _ h) (all_found entries (and_right _ _ h)),
)

-- an object is in the list
object_inside : (anodes : List Anode) (at : ℕ) → is_some (object_at anodes at) ≡ true → (1 ≤ at) × (at ≤ length anodes)
object_inside anodes at e =
    elim (eqb_tells at 0) as (λ _. (1 ≤ at) × (at ≤ length anodes)) [
      | inl (z, k) ↦
          absurd (let wrong : false ≡ true =
          sym (ap (λ b. is_some (if b then None else option_and_then (λ (a : Anode). a.object) (slice_get anodes (at - 1))))
          z) ∙ e in cc)
      | inr (z, k) ↦
          (let low = got anodes (at - 1)
          (sym (ap (λ b. is_some (if b then None else option_and_then (λ (a : Anode). a.object) (slice_get anodes (at - 1))))
          z) ∙ e) in
          (omega (arith, k), omega (arith, k, low)))
    ]
  where
    got : (anodes : List Anode) (i : ℕ) →
        is_some (option_and_then (λ (a : Anode). a.object) (slice_get anodes i)) ≡ true → suc i ≤ length anodes
    got [] i e = absurd (cc)
    got (anode ∷ anodes) zero e = omega arith
    got (anode ∷ anodes) (suc i) e = let rest = got anodes i e in omega (arith, rest)

-- the entries of a directory
few_entries : (fileset : Fileset) (at : ℕ) (object : Object) (entries : List DirEntry) (lists : List (List AccessEntry))
    → IsWellFormed fileset → object_at fileset.anodes at ≡ Some object → object.content ≡ Dir entries lists →
    names_rise entries ≡ true → length entries ≤ OBJECTS_MAX
few_entries fileset at object entries lists w there is rise =
    let few = few_below fileset.objects (map (λ (e : DirEntry). e.anode) entries) (once entries rise found)
    (within entries found) in
    let limit = w.limit in let same = long entries in
    omega (arith, few, limit, same)
  where
    long : (xs : List DirEntry) → length (map (λ (e : DirEntry). e.anode) xs) ≡ length xs
    long [] = refl
    long (x ∷ xs) = ap suc (long xs)

    Named : DirEntry → Type 0
    Named entry = entry_at fileset.anodes at entry.name ≡ Some entry

    named : (xs : List DirEntry) → Each (IsFound entries) xs → Each Named xs
    named [] h = tt
    named (x ∷ xs) h = (
      ap (option_and_then (λ (o : Object). entry_in o.content x.name)) there
          ∙ ap (λ c. entry_in c x.name) is ∙ h.0,
      named xs h.1,
    )

    found : Each Named entries
    found = named entries (all_found entries rise)

    apart : (x : DirEntry) (xs : List DirEntry) → Named x → Each Named xs →
        list_all (λ other. is_before x.name other.name) xs ≡ true →
        Each (λ n. n ≢ x.anode) (map (λ (e : DirEntry). e.anode) xs)
    apart x [] h k b = tt
    apart x (y ∷ ys) h k b = (
      (λ e.
          let (place, same) = w.once at at y.name x.name y x k.0 h e in
          let wrong : true ≡ false =
          sym (same_self x.name) ∙ ap (same_name x.name) (sym same) ∙ before_other x.name y.name (and_left _ _ b) in
          absurd (cc)),
      apart x ys h k.1 (and_right _ _ b),
    )

    once : (xs : List DirEntry) → names_rise xs ≡ true → Each Named xs → IsOnce (map (λ (e : DirEntry). e.anode) xs)
    once [] r h = tt
    once (x ∷ xs) r h = (apart x xs h.0 h.1 (and_left _ _ r), once xs (and_right _ _ r) h.1)

    within : (xs : List DirEntry) → Each Named xs →
        Each (λ n. (1 ≤ n) × (n ≤ fileset.objects)) (map (λ (e : DirEntry). e.anode) xs)
    within [] h = tt
    within (x ∷ xs) h =
        let used = (w.named at x.name x h.0).0 in
        let (low, high) = object_inside fileset.anodes x.anode used in
        let count = w.count in
        ((low, omega (arith, high, count)), within xs h.1)

content_tellable : (fileset : Fileset) (at : ℕ) (object : Object) (content : Content) → IsWellFormed fileset →
    object_at fileset.anodes at ≡ Some object → object.content ≡ content → is_sound content ≡ true →
    is_tellable content ≡ true
content_tellable fileset at object (Dir entries lists) w there is sound =
    let rise = and_left (names_rise entries) _ sound in
    let three = and_right (names_rise entries) _ sound in
    let few = few_entries fileset at object entries lists w there is rise in
    let low : nat_le (length entries) OBJECTS_MAX ≡ true = grind (arith, common_steps, few) in
    and_both _ _ (and_both _ _ low three) rise
content_tellable fileset at object (File list kept unsaved len) w there is sound =
    and_left _ _ (and_left _ _ (and_left _ _ (and_left _ _ sound)))

object_there : (front : List Anode) (anode : Anode) (rest : List Anode) →
    object_at (front ++ anode ∷ rest) (suc (length front)) ≡ anode.object
object_there front anode rest =
    let last : suc (length front) - 1 ≡ length front = omega arith in
    let some : (suc (length front) == 0) ≡ false = elim (eqb_tells (suc (length front)) 0) as
    (λ _. (suc (length front) == 0) ≡ false) [ inl (z, k) ↦ absurd (omega (arith, k)) | inr (z, k) ↦ z ] in
    ap (λ b. if b then None else option_and_then (λ (a : Anode). a.object)
    (slice_get (front ++ anode ∷ rest) (suc (length front) - 1))) some
    ∙ ap (λ n. option_and_then (λ (a : Anode). a.object) (slice_get (front ++ anode ∷ rest) n)) last
    ∙ ap (option_and_then (λ (a : Anode). a.object)) (there front)
  where
    there : (front : List Anode) → slice_get (front ++ anode ∷ rest) (length front) ≡ Some anode
    there [] = refl
    there (other ∷ front) = there front

anodes_tellable : (fileset : Fileset) → IsWellFormed fileset → (front rest : List Anode) →
    fileset.anodes ≡ front ++ rest → are_tellable rest ≡ true
anodes_tellable fileset w front [] e = refl
anodes_tellable fileset w front (anode ∷ rest) e =
    and_both _ _ (by anode.object refl)
    (anodes_tellable fileset w (front ++ anode ∷ []) rest (e ∙ sym (append_assoc front (anode ∷ []) rest)))
  where
    at : ℕ
    at = suc (length front)

    there : object_at fileset.anodes at ≡ anode.object
    there = ap (λ xs. object_at xs at) e ∙ object_there front anode rest

    by : (o : Option Object) → anode.object ≡ o → option_map_or (λ object. is_tellable object.content) o true ≡ true
    by None is = refl
    by (Some object) is =
        content_tellable fileset at object object.content w (there ∙ is) refl (w.sound at object (there ∙ is))

pub tellable_if_formed : (fileset : Fileset) → IsWellFormed fileset → are_tellable fileset.anodes ≡ true
tellable_if_formed fileset w = anodes_tellable fileset w [] fileset.anodes refl
