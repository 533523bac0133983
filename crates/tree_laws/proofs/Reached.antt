-- In a fileset each object is reached by one path, which has fewer names than there are anodes.
use Rattle.std.proofs.Common.{◌≡◌, ◌≢◌, ◌<◌, ◌≤◌, ℕ, suc, ◌+◌, ◌-◌, eqb, Bool, true, false, ◌||◌, List, [], ◌∷◌, length, Option, Some, None, unwrap_or, refl, sym, ap, ◌∙◌, subst, inl, inr, rules, arith}
use Rattle.std.specs.Prelude.{slice_get}
use Rattle.std.specs.List.{IsDistinct, AllByRecursion}
use Rattle.std.specs.List.{list_any}
use Rattle.std.specs.Option.{option_map, option_map_or, option_and_then}
use Rattle.std.proofs.lemmas.Bool.Decides.{eqb_tells}
use Rattle.std.proofs.lemmas.Map.Steps.{length-le_from_distinct_below}
use Rattle.std.proofs.lemmas.Option.{slice_get_within}
use Rattle.tree_calls.specs.declared.part.DirEntry.{DirEntry}
use Rattle.tree_objects.specs.declared.content.Anode.{Anode}
use Rattle.tree_objects.specs.declared.content.Object.{Object}
use Rattle.tree_objects.specs.Objects.{is_dir}
use Rattle.tree_filesets.specs.declared.fileset.Fileset.{Fileset}
use Rattle.tree_filesets.specs.Walk.{object_at}
use Rattle.tree_filesets.specs.WellFormed.{entry_at, leads, IsWellFormed}
use Rattle.tree_filesets.proofs.Found.{some_of}
use Rattle.tree_filesets.proofs.Leads.{some_then}
use Rattle.tree_filesets.proofs.Observations.{object_from, object_not_zero}

-- where names lead from the root, told from the last name on
abbrev came : List Anode → List (List ℕ) → Option ℕ
came anodes [] = Some 1
came anodes (name ∷ up) = option_and_then (λ at. option_map (λ entry. entry.anode) (entry_at anodes at name)) (came anodes up)

-- the names in the other order, before others
abbrev onto : List (List ℕ) → List (List ℕ) → List (List ℕ)
onto [] up = up
onto (name ∷ names) up = onto names (name ∷ up)

onto_back : (names up : List (List ℕ)) → onto (onto names up) [] ≡ onto up names
onto_back [] up = refl
onto_back (name ∷ names) up = onto_back names (name ∷ up)

length_onto : (names up : List (List ℕ)) → length (onto names up) ≡ length names + length up
length_onto [] up = omega arith
length_onto (name ∷ names) up = let rest = length_onto names (name ∷ up) in omega (arith, rest)

leads_came : (anodes : List Anode) (names up : List (List ℕ)) (at to : ℕ) → came anodes up ≡ Some at → leads anodes at names ≡ Some to → came anodes (onto names up) ≡ Some to
leads_came anodes [] up at to h k = h ∙ k
leads_came anodes (name ∷ names) up at to h k =
    let (entry, e, rest) = some_then (entry_at anodes at name) (λ e. leads anodes e.anode names) to k in
    leads_came anodes names (name ∷ up) entry.anode to
    (ap (option_and_then (λ at. option_map (λ entry. entry.anode) (entry_at anodes at name))) h ∙ ap (option_map (λ entry. entry.anode)) e) rest

-- the last step of a way
pub record LastStep (anodes : List Anode) (name : List ℕ) (up : List (List ℕ)) (to : ℕ) : Type 0 where
  pub at : ℕ
  pub entry : DirEntry
  pub way : came anodes up ≡ Some at
  pub there : entry_at anodes at name ≡ Some entry
  pub end : entry.anode ≡ to

last_step : (anodes : List Anode) (name : List ℕ) (up : List (List ℕ)) (to : ℕ) → came anodes (name ∷ up) ≡ Some to → LastStep anodes name up to
last_step anodes name up to h =
    let (at, way, k) = some_then (came anodes up) (λ at. option_map (λ entry. entry.anode) (entry_at anodes at name)) to h in
    by_entry at way (entry_at anodes at name) refl k
  where
    by_entry : (at : ℕ) → came anodes up ≡ Some at → (o : Option DirEntry) → entry_at anodes at name ≡ o → option_map (λ entry. entry.anode) o ≡ Some to → LastStep anodes name up to
    by_entry at way None e k = absurd (search (rules, k))
    by_entry at way (Some entry) e k = record { at = at; entry = entry; way = way; there = e; end = same entry.anode to k }
      where
        same : (a b : ℕ) → Some a ≡ Some b → a ≡ b
        same a b h = cc

module _ (fileset : Fileset) (w : IsWellFormed fileset) where
  -- one way leads to an anode
  came_once : (p q : List (List ℕ)) (a : ℕ) → came fileset.anodes p ≡ Some a → came fileset.anodes q ≡ Some a → p ≡ q
  came_once [] [] a h k = refl
  came_once [] (n ∷ q) a h k =
      let last = last_step fileset.anodes n q a k in let one : 1 ≡ a = some_is 1 a h in
      absurd (w.rootless last.at n last.entry last.there (last.end ∙ sym one))
    where
      some_is : (a b : ℕ) → Some a ≡ Some b → a ≡ b
      some_is a b h = cc
  came_once (m ∷ p) [] a h k =
      let last = last_step fileset.anodes m p a h in let one : 1 ≡ a = some_is 1 a k in
      absurd (w.rootless last.at m last.entry last.there (last.end ∙ sym one))
    where
      some_is : (a b : ℕ) → Some a ≡ Some b → a ≡ b
      some_is a b h = cc
  came_once (m ∷ p) (n ∷ q) a h k =
      let one = last_step fileset.anodes m p a h in let other = last_step fileset.anodes n q a k in
      let (at, name) = w.once one.at other.at m n one.entry other.entry one.there other.there (one.end ∙ sym other.end) in
      let up : p ≡ q = came_once p q one.at one.way (other.way ∙ ap Some (sym at)) in
      ap (λ x. x ∷ p) name ∙ ap (λ xs. n ∷ xs) up

  pub leads_once : (p q : List (List ℕ)) (a : ℕ) → leads fileset.anodes 1 p ≡ Some a → leads fileset.anodes 1 q ≡ Some a → p ≡ q
  leads_once p q a h k =
      sym (onto_back p []) ∙ ap (λ r. onto r []) (came_once (onto p []) (onto q []) a (leads_came fileset.anodes p [] 1 a refl h) (leads_came fileset.anodes q [] 1 a refl k)) ∙ onto_back q []

  -- an object is there
  object_there : (p : List (List ℕ)) (a : ℕ) → came fileset.anodes p ≡ Some a → (object : Object) × (object_at fileset.anodes a ≡ Some object)
  object_there [] a h =
      let P : ℕ → Type 0 = λ n. (object : Object) × (object_at fileset.anodes n ≡ Some object) in
      subst P (some_is 1 a h) (dir_there (object_at fileset.anodes 1) w.root)
    where
      some_is : (a b : ℕ) → Some a ≡ Some b → a ≡ b
      some_is a b h = cc

      dir_there : (o : Option Object) → option_map_or (λ object. is_dir object.content) o false ≡ true → (object : Object) × (o ≡ Some object)
      dir_there None h = absurd (search (rules, h))
      dir_there (Some object) h = (object, refl)
  object_there (n ∷ up) a h =
      let last = last_step fileset.anodes n up a h in
      let P : ℕ → Type 0 = λ n. (object : Object) × (object_at fileset.anodes n ≡ Some object) in
      subst P last.end (some_of (object_at fileset.anodes last.entry.anode) (w.named last.at n last.entry last.there).0)

  pub led_there : (p : List (List ℕ)) (a : ℕ) → leads fileset.anodes 1 p ≡ Some a → (object : Object) × (object_at fileset.anodes a ≡ Some object)
  led_there p a h = object_there (onto p []) a (leads_came fileset.anodes p [] 1 a refl h)

  within : (a : ℕ) (object : Object) → object_at fileset.anodes a ≡ Some object → (1 ≤ a) × (a ≤ length fileset.anodes)
  within a object h =
      let some = object_not_zero fileset.anodes a object h in
      let (anode, there, _) = some_then (slice_get fileset.anodes (a - 1)) (λ a. a.object) object (sym (object_from fileset.anodes a some) ∙ h) in
      let below = slice_get_within fileset.anodes (a - 1) anode there in
      (omega (arith, some), omega (arith, some, below))

  came_within : (p : List (List ℕ)) (a : ℕ) → came fileset.anodes p ≡ Some a → (1 ≤ a) × (a ≤ length fileset.anodes)
  came_within p a h = let (object, there) = object_there p a h in within a object there

  -- the anodes on a way, its ends counted
  abbrev visited : List (List ℕ) → List ℕ
  visited [] = 1 ∷ []
  visited (name ∷ up) = unwrap_or (came fileset.anodes (name ∷ up)) 0 ∷ visited up

  length_visited : (p : List (List ℕ)) → length (visited p) ≡ length p + 1
  length_visited [] = omega arith
  length_visited (name ∷ up) = let rest = length_visited up in omega (arith, rest)

  not_same : (a b : ℕ) → a ≢ b → eqb a b ≡ false
  not_same a b h = elim (eqb_tells a b) as (λ _. eqb a b ≡ false) [ inl (e, k) ↦ absurd (h k) | inr (e, k) ↦ e ]

  number_there : (name : List ℕ) (up : List (List ℕ)) (a : ℕ) → came fileset.anodes (name ∷ up) ≡ Some a → unwrap_or (came fileset.anodes (name ∷ up)) 0 ≡ a
  number_there name up a h = ap (λ o. unwrap_or o 0) h

  -- a number that none of them has
  all_apart : (x : ℕ) (p : List (List ℕ)) (a : ℕ) → came fileset.anodes p ≡ Some a → ((q : List (List ℕ)) (b : ℕ) → length q ≤ length p → came fileset.anodes q ≡ Some b → x ≢ b) →
      AllByRecursion (λ y. eqb x y ≡ false) (visited p)
  all_apart x [] a h other = (not_same x 1 (other [] 1 (omega arith) refl), tt)
  all_apart x (name ∷ up) a h other =
      let last = last_step fileset.anodes name up a h in (
        ap (λ n. eqb x n) (number_there name up a h) ∙ not_same x a (other (name ∷ up) a (omega arith) h),
        all_apart x up last.at last.way (λ q b short e. other q b (omega (arith, short)) e),
      )

  all_distinct : (p : List (List ℕ)) (a : ℕ) → came fileset.anodes p ≡ Some a → IsDistinct eqb (visited p)
  unfolding IsDistinct
  all_distinct [] a h = (tt, tt)
  all_distinct (name ∷ up) a h =
      let last = last_step fileset.anodes name up a h in (
        subst (λ x. AllByRecursion (λ y. eqb x y ≡ false) (visited up)) (sym (number_there name up a h))
            (all_apart a up last.at last.way (λ q b short e same.
            let longer : name ∷ up ≡ q = came_once (name ∷ up) q a h (e ∙ ap Some (sym same)) in
            let counts : suc (length up) ≡ length q = ap length longer in omega (arith, short, counts))),
        all_distinct up last.at last.way,
      )

  zero_apart : (p : List (List ℕ)) (a : ℕ) → came fileset.anodes p ≡ Some a → IsDistinct eqb (0 ∷ visited p)
  unfolding IsDistinct
  zero_apart p a h = (all_apart 0 p a h (λ q b short e same. let low = (came_within q b e).0 in omega (arith, low, same)), all_distinct p a h)

  one_of : (q x n : ℕ) (rest : Bool) → x ≤ n → (eqb q x || rest) ≡ true → (rest ≡ true → q ≤ n) → q ≤ n
  one_of q x n rest low h later = elim (eqb_tells q x) as (λ _. q ≤ n)
      [ inl (e, same) ↦ omega (arith, same, low) | inr (e, other) ↦ later (ap (λ t. t || rest) (sym e) ∙ h) ]

  visited_within : (q : ℕ) (p : List (List ℕ)) (a : ℕ) → came fileset.anodes p ≡ Some a → list_any (eqb q) (visited p) ≡ true → q ≤ length fileset.anodes
  visited_within q [] a h k = one_of q 1 (length fileset.anodes) false (came_within [] 1 refl).1 k (λ none. absurd (search (rules, none)))
  visited_within q (name ∷ up) a h k =
      let last = last_step fileset.anodes name up a h in
      one_of q (unwrap_or (came fileset.anodes (name ∷ up)) 0) (length fileset.anodes) (list_any (eqb q) (visited up))
      (subst (λ n. n ≤ length fileset.anodes) (sym (number_there name up a h)) (came_within (name ∷ up) a h).1) k
      (λ rest. visited_within q up last.at last.way rest)

  pub depth : (p : List (List ℕ)) (a : ℕ) → leads fileset.anodes 1 p ≡ Some a → length p < length fileset.anodes
  depth p a h =
      let way = leads_came fileset.anodes p [] 1 a refl h in let up = onto p [] in
      let few = length-le_from_distinct_below (0 ∷ visited up) (suc (length fileset.anodes)) (zero_apart up a way) (λ q k. below q up a way k) in
      let long = length_visited up in let same = length_onto p [] in omega (arith, few, long, same)
    where
      below : (q : ℕ) (up : List (List ℕ)) (a : ℕ) → came fileset.anodes up ≡ Some a → (eqb q 0 || list_any (eqb q) (visited up)) ≡ true → q < suc (length fileset.anodes)
      below q up a way k = elim (eqb_tells q 0) as (λ _. q < suc (length fileset.anodes)) [
        | inl (e, z) ↦ omega (arith, z)
        | inr (e, z) ↦ let inside = visited_within q up a way (ap (λ t. t || list_any (eqb q) (visited up)) (sym e) ∙ k) in omega (arith, inside)
      ]
