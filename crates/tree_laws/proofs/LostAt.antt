-- What a host loses at a server: over all filesets there.
use Rattle.std.proofs.Common.{◌≡◌, ◌<◌, ℕ, zero, suc, ◌+◌, ◌==◌, nat_lt, Bool, true, false, ◌&&◌, ◌||◌, not, cond, List, [], ◌∷◌, map, insert, length, Option, Some, None, is_some, refl, sym, ap, ◌∙◌, subst, rules, arith}
use Rattle.std.specs.Prelude.{slice_get, if◌then◌else◌}
use Rattle.std.specs.Cmp.Lexicographic.{pointwise}
use Rattle.std.specs.List.{find, list_any, list_all, prefix_len, sum_by, count_by}
use Rattle.std.specs.Option.{option_map, option_map_or, option_and_then}
use Rattle.std.proofs.lemmas.Grind.{common_steps}
use Rattle.std.proofs.lemmas.List.Sums.{sum_by-cons}
use Rattle.base_types.specs.Ids.{same_fid}
use Rattle.base_types.specs.Name.{same_name, is_before}
use Rattle.base_types.specs.Spans.{has_byte}
use Rattle.base_types.specs.declared.ids.HostId.{HostId}
use Rattle.base_types.specs.declared.ids.ServerId.{ServerId}
use Rattle.base_types.specs.declared.ids.FilesetId.{FilesetId}
use Rattle.base_types.specs.declared.ids.Fid.{Fid}
use Rattle.tree_calls.specs.declared.entry.Loss.{Loss}
use Rattle.tree_objects.specs.declared.content.Object.{Object}
use Rattle.tree_objects.specs.Objects.{is_dir}
use Rattle.tree_objects.proofs.Observed.{and_left, and_right}
use Rattle.tree_objects.proofs.Rising.{and_both, all_implied, before_other, before_trans}
use Rattle.tree_filesets.specs.declared.fileset.Fileset.{Fileset}
use Rattle.tree_filesets.specs.Walk.{object_at, unique_at}
use Rattle.tree_filesets.specs.WellFormed.{leads, IsWellFormed as IsWellFormedFileset}
use Rattle.tree_filesets.proofs.Names.{names_equal, same_self}
use Rattle.tree_answers.specs.declared.tree.Tree.{Tree}
use Rattle.tree_answers.specs.Finding.{is_named, has_id}
use Rattle.tree_answers.specs.Losses.{is_at, losses_below, fileset_losses, is_before_at, name_place, places_among, places_by_name, losses_of}
use Rattle.tree_answers.specs.WellFormed.{names_differ, IsWellFormed}
use Rattle.tree_answers.proofs.Inserted.{all_insert, same_name_sym, position_or_end}
use Rattle.tree_answers.proofs.Places.{find_all, found_by_id, get_all, find_at_place, found_passes}
use Rattle.tree_laws.specs.Parts.{cell_found, cell_in, cell_at, object_in}
use Rattle.tree_laws.specs.Parts.Part.{ByteAt, Size}
use Rattle.tree_laws.specs.Fates.{is_of, own_size}
use Rattle.tree_laws.specs.Labels.{each_two}
use Rattle.tree_laws.specs.Losses.{use_of, led_to, is_of_file, is_of_byte, is_of_length, is_of_either, is_loss_of, loss_before, AllLossesAreExact}
use Rattle.tree_laws.proofs.Agreeing.{order_insert, eq_sym}
use Rattle.tree_laws.proofs.Counts.{sum_same, count_same, count_none, count_flat, sum_insert, sum_of_one, all_map, all_true, all_flat, two_flat}
use Rattle.tree_laws.proofs.Lost.{prefixed, Test, on_path, own_count, byte_count, length_count, rel, below_prefixed, entry_counted, counted, below_ordered, across_names, ordered, told}
use Rattle.tree_laws.proofs.Reached.{leads_once, led_there, depth}
use Rattle.tree_laws.proofs.Steps.{no_file, number_is, same_number, formed_found, fid_is}
use Rattle.tree_laws.proofs.TreeFates.{at_found, formed_at}

-- two tests that imply each other
both_ways : (s t : Bool) → (s ≡ true → t ≡ true) → (t ≡ true → s ≡ true) → s ≡ t
both_ways true t f g = sym (f refl)
both_ways false true f g = g refl
both_ways false false f g = refl

none_any : {X : Type 0} (p : X → Bool) (xs : List X) → not (list_any p xs) ≡ true → list_all (λ x. not (p x)) xs ≡ true
none_any p [] h = refl
none_any p (x ∷ xs) h = and_both _ _ (first (p x) (list_any p xs) h) (none_any p xs (second (p x) (list_any p xs) h))
  where
    first : (a b : Bool) → not (a || b) ≡ true → not a ≡ true
    first true b h = h
    first false b h = refl

    second : (a b : Bool) → not (a || b) ≡ true → not b ≡ true
    second true b h = no_file h
    second false b h = h

-- paths
paths_self : (path : List (List ℕ)) → pointwise same_name path path ≡ true
paths_self [] = refl
paths_self (name ∷ names) = and_both _ _ (same_self name) (paths_self names)

paths_equal : (a b : List (List ℕ)) → pointwise same_name a b ≡ true → a ≡ b
paths_equal [] [] h = refl
paths_equal [] (y ∷ ys) h = no_file h
paths_equal (x ∷ xs) [] h = no_file h
paths_equal (x ∷ xs) (y ∷ ys) h = ap (λ n. n ∷ xs) (names_equal x y (and_left _ _ h)) ∙ ap (λ ns. y ∷ ns) (paths_equal xs ys (and_right _ _ h))

-- one fileset of a name
one_named : (server : ServerId) (name : List ℕ) (a b : Fileset) → not (is_named a.server a.name b) ≡ true → not (is_named server name a && is_named server name b) ≡ true
one_named server name a b h = by_tests (is_named server name a) (is_named server name b) refl refl
  where
    by_tests : (s t : Bool) → is_named server name a ≡ s → is_named server name b ≡ t → not (s && t) ≡ true
    by_tests true true e f =
        let i = number_is a.server.0 server.0 (and_left _ _ e) in let j = number_is b.server.0 server.0 (and_left _ _ f) in
        let m = names_equal a.name name (and_right _ _ e) in let n = names_equal b.name name (and_right _ _ f) in
        let servers : (b.server.0 == a.server.0) ≡ true = ap (λ n. n == a.server.0) (j ∙ sym i) ∙ same_number a.server.0 in
        let names : same_name b.name a.name ≡ true = subst (λ x. same_name x a.name ≡ true) (sym (n ∙ sym m)) (same_self a.name) in
        let both : is_named a.server a.name b ≡ true = and_both _ _ servers names in
        no_file (ap not (sym both) ∙ h)
    by_tests true false e f = refl
    by_tests false t e f = refl

named_two : (server : ServerId) (name : List ℕ) (filesets : List Fileset) → names_differ filesets ≡ true → each_two (λ a b. not (is_named server name a && is_named server name b)) filesets ≡ true
named_two server name [] h = refl
named_two server name (x ∷ xs) h =
    and_both _ _ (all_implied (λ y. not (is_named x.server x.name y)) (λ y. not (is_named server name x && is_named server name y)) (λ y k. one_named server name x y k) xs
    (none_any (is_named x.server x.name) xs (and_left _ _ h))) (named_two server name xs (and_right _ _ h))

named_itself : (fileset : Fileset) → is_named fileset.server fileset.name fileset ≡ true
named_itself fileset = and_both _ _ (same_number fileset.server.0) (same_self fileset.name)

find_name : (id : FilesetId) (filesets : List Fileset) (fileset : Fileset) → names_differ filesets ≡ true → find (has_id id) filesets ≡ Some fileset → find (is_named fileset.server fileset.name) filesets ≡ Some fileset
find_name id [] fileset d h = absurd (search (rules, h))
find_name id (x ∷ xs) fileset d h =
    elim (has_id id x) as (λ t. cond t (Some x) (find (has_id id) xs) ≡ Some fileset → find (is_named fileset.server fileset.name) (x ∷ xs) ≡ Some fileset) [
      | true ↦ λ k. let same : x ≡ fileset = cc in
          subst (λ y. find (is_named fileset.server fileset.name) (y ∷ xs) ≡ Some fileset) (sym same) (ap (λ t. cond t (Some fileset) (find (is_named fileset.server fileset.name) xs)) (named_itself fileset))
      | false ↦ λ k.
          let other : not (is_named x.server x.name fileset) ≡ true = find_all (has_id id) (λ y. not (is_named x.server x.name y)) xs fileset k (none_any (is_named x.server x.name) xs (and_left _ _ d)) in
          let back : is_named fileset.server fileset.name x ≡ is_named x.server x.name fileset = ap (λ t. t && same_name x.name fileset.name) (eq_sym x.server.0 fileset.server.0) ∙ ap (λ t. (fileset.server.0 == x.server.0) && t) (same_name_sym x.name fileset.name) in
          ap (λ t. cond t (Some x) (find (is_named fileset.server fileset.name) xs)) (back ∙ not_false (is_named x.server x.name fileset) other) ∙ find_name id xs fileset (and_right _ _ d) k
    ] h
  where
    not_false : (b : Bool) → not b ≡ true → b ≡ false
    not_false true h = no_file h
    not_false false h = refl

at_none : (id : FilesetId) (server : ServerId) (filesets : List Fileset) → find (has_id id) filesets ≡ None → is_at filesets server id ≡ false
at_none id server [] h = refl
at_none id server (x ∷ xs) h =
    elim (has_id id x) as (λ t. cond t (Some x) (find (has_id id) xs) ≡ None → ((t && (x.server.0 == server.0)) || is_at xs server id) ≡ false)
    [ true ↦ λ k. absurd (search (rules, k)) | false ↦ λ k. at_none id server xs k ] h

-- the places of a server's filesets
places_sum : (filesets : List Fileset) (server : ServerId) (g : ℕ → ℕ) (h : Fileset → ℕ) (rest : List Fileset) (place : ℕ) (places : List ℕ) → ((i : ℕ) (fileset : Fileset) → slice_get rest i ≡ Some fileset → g (place + i) ≡ h fileset) →
    sum_by g (places_among filesets server places place rest) ≡ sum_by g places + sum_by (λ fileset. if fileset.server.0 == server.0 then h fileset else 0) rest
places_sum filesets server g h [] place places same = omega arith
places_sum filesets server g h (x ∷ xs) place places same =
    places_sum filesets server g h xs (place + 1) (if x.server.0 == server.0 then insert places (name_place filesets places x.name) place else places)
    (λ i fileset e. ap g (let next : (place + 1) + i ≡ place + suc i = omega arith in next) ∙ same (suc i) fileset e)
    ∙ by_test (x.server.0 == server.0)
    ∙ ap (λ n. sum_by g places + n) (sym (sum_by-cons (λ fileset. if fileset.server.0 == server.0 then h fileset else 0) x xs))
  where
    rest : ℕ
    rest = sum_by (λ fileset. if fileset.server.0 == server.0 then h fileset else 0) xs

    by_test : (b : Bool) → sum_by g (if b then insert places (name_place filesets places x.name) place else places) + sum_by (λ fileset. if fileset.server.0 == server.0 then h fileset else 0) xs
        ≡ sum_by g places + ((if b then h x else 0) + sum_by (λ fileset. if fileset.server.0 == server.0 then h fileset else 0) xs)
    by_test true =
        let a = sum_insert g place (name_place filesets places x.name) places in
        let here : g place ≡ h x = ap g (let none : place ≡ place + 0 = omega arith in none) ∙ same 0 x refl in omega (arith, a, here)
    by_test false = omega arith

places_all : (filesets : List Fileset) (server : ServerId) (q : ℕ → Bool) (rest : List Fileset) (place : ℕ) (places : List ℕ) → list_all q places ≡ true →
    ((i : ℕ) (fileset : Fileset) → slice_get rest i ≡ Some fileset → (fileset.server.0 == server.0) ≡ true → q (place + i) ≡ true) → list_all q (places_among filesets server places place rest) ≡ true
places_all filesets server q [] place places h each = h
places_all filesets server q (x ∷ xs) place places h each =
    places_all filesets server q xs (place + 1) (if x.server.0 == server.0 then insert places (name_place filesets places x.name) place else places) (by_test (x.server.0 == server.0) refl)
    (λ i fileset e s. ap q (let next : (place + 1) + i ≡ place + suc i = omega arith in next) ∙ each (suc i) fileset e s)
  where
    by_test : (b : Bool) → (x.server.0 == server.0) ≡ b → list_all q (if b then insert places (name_place filesets places x.name) place else places) ≡ true
    by_test true e = all_insert q place (name_place filesets places x.name) places (ap q (let none : place ≡ place + 0 = omega arith in none) ∙ each 0 x refl e) h
    by_test false e = h

-- the losses of one fileset, told from its root
abbrev root_losses : HostId → ServerId → Fileset → List Loss
root_losses host server fileset = option_map_or (rel fileset.anodes host server (length fileset.anodes)) (object_at fileset.anodes 1) []

fileset_prefixed : (host : HostId) (server : ServerId) (fileset : Fileset) →
    fileset_losses host server fileset ≡ option_map_or (λ child. map (prefixed (fileset.name ∷ [])) (rel fileset.anodes host server (length fileset.anodes) child)) (object_at fileset.anodes 1) []
fileset_prefixed host server fileset = by_root (object_at fileset.anodes 1)
  where
    by_root : (o : Option Object) → option_map_or (losses_below (length fileset.anodes) fileset.anodes host server (fileset.name ∷ [])) o []
        ≡ option_map_or (λ child. map (prefixed (fileset.name ∷ [])) (rel fileset.anodes host server (length fileset.anodes) child)) o []
    by_root None = refl
    by_root (Some root) = below_prefixed fileset.anodes host server (length fileset.anodes) (fileset.name ∷ []) root

module _ (tree : Tree) (host : HostId) (server : ServerId) (w : IsWellFormed tree) where
  abbrev at_place : ℕ → List Loss
  at_place place = option_map_or (fileset_losses host server) (slice_get tree.filesets place) []

  -- how many losses on a path pass a test
  on_name : (name : List ℕ) (names : List (List ℕ)) (test : Test) → count_by (on_path (name ∷ names) test) (losses_of tree host server)
      ≡ option_map_or (λ fileset. count_by (on_path names test) (root_losses host server fileset)) (find (is_named server name) tree.filesets) 0
  unfolding losses_of
  on_name name names test =
      count_flat (on_path (name ∷ names) test) at_place (places_by_name tree.filesets server)
      ∙ places_sum tree.filesets server (λ place. count_by (on_path (name ∷ names) test) (at_place place)) h tree.filesets 0 []
      (λ i fileset e. ap (λ n. count_by (on_path (name ∷ names) test) (at_place n)) (let none : 0 + i ≡ i = omega arith in none) ∙ ap (λ o. count_by (on_path (name ∷ names) test) (option_map_or (fileset_losses host server) o [])) e)
      ∙ zero_add (sum_by (λ fileset. if fileset.server.0 == server.0 then h fileset else 0) tree.filesets)
      ∙ sum_same (λ fileset. if fileset.server.0 == server.0 then h fileset else 0) (λ fileset. if is_named server name fileset then d fileset else 0) one tree.filesets
      ∙ sum_of_one (is_named server name) d tree.filesets (named_two server name tree.filesets w.named)
    where
      h : Fileset → ℕ
      h fileset = count_by (on_path (name ∷ names) test) (fileset_losses host server fileset)

      d : Fileset → ℕ
      d fileset = count_by (on_path names test) (root_losses host server fileset)

      zero_add : (n : ℕ) → 0 + n ≡ n
      zero_add n = omega arith

      both : (a b : Bool) (n : ℕ) → (if a then (if b then n else 0) else 0) ≡ (if a && b then n else 0)
      both true b n = refl
      both false b n = refl

      one : (fileset : Fileset) →
          (if fileset.server.0 == server.0 then count_by (on_path (name ∷ names) test) (fileset_losses host server fileset) else 0)
          ≡ (if is_named server name fileset then count_by (on_path names test) (root_losses host server fileset) else 0)
      one fileset =
          ap (λ n. if fileset.server.0 == server.0 then n else 0) (ap (count_by (on_path (name ∷ names) test)) (fileset_prefixed host server fileset)
          ∙ entry_counted fileset.anodes host server (length fileset.anodes) fileset.name name names test (object_at fileset.anodes 1))
          ∙ both (fileset.server.0 == server.0) (same_name fileset.name name) (count_by (on_path names test) (root_losses host server fileset))

  -- what leads to a file
  pub record Led (fid : Fid) (path : List (List ℕ)) : Type 0 where
    pub name : List ℕ
    pub names : List (List ℕ)
    pub path_is : path ≡ name ∷ names
    pub fileset : Fileset
    pub anode : ℕ
    pub found : find (is_named server name) tree.filesets ≡ Some fileset
    pub way : leads fileset.anodes 1 names ≡ Some anode
    pub is_it : fid ≡ use_of fileset anode

  led_parts : (fid : Fid) (path : List (List ℕ)) → option_map_or (same_fid fid) (led_to tree server path) false ≡ true → Led fid path
  led_parts fid [] h = no_file h
  led_parts fid (name ∷ names) h = by_fileset (find (is_named server name) tree.filesets) refl h
    where
      by_anode : (fileset : Fileset) → find (is_named server name) tree.filesets ≡ Some fileset → (o : Option ℕ) → leads fileset.anodes 1 names ≡ o → option_map_or (same_fid fid) (option_map (use_of fileset) o) false ≡ true → Led fid (name ∷ names)
      by_anode fileset e None f h = no_file h
      by_anode fileset e (Some anode) f h = record { name = name; names = names; path_is = refl; fileset = fileset; anode = anode; found = e; way = f; is_it = fid_is fid (use_of fileset anode) h }

      by_fileset : (o : Option Fileset) → find (is_named server name) tree.filesets ≡ o → option_map_or (same_fid fid) (option_and_then (λ fileset. option_map (use_of fileset) (leads fileset.anodes 1 names)) o) false ≡ true → Led fid (name ∷ names)
      by_fileset None e h = no_file h
      by_fileset (Some fileset) e h = by_anode fileset e (leads fileset.anodes 1 names) refl h

  module _ (fid : Fid) (fileset : Fileset) (found : find (has_id fid.fileset) tree.filesets ≡ Some fileset) (here : (fileset.server.0 == server.0) ≡ true) where
    formed : IsWellFormedFileset fileset
    formed = formed_found (has_id fid.fileset) tree.filesets fileset w.filesets found

    -- it leads into the fileset
    its_fileset : (path : List (List ℕ)) (led : Led fid path) → (led.fileset ≡ fileset) × (leads fileset.anodes 1 led.names ≡ Some fid.anode)
    its_fileset path led =
        let by_id = found_by_id (is_named server led.name) tree.filesets led.fileset led.found w.ordered in
        let id : fid.fileset ≡ led.fileset.id = ap (λ f. f.fileset) led.is_it in
        let again : find (has_id fid.fileset) tree.filesets ≡ Some led.fileset = ap (λ id. find (has_id id) tree.filesets) id ∙ by_id in
        let same : led.fileset ≡ fileset = some_is led.fileset fileset (sym again ∙ found) in
        let anode : led.anode ≡ fid.anode = sym (ap (λ f. f.anode) led.is_it) in
        (same, subst (λ f. leads f.anodes 1 led.names ≡ Some fid.anode) same (led.way ∙ ap Some anode))
      where
        some_is : (a b : Fileset) → Some a ≡ Some b → a ≡ b
        some_is a b h = cc

    same_server : fileset.server ≡ server
    same_server = ap (λ n. let id : ServerId = record { 0 = n } in id) (number_is fileset.server.0 server.0 here)

    by_name : find (is_named server fileset.name) tree.filesets ≡ Some fileset
    by_name = subst (λ s. find (is_named s fileset.name) tree.filesets ≡ Some fileset) same_server (find_name fid.fileset tree.filesets fileset w.named found)

    -- a path to a file that is there
    test_same : (names : List (List ℕ)) → leads fileset.anodes 1 names ≡ Some fid.anode → unique_at fileset.anodes fid.anode ≡ fid.unique → (path : List (List ℕ)) →
        option_map_or (same_fid fid) (led_to tree server path) false ≡ pointwise same_name path (fileset.name ∷ names)
    test_same names way unique path = both_ways (option_map_or (same_fid fid) (led_to tree server path) false) (pointwise same_name path (fileset.name ∷ names)) forth back
      where
        forth : option_map_or (same_fid fid) (led_to tree server path) false ≡ true → pointwise same_name path (fileset.name ∷ names) ≡ true
        forth h =
            let led = led_parts fid path h in let (same, way_too) = its_fileset path led in
            let one : led.names ≡ names = leads_once fileset formed led.names names fid.anode way_too way in
            let passes : is_named server led.name led.fileset ≡ true = found_passes (is_named server led.name) tree.filesets led.fileset led.found in
            let name : led.name ≡ fileset.name = sym (names_equal led.fileset.name led.name (and_right (led.fileset.server.0 == server.0) (same_name led.fileset.name led.name) passes)) ∙ ap (λ f. f.name) same in
            let whole : path ≡ fileset.name ∷ names = led.path_is ∙ ap (λ n. n ∷ led.names) name ∙ ap (λ ns. fileset.name ∷ ns) one in
            ap (λ p. pointwise same_name p (fileset.name ∷ names)) whole ∙ paths_self (fileset.name ∷ names)

        its_fid : same_fid fid (use_of fileset fid.anode) ≡ true
        its_fid =
            let id : (fileset.id.0 == fid.fileset.0) ≡ true = found_passes (has_id fid.fileset) tree.filesets fileset found in
            let a : (fid.fileset.0 == fileset.id.0) ≡ true = eq_sym fid.fileset.0 fileset.id.0 ∙ id in
            let c : (fid.unique == unique_at fileset.anodes fid.anode) ≡ true = ap (λ n. fid.unique == n) unique ∙ same_number fid.unique in
            and_both _ _ (and_both _ _ a (same_number fid.anode)) c

        back : pointwise same_name path (fileset.name ∷ names) ≡ true → option_map_or (same_fid fid) (led_to tree server path) false ≡ true
        back h =
            let whole : path ≡ fileset.name ∷ names = paths_equal path (fileset.name ∷ names) h in
            ap (λ p. option_map_or (same_fid fid) (led_to tree server p) false) whole
            ∙ ap (λ o. option_map_or (same_fid fid) (option_and_then (λ fileset. option_map (use_of fileset) (leads fileset.anodes 1 names)) o) false) by_name
            ∙ ap (λ o. option_map_or (same_fid fid) (option_map (use_of fileset) o) false) way
            ∙ its_fid

    -- no path leads to what isn't there
    test_none : object_in fileset fid ≡ None → (path : List (List ℕ)) → option_map_or (same_fid fid) (led_to tree server path) false ≡ false
    test_none none path = by_test (option_map_or (same_fid fid) (led_to tree server path) false) refl
      where
        by_test : (b : Bool) → option_map_or (same_fid fid) (led_to tree server path) false ≡ b → b ≡ false
        by_test false e = refl
        by_test true e =
            let led = led_parts fid path e in let (same, way) = its_fileset path led in
            let (object, there) = led_there fileset formed led.names fid.anode way in
            let unique : fid.unique ≡ unique_at fileset.anodes fid.anode
            = ap (λ f. f.unique) led.is_it ∙ ap (λ n. unique_at led.fileset.anodes n) (sym (ap (λ f. f.anode) led.is_it)) ∙ ap (λ f. unique_at f.anodes fid.anode) same in
            let test : (unique_at fileset.anodes fid.anode == fid.unique) ≡ true = ap (λ n. n == fid.unique) (sym unique) ∙ same_number fid.unique in
            let some : object_in fileset fid ≡ Some object = ap (λ t. cond t (object_at fileset.anodes fid.anode) None) test ∙ there in
            let wrong : None ≡ Some object = sym none ∙ some in absurd (search (rules, wrong))

    root_there : (object : Object) × (object_at fileset.anodes 1 ≡ Some object)
    root_there = by_root (object_at fileset.anodes 1) formed.root
      where
        by_root : (o : Option Object) → option_map_or (λ object. is_dir object.content) o false ≡ true → (object : Object) × (o ≡ Some object)
        by_root None h = no_file h
        by_root (Some object) h = (object, refl)

    -- how many losses of a file pass a test
    exact : (test : Test) → count_by (λ loss. is_of_file tree server fid loss && test loss.span loss.length) (losses_of tree host server)
        ≡ option_map_or (λ object. own_count host test object.content) (object_in fileset fid) 0
    exact test = by_object (object_in fileset fid) refl
      where
        used : (b : Bool) (o : Option Object) (object : Object) → cond b o None ≡ Some object → (b ≡ true) × (o ≡ Some object)
        used true o object h = (refl, h)
        used false o object h = absurd (search (rules, h))

        by_object : (o : Option Object) → object_in fileset fid ≡ o →
            count_by (λ loss. is_of_file tree server fid loss && test loss.span loss.length) (losses_of tree host server) ≡ option_map_or (λ object. own_count host test object.content) o 0
        by_object None e = count_none (λ (loss : Loss). is_of_file tree server fid loss && test loss.span loss.length) (λ loss. ap (λ t. t && test loss.span loss.length) (test_none e loss.path)) (losses_of tree host server)
        by_object (Some object) e =
            let (unique, there) = used (unique_at fileset.anodes fid.anode == fid.unique) (object_at fileset.anodes fid.anode) object e in
            let (names, way) = formed.reached fid.anode object there in
            let (root, rooted) = root_there in
            count_same (λ (loss : Loss). is_of_file tree server fid loss && test loss.span loss.length) (on_path (fileset.name ∷ names) test)
            (λ loss. ap (λ t. t && test loss.span loss.length) (test_same names way (number_is (unique_at fileset.anodes fid.anode) fid.unique unique) loss.path)) (losses_of tree host server)
            ∙ on_name fileset.name names test
            ∙ ap (λ o. option_map_or (λ fileset. count_by (on_path names test) (root_losses host server fileset)) o 0) by_name
            ∙ ap (λ o. count_by (on_path names test) (option_map_or (rel fileset.anodes host server (length fileset.anodes)) o [])) rooted
            ∙ counted fileset.anodes host server formed.sound (length fileset.anodes) 1 root names test rooted (λ to led. depth fileset formed names to led)
            ∙ ap (λ o. option_map_or (λ object. own_count host test object.content) (option_and_then (object_at fileset.anodes) o) 0) way
            ∙ ap (λ o. option_map_or (λ object. own_count host test object.content) o 0) there

    -- the object that a fid names is sound
    sound_in : (object : Object) → object_in fileset fid ≡ Some object → Rattle.tree_objects.specs.Sound.is_sound object.content ≡ true
    sound_in object e = formed.sound fid.anode object (used (unique_at fileset.anodes fid.anode == fid.unique) (object_at fileset.anodes fid.anode) e)
      where
        used : (b : Bool) (o : Option Object) → cond b o None ≡ Some object → o ≡ Some object
        used true o h = h
        used false o h = absurd (search (rules, h))

    bytes_at : (at : ℕ) → count_by (λ loss. is_of_file tree server fid loss && is_of_byte at loss) (losses_of tree host server) ≡ (if is_of host (cell_at tree fid (ByteAt at)).unsaved then 1 else 0)
    bytes_at at =
        exact (λ span len. option_map_or (λ span. has_byte span at) span false) ∙ by_object (object_in fileset fid) refl
        ∙ sym (ap (λ o. if is_of host (cell_in o fid (ByteAt at)).unsaved then 1 else 0) found)
      where
        by_object : (o : Option Object) → object_in fileset fid ≡ o → option_map_or (λ object. own_count host (λ span len. option_map_or (λ span. has_byte span at) span false) object.content) o 0
            ≡ (if is_of host (cell_found fileset.read_only o (ByteAt at)).unsaved then 1 else 0)
        by_object None e = refl
        by_object (Some object) e = byte_count host at object.content (sound_in object e)

    lengths_at : (len : ℕ) → count_by (λ loss. is_of_file tree server fid loss && is_of_length len loss) (losses_of tree host server) ≡ option_map_or (λ own. if own == len then 1 else 0) (own_size host (cell_at tree fid Size)) 0
    lengths_at len =
        exact (λ span lost. option_map_or (λ lost. lost == len) lost false) ∙ by_object (object_in fileset fid)
        ∙ sym (ap (λ o. option_map_or (λ own. if own == len then 1 else 0) (own_size host (cell_in o fid Size)) 0) found)
      where
        by_object : (o : Option Object) → option_map_or (λ object. own_count host (λ span lost. option_map_or (λ lost. lost == len) lost false) object.content) o 0
            ≡ option_map_or (λ own. if own == len then 1 else 0) (own_size host (cell_found fileset.read_only o Size)) 0
        by_object None = refl
        by_object (Some object) = length_count host len object.content

  at_server : (fid : Fid) → is_at tree.filesets server fid.fileset ≡ true → (fileset : Fileset) × (find (has_id fid.fileset) tree.filesets ≡ Some fileset) × ((fileset.server.0 == server.0) ≡ true)
  at_server fid h = by_found (find (has_id fid.fileset) tree.filesets) refl
    where
      by_found : (o : Option Fileset) → find (has_id fid.fileset) tree.filesets ≡ o → (fileset : Fileset) × (o ≡ Some fileset) × ((fileset.server.0 == server.0) ≡ true)
      by_found None e = no_file (sym (at_none fid.fileset server tree.filesets e) ∙ h)
      by_found (Some fileset) e = (fileset, refl, sym (at_found fid.fileset server tree.filesets fileset w.ordered e) ∙ h)

  -- a fileset at a place
  placed : (place : ℕ) (fileset : Fileset) → slice_get tree.filesets place ≡ Some fileset → find (has_id fileset.id) tree.filesets ≡ Some fileset
  placed place fileset e = find_at_place fileset.id tree.filesets place fileset (sym e) w.ordered (same_number fileset.id.0)

  placed_formed : (place : ℕ) (fileset : Fileset) → slice_get tree.filesets place ≡ Some fileset → IsWellFormedFileset fileset
  placed_formed place fileset e = formed_at tree place fileset (sym e) w

  -- each loss is told
  told_in : (fileset : Fileset) (losses : List Loss) → find (is_named server fileset.name) tree.filesets ≡ Some fileset →
      list_all (λ loss. (loss.host.0 == host.0) && (loss.server.0 == server.0) && is_some (leads fileset.anodes 1 loss.path) && is_of_either loss.span loss.length) losses ≡ true →
      list_all (is_loss_of tree host server) (map (prefixed (fileset.name ∷ [])) losses) ≡ true
  told_in fileset losses named h =
      all_map (is_loss_of tree host server) (prefixed (fileset.name ∷ [])) losses
      (all_implied (λ loss. (loss.host.0 == host.0) && (loss.server.0 == server.0) && is_some (leads fileset.anodes 1 loss.path) && is_of_either loss.span loss.length)
      (λ loss. is_loss_of tree host server (prefixed (fileset.name ∷ []) loss)) (λ loss k.
      ap (λ o. (loss.host.0 == host.0) && (loss.server.0 == server.0) && is_some (option_and_then (λ fileset. option_map (use_of fileset) (leads fileset.anodes 1 loss.path)) o) && is_of_either loss.span loss.length) named
      ∙ ap (λ t. (loss.host.0 == host.0) && (loss.server.0 == server.0) && t && is_of_either loss.span loss.length) (still_some (leads fileset.anodes 1 loss.path)) ∙ k) losses h)
    where
      still_some : (o : Option ℕ) → is_some (option_map (use_of fileset) o) ≡ is_some o
      still_some None = refl
      still_some (Some anode) = refl

  fileset_told : (place : ℕ) (fileset : Fileset) → slice_get tree.filesets place ≡ Some fileset → (fileset.server.0 == server.0) ≡ true → list_all (is_loss_of tree host server) (fileset_losses host server fileset) ≡ true
  fileset_told place fileset e here =
      let named = by_name (record { fileset = fileset.id; anode = 1; unique = 1 }) fileset (placed place fileset e) here in
      let sound = placed_formed place fileset e in
      ap (list_all (is_loss_of tree host server)) (fileset_prefixed host server fileset) ∙ by_root named sound (object_at fileset.anodes 1) refl
    where
      by_root : find (is_named server fileset.name) tree.filesets ≡ Some fileset → IsWellFormedFileset fileset → (o : Option Object) → object_at fileset.anodes 1 ≡ o →
          list_all (is_loss_of tree host server) (option_map_or (λ child. map (prefixed (fileset.name ∷ [])) (rel fileset.anodes host server (length fileset.anodes) child)) o []) ≡ true
      by_root named well None k = refl
      by_root named well (Some root) k = told_in fileset (rel fileset.anodes host server (length fileset.anodes) root) named (told fileset.anodes host server well.sound (length fileset.anodes) 1 root k)

  all_told : list_all (is_loss_of tree host server) (losses_of tree host server) ≡ true
  unfolding losses_of
  all_told =
      all_flat (is_loss_of tree host server) at_place (places_by_name tree.filesets server)
      (places_all tree.filesets server (λ place. list_all (is_loss_of tree host server) (at_place place)) tree.filesets 0 [] refl
      (λ i fileset e here. ap (λ n. list_all (is_loss_of tree host server) (at_place n)) (let none : 0 + i ≡ i = omega arith in none)
      ∙ ap (λ o. list_all (is_loss_of tree host server) (option_map_or (fileset_losses host server) o [])) e ∙ fileset_told i fileset e here))

  -- filesets in the order of their names
  abbrev in_order : ℕ → ℕ → Bool
  in_order a b = option_map_or (λ fileset. is_before_at tree.filesets fileset.name b) (slice_get tree.filesets a) false

  order_through : (a b c : ℕ) → in_order a b ≡ true → in_order b c ≡ true → in_order a c ≡ true
  order_through a b c = by_places (slice_get tree.filesets a) (slice_get tree.filesets b) (slice_get tree.filesets c)
    where
      by_places : (x y z : Option Fileset) → option_map_or (λ fileset. option_map_or (λ other. is_before fileset.name other.name) y false) x false ≡ true →
          option_map_or (λ fileset. option_map_or (λ other. is_before fileset.name other.name) z false) y false ≡ true → option_map_or (λ fileset. option_map_or (λ other. is_before fileset.name other.name) z false) x false ≡ true
      by_places None y z h k = no_file h
      by_places (Some x) None z h k = no_file h
      by_places (Some x) (Some y) None h k = no_file k
      by_places (Some x) (Some y) (Some z) h k = before_trans x.name y.name z.name h k

  -- two filesets of the server
  names_apart : (filesets : List Fileset) (i j : ℕ) (a b : Fileset) → names_differ filesets ≡ true → slice_get filesets i ≡ Some a → slice_get filesets j ≡ Some b → i < j → a.server.0 ≡ b.server.0 → same_name b.name a.name ≡ false
  names_apart [] i j a b d e f less same = absurd (search (rules, e))
  names_apart (x ∷ xs) zero zero a b d e f less same = absurd (omega (arith, less))
  names_apart (x ∷ xs) zero (suc j) a b d e f less same =
      let its : x ≡ a = some_is x a e in
      let other : not (is_named x.server x.name b) ≡ true = get_all (λ y. not (is_named x.server x.name y)) xs j b (sym f) (none_any (is_named x.server x.name) xs (and_left _ _ d)) in
      let apart : not (is_named a.server a.name b) ≡ true = subst (λ z. not (is_named z.server z.name b) ≡ true) its other in
      let servers : (b.server.0 == a.server.0) ≡ true = ap (λ n. n == a.server.0) (sym same) ∙ same_number a.server.0 in
      not_second (b.server.0 == a.server.0) (same_name b.name a.name) servers apart
    where
      some_is : (a b : Fileset) → Some a ≡ Some b → a ≡ b
      some_is a b h = cc

      not_second : (s t : Bool) → s ≡ true → not (s && t) ≡ true → t ≡ false
      not_second true true e h = no_file h
      not_second true false e h = refl
      not_second false t e h = no_file e
  names_apart (x ∷ xs) (suc i) zero a b d e f less same = absurd (omega (arith, less))
  names_apart (x ∷ xs) (suc i) (suc j) a b d e f less same = names_apart xs i j a b (and_right _ _ d) e f (omega (arith, less)) same

  -- a place before another, of a fileset of the server
  abbrev is_earlier : ℕ → ℕ → Bool
  is_earlier place n = nat_lt n place && option_map_or (λ fileset. fileset.server.0 == server.0) (slice_get tree.filesets n) false

  either_order : (place n : ℕ) (fileset : Fileset) → slice_get tree.filesets place ≡ Some fileset → (fileset.server.0 == server.0) ≡ true → is_earlier place n ≡ true → (in_order place n || in_order n place) ≡ true
  either_order place n fileset e here h = by_other (slice_get tree.filesets n) refl (and_right (nat_lt n place) (option_map_or (λ fileset. fileset.server.0 == server.0) (slice_get tree.filesets n) false) h)
    where
      less : n < place
      less = let l : nat_lt n place ≡ true = and_left (nat_lt n place) (option_map_or (λ fileset. fileset.server.0 == server.0) (slice_get tree.filesets n) false) h in grind (arith, common_steps, l)

      by_name_order : (other : Fileset) → same_name fileset.name other.name ≡ false → (b : Bool) → is_before fileset.name other.name ≡ b → (b || is_before other.name fileset.name) ≡ true
      by_name_order other differ true k = refl
      by_name_order other differ false k = before_other fileset.name other.name k (same_name_sym other.name fileset.name ∙ differ)

      by_other : (o : Option Fileset) → slice_get tree.filesets n ≡ o → option_map_or (λ fileset. fileset.server.0 == server.0) o false ≡ true → (in_order place n || in_order n place) ≡ true
      by_other None f k = no_file k
      by_other (Some other) f k =
          let servers : other.server.0 ≡ fileset.server.0 = number_is other.server.0 server.0 k ∙ sym (number_is fileset.server.0 server.0 here) in
          let differ = names_apart tree.filesets n place other fileset w.named f e less servers in
          let a : in_order place n ≡ is_before fileset.name other.name = ap (λ o. option_map_or (λ fileset. is_before_at tree.filesets fileset.name n) o false) e ∙ ap (λ o. option_map_or (λ x. is_before fileset.name x.name) o false) f in
          let b : in_order n place ≡ is_before other.name fileset.name = ap (λ o. option_map_or (λ fileset. is_before_at tree.filesets fileset.name place) o false) f ∙ ap (λ o. option_map_or (λ x. is_before other.name x.name) o false) e in
          ap (λ t. t || in_order n place) a ∙ ap (λ t. is_before fileset.name other.name || t) b ∙ by_name_order other differ (is_before fileset.name other.name) refl

  prefix_same : {X : Type 0} (p q : X → Bool) → ((x : X) → p x ≡ q x) → (xs : List X) → prefix_len p xs ≡ prefix_len q xs
  prefix_same p q same [] = refl
  prefix_same p q same (x ∷ xs) = ap (λ t. cond t (1 + prefix_len p xs) 0) (same x) ∙ ap (λ n. cond (q x) (1 + n) 0) (prefix_same p q same xs)

  one_more : (place : ℕ) (fileset : Fileset) (places : List ℕ) → slice_get tree.filesets place ≡ Some fileset → (fileset.server.0 == server.0) ≡ true → list_all (is_earlier place) places ≡ true → each_two in_order places ≡ true →
      each_two in_order (insert places (name_place tree.filesets places fileset.name) place) ≡ true
  one_more place fileset places e here earlier h =
      ap (λ i. each_two in_order (insert places i place))
      (position_or_end (is_before_at tree.filesets fileset.name) places
      ∙ prefix_same (λ n. not (is_before_at tree.filesets fileset.name n)) (λ n. not (in_order place n))
      (λ n. ap (λ o. not (option_map_or (λ fileset. is_before_at tree.filesets fileset.name n) o false)) (sym e)) places)
      ∙ order_insert in_order place places order_through
      (all_implied (is_earlier place) (λ n. in_order place n || in_order n place) (λ n k. either_order place n fileset e here k) places earlier) h

  later : (place n : ℕ) → is_earlier place n ≡ true → is_earlier (place + 1) n ≡ true
  later place n h =
      let l : nat_lt n place ≡ true = and_left (nat_lt n place) (option_map_or (λ fileset. fileset.server.0 == server.0) (slice_get tree.filesets n) false) h in
      let m : nat_lt n (place + 1) ≡ true = grind (arith, common_steps, l) in
      and_both _ _ m (and_right (nat_lt n place) (option_map_or (λ fileset. fileset.server.0 == server.0) (slice_get tree.filesets n) false) h)

  places_ordered : (rest : List Fileset) (place : ℕ) (places : List ℕ) → ((i : ℕ) (fileset : Fileset) → slice_get rest i ≡ Some fileset → slice_get tree.filesets (place + i) ≡ Some fileset) →
      list_all (is_earlier place) places ≡ true → each_two in_order places ≡ true → each_two in_order (places_among tree.filesets server places place rest) ≡ true
  places_ordered [] place places there earlier h = h
  places_ordered (x ∷ xs) place places there earlier h =
      places_ordered xs (place + 1) (if x.server.0 == server.0 then insert places (name_place tree.filesets places x.name) place else places)
      (λ i fileset e. ap (slice_get tree.filesets) (let next : (place + 1) + i ≡ place + suc i = omega arith in next) ∙ there (suc i) fileset e)
      (all_by (x.server.0 == server.0) refl) (two_by (x.server.0 == server.0) refl)
    where
      here : slice_get tree.filesets place ≡ Some x
      here = ap (slice_get tree.filesets) (let none : place ≡ place + 0 = omega arith in none) ∙ there 0 x refl

      all_by : (b : Bool) → (x.server.0 == server.0) ≡ b → list_all (is_earlier (place + 1)) (if b then insert places (name_place tree.filesets places x.name) place else places) ≡ true
      all_by true e =
          let m : nat_lt place (place + 1) ≡ true = grind (arith, common_steps) in
          all_insert (is_earlier (place + 1)) place (name_place tree.filesets places x.name) places
          (and_both (nat_lt place (place + 1)) (option_map_or (λ fileset. fileset.server.0 == server.0) (slice_get tree.filesets place) false) m (ap (λ o. option_map_or (λ fileset. fileset.server.0 == server.0) o false) here ∙ e))
          (all_implied (is_earlier place) (is_earlier (place + 1)) (later place) places earlier)
      all_by false e = all_implied (is_earlier place) (is_earlier (place + 1)) (later place) places earlier

      two_by : (b : Bool) → (x.server.0 == server.0) ≡ b → each_two in_order (if b then insert places (name_place tree.filesets places x.name) place else places) ≡ true
      two_by true e = one_more place x places here e earlier h
      two_by false e = h

  -- losses in order
  across_places : (a b : ℕ) → in_order a b ≡ true → list_all (λ x. list_all (loss_before x) (at_place b)) (at_place a) ≡ true
  across_places a b = by_places (slice_get tree.filesets a) (slice_get tree.filesets b)
    where
      across : (f g : Fileset) → is_before f.name g.name ≡ true → (o p : Option Object) →
          list_all (λ x. list_all (loss_before x) (option_map_or (λ child. map (prefixed (g.name ∷ [])) (rel g.anodes host server (length g.anodes) child)) p []))
          (option_map_or (λ child. map (prefixed (f.name ∷ [])) (rel f.anodes host server (length f.anodes) child)) o []) ≡ true
      across f g h None p = refl
      across f g h (Some root) None = all_true (λ x. true) (λ x. refl) (map (prefixed (f.name ∷ [])) (rel f.anodes host server (length f.anodes) root))
      across f g h (Some root) (Some other) = across_names f.anodes host server f.name g.name h (rel f.anodes host server (length f.anodes) root) (rel g.anodes host server (length g.anodes) other)

      by_places : (x y : Option Fileset) → option_map_or (λ fileset. option_map_or (λ other. is_before fileset.name other.name) y false) x false ≡ true →
          list_all (λ z. list_all (loss_before z) (option_map_or (fileset_losses host server) y [])) (option_map_or (fileset_losses host server) x []) ≡ true
      by_places None y h = refl
      by_places (Some f) None h = no_file h
      by_places (Some f) (Some g) h =
          ap (λ losses. list_all (λ z. list_all (loss_before z) (fileset_losses host server g)) losses) (fileset_prefixed host server f)
          ∙ ap (λ others. list_all (λ z. list_all (loss_before z) others) (option_map_or (λ child. map (prefixed (f.name ∷ [])) (rel f.anodes host server (length f.anodes) child)) (object_at f.anodes 1) [])) (fileset_prefixed host server g)
          ∙ across f g h (object_at f.anodes 1) (object_at g.anodes 1)

  place_ordered : (place : ℕ) → each_two loss_before (at_place place) ≡ true
  place_ordered place = by_place (slice_get tree.filesets place) refl
    where
      by_root : (fileset : Fileset) → IsWellFormedFileset fileset → (o : Option Object) → object_at fileset.anodes 1 ≡ o →
          each_two loss_before (option_map_or (λ child. map (prefixed (fileset.name ∷ [])) (rel fileset.anodes host server (length fileset.anodes) child)) o []) ≡ true
      by_root fileset well None e = refl
      by_root fileset well (Some root) e =
          below_ordered fileset.anodes host server fileset.name (rel fileset.anodes host server (length fileset.anodes) root) (ordered fileset.anodes host server well.sound (length fileset.anodes) 1 root e)

      by_place : (o : Option Fileset) → slice_get tree.filesets place ≡ o → each_two loss_before (option_map_or (fileset_losses host server) o []) ≡ true
      by_place None e = refl
      by_place (Some fileset) e = ap (each_two loss_before) (fileset_prefixed host server fileset) ∙ by_root fileset (placed_formed place fileset e) (object_at fileset.anodes 1) refl

  all_ordered : each_two loss_before (losses_of tree host server) ≡ true
  unfolding losses_of
  all_ordered =
      two_flat in_order loss_before at_place across_places (places_by_name tree.filesets server)
      (places_ordered tree.filesets 0 [] (λ i fileset e. ap (slice_get tree.filesets) (let none : 0 + i ≡ i = omega arith in none) ∙ e) refl refl)
      (all_true (λ place. each_two loss_before (at_place place)) place_ordered (places_by_name tree.filesets server))

pub all_losses_are_exact : AllLossesAreExact
all_losses_are_exact tree host server w = record {
  bytes = λ fid at h. let (fileset, found, here) = at_server tree host server w fid h in bytes_at tree host server w fid fileset found here at;
  lengths = λ fid len h. let (fileset, found, here) = at_server tree host server w fid h in lengths_at tree host server w fid fileset found here len;
  named = all_told tree host server w;
  ordered = all_ordered tree host server w;
}
