-- What is lost in one fileset: by path, in order, and nothing else.
use Rattle.std.proofs.Common.{◌≡◌, ◌<◌, ◌≤◌, ℕ, zero, suc, ◌+◌, ◌==◌, nat_lt, nat_le, min, Bool, true, false, ◌&&◌, ◌||◌, not, cond, List, [], ◌∷◌, ◌++◌, map, length, Option, Some, None, is_some, refl, sym, ap, ◌∙◌, subst, inl, inr, rules, arith, append_assoc}
use Rattle.std.specs.Prelude.{slice_get, if◌then◌else◌}
use Rattle.std.specs.Cmp.Lexicographic.{pointwise, slice_cmp}
use Rattle.std.specs.Ordering.{is_lt, ordering_reverse, nat_cmp}
use Rattle.std.specs.declared.cmp.Ordering.{Ordering}
use Rattle.std.specs.declared.cmp.Ordering.TheVariants.{Less, Equal, Greater}
use Rattle.std.proofs.lemmas.Cmp.{nat_list_cmp_total}
use Rattle.std.proofs.lemmas.List.Sums.{sum_by-cons}
use Rattle.std.specs.List.{flat_map, list_all, count_by}
use Rattle.std.specs.Option.{option_map, option_map_or, option_and_then}
use Rattle.std.proofs.lemmas.Bool.Decides.{eqb_tells}
use Rattle.std.proofs.lemmas.Grind.{common_steps}
use Rattle.std.proofs.lemmas.List.{map-append, append-nil}
use Rattle.base_types.specs.Name.{same_name, is_before}
use Rattle.base_types.specs.Spans.{has_byte, in_spans}
use Rattle.base_types.specs.declared.ids.HostId.{HostId}
use Rattle.base_types.specs.declared.ids.ServerId.{ServerId}
use Rattle.base_types.specs.declared.limits.TheConstants.{FILE_BYTES_MAX}
use Rattle.base_types.specs.declared.span.Span.{Span}
use Rattle.tree_calls.specs.declared.entry.Loss.{Loss}
use Rattle.tree_calls.specs.declared.part.DirEntry.{DirEntry}
use Rattle.tree_objects.specs.declared.content.Anode.{Anode}
use Rattle.tree_objects.specs.declared.content.Content.{Content}
use Rattle.tree_objects.specs.declared.content.Content.TheVariants.{Dir, File}
use Rattle.tree_objects.specs.declared.content.Object.{Object}
use Rattle.tree_objects.specs.declared.content.Unsaved.{Unsaved}
use Rattle.tree_objects.specs.declared.content.UnsavedLength.{UnsavedLength}
use Rattle.tree_objects.specs.Entries.{entry_named}
use Rattle.tree_objects.specs.Laws.{is_own, are_apart}
use Rattle.tree_objects.specs.Losses.{spans_on, spans_of, own_bytes, own_spans}
use Rattle.tree_objects.specs.Shown.{shown}
use Rattle.tree_objects.specs.Sound.{names_rise, is_sound}
use Rattle.tree_objects.specs.Spans.{span_between}
use Rattle.tree_objects.specs.Stores.{own_length, own_length_of}
use Rattle.tree_objects.proofs.Observed.{and_left, and_right}
use Rattle.tree_objects.proofs.Rising.{and_both, all_filter, all_implied}
use Rattle.tree_objects.proofs.StaysSound.{sound_places}
use Rattle.tree_objects.proofs.Together.{spans_are_exact, spans_are_maximal}
use Rattle.tree_filesets.specs.Laws.{entries_in}
use Rattle.tree_filesets.specs.Walk.{object_at}
use Rattle.tree_filesets.specs.WellFormed.{entry_in, entry_at, leads}
use Rattle.tree_filesets.proofs.Leads.{leads_first}
use Rattle.tree_filesets.proofs.Names.{names_equal, same_self}
use Rattle.tree_answers.specs.Losses.{span_loss, length_loss, file_losses, losses_below}
use Rattle.tree_laws.specs.Parts.{written_byte, written_length, byte_cell, size_cell}
use Rattle.tree_laws.specs.Fates.{is_of, own_size}
use Rattle.tree_laws.specs.Labels.{each_two}
use Rattle.tree_laws.specs.Losses.{is_of_either, path_before, span_before, loss_before}
use Rattle.tree_laws.proofs.Counts.{count_append, sum_same, count_none, count_map, count_flat, sum_zero, sum_of_one, two_implied, all_appended, all_map, all_true, all_flat, two_append, two_map, two_flat}
use Rattle.tree_answers.proofs.Places.{get_all}
use Rattle.tree_laws.proofs.Steps.{no_file, same_number}

-- no name comes before itself
not_less : (r : Ordering) → r ≡ ordering_reverse r → is_lt r ≡ false
not_less Less h = let wrong : true ≡ false = ap is_lt h in absurd (search (rules, wrong))
not_less Equal h = refl
not_less Greater h = refl

pub never_before : (name : List ℕ) → is_before name name ≡ false
never_before name = not_less (slice_cmp nat_cmp name name) (nat_list_cmp_total.antisymm name name)

-- a loss below a directory
abbrev pub prefixed : List (List ℕ) → Loss → Loss
prefixed path loss = record loss { path = path ++ loss.path }

-- what a test says of spans and lengths
abbrev pub Test : Type 0
Test = Option Span → Option ℕ → Bool

-- the losses on a path that pass a test
abbrev pub on_path : List (List ℕ) → Test → Loss → Bool
on_path path test loss = pointwise same_name loss.path path && test loss.span loss.length

count_cons : {X : Type 0} (p : X → Bool) (x : X) (xs : List X) → count_by p (x ∷ xs) ≡ cond (p x) 1 0 + count_by p xs
count_cons p x xs = sum_by-cons (λ x. cond (p x) 1 0) x xs

-- two lists of entries
rise_two : (entries : List DirEntry) → names_rise entries ≡ true → each_two (λ a b. is_before a.name b.name) entries ≡ true
rise_two [] h = refl
rise_two (entry ∷ entries) h = and_both _ _ (and_left _ _ h) (rise_two entries (and_right _ _ h))

named_once : (name : List ℕ) (entries : List DirEntry) → names_rise entries ≡ true → each_two (λ a b. not (same_name a.name name && same_name b.name name)) entries ≡ true
named_once name entries h = two_implied (λ a b. is_before a.name b.name) (λ a b. not (same_name a.name name && same_name b.name name)) differ entries (rise_two entries h)
  where
    differ : (a b : DirEntry) → is_before a.name b.name ≡ true → not (same_name a.name name && same_name b.name name) ≡ true
    differ a b e = by_tests (same_name a.name name) (same_name b.name name) refl refl
      where
        by_tests : (s t : Bool) → same_name a.name name ≡ s → same_name b.name name ≡ t → not (s && t) ≡ true
        by_tests true true f g =
            let one : a.name ≡ b.name = names_equal a.name name f ∙ sym (names_equal b.name name g) in
            no_file (sym (never_before b.name) ∙ subst (λ n. is_before n b.name ≡ true) one e)
        by_tests true false f g = refl
        by_tests false t f g = refl

-- spans that are apart have a byte once
none_behind : (end at : ℕ) (spans : List Span) → at < end → list_all (λ other. nat_lt end other.from) spans ≡ true → count_by (λ span. has_byte span at) spans ≡ 0
none_behind end at [] low h = refl
none_behind end at (span ∷ spans) low h =
    let behind : nat_lt end span.from ≡ true = and_left (nat_lt end span.from) (list_all (λ other. nat_lt end other.from) spans) h in
    let not_yet : nat_le span.from at ≡ false = grind (arith, common_steps, behind, low) in
    count_cons (λ span. has_byte span at) span spans
    ∙ ap (λ t. cond (t && nat_lt at span.to) 1 0 + count_by (λ span. has_byte span at) spans) not_yet
    ∙ ap (λ n. 0 + n) (none_behind end at spans low (and_right _ _ h))

spans_once : (at : ℕ) (spans : List Span) → are_apart spans ≡ true → count_by (λ span. has_byte span at) spans ≡ (if in_spans spans at then 1 else 0)
spans_once at [] h = refl
spans_once at (span ∷ spans) h = count_cons (λ span. has_byte span at) span spans ∙ by_test (has_byte span at) refl (spans_once at spans (and_right _ _ h))
  where
    by_test : (b : Bool) → has_byte span at ≡ b → count_by (λ span. has_byte span at) spans ≡ (if in_spans spans at then 1 else 0) →
        cond b 1 0 + count_by (λ span. has_byte span at) spans ≡ (if b || in_spans spans at then 1 else 0)
    by_test true e rest =
        let below : nat_lt at span.to ≡ true = and_right (nat_le span.from at) (nat_lt at span.to) e in
        let low : at < span.to = grind (arith, common_steps, below) in
        ap (λ n. 1 + n) (none_behind span.to at spans low (and_left _ _ h))
    by_test false e rest = zero_add (count_by (λ span. has_byte span at) spans) ∙ rest
      where
        zero_add : (n : ℕ) → 0 + n ≡ n
        zero_add n = omega arith

-- each has a byte
spans_wide : (from to : ℕ) (bytes : List Unsaved) → from < to → to ≤ FILE_BYTES_MAX → list_all (λ b. nat_lt b.at FILE_BYTES_MAX) bytes ≡ true → list_all (λ span. nat_lt span.from span.to) (spans_on from to bytes) ≡ true
spans_wide from to [] h k n =
    let t : min to FILE_BYTES_MAX ≡ to = omega (arith, k) in let f : min from to ≡ from = omega (arith, h) in
    let w : nat_lt from to ≡ true = grind (arith, common_steps, h) in rw (t, f, w) refl
spans_wide from to (x ∷ xs) h k n =
    let next : x.at + 1 ≤ FILE_BYTES_MAX = let w : nat_lt x.at FILE_BYTES_MAX ≡ true = and_left _ _ n in grind (arith, common_steps, w) in
    elim (eqb_tells x.at to) as (λ _. list_all (λ span. nat_lt span.from span.to) (spans_on from to (x ∷ xs)) ≡ true) [
      | inl (e, same) ↦ rw e (spans_wide from (to + 1) xs (omega (arith, h)) (omega (arith, next, same)) (and_right _ _ n))
      | inr (e, other) ↦
          let t : min to FILE_BYTES_MAX ≡ to = omega (arith, k) in let f : min from to ≡ from = omega (arith, h) in
          let w : nat_lt from to ≡ true = grind (arith, common_steps, h) in
          let first : nat_lt (span_between from to).from (span_between from to).to ≡ true = rw (t, f) w in
          rw e (and_both _ _ first (spans_wide x.at (x.at + 1) xs (omega arith) next (and_right _ _ n)))
    ]

wide_of : (bytes : List Unsaved) → list_all (λ b. nat_lt b.at FILE_BYTES_MAX) bytes ≡ true → list_all (λ span. nat_lt span.from span.to) (spans_of bytes) ≡ true
wide_of [] n = refl
wide_of (x ∷ xs) n =
    let next : x.at + 1 ≤ FILE_BYTES_MAX = let w : nat_lt x.at FILE_BYTES_MAX ≡ true = and_left _ _ n in grind (arith, common_steps, w) in
    spans_wide x.at (x.at + 1) xs (omega arith) next (and_right _ _ n)

own_wide : (host : HostId) (content : Content) → is_sound content ≡ true → list_all (λ span. nat_lt span.from span.to) (own_spans host content) ≡ true
own_wide host (Dir entries lists) s = refl
own_wide host (File list kept unsaved len) s = wide_of (own_bytes host unsaved) (all_filter (λ byte. nat_lt byte.at FILE_BYTES_MAX) _ unsaved (sound_places list kept unsaved len s))

apart_two : (spans : List Span) → are_apart spans ≡ true → each_two (λ a b. nat_lt a.to b.from) spans ≡ true
apart_two [] h = refl
apart_two (span ∷ spans) h = and_both _ _ (and_left _ _ h) (apart_two spans (and_right _ _ h))

-- how many losses of one file pass a test
abbrev pub own_count : HostId → Test → Content → ℕ
own_count host test content =
    count_by (λ span. test (Some span) None) (own_spans host content) + option_map_or (λ len. cond (test None (Some len)) 1 0) (own_length_of host content) 0

own_cell : (host : HostId) (o : Option Unsaved) → is_own host o ≡ is_of host (option_map written_byte o)
own_cell host None = refl
own_cell host (Some byte) = refl

-- a byte
pub byte_count : (host : HostId) (at : ℕ) (content : Content) → is_sound content ≡ true →
    own_count host (λ span len. option_map_or (λ span. has_byte span at) span false) content ≡ (if is_of host (byte_cell content at).unsaved then 1 else 0)
byte_count host at content s =
    ap (λ n. n + option_map_or (λ len. 0) (own_length_of host content) 0) (spans_once at (own_spans host content) (spans_are_maximal host content s))
    ∙ by_length (own_length_of host content)
    ∙ ap (λ b. if b then 1 else 0) (spans_are_exact host content at s ∙ own_cell host (shown content at).unsaved)
  where
    by_length : (o : Option ℕ) → (if in_spans (own_spans host content) at then 1 else 0) + option_map_or (λ len. 0) o 0 ≡ (if in_spans (own_spans host content) at then 1 else 0)
    by_length None = omega arith
    by_length (Some len) = omega arith

-- a length
pub length_count : (host : HostId) (len : ℕ) (content : Content) →
    own_count host (λ span lost. option_map_or (λ lost. lost == len) lost false) content ≡ option_map_or (λ own. if own == len then 1 else 0) (own_size host (size_cell content)) 0
length_count host len content =
    ap (λ n. n + option_map_or (λ lost. cond (lost == len) 1 0) (own_length_of host content) 0) (count_none (λ (span : Span). false) (λ span. refl) (own_spans host content))
    ∙ zero_add (option_map_or (λ lost. cond (lost == len) 1 0) (own_length_of host content) 0)
    ∙ ap (λ o. option_map_or (λ own. if own == len then 1 else 0) o 0) (by_content content)
  where
    zero_add : (n : ℕ) → 0 + n ≡ n
    zero_add n = omega arith

    by_option : (o : Option UnsavedLength) (kept : ℕ) → own_length host o ≡ own_size host (record { kept = kept; unsaved = option_map written_length o })
    by_option None kept = refl
    by_option (Some own) kept = refl

    by_content : (content : Content) → own_length_of host content ≡ own_size host (size_cell content)
    by_content (Dir entries lists) = refl
    by_content (File list kept unsaved len) = by_option len (length kept)

module _ (anodes : List Anode) (host : HostId) (server : ServerId) where
  -- the losses of one file, all on its path
  file_tested : (g : List (List ℕ) → Bool) (test : Test) (path : List (List ℕ)) (content : Content) →
      count_by (λ loss. g loss.path && test loss.span loss.length) (file_losses host server path content) ≡ (if g path then own_count host test content else 0)
  file_tested g test path content =
      count_append p (map (span_loss host server path) (own_spans host content)) (option_map_or (λ len. length_loss host server path len ∷ []) (own_length_of host content) [])
      ∙ ap (λ n. n + count_by p (option_map_or (λ len. length_loss host server path len ∷ []) (own_length_of host content) [])) (count_map p (span_loss host server path) (own_spans host content))
      ∙ ap (λ n. count_by (λ span. g path && test (Some span) None) (own_spans host content) + n) (by_length (own_length_of host content))
      ∙ by_test (g path)
    where
      p : Loss → Bool
      p loss = g loss.path && test loss.span loss.length

      by_length : (o : Option ℕ) → count_by (λ loss. g loss.path && test loss.span loss.length) (option_map_or (λ len. length_loss host server path len ∷ []) o []) ≡ option_map_or (λ len. cond (g path && test None (Some len)) 1 0) o 0
      by_length None = refl
      by_length (Some len) = count_cons (λ loss. g loss.path && test loss.span loss.length) (length_loss host server path len) [] ∙ add_zero (cond (g path && test None (Some len)) 1 0)
        where
          add_zero : (n : ℕ) → n + 0 ≡ n
          add_zero n = omega arith

      none_of : (o : Option ℕ) → ◌≡◌ {A = ℕ} (option_map_or (λ len. 0) o 0) 0
      none_of None = refl
      none_of (Some len) = refl

      by_test : (b : Bool) → count_by (λ span. b && test (Some span) None) (own_spans host content) + option_map_or (λ len. cond (b && test None (Some len)) 1 0) (own_length_of host content) 0 ≡ (if b then own_count host test content else 0)
      by_test true = refl
      by_test false = ap (λ n. n + option_map_or (λ len. 0) (own_length_of host content) 0) (count_none (λ (span : Span). false) (λ span. refl) (own_spans host content)) ∙ ap (λ n. 0 + n) (none_of (own_length_of host content))

  -- losses, told from where one stands
  abbrev pub rel : ℕ → Object → List Loss
  rel levels object = losses_below levels anodes host server [] object

  spans_prefixed : (path : List (List ℕ)) (spans : List Span) → map (span_loss host server path) spans ≡ map (prefixed path) (map (span_loss host server []) spans)
  spans_prefixed path [] = refl
  spans_prefixed path (span ∷ spans) =
      ap (λ p. span_loss host server p span ∷ map (span_loss host server path) spans) (sym (append-nil path))
      ∙ ap (λ rest. span_loss host server (path ++ []) span ∷ rest) (spans_prefixed path spans)

  length_prefixed : (path : List (List ℕ)) (o : Option ℕ) →
      option_map_or (λ len. length_loss host server path len ∷ []) o [] ≡ map (prefixed path) (option_map_or (λ len. length_loss host server [] len ∷ []) o [])
  length_prefixed path None = refl
  length_prefixed path (Some len) = ap (λ p. length_loss host server p len ∷ []) (sym (append-nil path))

  file_prefixed : (path : List (List ℕ)) (content : Content) → file_losses host server path content ≡ map (prefixed path) (file_losses host server [] content)
  file_prefixed path content =
      ap (λ rest. rest ++ option_map_or (λ len. length_loss host server path len ∷ []) (own_length_of host content) []) (spans_prefixed path (own_spans host content))
      ∙ ap (λ rest. map (prefixed path) (map (span_loss host server []) (own_spans host content)) ++ rest) (length_prefixed path (own_length_of host content))
      ∙ sym (map-append (prefixed path) (map (span_loss host server []) (own_spans host content)) (option_map_or (λ len. length_loss host server [] len ∷ []) (own_length_of host content) []))

  prefixed_twice : (path : List (List ℕ)) (name : List ℕ) (losses : List Loss) → map (prefixed (path ++ name ∷ [])) losses ≡ map (prefixed path) (map (prefixed (name ∷ [])) losses)
  prefixed_twice path name [] = refl
  prefixed_twice path name (loss ∷ losses) =
      ap (λ p. (let new : Loss = record loss { path = p } in new) ∷ map (prefixed (path ++ name ∷ [])) losses) (append_assoc path (name ∷ []) loss.path)
      ∙ ap (λ rest. prefixed path (prefixed (name ∷ []) loss) ∷ rest) (prefixed_twice path name losses)

  flat_same : {X Y : Type 0} (f g : X → List Y) → ((x : X) → f x ≡ g x) → (xs : List X) → flat_map f xs ≡ flat_map g xs
  flat_same f g same [] = refl
  flat_same f g same (x ∷ xs) = ap (λ ys. ys ++ flat_map f xs) (same x) ∙ ap (λ ys. g x ++ ys) (flat_same f g same xs)

  map_flat : {X Y Z : Type 0} (h : Y → Z) (f : X → List Y) (xs : List X) → map h (flat_map f xs) ≡ flat_map (λ x. map h (f x)) xs
  map_flat h f [] = refl
  map_flat h f (x ∷ xs) = map-append h (f x) (flat_map f xs) ∙ ap (λ ys. map h (f x) ++ ys) (map_flat h f xs)

  entry_prefixed : (levels : ℕ) (path : List (List ℕ)) (name : List ℕ) (o : Option Object) →
      ((path : List (List ℕ)) (object : Object) → losses_below levels anodes host server path object ≡ map (prefixed path) (rel levels object)) →
      option_map_or (losses_below levels anodes host server (path ++ name ∷ [])) o [] ≡ map (prefixed path) (option_map_or (losses_below levels anodes host server (name ∷ [])) o [])
  entry_prefixed levels path name None below = refl
  entry_prefixed levels path name (Some child) below =
      below (path ++ name ∷ []) child ∙ prefixed_twice path name (rel levels child) ∙ ap (map (prefixed path)) (sym (below (name ∷ []) child))

  pub below_prefixed : (levels : ℕ) (path : List (List ℕ)) (object : Object) → losses_below levels anodes host server path object ≡ map (prefixed path) (rel levels object)
  below_prefixed zero path object = refl
  below_prefixed (suc levels) path object =
      let below : List (List ℕ) → DirEntry → List Loss = λ path entry. option_map_or (losses_below levels anodes host server (path ++ entry.name ∷ [])) (object_at anodes entry.anode) [] in
      let entries = entries_in object.content in
      ap (λ rest. rest ++ flat_map (below path) entries) (file_prefixed path object.content)
      ∙ ap (λ rest. map (prefixed path) (file_losses host server [] object.content) ++ rest)
      (flat_same (below path) (λ entry. map (prefixed path) (below [] entry)) (λ entry. entry_prefixed levels path entry.name (object_at anodes entry.anode) (below_prefixed levels)) entries
      ∙ sym (map_flat (prefixed path) (below []) entries))
      ∙ sym (map-append (prefixed path) (file_losses host server [] object.content) (flat_map (below []) entries))

  -- level by level
  abbrev below_entry : ℕ → DirEntry → List Loss
  below_entry levels entry = option_map_or (λ child. map (prefixed (entry.name ∷ [])) (rel levels child)) (object_at anodes entry.anode) []

  rel_more : (levels : ℕ) (object : Object) → rel (suc levels) object ≡ file_losses host server [] object.content ++ flat_map (below_entry levels) (entries_in object.content)
  rel_more levels object =
      ap (λ rest. file_losses host server [] object.content ++ rest)
      (flat_same _ (below_entry levels) (λ entry. by_child entry.name (object_at anodes entry.anode)) (entries_in object.content))
    where
      by_child : (name : List ℕ) (o : Option Object) → option_map_or (losses_below levels anodes host server (name ∷ [])) o [] ≡ option_map_or (λ child. map (prefixed (name ∷ [])) (rel levels child)) o []
      by_child name None = refl
      by_child name (Some child) = below_prefixed levels (name ∷ []) child

  -- what an entry adds on a path
  pub entry_counted : (levels : ℕ) (first : List ℕ) (name : List ℕ) (names : List (List ℕ)) (test : Test) (o : Option Object) →
      count_by (on_path (name ∷ names) test) (option_map_or (λ child. map (prefixed (first ∷ [])) (rel levels child)) o [])
      ≡ (if same_name first name then count_by (on_path names test) (option_map_or (rel levels) o []) else 0)
  entry_counted levels first name names test None = by_test (same_name first name)
    where
      by_test : (b : Bool) → ◌≡◌ {A = ℕ} 0 (if b then 0 else 0)
      by_test true = refl
      by_test false = refl
  entry_counted levels first name names test (Some child) =
      count_map (on_path (name ∷ names) test) (prefixed (first ∷ [])) (rel levels child) ∙ by_test (same_name first name)
    where
      by_test : (b : Bool) → count_by (λ (loss : Loss). (b && pointwise same_name loss.path names) && test loss.span loss.length) (rel levels child) ≡ (if b then count_by (on_path names test) (rel levels child) else 0)
      by_test true = refl
      by_test false = count_none (λ (loss : Loss). false) (λ loss. refl) (rel levels child)

  -- where names lead to no object
  nowhere : (at : ℕ) (names : List (List ℕ)) → object_at anodes at ≡ None → option_and_then (object_at anodes) (leads anodes at names) ≡ None
  nowhere at [] h = h
  nowhere at (name ∷ names) h =
      ap (λ o. option_and_then (object_at anodes) (option_and_then (λ entry. leads anodes entry.anode names) (option_and_then (λ object. entry_in object.content name) o))) h

  in_entries : (content : Content) (name : List ℕ) → entry_named (entries_in content) name ≡ entry_in content name
  in_entries (Dir entries lists) name = refl
  in_entries (File list kept unsaved len) name = refl

  entries_rise : (content : Content) → is_sound content ≡ true → names_rise (entries_in content) ≡ true
  entries_rise (Dir entries lists) s = and_left _ _ s
  entries_rise (File list kept unsaved len) s = refl

  module _ (sound : (at : ℕ) (object : Object) → object_at anodes at ≡ Some object → is_sound object.content ≡ true) where
    abbrev pub there_count : Test → ℕ → List (List ℕ) → ℕ
    there_count test at names = option_map_or (λ object. own_count host test object.content) (option_and_then (object_at anodes) (leads anodes at names)) 0

    -- by the entry of the first name
    by_entry : (levels at : ℕ) (name : List ℕ) (names : List (List ℕ)) (test : Test) →
        ((at : ℕ) (object : Object) → object_at anodes at ≡ Some object → ((to : ℕ) → leads anodes at names ≡ Some to → length names < levels) → count_by (on_path names test) (rel levels object) ≡ there_count test at names) →
        ((to : ℕ) → leads anodes at (name ∷ names) ≡ Some to → suc (length names) < suc levels) → (o : Option DirEntry) → entry_at anodes at name ≡ o →
        option_map_or (λ entry. count_by (on_path names test) (option_map_or (rel levels) (object_at anodes entry.anode) [])) o 0 ≡ there_count test at (name ∷ names)
    by_entry levels at name names test below few None e = ap (λ o. option_map_or (λ object. own_count host test object.content) (option_and_then (object_at anodes) (option_and_then (λ entry. leads anodes entry.anode names) o)) 0) (sym e)
    by_entry levels at name names test below few (Some entry) e = by_child (object_at anodes entry.anode) refl ∙ sym here
      where
        here : there_count test at (name ∷ names) ≡ there_count test entry.anode names
        here = ap (λ o. option_map_or (λ object. own_count host test object.content) (option_and_then (object_at anodes) (option_and_then (λ entry. leads anodes entry.anode names) o)) 0) e

        by_child : (o : Option Object) → object_at anodes entry.anode ≡ o → count_by (on_path names test) (option_map_or (rel levels) o []) ≡ there_count test entry.anode names
        by_child None k = sym (ap (λ o. option_map_or (λ object. own_count host test object.content) o 0) (nowhere entry.anode names k))
        by_child (Some child) k = below entry.anode child k (λ to led. let more = few to (leads_first anodes at name names entry to e led) in omega (arith, more))

    -- how many losses on a path pass a test
    pub counted : (levels at : ℕ) (object : Object) (names : List (List ℕ)) (test : Test) → object_at anodes at ≡ Some object → ((to : ℕ) → leads anodes at names ≡ Some to → length names < levels) →
        count_by (on_path names test) (rel levels object) ≡ there_count test at names
    counted zero at object names test there few = by_lead (leads anodes at names) refl
      where
        by_lead : (o : Option ℕ) → leads anodes at names ≡ o → 0 ≡ option_map_or (λ object. own_count host test object.content) (option_and_then (object_at anodes) o) 0
        by_lead None e = refl
        by_lead (Some to) e = let wrong = few to e in absurd (omega (arith, wrong))
    counted (suc levels) at object [] test there few =
        ap (count_by (on_path [] test)) (rel_more levels object)
        ∙ count_append (on_path [] test) (file_losses host server [] object.content) (flat_map (below_entry levels) (entries_in object.content))
        ∙ ap (λ n. n + count_by (on_path [] test) (flat_map (below_entry levels) (entries_in object.content))) (file_tested (λ path. pointwise same_name path []) test [] object.content)
        ∙ ap (λ n. own_count host test object.content + n) (count_flat (on_path [] test) (below_entry levels) (entries_in object.content)
        ∙ sum_zero (λ entry. count_by (on_path [] test) (below_entry levels entry)) (λ entry. by_child entry.name (object_at anodes entry.anode)) (entries_in object.content))
        ∙ add_zero (own_count host test object.content)
        ∙ ap (λ o. option_map_or (λ object. own_count host test object.content) o 0) (sym there)
      where
        by_child : (name : List ℕ) (o : Option Object) → count_by (on_path [] test) (option_map_or (λ child. map (prefixed (name ∷ [])) (rel levels child)) o []) ≡ 0
        by_child name None = refl
        by_child name (Some child) = count_map (on_path [] test) (prefixed (name ∷ [])) (rel levels child) ∙ count_none (λ (loss : Loss). false) (λ loss. refl) (rel levels child)

        add_zero : (n : ℕ) → n + 0 ≡ n
        add_zero n = omega arith
    counted (suc levels) at object (name ∷ names) test there few =
        ap (count_by (on_path (name ∷ names) test)) (rel_more levels object)
        ∙ count_append (on_path (name ∷ names) test) (file_losses host server [] object.content) (flat_map (below_entry levels) (entries_in object.content))
        ∙ ap (λ n. n + count_by (on_path (name ∷ names) test) (flat_map (below_entry levels) (entries_in object.content))) (file_tested (λ path. pointwise same_name path (name ∷ names)) test [] object.content)
        ∙ zero_add (count_by (on_path (name ∷ names) test) (flat_map (below_entry levels) (entries_in object.content)))
        ∙ count_flat (on_path (name ∷ names) test) (below_entry levels) (entries_in object.content)
        ∙ sum_same (λ entry. count_by (on_path (name ∷ names) test) (below_entry levels entry)) (λ entry. if same_name entry.name name then d entry else 0)
        (λ entry. entry_counted levels entry.name name names test (object_at anodes entry.anode)) (entries_in object.content)
        ∙ sum_of_one (λ entry. same_name entry.name name) d (entries_in object.content) (named_once name (entries_in object.content) (entries_rise object.content (sound at object there)))
        ∙ ap (λ o. option_map_or d o 0) (in_entries object.content name ∙ sym (ap (option_and_then (λ object. entry_in object.content name)) there))
        ∙ by_entry levels at name names test (λ at object there few. counted levels at object names test there few) few (entry_at anodes at name) refl
      where
        d : DirEntry → ℕ
        d entry = count_by (on_path names test) (option_map_or (rel levels) (object_at anodes entry.anode) [])

        zero_add : (n : ℕ) → 0 + n ≡ n
        zero_add n = omega arith

  -- order
  file_ordered : (content : Content) → is_sound content ≡ true → each_two loss_before (file_losses host server [] content) ≡ true
  file_ordered content s =
      two_append loss_before (map (span_loss host server []) (own_spans host content)) (option_map_or (λ len. length_loss host server [] len ∷ []) (own_length_of host content) [])
      (two_map loss_before (span_loss host server []) (own_spans host content) (apart_two (own_spans host content) (spans_are_maximal host content s)))
      (one (own_length_of host content))
      (all_map (λ loss. list_all (loss_before loss) (option_map_or (λ len. length_loss host server [] len ∷ []) (own_length_of host content) [])) (span_loss host server []) (own_spans host content)
      (all_true _ (λ span. last span (own_length_of host content)) (own_spans host content)))
    where
      one : (o : Option ℕ) → each_two loss_before (option_map_or (λ len. length_loss host server [] len ∷ []) o []) ≡ true
      one None = refl
      one (Some len) = refl

      last : (span : Span) (o : Option ℕ) → list_all (loss_before (span_loss host server [] span)) (option_map_or (λ len. length_loss host server [] len ∷ []) o []) ≡ true
      last span None = refl
      last span (Some len) = refl

  -- the same below one directory
  prefixed_before : (name : List ℕ) (a b : Loss) → loss_before (prefixed (name ∷ []) a) (prefixed (name ∷ []) b) ≡ loss_before a b
  prefixed_before name a b =
      ap (λ t. (t || (same_name name name && path_before a.path b.path)) || ((same_name name name && pointwise same_name a.path b.path) && span_before a.span b.span)) (never_before name)
      ∙ ap (λ t. (t && path_before a.path b.path) || ((t && pointwise same_name a.path b.path) && span_before a.span b.span)) (same_self name)

  pub below_ordered : (name : List ℕ) (losses : List Loss) → each_two loss_before losses ≡ true → each_two loss_before (map (prefixed (name ∷ [])) losses) ≡ true
  below_ordered name losses h =
      two_map loss_before (prefixed (name ∷ [])) losses (two_implied loss_before (λ a b. loss_before (prefixed (name ∷ []) a) (prefixed (name ∷ []) b)) (λ a b e. prefixed_before name a b ∙ e) losses h)

  -- below two directories
  pub across_names : (a b : List ℕ) → is_before a b ≡ true → (xs ys : List Loss) → list_all (λ x. list_all (loss_before x) (map (prefixed (b ∷ [])) ys)) (map (prefixed (a ∷ [])) xs) ≡ true
  across_names a b h xs ys =
      all_map (λ x. list_all (loss_before x) (map (prefixed (b ∷ [])) ys)) (prefixed (a ∷ [])) xs
      (all_true (λ x. list_all (loss_before (prefixed (a ∷ []) x)) (map (prefixed (b ∷ [])) ys)) (λ x. all_map (loss_before (prefixed (a ∷ []) x)) (prefixed (b ∷ [])) ys
      (all_true (λ y. loss_before (prefixed (a ∷ []) x) (prefixed (b ∷ []) y)) (λ y. ap (λ t. (t || (same_name a b && path_before x.path y.path)) || ((same_name a b && pointwise same_name x.path y.path) && span_before x.span y.span)) h) ys)) xs)

  module _ (sound : (at : ℕ) (object : Object) → object_at anodes at ≡ Some object → is_sound object.content ≡ true) where
    across_entries : (levels : ℕ) (a b : List ℕ) (o p : Option Object) → is_before a b ≡ true →
        list_all (λ x. list_all (loss_before x) (option_map_or (λ child. map (prefixed (b ∷ [])) (rel levels child)) p [])) (option_map_or (λ child. map (prefixed (a ∷ [])) (rel levels child)) o []) ≡ true
    across_entries levels a b None p h = refl
    across_entries levels a b (Some child) None h = all_true (λ x. true) (λ x. refl) (map (prefixed (a ∷ [])) (rel levels child))
    across_entries levels a b (Some child) (Some other) h = across_names a b h (rel levels child) (rel levels other)

    -- a directory comes before what is in it
    file_first : (levels : ℕ) (loss : Loss) (entries : List DirEntry) → loss.path ≡ [] → list_all (loss_before loss) (flat_map (below_entry levels) entries) ≡ true
    file_first levels loss entries e = all_flat (loss_before loss) (below_entry levels) entries (all_true _ (λ entry. by_child entry.name (object_at anodes entry.anode)) entries)
      where
        first : (name : List ℕ) (other : Loss) → loss_before loss (prefixed (name ∷ []) other) ≡ true
        first name other = ap (λ path. path_before path (name ∷ other.path) || (pointwise same_name path (name ∷ other.path) && span_before loss.span other.span)) e

        by_child : (name : List ℕ) (o : Option Object) → list_all (loss_before loss) (option_map_or (λ child. map (prefixed (name ∷ [])) (rel levels child)) o []) ≡ true
        by_child name None = refl
        by_child name (Some child) = all_map (loss_before loss) (prefixed (name ∷ [])) (rel levels child) (all_true _ (first name) (rel levels child))

    all_first : (levels : ℕ) (content : Content) (entries : List DirEntry) → list_all (λ loss. list_all (loss_before loss) (flat_map (below_entry levels) entries)) (file_losses host server [] content) ≡ true
    all_first levels content entries =
        all_appended _ (map (span_loss host server []) (own_spans host content)) (option_map_or (λ len. length_loss host server [] len ∷ []) (own_length_of host content) [])
        (all_map _ (span_loss host server []) (own_spans host content) (all_true _ (λ span. file_first levels (span_loss host server [] span) entries refl) (own_spans host content)))
        (by_length (own_length_of host content))
      where
        by_length : (o : Option ℕ) → list_all (λ loss. list_all (loss_before loss) (flat_map (below_entry levels) entries)) (option_map_or (λ len. length_loss host server [] len ∷ []) o []) ≡ true
        by_length None = refl
        by_length (Some len) = and_both _ _ (file_first levels (length_loss host server [] len) entries refl) refl

    pub ordered : (levels at : ℕ) (object : Object) → object_at anodes at ≡ Some object → each_two loss_before (rel levels object) ≡ true
    ordered zero at object there = refl
    ordered (suc levels) at object there =
        ap (each_two loss_before) (rel_more levels object)
        ∙ two_append loss_before (file_losses host server [] object.content) (flat_map (below_entry levels) (entries_in object.content))
        (file_ordered object.content (sound at object there))
        (two_flat (λ a b. is_before a.name b.name) loss_before (below_entry levels) (λ a b h. across_entries levels a.name b.name (object_at anodes a.anode) (object_at anodes b.anode) h) (entries_in object.content)
        (rise_two (entries_in object.content) (entries_rise object.content (sound at object there)))
        (all_true _ (λ entry. by_child (ordered levels) entry.name entry.anode (object_at anodes entry.anode) refl) (entries_in object.content)))
        (all_first levels object.content (entries_in object.content))
      where
        by_child : ((at : ℕ) (object : Object) → object_at anodes at ≡ Some object → each_two loss_before (rel levels object) ≡ true) → (name : List ℕ) (at : ℕ) (o : Option Object) → object_at anodes at ≡ o →
            each_two loss_before (option_map_or (λ child. map (prefixed (name ∷ [])) (rel levels child)) o []) ≡ true
        by_child below name at None e = refl
        by_child below name at (Some child) e = below_ordered name (rel levels child) (below at child e)

    -- what is told of each loss
    abbrev pub is_told : ℕ → Loss → Bool
    is_told at loss = (loss.host.0 == host.0) && (loss.server.0 == server.0) && is_some (leads anodes at loss.path) && is_of_either loss.span loss.length

    found_itself : (entries : List DirEntry) (i : ℕ) (entry : DirEntry) → names_rise entries ≡ true → slice_get entries i ≡ Some entry → entry_named entries entry.name ≡ Some entry
    found_itself [] i entry r h = absurd (search (rules, h))
    found_itself (x ∷ xs) zero entry r h = let same : x ≡ entry = cc in subst (λ e. entry_named (e ∷ xs) entry.name ≡ Some entry) (sym same) (ap (λ t. cond t (Some entry) (entry_named xs entry.name)) (same_self entry.name))
    found_itself (x ∷ xs) (suc i) entry r h =
        let before : is_before x.name entry.name ≡ true = get_all (λ other. is_before x.name other.name) xs i entry (sym h) (and_left _ _ r) in
        ap (λ t. cond t (Some x) (entry_named xs entry.name)) (other_name x.name entry.name before) ∙ found_itself xs i entry (and_right _ _ r) h
      where
        other_name : (a b : List ℕ) → is_before a b ≡ true → same_name a b ≡ false
        other_name a b h = by_test (same_name a b) refl
          where
            by_test : (t : Bool) → same_name a b ≡ t → t ≡ false
            by_test true e = let one : a ≡ b = names_equal a b e in no_file (sym (never_before b) ∙ subst (λ n. is_before n b ≡ true) one h)
            by_test false e = refl

    all_in : {X : Type 0} (p : X → Bool) (xs : List X) → ((i : ℕ) (x : X) → slice_get xs i ≡ Some x → p x ≡ true) → list_all p xs ≡ true
    all_in p [] h = refl
    all_in p (x ∷ xs) h = and_both _ _ (h 0 x refl) (all_in p xs (λ i y e. h (suc i) y e))

    file_told : (at : ℕ) (content : Content) → is_sound content ≡ true → list_all (is_told at) (file_losses host server [] content) ≡ true
    file_told at content s =
        all_appended (is_told at) (map (span_loss host server []) (own_spans host content)) (option_map_or (λ len. length_loss host server [] len ∷ []) (own_length_of host content) [])
        (all_map (is_told at) (span_loss host server []) (own_spans host content)
        (all_implied (λ span. nat_lt span.from span.to) (λ span. is_told at (span_loss host server [] span)) (λ span h. rw (same_number host.0, same_number server.0) h) (own_spans host content) (own_wide host content s)))
        (by_length (own_length_of host content))
      where
        by_length : (o : Option ℕ) → list_all (is_told at) (option_map_or (λ len. length_loss host server [] len ∷ []) o []) ≡ true
        by_length None = refl
        by_length (Some len) = rw (same_number host.0, same_number server.0) refl

    pub told : (levels at : ℕ) (object : Object) → object_at anodes at ≡ Some object → list_all (is_told at) (rel levels object) ≡ true
    told zero at object there = refl
    told (suc levels) at object there =
        ap (list_all (is_told at)) (rel_more levels object)
        ∙ all_appended (is_told at) (file_losses host server [] object.content) (flat_map (below_entry levels) (entries_in object.content))
        (file_told at object.content (sound at object there))
        (all_flat (is_told at) (below_entry levels) (entries_in object.content) (all_in _ (entries_in object.content) (λ i entry e.
        by_child (told levels) entry
        (ap (option_and_then (λ object. entry_in object.content entry.name)) there ∙ sym (in_entries object.content entry.name) ∙ found_itself (entries_in object.content) i entry (entries_rise object.content (sound at object there)) e)
        (object_at anodes entry.anode) refl)))
      where
        by_child : ((at : ℕ) (object : Object) → object_at anodes at ≡ Some object → list_all (is_told at) (rel levels object) ≡ true) → (entry : DirEntry) → entry_at anodes at entry.name ≡ Some entry → (o : Option Object) →
            object_at anodes entry.anode ≡ o → list_all (is_told at) (option_map_or (λ child. map (prefixed (entry.name ∷ [])) (rel levels child)) o []) ≡ true
        by_child below entry led None e = refl
        by_child below entry led (Some child) e =
            all_map (is_told at) (prefixed (entry.name ∷ [])) (rel levels child)
            (all_implied (is_told entry.anode) (λ loss. is_told at (prefixed (entry.name ∷ []) loss)) (λ loss h.
            ap (λ o. (loss.host.0 == host.0) && (loss.server.0 == server.0) && is_some (option_and_then (λ e. leads anodes e.anode loss.path) o) && is_of_either loss.span loss.length) led ∙ h)
            (rel levels child) (below entry.anode child e))
