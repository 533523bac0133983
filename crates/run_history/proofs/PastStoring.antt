-- What a give-back leaves of what a server keeps is what is kept of what it leaves of the tree.
use Rattle.std.proofs.Common.{Bool, List, None, Option, Some, ap, arith, false, inl, inr, nat_lt, refl, subst, suc}
use Rattle.std.proofs.Common.{sym, true, ℕ, not, ◌&&◌, ◌+◌, ◌-◌, ◌==◌, ◌∙◌, ◌∷◌, ◌≡◌, ◌≢◌}
use Rattle.std.proofs.lemmas.Bool.{and_parts, false≢true}
use Rattle.std.proofs.lemmas.Grind.{common_steps}
use Rattle.std.specs.List.{find, list_all, prefix_len}
use Rattle.std.specs.Option.{option_map, option_map_or}
use Rattle.std.specs.Prelude.{[], filter, if◌then◌else◌, map}
use Rattle.base_types.specs.Lists.{changed_at}
use Rattle.base_types.specs.declared.ids.Fid.{Fid}
use Rattle.base_types.specs.declared.ids.FilesetId.{FilesetId}
use Rattle.base_types.specs.declared.ids.HostId.{HostId}
use Rattle.base_types.specs.declared.ids.ServerId.{ServerId}
use Rattle.base_types.specs.declared.span.Span.{Span}
use Rattle.tree_calls.specs.declared.part.Piece.{Piece}
use Rattle.tree_filesets.proofs.Mapped.{mapped_unique}
use Rattle.tree_filesets.proofs.Observations.{object_not_zero}
use Rattle.tree_filesets.specs.Laws.{is_file_at}
use Rattle.tree_filesets.specs.Updates.{changed, updated}
use Rattle.tree_filesets.specs.Walk.{object_at, unique_at}
use Rattle.tree_filesets.specs.declared.fileset.Fileset.{Fileset}
use Rattle.need_host.specs.Looks.{kept_view}
use Rattle.tree_objects.specs.Changes.{content_changed}
use Rattle.tree_objects.specs.Objects.{is_dir}
use Rattle.tree_objects.specs.Stores.{content_stored}
use Rattle.tree_objects.specs.declared.content.Content.{Content}
use Rattle.tree_objects.specs.declared.content.Content.TheVariants.{Dir, File}
use Rattle.tree_objects.specs.declared.content.Object.{Object}
use Rattle.tree_answers.proofs.Inserted.{position_or_end}
use Rattle.tree_answers.specs.Finding.{has_id}
use Rattle.tree_answers.specs.Founding.{room_of}
use Rattle.tree_answers.specs.Stores.{place_with_id, stored_tree}
use Rattle.tree_answers.specs.WellFormed.{ids_rise}
use Rattle.tree_answers.specs.declared.tree.Tree.{Tree}
use Rattle.need_server.specs.Kept.{content_settled, kept_fileset}
use Rattle.need_laws.proofs.Contents.{kept_changed, map_twice, same_bytes, seen_changed}
use Rattle.need_laws.specs.Known.{SameAt, records_of}
use Rattle.tree_laws.proofs.Objects.{use_named}
use Rattle.tree_laws.proofs.Steps.{find_mapped, number_is, same_number}
use Rattle.tree_laws.proofs.TreeFates.{use_mapped}
use Rattle.tree_laws.specs.Fates.{names_use}
use Rattle.tree_laws.specs.Parts.{Cell, Part, Seen, byte_cell, cell_at, cell_of, object_in, size_cell}
use Rattle.tree_laws.specs.Parts.Part.{ByteAt, Size}
use Rattle.run_history.specs.Changes.{are_home, is_home}
use Rattle.run_history.proofs.Keeping.{all_mapped, filter_mapped, found_in, from_list, in_filter, is_its, its_filesets}
use Rattle.run_history.proofs.Keeping.{kept_list, map_in}
use Rattle.run_history.specs.PastStanding.{KeepsAs}
use Rattle.run_rules.specs.Kept.{content_given, takes_gifts, tree_given}
use Rattle.run_rules.specs.Messages.{home}
use Rattle.run_rules.specs.Past.{In}

-- a file in which the same is kept then
stored_given : (host : HostId) (spans : List Span) (len : Option ℕ) (pieces : List Piece) (content : Content)
    → (size_cell (content_stored host spans len content)).kept
    ≡ (size_cell (content_given pieces len (content_settled content))).kept
    → ((at : ℕ) → (byte_cell (content_stored host spans len content) at).kept
    ≡ (byte_cell (content_given pieces len (content_settled content)) at).kept)
    → content_settled (content_stored host spans len content) ≡ content_given pieces len (content_settled content)
stored_given host spans len pieces (Dir entries lists) size bytes = refl
stored_given host spans len pieces (File list kept unsaved unsaved_len) size bytes = same_bytes list _ _ size bytes

-- one fileset of a list changes
abbrev on_id : FilesetId → (Fileset → Fileset) → Fileset → Fileset
on_id id change x = if has_id id x then change x else x

none_else : (id : FilesetId) (change : Fileset → Fileset) (x : Fileset) (xs : List Fileset) → has_id id x ≡ true
    → list_all (λ other. nat_lt x.id.0 other.id.0) xs ≡ true → map (on_id id change) xs ≡ xs
none_else id change x [] its above = refl
none_else id change x (y ∷ ys) its above =
    let k = and_parts (nat_lt x.id.0 y.id.0) (list_all (λ (other : Fileset). nat_lt x.id.0 other.id.0) ys) above in
    let before : nat_lt x.id.0 y.id.0 ≡ true = k.0 in
    let it : (x.id.0 == id.0) ≡ true = its in
    let not_it : (y.id.0 == id.0) ≡ false = grind (arith, common_steps, before, it) in
    ap (λ (b : Bool). (if b then change y else y) ∷ map (on_id id change) ys) not_it
    ∙ ap (λ zs. y ∷ zs) (none_else id change x ys its k.1)

first_changed : (id : FilesetId) (change : Fileset → Fileset) (xs : List Fileset) → ids_rise xs ≡ true
    → changed_at xs (prefix_len (λ x. not (has_id id x)) xs) change ≡ map (on_id id change) xs
first_changed id change [] rise = refl
first_changed id change (x ∷ xs) rise = go (has_id id x) refl (first_changed id change xs k.1)
  where
    k : (list_all (λ other. nat_lt x.id.0 other.id.0) xs ≡ true) × (ids_rise xs ≡ true)
    k = and_parts (list_all (λ (other : Fileset). nat_lt x.id.0 other.id.0) xs) (ids_rise xs) rise

    one : 1 + prefix_len (λ x. not (has_id id x)) xs ≡ suc (prefix_len (λ x. not (has_id id x)) xs)
    one = omega arith

    go : (b : Bool) → has_id id x ≡ b
        → changed_at xs (prefix_len (λ x. not (has_id id x)) xs) change ≡ map (on_id id change) xs
        → changed_at (x ∷ xs) (if not b then 1 + prefix_len (λ x. not (has_id id x)) xs else 0) change
        ≡ (if b then change x else x) ∷ map (on_id id change) xs
    go true e rest = ap (λ ys. change x ∷ ys) (sym (none_else id change x xs e k.0))
    go false e rest = ap (λ n. changed_at (x ∷ xs) n change) one ∙ ap (λ ys. x ∷ ys) rest

as_map : (id : FilesetId) (change : Fileset → Fileset) (xs : List Fileset) → ids_rise xs ≡ true
    → changed_at xs (place_with_id xs id) change ≡ map (on_id id change) xs
as_map id change xs rise =
    ap (λ n. changed_at xs n change) (position_or_end (has_id id) xs) ∙ first_changed id change xs rise

-- a fileset stays itself
module _ (id : FilesetId) (anode : ℕ) (change : Content → Content) where
  abbrev content_change : Fileset → Fileset
  content_change fileset = changed fileset anode change

  by_test : (P : Fileset → Type 0) (x : Fileset) → P (changed x anode change) → P x
      → P (on_id id (λ fileset. changed fileset anode change) x)
  by_test P x new old = go (has_id id x)
    where
      go : (b : Bool) → P (if b then changed x anode change else x)
      go true = new
      go false = old

  stays_its : (v : ServerId) (x : Fileset)
      → is_its v (on_id id (λ fileset. changed fileset anode change) x) ≡ is_its v x
  unfolding updated
  stays_its v x = by_test (λ y. is_its v y ≡ is_its v x) x refl refl

  stays_home : (x : Fileset) → is_home (on_id id (λ fileset. changed fileset anode change) x) ≡ is_home x
  unfolding updated
  stays_home x = by_test (λ y. is_home y ≡ is_home x) x refl refl

  stays_id : (other : FilesetId) (x : Fileset)
      → has_id other (on_id id (λ fileset. changed fileset anode change) x) ≡ has_id other x
  unfolding updated
  stays_id other x = by_test (λ y. has_id other y ≡ has_id other x) x refl refl

  -- the fileset is found changed
  found_changed : (xs : List Fileset) (x : Fileset) → ids_rise xs ≡ true → find (has_id id) xs ≡ Some x
      → has_id id x ≡ true
      → find (has_id id) (changed_at xs (place_with_id xs id) (λ fileset. changed fileset anode change))
      ≡ Some (changed x anode change)
  found_changed xs x rise found its =
      ap (λ ys. find (has_id id) ys) (as_map id (λ fileset. changed fileset anode change) xs rise)
      ∙ (find_mapped (has_id id) (on_id id (λ fileset. changed fileset anode change)) (stays_id id) xs
      ∙ (ap (λ (o : Option Fileset). option_map (on_id id (λ fileset. changed fileset anode change)) o) found
      ∙ ap (λ (b : Bool). Some (if b then changed x anode change else x)) its))

-- what a give-back `pieces`, `len` of a file leaves of what the server keeps, and what storing it leaves of the tree
module _ (v : ServerId) (K t : Tree) (keeps : KeepsAs v K t) (unmoved : t.away ≡ []) (rise : ids_rise t.filesets ≡ true)
    (rise_kept : ids_rise K.filesets ≡ true) (host : HostId) (fid : Fid) (spans : List Span) (len : Option ℕ)
    (pieces : List Piece) (takes : takes_gifts K fid ≡ true) where
  abbrev t' : Tree
  t' = stored_tree t host fid spans len

  abbrev K' : Tree
  K' = tree_given K fid pieces len

  abbrev storing : Fileset → Fileset
  storing fileset = changed fileset fid.anode (content_stored host spans len)

  abbrev giving : Fileset → Fileset
  giving fileset = changed fileset fid.anode (content_given pieces len)

  tree_filesets : t'.filesets
      ≡ map (on_id fid.fileset (λ fileset. changed fileset fid.anode (content_stored host spans len))) t.filesets
  unfolding stored_tree
  tree_filesets = as_map fid.fileset (λ fileset. changed fileset fid.anode
      (content_stored host spans len)) t.filesets rise

  -- the server's tree
  abbrev given_tree : Bool → Tree
  given_tree b = if b
      then record K {
        filesets = changed_at K.filesets (place_with_id K.filesets fid.fileset)
            (λ fileset. changed fileset fid.anode (content_given pieces len));
      }
      else K

  is_given : K' ≡ given_tree true
  unfolding tree_given
  is_given = ap given_tree takes

  kept_filesets : K'.filesets
      ≡ map (on_id fid.fileset (λ fileset. changed fileset fid.anode (content_given pieces len))) K.filesets
  kept_filesets =
      ap (λ (k : Tree). k.filesets) is_given
      ∙ as_map fid.fileset (λ fileset. changed fileset fid.anode (content_given pieces len)) K.filesets rise_kept

  -- a fileset of the server with the id
  module _ (x : Fileset) (i : In x (filter (is_its v) t.filesets)) (its : has_id fid.fileset x ≡ true) where
    found : find (has_id fid.fileset) t.filesets ≡ Some x
    found = found_in fid.fileset t.filesets x rise (in_filter (is_its v) t.filesets x i) its

    in_map : (xs : List Fileset) → In x xs → In (kept_fileset x) (map kept_fileset xs)
    in_map [] i = elim i [ ]
    in_map (y ∷ ys) (inl e) = inl (ap kept_fileset e)
    in_map (y ∷ ys) (inr j) = inr (in_map ys j)

    found_kept : find (has_id fid.fileset) K.filesets ≡ Some (kept_fileset x)
    found_kept = found_in fid.fileset K.filesets (kept_fileset x) rise_kept
        (subst (λ xs. In (kept_fileset x) xs) (sym (kept_list v K t keeps unmoved))
        (in_map (filter (is_its v) t.filesets) i)) its

    is_file : is_file_at (kept_fileset x) fid ≡ true
    is_file =
        (and_parts (not x.read_only) (is_file_at (kept_fileset x) fid)
        (ap (λ (o : Option Fileset). option_map_or (λ fileset. not fileset.read_only && is_file_at fileset fid) o false)
        (sym found_kept) ∙ takes)).1

    number : (unique_at x.anodes fid.anode == fid.unique) ≡ true
    number =
        ap (λ n. n == fid.unique) (sym (mapped_unique content_settled x.anodes (fid.anode - 1)))
        ∙ (and_parts (unique_at (kept_fileset x).anodes fid.anode == fid.unique)
        (option_map_or (λ (object : Object). not (is_dir object.content)) (object_at (kept_fileset x).anodes fid.anode)
        false) is_file).0

    names : names_use x fid.anode fid ≡ true
    names =
        ap (λ (b : Bool). b && (unique_at x.anodes fid.anode == fid.unique)) (same_number fid.anode) ∙ number

    names_kept : names_use (kept_fileset x) fid.anode fid ≡ true
    names_kept =
        ap (λ (n : ℕ). (fid.anode == fid.anode) && (n == fid.unique))
        (mapped_unique content_settled x.anodes (fid.anode - 1))
        ∙ names

    module _ (same : (p : Part) → kept_view K' fid p ≡ (cell_at t' fid p).kept) (object : Object)
        (there : object_at x.anodes fid.anode ≡ Some object) where
      place_is : fid.anode ≢ 0
      place_is = object_not_zero x.anodes fid.anode object there

      it : object_in x fid ≡ Some object
      it = use_named x fid.anode fid names ∙ there

      kept_it : object_in (kept_fileset x) fid ≡ Some (content_changed content_settled object)
      kept_it =
          use_mapped x (kept_fileset x) content_settled fid refl
          ∙ ap (λ (o : Option Object). option_map (content_changed content_settled) o) it

      seen_tree : (p : Part) → cell_at t' fid p
          ≡ cell_of x.read_only (content_changed (content_stored host spans len) object) p
      unfolding stored_tree
      seen_tree p =
          seen_changed x fid.anode (content_stored host spans len) t'.filesets fid object p
          (found_changed fid.fileset fid.anode (content_stored host spans len) t.filesets x rise found its) it names
          place_is

      seen_kept : (p : Part) → cell_at K' fid p
          ≡ cell_of x.read_only (content_changed (content_given pieces len) (content_changed content_settled object)) p
      seen_kept p =
          ap (λ (k : Tree). cell_at k fid p) is_given
          ∙ seen_changed (kept_fileset x) fid.anode (content_given pieces len) (given_tree true).filesets fid
          (content_changed content_settled object) p
          (found_changed fid.fileset fid.anode (content_given pieces len) K.filesets
          (kept_fileset x) rise_kept found_kept
          its) kept_it names_kept place_is

      shown : (p : Part) → (cell_of x.read_only (content_changed (content_stored host spans len) object) p).kept
          ≡ (cell_of x.read_only (content_changed (content_given pieces len)
          (content_changed content_settled object)) p).kept
      shown p =
          ap (λ (c : Cell (Seen p)). c.kept) (sym (seen_tree p))
          ∙ (sym (same p) ∙ ap (λ (c : Cell (Seen p)). c.kept) (seen_kept p))

      content_same : content_settled (content_stored host spans len object.content)
          ≡ content_given pieces len (content_settled object.content)
      content_same = stored_given host spans len pieces object.content (shown Size) (λ at. shown (ByteAt at))

    both_there : ((p : Part) → kept_view K' fid p ≡ (cell_at t' fid p).kept)
        → kept_fileset (changed x fid.anode (content_stored host spans len))
        ≡ changed (kept_fileset x) fid.anode (content_given pieces len)
    both_there same = go (object_at x.anodes fid.anode) refl
      where
        file : option_map_or (λ (object : Object). not (is_dir object.content))
            (object_at (kept_fileset x).anodes fid.anode) false ≡ true
        file =
            (and_parts (unique_at (kept_fileset x).anodes fid.anode == fid.unique)
            (option_map_or (λ (object : Object). not (is_dir object.content)) (object_at
            (kept_fileset x).anodes fid.anode)
            false) is_file).1

        none_kept : object_at x.anodes fid.anode ≡ None → object_in (kept_fileset x) fid ≡ None
        none_kept e =
            use_mapped x (kept_fileset x) content_settled fid refl
            ∙ ap (λ (o : Option Object). option_map (content_changed content_settled) o)
            (use_named x fid.anode fid names ∙ e)

        go : (o : Option Object) → object_at x.anodes fid.anode ≡ o
            → kept_fileset (changed x fid.anode (content_stored host spans len))
            ≡ changed (kept_fileset x) fid.anode (content_given pieces len)
        go (Some object) e =
            kept_changed x fid.anode (content_stored host spans len) (content_given pieces len)
            (object_not_zero x.anodes fid.anode object e) (λ other k. content_same same other k)
        go None e = absurd (false≢true
            (ap (λ (o : Option Object). option_map_or (λ object. not (is_dir object.content)) o false)
            (sym (none_kept e) ∙ use_named (kept_fileset x) fid.anode fid names_kept)
            ∙ file))

  -- then the server keeps what is kept of the tree
  module _ (same : (p : Part) → kept_view K' fid p ≡ (cell_at t' fid p).kept) where
    each : (x : Fileset) → In x (filter (is_its v) t.filesets)
        → kept_fileset (on_id fid.fileset (λ fileset. changed fileset fid.anode (content_stored host spans len)) x)
        ≡ on_id fid.fileset (λ fileset. changed fileset fid.anode (content_given pieces len)) (kept_fileset x)
    each x i = go (has_id fid.fileset x) refl
      where
        go : (b : Bool) → has_id fid.fileset x ≡ b
            → kept_fileset (if b then changed x fid.anode (content_stored host spans len) else x)
            ≡ (if b then changed (kept_fileset x) fid.anode (content_given pieces len) else kept_fileset x)
        go true e = both_there x i e same
        go false e = refl

    list_then : K'.filesets ≡ map kept_fileset (filter (is_its v) t'.filesets)
    list_then =
        let ys = filter (is_its v) t.filesets in
        let f = on_id fid.fileset (λ fileset. changed fileset fid.anode (content_stored host spans len)) in
        let g = on_id fid.fileset (λ fileset. changed fileset fid.anode (content_given pieces len)) in
        kept_filesets
        ∙ (ap (λ xs. map g xs) (kept_list v K t keeps unmoved)
        ∙ (map_twice g kept_fileset ys
        ∙ (sym (map_in (λ x. kept_fileset (f x)) (λ x. g (kept_fileset x)) ys each)
        ∙ (sym (map_twice kept_fileset f ys)
        ∙ (ap (λ xs. map kept_fileset xs)
        (sym (filter_mapped (is_its v) (is_its v) f
        (stays_its fid.fileset fid.anode (content_stored host spans len) v) t.filesets))
        ∙ ap (λ xs. map kept_fileset (filter (is_its v) xs)) (sym tree_filesets))))))

    own_then : list_all (is_its v) K'.filesets ≡ true
    own_then =
        ap (λ xs. list_all (is_its v) xs) kept_filesets
        ∙ (all_mapped (is_its v) (is_its v)
        (on_id fid.fileset (λ fileset. changed fileset fid.anode (content_given pieces len)))
        (stays_its fid.fileset fid.anode (content_given pieces len) v) K.filesets
        ∙ keeps.own)

    pub keeps_given : KeepsAs v K' t'
    unfolding stored_tree
    keeps_given = record {
      same = from_list v K' t' (ap (λ (k : Tree). k.roster) is_given ∙ keeps.same.roster)
          (ap (λ (k : Tree). room_of k.servers v) is_given ∙ keeps.same.room)
          (ap (λ (k : Tree). records_of v k) is_given ∙ keeps.same.records) own_then unmoved list_then;
      own = own_then;
      locks = ap (λ (k : Tree). k.locks) is_given ∙ keeps.locks;
      opens = ap (λ (k : Tree). k.opens) is_given ∙ keeps.opens;
    }

  pub stored_home : are_home t ≡ true → are_home t' ≡ true
  stored_home homes =
      ap (λ xs. list_all is_home xs) tree_filesets
      ∙ (all_mapped is_home is_home
      (on_id fid.fileset (λ fileset. changed fileset fid.anode (content_stored host spans len)))
      (stays_home fid.fileset fid.anode (content_stored host spans len)) t.filesets
      ∙ homes)

-- for any other server the tree is the same
module _ (w : ServerId) (id : FilesetId) (anode : ℕ) (change : Content → Content) (other : home id ≡ w → ⊥) where
  not_its : (x : Fileset) → is_home x ≡ true → has_id id x ≡ true → is_its w x ≡ false
  not_its x at its = go (is_its w x) refl
    where
      go : (b : Bool) → is_its w x ≡ b → is_its w x ≡ false
      go false e = e
      go true e =
          let one : x.id ≡ id = ap (λ (n : ℕ). record { 0 = n }) (number_is x.id.0 id.0 its) in
          let mine : x.server ≡ w = ap (λ (n : ℕ). record { 0 = n }) (number_is x.server.0 w.0 e) in
          let there : x.server ≡ home x.id = ap (λ (n : ℕ). record { 0 = n }) (number_is x.server.0 (home x.id).0 at) in
          absurd (other (ap home (sym one) ∙ (sym there ∙ mine)))

  others_left : (xs : List Fileset) → list_all is_home xs ≡ true
      → filter (is_its w) (map (on_id id (λ fileset. changed fileset anode change)) xs) ≡ filter (is_its w) xs
  others_left [] e = refl
  others_left (x ∷ xs) e =
      ap (λ (b : Bool). if b
      then on_id id (λ fileset. changed fileset anode change) x
      ∷ filter (is_its w) (map (on_id id (λ fileset. changed fileset anode change)) xs)
      else filter (is_its w) (map (on_id id (λ fileset. changed fileset anode change)) xs))
      (stays_its id anode change w x)
      ∙ (ap (λ ys. if is_its w x then on_id id (λ fileset. changed fileset anode change) x ∷ ys else ys)
      (others_left xs (and_parts (is_home x) (list_all is_home xs) e).1)
      ∙ go (has_id id x) refl)
    where
      dropped : (b : Bool) → b ≡ false → (y : Fileset)
          → (if b then y ∷ filter (is_its w) xs else filter (is_its w) xs)
          ≡ (if b then x ∷ filter (is_its w) xs else filter (is_its w) xs)
      dropped true q y = absurd (false≢true (sym q))
      dropped false q y = refl

      go : (b : Bool) → has_id id x ≡ b
          → (if is_its w x then (if b then changed x anode change else x) ∷ filter (is_its w) xs
          else filter (is_its w) xs)
          ≡ (if is_its w x then x ∷ filter (is_its w) xs else filter (is_its w) xs)
      go false q = refl
      go true q = dropped (is_its w x)
          (not_its x (and_parts (is_home x) (list_all is_home xs) e).0 q) (changed x anode change)

pub stored_others : (w : ServerId) (t : Tree) (host : HostId) (fid : Fid) (spans : List Span) (len : Option ℕ)
    → (home fid.fileset ≡ w → ⊥) → ids_rise t.filesets ≡ true → are_home t ≡ true → t.away ≡ []
    → SameAt w t (stored_tree t host fid spans len)
unfolding stored_tree
stored_others w t host fid spans len other rise homes unmoved = record {
  roster = refl;
  room = refl;
  filesets = its_filesets w t unmoved
      ∙ (sym (ap (λ xs. filter (is_its w) xs)
      (as_map fid.fileset (λ fileset. changed fileset fid.anode (content_stored host spans len)) t.filesets rise)
      ∙ others_left w fid.fileset fid.anode (content_stored host spans len) other t.filesets homes)
      ∙ sym (its_filesets w (stored_tree t host fid spans len) unmoved));
  records = refl;
}

-- what storing leaves as it is
pub stored_rest : (t : Tree) (host : HostId) (fid : Fid) (spans : List Span) (len : Option ℕ)
    → (let new = stored_tree t host fid spans len in
    (new.roster ≡ t.roster) × (new.away ≡ t.away) × (new.servers ≡ t.servers) × (new.locks ≡ t.locks)
    × (new.opens ≡ t.opens))
unfolding stored_tree
stored_rest t host fid spans len = (refl, refl, refl, refl, refl)
