-- What each call on an anode makes of what its slot keeps.
use Rattle.std.proofs.Common.{◌≡◌, ◌≢◌, ◌<◌, ◌≤◌, ◌∙◌, ℕ, zero, suc, ◌+◌, List, [], ◌∷◌, length, get_or, refl, sym, subst, arith}
use Rattle.std.specs.Prelude.{Bool, true, false, Option, Some, None, Result, OnOk, ◌&&◌, is_none, nat_lt, if◌then◌else◌, slice_get}
use Rattle.std.specs.Option.{option_map_or}
use Rattle.std.proofs.lemmas.Bool.Decides.{nat_tests}
use Rattle.std.proofs.lemmas.Result.{on_ok_weaker}
use Rattle.base_types.specs.declared.access.AccessEntry.{AccessEntry}
use Rattle.tree_calls.specs.declared.part.DirEntry.{DirEntry}
use Rattle.tree_calls.specs.declared.place.Which.{Which}
use Rattle.tree_objects.specs.declared.content.Anode.{Anode}
use Rattle.tree_objects.specs.declared.content.Content.{Content}
use Rattle.tree_objects.specs.declared.content.Content.TheVariants.{Dir, File}
use Rattle.tree_objects.specs.declared.content.Object.{Object}
use Rattle.tree_objects.specs.Changes.{anode_changed, anode_freed, content_truncated}
use Rattle.tree_objects.specs.Entries.{entry_named, content_with_entry, content_without_entry}
use Rattle.tree_objects.specs.Objects.{is_dir, list_index, content_with_list}
use Rattle.base_types.specs.declared.limits.TheConstants.{UNIQUE_MAX}
use Rattle.tree_filesets.specs.Laws.{lists_in}
use Rattle.disk_log.specs.State.{State}
use Rattle.disk_anode.specs.Anode.{Anode as Kept, anode_in, made, with_length, with_list, freed, IsBare}
use Rattle.disk_anode.specs.Changes.{own_names, WritesLoose, Changed, Made, SharesBlocks}
use Rattle.disk_anode.specs.Node.{node_in, no_names}
use Rattle.disk_anode.specs.declared.fault.NodeFault.{NodeFault}
use Rattle.disk_lists.specs.Lists.{list_bytes, HoldsList}
use Rattle.disk_lists.specs.Entries.{entered, without, with_entries, IsDirectory}
use Rattle.disk_objects.specs.Objects.{list_byte, object_kept, kept_of, page_for, anode_at, with_anode, FitsContent, KeepsNow, HeldNow}
use Rattle.disk_objects.specs.Holds.{no_anode, NamesApart}
use Rattle.disk_objects.proofs.Contents.{with_list_kept, with_length_kept, directory_kept, list_fits, truncated_fits, freed_kept, vacant_kind}
use Rattle.disk_objects.proofs.Keeping.{in_page, content_there, fits_there, anode_there, kept_there, content_turned, made_turned, keeps_changed, keeps_copied, keeps_content}
use Rattle.disk_fileset.specs.Slots.{HasList, is_file, IsFile, IsDir, takes_name, TakesName, IsVacant, TakesObject, used_by, blank_content}
use Rattle.disk_fileset.proofs.Changing.{on_ok_two}

none_of : {A : Type 0} (o : Option A) → is_none o ≡ true → o ≡ None
none_of None e = refl
none_of (Some x) e = absurd (grind (arith, e))

pub both : (a b : Bool) → (a && b) ≡ true → (a ≡ true) × (b ≡ true)
both true true e = (refl, refl)
both true false e = absurd (grind (arith, e))
both false b e = absurd (grind (arith, e))

module _ (slots : ℕ → List Anode) (slot n : ℕ) (low : slot < 16) (some : 1 ≤ n) (few : n ≤ 64) (page : ℕ) (at : page ≡ page_for slot n)
    (old new : State) (before after : List ℕ) (rest : new ≡ record old { puts = new.puts }) (keeps : KeepsNow slots old before)
    (result : Result (Unit {0}) NodeFault) where
  abbrev anode : Anode
  anode = anode_at (slots slot) n

  -- an access list
  pub list_turns : (which : Which) (list : List AccessEntry) (number : ℕ) → number ≡ list_index which → HasList slot n which slots
      → WritesLoose (own_names old before (node_in old before page)) old before before after
      → OnOk result (Changed page (with_list number (list_bytes list)) old before new after)
      → OnOk result (HoldsList list ((anode_in new after page).lists number))
      → OnOk result (KeepsNow (with_anode slot n (anode_changed (content_with_list which list)) slots) new after)
  list_turns which list number same has writes changed held =
      let found = content_there (anode_at (slots slot) n) (λ content. nat_lt (list_index which) (length (lists_in content))) has in
      let lt : list_index which < length (lists_in found.2) = (let e = found.4 in grind (arith, nat_tests, e)) in
      let change : Content → Content = content_with_list which list in
      let fits = fits_there slots slot n low some few page at change old new before after rest keeps _ found.3 in
      on_ok_two result (λ (c : Changed page (with_list number (list_bytes list)) old before new after) (h : HoldsList list ((anode_in new after page).lists number)).
      keeps_content slots slot n low some few page at change old new before after rest keeps _ found.3
      (with_list number (list_bytes list)) c writes
      ((λ i. with_list (same i) (list_bytes list) (object_kept (anode_at (slots slot) n).unique (record { owner = found.0; group = found.1; content = found.2 })))
      ∙ with_list_kept which list (anode_at (slots slot) n).unique found.0 found.1 found.2 lt)
      (list_fits which list found.2 fits.content (h.list, h.each)))
      changed held

  -- an entry of a directory, and the name of one
  -- a directory
  module _ (owner group : List ℕ) (entries : List DirEntry) (lists : List (List AccessEntry))
      (is : (anode_at (slots slot) n).object ≡ Some (record { owner = owner; group = group; content = Dir entries lists })) where
    dir_fits : (change : Content → Content) → FitsContent (Dir entries lists)
    dir_fits change = (fits_there slots slot n low some few page at change old new before after rest keeps _ is).content

    pub dir_there : (change : Content → Content) → IsDirectory entries (anode_in old before page)
    dir_there change = subst (λ (a : Kept). IsDirectory entries a) (sym (anode_there slots slot n low some few page at change old new before after rest keeps _ is))
        (directory_kept (anode_at (slots slot) n).unique owner group entries lists (dir_fits change))

    pub dir_turns : (change : Content → Content) (others : List DirEntry) → change (Dir entries lists) ≡ Dir others lists
        → WritesLoose (own_names old before (node_in old before page)) old before before after
        → OnOk result (Changed page (with_entries others) old before new after) → OnOk result (IsDirectory others (anode_in new after page))
        → OnOk result (KeepsNow (with_anode slot n (anode_changed change) slots) new after)
    dir_turns change others is_change writes changed directory =
        let fits = dir_fits change in
        on_ok_two result (λ (c : Changed page (with_entries others) old before new after) (d : IsDirectory others (anode_in new after page)).
        keeps_content slots slot n low some few page at change old new before after rest keeps _ is
        (with_entries others) c writes
        (λ i. object_kept (anode_at (slots slot) n).unique (record { owner = owner; group = group; content = sym is_change i }))
        (subst (λ (content : Content). FitsContent content) (sym is_change) (d.few, d.each, d.rise, fits.3, fits.4)))
        changed directory

  pub enter_turns : (entry : DirEntry) → TakesName slot n entry.name slots → WritesLoose (own_names old before (node_in old before page)) old before before after
      → ((entries : List DirEntry) → IsDirectory entries (anode_in old before page) → entry_named entries entry.name ≡ None → length entries < 64
      → OnOk result (Changed page (with_entries (entered entry entries)) old before new after))
      → ((entries : List DirEntry) → IsDirectory entries (anode_in old before page) → entry_named entries entry.name ≡ None → length entries < 64
      → OnOk result (IsDirectory (entered entry entries) (anode_in new after page)))
      → OnOk result (KeepsNow (with_anode slot n (anode_changed (content_with_entry entry)) slots) new after)
  enter_turns entry takes writes changed directory = let found = content_there (anode_at (slots slot) n) (takes_name entry.name) takes in by found.0 found.1 found.2 found.3 found.4
    where
      by : (owner group : List ℕ) (content : Content) → (anode_at (slots slot) n).object ≡ Some (record { owner = owner; group = group; content = content }) → takes_name entry.name content ≡ true
          → OnOk result (KeepsNow (with_anode slot n (anode_changed (content_with_entry entry)) slots) new after)
      by owner group (File list kept unsaved len) is takes = absurd (grind (arith, takes))
      by owner group (Dir entries lists) is takes =
          let tests = both (is_none (entry_named entries entry.name)) (nat_lt (length entries) 64) takes in
          let none = none_of (entry_named entries entry.name) tests.0 in
          let lt : length entries < 64 = (let e = tests.1 in grind (arith, nat_tests, e)) in
          let dir = dir_there owner group entries lists is (content_with_entry entry) in
          dir_turns owner group entries lists is (content_with_entry entry) (entered entry entries) refl writes (changed entries dir none lt) (directory entries dir none lt)

  -- the same, of what follows from the change alone
  pub enter_any : (A : Type 0) (entry : DirEntry) → TakesName slot n entry.name slots
      → ((entries : List DirEntry) → IsDirectory entries (anode_in old before page) → entry_named entries entry.name ≡ None → length entries < 64
      → OnOk result (Changed page (with_entries (entered entry entries)) old before new after))
      → ((others : List DirEntry) → Changed page (with_entries others) old before new after → A) → OnOk result A
  enter_any A entry takes changed gives = let found = content_there (anode_at (slots slot) n) (takes_name entry.name) takes in by found.0 found.1 found.2 found.3 found.4
    where
      by : (owner group : List ℕ) (content : Content) → (anode_at (slots slot) n).object ≡ Some (record { owner = owner; group = group; content = content }) → takes_name entry.name content ≡ true → OnOk result A
      by owner group (File list kept unsaved len) is takes = absurd (grind (arith, takes))
      by owner group (Dir entries lists) is takes =
          let tests = both (is_none (entry_named entries entry.name)) (nat_lt (length entries) 64) takes in
          let none = none_of (entry_named entries entry.name) tests.0 in
          let lt : length entries < 64 = (let e = tests.1 in grind (arith, nat_tests, e)) in
          let dir = dir_there owner group entries lists is (content_with_entry entry) in
          on_ok_weaker result (λ (c : Changed page (with_entries (entered entry entries)) old before new after). gives (entered entry entries) c) (changed entries dir none lt)

  pub leave_any : (A : Type 0) (name : List ℕ) → IsDir slot n slots
      → ((entries : List DirEntry) → IsDirectory entries (anode_in old before page) → OnOk result (Changed page (with_entries (without name entries)) old before new after))
      → ((others : List DirEntry) → Changed page (with_entries others) old before new after → A) → OnOk result A
  leave_any A name isdir changed gives = let found = content_there (anode_at (slots slot) n) is_dir isdir in by found.0 found.1 found.2 found.3 found.4
    where
      by : (owner group : List ℕ) (content : Content) → (anode_at (slots slot) n).object ≡ Some (record { owner = owner; group = group; content = content }) → is_dir content ≡ true → OnOk result A
      by owner group (File list kept unsaved len) is isdir = absurd (grind (arith, isdir))
      by owner group (Dir entries lists) is isdir =
          let dir = dir_there owner group entries lists is (content_without_entry name) in
          on_ok_weaker result (λ (c : Changed page (with_entries (without name entries)) old before new after). gives (without name entries) c) (changed entries dir)

  pub leave_turns : (name : List ℕ) → IsDir slot n slots → WritesLoose (own_names old before (node_in old before page)) old before before after
      → ((entries : List DirEntry) → IsDirectory entries (anode_in old before page) → OnOk result (Changed page (with_entries (without name entries)) old before new after))
      → ((entries : List DirEntry) → IsDirectory entries (anode_in old before page) → OnOk result (IsDirectory (without name entries) (anode_in new after page)))
      → OnOk result (KeepsNow (with_anode slot n (anode_changed (content_without_entry name)) slots) new after)
  leave_turns name isdir writes changed directory = let found = content_there (anode_at (slots slot) n) is_dir isdir in by found.0 found.1 found.2 found.3 found.4
    where
      by : (owner group : List ℕ) (content : Content) → (anode_at (slots slot) n).object ≡ Some (record { owner = owner; group = group; content = content }) → is_dir content ≡ true
          → OnOk result (KeepsNow (with_anode slot n (anode_changed (content_without_entry name)) slots) new after)
      by owner group (File list kept unsaved len) is isdir = absurd (grind (arith, isdir))
      by owner group (Dir entries lists) is isdir =
          let dir = dir_there owner group entries lists is (content_without_entry name) in
          dir_turns owner group entries lists is (content_without_entry name) (without name entries) refl writes (changed entries dir) (directory entries dir)

  -- a file, of which nothing is unsaved
  module _ (file : IsFile slot n slots) where
    pub file_there : (owner : List ℕ) × (group : List ℕ) × (list : List AccessEntry) × (kept : List ℕ)
        × ((anode_at (slots slot) n).object ≡ Some (record { owner = owner; group = group; content = File list kept [] None }))
    file_there = let found = content_there (anode_at (slots slot) n) is_file file in by found.0 found.1 found.2 found.3 found.4
      where
        by : (owner group : List ℕ) (content : Content) → (anode_at (slots slot) n).object ≡ Some (record { owner = owner; group = group; content = content }) → is_file content ≡ true
            → (owner : List ℕ) × (group : List ℕ) × (list : List AccessEntry) × (kept : List ℕ)
            × ((anode_at (slots slot) n).object ≡ Some (record { owner = owner; group = group; content = File list kept [] None }))
        by owner group (Dir entries lists) is file = absurd (grind (arith, file))
        by owner group (File list kept unsaved len) is file =
            let fits = (fits_there slots slot n low some few page at (λ content. content) old new before after rest keeps _ is).content in
            let none : unsaved ≡ [] = fits.1 in
            let same : len ≡ None = fits.2 in
            (owner, group, list, kept, is ∙ (λ i. Some (record { owner = owner; group = group; content = File list kept (none i) (same i) })))

    pub truncate_turns : (size : ℕ) → size ≤ 65536 → WritesLoose (own_names old before (node_in old before page)) old before before after
        → OnOk result (Changed page (with_length size) old before new after) → OnOk result (KeepsNow (with_anode slot n (anode_changed (content_truncated size)) slots) new after)
    truncate_turns size le writes changed =
        let found = file_there in
        let fits = (fits_there slots slot n low some few page at (content_truncated size) old new before after rest keeps _ found.4).content in
        on_ok_weaker result (λ (c : Changed page (with_length size) old before new after).
        keeps_content slots slot n low some few page at (content_truncated size) old new before after rest keeps _ found.4
        (with_length size) c writes (with_length_kept size (anode_at (slots slot) n).unique found.0 found.1 found.2 found.3 le) (truncated_fits size found.2 found.3 le fits.3))
        changed

  -- an object that goes
  pub vacate_turns : WritesLoose (own_names old before (node_in old before page)) old before before after
      → OnOk result (Changed page freed old before new after) → OnOk result (IsBare after (node_in new after page))
      → OnOk result (KeepsNow (with_anode slot n anode_freed slots) new after)
  vacate_turns writes changed bare = on_ok_two result (λ (c : Changed page freed old before new after) (b : IsBare after (node_in new after page)).
      keeps_changed slots slot n low some few page at anode_freed old new before after rest keeps tt freed c writes (freed_kept (anode_at (slots slot) n)) (λ free. b.none))
      changed bare

  -- and one that is copied
  pub copy_turns : (from source : ℕ) → source ≡ page_for from n → from < 16 → from ≢ slot → IsVacant slot n slots → NamesApart (page_for slot n) (node_in old before (page_for from n)) old before → WritesLoose no_names old before before after
      → OnOk result (Made page (anode_in old before source) old before new after)
      → OnOk result (SharesBlocks page (node_in old before source) old before new after)
      → OnOk result (KeepsNow (with_anode slot n (λ free. anode_at (slots from) n) slots) new after)
  copy_turns from source of from_low apart vacant clear writes made shares = on_ok_two result
      (λ (m : Made page (anode_in old before source) old before new after) (s : SharesBlocks page (node_in old before source) old before new after).
      keeps_copied slots slot n low some few page at (λ free. anode_at (slots from) n) old new before after rest keeps ((keeps.each from from_low).each n some few) from n source of from_low some few
      (λ e. apart (omega (arith, e))) (vacant_kind (anode_at (slots slot) n) vacant) m s writes clear refl)
      made shares

-- objects that are being made
pub nothing_listed : (dir : Bool) (v k : ℕ) → list_byte (lists_in (blank_content dir)) v k ≡ 0
nothing_listed dir v k = by dir (nat_lt k 1024) v k
  where
    no_byte : (k : ℕ) → ◌≡◌ {A = ℕ} (get_or (0 ∷ []) k 0) 0
    no_byte zero = refl
    no_byte (suc k) = refl

    empty : (b : Bool) (k : ℕ) → ◌≡◌ {A = ℕ} (if b then get_or (0 ∷ []) k 0 else 0) 0
    empty true k = no_byte k
    empty false k = refl

    nothing : (b : Bool) (k : ℕ) → ◌≡◌ {A = ℕ} (if b then get_or [] k 0 else 0) 0
    nothing true k = refl
    nothing false k = refl

    by : (dir b : Bool) (v k : ℕ) → ◌≡◌ {A = ℕ} (if b then get_or (option_map_or list_bytes (slice_get (lists_in (blank_content dir)) v) []) k 0 else 0) 0
    by true b zero k = empty b k
    by true b (suc zero) k = empty b k
    by true b (suc (suc zero)) k = empty b k
    by true b (suc (suc (suc v))) k = nothing b k
    by false b zero k = empty b k
    by false b (suc v) k = nothing b k

unique_there : (anode : Anode) → (kept_of anode).unique ≡ anode.unique
unique_there anode = by anode.object
  where
    by : (o : Option Object) → (option_map_or (object_kept anode.unique) o (record no_anode { unique = anode.unique })).unique ≡ anode.unique
    by None = refl
    by (Some object) = refl

pub made_blank : (dir : Bool) (owner group : List ℕ) (anode : Anode)
    → made dir owner group (kept_of anode) ≡ kept_of (used_by (record { owner = owner; group = group; content = blank_content dir }) anode)
made_blank dir owner group anode = by dir (nothing_listed dir)
  where
    by : (dir : Bool) → ((v k : ℕ) → list_byte (lists_in (blank_content dir)) v k ≡ 0)
        → made dir owner group (kept_of anode) ≡ kept_of (used_by (record { owner = owner; group = group; content = blank_content dir }) anode)
    by true none = λ i. record {
      kind = 1;
      unique = unique_there anode i + 1;
      length = 0;
      owner = owner;
      group = group;
      lists = λ which k. sym (none which k) i;
      content = λ k. 0;
    }
    by false none = λ i. record {
      kind = 2;
      unique = unique_there anode i + 1;
      length = 0;
      owner = owner;
      group = group;
      lists = λ which k. sym (none which k) i;
      content = λ k. 0;
    }

-- the unique number of an anode, which can rise where it takes a new object
pub unique_here : (slots : ℕ → List Anode) (slot n : ℕ) → slot < 16 → 1 ≤ n → n ≤ 64 → (page : ℕ) → page ≡ page_for slot n → (state : State) (image : List ℕ) → HeldNow slots state image
    → (anode_in state image page).unique ≡ (anode_at (slots slot) n).unique
unique_here slots slot n low some few page at state image held =
    (λ i. (anode_in state image (at i)).unique) ∙ (λ i. (in_page slots slot n low some few state image held.held i).unique) ∙ unique_there (anode_at (slots slot) n)

pub unique_low : (slots : ℕ → List Anode) (slot n : ℕ) → slot < 16 → 1 ≤ n → n ≤ 64 → (page : ℕ) → page ≡ page_for slot n → (state : State) (image : List ℕ) → HeldNow slots state image
    → TakesObject slot n slots → (anode_in state image page).unique < 4294967295
unique_low slots slot n low some few page at state image held takes =
    let e = unique_here slots slot n low some few page at state image held in
    let on = (both (is_none (anode_at (slots slot) n).object) (nat_lt (anode_at (slots slot) n).unique UNIQUE_MAX) takes).1 in
    let lt : (anode_at (slots slot) n).unique < UNIQUE_MAX = grind (arith, nat_tests, on) in
    omega (arith, e, lt)

module _ (slots : ℕ → List Anode) (slot n : ℕ) (low : slot < 16) (some : 1 ≤ n) (few : n ≤ 64) (page : ℕ) (at : page ≡ page_for slot n)
    (old new : State) (before after : List ℕ) (rest : new ≡ record old { puts = new.puts }) (held : HeldNow slots old before) where
  pub begin_turns : {T : Type 0} (result : Result T NodeFault) (dir : Bool) (owner group : List ℕ) → TakesObject slot n slots → after ≡ before
      → OnOk result (Made page (made dir owner group (anode_in old before page)) old before new after) → OnOk result (IsBare after (node_in new after page))
      → OnOk result (HeldNow (with_anode slot n (used_by (record { owner = owner; group = group; content = blank_content dir })) slots) new after)
  begin_turns result dir owner group takes quiet made_there bare =
      let anode : Anode = anode_at (slots slot) n in
      let none = (both (is_none anode.object) (nat_lt anode.unique UNIQUE_MAX) takes).0 in
      let here = kept_there slots slot n low some few page at old new before after rest held in
      on_ok_two result (λ (m : Made page (made dir owner group (anode_in old before page)) old before new after) (b : IsBare after (node_in new after page)).
      made_turned slots slot n low some few page at old new before after rest held (used_by (record { owner = owner; group = group; content = blank_content dir }))
      (made dir owner group (anode_in old before page)) (vacant_kind anode none) quiet m b
      ((λ i. made dir owner group (here i)) ∙ made_blank dir owner group anode))
      made_there bare

  pub fill_turns : {T : Type 0} (result : Result T NodeFault) (which : Which) (list : List AccessEntry) (number : ℕ) → number ≡ list_index which → HasList slot n which slots
      → WritesLoose (own_names old before (node_in old before page)) old before before after
      → OnOk result (Changed page (with_list number (list_bytes list)) old before new after)
      → OnOk result (HeldNow (with_anode slot n (anode_changed (content_with_list which list)) slots) new after)
  fill_turns result which list number same has writes changed =
      let found = content_there (anode_at (slots slot) n) (λ content. nat_lt (list_index which) (length (lists_in content))) has in
      let lt : list_index which < length (lists_in found.2) = (let e = found.4 in grind (arith, nat_tests, e)) in
      on_ok_weaker result (λ (c : Changed page (with_list number (list_bytes list)) old before new after).
      content_turned slots slot n low some few page at old new before after rest held (content_with_list which list) _ found.3
      (with_list number (list_bytes list)) c writes
      ((λ i. with_list (same i) (list_bytes list) (object_kept (anode_at (slots slot) n).unique (record { owner = found.0; group = found.1; content = found.2 })))
      ∙ with_list_kept which list (anode_at (slots slot) n).unique found.0 found.1 found.2 lt))
      changed
