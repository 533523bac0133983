-- What calls make of anodes that are put as they are.
use Rattle.std.proofs.Common.{◌≡◌, ◌<◌, ◌≤◌, ℕ, ◌+◌, ◌-◌, List, [], ◌∷◌, length, get_or, refl, sym, ◌∙◌, subst, inr, arith}
use Rattle.std.specs.Prelude.{Bool, true, false, ◌==◌, ◌&&◌, if◌then◌else◌, nat_lt, nat_le, max, Option, Some, None, Result, OnOk}
use Rattle.std.specs.Option.{option_map}
use Rattle.std.proofs.lemmas.Bool.Decides.{nat_tests}
use Rattle.std.proofs.lemmas.List.{get_or_past}
use Rattle.std.proofs.lemmas.Result.{on_ok_weaker}
use Rattle.base_types.specs.declared.access.AccessEntry.{AccessEntry}
use Rattle.tree_calls.specs.declared.part.DirEntry.{DirEntry}
use Rattle.tree_filesets.specs.Creation.{occupied}
use Rattle.tree_objects.specs.declared.content.Anode.{Anode}
use Rattle.tree_objects.specs.declared.content.Content.{Content}
use Rattle.tree_objects.specs.declared.content.Content.TheVariants.{Dir, File}
use Rattle.tree_objects.specs.declared.content.Object.{Object}
use Rattle.tree_objects.specs.declared.content.Unsaved.{Unsaved}
use Rattle.tree_objects.specs.declared.content.UnsavedLength.{UnsavedLength}
use Rattle.tree_objects.specs.Changes.{anode_changed}
use Rattle.tree_objects.specs.Sound.{names_rise}
use Rattle.disk_log.specs.State.{State}
use Rattle.disk_anode.specs.Anode.{Anode as Kept, anode_in, bare_anode, length_for, over, written, IsBare}
use Rattle.disk_anode.specs.Changes.{own_names, WritesLoose, Changed, Made}
use Rattle.disk_anode.specs.Node.{node_in}
use Rattle.disk_anode.specs.declared.fault.NodeFault.{NodeFault}
use Rattle.disk_anode.proofs.Laid.{over_inside, over_outside}
use Rattle.disk_lists.specs.Entries.{with_entries, IsDirectory}
use Rattle.disk_objects.specs.Objects.{object_kept, kept_of, page_for, anode_at, with_anode, FitsContent, KeepsNow, HeldNow}
use Rattle.disk_objects.proofs.Contents.{vacant_kind}
use Rattle.disk_objects.proofs.Keeping.{fits_there, made_turned, keeps_made, keeps_content}
use Rattle.disk_fileset.specs.Slots.{blank_content, is_listed, is_whole, emptied, numbered, IsBlank, IsEmptied, IsVacant}
use Rattle.disk_fileset.proofs.Changing.{on_ok_two}
use Rattle.disk_fileset.proofs.Turns.{nothing_listed, dir_there, dir_turns}
use Rattle.disk_fileset.proofs.Twice.{anode_here, anode_twice}

-- an object without lists, entries or bytes
pub blank_kept : (dir : Bool) (unique : ℕ) (owner group : List ℕ)
    → bare_anode (if dir then 1 else 2) unique owner group ≡ object_kept unique (record { owner = owner; group = group; content = blank_content dir })
blank_kept true unique owner group = λ i. record {
  kind = 1;
  unique = unique;
  length = 0;
  owner = owner;
  group = group;
  lists = λ which k. sym (nothing_listed true which k) i;
  content = λ k. 0;
}
blank_kept false unique owner group = λ i. record {
  kind = 2;
  unique = unique;
  length = 0;
  owner = owner;
  group = group;
  lists = λ which k. sym (nothing_listed false which k) i;
  content = λ k. 0;
}

pub blank_put : (slots : ℕ → List Anode) (slot n unique : ℕ) (dir other : Bool) (owner group : List ℕ) → 1 ≤ n → n ≤ length (slots slot) → dir ≡ other
    → IsBlank slot n other (with_anode slot n (occupied unique (record { owner = owner; group = group; content = blank_content dir })) slots)
blank_put slots slot n unique dir other owner group some there same =
    (λ i. option_map (λ (object : Object). object.content) (anode_here slots slot n (occupied unique (record { owner = owner; group = group; content = blank_content dir })) some there i).object)
    ∙ (λ i. Some (blank_content (same i)))

pub emptied_put : (slots : ℕ → List Anode) (slot n unique : ℕ) (owner group : List ℕ) (content : Content) → 1 ≤ n → n ≤ length (slots slot)
    → IsEmptied slot n content (with_anode slot n (occupied unique (record { owner = owner; group = group; content = emptied content })) slots)
emptied_put slots slot n unique owner group content some there =
    λ i. option_map (λ (object : Object). object.content) (anode_here slots slot n (occupied unique (record { owner = owner; group = group; content = emptied content })) some there i).object

-- what is whole
three : (a b c : Bool) → (a && b && c) ≡ true → (a ≡ true) × (b ≡ true) × (c ≡ true)
three true true true is = (refl, refl, refl)
three true true false is = absurd (grind (arith, is))
three true false c is = absurd (grind (arith, is))
three false b c is = absurd (grind (arith, is))

whole_dir : (entries : List DirEntry) (lists : List (List AccessEntry)) → is_whole (Dir entries lists) ≡ true → (length entries ≤ 64) × (length lists ≡ 3) × (names_rise entries ≡ true)
whole_dir entries lists is =
    let all = three (nat_le (length entries) 64) (length lists == 3) (names_rise entries) is in
    let most = all.0 in
    let three_lists = all.1 in
    (grind (arith, nat_tests, most), grind (arith, nat_tests, three_lists), all.2)

whole_file : (list : List AccessEntry) (kept : List ℕ) (unsaved : List Unsaved) (len : Option UnsavedLength) → is_whole (File list kept unsaved len) ≡ true → (length kept ≤ 65536) × (unsaved ≡ []) × (len ≡ None)
whole_file list kept [] None is = (grind (arith, nat_tests, is), refl, refl)
whole_file list kept [] (Some length) is = absurd (grind (arith, is))
whole_file list kept (byte ∷ unsaved) len is = absurd (grind (arith, is))

pub whole_listed : (content : Content) → is_whole content ≡ true → is_listed content ≡ true
whole_listed (Dir entries lists) is = (three (nat_le (length entries) 64) (length lists == 3) (names_rise entries) is).1
whole_listed (File list kept unsaved len) is = refl

pub whole_most : (content : Content) (entries : List DirEntry) (lists : List (List AccessEntry)) → content ≡ Dir entries lists → is_whole content ≡ true → length entries ≤ 64
whole_most content entries lists at is = (whole_dir entries lists ((λ i. is_whole (sym at i)) ∙ is)).0

pub whole_rise : (content : Content) (entries : List DirEntry) (lists : List (List AccessEntry)) → content ≡ Dir entries lists → is_whole content ≡ true → names_rise entries ≡ true
whole_rise content entries lists at is = (whole_dir entries lists ((λ i. is_whole (sym at i)) ∙ is)).2

pub whole_bytes : (content : Content) (list : List AccessEntry) (kept : List ℕ) (unsaved : List Unsaved) (len : Option UnsavedLength) → content ≡ File list kept unsaved len → is_whole content ≡ true → length kept ≤ 65536
whole_bytes content list kept unsaved len at is = (whole_file list kept unsaved len ((λ i. is_whole (sym at i)) ∙ is)).0

-- an object with this content
there_so : (o : Option Object) (content : Content) → option_map (λ (object : Object). object.content) o ≡ Some content → (owner : List ℕ) × (group : List ℕ) × (o ≡ Some (record { owner = owner; group = group; content = content }))
there_so None content is = absurd (cc)
there_so (Some object) content is = (let same : object.content ≡ content = cc in (object.owner, object.group, λ i. Some (record { owner = object.owner; group = object.group; content = same i })))

-- bytes that are written to an empty file
written_bytes : (kept : List ℕ) (k : ℕ) → over 0 kept (λ j. 0) k ≡ get_or kept k 0
written_bytes kept k = by (nat_lt k (length kept)) refl
  where
    by : (a : Bool) → nat_lt k (length kept) ≡ a → over 0 kept (λ j. 0) k ≡ get_or kept k 0
    by true e =
        let lt : k < length kept = grind (arith, nat_tests, e) in
        let same : k - 0 ≡ k = omega arith in
        over_inside 0 kept (λ j. 0) k (omega arith) (omega (arith, lt)) ∙ (λ i. get_or kept (same i) 0)
    by false e =
        let le : length kept ≤ k = grind (arith, nat_tests, e) in
        over_outside 0 kept (λ j. 0) k (inr (omega (arith, le))) ∙ sym (get_or_past kept k 0 le)

written_length : (kept : List ℕ) → max 0 (length_for 2 (if length kept == 0 then 0 else 0 + length kept)) ≡ length kept
written_length kept = by (length kept == 0) refl
  where
    by : (a : Bool) → (length kept == 0) ≡ a → max 0 (if a then 0 else 0 + length kept) ≡ length kept
    by true e = (let none : length kept ≡ 0 = grind (arith, nat_tests, e) in omega (arith, none))
    by false e = omega arith

pub written_kept : (unique : ℕ) (owner group : List ℕ) (list : List AccessEntry) (kept : List ℕ)
    → written 0 kept (object_kept unique (record { owner = owner; group = group; content = File list [] [] None }))
    ≡ object_kept unique (record { owner = owner; group = group; content = File list kept [] None })
written_kept unique owner group list kept =
    let base : Kept = object_kept unique (record { owner = owner; group = group; content = File list [] [] None }) in
    λ i. record base { length = written_length kept i; content = λ k. written_bytes kept k i }

module _ (slots : ℕ → List Anode) (slot n : ℕ) (low : slot < 16) (some : 1 ≤ n) (few : n ≤ 64) (page : ℕ) (at : page ≡ page_for slot n)
    (old new : State) (before after : List ℕ) (rest : new ≡ record old { puts = new.puts }) where
  -- an anode that is made
  pub start_turns : {T : Type 0} (result : Result T NodeFault) (held : HeldNow slots old before) (anode : Kept) (change : Anode → Anode) → IsVacant slot n slots → after ≡ before
      → anode ≡ kept_of (change (anode_at (slots slot) n))
      → OnOk result (Made page anode old before new after) → OnOk result (IsBare after (node_in new after page)) → OnOk result (HeldNow (with_anode slot n change slots) new after)
  start_turns result held anode change vacant quiet is made bare = on_ok_two result
      (λ (m : Made page anode old before new after) (b : IsBare after (node_in new after page)).
      made_turned slots slot n low some few page at old new before after rest held change anode (vacant_kind (anode_at (slots slot) n) vacant) quiet m b is)
      made bare

  module _ (result : Result (Unit {0}) NodeFault) (keeps : KeepsNow slots old before) where
    -- a number
    pub number_turns : (unique : ℕ) → IsVacant slot n slots → after ≡ before
        → OnOk result (Made page (bare_anode 0 unique [] []) old before new after) → OnOk result (IsBare after (node_in new after page))
        → OnOk result (KeepsNow (with_anode slot n (numbered unique) slots) new after)
    number_turns unique vacant quiet made bare = on_ok_two result
        (λ (m : Made page (bare_anode 0 unique [] []) old before new after) (b : IsBare after (node_in new after page)).
        keeps_made slots slot n low some few page at (numbered unique) old new before after rest keeps tt (bare_anode 0 unique [] []) (vacant_kind (anode_at (slots slot) n) vacant) quiet m b refl)
        made bare

    -- entries
    module _ (content : Content) (entries : List DirEntry) (lists : List (List AccessEntry)) (is : content ≡ Dir entries lists) (empty : IsEmptied slot n content slots) where
      found : (owner : List ℕ) × (group : List ℕ) × ((anode_at (slots slot) n).object ≡ Some (record { owner = owner; group = group; content = Dir [] lists }))
      found = there_so (anode_at (slots slot) n).object (Dir [] lists) (empty ∙ (λ i. Some (emptied (is i))))

      pub none_there : IsDirectory [] (anode_in old before page)
      none_there = dir_there slots slot n low some few page at old new before after rest keeps result found.0 found.1 [] lists found.2 (λ empty. content)

      pub entries_turns : WritesLoose (own_names old before (node_in old before page)) old before before after
          → OnOk result (Changed page (with_entries entries) old before new after) → OnOk result (IsDirectory entries (anode_in new after page))
          → OnOk result (KeepsNow (with_anode slot n (anode_changed (λ empty. content)) slots) new after)
      entries_turns writes changed directory =
          dir_turns slots slot n low some few page at old new before after rest keeps result found.0 found.1 [] lists found.2 (λ empty. content) entries is writes changed directory

    -- bytes
    pub bytes_turns : (content : Content) (list : List AccessEntry) (kept : List ℕ) (unsaved : List Unsaved) (len : Option UnsavedLength) → content ≡ File list kept unsaved len
        → is_whole content ≡ true → IsEmptied slot n content slots → WritesLoose (own_names old before (node_in old before page)) old before before after
        → OnOk result (Changed page (written 0 kept) old before new after) → OnOk result (KeepsNow (with_anode slot n (anode_changed (λ empty. content)) slots) new after)
    bytes_turns content list kept unsaved len is whole empty writes changed =
        let found = there_so (anode_at (slots slot) n).object (File list [] [] None) (empty ∙ (λ i. Some (emptied (is i)))) in
        let all = whole_file list kept unsaved len ((λ i. is_whole (sym is i)) ∙ whole) in
        let none = all.1 in
        let same = all.2 in
        let fits = (fits_there slots slot n low some few page at (λ empty. content) old new before after rest keeps _ found.2).content in
        let now : content ≡ File list kept [] None = is ∙ (λ i. File list kept (none i) (same i)) in
        on_ok_weaker result (λ (c : Changed page (written 0 kept) old before new after).
        keeps_content slots slot n low some few page at (λ empty. content) old new before after rest keeps _ found.2 (written 0 kept) c writes
        (written_kept (anode_at (slots slot) n).unique found.0 found.1 list kept ∙ (λ i. object_kept (anode_at (slots slot) n).unique (record { owner = found.0; group = found.1; content = sym now i })))
        (subst (λ (c : Content). FitsContent c) (sym now) (all.0, refl, refl, fits.3)))
        changed

-- an object that was put in two steps
pub object_turn : (slots : ℕ → List Anode) (slot n unique : ℕ) (owner group : List ℕ) (content : Content)
    → with_anode slot n (anode_changed (λ empty. content)) (with_anode slot n (occupied unique (record { owner = owner; group = group; content = emptied content })) slots)
    ≡ with_anode slot n (occupied unique (record { owner = owner; group = group; content = content })) slots
object_turn slots slot n unique owner group content = anode_twice slots slot n (anode_changed (λ empty. content)) (occupied unique (record { owner = owner; group = group; content = emptied content }))
