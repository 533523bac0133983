-- What a log holds once an anode of a slot changed.
use Rattle.std.proofs.Common.{◌≡◌, ◌≢◌, ◌<◌, ◌≤◌, ◌⊎◌, ℕ, ◌-◌, List, length, refl, sym, ◌∙◌, ap, subst, inl, inr, arith}
use Rattle.std.specs.Prelude.{Bool, true, false, Option, Some, None, IfSome, if◌then◌else◌}
use Rattle.std.specs.Option.{option_map, option_map_or}
use Rattle.std.proofs.lemmas.Bool.{cases_eq}
use Rattle.base_types.specs.Lists.{changed_at}
use Rattle.tree_filesets.proofs.Places.{length-changed}
use Rattle.tree_objects.specs.declared.content.Anode.{Anode}
use Rattle.tree_objects.specs.declared.content.Content.{Content}
use Rattle.tree_objects.specs.declared.content.Object.{Object}
use Rattle.tree_objects.specs.Changes.{content_changed, anode_changed}
use Rattle.tree_objects.specs.Objects.{is_dir}
use Rattle.disk_log.specs.State.{State}
use Rattle.disk_anode.specs.Anode.{Anode as Kept, anode_in, IsBare}
use Rattle.disk_anode.specs.Changes.{own_names, WritesLoose, Changed, Made, SharesBlocks}
use Rattle.disk_anode.specs.Node.{node_in, no_names, HasNoBlocks}
use Rattle.disk_objects.specs.Holds.{HoldsNow, NamesApart}
use Rattle.disk_objects.proofs.Calls.{holds_changed, holds_made, holds_copied}
use Rattle.disk_objects.specs.Objects.{object_kept, kept_of, page_for, anode_at, kept_anodes, with_slot, with_anode, FitsContent, FitsObject, AreKept, KeepsNow, HeldNow}
use Rattle.disk_objects.specs.Holds.{no_anode}
use Rattle.disk_objects.proofs.Places.{page_is, kept_here, at_here, at_other, slot_here, slot_other, set_kept}

-- the anodes of a slot that can be kept, after a change of one
pub fits_changed : (anodes : List Anode) (n : ℕ) (change : Anode → Anode) → AreKept anodes → 1 ≤ n → n ≤ 64 → IfSome (change (anode_at anodes n)).object FitsObject → AreKept (changed_at anodes (n - 1) change)
fits_changed anodes n change kept some few fits = record {
  count = length-changed anodes (n - 1) change ∙ kept.count;
  each = λ m one most. at m one most (cases_eq (m - 1) (n - 1));
}
  where
    at : (m : ℕ) → 1 ≤ m → m ≤ 64 → (m - 1 ≡ n - 1) ⊎ (m - 1 ≢ n - 1) → IfSome (anode_at (changed_at anodes (n - 1) change) m).object FitsObject
    at m one most (inl e) =
        let same : m ≡ n = omega (arith, e, one, some) in
        let full = kept.count in
        let there : n ≤ length anodes = omega (arith, full, few) in
        subst (λ (a : Anode). IfSome a.object FitsObject)
        (sym ((λ i. anode_at (changed_at anodes (n - 1) change) (same i)) ∙ at_here anodes n change some there)) fits
    at m one most (inr apart) = subst (λ (a : Anode). IfSome a.object FitsObject) (sym (at_other anodes n m change apart)) (kept.each m one most)

pub each_changed : (slots : ℕ → List Anode) (slot : ℕ) (anodes : List Anode) → ((s : ℕ) → s < 16 → AreKept (slots s)) → AreKept anodes → (s : ℕ) → s < 16 → AreKept (with_slot slot anodes slots s)
each_changed slots slot anodes each kept s low = at (cases_eq s slot)
  where
    at : (s ≡ slot) ⊎ (s ≢ slot) → AreKept (with_slot slot anodes slots s)
    at (inl e) = subst (λ (xs : List Anode). AreKept xs) (sym (slot_here slots slot s anodes e)) kept
    at (inr apart) = subst (λ (xs : List Anode). AreKept xs) (sym (slot_other slots slot s anodes apart)) (each s low)

-- The page of an anode of a slot, and the anode there.
module _ (slots : ℕ → List Anode) (slot n : ℕ) (low : slot < 16) (some : 1 ≤ n) (few : n ≤ 64) where
  -- the anode in a page of a log
  pub in_page : (state : State) (image : List ℕ) → HoldsNow (kept_anodes slots) state image → anode_in state image (page_for slot n) ≡ kept_of (anode_at (slots slot) n)
  in_page state image held = held.anode (page_for slot n) (page_is slot n low some few) ∙ kept_here slots slot n low some few

  module _ (there : n ≤ length (slots slot)) (change : Anode → Anode) (old new : State) (before after : List ℕ) (rest : new ≡ record old { puts = new.puts })
      (held : HoldsNow (kept_anodes slots) old before) where
    -- where a call changed an anode
    pub held_changed : (update : Kept → Kept) → Changed (page_for slot n) update old before new after
        → WritesLoose (own_names old before (node_in old before (page_for slot n))) old before before after
        → update (kept_of (anode_at (slots slot) n)) ≡ kept_of (change (anode_at (slots slot) n))
        → ((kept_of (change (anode_at (slots slot) n))).kind ≡ 0 → HasNoBlocks (node_in new after (page_for slot n)))
        → HoldsNow (kept_anodes (with_slot slot (changed_at (slots slot) (n - 1) change) slots)) new after
    held_changed update changed writes is bare =
        let here = kept_here slots slot n low some few in
        let now : update (kept_anodes slots (page_for slot n)) ≡ kept_of (change (anode_at (slots slot) n)) = ap update here ∙ is in
        subst (λ (anodes : ℕ → Kept). HoldsNow anodes new after) (set_kept slots slot n change low some few there (update (kept_anodes slots (page_for slot n))) now)
        (holds_changed (kept_anodes slots) (page_for slot n) (page_is slot n low some few) update old new before after rest held changed writes (λ free. bare ((λ i. (sym now i).kind) ∙ free)))

    -- where it made one
    pub held_made : (anode : Kept) → (kept_of (anode_at (slots slot) n)).kind ≡ 0 → after ≡ before → Made (page_for slot n) anode old before new after
        → IsBare after (node_in new after (page_for slot n)) → anode ≡ kept_of (change (anode_at (slots slot) n))
        → HoldsNow (kept_anodes (with_slot slot (changed_at (slots slot) (n - 1) change) slots)) new after
    held_made anode free quiet made bare is =
        subst (λ (anodes : ℕ → Kept). HoldsNow anodes new after) (set_kept slots slot n change low some few there anode is)
        (holds_made (kept_anodes slots) (page_for slot n) (page_is slot n low some few) anode old new before after rest held ((λ i. (kept_here slots slot n low some few i).kind) ∙ free) quiet made bare)

    -- where it copied one
    pub held_copied : (from m : ℕ) → from < 16 → 1 ≤ m → m ≤ 64 → page_for from m ≢ page_for slot n → (kept_of (anode_at (slots slot) n)).kind ≡ 0
        → Made (page_for slot n) (anode_in old before (page_for from m)) old before new after
        → SharesBlocks (page_for slot n) (node_in old before (page_for from m)) old before new after
        → WritesLoose no_names old before before after
        → NamesApart (page_for slot n) (node_in old before (page_for from m)) old before
        → anode_at (slots from) m ≡ change (anode_at (slots slot) n)
        → HoldsNow (kept_anodes (with_slot slot (changed_at (slots slot) (n - 1) change) slots)) new after
    held_copied from m from_low one most apart free made shares writes clear is =
        let source = kept_here slots from m from_low one most in
        subst (λ (anodes : ℕ → Kept). HoldsNow anodes new after) (set_kept slots slot n change low some few there (kept_anodes slots (page_for from m)) (source ∙ ap kept_of is))
        (holds_copied (kept_anodes slots) (page_for from m) (page_for slot n) (page_is from m from_low one most) (page_is slot n low some few) apart old new before after rest held
        ((λ i. (kept_here slots slot n low some few i).kind) ∙ free) made shares writes clear)

-- all that a log holds, where the anode in a page of a slot changed
module _ (slots : ℕ → List Anode) (slot n : ℕ) (low : slot < 16) (some : 1 ≤ n) (few : n ≤ 64) (page : ℕ) (at : page ≡ page_for slot n)
    (change : Anode → Anode) (old new : State) (before after : List ℕ) (rest : new ≡ record old { puts = new.puts }) (keeps : KeepsNow slots old before)
    (fits : IfSome (change (anode_at (slots slot) n)).object FitsObject) where
  there : n ≤ length (slots slot)
  there = let full = (keeps.each slot low).count in omega (arith, full, few)

  kept_with : HoldsNow (kept_anodes (with_anode slot n change slots)) new after → KeepsNow (with_anode slot n change slots) new after
  kept_with held = record {
    held = held;
    each = each_changed slots slot _ keeps.each (fits_changed (slots slot) n change (keeps.each slot low) some few fits);
  }

  pub keeps_changed : (update : Kept → Kept) → Changed page update old before new after → WritesLoose (own_names old before (node_in old before page)) old before before after
      → update (kept_of (anode_at (slots slot) n)) ≡ kept_of (change (anode_at (slots slot) n))
      → ((kept_of (change (anode_at (slots slot) n))).kind ≡ 0 → HasNoBlocks (node_in new after page)) → KeepsNow (with_anode slot n change slots) new after
  keeps_changed update changed writes is bare = kept_with (held_changed slots slot n low some few there change old new before after rest keeps.held update
      (subst (λ (p : ℕ). Changed p update old before new after) at changed)
      (subst (λ (p : ℕ). WritesLoose (own_names old before (node_in old before p)) old before before after) at writes) is
      (λ free. subst (λ (p : ℕ). HasNoBlocks (node_in new after p)) at (bare free)))

  pub keeps_made : (anode : Kept) → (kept_of (anode_at (slots slot) n)).kind ≡ 0 → after ≡ before → Made page anode old before new after → IsBare after (node_in new after page)
      → anode ≡ kept_of (change (anode_at (slots slot) n)) → KeepsNow (with_anode slot n change slots) new after
  keeps_made anode free quiet made bare is = kept_with (held_made slots slot n low some few there change old new before after rest keeps.held anode free quiet
      (subst (λ (p : ℕ). Made p anode old before new after) at made) (subst (λ (p : ℕ). IsBare after (node_in new after p)) at bare) is)

  pub keeps_copied : (from m source : ℕ) → source ≡ page_for from m → from < 16 → 1 ≤ m → m ≤ 64 → page_for from m ≢ page_for slot n → (kept_of (anode_at (slots slot) n)).kind ≡ 0
      → Made page (anode_in old before source) old before new after → SharesBlocks page (node_in old before source) old before new after
      → WritesLoose no_names old before before after → NamesApart (page_for slot n) (node_in old before (page_for from m)) old before
      → anode_at (slots from) m ≡ change (anode_at (slots slot) n)
      → KeepsNow (with_anode slot n change slots) new after
  keeps_copied from m source of from_low one most apart free made shares writes clear is = kept_with (held_copied slots slot n low some few there change old new before after rest keeps.held from m from_low one most apart free
      (subst (λ (p : ℕ). Made (page_for slot n) (anode_in old before p) old before new after) of (subst (λ (p : ℕ). Made p (anode_in old before source) old before new after) at made))
      (subst (λ (p : ℕ). SharesBlocks (page_for slot n) (node_in old before p) old before new after) of (subst (λ (p : ℕ). SharesBlocks p (node_in old before source) old before new after) at shares))
      writes clear is)

-- an anode with an object, whose content passes a test
pub content_there : (anode : Anode) (test : Content → Bool) → option_map_or (λ (object : Object). test object.content) anode.object false ≡ true
    → (owner : List ℕ) × (group : List ℕ) × (content : Content) × (anode.object ≡ Some (record { owner = owner; group = group; content = content })) × (test content ≡ true)
content_there anode test is = by anode.object refl is
  where
    by : (o : Option Object) → anode.object ≡ o → option_map_or (λ (object : Object). test object.content) o false ≡ true
        → (owner : List ℕ) × (group : List ℕ) × (content : Content) × (anode.object ≡ Some (record { owner = owner; group = group; content = content })) × (test content ≡ true)
    by None e is = absurd (grind (arith, is))
    by (Some object) e is = (object.owner, object.group, object.content, e, is)

-- where the content of an object changed
object_changed : (update : Kept → Kept) (change : Content → Content) (anode : Anode) (object : Object) → anode.object ≡ Some object
    → update (object_kept anode.unique object) ≡ object_kept anode.unique (content_changed change object) → update (kept_of anode) ≡ kept_of (anode_changed change anode)
object_changed update change anode object e is =
    (λ i. update (option_map_or (object_kept anode.unique) (e i) (record no_anode { unique = anode.unique })))
    ∙ is ∙ (λ i. option_map_or (object_kept anode.unique) (option_map (content_changed change) (sym e i)) (record no_anode { unique = anode.unique }))

kind_some : (dir : Bool) → ◌≡◌ {A = ℕ} (if dir then 1 else 2) 0 → ⊥
kind_some true e = absurd (omega (arith, e))
kind_some false e = absurd (omega (arith, e))

-- how many anodes slots have
pub count_with : (slots : ℕ → List Anode) (slot n : ℕ) (change : Anode → Anode) → slot < 16 → ((s : ℕ) → s < 16 → length (slots s) ≡ 64) → (s : ℕ) → s < 16 → length (with_anode slot n change slots s) ≡ 64
count_with slots slot n change slot_low count s low = at (cases_eq s slot)
  where
    at : (s ≡ slot) ⊎ (s ≢ slot) → length (with_anode slot n change slots s) ≡ 64
    at (inl e) = (λ i. length (slot_here slots slot s (changed_at (slots slot) (n - 1) change) e i)) ∙ length-changed (slots slot) (n - 1) change ∙ count slot slot_low
    at (inr apart) = (λ i. length (slot_other slots slot s (changed_at (slots slot) (n - 1) change) apart i)) ∙ count s low

pub held_of : (slots : ℕ → List Anode) (state : State) (image : List ℕ) → KeepsNow slots state image → HeldNow slots state image
held_of slots state image keeps = record { held = keeps.held; count = λ slot low. (keeps.each slot low).count }

-- where the content of an object changed
module _ (slots : ℕ → List Anode) (slot n : ℕ) (low : slot < 16) (some : 1 ≤ n) (few : n ≤ 64) (page : ℕ) (at : page ≡ page_for slot n)
    (old new : State) (before after : List ℕ) (rest : new ≡ record old { puts = new.puts }) (held : HeldNow slots old before) where
  room_there : n ≤ length (slots slot)
  room_there = let full = held.count slot low in omega (arith, full, few)

  pub kept_there : anode_in old before page ≡ kept_of (anode_at (slots slot) n)
  kept_there = (λ i. anode_in old before (at i)) ∙ in_page slots slot n low some few old before held.held

  pub content_turned : (change : Content → Content) (object : Object) → (anode_at (slots slot) n).object ≡ Some object → (update : Kept → Kept)
      → Changed page update old before new after → WritesLoose (own_names old before (node_in old before page)) old before before after
      → update (object_kept (anode_at (slots slot) n).unique object) ≡ object_kept (anode_at (slots slot) n).unique (content_changed change object)
      → HeldNow (with_anode slot n (anode_changed change) slots) new after
  content_turned change object is update changed writes same =
      let anode : Anode = anode_at (slots slot) n in
      record {
        held = held_changed slots slot n low some few room_there (anode_changed change) old new before after rest held.held update
            (subst (λ (p : ℕ). Changed p update old before new after) at changed)
            (subst (λ (p : ℕ). WritesLoose (own_names old before (node_in old before p)) old before before after) at writes)
            (object_changed update change anode object is same)
            (λ none. absurd (kind_some (is_dir (change object.content)) ((λ i. (option_map_or (object_kept anode.unique) (option_map (content_changed change) (sym is i)) (record no_anode { unique = anode.unique })).kind) ∙ none)));
        count = count_with slots slot n (anode_changed change) low held.count;
      }

  pub made_turned : (change : Anode → Anode) (anode : Kept) → (kept_of (anode_at (slots slot) n)).kind ≡ 0 → after ≡ before → Made page anode old before new after → IsBare after (node_in new after page)
      → anode ≡ kept_of (change (anode_at (slots slot) n)) → HeldNow (with_anode slot n change slots) new after
  made_turned change anode free quiet made bare is = record {
    held = held_made slots slot n low some few room_there change old new before after rest held.held anode free quiet
        (subst (λ (p : ℕ). Made p anode old before new after) at made) (subst (λ (p : ℕ). IsBare after (node_in new after p)) at bare) is;
    count = count_with slots slot n change low held.count;
  }

module _ (slots : ℕ → List Anode) (slot n : ℕ) (low : slot < 16) (some : 1 ≤ n) (few : n ≤ 64) (page : ℕ) (at : page ≡ page_for slot n)
    (change : Content → Content) (old new : State) (before after : List ℕ) (rest : new ≡ record old { puts = new.puts }) (keeps : KeepsNow slots old before)
    (object : Object) (is : (anode_at (slots slot) n).object ≡ Some object) where
  -- what the object is, which can be kept
  pub fits_there : FitsObject object
  fits_there = subst (λ (o : Option Object). IfSome o FitsObject) is ((keeps.each slot low).each n some few)

  pub anode_there : anode_in old before page ≡ object_kept (anode_at (slots slot) n).unique object
  anode_there =
      (λ i. anode_in old before (at i)) ∙ in_page slots slot n low some few old before keeps.held
      ∙ (λ i. option_map_or (object_kept (anode_at (slots slot) n).unique) (is i) (record no_anode { unique = (anode_at (slots slot) n).unique }))

  pub keeps_content : (update : Kept → Kept) → Changed page update old before new after → WritesLoose (own_names old before (node_in old before page)) old before before after
      → update (object_kept (anode_at (slots slot) n).unique object) ≡ object_kept (anode_at (slots slot) n).unique (content_changed change object)
      → FitsContent (change object.content) → KeepsNow (with_anode slot n (anode_changed change) slots) new after
  keeps_content update changed writes same fits =
      let anode : Anode = anode_at (slots slot) n in
      let object_fits : FitsObject (content_changed change object) = record { owner = fits_there.owner; group = fits_there.group; content = fits } in
      keeps_changed slots slot n low some few page at (anode_changed change) old new before after rest keeps
      (subst (λ (o : Option Object). IfSome (option_map (content_changed change) o) FitsObject) (sym is) object_fits)
      update changed writes (object_changed update change anode object is same)
      (λ none. absurd (kind_some (is_dir (change object.content)) ((λ i. (option_map_or (object_kept anode.unique) (option_map (content_changed change) (sym is i)) (record no_anode { unique = anode.unique })).kind) ∙ none)))
