-- A fileset in which an entry moved stays well formed.
use Rattle.std.proofs.Common.{◌≡◌, ◌≢◌, ℕ, true, ◌⊎◌, inl, inr, List, [], ◌∷◌, ◌++◌, Some, is_some, sym, ap, ◌∙◌, subst}
use Rattle.base_types.specs.declared.access.AccessEntry.{AccessEntry}
use Rattle.tree_calls.specs.declared.part.DirEntry.{DirEntry}
use Rattle.tree_objects.specs.declared.content.Anode.{Anode}
use Rattle.tree_objects.specs.declared.content.Object.{Object}
use Rattle.tree_objects.specs.Entries.{content_with_entry, content_without_entry}
use Rattle.tree_filesets.specs.declared.fileset.Fileset.{Fileset}
use Rattle.tree_filesets.specs.Updates.{changed}
use Rattle.tree_filesets.specs.Walk.{object_at, unique_at}
use Rattle.tree_filesets.specs.WellFormed.{entry_at, leads, IsUsed, IsWellFormed}
use Rattle.tree_filesets.proofs.Dropping.{Found, directory_of_entry, dropped_was, dropped_stays, kin_dropped}
use Rattle.tree_filesets.proofs.Entering.{Takes, entered_new, entered_stays, entered_was, not_entered, kin_entered}
use Rattle.tree_filesets.proofs.Kin.{AreKin, kin_trans}
use Rattle.tree_filesets.proofs.Leads.{some_then, leads_first, leads-append}
use Rattle.tree_filesets.proofs.Found.{none_some, same_found}

-- names lead on a way that passes no such anode
abbrev pub Avoids : List Anode → ℕ → List (List ℕ) → ℕ → Type 0
Avoids anodes at [] anode = at ≢ anode
Avoids anodes at (name ∷ names) anode = (at ≢ anode) × ((entry : DirEntry) → entry_at anodes at name ≡ Some entry → Avoids anodes entry.anode names anode)

-- an entry that moves to another name in another directory, to which a way leads that does not pass its object
pub record Moves (fileset : Fileset) (from : ℕ) (name : List ℕ) (entry : DirEntry) (to : ℕ) (moved : DirEntry) (front : List (List ℕ)) : Type 0 where
  pub entry_there : entry_at fileset.anodes from name ≡ Some entry
  pub same_anode : moved.anode ≡ entry.anode
  pub same_unique : moved.unique ≡ entry.unique
  pub way : leads fileset.anodes 1 front ≡ Some to
  pub avoids : Avoids fileset.anodes 1 front entry.anode

avoids_start : (anodes : List Anode) (at : ℕ) (path : List (List ℕ)) (anode : ℕ) → Avoids anodes at path anode → at ≢ anode
avoids_start anodes at [] anode h = h
avoids_start anodes at (name ∷ names) anode h = h.0

module _ (fileset : Fileset) (from : ℕ) (name : List ℕ) (entry : DirEntry) (to : ℕ) (moved : DirEntry) (front : List (List ℕ))
    (directory : Object) (entries : List DirEntry) (lists : List (List AccessEntry)) (takes : Takes fileset to moved directory entries lists)
    (moves : Moves fileset from name entry to moved front) (w : IsWellFormed fileset) where
  abbrev pub entered : Fileset
  entered = changed fileset to (content_with_entry moved)

  pub found : Found entered from
  found = directory_of_entry entered from name entry (entered_stays fileset to moved directory entries lists takes from name entry moves.entry_there)

  abbrev pub after : Fileset
  after = changed entered from (content_without_entry name)

  pub kin : AreKin fileset after
  kin = kin_trans fileset entered after (kin_entered fileset to moved directory entries lists takes) (kin_dropped entered from name found.directory found.entries found.lists found.is)

  -- the new place is another one
  elsewhere : to ≡ from → moved.name ≡ name → ⊥
  elsewhere here called =
      let P : ℕ → Type 0 = λ n. entry_at fileset.anodes n name ≡ Some entry in
      let Q : List ℕ → Type 0 = λ n. entry_at fileset.anodes to n ≡ Some entry in
      none_some _ entry (not_entered fileset to moved directory entries lists takes) (subst Q (sym called) (subst P (sym here) moves.entry_there))

  entry_was : (at : ℕ) (other : List ℕ) (e : DirEntry) → entry_at after.anodes at other ≡ Some e →
      ((entry_at fileset.anodes at other ≡ Some e) × (at ≡ from → other ≡ name → ⊥)) ⊎ ((at ≡ to) × (other ≡ moved.name) × (e ≡ moved))
  entry_was at other e h =
      let (mid, away) = dropped_was entered from name found.directory found.entries found.lists found.is at other e h in
      elim (entered_was fileset to moved directory entries lists takes at other e mid) as (λ _. ((entry_at fileset.anodes at other ≡ Some e) × (at ≡ from → other ≡ name → ⊥)) ⊎ ((at ≡ to) × (other ≡ moved.name) × (e ≡ moved)))
      [ inl was ↦ inl (was, away) | inr new ↦ inr new ]

  entry_stays : (at : ℕ) (other : List ℕ) (e : DirEntry) → entry_at fileset.anodes at other ≡ Some e → ((at ≡ from) × (other ≡ name)) ⊎ (entry_at after.anodes at other ≡ Some e)
  entry_stays at other e h =
      dropped_stays entered from name found.directory found.entries found.lists found.is at other e (entered_stays fileset to moved directory entries lists takes at other e h)

  entry_new : entry_at after.anodes to moved.name ≡ Some moved
  entry_new =
      elim (dropped_stays entered from name found.directory found.entries found.lists found.is to moved.name moved (entered_new fileset to moved directory entries lists takes)) as (λ _. entry_at after.anodes to moved.name ≡ Some moved)
      [ inl gone ↦ absurd (elsewhere gone.0 gone.1) | inr stays ↦ stays ]

  -- an entry that stays names another object
  not_moved : (at : ℕ) (other : List ℕ) (e : DirEntry) → entry_at fileset.anodes at other ≡ Some e → (at ≡ from → other ≡ name → ⊥) → e.anode ≢ entry.anode
  not_moved at other e h away same =
      let (here, called) = w.once at from other name e entry h moves.entry_there same in away here called

  moved_entry : (at : ℕ) (other : List ℕ) (e : DirEntry) → entry_at fileset.anodes at other ≡ Some e → (at ≡ from) × (other ≡ name) → e ≡ entry
  moved_entry at other e h gone =
      let P : ℕ → Type 0 = λ n. entry_at fileset.anodes n other ≡ Some e in
      let Q : List ℕ → Type 0 = λ n. entry_at fileset.anodes from n ≡ Some e in
      same_found _ e entry (subst Q gone.1 (subst P gone.0 h)) moves.entry_there

  -- a way that doesn't pass the object is still there
  leads_avoiding : (path : List (List ℕ)) (at end : ℕ) → leads fileset.anodes at path ≡ Some end → Avoids fileset.anodes at path entry.anode → leads after.anodes at path ≡ Some end
  leads_avoiding [] at end h avoids = h
  leads_avoiding (first ∷ names) at end h avoids =
      let (e, there, rest) = some_then (entry_at fileset.anodes at first) (λ e. leads fileset.anodes e.anode names) end h in
      let on : Avoids fileset.anodes e.anode names entry.anode = avoids.1 e there in
      elim (entry_stays at first e there) as (λ _. leads after.anodes at (first ∷ names) ≡ Some end) [
        | inl gone ↦ absurd (avoids_start fileset.anodes e.anode names entry.anode on (ap (λ x. x.anode) (moved_entry at first e there gone)))
        | inr stays ↦ leads_first after.anodes at first names e end stays (leads_avoiding names e.anode end rest on)
      ]

  -- so the object is reached at its new place
  way_there : leads after.anodes 1 (front ++ moved.name ∷ []) ≡ Some entry.anode
  way_there =
      leads-append after.anodes 1 front (moved.name ∷ []) to entry.anode (leads_avoiding front 1 to moves.way moves.avoids)
      (leads_first after.anodes to moved.name [] moved entry.anode entry_new (ap Some moves.same_anode))

  -- any other way is still there, or the rest of it from the object on
  rest_of_way : (path : List (List ℕ)) (at end : ℕ) → leads fileset.anodes at path ≡ Some end →
      (leads after.anodes at path ≡ Some end) ⊎ ((rest : List (List ℕ)) × (leads after.anodes entry.anode rest ≡ Some end))
  rest_of_way [] at end h = inl h
  rest_of_way (first ∷ names) at end h =
      let (e, there, on) = some_then (entry_at fileset.anodes at first) (λ e. leads fileset.anodes e.anode names) end h in
      elim (rest_of_way names e.anode end on) as (λ _. (leads after.anodes at (first ∷ names) ≡ Some end) ⊎ ((rest : List (List ℕ)) × (leads after.anodes entry.anode rest ≡ Some end))) [
        | inl still ↦
            elim (entry_stays at first e there) as (λ _. (leads after.anodes at (first ∷ names) ≡ Some end) ⊎ ((rest : List (List ℕ)) × (leads after.anodes entry.anode rest ≡ Some end))) [
              | inl gone ↦
                  let P : DirEntry → Type 0 = λ x. leads after.anodes x.anode names ≡ Some end in
                  inr (names, subst P (moved_entry at first e there gone) still)
              | inr stays ↦ inl (leads_first after.anodes at first names e end stays still)
            ]
        | inr (rest, way) ↦ inr (rest, way)
      ]

  after_reached : (at : ℕ) (object : Object) → object_at after.anodes at ≡ Some object → (path : List (List ℕ)) × (leads after.anodes 1 path ≡ Some at)
  after_reached at object h =
      let (was, f, keeps) = kin.sound at object h in
      let (path, way) = w.reached at was f in
      elim (rest_of_way path 1 at way) as (λ _. (path : List (List ℕ)) × (leads after.anodes 1 path ≡ Some at)) [
        | inl still ↦ (path, still)
        | inr (rest, on) ↦ ((front ++ moved.name ∷ []) ++ rest, leads-append after.anodes 1 (front ++ moved.name ∷ []) rest entry.anode at way_there on)
      ]

  used_after : (e : DirEntry) → IsUsed fileset.anodes e → IsUsed after.anodes e
  used_after e used = (kin.there e.anode ∙ used.0, kin.unique e.anode ∙ used.1)

  used_moved : IsUsed after.anodes moved
  used_moved =
      let used = used_after entry (w.named from name entry moves.entry_there) in
      let P : ℕ → Type 0 = λ n. is_some (object_at after.anodes n) ≡ true in
      let Q : ℕ → Type 0 = λ n. unique_at after.anodes n ≡ entry.unique in
      (subst P (sym moves.same_anode) used.0, subst Q (sym moves.same_anode) used.1 ∙ sym moves.same_unique)

  after_once : (a b : ℕ) (m n : List ℕ) (e f : DirEntry) → entry_at after.anodes a m ≡ Some e → entry_at after.anodes b n ≡ Some f → e.anode ≡ f.anode → (a ≡ b) × (m ≡ n)
  after_once a b m n e f h k same =
      elim (entry_was a m e h) as (λ _. (a ≡ b) × (m ≡ n)) [
        | inl (was, away) ↦
            elim (entry_was b n f k) as (λ _. (a ≡ b) × (m ≡ n)) [
              | inl (old, off) ↦ w.once a b m n e f was old same
              | inr (p, q, new) ↦ absurd (not_moved a m e was away (same ∙ ap (λ x. x.anode) new ∙ moves.same_anode))
            ]
        | inr (p, q, new) ↦
            elim (entry_was b n f k) as (λ _. (a ≡ b) × (m ≡ n)) [
              | inl (old, off) ↦ absurd (not_moved b n f old off (sym same ∙ ap (λ x. x.anode) new ∙ moves.same_anode))
              | inr (r, s, other) ↦ (p ∙ sym r, q ∙ sym s)
            ]
      ]

  pub well_formed_renamed : IsWellFormed after
  well_formed_renamed = record {
    count = kin.count ∙ w.count ∙ sym kin.objects;
    limit = rw kin.objects w.limit;
    first = kin.unique 1 ∙ w.first;
    root = kin.kind 1 ∙ w.root;
    sound = λ at object h. let (was, f, keeps) = kin.sound at object h in keeps (w.sound at was f);
    named = λ at other e h. elim (entry_was at other e h) as (λ _. IsUsed after.anodes e) [
      | inl (was, away) ↦ used_after e (w.named at other e was)
      | inr (p, q, new) ↦ let P : DirEntry → Type 0 = λ x. IsUsed after.anodes x in subst P (sym new) used_moved
    ];
    once = after_once;
    rootless = λ at other e h. elim (entry_was at other e h) as (λ _. e.anode ≢ 1) [
      | inl (was, away) ↦ w.rootless at other e was
      | inr (p, q, new) ↦ λ is_root. w.rootless from name entry moves.entry_there (sym (ap (λ x. x.anode) new ∙ moves.same_anode) ∙ is_root)
    ];
    reached = after_reached;
  }
