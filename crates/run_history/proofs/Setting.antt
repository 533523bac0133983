-- What a Change leaves of the cells of a tree is what it sets in them.
use Rattle.std.proofs.Common.{Bool, Err, List, None, Ok, Option, Result, Some, ap, false, inl, inr, is_some, nat_lt}
use Rattle.std.proofs.Common.{refl, subst, sym, true, ℕ, ◌&&◌, ◌==◌, ◌||◌, ◌∙◌, ◌∷◌, ◌≡◌}
use Rattle.std.proofs.lemmas.Bool.{eqb-false, eqb-true, false≢true}
use Rattle.std.specs.List.{find}
use Rattle.std.specs.Prelude.{[], ◌⊎◌, if◌then◌else◌, is_none, slice_get}
use Rattle.base_types.specs.Ids.{same_fid}
use Rattle.base_types.specs.Outcomes.{either}
use Rattle.base_types.specs.declared.ids.Fid.{Fid}
use Rattle.base_types.specs.declared.ids.HostId.{HostId}
use Rattle.base_types.specs.declared.ids.ServerId.{ServerId}
use Rattle.base_types.specs.declared.limits.TheConstants.{FILE_BYTES_MAX}
use Rattle.base_types.specs.declared.user.User.{User}
use Rattle.tree_calls.specs.Rosters.{user_of}
use Rattle.tree_calls.specs.declared.call.Call.{Call}
use Rattle.tree_calls.specs.declared.call.Call.TheVariants.{CloneFileset, CloseFile, Create, GetAcl, List as ListNames}
use Rattle.tree_calls.specs.declared.call.Call.TheVariants.{Lock as LockCall, MakeDir, MoveFileset, NewFileset}
use Rattle.tree_calls.specs.declared.call.Call.TheVariants.{OpenFile, Read, Remove, Rename, SetAcl, Stat, Sync}
use Rattle.tree_calls.specs.declared.call.Call.TheVariants.{Truncate, Unlock, Write}
use Rattle.tree_calls.specs.declared.part.DirEntry.{DirEntry}
use Rattle.tree_calls.specs.declared.reply.Refusal.{Refusal}
use Rattle.tree_filesets.specs.declared.fileset.Fileset.{Fileset}
use Rattle.need_host.proofs.Written.{after_call}
use Rattle.need_host.specs.Looks.{kept_view}
use Rattle.need_host.specs.Questions.{is_change}
use Rattle.need_host.specs.Shows.{can_be, is_update, needs_show, needs_update, shows}
use Rattle.tree_objects.specs.declared.content.Object.{Object}
use Rattle.tree_answers.specs.Answers.{answer_to, deciding_place}
use Rattle.tree_answers.specs.Finding.{has_id}
use Rattle.tree_answers.specs.Founding.{next_id}
use Rattle.tree_answers.specs.Uses.{is_used}
use Rattle.tree_answers.specs.WellFormed.{IsWellFormed}
use Rattle.tree_answers.specs.declared.tree.ServerRoom.{ServerRoom}
use Rattle.tree_answers.specs.declared.tree.Tree.{Tree}
use Rattle.need_server.proofs.Covered.{changes_are_so}
use Rattle.need_server.specs.Laws.{ChangesSo, NothingUnsaved}
use Rattle.need_server.specs.Laws.ChangesSo.{Goes, Leaves, Lists, Sets as SetsAll}
use Rattle.need_server.specs.Wants.{want}
use Rattle.token_types.specs.declared.token.Need.{Need}
use Rattle.tree_laws.specs.Fates.{Cells as CellsOf, Fate, after_fate, clone_fate, create_fate, fate_at, fate_for}
use Rattle.tree_laws.specs.Fates.{fate_row, if_reached, move_fate, names_use, new_fate, new_values, no_values}
use Rattle.tree_laws.specs.Fates.{remove_fate, rename_fate}
use Rattle.tree_laws.specs.Fates.Fate.{Becomes, IsCut, IsForgotten, IsListed, IsStored, IsSynced, IsWritten, Stays}
use Rattle.tree_laws.specs.Fates.Fate.{Turns}
use Rattle.tree_laws.specs.Parts.{Cell, Nature, Part, Seen, Written, cell_at, cell_found, cell_in, nature_of, no_cell}
use Rattle.tree_laws.specs.Parts.{object_in, settled}
use Rattle.tree_laws.specs.Parts.Part.{ByteAt, Entries, Size, Traits}
use Rattle.run_parts.specs.Cells.{cell_after}
use Rattle.run_parts.specs.Cells.Does.{Nothing, Sets}
use Rattle.run_parts.specs.Contents.{IsData}
use Rattle.run_contents.specs.Doing.{changes, comes}

-- fates that leave a part as it is, or settle it
abbrev Settling : Fate → Type 0
Settling (IsWritten host from bytes) = ⊥
Settling (IsStored host spans stored) = ⊥
Settling (IsSynced host) = ⊥
Settling (IsForgotten host) = ⊥
Settling fate = Unit {0}

abbrev LeftOr : {X : Type 0} → Cell X → Cell X → Type 0
LeftOr old new = (new ≡ old) ⊎ (new ≡ settled new.kept)

left_or : (fate : Fate) → Settling fate → (cells : CellsOf) (p : Part) → LeftOr (cells p) (after_fate fate cells p)
left_or Stays s cells p = inl refl
left_or (IsCut len) s cells (ByteAt at) = inr refl
left_or (IsCut len) s cells Size = inr refl
left_or (IsCut len) s cells Traits = inl refl
left_or (IsCut len) s cells Entries = inl refl
left_or (IsListed which list) s cells (ByteAt at) = inl refl
left_or (IsListed which list) s cells Size = inl refl
left_or (IsListed which list) s cells Traits = inr refl
left_or (IsListed which list) s cells Entries = inl refl
left_or (Turns gained dropped) s cells (ByteAt at) = inl refl
left_or (Turns gained dropped) s cells Size = inr refl
left_or (Turns gained dropped) s cells Traits = inl refl
left_or (Turns gained dropped) s cells Entries = inr refl
left_or (Becomes values) s cells p = inr refl
left_or (IsWritten host from bytes) s cells p = elim s [ ]
left_or (IsStored host spans stored) s cells p = elim s [ ]
left_or (IsSynced host) s cells p = elim s [ ]
left_or (IsForgotten host) s cells p = elim s [ ]

if_settling : (b : Bool) (a c : Fate) → Settling a → Settling c → Settling (if b then a else c)
if_settling true a c s t = s
if_settling false a c s t = t

reached_settling : (fileset : Fileset) (fid : Fid) (fate : Fate) (checks : Result ℕ Refusal) → Settling fate
    → Settling (if_reached fileset fid fate checks)
reached_settling fileset fid fate (Ok anode) s = if_settling (names_use fileset anode fid) fate Stays s tt
reached_settling fileset fid fate (Err refusal) s = tt

create_settling : (fileset : Fileset) (fid : Fid) (checks : Result (ℕ × DirEntry × Nature) Refusal)
    → Settling (create_fate fileset fid checks)
create_settling fileset fid (Ok (parent, entry, nature)) =
    if_settling ((entry.anode == fid.anode) && (entry.unique == fid.unique)) (Becomes (new_values nature))
    (if names_use fileset parent fid then Turns (Some entry) None else Stays) tt
    (if_settling (names_use fileset parent fid) (Turns (Some entry) None) Stays tt tt)
create_settling fileset fid (Err refusal) = tt

remove_settling : (fileset : Fileset) (fid : Fid) (checks : Result (ℕ × List ℕ × ℕ) Refusal)
    → Settling (remove_fate fileset fid checks)
remove_settling fileset fid (Ok (parent, name, anode)) =
    if_settling (names_use fileset anode fid) (Becomes no_values)
    (if names_use fileset parent fid then Turns None (Some name) else Stays) tt
    (if_settling (names_use fileset parent fid) (Turns None (Some name)) Stays tt tt)
remove_settling fileset fid (Err refusal) = tt

rename_settling : (fileset : Fileset) (fid : Fid) (checks : Result (ℕ × DirEntry × ℕ × List ℕ) Refusal)
    → Settling (rename_fate fileset fid checks)
rename_settling fileset fid (Ok (to, entry, from, name)) =
    if_settling (names_use fileset to fid || names_use fileset from fid)
    (Turns (if names_use fileset to fid then Some entry else None) (if names_use fileset from fid then Some name else None))
    Stays tt tt
rename_settling fileset fid (Err refusal) = tt

row_settling : (fileset : Fileset) (in_use : Fid → Bool) (host : HostId) (user : User) (call : Call) (fid : Fid)
    → is_change call ≡ true → Settling (fate_row fileset in_use host user call fid)
row_settling fileset in_use host user (Create place) fid e = create_settling fileset fid _
row_settling fileset in_use host user (MakeDir place) fid e = create_settling fileset fid _
row_settling fileset in_use host user (Remove place) fid e = remove_settling fileset fid _
row_settling fileset in_use host user (Rename from to) fid e = rename_settling fileset fid _
row_settling fileset in_use host user (Truncate place len) fid e = reached_settling fileset fid (IsCut len) _ tt
row_settling fileset in_use host user (SetAcl place which list) fid e =
    reached_settling fileset fid (IsListed which list) _ tt
row_settling fileset in_use host user (NewFileset server name objects owner) fid e = tt
row_settling fileset in_use host user (CloneFileset server source new) fid e = tt
row_settling fileset in_use host user (MoveFileset server name to) fid e = tt
row_settling fileset in_use host user (LockCall label place writing from len) fid e = tt
row_settling fileset in_use host user (OpenFile label place kind) fid e = tt
row_settling fileset in_use host user (Read place from len) fid e = absurd (false≢true e)
row_settling fileset in_use host user (Write place from bytes) fid e = absurd (false≢true e)
row_settling fileset in_use host user (ListNames place) fid e = absurd (false≢true e)
row_settling fileset in_use host user (Stat place) fid e = absurd (false≢true e)
row_settling fileset in_use host user (GetAcl place which) fid e = absurd (false≢true e)
row_settling fileset in_use host user (Sync place) fid e = absurd (false≢true e)
row_settling fileset in_use host user (Unlock label) fid e = absurd (false≢true e)
row_settling fileset in_use host user (CloseFile label) fid e = absurd (false≢true e)

module _ (tree : Tree) (host : HostId) (user : User) (fid : Fid) where
  found_settling : (call : Call) → is_change call ≡ true → (found : Result ℕ Refusal)
      → Settling (either found (λ place. fate_at tree host user call fid (slice_get tree.filesets place)) (λ refusal. Stays))
  found_settling call e (Err refusal) = tt
  found_settling call e (Ok place) = by (slice_get tree.filesets place)
    where
      by : (o : Option Fileset) → Settling (fate_at tree host user call fid o)
      by None = tt
      by (Some fileset) =
          if_settling (has_id fid.fileset fileset)
          (fate_row fileset (is_used tree.locks tree.opens) host user call fid) Stays
          (row_settling fileset (is_used tree.locks tree.opens) host user call fid e) tt

  new_settling : (server : ServerId) (name : List ℕ) (objects : ℕ) (owner : User) (r : Result ServerRoom Refusal)
      → Settling (new_fate server name objects owner fid r)
  new_settling server name objects owner (Ok room) =
      if_settling ((next_id server room).0 == fid.fileset.0) _ Stays tt tt
  new_settling server name objects owner (Err refusal) = tt

  clone_settling : (server : ServerId) (r : Result (Fileset × ServerRoom) Refusal) → Settling (clone_fate tree server fid r)
  clone_settling server (Ok (source, room)) =
      if_settling ((next_id server room).0 == fid.fileset.0) _ Stays tt tt
  clone_settling server (Err refusal) = tt

  move_settling : (r : Result (ℕ × Fileset) Refusal) → Settling (move_fate tree fid r)
  move_settling (Ok (place, fileset)) = if_settling (has_id fid.fileset fileset) _ Stays tt tt
  move_settling (Err refusal) = tt

  fate_settling : (call : Call) → is_change call ≡ true → Settling (fate_for tree host call fid (Some user))
  fate_settling (NewFileset server name objects owner) e = new_settling server name objects owner _
  fate_settling (CloneFileset server source new) e = clone_settling server _
  fate_settling (MoveFileset server name to) e = move_settling _
  fate_settling (Create place) e = found_settling (Create place) e (deciding_place tree (Create place))
  fate_settling (MakeDir place) e = found_settling (MakeDir place) e (deciding_place tree (MakeDir place))
  fate_settling (Remove place) e = found_settling (Remove place) e (deciding_place tree (Remove place))
  fate_settling (Rename from to) e = found_settling (Rename from to) e (deciding_place tree (Rename from to))
  fate_settling (Truncate place len) e = found_settling (Truncate place len) e (deciding_place tree (Truncate place len))
  fate_settling (SetAcl place which list) e = found_settling (SetAcl place which list) e (deciding_place tree (SetAcl place which list))
  fate_settling (LockCall label place writing from len) e = found_settling (LockCall label place writing from len) e (deciding_place tree (LockCall label place writing from len))
  fate_settling (OpenFile label place kind) e = found_settling (OpenFile label place kind) e (deciding_place tree (OpenFile label place kind))
  fate_settling (Read place from len) e = absurd (false≢true e)
  fate_settling (Write place from bytes) e = absurd (false≢true e)
  fate_settling (ListNames place) e = absurd (false≢true e)
  fate_settling (Stat place) e = absurd (false≢true e)
  fate_settling (GetAcl place which) e = absurd (false≢true e)
  fate_settling (Sync place) e = absurd (false≢true e)
  fate_settling (Unlock label) e = absurd (false≢true e)
  fate_settling (CloseFile label) e = absurd (false≢true e)

-- traits and entries are never unsaved
never_unsaved : (tree : Tree) (f : Fid) (p : Part) → (IsData p → ⊥) → cell_at tree f p ≡ settled (kept_view tree f p)
never_unsaved tree f p free = go (find (has_id f.fileset) tree.filesets) p free
  where
    by : (read_only : Bool) (o : Option Object) (p : Part) → (IsData p → ⊥)
        → cell_found read_only o p ≡ settled (cell_found read_only o p).kept
    by read_only o (ByteAt at) free = absurd (free tt)
    by read_only o Size free = absurd (free tt)
    by read_only None Traits free = refl
    by read_only None Entries free = refl
    by read_only (Some object) Traits free = refl
    by read_only (Some object) Entries free = refl

    go : (o : Option Fileset) (p : Part) → (IsData p → ⊥) → cell_in o f p ≡ settled (cell_in o f p).kept
    go None (ByteAt at) free = absurd (free tt)
    go None Size free = absurd (free tt)
    go None Traits free = refl
    go None Entries free = refl
    go (Some fileset) p free = by fileset.read_only (object_in fileset f) p free

-- of an object that isn't there nothing is
absent_cell : (tree : Tree) (f : Fid) → kept_view tree f Traits ≡ None → (p : Part) → cell_at tree f p ≡ no_cell p
absent_cell tree f e p = go (find (has_id f.fileset) tree.filesets) e
  where
    by : (read_only : Bool) (o : Option Object) → (cell_found read_only o Traits).kept ≡ None
        → cell_found read_only o p ≡ no_cell p
    by read_only None e = refl
    by read_only (Some object) e = absurd (let q : Some (nature_of read_only object) ≡ None = e in cc)

    go : (o : Option Fileset) → (cell_in o f Traits).kept ≡ None → cell_in o f p ≡ no_cell p
    go None e = refl
    go (Some fileset) e = by fileset.read_only (object_in fileset f) e

nothing_there : (p : Part) → (no_cell p).unsaved ≡ None
nothing_there (ByteAt at) = refl
nothing_there Size = refl
nothing_there Traits = refl
nothing_there Entries = refl

settled_is : {X : Type 0} (cell : Cell X) → cell.unsaved ≡ None → cell ≡ settled cell.kept
settled_is {X} cell e = ap (λ (o : Option (Written X)). let c : Cell X = record { kept = cell.kept; unsaved = o } in c) e

update_shows : (needs : List Need) (f : Fid) (p : Part) → needs_update needs f p ≡ true → needs_show needs f p ≡ true
update_shows [] f p e = absurd (false≢true e)
update_shows (n ∷ needs) f p e = go (same_fid n.fid f) (is_update n.kind) (shows n.kind p) (update_shows needs f p) e
  where
    go : (a b c : Bool) → (needs_update needs f p ≡ true → needs_show needs f p ≡ true)
        → ((a && (b && c)) || needs_update needs f p) ≡ true → ((a && c) || needs_show needs f p) ≡ true
    go true true true rest e = refl
    go true true false rest e = rest e
    go true false true rest e = refl
    go true false false rest e = rest e
    go false b c rest e = rest e

-- a Change in a tree in which nothing that it wants is unsaved
module _ (tree : Tree) (formed : IsWellFormed tree) (host : HostId) (user : User)
    (is_user : user_of tree.roster host ≡ Some user) (call : Call) (change : is_change call ≡ true)
    (nothing : NothingUnsaved tree (want tree user call)) where
  abbrev left : Tree
  left = (answer_to tree host call).tree

  abbrev needs : List Need
  needs = want tree user call

  module _ (f : Fid)
      (beyond : (at : ℕ) → nat_lt at FILE_BYTES_MAX ≡ false → (cell_at tree f (ByteAt at)).unsaved ≡ None) where
    so : ChangesSo needs f (cell_at tree f) (cell_at left f) ⊎ (kept_view tree f Traits ≡ None)
    so = changes_are_so tree host user call f formed is_user change

    settles : (p : Part) → LeftOr (cell_at tree f p) (cell_at left f p)
    settles p =
        subst (λ (z : Cell (Seen p)). LeftOr (cell_at tree f p) z)
        (sym (after_call tree host user call f p formed is_user))
        (left_or (fate_for tree host call f (Some user)) (fate_settling tree host user f call change) (cell_at tree f) p)

    none_under : (p : Part) → (can_be p ≡ true → needs_update needs f p ≡ true) → (cell_at tree f p).unsaved ≡ None
    none_under p up = go (can_be p) refl p refl
      where
        go : (b : Bool) → can_be p ≡ b → (q : Part) → q ≡ p → (cell_at tree f p).unsaved ≡ None
        go true e q s = nothing f p (update_shows needs f p (up e))
        go false e q s = far p e
          where
            far : (p : Part) → can_be p ≡ false → (cell_at tree f p).unsaved ≡ None
            far (ByteAt at) e = beyond at e
            far Size e = absurd (false≢true (sym e))
            far Traits e = absurd (false≢true (sym e))
            far Entries e = absurd (false≢true (sym e))

    -- a part that is touched has nothing unsaved, or stays
    touched : (p : Part) → (cell_at left f p ≡ cell_at tree f p) ⊎ ((cell_at tree f p).unsaved ≡ None)
    touched p = elim so [
      | inr gone ↦ inr (ap (λ (z : Cell (Seen p)). z.unsaved) (absent_cell tree f gone p) ∙ nothing_there p)
      | inl k ↦ by k p
    ]
      where
        by : ChangesSo needs f (cell_at tree f) (cell_at left f) → (p : Part)
            → (cell_at left f p ≡ cell_at tree f p) ⊎ ((cell_at tree f p).unsaved ≡ None)
        by (Leaves all) p = inl (all p)
        by (Lists update bytes size entries kind) (ByteAt at) = inl (bytes at)
        by (Lists update bytes size entries kind) Size = inl size
        by (Lists update bytes size entries kind) Traits =
            inr (ap (λ (z : Cell (Seen Traits)). z.unsaved) (never_unsaved tree f Traits (λ z. z)))
        by (Lists update bytes size entries kind) Entries = inl entries
        by (SetsAll update kind) p = inr (none_under p (update p))
        by (Goes update every gone) p = inr (none_under p (update p))

    -- bytes and sizes
    number_left : (p : Part) (same : Seen p → Seen p → Bool) → ((x y : Seen p) → same x y ≡ true → x ≡ y)
        → ((x y : Seen p) → same x y ≡ false → x ≡ y → ⊥)
        → cell_at left f p ≡ cell_after p (if same (kept_view tree f p) (kept_view left f p)
        then Nothing else Sets (kept_view left f p)) (cell_at tree f p)
    number_left p same equal differ = go (same (kept_view tree f p) (kept_view left f p)) refl (settles p) (touched p)
      where
        go : (b : Bool) → same (kept_view tree f p) (kept_view left f p) ≡ b
            → LeftOr (cell_at tree f p) (cell_at left f p)
            → (cell_at left f p ≡ cell_at tree f p) ⊎ ((cell_at tree f p).unsaved ≡ None)
            → cell_at left f p ≡ cell_after p (if b then Nothing else Sets (kept_view left f p)) (cell_at tree f p)
        go true e (inl stays) t = stays
        go true e (inr settles) (inl stays) = stays
        go true e (inr settles) (inr none) =
            settles ∙ (ap settled (sym (equal (kept_view tree f p) (kept_view left f p) e))
            ∙ sym (settled_is (cell_at tree f p) none))
        go false e (inl stays) t =
            absurd (differ (kept_view tree f p) (kept_view left f p) e (ap (λ (z : Cell (Seen p)). z.kept) (sym stays)))
        go false e (inr settles) t = settles

    -- traits and entries
    name_left : (p : Part) → (IsData p → ⊥) → can_be p ≡ true
        → cell_at left f p ≡ cell_after p (if needs_update needs f p || comes tree left f
        then Sets (kept_view left f p) else Nothing) (cell_at tree f p)
    name_left p free can = go (needs_update needs f p) (comes tree left f) refl refl
      where
        go : (a b : Bool) → needs_update needs f p ≡ a → comes tree left f ≡ b
            → cell_at left f p ≡ cell_after p (if a || b then Sets (kept_view left f p) else Nothing) (cell_at tree f p)
        go true b e d = never_unsaved left f p free
        go false true e d = never_unsaved left f p free
        go false false e d = elim so [
          | inl k ↦ by k p e free can
          | inr gone ↦ absent_cell left f (still gone) p ∙ sym (absent_cell tree f gone p)
        ]
          where
            still : kept_view tree f Traits ≡ None → kept_view left f Traits ≡ None
            still gone = pick (kept_view left f Traits) refl
              where
                pick : (o : Option Nature) → kept_view left f Traits ≡ o → kept_view left f Traits ≡ None
                pick None q = q
                pick (Some n) q = absurd (false≢true (sym d
                    ∙ (ap (λ a. is_none a && is_some (kept_view left f Traits)) gone ∙ ap is_some q)))

            by : ChangesSo needs f (cell_at tree f) (cell_at left f) → (p : Part) → needs_update needs f p ≡ false
                → (IsData p → ⊥) → can_be p ≡ true → cell_at left f p ≡ cell_at tree f p
            by (Leaves all) p e free can = all p
            by (Lists update bytes size entries kind) (ByteAt at) e free can = absurd (free tt)
            by (Lists update bytes size entries kind) Size e free can = absurd (free tt)
            by (Lists update bytes size entries kind) Traits e free can = absurd (false≢true (sym e ∙ update))
            by (Lists update bytes size entries kind) Entries e free can = entries
            by (SetsAll update kind) p e free can = absurd (false≢true (sym e ∙ update p can))
            by (Goes update every gone) p e free can = absurd (false≢true (sym e ∙ update p can))

    pub sets_cells : (p : Part)
        → cell_at left f p ≡ cell_after p (changes needs tree left f p) (cell_at tree f p)
    sets_cells (ByteAt at) =
        number_left (ByteAt at) (λ x y. x == y) (λ x y e. eqb-true x y e) (λ x y e. eqb-false x y e)
    sets_cells Size = number_left Size (λ x y. x == y) (λ x y e. eqb-true x y e) (λ x y e. eqb-false x y e)
    sets_cells Traits = name_left Traits (λ z. z) refl
    sets_cells Entries = name_left Entries (λ z. z) refl
