-- What a Change changes in a tree is under its want.
use Rattle.std.proofs.Common.{◌≡◌, ◌⊎◌, ℕ, zero, suc, ◌+◌, ◌-◌, ◌==◌, Bool, true, false, ◌&&◌, not, List, [], ◌∷◌, ◌++◌, Option, Some, None, Result, Ok, Err, refl, sym, ap, ◌∙◌, subst, inl, inr, rules, arith}
use Rattle.std.specs.Prelude.{slice_get, if◌then◌else◌}
use Rattle.std.specs.List.{find, flat_map}
use Rattle.std.specs.Option.{option_map_or, option_and_then}
use Rattle.base_types.specs.Ids.{same_fid}
use Rattle.base_types.specs.Outcomes.{and_then, either}
use Rattle.base_types.specs.declared.ids.Fid.{Fid}
use Rattle.base_types.specs.declared.ids.HostId.{HostId}
use Rattle.base_types.specs.declared.ids.ServerId.{ServerId}
use Rattle.base_types.specs.declared.user.User.{User}
use Rattle.tree_calls.specs.declared.call.Call.{Call}
use Rattle.tree_calls.specs.declared.call.Call.TheVariants.{NewFileset, Create, MakeDir, Remove, Rename, Truncate, SetAcl, CloneFileset, Read, Write, List as ListNames, Stat, GetAcl, Sync, Lock, Unlock, OpenFile, CloseFile, MoveFileset}
use Rattle.tree_calls.specs.declared.reply.Refusal.{Refusal}
use Rattle.tree_calls.specs.declared.reply.Refusal.TheVariants.{NoFileset, CrossFileset, Exists}
use Rattle.tree_calls.specs.declared.place.Place.{Place}
use Rattle.tree_objects.specs.declared.content.Anode.{Anode}
use Rattle.tree_objects.specs.declared.content.Object.{Object}
use Rattle.tree_filesets.specs.declared.fileset.Fileset.{Fileset}
use Rattle.tree_filesets.specs.Checks.{unless}
use Rattle.tree_filesets.specs.Promises.{new_promise, clone_promise}
use Rattle.tree_filesets.specs.Walk.{object_at, unique_at}
use Rattle.tree_filesets.proofs.Observations.{object_from, object_not_zero}
use Rattle.tree_filesets.proofs.Targets.{then_ok, unless_ok, ok_is}
use Rattle.tree_answers.specs.declared.tree.ServerRoom.{ServerRoom}
use Rattle.tree_answers.specs.declared.tree.Tree.{Tree}
use Rattle.tree_answers.specs.Finding.{found_or, has_id, leads_to, fileset_place, fileset_named, same_fileset, is_taken}
use Rattle.tree_answers.specs.Founding.{next_id, new_fileset_target, room_for, clone_source, clone_target}
use Rattle.tree_answers.specs.Moving.{move_source, move_target}
use Rattle.tree_answers.specs.Uses.{is_used}
use Rattle.tree_answers.specs.WellFormed.{IsWellFormed}
use Rattle.tree_answers.proofs.Inserted.{fresh_id}
use Rattle.tree_answers.proofs.Kept.{room_ok}
use Rattle.tree_answers.proofs.Places.{equal_is, found_by_id, find_at_place}
use Rattle.tree_laws.specs.Losses.{use_of}
use Rattle.tree_laws.specs.Fates.{Cells, Fate, after_fate, fate_at, fate_row, fate_for, new_fate, clone_fate, move_fate, moved_values}
use Rattle.tree_laws.specs.Fates.Fate.{Stays, Becomes}
use Rattle.tree_laws.specs.Parts.{Cell, Nature, Part, cell_found, cell_in, cell_at, object_in, present}
use Rattle.tree_laws.specs.Parts.Part.{ByteAt, Entries, Size, Traits}
use Rattle.tree_laws.proofs.Steps.{no_file, same_number}
use Rattle.tree_laws.proofs.TreeFates.{fresh_none}
use Rattle.token_types.specs.declared.token.Need.{Need}
use Rattle.need_host.specs.Shows.{updates, needs_update, can_be}
use Rattle.need_host.proofs.Updates.{any_back}
use Rattle.need_host.proofs.Written.{after_call}
use Rattle.need_server.specs.Wants.{all_of, every_use_of, objects_from, all_objects_of, want_for, want_in, want}
use Rattle.need_host.specs.Questions.{is_change}
use Rattle.tree_answers.specs.Answers.{answer_to}
use Rattle.need_server.specs.Laws.{ChangesAreSo, ChangesSo, KeepsKind, WantsCoverChanges}
use Rattle.need_server.specs.Laws.ChangesSo.{Leaves, Lists, Sets, Goes}
use Rattle.need_server.proofs.Covering.{is_within, covered_in, of_all}
use Rattle.need_server.proofs.KeptFiles.{named_at}
use Rattle.need_server.proofs.KeptFounds.{moving_found, move_passed}

-- an object that isn't there
gone_in : (tree : Tree) (fileset : Fileset) (fid : Fid) → find (has_id fid.fileset) tree.filesets ≡ Some fileset → object_in fileset fid ≡ None → (cell_at tree fid Traits).kept ≡ None
gone_in tree fileset fid found none =
    ap (λ o. (cell_in o fid Traits).kept) found ∙ ap (λ o. (cell_found fileset.read_only o Traits).kept) none

gone_with : (tree : Tree) (fid : Fid) → find (has_id fid.fileset) tree.filesets ≡ None → (cell_at tree fid Traits).kept ≡ None
gone_with tree fid none = ap (λ o. (cell_in o fid Traits).kept) none

module _ (tree : Tree) (fid : Fid) where
  -- what a fate changes is under some needs, or of an object that wasn't there
  abbrev Under : List Need → Fate → Type 0
  Under needs becomes = ChangesSo needs fid (cell_at tree fid) (after_fate becomes (cell_at tree fid)) ⊎ ((cell_at tree fid Traits).kept ≡ None)

  stays : (needs : List Need) → Under needs Stays
  stays needs = inl (Leaves (λ part. refl))

  -- in the fileset that a server and a name lead to
  in_fileset : (host : HostId) (user : User) (call : Call) (server : ServerId) (name : List ℕ) → IsWellFormed tree → is_change call ≡ true → is_within call ≡ true →
      Under (want_for (fileset_named tree server name) (λ fileset. want_in fileset user call)) (either (fileset_place tree server name) (λ at. fate_at tree host user call fid (slice_get tree.filesets at)) (λ refusal. Stays))
  unfolding fileset_named
  in_fileset host user call server name w is_change within = by_place (fileset_place tree server name) refl
    where
      by_test : (fileset : Fileset) → find (has_id fileset.id) tree.filesets ≡ Some fileset → (b : Bool) → has_id fid.fileset fileset ≡ b → Under (want_in fileset user call) (if b then fate_row fileset (is_used tree.locks tree.opens) host user call fid else Stays)
      by_test fileset found false e = stays (want_in fileset user call)
      by_test fileset found true e =
          let there : find (has_id fid.fileset) tree.filesets ≡ Some fileset = ap (λ n. find (λ other. other.id.0 == n) tree.filesets) (sym (equal_is fileset.id.0 fid.fileset.0 e)) ∙ found in
          elim (covered_in fileset (is_used tree.locks tree.opens) host user call fid (cell_at tree fid) is_change within e) [
            | inl under ↦ inl under
            | inr none ↦ inr (gone_in tree fileset fid there none)
          ]

      by_slot : (place : ℕ) (o : Option Fileset) → fileset_place tree server name ≡ Ok place → slice_get tree.filesets place ≡ o →
          Under (want_for (found_or (find (leads_to tree server name) tree.filesets) NoFileset) (λ fileset. want_in fileset user call)) (fate_at tree host user call fid o)
      by_slot place None h e = stays _
      by_slot place (Some fileset) h e =
          let found = named_at tree server name place fileset h e in
          subst (λ o. Under (want_for (found_or o NoFileset) (λ fileset. want_in fileset user call)) (fate_at tree host user call fid (Some fileset))) (sym found)
          (by_test fileset (found_by_id (leads_to tree server name) tree.filesets fileset found w.ordered) (has_id fid.fileset fileset) refl)

      by_place : (found : Result ℕ Refusal) → fileset_place tree server name ≡ found →
          Under (want_for (found_or (find (leads_to tree server name) tree.filesets) NoFileset) (λ fileset. want_in fileset user call)) (either found (λ at. fate_at tree host user call fid (slice_get tree.filesets at)) (λ refusal. Stays))
      by_place (Ok place) h = by_slot place (slice_get tree.filesets place) h refl
      by_place (Err refusal) h = stays _

  -- a Rename that would leave its fileset changes nothing
  crossing : (host : HostId) (user : User) (from to : Place) (needs : List Need) (b : Bool) (found : Result ℕ Refusal) →
      (b ≡ true → Under needs (either found (λ at. fate_at tree host user (Rename from to) fid (slice_get tree.filesets at)) (λ refusal. Stays))) →
      Under needs (either (and_then found (λ place. unless (not b) CrossFileset (Ok place))) (λ at. fate_at tree host user (Rename from to) fid (slice_get tree.filesets at)) (λ refusal. Stays))
  crossing host user from to needs true (Ok place) within = within refl
  crossing host user from to needs true (Err refusal) within = stays needs
  crossing host user from to needs false (Ok place) within = stays needs
  crossing host user from to needs false (Err refusal) within = stays needs

  -- a new fileset wasn't there
  fresh : (needs : List Need) (server : ServerId) (room : ServerRoom) (becomes : Fate) (blocks : ℕ) → IsWellFormed tree → room_for tree server blocks ≡ Ok room → Under needs (if (next_id server room).0 == fid.fileset.0 then becomes else Stays)
  fresh needs server room becomes blocks w h = by_test ((next_id server room).0 == fid.fileset.0) refl
    where
      by_test : (b : Bool) → ((next_id server room).0 == fid.fileset.0) ≡ b → Under needs (if b then becomes else Stays)
      by_test true e =
          let is_room = room_ok tree server blocks room h in
          inr ((gone_with tree fid (fresh_none tree.filesets (next_id server room) fid.fileset (fresh_id tree.servers server room tree.filesets is_room.number is_room.there w.given) e)))
      by_test false e = stays needs

  founded : (needs : List Need) (server : ServerId) (name : List ℕ) (objects : ℕ) (owner : User) (checked : Result ServerRoom Refusal) → IsWellFormed tree → new_fileset_target tree server name objects ≡ checked → Under needs (new_fate server name objects owner fid checked)
  unfolding new_fileset_target
  founded needs server name objects owner (Err refusal) w e = stays needs
  founded needs server name objects owner (Ok room) w e =
      fresh needs server room _ (new_promise objects) w (unless_ok (is_taken tree server name) Exists (room_for tree server (new_promise objects)) room e).1

  copied : (needs : List Need) (user : User) (server : ServerId) (source new : List ℕ) (checked : Result (Fileset × ServerRoom) Refusal) → IsWellFormed tree → clone_target tree user server source new ≡ checked → Under needs (clone_fate tree server fid checked)
  unfolding clone_target
  copied needs user server source new (Err refusal) w e = stays needs
  copied needs user server source new (Ok found) w e =
      let (fileset, f, h2) = then_ok (clone_source tree user server source) _ found e in
      let (free, h3) = unless_ok (is_taken tree server new) Exists _ found h2 in
      let (room, g, h4) = then_ok (room_for tree server (clone_promise fileset)) _ found h3 in
      let same : room ≡ found.1 = ap (λ x. x.1) (ok_is (fileset, room) found h4) in
      fresh needs server found.1 _ (clone_promise fileset) w (g ∙ ap Ok same)

  -- each object of a fileset is among the needs of a move
  among : (part : Part) (fileset : Fileset) (at : ℕ) (anodes : List Anode) (i : ℕ) (object : Object) → can_be part ≡ true → option_and_then (λ a. a.object) (slice_get anodes i) ≡ Some object → same_fid (use_of fileset (at + i)) fid ≡ true →
      needs_update (flat_map (λ fid. all_of true fid ++ every_use_of fid) (objects_from (λ object. true) fileset at anodes)) fid part ≡ true
  among part fileset at [] i object can there same = absurd (search (rules, there))
  among part fileset at (anode ∷ rest) i object can there same = by_place i there same (λ j h k. among part fileset (at + 1) rest j object can h k)
    where
      by_object : (o : Option Object) → o ≡ Some object → same_fid (use_of fileset at) fid ≡ true →
          needs_update (flat_map (λ fid. all_of true fid ++ every_use_of fid) (if option_map_or (λ object. true) o false then use_of fileset at ∷ objects_from (λ object. true) fileset (at + 1) rest else objects_from (λ object. true) fileset (at + 1) rest)) fid part ≡ true
      by_object None e k = absurd (search (rules, e))
      by_object (Some x) e k = of_all (use_of fileset at) fid (every_use_of (use_of fileset at) ++ flat_map (λ fid. all_of true fid ++ every_use_of fid) (objects_from (λ object. true) fileset (at + 1) rest)) part can k

      later : (o : Option Object) → needs_update (flat_map (λ fid. all_of true fid ++ every_use_of fid) (objects_from (λ object. true) fileset (at + 1) rest)) fid part ≡ true →
          needs_update (flat_map (λ fid. all_of true fid ++ every_use_of fid) (if option_map_or (λ object. true) o false then use_of fileset at ∷ objects_from (λ object. true) fileset (at + 1) rest else objects_from (λ object. true) fileset (at + 1) rest)) fid part ≡ true
      later None h = h
      later (Some x) h = any_back (λ need. same_fid need.fid fid && updates need.kind part) (all_of true (use_of fileset at) ++ every_use_of (use_of fileset at)) (flat_map (λ fid. all_of true fid ++ every_use_of fid) (objects_from (λ object. true) fileset (at + 1) rest)) h

      by_place : (i : ℕ) → option_and_then (λ a. a.object) (slice_get (anode ∷ rest) i) ≡ Some object → same_fid (use_of fileset (at + i)) fid ≡ true →
          ((j : ℕ) → option_and_then (λ a. a.object) (slice_get rest j) ≡ Some object → same_fid (use_of fileset ((at + 1) + j)) fid ≡ true → needs_update (flat_map (λ fid. all_of true fid ++ every_use_of fid) (objects_from (λ object. true) fileset (at + 1) rest)) fid part ≡ true) →
          needs_update (flat_map (λ fid. all_of true fid ++ every_use_of fid) (objects_from (λ object. true) fileset at (anode ∷ rest))) fid part ≡ true
      by_place zero h k tail = by_object anode.object h (ap (λ n. same_fid (use_of fileset n) fid) (let e : at ≡ at + 0 = omega arith in e) ∙ k)
      by_place (suc j) h k tail = later anode.object (tail j h (ap (λ n. same_fid (use_of fileset n) fid) (let e : (at + 1) + j ≡ at + suc j = omega arith in e) ∙ k))

  -- the traits of an object are always kept
  traits_kept : present (cell_at tree fid Traits) ≡ (cell_at tree fid Traits).kept
  traits_kept = by_fileset (find (has_id fid.fileset) tree.filesets)
    where
      by_object : (fileset : Fileset) (o : Option Object) → present (cell_found fileset.read_only o Traits) ≡ (cell_found fileset.read_only o Traits).kept
      by_object fileset None = refl
      by_object fileset (Some object) = refl

      by_fileset : (o : Option Fileset) → present (cell_in o fid Traits) ≡ (cell_in o fid Traits).kept
      by_fileset None = refl
      by_fileset (Some fileset) = by_object fileset (object_in fileset fid)

  moved_kind : KeepsKind (cell_at tree fid) (after_fate (Becomes (moved_values (cell_at tree fid))) (cell_at tree fid))
  moved_kind n is = (n, traits_kept ∙ is, refl, refl)

  moved_under : (fileset : Fileset) → find (has_id fileset.id) tree.filesets ≡ Some fileset → (b : Bool) → has_id fid.fileset fileset ≡ b →
      Under (flat_map (λ fid. all_of true fid ++ every_use_of fid) (all_objects_of fileset)) (if b then Becomes (moved_values (cell_at tree fid)) else Stays)
  moved_under fileset found false e = stays _
  moved_under fileset found true e = by_use (unique_at fileset.anodes fid.anode == fid.unique) (object_at fileset.anodes fid.anode) refl refl
    where
      there : find (has_id fid.fileset) tree.filesets ≡ Some fileset
      there = ap (λ n. find (λ other. other.id.0 == n) tree.filesets) (sym (equal_is fileset.id.0 fid.fileset.0 e)) ∙ found

      same_use : (unique_at fileset.anodes fid.anode == fid.unique) ≡ true → same_fid (use_of fileset fid.anode) fid ≡ true
      same_use u = all_true (fileset.id.0 == fid.fileset.0) (fid.anode == fid.anode) (unique_at fileset.anodes fid.anode == fid.unique) e (same_number fid.anode) u
        where
          all_true : (a b c : Bool) → a ≡ true → b ≡ true → c ≡ true → (a && b && c) ≡ true
          all_true true true c h k u = u
          all_true true false c h k u = no_file k
          all_true false b c h k u = no_file h

      by_use : (u : Bool) (o : Option Object) → (unique_at fileset.anodes fid.anode == fid.unique) ≡ u → object_at fileset.anodes fid.anode ≡ o → Under (flat_map (λ fid. all_of true fid ++ every_use_of fid) (all_objects_of fileset)) (Becomes (moved_values (cell_at tree fid)))
      by_use true (Some object) u o =
          let above = object_not_zero fileset.anodes fid.anode object o in
          let place : 1 + (fid.anode - 1) ≡ fid.anode = omega (arith, above) in
          inl (Sets (λ part can. among part fileset 1 fileset.anodes (fid.anode - 1) object can (sym (object_from fileset.anodes fid.anode above) ∙ o) (ap (λ n. same_fid (use_of fileset n) fid) place ∙ same_use u)) moved_kind)
      by_use true None u o = inr ((gone_in tree fileset fid there (ap (λ t. if t then object_at fileset.anodes fid.anode else None) u ∙ o)))
      by_use false o u k = inr ((gone_in tree fileset fid there (ap (λ t. if t then object_at fileset.anodes fid.anode else None) u)))

  moving : (user : User) (server : ServerId) (name : List ℕ) (to : ServerId) (checked : Result (ℕ × Fileset) Refusal) → IsWellFormed tree → move_target tree user server name to ≡ checked →
      Under (want_for (move_source tree user server name) (λ (place, fileset). flat_map (λ fid. all_of true fid ++ every_use_of fid) (all_objects_of fileset))) (move_fate tree fid checked)
  moving user server name to (Err refusal) w e = stays _
  moving user server name to (Ok found) w e =
      let source = move_passed tree user server name to found e in
      let there = find_at_place found.1.id tree.filesets found.0 found.1 (moving_found tree user server name found source) w.ordered (same_number found.1.id.0) in
      subst (λ checks. Under (want_for checks (λ (place, fileset). flat_map (λ fid. all_of true fid ++ every_use_of fid) (all_objects_of fileset))) (move_fate tree fid (Ok found))) (sym source)
      (moved_under found.1 there (has_id fid.fileset found.1) refl)

  covered_call : (host : HostId) (user : User) (call : Call) → IsWellFormed tree → is_change call ≡ true → Under (want tree user call) (fate_for tree host call fid (Some user))
  unfolding want
  covered_call host user (Create place) w is_change = in_fileset host user (Create place) place.server place.fileset w refl refl
  covered_call host user (MakeDir place) w is_change = in_fileset host user (MakeDir place) place.server place.fileset w refl refl
  covered_call host user (Remove place) w is_change = in_fileset host user (Remove place) place.server place.fileset w refl refl
  covered_call host user (Truncate place len) w is_change = in_fileset host user (Truncate place len) place.server place.fileset w refl refl
  covered_call host user (SetAcl place which list) w is_change = in_fileset host user (SetAcl place which list) place.server place.fileset w refl refl
  covered_call host user (Rename from to) w is_change =
      crossing host user from to (want_for (fileset_named tree from.server from.fileset) (λ fileset. want_in fileset user (Rename from to))) (same_fileset from to) (fileset_place tree from.server from.fileset)
      (λ within. in_fileset host user (Rename from to) from.server from.fileset w refl within)
  covered_call host user (NewFileset server name objects owner) w is_change = founded [] server name objects owner (new_fileset_target tree server name objects) w refl
  covered_call host user (CloneFileset server source new) w is_change = copied _ user server source new (clone_target tree user server source new) w refl
  covered_call host user (MoveFileset server name to) w is_change = moving user server name to (move_target tree user server name to) w refl
  covered_call host user (Lock label place writing from len) w is_change = stays _
  covered_call host user (OpenFile label place kind) w is_change = stays _
  covered_call host user (Read place from len) w is_change = no_file is_change
  covered_call host user (Write place from bytes) w is_change = no_file is_change
  covered_call host user (ListNames place) w is_change = no_file is_change
  covered_call host user (Stat place) w is_change = no_file is_change
  covered_call host user (GetAcl place which) w is_change = no_file is_change
  covered_call host user (Sync place) w is_change = no_file is_change
  covered_call host user (Unlock label) w is_change = no_file is_change
  covered_call host user (CloseFile label) w is_change = no_file is_change

-- the same of equal cells
so_of : (needs : List Need) (fid : Fid) (old mid new : Cells) → ((part : Part) → new part ≡ mid part) → ChangesSo needs fid old mid → ChangesSo needs fid old new
so_of needs fid old mid new same (Leaves all) = Leaves (λ part. same part ∙ all part)
so_of needs fid old mid new same (Lists update bytes size entries kind) =
    Lists update (λ at. same (ByteAt at) ∙ bytes at) (same Size ∙ size) (same Entries ∙ entries) (kind_of old mid new same kind)
  where
    kind_of : (old mid new : Cells) → ((part : Part) → new part ≡ mid part) → KeepsKind old mid → KeepsKind old new
    kind_of old mid new same kind n is = let m = kind n is in (m.0, ap (λ (c : Cell (Option Nature)). c.kept) (same Traits) ∙ m.1, m.2, m.3)
so_of needs fid old mid new same (Sets update kind) =
    Sets update (λ n is. let m = kind n is in (m.0, ap (λ (c : Cell (Option Nature)). c.kept) (same Traits) ∙ m.1, m.2, m.3))
so_of needs fid old mid new same (Goes update every gone) = Goes update every (ap (λ (c : Cell (Option Nature)). c.kept) (same Traits) ∙ gone)

pub changes_are_so : ChangesAreSo
changes_are_so tree host user call fid w is_user is_change =
    elim (covered_call tree fid host user call w is_change) [
      | inl under ↦ inl (so_of (want tree user call) fid (cell_at tree fid) (after_fate (fate_for tree host call fid (Some user)) (cell_at tree fid)) (cell_at (answer_to tree host call).tree fid) (λ part. after_call tree host user call fid part w is_user) under)
      | inr none ↦ inr none
    ]

pub wants_cover_changes : WantsCoverChanges
wants_cover_changes tree host user call fid part w is_user is_change can =
    elim (changes_are_so tree host user call fid w is_user is_change) [
      | inl so ↦ by_so part can so
      | inr none ↦ inr (inr none)
    ]
  where
    by_so : (part : Part) → can_be part ≡ true → ChangesSo (want tree user call) fid (cell_at tree fid) (cell_at (answer_to tree host call).tree fid)
        → (needs_update (want tree user call) fid part ≡ true) ⊎ ((cell_at (answer_to tree host call).tree fid part ≡ cell_at tree fid part) ⊎ ((cell_at tree fid Traits).kept ≡ None))
    by_so part can (Leaves all) = inr (inl (all part))
    by_so (ByteAt at) can (Lists update bytes size entries kind) = inr (inl (bytes at))
    by_so Size can (Lists update bytes size entries kind) = inr (inl size)
    by_so Traits can (Lists update bytes size entries kind) = inl update
    by_so Entries can (Lists update bytes size entries kind) = inr (inl entries)
    by_so part can (Sets update kind) = inl (update part can)
    by_so part can (Goes update every gone) = inl (update part can)
