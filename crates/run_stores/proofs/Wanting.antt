-- What is wanted for a Change, read from what a store tells.
use Rattle.need_laws.specs.Known.{IsAt}
use Rattle.tree_calls.specs.declared.call.Call.{Call}
use Rattle.std.proofs.Common.{Bool, Err, List, nat_lt, ◌&&◌, None, Ok, Option, Result, Some, ap, false, inl, inr, length, refl, subst, suc, sym, take, true, ℕ, ◌++◌, ◌+◌, ◌-◌, ◌==◌, ◌∙◌, ◌∷◌, ◌≡◌, ◌⊎◌, [], is_some, ◌≤◌, ◌≢◌, cond}
use Rattle.std.specs.Option.{option_map_or, option_map}
use Rattle.std.specs.Prelude.{if◌then◌else◌, slice_get, not, option_and_then}
use Rattle.std.proofs.lemmas.Option.{slice_get_within, get_or_from_slice_get}
use Rattle.std.proofs.Math.Seq.{take-suc}
use Rattle.std.proofs.Common.{arith, take_all}
use Rattle.base_types.specs.Outcomes.{and_then, either}
use Rattle.base_types.specs.declared.ids.Fid.{Fid}
use Rattle.base_types.specs.declared.ids.ServerId.{ServerId}
use Rattle.base_types.specs.declared.limits.TheConstants.{FILE_BYTES_MAX, OBJECTS_MAX}
use Rattle.base_types.specs.declared.user.User.{User}
use Rattle.tree_calls.specs.declared.call.Call.TheVariants.{
  NewFileset,
  Create,
  MakeDir,
  Remove,
  Rename,
  Truncate,
  SetAcl,
  CloneFileset,
  Read,
  Write,
  List as ListNames,
  Stat,
  GetAcl,
  Sync,
  Lock,
  Unlock,
  OpenFile,
  CloseFile,
  MoveFileset,
}
use Rattle.tree_calls.specs.declared.part.DirEntry.{DirEntry}
use Rattle.tree_calls.specs.declared.place.Place.{Place}
use Rattle.tree_calls.specs.declared.reply.Refusal.{Refusal}
use Rattle.tree_calls.specs.declared.reply.Refusal.TheVariants.{Exists, InUse, IsDir, Loop, NoFileset, NotEmpty, ReadOnly, TooBig, NotHome, CrossFileset, Denied}
use Rattle.tree_objects.specs.declared.content.Anode.{Anode}
use Rattle.tree_objects.specs.declared.content.Object.{Object}
use Rattle.tree_objects.specs.Objects.{access_of, is_dir}
use Rattle.tree_filesets.proofs.Targets.{ok_is, target_ok, then_ok, unless_ok}
use Rattle.tree_filesets.specs.Changing.{set_access_target, write_target, set_access_answer, truncate_answer}
use Rattle.tree_filesets.specs.Checks.{permission, split_at_last, split_path, unless}
use Rattle.tree_filesets.specs.Creation.{vacancy, create_answer, create_target, new_content, new_entry, new_object, owned}
use Rattle.tree_filesets.specs.Removal.{has_entries, remove_target, remove_answer}
use Rattle.tree_filesets.specs.Renaming.{rename_target, rename_answer}
use Rattle.tree_filesets.specs.Uses.{lock_target, open_target, use_target}
use Rattle.tree_filesets.specs.Walk.{entered_at, entry_or_none, entry_target, file_target, found_at, insert_target, object_at, parent_target, permitted_file, step, target, walk, unique_at}
use Rattle.tree_filesets.specs.declared.fileset.Fileset.{Fileset}
use Rattle.tree_answers.specs.Finding.{fileset_named, found_or, same_fileset, has_id, leads_to}
use Rattle.tree_answers.specs.declared.tree.Tree.{Tree}
use Rattle.tree_laws.specs.Fates.{creation, new_lists, new_nature}
use Rattle.tree_laws.specs.Losses.{use_of}
use Rattle.tree_laws.specs.Parts.{Nature}
use Rattle.tree_filesets.proofs.Names.{names_equal}
use Rattle.tree_filesets.specs.declared.renaming.Move.{Move}
use Rattle.tree_objects.specs.Entries.{entry_named}
use Rattle.tree_objects.specs.Spans.{span_between}
use Rattle.base_types.specs.declared.access.AccessEntry.{AccessEntry}
use Rattle.base_types.specs.declared.ids.OpenKind.{OpenKind}
use Rattle.tree_calls.specs.declared.place.Which.{Which}
use Rattle.token_types.specs.declared.token.Kind.TheVariants.{Lock as LockKind, Opening}
use Rattle.store_state.specs.declared.state.Holding.{Holding}
use Rattle.token_types.specs.declared.token.Need.{Need}
use Rattle.need_server.specs.Wants.{all_of, every_use_of, want, want_for, want_in, files_of, objects_from}
use Rattle.store_memory.specs.Reading.{looked_up, walk_in, fids_from}
use Rattle.store_memory.specs.declared.told.Looked.{Looked}
use Rattle.store_memory.specs.declared.told.Looked.TheVariants.{Found, Refused}
use Rattle.store_state.specs.Rows.{fileset_here, answer_for as store_answer_for, answer_to as store_answer, held_answered, held_reply, lock_check, named_row, nothing_used, open_check, rename_row, use_of as reply_to_use}
use Rattle.store_state.specs.declared.state.StoreState.{StoreState}
use Rattle.std.specs.List.{filter, find, flat_map}
use Rattle.std.proofs.lemmas.Grind.{common_steps}
use Rattle.base_types.specs.declared.ids.FilesetId.{FilesetId}
use Rattle.tree_calls.specs.declared.part.Status.{Status}
use Rattle.tree_filesets.specs.Founding.{control_check}
use Rattle.tree_filesets.specs.WellFormed.{IsWellFormed as IsWellFormedFileset}
use Rattle.tree_filesets.proofs.Observations.{object_from}
use Rattle.tree_answers.specs.Founding.{clone_source}
use Rattle.tree_answers.specs.WellFormed.{IsWellFormed}
use Rattle.tree_answers.proofs.Places.{found_by_id}
use Rattle.store_acts.specs.Parts.{status_of as status_made}
use Rattle.run_stores.proofs.Tells.{formed_found, kept_found, status_in, status_is}
use Rattle.run_stores.specs.Telling.{is_dir_told}
use Rattle.base_types.specs.declared.ids.HostId.{HostId}
use Rattle.tree_calls.specs.Rosters.{user_of}
use Rattle.tree_calls.specs.declared.place.Which.TheVariants.{Dirs, Files}
use Rattle.tree_objects.specs.declared.content.Content.{Content}
use Rattle.tree_objects.specs.declared.content.Content.TheVariants.{Dir, File}
use Rattle.tree_filesets.specs.Answers.{answered}
use Rattle.tree_filesets.specs.Rows.{fileset_answer}
use Rattle.store_state.specs.Outcomes.{Answer, refuse}
use Rattle.store_state.specs.State.{held_so, is_here_as, slot_so, with_held}
use Rattle.run_rules.specs.Kept.{is_refusal}
use Rattle.tree_filesets.specs.declared.creating.Creation.{Creation}
use Rattle.tree_filesets.specs.declared.creating.NewObject.{NewObject}
use Rattle.tree_filesets.specs.declared.creating.NewObject.TheVariants.{EmptyFile, EmptyDirectory}
use Rattle.tree_filesets.specs.declared.creating.Vacancy.{Vacancy}
use Rattle.run_stores.proofs.Replies.{Sought, sought}
use Rattle.run_stores.proofs.Replies.Sought.{Here, Nowhere}
use Rattle.run_stores.specs.Keeping.{StandsFor}
use Rattle.run_stores.specs.Wanting.{is_clone, WantsAreTold, all_and_uses_of, directory_of, status_of, want_by, wanted_of, files_told, root_of}

-- where a path leads
target_from : (f : Fileset) (user : User) (path : List (List ℕ)) (n : ℕ) (o : Object) → walk f.anodes user 1 path
    ≡ Ok n →
    object_at f.anodes n ≡ Some o → target f user path ≡ Ok (n, o)
unfolding target
target_from f user path n o way there =
    ap (λ r. and_then r (λ anode. found_at anode (object_at f.anodes anode))) way ∙ ap (found_at n) there

-- the names before the last, and the last
front_is : (path : List (List ℕ)) (empty : Refusal) (parts : List ℕ × List (List ℕ)) → split_path path empty
    ≡ Ok parts →
    (parts.1 ≡ take (length path - 1) path) × (slice_get path (length path - 1) ≡ Some parts.0)
front_is path empty parts h = by (slice_get path (length path - 1)) h
  where
    by : (o : Option (List ℕ)) → split_at_last path empty o ≡ Ok parts →
        (parts.1 ≡ take (length path - 1) path) × (o ≡ Some parts.0)
    by None h = absurd (cc)
    by (Some name) h =
        let same : (name, take (length path - 1) path) ≡ parts = ok_is (name, take (length path - 1) path) parts h in
        (sym (ap (λ p. p.1) same), ap (λ p. Some p.0) same)

whole_path : (path : List (List ℕ)) (name : List ℕ) → slice_get path (length path - 1) ≡ Some name →
    path ≡ take (length path - 1) path ++ name ∷ []
whole_path path name e =
    let inside = slice_get_within path (length path - 1) name e in
    let long : suc (length path - 1) ≡ length path = omega (arith, inside) in
    sym (take_all (length path) path (omega arith)) ∙ ap (λ n. take n path) (sym long)
    ∙ take-suc path (length path - 1) name inside
    ∙ ap (λ z. take (length path - 1) path ++ z ∷ []) (get_or_from_slice_get path (length path - 1) name name e)

-- one more name
walk_more : (anodes : List Anode) (user : User) (at mid to : ℕ) (front : List (List ℕ)) (name : List ℕ) →
    walk anodes user at front ≡ Ok mid → step anodes user mid name ≡ Ok to →
    walk anodes user at (front ++ name ∷ []) ≡ Ok to
walk_more anodes user at mid to [] name h k =
    let same : at ≡ mid = ok_is at mid h in
    ap (λ n. and_then (step anodes user n name) (λ next. Ok next)) same
    ∙ ap (λ r. and_then r (λ next. Ok next)) k
walk_more anodes user at mid to (first ∷ front) name h k =
    let (next, e, rest) = then_ok (step anodes user at first) (λ next. walk anodes user next front) mid h in
    ap (λ r. and_then r (λ next. walk anodes user next (front ++ name ∷ []))) e
    ∙ walk_more anodes user next mid to front name rest k

-- what a user may do in a directory
parent_walk : (f : Fileset) (user : User) (front : List (List ℕ)) (right : ℕ) (found : ℕ × Object × List DirEntry) →
    parent_target f user front right ≡ Ok found →
    (target f user front ≡ Ok (found.0, found.1)) × (entered_at (Some found.1) user ≡ Ok found.2)
unfolding parent_target
parent_walk f user front right found h =
    let (at, e, k) = then_ok (target f user front) _ found h in
    let (entries, searched, l) = then_ok (entered_at (Some at.1) user) _ found k in
    let (allowed, p, same) = then_ok _ (λ _. Ok (at.0, at.1, entries)) found l in
    let is : (at.0, at.1, entries) ≡ found = ok_is (at.0, at.1, entries) found same in (
      e ∙ ap (λ x. Ok (x.0, x.1)) is,
      subst (λ (x : ℕ × Object × List DirEntry). entered_at (Some x.1) user ≡ Ok x.2) is searched,
    )

insert_walk : (f : Fileset) (user : User) (front : List (List ℕ)) (name : List ℕ) (found : ℕ × Object) →
    insert_target f user front name ≡ Ok found → target f user front ≡ Ok found
unfolding insert_target
insert_walk f user front name found h =
    let (at, e, k) = then_ok (parent_target f user front _) _ found h in
    let (fresh, same) = unless_ok _ Exists (Ok (at.0, at.1)) found k in
    (parent_walk f user front _ at e).0 ∙ ap Ok (ok_is (at.0, at.1) found same)

entry_walk : (f : Fileset) (user : User) (front : List (List ℕ)) (name : List ℕ) (found : ℕ × DirEntry) →
    entry_target f user front name ≡ Ok found →
    (object : Object) × (target f user front ≡ Ok (found.0, object))
    × (step f.anodes user found.0 name ≡ Ok found.1.anode)
unfolding entry_target step
entry_walk f user front name found h =
    let (at, e, k) = then_ok (parent_target f user front _) _ found h in
    let (entry, g, same) = then_ok (entry_or_none _) (λ entry. Ok (at.0, entry)) found k in
    let is : (at.0, entry) ≡ found = ok_is (at.0, entry) found same in
    let walked = parent_walk f user front _ at e in
    let there = (target_ok f user front (at.0, at.1) walked.0).there in
    let steps : step f.anodes user at.0 name ≡ Ok entry.anode =
    ap (λ o. and_then (entered_at o user)
    (λ entries. and_then (entry_or_none (entry_named entries name)) (λ entry. Ok entry.anode))) there
    ∙ ap (λ r. and_then r (λ entries. and_then (entry_or_none (entry_named entries name))
    (λ entry. Ok entry.anode))) walked.1
    ∙ ap (λ r. and_then r (λ (entry : DirEntry). Ok entry.anode)) g in
    subst (λ (x : ℕ × DirEntry). (object : Object) × (target f user front ≡ Ok (x.0, object))
    × (step f.anodes user x.0 name ≡ Ok x.1.anode)) is (at.1, walked.0, steps)

-- what a store says of a path that leads somewhere
looks : (f : Fileset) (user : User) (place : Place) (found : ℕ × Object) → target f user place.path ≡ Ok found →
    walk_in f user place ≡ Found (use_of f found.0)
looks f user place found e =
    ap (λ r. either (and_then r (λ (anode, object). Ok anode)) (λ anode. Found (use_of f anode))
    (λ refusal. Refused refusal)) e

abbrev Either : List Need → List Need → Type 0
Either wanted told = (wanted ≡ []) ⊎ (wanted ≡ told)

-- whether checks refuse
abbrev err : {A : Type 0} → Result A Refusal → Bool
err (Ok value) = false
err (Err refusal) = true

-- where checks refuse nothing is wanted, and else what is told
abbrev Told : Bool → List Need → List Need → Type 0
Told refused wanted told = ((refused ≡ true) × (wanted ≡ [])) ⊎ ((refused ≡ false) × (wanted ≡ told))

abbrev looked : Fileset → User → Place → Looked
looked f user place = walk_in f user place

-- Create, MakeDir
creation_walk : (f : Fileset) (dir : Bool) (user : User) (path : List (List ℕ)) (made : ℕ × DirEntry × Nature) →
    creation f dir user path ≡ Ok made →
    (object : Object) × (target f user (take (length path - 1) path) ≡ Ok (made.0, object))
creation_walk f dir user path made h =
    let (writable, a) = unless_ok f.read_only ReadOnly _ made h in
    let (parts, b, c) = then_ok (split_path path Exists) _ made a in
    let (at, d, e) = then_ok (insert_target f user parts.1 parts.0) _ made c in
    let (free, g, i) = then_ok (vacancy f) _ made e in
    let (lists, j, same) = then_ok _ (λ lists. Ok (at.0, _, _)) made i in
    let front = (front_is path Exists parts b).0 in
    let walked = subst (λ p. target f user p ≡ Ok at) front (insert_walk f user parts.1 parts.0 at d) in
    (at.1, walked ∙ ap (λ n. Ok (n, at.1)) (ap (λ m. m.0) (ok_is _ made same)))

creation_told : (f : Fileset) (dir : Bool) (user : User) (place : Place) →
    Told (err (creation f dir user place.path))
    (want_for (creation f dir user place.path) (λ (parent, entry, nature). all_of true (use_of f parent)))
    (wanted_of (looked f user (directory_of place)) (all_of true))
creation_told f dir user place = by (creation f dir user place.path) refl
  where
    by : (r : Result (ℕ × DirEntry × Nature) Refusal) → creation f dir user place.path ≡ r →
        Told (err r) (want_for r (λ (parent, entry, nature). all_of true (use_of f parent)))
        (wanted_of (looked f user (directory_of place)) (all_of true))
    by (Err refusal) e = inl (refl, refl)
    by (Ok made) e =
        let (object, led) = creation_walk f dir user place.path made e in
        inr (refl, sym (ap (λ l. wanted_of l (all_of true)) (looks f user (directory_of place) (made.0, object) led)))

-- Remove
remove_walk : (f : Fileset) (user : User) (path : List (List ℕ)) (found : ℕ × List ℕ × ℕ) →
    remove_target f (λ fid. false) user path ≡ Ok found →
    ((parent : Object) × (target f user (take (length path - 1) path) ≡ Ok (found.0, parent)))
    × ((object : Object) × (target f user path ≡ Ok (found.2, object)))
unfolding remove_target
remove_walk f user path found h =
    let (writable, a) = unless_ok f.read_only ReadOnly _ found h in
    let (parts, b, c) = then_ok (split_path path InUse) _ found a in
    let (at, d, e) = then_ok (entry_target f user parts.1 parts.0) _ found c in
    let (there, g, i) = then_ok (found_at at.1.anode (object_at f.anodes at.1.anode)) _ found e in
    let (empty, j) = unless_ok (has_entries there.1.content) NotEmpty _ found i in
    let (unused, same) = unless_ok false InUse (Ok (at.0, parts.0, there.0)) found j in
    let is : (at.0, parts.0, there.0) ≡ found = ok_is (at.0, parts.0, there.0) found same in
    let split = front_is path InUse parts b in
    let (directory, led, steps) = entry_walk f user parts.1 parts.0 at d in
    let (same_anode, object) = found_is at.1.anode (object_at f.anodes at.1.anode) there g in
    let way = walk_more f.anodes user 1 at.0 at.1.anode parts.1 parts.0
    (target_ok f user parts.1 (at.0, directory) led).way steps in
    let path_is : parts.1 ++ parts.0 ∷ [] ≡ path =
    ap (λ p. p ++ parts.0 ∷ []) split.0 ∙ sym (whole_path path parts.0 split.1) in
    let whole : walk f.anodes user 1 path ≡ Ok at.1.anode =
    subst (λ p. walk f.anodes user 1 p ≡ Ok at.1.anode) path_is way in (
      (
        directory,
        subst (λ p. target f user p ≡ Ok (at.0, directory)) split.0 led
            ∙ ap (λ n. Ok (n, directory)) (ap (λ x. x.0) is),
      ),
      (
        there.1,
        target_from f user path at.1.anode there.1 whole object
            ∙ ap (λ n. Ok (n, there.1)) (same_anode ∙ ap (λ x. x.2) is),
      ),
    )
  where
    found_is : (anode : ℕ) (o : Option Object) (found : ℕ × Object) → found_at anode o ≡ Ok found →
        (anode ≡ found.0) × (o ≡ Some found.1)
    found_is anode None found h = absurd (cc)
    found_is anode (Some object) found h =
        let same : (anode, object) ≡ found = ok_is (anode, object) found h in
        (ap (λ x. x.0) same, ap (λ x. Some x.1) same)

remove_told : (f : Fileset) (user : User) (place : Place) →
    Told (err (remove_target f (λ fid. false) user place.path)) (want_in f user (Remove place))
    (want_by (looked f user) (Remove place))
unfolding want_in
remove_told f user place = by (remove_target f (λ fid. false) user place.path) refl
  where
    wanted : ℕ × List ℕ × ℕ → List Need
    wanted (parent, name, anode) =
        all_of true (use_of f parent) ++ all_of true (use_of f anode) ++ every_use_of (use_of f anode)

    by : (r : Result (ℕ × List ℕ × ℕ) Refusal) → remove_target f (λ fid. false) user place.path ≡ r →
        Told (err r) (want_for r wanted) (want_by (looked f user) (Remove place))
    by (Err refusal) e = inl (refl, refl)
    by (Ok found) e =
        let ((parent, led), (object, there)) = remove_walk f user place.path found e in
        inr (
          refl,
          sym (ap (λ l. wanted_of l (all_of true) ++ wanted_of (looked f user place) all_and_uses_of)
              (looks f user (directory_of place) (found.0, parent) led)
              ∙ ap (λ l. all_of true (use_of f found.0) ++ wanted_of l all_and_uses_of)
              (looks f user place (found.2, object) there)),
        )

-- Rename
rename_walk : (f : Fileset) (user : User) (from to : List (List ℕ)) (move : Move) →
    rename_target f user from to ≡ Ok move →
    ((parent : Object) × (target f user (take (length from - 1) from) ≡ Ok (move.from, parent)))
    × ((other : Object) × (target f user (take (length to - 1) to) ≡ Ok (move.to, other)))
unfolding rename_target
rename_walk f user from to move h =
    let (writable, a) = unless_ok f.read_only ReadOnly _ move h in
    let (old, b, c) = then_ok (split_path from Loop) _ move a in
    let (new, d, e) = then_ok (split_path to Exists) _ move c in
    let (at, g, i) = then_ok (entry_target f user old.1 old.0) _ move e in
    let (into, j, k) = then_ok (insert_target f user new.1 new.0) _ move i in
    let (away, same) = unless_ok _ Loop _ move k in
    let is = ok_is _ move same in
    let (directory, led, steps) = entry_walk f user old.1 old.0 at g in (
      (
        directory,
        subst (λ p. target f user p ≡ Ok (at.0, directory)) (front_is from Loop old b).0 led
            ∙ ap (λ n. Ok (n, directory)) (ap (λ (m : Move). m.from) is),
      ),
      (
        into.1,
        subst (λ p. target f user p ≡ Ok into) (front_is to Exists new d).0 (insert_walk f user new.1 new.0 into j)
            ∙ ap (λ n. Ok (n, into.1)) (ap (λ (m : Move). m.to) is),
      ),
    )

abbrev rename_refused : Fileset → User → Place → Place → Bool
rename_refused f user from to = if same_fileset from to then err (rename_target f user from.path to.path) else true

rename_told : (f : Fileset) (user : User) (from to : Place) →
    Told (rename_refused f user from to) (want_in f user (Rename from to)) (want_by (looked f user) (Rename from to))
unfolding want_in
rename_told f user from to = at (same_fileset from to)
  where
    wanted : Move → List Need
    wanted move = all_of true (use_of f move.from) ++ all_of true (use_of f move.to)

    by : (r : Result Move Refusal) → rename_target f user from.path to.path ≡ r →
        Told (err r) (want_for r wanted) (want_by (looked f user) (Rename from to))
    by (Err refusal) e = inl (refl, refl)
    by (Ok move) e =
        let ((parent, led), (other, there)) = rename_walk f user from.path to.path move e in
        inr (
          refl,
          sym (ap (λ l. wanted_of l (all_of true) ++ wanted_of (looked f user (directory_of to)) (all_of true))
              (looks f user (directory_of from) (move.from, parent) led)
              ∙ ap (λ l. all_of true (use_of f move.from) ++ wanted_of l (all_of true))
              (looks f user (directory_of to) (move.to, other) there)),
        )

    at : (b : Bool) → Told (if b then err (rename_target f user from.path to.path) else true)
        (if b then want_for (rename_target f user from.path to.path) wanted else [])
        (want_by (looked f user) (Rename from to))
    at true = by (rename_target f user from.path to.path) refl
    at false = inl (refl, refl)

-- Truncate
write_walk : (f : Fileset) (user : User) (path : List (List ℕ)) (len anode : ℕ) → write_target f user path len
    ≡ Ok anode →
    (object : Object) × (target f user path ≡ Ok (anode, object))
unfolding write_target permitted_file file_target
write_walk f user path len anode h =
    let (writable, a) = unless_ok f.read_only ReadOnly _ anode h in
    let (at, b, c) = then_ok (permitted_file f user path _) _ anode a in
    let (within, same) = unless_ok _ TooBig (Ok at.0) anode c in
    let (file, d, e) = then_ok (file_target f user path) _ at b in
    let (allowed, g, i) = then_ok _ (λ _. Ok (file.0, file.1)) at e in
    let (found, j, k) = then_ok (target f user path) _ file d in
    let (is_file, l) = unless_ok (is_dir found.1.content) IsDir (Ok (found.0, found.1)) file k in
    (at.1, j ∙ l ∙ i ∙ ap (λ n. Ok (n, at.1)) (ok_is at.0 anode same))

truncate_told : (f : Fileset) (user : User) (place : Place) (len : ℕ) →
    Told (err (write_target f user place.path len)) (want_in f user (Truncate place len))
    (want_by (looked f user) (Truncate place len))
unfolding want_in
truncate_told f user place len = by (write_target f user place.path len) refl
  where
    by : (r : Result ℕ Refusal) → write_target f user place.path len ≡ r →
        Told (err r) (want_for r (λ anode. all_of true (use_of f anode)))
        (wanted_of (looked f user place) (all_of true))
    by (Err refusal) e = inl (refl, refl)
    by (Ok anode) e =
        let (object, led) = write_walk f user place.path len anode e in
        inr (refl, sym (ap (λ l. wanted_of l (all_of true)) (looks f user place (anode, object) led)))

-- SetAcl
access_walk : (f : Fileset) (user : User) (path : List (List ℕ)) (which : Which) (anode : ℕ) →
    set_access_target f user path which ≡ Ok anode → (object : Object) × (target f user path ≡ Ok (anode, object))
unfolding set_access_target
access_walk f user path which anode h =
    let (writable, a) = unless_ok f.read_only ReadOnly _ anode h in
    let (at, b, c) = then_ok (target f user path) _ anode a in
    let (list, d, e) = then_ok (access_of which at.1.content)
    (λ list. and_then (permission at.1 user 8) (λ allowed. Ok at.0)) anode c in
    let (allowed, g, same) = then_ok (permission at.1 user 8) (λ allowed. Ok at.0) anode e in
    (at.1, b ∙ ap (λ n. Ok (n, at.1)) (ok_is at.0 anode same))

access_told : (f : Fileset) (user : User) (place : Place) (which : Which) (list : List AccessEntry) →
    Told (err (set_access_target f user place.path which)) (want_in f user (SetAcl place which list))
    (want_by (looked f user) (SetAcl place which list))
unfolding want_in
access_told f user place which list = by (set_access_target f user place.path which) refl
  where
    by : (r : Result ℕ Refusal) → set_access_target f user place.path which ≡ r →
        Told (err r) (want_for r (λ anode. status_of (use_of f anode))) (wanted_of (looked f user place) status_of)
    by (Err refusal) e = inl (refl, refl)
    by (Ok anode) e =
        let (object, led) = access_walk f user place.path which anode e in
        inr (refl, sym (ap (λ l. wanted_of l status_of) (looks f user place (anode, object) led)))

-- Lock, OpenFile
use_walk : (f : Fileset) (user : User) (path : List (List ℕ)) (changing : Bool) (right : ℕ) (fid : Fid) →
    use_target f user path changing right ≡ Ok fid →
    (found : ℕ × Object) × (target f user path ≡ Ok found) × (use_of f found.0 ≡ fid)
unfolding use_target file_target
use_walk f user path changing right fid h =
    let (file, a, b) = then_ok (file_target f user path) _ fid h in
    let (writable, c) = unless_ok (changing && f.read_only) ReadOnly _ fid b in
    let (allowed, d, same) = then_ok _ (λ _. Ok (use_of f file.0)) fid c in
    let (found, e, g) = then_ok (target f user path) _ file a in
    let (is_file, i) = unless_ok (is_dir found.1.content) IsDir (Ok (found.0, found.1)) file g in
    (file, e ∙ i, ok_is (use_of f file.0) fid same)

lock_told : (f : Fileset) (user : User) (label : List ℕ) (place : Place) (writing : Bool) (from len : ℕ) →
    Told (err (and_then (lock_target f user place.path writing)
    (λ fid. unless (nat_lt FILE_BYTES_MAX (from + len)) TooBig (Ok fid))))
    (want_in f user (Lock label place writing from len))
    (want_by (looked f user) (Lock label place writing from len))
unfolding want_in
lock_told f user label place writing from len =
    by (and_then (lock_target f user place.path writing)
    (λ fid. unless (nat_lt FILE_BYTES_MAX (from + len)) TooBig (Ok fid))) refl
  where
    needs : Fid → List Need
    needs fid = record { fid = fid; kind = LockKind writing (span_between from (from + len)) } ∷ []

    by : (r : Result Fid Refusal) →
        and_then (lock_target f user place.path writing)
        (λ fid. unless (nat_lt FILE_BYTES_MAX (from + len)) TooBig (Ok fid)) ≡ r →
        Told (err r) (want_for r needs) (wanted_of (looked f user place) needs)
    by (Err refusal) e = inl (refl, refl)
    by (Ok fid) e =
        let (there, a, b) = then_ok (lock_target f user place.path writing) _ fid e in
        let (within, same) = unless_ok (nat_lt FILE_BYTES_MAX (from + len)) TooBig (Ok there) fid b in
        let (found, led, is) = use_walk f user place.path writing _ there a in
        inr (
          refl,
          sym (ap (λ l. wanted_of l needs) (looks f user place found led)
              ∙ ap needs (is ∙ ok_is there fid same)),
        )

open_told : (f : Fileset) (user : User) (label : List ℕ) (place : Place) (kind : OpenKind) →
    Told (err (open_target f user place.path kind)) (want_in f user (OpenFile label place kind))
    (want_by (looked f user) (OpenFile label place kind))
unfolding want_in
open_told f user label place kind = by (open_target f user place.path kind) refl
  where
    needs : Fid → List Need
    needs fid = record { fid = fid; kind = Opening kind } ∷ []

    by : (r : Result Fid Refusal) → open_target f user place.path kind ≡ r →
        Told (err r) (want_for r needs) (wanted_of (looked f user place) needs)
    by (Err refusal) e = inl (refl, refl)
    by (Ok fid) e =
        let (found, led, is) = use_walk f user place.path _ _ fid e in
        inr (refl, sym (ap (λ l. wanted_of l needs) (looks f user place found led) ∙ ap needs is))

-- a name, in a server's tree and in its store
named_ok : (tree : Tree) (state : StoreState) (name : List ℕ) → Sought tree state name →
    fileset_here state name ≡ fileset_named tree state.server name
unfolding fileset_named
named_ok tree state name (Here place fileset holding at there led own held same) =
    ap (λ o. option_map_or (λ (h : Holding). Ok h.fileset) o (Err NoFileset)) held ∙ ap Ok same
    ∙ sym (ap (λ o. found_or o NoFileset) led)
named_ok tree state name (Nowhere at led held gone) =
    ap (λ o. option_map_or (λ (h : Holding). Ok h.fileset) o (Err NoFileset)) held
    ∙ sym (ap (λ o. found_or o NoFileset) led)

-- whether the checks refuse in a fileset, if it is there
abbrev refused_by : (Fileset → Bool) → Result Fileset Refusal → Bool
refused_by refused found = either found refused (λ refusal. true)

-- A call whose places are all in one fileset: what is wanted there is what is told there.
by_name : (tree : Tree) (state : StoreState) (user : User) (server : ServerId) (name : List ℕ)
    (refused : Fileset → Bool) (wanted : Fileset → List Need) (told : (Place → Looked) → List Need) →
    Sought tree state name → server ≡ state.server →
    ((f : Fileset) → Told (refused f) (wanted f) (told (walk_in f user))) →
    ((f : Fileset) → fileset_here state name ≡ Ok f → told (looked_up state user) ≡ told (walk_in f user)) →
    Told (refused_by refused (fileset_here state name)) (want_for (fileset_named tree server name) wanted)
    (told (looked_up state user))
by_name tree state user server name refused wanted told s its each same =
    subst (λ v. Told (refused_by refused (fileset_here state name)) (want_for (fileset_named tree v name) wanted)
    (told (looked_up state user))) (sym its) (by (fileset_named tree state.server name) refl)
  where
    here : (f : Fileset) → fileset_here state name ≡ Ok f → Told (refused f) (wanted f) (told (walk_in f user)) →
        Told (refused_by refused (fileset_here state name)) (wanted f) (told (looked_up state user))
    here f e (inl (r, none)) = inl (ap (refused_by refused) e ∙ r, none)
    here f e (inr (r, is)) = inr (ap (refused_by refused) e ∙ r, is ∙ sym (same f e))

    by : (r : Result Fileset Refusal) → fileset_named tree state.server name ≡ r →
        Told (refused_by refused (fileset_here state name)) (want_for r wanted) (told (looked_up state user))
    by (Err refusal) e = inl (ap (refused_by refused) (named_ok tree state name s ∙ e), refl)
    by (Ok f) e = here f (named_ok tree state name s ∙ e) (each f)

-- a place in the fileset
look_here : (state : StoreState) (user : User) (place : Place) (f : Fileset) → fileset_here state place.fileset ≡ Ok f →
    looked_up state user place ≡ walk_in f user place
look_here state user place f e =
    ap (λ r. either r (λ f. walk_in f user place) (λ refusal. Refused refusal)) e

-- nothing is wanted in any fileset
none_wanted : (r : Result Fileset Refusal) (wanted : Fileset → List Need) → ((f : Fileset) → wanted f ≡ []) →
    want_for r wanted ≡ []
none_wanted (Ok f) wanted none = none f
none_wanted (Err refusal) wanted none = refl

creation_in : (f : Fileset) (user : User) (place : Place) →
    Told (err (creation f false user place.path)) (want_in f user (Create place))
    (want_by (looked f user) (Create place))
unfolding want_in
creation_in f user place = creation_told f false user place

making_in : (f : Fileset) (user : User) (place : Place) →
    Told (err (creation f true user place.path)) (want_in f user (MakeDir place))
    (want_by (looked f user) (MakeDir place))
unfolding want_in
making_in f user place = creation_told f true user place

rename_none : (f : Fileset) (user : User) (from to : Place) → same_fileset from to ≡ false →
    want_in f user (Rename from to) ≡ []
unfolding want_in
rename_none f user from to e =
    ap (λ b. if b then want_for (rename_target f user from.path to.path) (λ (move : Move).
    all_of true (use_of f move.from) ++ all_of true (use_of f move.to)) else []) e

and_second : (a b : Bool) → (a && b) ≡ true → b ≡ true
and_second true b h = h
and_second false b h = absurd (cc)

rename_at : (tree : Tree) (state : StoreState) (user : User) (from to : Place) → StandsFor tree state →
    from.server ≡ state.server → (b : Bool) → same_fileset from to ≡ b →
    Told (if b then refused_by (λ f. rename_refused f user from to) (fileset_here state from.fileset) else true)
    (want tree user (Rename from to)) (want_by (looked_up state user) (Rename from to))
unfolding want
rename_at tree state user from to s its false e =
    inl (
      refl,
      none_wanted (fileset_named tree from.server from.fileset) (λ f. want_in f user (Rename from to))
          (λ f. rename_none f user from to e),
    )
rename_at tree state user from to s its true e =
    let names = names_equal from.fileset to.fileset (and_second (from.server.0 == to.server.0) _ e) in
    by_name tree state user from.server from.fileset (λ f. rename_refused f user from to)
    (λ f. want_in f user (Rename from to))
    (λ look. want_by look (Rename from to)) (sought tree state from.fileset s) its (λ f. rename_told f user from to)
    (λ f h. ap (λ l. wanted_of l (all_of true) ++ wanted_of (looked_up state user (directory_of to)) (all_of true))
    (look_here state user (directory_of from) f h)
    ∙ ap (λ l. wanted_of (walk_in f user (directory_of from)) (all_of true) ++ wanted_of l (all_of true))
    (look_here state user (directory_of to) f (subst (λ n. fileset_here state n ≡ Ok f) names h)))

-- Whether a store refuses: just where the checks do.
refused_is : {A : Type 0} (f : Fileset) (checked : Result A Refusal) (effect : A → Fileset) →
    is_refusal (answered f checked effect).reply ≡ err checked
refused_is f (Ok value) effect = refl
refused_is f (Err refusal) effect = refl

err_then : {A B C : Type 0} (r : Result A Refusal) (f : A → Result B Refusal) (g : A → Result C Refusal) →
    ((a : A) → err (f a) ≡ err (g a)) → err (and_then r f) ≡ err (and_then r g)
err_then (Ok a) f g same = same a
err_then (Err refusal) f g same = refl

err_unless : {A B : Type 0} (b : Bool) (refusal : Refusal) (x : Result A Refusal) (y : Result B Refusal) →
    err x ≡ err y → err (unless b refusal x) ≡ err (unless b refusal y)
err_unless true refusal x y same = refl
err_unless false refusal x y same = same

module _ (f : Fileset) (dir : Bool) (kind : NewObject) (user : User) where
  abbrev made : List ℕ → ℕ → Vacancy → Object → Result Creation Refusal
  made name parent vacancy object =
      Ok (record { parent = parent; entry = new_entry name vacancy; object = object })

  abbrev fated : List ℕ → ℕ → Vacancy → List (List AccessEntry) → Result (ℕ × DirEntry × Nature) Refusal
  fated name parent vacancy lists =
      Ok (parent, record { name = name; anode = vacancy.anode; unique = vacancy.unique }, new_nature dir user lists)

  abbrev Alike : Type 0
  Alike = (content : Content) (name : List ℕ) (parent : ℕ) (vacancy : Vacancy) →
      err (and_then (and_then (new_content kind content) (λ content. Ok (owned user content)))
      (made name parent vacancy))
      ≡ err (and_then (new_lists dir content) (fated name parent vacancy))

  create_err : Alike → (path : List (List ℕ)) → err (create_target f kind user path) ≡ err (creation f dir user path)
  unfolding create_target
  create_err alike path =
      err_unless f.read_only ReadOnly
      (and_then (split_path path Exists) (λ (parts : List ℕ × List (List ℕ)).
      and_then (insert_target f user parts.1 parts.0) (λ (at : ℕ × Object).
      and_then (vacancy f) (λ (room : Vacancy).
      and_then (new_object kind user at.1) (made parts.0 at.0 room)))))
      (and_then (split_path path Exists) (λ (parts : List ℕ × List (List ℕ)).
      and_then (insert_target f user parts.1 parts.0) (λ (at : ℕ × Object).
      and_then (vacancy f) (λ (room : Vacancy).
      and_then (new_lists dir at.1.content) (fated parts.0 at.0 room)))))
      (err_then (split_path path Exists)
      (λ (parts : List ℕ × List (List ℕ)). and_then (insert_target f user parts.1 parts.0) (λ (at : ℕ × Object).
      and_then (vacancy f) (λ (room : Vacancy).
      and_then (new_object kind user at.1) (made parts.0 at.0 room))))
      (λ (parts : List ℕ × List (List ℕ)). and_then (insert_target f user parts.1 parts.0) (λ (at : ℕ × Object).
      and_then (vacancy f) (λ (room : Vacancy).
      and_then (new_lists dir at.1.content) (fated parts.0 at.0 room))))
      (λ parts. err_then (insert_target f user parts.1 parts.0)
      (λ (at : ℕ × Object). and_then (vacancy f) (λ (room : Vacancy).
      and_then (new_object kind user at.1) (made parts.0 at.0 room)))
      (λ (at : ℕ × Object). and_then (vacancy f) (λ (room : Vacancy).
      and_then (new_lists dir at.1.content) (fated parts.0 at.0 room)))
      (λ at. err_then (vacancy f)
      (λ (room : Vacancy). and_then (new_object kind user at.1) (made parts.0 at.0 room))
      (λ (room : Vacancy). and_then (new_lists dir at.1.content) (fated parts.0 at.0 room))
      (λ room. alike at.1.content parts.0 at.0 room))))

file_alike : (f : Fileset) (user : User) → Alike f false EmptyFile user
file_alike f user content name parent vacancy = by (access_of Files content)
  where
    by : (r : Result (List AccessEntry) Refusal) →
        err (and_then (and_then (and_then r
        (λ files. (let made : Result Content Refusal = Ok (File files [] [] None) in made)))
        (λ content. Ok (owned user content))) (made f false EmptyFile user name parent vacancy))
        ≡ err (and_then (and_then r (λ files.
        (let lists : Result (List (List AccessEntry)) Refusal = Ok (files ∷ []) in lists)))
        (fated f false EmptyFile user name parent vacancy))
    by (Ok files) = refl
    by (Err refusal) = refl

dir_alike : (f : Fileset) (user : User) → Alike f true EmptyDirectory user
dir_alike f user content name parent vacancy = by (access_of Files content) (access_of Dirs content)
  where
    by : (r s : Result (List AccessEntry) Refusal) →
        err (and_then (and_then (and_then r (λ files. and_then s (λ dirs.
        (let made : Result Content Refusal = Ok (Dir [] (dirs ∷ files ∷ dirs ∷ [])) in made))))
        (λ content. Ok (owned user content))) (made f true EmptyDirectory user name parent vacancy))
        ≡ err (and_then (and_then r (λ files. and_then s (λ dirs.
        (let lists : Result (List (List AccessEntry)) Refusal = Ok (dirs ∷ files ∷ dirs ∷ []) in lists))))
        (fated f true EmptyDirectory user name parent vacancy))
    by (Ok files) (Ok dirs) = refl
    by (Ok files) (Err refusal) = refl
    by (Err refusal) s = refl

-- each call that one fileset decides
abbrev refuses : Fileset → HostId → User → Call → Bool
refuses f host user call = is_refusal (fileset_answer f nothing_used host user call).reply

create_refuses : (f : Fileset) (host : HostId) (user : User) (place : Place) →
    refuses f host user (Create place) ≡ err (creation f false user place.path)
unfolding fileset_answer create_answer
create_refuses f host user place =
    refused_is f (create_target f EmptyFile user place.path) _
    ∙ create_err f false EmptyFile user (file_alike f user) place.path

making_refuses : (f : Fileset) (host : HostId) (user : User) (place : Place) →
    refuses f host user (MakeDir place) ≡ err (creation f true user place.path)
unfolding fileset_answer create_answer
making_refuses f host user place =
    refused_is f (create_target f EmptyDirectory user place.path) _
    ∙ create_err f true EmptyDirectory user (dir_alike f user) place.path

remove_refuses : (f : Fileset) (host : HostId) (user : User) (place : Place) →
    refuses f host user (Remove place) ≡ err (remove_target f (λ fid. false) user place.path)
unfolding fileset_answer remove_answer
remove_refuses f host user place = refused_is f (remove_target f (λ fid. false) user place.path) _

rename_refuses : (f : Fileset) (host : HostId) (user : User) (from to : Place) →
    refuses f host user (Rename from to) ≡ err (rename_target f user from.path to.path)
unfolding fileset_answer rename_answer
rename_refuses f host user from to = refused_is f (rename_target f user from.path to.path) _

truncate_refuses : (f : Fileset) (host : HostId) (user : User) (place : Place) (len : ℕ) →
    refuses f host user (Truncate place len) ≡ err (write_target f user place.path len)
unfolding fileset_answer truncate_answer
truncate_refuses f host user place len = refused_is f (write_target f user place.path len) _

access_refuses : (f : Fileset) (host : HostId) (user : User) (place : Place) (which : Which) (list : List AccessEntry) →
    refuses f host user (SetAcl place which list) ≡ err (set_access_target f user place.path which)
unfolding fileset_answer set_access_answer
access_refuses f host user place which list = refused_is f (set_access_target f user place.path which) _

row_refuses : (state : StoreState) (host : HostId) (user : User) (call : Call) (name : List ℕ)
    (refused : Fileset → Bool) →
    ((f : Fileset) → refuses f host user call ≡ refused f) →
    is_refusal (named_row state name host user call).reply ≡ refused_by refused (fileset_here state name)
unfolding named_row
row_refuses state host user call name refused each = by (held_so (is_here_as name) state.slots)
  where
    by : (o : Option Holding) → is_refusal (held_reply host user call o)
        ≡ refused_by refused (option_map_or (λ (h : Holding). Ok h.fileset) o (Err NoFileset))
    by None = refl
    by (Some holding) = each holding.fileset

abbrev in_one : Bool → Result (Unit {0}) Refusal
in_one same = unless (not same) CrossFileset (Ok tt)

rename_row_refuses : (state : StoreState) (host : HostId) (user : User) (from to : Place) (b : Bool) →
    same_fileset from to ≡ b → is_refusal (rename_row state host user from to).reply
    ≡ (if b then refused_by (λ f. rename_refused f user from to) (fileset_here state from.fileset) else true)
unfolding rename_row named_row
rename_row_refuses state host user from to b e =
    ap (λ c. is_refusal (either (and_then (fileset_here state from.fileset) (λ f. in_one c))
    (λ moved. done (held_so (is_here_as from.fileset) state.slots)) (refuse state)).reply) e
    ∙ by b e (held_so (is_here_as from.fileset) state.slots)
  where
    done : Option Holding → Answer
    done o = record {
      reply = held_reply host user (Rename from to) o;
      state = with_held state (slot_so (is_here_as from.fileset) state.slots)
          (held_answered host user (Rename from to));
    }

    by : (c : Bool) → same_fileset from to ≡ c → (o : Option Holding) →
        is_refusal (either (and_then (option_map_or (λ (h : Holding). Ok h.fileset) o (Err NoFileset))
        (λ f. in_one c)) (λ moved. done o) (refuse state)).reply
        ≡ (if c then refused_by (λ f. rename_refused f user from to)
        (option_map_or (λ (h : Holding). Ok h.fileset) o (Err NoFileset)) else true)
    by true e None = refl
    by false e None = refl
    by false e (Some holding) = refl
    by true e (Some holding) =
        rename_refuses holding.fileset host user from to
        ∙ sym (ap (λ c. if c then err (rename_target holding.fileset user from.path to.path) else true) e)

use_refuses : (found : Result Fileset Refusal) (check : Fileset → Result Fid Refusal) →
    is_refusal (reply_to_use (and_then found check)) ≡ refused_by (λ f. err (check f)) found
use_refuses (Err refusal) check = refl
use_refuses (Ok f) check = by (check f)
  where
    by : (r : Result Fid Refusal) → is_refusal (reply_to_use r) ≡ err r
    by (Ok fid) = refl
    by (Err refusal) = refl

lock_refuses : (state : StoreState) (user : User) (place : Place) (writing : Bool) (end : ℕ) →
    is_refusal (reply_to_use (lock_check state user place writing end))
    ≡ refused_by (λ f. err (and_then (lock_target f user place.path writing) (λ fid.
    unless (nat_lt FILE_BYTES_MAX end) TooBig (Ok fid)))) (fileset_here state place.fileset)
unfolding lock_check
lock_refuses state user place writing end =
    use_refuses (fileset_here state place.fileset) (λ f. and_then (lock_target f user place.path writing) (λ fid.
    unless (nat_lt FILE_BYTES_MAX end) TooBig (Ok fid)))

open_refuses : (state : StoreState) (user : User) (place : Place) (kind : OpenKind) →
    is_refusal (reply_to_use (open_check state user place kind))
    ≡ refused_by (λ f. err (open_target f user place.path kind)) (fileset_here state place.fileset)
unfolding open_check
open_refuses state user place kind =
    use_refuses (fileset_here state place.fileset) (λ f. open_target f user place.path kind)

-- what is wanted, by what the store would reply
exact_of : (b refused : Bool) (wanted told : List Need) → b ≡ refused → Told refused wanted told →
    wanted ≡ (if b then [] else told)
exact_of b refused wanted told same (inl (r, none)) = none ∙ sym (ap (λ t. if t then [] else told) (same ∙ r))
exact_of b refused wanted told same (inr (r, is)) = is ∙ sym (ap (λ t. if t then [] else told) (same ∙ r))

no_need : (b : Bool) (wanted : List Need) → wanted ≡ [] → wanted ≡ (if b then [] else [])
no_need true wanted none = none
no_need false wanted none = none

exact_for : (tree : Tree) (state : StoreState) (host : HostId) (user : User) (call : Call) → StandsFor tree state →
    IsAt state.server call → is_clone call ≡ false →
    want tree user call
    ≡ (if is_refusal (store_answer_for state host call user).reply then [] else want_by (looked_up state user) call)
unfolding want want_in store_answer_for
exact_for tree state host user (Create place) s its one =
    exact_of _ _ _ _ (row_refuses state host user (Create place) place.fileset
    (λ f. err (creation f false user place.path)) (λ f. create_refuses f host user place))
    (by_name tree state user place.server place.fileset (λ f. err (creation f false user place.path))
    (λ f. want_in f user (Create place))
    (λ look. want_by look (Create place)) (sought tree state place.fileset s) its
    (λ f. creation_in f user place)
    (λ f e. ap (λ l. wanted_of l (all_of true)) (look_here state user (directory_of place) f e)))
exact_for tree state host user (MakeDir place) s its one =
    exact_of _ _ _ _ (row_refuses state host user (MakeDir place) place.fileset
    (λ f. err (creation f true user place.path)) (λ f. making_refuses f host user place))
    (by_name tree state user place.server place.fileset (λ f. err (creation f true user place.path))
    (λ f. want_in f user (MakeDir place))
    (λ look. want_by look (MakeDir place)) (sought tree state place.fileset s) its
    (λ f. making_in f user place)
    (λ f e. ap (λ l. wanted_of l (all_of true)) (look_here state user (directory_of place) f e)))
exact_for tree state host user (Remove place) s its one =
    exact_of _ _ _ _ (row_refuses state host user (Remove place) place.fileset
    (λ f. err (remove_target f (λ fid. false) user place.path)) (λ f. remove_refuses f host user place))
    (by_name tree state user place.server place.fileset (λ f. err (remove_target f (λ fid. false) user place.path))
    (λ f. want_in f user (Remove place))
    (λ look. want_by look (Remove place)) (sought tree state place.fileset s) its
    (λ f. remove_told f user place)
    (λ f e. ap (λ l. wanted_of l (all_of true) ++ wanted_of (looked_up state user place) all_and_uses_of)
    (look_here state user (directory_of place) f e)
    ∙ ap (λ l. wanted_of (walk_in f user (directory_of place)) (all_of true) ++ wanted_of l all_and_uses_of)
    (look_here state user place f e)))
exact_for tree state host user (Rename from to) s its one =
    exact_of _ _ _ _ (rename_row_refuses state host user from to (same_fileset from to) refl)
    (rename_at tree state user from to s its (same_fileset from to) refl)
exact_for tree state host user (Truncate place len) s its one =
    exact_of _ _ _ _ (row_refuses state host user (Truncate place len) place.fileset
    (λ f. err (write_target f user place.path len)) (λ f. truncate_refuses f host user place len))
    (by_name tree state user place.server place.fileset (λ f. err (write_target f user place.path len))
    (λ f. want_in f user (Truncate place len))
    (λ look. want_by look (Truncate place len)) (sought tree state place.fileset s) its
    (λ f. truncate_told f user place len)
    (λ f e. ap (λ l. wanted_of l (all_of true)) (look_here state user place f e)))
exact_for tree state host user (SetAcl place which list) s its one =
    exact_of _ _ _ _ (row_refuses state host user (SetAcl place which list) place.fileset
    (λ f. err (set_access_target f user place.path which)) (λ f. access_refuses f host user place which list))
    (by_name tree state user place.server place.fileset (λ f. err (set_access_target f user place.path which))
    (λ f. want_in f user (SetAcl place which list))
    (λ look. want_by look (SetAcl place which list)) (sought tree state place.fileset s) its
    (λ f. access_told f user place which list)
    (λ f e. ap (λ l. wanted_of l status_of) (look_here state user place f e)))
exact_for tree state host user (Lock label place writing from len) s its one =
    exact_of _ _ _ _ (lock_refuses state user place writing (from + len))
    (by_name tree state user place.server place.fileset
    (λ f. err (and_then (lock_target f user place.path writing) (λ fid.
    unless (nat_lt FILE_BYTES_MAX (from + len)) TooBig (Ok fid))))
    (λ f. want_in f user (Lock label place writing from len))
    (λ look. want_by look (Lock label place writing from len)) (sought tree state place.fileset s) its
    (λ f. lock_told f user label place writing from len)
    (λ f e. ap (λ l. wanted_of l (λ fid.
    record { fid = fid; kind = LockKind writing (span_between from (from + len)) } ∷ []))
    (look_here state user place f e)))
exact_for tree state host user (OpenFile label place kind) s its one =
    exact_of _ _ _ _ (open_refuses state user place kind)
    (by_name tree state user place.server place.fileset (λ f. err (open_target f user place.path kind))
    (λ f. want_in f user (OpenFile label place kind))
    (λ look. want_by look (OpenFile label place kind)) (sought tree state place.fileset s) its
    (λ f. open_told f user label place kind)
    (λ f e. ap (λ l. wanted_of l (λ fid. record { fid = fid; kind = Opening kind } ∷ []))
    (look_here state user place f e)))
exact_for tree state host user (NewFileset server name objects owner) s its one = no_need _ _ refl
exact_for tree state host user (CloneFileset server source new) s its one = absurd (cc)
exact_for tree state host user (MoveFileset server name to) s its one = absurd its
exact_for tree state host user (Read place from len) s its one =
    no_need _ _ (none_wanted (fileset_named tree place.server place.fileset) (λ f. []) (λ f. refl))
exact_for tree state host user (Write place from bytes) s its one =
    no_need _ _ (none_wanted (fileset_named tree place.server place.fileset) (λ f. []) (λ f. refl))
exact_for tree state host user (ListNames place) s its one =
    no_need _ _ (none_wanted (fileset_named tree place.server place.fileset) (λ f. []) (λ f. refl))
exact_for tree state host user (Stat place) s its one =
    no_need _ _ (none_wanted (fileset_named tree place.server place.fileset) (λ f. []) (λ f. refl))
exact_for tree state host user (GetAcl place which) s its one =
    no_need _ _ (none_wanted (fileset_named tree place.server place.fileset) (λ f. []) (λ f. refl))
exact_for tree state host user (Sync place) s its one =
    no_need _ _ (none_wanted (fileset_named tree place.server place.fileset) (λ f. []) (λ f. refl))
exact_for tree state host user (Unlock label) s its one = refl
exact_for tree state host user (CloseFile label) s its one = refl

calls_told : (tree : Tree) (state : StoreState) (host : HostId) (user : User) (call : Call) → StandsFor tree state →
    IsAt state.server call → is_clone call ≡ false → user_of tree.roster host ≡ Some user →
    want tree user call
    ≡ (if is_refusal (store_answer state host call).reply then [] else want_by (looked_up state user) call)
unfolding store_answer
calls_told tree state host user call s its one known =
    exact_for tree state host user call s its one
    ∙ sym (ap (λ o. if is_refusal (option_map_or (store_answer_for state host call) o (refuse state (Denied 0))).reply
    then [] else want_by (looked_up state user) call) (ap (λ r. user_of r host) s.keeps.roster ∙ known))

-- Clones: the files of the source
found_is_there : (found : Option Fileset) (refusal : Refusal) (f : Fileset) → found_or found refusal ≡ Ok f → found
    ≡ Some f
found_is_there None refusal f e = absurd (cc)
found_is_there (Some other) refusal f e = ap Some (ok_is other f e)

source_named : (tree : Tree) (user : User) (server : ServerId) (source : List ℕ) (f : Fileset) →
    clone_source tree user server source ≡ Ok f → fileset_named tree server source ≡ Ok f
unfolding clone_source
source_named tree user server source f h =
    let (found, e, k) = then_ok (fileset_named tree server source) _ f h in
    let (home, l) = unless_ok (not (found.server.0 == server.0)) NotHome _ f k in
    let (allowed, g, same) = then_ok (control_check found user) (λ allowed. Ok found) f l in
    e ∙ ap Ok (ok_is found f same)

source_known : (tree : Tree) (server : ServerId) (source : List ℕ) (f : Fileset) → IsWellFormed tree →
    fileset_named tree server source ≡ Ok f → find (has_id f.id) tree.filesets ≡ Some f
unfolding fileset_named
source_known tree server source f w e =
    found_by_id (leads_to tree server source) tree.filesets f (found_is_there _ NoFileset f e) w.ordered

same_fid : (id : FilesetId) (at a b : ℕ) → a ≡ b →
    (let one : Fid = record { fileset = id; anode = at; unique = a } in one)
    ≡ (let other : Fid = record { fileset = id; anode = at; unique = b } in other)
same_fid id at a b e = ap (λ u. let fid : Fid = record { fileset = id; anode = at; unique = u } in fid) e

itself : (n : ℕ) → (n == n) ≡ true
itself n = grind (arith, common_steps)

module _ (tree : Tree) (state : StoreState) (f : Fileset) (s : StandsFor tree state)
    (known : find (has_id f.id) tree.filesets ≡ Some f) where
  -- what stands at an anode is told
  dir_told : (at : ℕ) (anode : Anode) (object : Object) → object_at f.anodes at ≡ anode.object →
      unique_at f.anodes at ≡ anode.unique → anode.object ≡ Some object →
      is_dir_told state (record { fileset = f.id; anode = at; unique = anode.unique }) ≡ is_dir object.content
  dir_told at anode object there unique some =
      ap (λ o. option_map_or (λ (status : Status). status.dir) o false)
      (status_is tree state (record { fileset = f.id; anode = at; unique = anode.unique }) s
      ∙ ap (λ found. status_in found (record { fileset = f.id; anode = at; unique = anode.unique })) known
      ∙ ap (λ b. option_map (status_made f.read_only) (if b then object_at f.anodes at else None))
      (ap (λ u. u == anode.unique) unique ∙ itself anode.unique)
      ∙ ap (option_map (status_made f.read_only)) (there ∙ some))

  abbrev Stands : ℕ → List Anode → Type 0
  Stands at rest = (i : ℕ) (anode : Anode) → slice_get rest i ≡ Some anode
      → (object_at f.anodes (at + i) ≡ anode.object) × (unique_at f.anodes (at + i) ≡ anode.unique)

  abbrev is_file_told : Fid → Bool
  is_file_told fid = not (is_dir_told state fid)

  files_from : (at : ℕ) (rest : List Anode) → Stands at rest →
      filter is_file_told (fids_from f.id at rest) ≡ objects_from (λ object. not (is_dir object.content)) f at rest
  files_from at [] k = refl
  files_from at (anode ∷ rest) k =
      by anode.object refl (files_from (at + 1) rest (λ i a e.
      (let same : (at + 1) + i ≡ at + suc i = omega arith in
      subst (λ n. (object_at f.anodes n ≡ a.object) × (unique_at f.anodes n ≡ a.unique)) (sym same) (k (suc i) a e))))
    where
      here : (object_at f.anodes at ≡ anode.object) × (unique_at f.anodes at ≡ anode.unique)
      here =
          let same : at + 0 ≡ at = omega arith in
          subst (λ n. (object_at f.anodes n ≡ anode.object) × (unique_at f.anodes n ≡ anode.unique)) same
          (k 0 anode refl)

      more : List Fid
      more = objects_from (λ object. not (is_dir object.content)) f (at + 1) rest

      by : (o : Option Object) → anode.object ≡ o →
          filter is_file_told (fids_from f.id (at + 1) rest) ≡ more →
          filter is_file_told (if is_some o
          then record { fileset = f.id; anode = at; unique = anode.unique } ∷ fids_from f.id (at + 1) rest
          else fids_from f.id (at + 1) rest)
          ≡ (if option_map_or (λ (object : Object). not
          (is_dir object.content)) o false then use_of f at ∷ more else more)
      by None e rest_is = rest_is
      by (Some object) e rest_is =
          ap (λ b. cond (not b) (record { fileset = f.id; anode = at; unique = anode.unique }
          ∷ filter is_file_told (fids_from f.id (at + 1) rest)) (filter is_file_told (fids_from f.id (at + 1) rest)))
          (dir_told at anode object here.0 here.1 e)
          ∙ ap (λ xs. cond (not (is_dir object.content))
          (record { fileset = f.id; anode = at; unique = anode.unique } ∷ xs) xs)
          rest_is
          ∙ ap (λ fid. cond (not (is_dir object.content)) (fid ∷ more) more)
          (same_fid f.id at anode.unique (unique_at f.anodes at) (sym here.1))

  all_stand : Stands 1 f.anodes
  all_stand i anode e =
      let some : (1 + i) ≢ 0 = omega arith in
      let place : (1 + i) - 1 ≡ i = omega arith in
      let got : slice_get f.anodes ((1 + i) - 1) ≡ Some anode = ap (slice_get f.anodes) place ∙ e in (
        object_from f.anodes (1 + i) some ∙ ap (option_and_then (λ (a : Anode). a.object)) got,
        ap (λ o. option_map_or (λ (a : Anode). a.unique) o 0) got,
      )

  files_are : files_told state f.id ≡ files_of f
  files_are =
      let w = formed_found tree state f.id f s known in
      let count = w.count in
      let limit = w.limit in
      let few : length f.anodes ≤ OBJECTS_MAX = omega (arith, count, limit) in
      ap (λ found. filter is_file_told
      (option_map_or (λ (fileset : Fileset). fids_from f.id 1 (take OBJECTS_MAX fileset.anodes)) found []))
      (kept_found tree state f.id s ∙ known)
      ∙ ap (λ anodes. filter is_file_told (fids_from f.id 1 anodes)) (take_all OBJECTS_MAX f.anodes few)
      ∙ files_from 1 f.anodes all_stand

-- the root of a fileset is there
root_led : (f : Fileset) (user : User) → IsWellFormedFileset f → (root : Object) × (target f user [] ≡ Ok (1, root))
unfolding target
root_led f user w = by (object_at f.anodes 1) refl w.root
  where
    by : (o : Option Object) → object_at f.anodes 1 ≡ o → option_map_or (λ object. is_dir object.content) o false
        ≡ true →
        (root : Object) × (found_at 1 (object_at f.anodes 1) ≡ Ok (1, root))
    by None e h = absurd (cc)
    by (Some root) e h = (root, ap (found_at 1) e)

clones_told : (tree : Tree) (state : StoreState) (user : User) (server : ServerId) (source new : List ℕ) →
    StandsFor tree state → server ≡ state.server →
    Either (want tree user (CloneFileset server source new))
    (wanted_of (looked_up state user (root_of server source)) (λ fid.
    flat_map (all_of false) (files_told state fid.fileset)))
unfolding want
clones_told tree state user server source new s its = by (clone_source tree user server source) refl
  where
    told : Fid → List Need
    told fid = flat_map (all_of false) (files_told state fid.fileset)

    by : (r : Result Fileset Refusal) → clone_source tree user server source ≡ r →
        Either (want_for r (λ fileset. flat_map (all_of false) (files_of fileset)))
        (wanted_of (looked_up state user (root_of server source)) told)
    by (Err refusal) e = inl refl
    by (Ok f) e =
        let named = source_named tree user server source f e in
        let known = source_known tree server source f s.formed named in
        let here : fileset_here state source ≡ Ok f =
        named_ok tree state source (sought tree state source s) ∙ ap (λ v. fileset_named tree v source) (sym its)
        ∙ named in
        let (root, led) = root_led f user (formed_found tree state f.id f s known) in
        inr (ap (flat_map (all_of false)) (sym (files_are tree state f s known))
        ∙ sym (ap (λ l. wanted_of l told) (look_here state user (root_of server source) f here
        ∙ looks f user (root_of server source) (1, root) led)))

pub wants_are_told : WantsAreTold
wants_are_told = record { calls = calls_told; clones = clones_told }
