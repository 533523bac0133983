-- What is wanted is of objects that are there.
use Rattle.std.proofs.Common.{◌≡◌, ◌≢◌, ℕ, suc, ◌+◌, ◌-◌, nat_lt, Bool, true, false, ◌&&◌, not, List, [], ◌∷◌, ◌++◌, Option, Some, None, is_some, Result, Ok, Err, refl, sym, ap, ◌∙◌, subst, rules, arith}
use Rattle.std.specs.Prelude.{slice_get, if◌then◌else◌}
use Rattle.std.specs.List.{find, list_all, flat_map}
use Rattle.std.specs.Option.{option_map_or, option_and_then}
use Rattle.base_types.specs.Outcomes.{and_then}
use Rattle.base_types.specs.declared.ids.Fid.{Fid}
use Rattle.base_types.specs.declared.ids.ServerId.{ServerId}
use Rattle.base_types.specs.declared.limits.TheConstants.{FILE_BYTES_MAX}
use Rattle.base_types.specs.declared.user.User.{User}
use Rattle.tree_calls.specs.declared.call.Call.{Call}
use Rattle.tree_calls.specs.declared.call.Call.TheVariants.{NewFileset, Create, MakeDir, Remove, Rename, Truncate, SetAcl, CloneFileset, Read, Write, List as ListNames, Stat, GetAcl, Sync, Lock, Unlock, OpenFile, CloseFile, MoveFileset}
use Rattle.tree_calls.specs.declared.reply.Refusal.{Refusal}
use Rattle.tree_calls.specs.declared.reply.Refusal.TheVariants.{ReadOnly, Exists, TooBig}
use Rattle.tree_objects.specs.declared.content.Anode.{Anode}
use Rattle.tree_objects.specs.declared.content.Object.{Object}
use Rattle.tree_objects.specs.Objects.{is_dir}
use Rattle.tree_filesets.specs.declared.fileset.Fileset.{Fileset}
use Rattle.tree_filesets.specs.Changing.{write_target, set_access_target}
use Rattle.tree_filesets.specs.Checks.{unless, permission, split_path}
use Rattle.tree_filesets.specs.Creation.{vacancy}
use Rattle.tree_filesets.specs.Removal.{remove_target}
use Rattle.tree_filesets.specs.Renaming.{rename_target}
use Rattle.tree_filesets.specs.Uses.{use_target, lock_target, open_target}
use Rattle.tree_filesets.specs.Walk.{object_at, file_target, insert_target}
use Rattle.tree_filesets.specs.WellFormed.{IsWellFormed as IsWellFormedFileset, entry_at, entry_in}
use Rattle.tree_filesets.proofs.Observations.{object_from}
use Rattle.tree_filesets.proofs.Targets.{then_ok, unless_ok, ok_is, insert_target_ok, file_target_ok, write_target_ok, set_access_target_ok, remove_target_ok, rename_target_ok}
use Rattle.tree_answers.specs.declared.tree.Tree.{Tree}
use Rattle.tree_answers.specs.Finding.{has_id, leads_to, fileset_named, same_fileset}
use Rattle.tree_answers.specs.Founding.{clone_source}
use Rattle.tree_answers.specs.Moving.{move_source}
use Rattle.tree_answers.specs.WellFormed.{IsWellFormed}
use Rattle.tree_answers.proofs.AfterMove.{formed_get}
use Rattle.tree_answers.proofs.Kept.{named_is}
use Rattle.tree_answers.proofs.Places.{found_by_id, find_at_place}
use Rattle.tree_laws.specs.Fates.{creation, new_lists}
use Rattle.tree_laws.specs.Parts.{Nature, cell_at}
use Rattle.tree_laws.specs.Parts.Part.{Traits}
use Rattle.tree_laws.proofs.Steps.{same_number, formed_found}
use Rattle.tree_laws.specs.Losses.{use_of}
use Rattle.token_types.specs.declared.token.Need.{Need}
use Rattle.tree_calls.specs.declared.part.DirEntry.{DirEntry}
use Rattle.need_host.specs.Questions.{fileset_of}
use Rattle.need_server.specs.Wants.{all_of, every_use_of, objects_from, files_of, all_objects_of, want_for, want_in, want_named, want}
use Rattle.need_server.specs.Laws.{WantsAreThere}
use Rattle.need_server.proofs.KeptFiles.{cell_shows}
use Rattle.need_server.proofs.KeptFounds.{source_found, moving_found}

module _ (tree : Tree) where
  abbrev is_there : Fid → Bool
  is_there fid = is_some (cell_at tree fid Traits).kept

  abbrev All : List Need → Type 0
  All needs = list_all (λ need. is_there need.fid) needs ≡ true

  both : (a b : Bool) → a ≡ true → b ≡ true → (a && b) ≡ true
  both true b h k = k
  both false b h k = absurd (search (rules, h))

  -- needs of one object, before others
  one : (fid : Fid) (rest : List Need) → is_there fid ≡ true → All rest → All (all_of true fid ++ rest)
  one fid rest h k = both (is_there fid) (is_there fid && list_all (λ need. is_there need.fid) rest) h (both (is_there fid) (list_all (λ need. is_there need.fid) rest) h k)

  read_one : (fid : Fid) (rest : List Need) → is_there fid ≡ true → All rest → All (all_of false fid ++ rest)
  read_one fid rest h k = both (is_there fid) (is_there fid && list_all (λ need. is_there need.fid) rest) h (both (is_there fid) (list_all (λ need. is_there need.fid) rest) h k)

  every : (fid : Fid) (rest : List Need) → is_there fid ≡ true → All rest → All (every_use_of fid ++ rest)
  every fid rest h k = both (is_there fid) (is_there fid && list_all (λ need. is_there need.fid) rest) h (both (is_there fid) (list_all (λ need. is_there need.fid) rest) h k)

  for_checks : {A : Type 0} (checks : Result A Refusal) (needs : A → List Need) → ((found : A) → checks ≡ Ok found → All (needs found)) → All (want_for checks needs)
  for_checks (Ok found) needs each = each found refl
  for_checks (Err refusal) needs each = refl

  module _ (fileset : Fileset) (found : find (has_id fileset.id) tree.filesets ≡ Some fileset) (formed : IsWellFormedFileset fileset) where
    there : (anode : ℕ) (object : Object) → object_at fileset.anodes anode ≡ Some object → is_there (use_of fileset anode) ≡ true
    there anode object at = ap (λ cell. is_some cell.kept) (cell_shows tree fileset anode object Traits found at)

    entered : (at : ℕ) (name : List ℕ) (entry : DirEntry) → entry_at fileset.anodes at name ≡ Some entry → is_there (use_of fileset at) ≡ true
    entered at name entry h = by_object (object_at fileset.anodes at) refl h
      where
        by_object : (o : Option Object) → object_at fileset.anodes at ≡ o → option_and_then (λ object. entry_in object.content name) o ≡ Some entry → is_there (use_of fileset at) ≡ true
        by_object None e h = absurd (search (rules, h))
        by_object (Some object) e h = there at object e

    -- each object that passes a test
    all_from : (test : Object → Bool) (each : Fid → List Need) → ((fid : Fid) (rest : List Need) → is_there fid ≡ true → All rest → All (each fid ++ rest)) → (at : ℕ) (anodes : List Anode) →
        ((i : ℕ) (a : Anode) → slice_get anodes i ≡ Some a → object_at fileset.anodes (at + i) ≡ a.object) → All (flat_map each (objects_from test fileset at anodes))
    all_from test each grow at [] stands = refl
    all_from test each grow at (anode ∷ rest) stands =
        by_object anode.object (ap (λ n. object_at fileset.anodes n) (let e : at ≡ at + 0 = omega arith in e) ∙ stands 0 anode refl)
        (all_from test each grow (at + 1) rest (λ i a h. ap (λ n. object_at fileset.anodes n) (let e : (at + 1) + i ≡ at + suc i = omega arith in e) ∙ stands (suc i) a h))
      where
        by_test : (object : Object) (b : Bool) → object_at fileset.anodes at ≡ Some object → All (flat_map each (objects_from test fileset (at + 1) rest)) →
            All (flat_map each (if b then use_of fileset at ∷ objects_from test fileset (at + 1) rest else objects_from test fileset (at + 1) rest))
        by_test object true e tail = grow (use_of fileset at) (flat_map each (objects_from test fileset (at + 1) rest)) (there at object e) tail
        by_test object false e tail = tail

        by_object : (o : Option Object) → object_at fileset.anodes at ≡ o → All (flat_map each (objects_from test fileset (at + 1) rest)) →
            All (flat_map each (if option_map_or test o false then use_of fileset at ∷ objects_from test fileset (at + 1) rest else objects_from test fileset (at + 1) rest))
        by_object None e tail = tail
        by_object (Some object) e tail = by_test object (test object) e tail

    all_of_them : (test : Object → Bool) (each : Fid → List Need) → ((fid : Fid) (rest : List Need) → is_there fid ≡ true → All rest → All (each fid ++ rest)) → All (flat_map each (objects_from test fileset 1 fileset.anodes))
    all_of_them test each grow = all_from test each grow 1 fileset.anodes stands
      where
        stands : (i : ℕ) (a : Anode) → slice_get fileset.anodes i ≡ Some a → object_at fileset.anodes (1 + i) ≡ a.object
        stands i a h =
            let above : 1 + i ≢ 0 = λ z. absurd (omega (arith, z)) in
            object_from fileset.anodes (1 + i) above ∙ ap (λ n. option_and_then (λ a. a.object) (slice_get fileset.anodes n)) (let e : (1 + i) - 1 ≡ i = omega arith in e) ∙ ap (λ o. option_and_then (λ a. a.object) o) h

    alone : (anode : ℕ) (object : Object) → object_at fileset.anodes anode ≡ Some object → All (all_of true (use_of fileset anode))
    alone anode object at = one (use_of fileset anode) [] (there anode object at) refl

    used : (user : User) (path : List (List ℕ)) (changing : Bool) (right : ℕ) (fid : Fid) → use_target fileset user path changing right ≡ Ok fid → is_there fid ≡ true
    unfolding use_target
    used user path changing right fid h =
        let (file, a, h1) = then_ok (file_target fileset user path) _ fid h in
        let (writable, h2) = unless_ok (changing && fileset.read_only) ReadOnly _ fid h1 in
        let (may, b, h3) = then_ok (permission file.1 user right) (λ _. Ok (use_of fileset file.0)) fid h2 in
        subst (λ f. is_there f ≡ true) (ok_is (use_of fileset file.0) fid h3) (there file.0 file.1 (file_target_ok fileset user path file a).there)

    parent_there : (dir : Bool) (user : User) (path : List (List ℕ)) (made : ℕ × DirEntry × Nature) → creation fileset dir user path ≡ Ok made → All (all_of true (use_of fileset made.0))
    parent_there dir user path made h =
        let (writable, a) = unless_ok fileset.read_only ReadOnly _ made h in
        let (parts, b, c) = then_ok (split_path path Exists) _ made a in
        let (at, d, e) = then_ok (insert_target fileset user parts.1 parts.0) _ made c in
        let (free, f, g) = then_ok (vacancy fileset) _ made e in
        let (lists, i, same) = then_ok (new_lists dir at.1.content) _ made g in
        subst (λ n. All (all_of true (use_of fileset n))) (ap (λ m. m.0) (ok_is _ made same)) (alone at.0 at.1 (insert_target_ok fileset user parts.1 parts.0 at d).there)

    in_there : (user : User) (call : Call) → All (want_in fileset user call)
    unfolding want_in
    in_there user (Create place) = for_checks (creation fileset false user place.path) _ (λ made h. parent_there false user place.path made h)
    in_there user (MakeDir place) = for_checks (creation fileset true user place.path) _ (λ made h. parent_there true user place.path made h)
    in_there user (Remove place) = for_checks (remove_target fileset (λ fid. false) user place.path) _ (λ gone h.
        let goes = remove_target_ok fileset (λ fid. false) user place.path gone h in
        let object = there gone.2 goes.object (ap (λ n. object_at fileset.anodes n) (sym goes.number) ∙ goes.goes.object_there) in
        let parent = entered gone.0 gone.1 goes.entry goes.goes.entry_there in
        one (use_of fileset gone.0) (all_of true (use_of fileset gone.2) ++ every_use_of (use_of fileset gone.2)) parent
        (one (use_of fileset gone.2) (every_use_of (use_of fileset gone.2)) object (every (use_of fileset gone.2) [] object refl)))
    in_there user (Rename from to) = by_test (same_fileset from to)
      where
        by_test : (b : Bool) → All (if b then want_for (rename_target fileset user from.path to.path) (λ move. all_of true (use_of fileset move.from) ++ all_of true (use_of fileset move.to)) else [])
        by_test true = for_checks (rename_target fileset user from.path to.path) _ (λ move h.
            let moves = rename_target_ok fileset user from.path to.path move h in
            one (use_of fileset move.from) (all_of true (use_of fileset move.to)) (entered move.from move.name moves.entry moves.moves.entry_there) (alone move.to moves.directory moves.takes.there))
        by_test false = refl
    in_there user (Truncate place len) = for_checks (write_target fileset user place.path len) _ (λ anode h.
        let file = write_target_ok fileset user place.path len anode h in alone anode file.object file.there)
    in_there user (SetAcl place which list) = for_checks (set_access_target fileset user place.path which) _ (λ anode h.
        let (object, at) = set_access_target_ok fileset user place.path which anode h in both (is_there (use_of fileset anode)) true (there anode object at) refl)
    in_there user (Lock label place writing from len) =
        for_checks (and_then (lock_target fileset user place.path writing) (λ fid. unless (nat_lt FILE_BYTES_MAX (from + len)) TooBig (Ok fid))) _ (λ fid h.
        let (target, a, b) = then_ok (lock_target fileset user place.path writing) _ fid h in
        let (fits, same) = unless_ok (nat_lt FILE_BYTES_MAX (from + len)) TooBig (Ok target) fid b in
        both (is_there fid) true (used user place.path _ _ fid (a ∙ same)) refl)
    in_there user (OpenFile label place kind) = for_checks (open_target fileset user place.path kind) _ (λ fid h. both (is_there fid) true (used user place.path _ _ fid h) refl)
    in_there user (NewFileset server name objects owner) = refl
    in_there user (CloneFileset server source new) = refl
    in_there user (MoveFileset server name to) = refl
    in_there user (Read place from len) = refl
    in_there user (Write place from bytes) = refl
    in_there user (ListNames place) = refl
    in_there user (Stat place) = refl
    in_there user (GetAcl place which) = refl
    in_there user (Sync place) = refl
    in_there user (Unlock label) = refl
    in_there user (CloseFile label) = refl

  in_named : (user : User) (call : Call) (o : Option (ServerId × List ℕ)) → IsWellFormed tree → All (want_named tree user call o)
  in_named user call None w = refl
  in_named user call (Some (server, name)) w = for_checks (fileset_named tree server name) _ (λ fileset h.
      let found = named_is tree server name fileset h in
      in_there fileset (found_by_id (leads_to tree server name) tree.filesets fileset found w.ordered) (formed_found (leads_to tree server name) tree.filesets fileset w.filesets found) user call)

  in_clone : (user : User) (server : ServerId) (source : List ℕ) → IsWellFormed tree → All (want_for (clone_source tree user server source) (λ fileset. flat_map (all_of false) (files_of fileset)))
  in_clone user server source w = for_checks (clone_source tree user server source) _ (λ fileset h.
      let found = source_found tree user server source fileset h in
      all_of_them fileset (found_by_id (leads_to tree server source) tree.filesets fileset found w.ordered) (formed_found (leads_to tree server source) tree.filesets fileset w.filesets found)
      (λ object. not (is_dir object.content)) (all_of false) read_one)

  in_move : (user : User) (server : ServerId) (name : List ℕ) → IsWellFormed tree → All (want_for (move_source tree user server name) (λ (place, fileset). flat_map (λ fid. all_of true fid ++ every_use_of fid) (all_objects_of fileset)))
  in_move user server name w = for_checks (move_source tree user server name) _ (λ found h.
      let at = moving_found tree user server name found h in
      all_of_them found.1 (find_at_place found.1.id tree.filesets found.0 found.1 at w.ordered (same_number found.1.id.0)) (formed_get tree.filesets found.0 found.1 at w.filesets)
      (λ object. true) (λ fid. all_of true fid ++ every_use_of fid) (λ fid rest h k. one fid (every_use_of fid ++ rest) h (every fid rest h k)))

pub wants_are_there : WantsAreThere
unfolding want
wants_are_there tree user (CloneFileset server source new) w = in_clone tree user server source w
wants_are_there tree user (MoveFileset server name to) w = in_move tree user server name w
wants_are_there tree user (NewFileset server name objects owner) w = in_named tree user (NewFileset server name objects owner) (fileset_of (NewFileset server name objects owner)) w
wants_are_there tree user (Create place) w = in_named tree user (Create place) (fileset_of (Create place)) w
wants_are_there tree user (MakeDir place) w = in_named tree user (MakeDir place) (fileset_of (MakeDir place)) w
wants_are_there tree user (Remove place) w = in_named tree user (Remove place) (fileset_of (Remove place)) w
wants_are_there tree user (Rename from to) w = in_named tree user (Rename from to) (fileset_of (Rename from to)) w
wants_are_there tree user (Truncate place len) w = in_named tree user (Truncate place len) (fileset_of (Truncate place len)) w
wants_are_there tree user (SetAcl place which list) w = in_named tree user (SetAcl place which list) (fileset_of (SetAcl place which list)) w
wants_are_there tree user (Read place from len) w = in_named tree user (Read place from len) (fileset_of (Read place from len)) w
wants_are_there tree user (Write place from bytes) w = in_named tree user (Write place from bytes) (fileset_of (Write place from bytes)) w
wants_are_there tree user (ListNames place) w = in_named tree user (ListNames place) (fileset_of (ListNames place)) w
wants_are_there tree user (Stat place) w = in_named tree user (Stat place) (fileset_of (Stat place)) w
wants_are_there tree user (GetAcl place which) w = in_named tree user (GetAcl place which) (fileset_of (GetAcl place which)) w
wants_are_there tree user (Sync place) w = in_named tree user (Sync place) (fileset_of (Sync place)) w
wants_are_there tree user (Lock label place writing from len) w = in_named tree user (Lock label place writing from len) (fileset_of (Lock label place writing from len)) w
wants_are_there tree user (Unlock label) w = in_named tree user (Unlock label) (fileset_of (Unlock label)) w
wants_are_there tree user (OpenFile label place kind) w = in_named tree user (OpenFile label place kind) (fileset_of (OpenFile label place kind)) w
wants_are_there tree user (CloseFile label) w = in_named tree user (CloseFile label) (fileset_of (CloseFile label)) w
