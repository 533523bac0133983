-- What holds of all contents of a tree, and is kept by each change of one content, is kept by each entry.
use Rattle.std.proofs.Common.{◌≡◌, ℕ, ◌+◌, ◌-◌, ◌==◌, nat_lt, Bool, true, false, not, cond, List, [], ◌∷◌, length, Option, Some, None, Result, Ok, Err, refl, sym, ap, ◌∙◌, subst, rules}
use Rattle.std.specs.Prelude.{slice_get, map, if◌then◌else◌}
use Rattle.std.specs.List.{find, position, list_all, prefix_len}
use Rattle.std.specs.Option.{option_map, option_map_or, option_and_then}
use Rattle.base_types.specs.Outcomes.{and_then, either}
use Rattle.base_types.specs.declared.access.AccessEntry.{AccessEntry}
use Rattle.base_types.specs.declared.ids.HostId.{HostId}
use Rattle.base_types.specs.declared.ids.ServerId.{ServerId}
use Rattle.base_types.specs.declared.ids.FilesetId.{FilesetId}
use Rattle.base_types.specs.declared.ids.Fid.{Fid}
use Rattle.base_types.specs.declared.ids.OpenKind.{OpenKind}
use Rattle.base_types.specs.declared.limits.TheConstants.{FILE_BYTES_MAX}
use Rattle.base_types.specs.declared.span.Span.{Span}
use Rattle.base_types.specs.declared.user.User.{User}
use Rattle.tree_calls.specs.declared.call.Call.{Call as CallOf}
use Rattle.tree_calls.specs.declared.call.Call.TheVariants.{NewFileset, Create, MakeDir, Remove, Rename, Truncate, SetAcl, CloneFileset, Read, Write, List as ListNames, Stat, GetAcl, Sync, Lock, Unlock, OpenFile, CloseFile, MoveFileset}
use Rattle.tree_calls.specs.declared.part.DirEntry.{DirEntry}
use Rattle.tree_calls.specs.declared.place.Place.{Place}
use Rattle.tree_calls.specs.declared.place.Which.{Which}
use Rattle.tree_calls.specs.declared.place.Which.TheVariants.{Files, Dirs}
use Rattle.tree_calls.specs.declared.reply.Refusal.{Refusal}
use Rattle.tree_calls.specs.declared.reply.Refusal.TheVariants.{NoFileset, ReadOnly, TooBig, Exists}
use Rattle.tree_calls.specs.declared.reply.Reply.TheVariants.{Ok as Done}
use Rattle.tree_objects.specs.declared.content.Content.{Content}
use Rattle.tree_objects.specs.declared.content.Content.TheVariants.{Dir, File}
use Rattle.tree_objects.specs.declared.content.Object.{Object}
use Rattle.tree_objects.specs.declared.content.Anode.{Anode}
use Rattle.tree_objects.specs.Changes.{content_changed, anode_changed, anode_freed, content_written, content_truncated, content_forgotten, content_as_cloned}
use Rattle.tree_objects.specs.Entries.{content_with_entry, content_without_entry}
use Rattle.tree_objects.specs.Objects.{access_of, content_with_list}
use Rattle.tree_objects.specs.Stores.{content_stored, content_synced}
use Rattle.tree_objects.proofs.Rising.{and_both}
use Rattle.tree_filesets.specs.declared.fileset.Fileset.{Fileset}
use Rattle.tree_filesets.specs.Answers.{Answered}
use Rattle.tree_filesets.specs.Changing.{write_target, write_answer, truncate_answer, sync_answer, set_access_target, set_access_answer}
use Rattle.tree_filesets.specs.Checks.{split_path}
use Rattle.tree_filesets.specs.Creation.{occupied, owned, vacancy, new_entry, new_content, new_object, create_target, create_answer}
use Rattle.tree_filesets.specs.Founding.{unused_anode, new_fileset, anode_as_cloned, cloned, moved}
use Rattle.tree_filesets.specs.Removal.{remove_target, remove_answer}
use Rattle.tree_filesets.specs.Renaming.{rename_target, rename_answer}
use Rattle.tree_filesets.specs.Rights.{write_right}
use Rattle.tree_filesets.specs.Rows.{fileset_answer}
use Rattle.tree_filesets.specs.Updates.{updated, changed}
use Rattle.tree_filesets.specs.Walk.{object_at, permitted_file, file_target, insert_target}
use Rattle.tree_filesets.specs.WellFormed.{leads}
use Rattle.tree_filesets.proofs.Leads.{then_some}
use Rattle.tree_filesets.proofs.Observations.{object_from, object_not_zero}
use Rattle.tree_filesets.proofs.StaysWellFormed.{after_answer}
use Rattle.tree_filesets.proofs.Targets.{then_ok, unless_ok, ok_is, permitted_file_ok, walk_leads}
use Rattle.tree_calls.specs.Rosters.{user_of}
use Rattle.tree_answers.specs.declared.tree.Tree.{Tree}
use Rattle.tree_answers.specs.declared.tree.ServerRoom.{ServerRoom}
use Rattle.tree_answers.specs.Finding.{Answer, refuse, leads_to, found_or, fileset_named, fileset_place, id_place}
use Rattle.tree_answers.specs.Founding.{next_id, with_fileset, new_fileset_target, new_fileset_answer, clone_target, clone_answer}
use Rattle.tree_answers.specs.Uses.{is_used}
use Rattle.tree_answers.specs.Locks.{lock_answer, lock_check, with_lock, unlock_answer, has_lock}
use Rattle.tree_answers.specs.Opens.{open_answer, open_check, with_open, close_answer, has_open}
use Rattle.tree_answers.specs.Answers.{for_user, answer_at, deciding_place, fileset_row, answer_for, answer_to}
use Rattle.tree_answers.specs.Stores.{place_with_id, stored_tree}
use Rattle.tree_answers.specs.Losses.{fileset_forgotten, down_tree}
use Rattle.tree_answers.specs.Moving.{with_moved, move_target, move_answer, left_tree}
use Rattle.tree_answers.proofs.Kept.{cloned_so, named_is, move_ok}
use Rattle.tree_answers.proofs.Inserted.{all_insert}
use Rattle.tree_answers.proofs.Places.{find_all, get_all, place_found}
use Rattle.tree_saving.specs.Unsaved.{anode_content, fileset_contents, all_contents, content_led_to, content_named}
use Rattle.tree_saving.proofs.Lists.{all_changed, all_set, all_mapped, all_replicate}

-- what holds of each directory and each new file, and is kept by each change that isn't a write or a store
pub record IsKept (test : Content → Bool) : Type 0 where
  pub dir : (entries : List DirEntry) (lists : List (List AccessEntry)) → test (Dir entries lists) ≡ true
  pub empty : (list : List AccessEntry) → test (File list [] [] None) ≡ true
  pub truncated : (size : ℕ) (content : Content) → test content ≡ true → test (content_truncated size content) ≡ true
  pub synced : (host : HostId) (content : Content) → test content ≡ true → test (content_synced host content) ≡ true
  pub listed : (which : Which) (access : List AccessEntry) (content : Content) → test content ≡ true → test (content_with_list which access content) ≡ true
  pub clone : (content : Content) → test content ≡ true → test (content_as_cloned content) ≡ true
  pub forgotten : (host : HostId) (content : Content) → test content ≡ true → test (content_forgotten host content) ≡ true

-- one content changed
kept_object : (test : Content → Bool) (change : Content → Content) (o : Option Object) → ((object : Object) → o ≡ Some object → test object.content ≡ true → test (change object.content) ≡ true) →
    option_map_or (λ object. test object.content) o true ≡ true → option_map_or (λ object. test object.content) (option_map (content_changed change) o) true ≡ true
kept_object test change None k h = refl
kept_object test change (Some object) k h = k object refl h

pub kept_changed : (test : Content → Bool) (fileset : Fileset) (anode : ℕ) (change : Content → Content) →
    ((a : Anode) (object : Object) → Some a ≡ slice_get fileset.anodes (anode - 1) → a.object ≡ Some object → test object.content ≡ true → test (change object.content) ≡ true) →
    fileset_contents test fileset ≡ true → fileset_contents test (changed fileset anode change) ≡ true
unfolding updated
kept_changed test fileset anode change k h =
    all_changed (anode_content test) (anode_changed change) fileset.anodes (anode - 1) (λ a there m. kept_object test change a.object (λ object e. k a object there e) m) h

kept_always : (test : Content → Bool) (fileset : Fileset) (anode : ℕ) (change : Content → Content) → ((content : Content) → test content ≡ true → test (change content) ≡ true) →
    fileset_contents test fileset ≡ true → fileset_contents test (changed fileset anode change) ≡ true
kept_always test fileset anode change k h = kept_changed test fileset anode change (λ a object there e m. k object.content m) h

-- what stands at an anode is what is found there
pub same_there : (anodes : List Anode) (anode : ℕ) (known : Object) (a : Anode) (object : Object) → object_at anodes anode ≡ Some known → Some a ≡ slice_get anodes (anode - 1) → a.object ≡ Some object → known ≡ object
same_there anodes anode known a object h there e =
    let from = object_from anodes anode (object_not_zero anodes anode known h) in
    let found : option_and_then (λ a. a.object) (slice_get anodes (anode - 1)) ≡ a.object = ap (λ o. option_and_then (λ a. a.object) o) (sym there) in
    let whole : Some known ≡ Some object = sym h ∙ from ∙ found ∙ e in
    cc

-- entries of directories
kept_with_entry : (test : Content → Bool) → IsKept test → (entry : DirEntry) (content : Content) → test content ≡ true → test (content_with_entry entry content) ≡ true
kept_with_entry test kept entry (Dir entries lists) h = kept.dir _ _
kept_with_entry test kept entry (File list bytes unsaved len) h = h

kept_without_entry : (test : Content → Bool) → IsKept test → (name : List ℕ) (content : Content) → test content ≡ true → test (content_without_entry name content) ≡ true
kept_without_entry test kept name (Dir entries lists) h = kept.dir _ _
kept_without_entry test kept name (File list bytes unsaved len) h = h

-- the content of a new object
kept_new_file : (test : Content → Bool) → IsKept test → (directory content : Content) → and_then (access_of Files directory) (λ files. Ok (File files [] [] None)) ≡ Ok content → test content ≡ true
kept_new_file test kept directory content h =
    let (files, e, same) = then_ok (access_of Files directory) (λ files. Ok (File files [] [] None)) content h in
    subst (λ c. test c ≡ true) (ok_is _ content same) (kept.empty files)

kept_new_directory : (test : Content → Bool) → IsKept test → (directory content : Content) →
    and_then (access_of Files directory) (λ files. and_then (access_of Dirs directory) (λ dirs. Ok (Dir [] (dirs ∷ files ∷ dirs ∷ [])))) ≡ Ok content → test content ≡ true
kept_new_directory test kept directory content h =
    let (files, e, k) = then_ok (access_of Files directory) _ content h in
    let (dirs, f, same) = then_ok (access_of Dirs directory) (λ dirs. Ok (Dir [] (dirs ∷ files ∷ dirs ∷ []))) content k in
    subst (λ c. test c ≡ true) (ok_is _ content same) (kept.dir _ _)

-- what holds of one of two that are the same
carried : {A : Type 0} (a b : A) → a ≡ b → (P : A → Type 0) → P a → P b
carried a b e P h = subst P e h

-- the rows
kept_made : (test : Content → Bool) → IsKept test → (fileset : Fileset) (parent anode unique : ℕ) (entry : DirEntry) (object : Object) → test object.content ≡ true → fileset_contents test fileset ≡ true →
    fileset_contents test (updated (changed fileset parent (content_with_entry entry)) anode (occupied unique object)) ≡ true
unfolding updated
kept_made test kept fileset parent anode unique entry object k h =
    all_changed (anode_content test) (occupied unique object) (changed fileset parent (content_with_entry entry)).anodes (anode - 1) (λ a there m. k)
    (kept_always test fileset parent (content_with_entry entry) (kept_with_entry test kept entry) h)

-- the types of what create_target takes and of what it finds, which have no names outside their crate
abbrev SecondOf : {A B : Type 0} → (Fileset → A → B) → Type 0
SecondOf {A = A} f = A

abbrev Kind : Type 0
Kind = SecondOf create_target

abbrev FoundOf : {A : Type 0} → (Fileset → Kind → User → List (List ℕ) → Result A Refusal) → Type 0
FoundOf {A = A} f = A

abbrev Found : Type 0
Found = FoundOf create_target

kept_creation : (test : Content → Bool) (fileset : Fileset) (kind : Kind) (user : User) (path : List (List ℕ)) → ((directory content : Content) → new_content kind directory ≡ Ok content → test content ≡ true) →
    (creation : Found) → create_target fileset kind user path ≡ Ok creation → test creation.object.content ≡ true
unfolding create_target
kept_creation test fileset kind user path k creation h =
    let (writable, a) = unless_ok fileset.read_only ReadOnly _ creation h in
    let (parts, b, c) = then_ok (split_path path Exists) _ creation a in
    let (at, d, e) = then_ok (insert_target fileset user parts.1 parts.0) _ creation c in
    let (free, f, g) = then_ok (vacancy fileset) _ creation e in
    let (object, i, same) = then_ok (new_object kind user at.1) _ creation g in
    let (content, j, owned_so) = then_ok (new_content kind at.1.content) _ object i in
    let made : test object.content ≡ true = carried (owned user content) object (ok_is (owned user content) object owned_so) (λ o. test o.content ≡ true) (k at.1.content content j) in
    let its : Found = record { parent = at.0; entry = new_entry parts.0 free; object = object } in
    carried its creation (ok_is its creation same) (λ c. test c.object.content ≡ true) made

kept_create : (test : Content → Bool) → IsKept test → (fileset : Fileset) (kind : Kind) (user : User) (path : List (List ℕ)) → ((directory content : Content) → new_content kind directory ≡ Ok content → test content ≡ true) →
    fileset_contents test fileset ≡ true → fileset_contents test (create_answer fileset kind user path).fileset ≡ true
unfolding create_answer
kept_create test kept fileset kind user path k h =
    after_answer (λ f. fileset_contents test f ≡ true) fileset (create_target fileset kind user path) _ h (λ creation e.
    kept_made test kept fileset creation.parent creation.entry.anode creation.entry.unique creation.entry creation.object (kept_creation test fileset kind user path k creation e) h)

kept_remove : (test : Content → Bool) → IsKept test → (fileset : Fileset) (in_use : Fid → Bool) (user : User) (path : List (List ℕ)) → fileset_contents test fileset ≡ true → fileset_contents test (remove_answer fileset in_use user path).fileset ≡ true
unfolding remove_answer updated
kept_remove test kept fileset in_use user path h =
    after_answer (λ f. fileset_contents test f ≡ true) fileset (remove_target fileset in_use user path) _ h (λ found e.
    let left = kept_always test fileset found.0 (content_without_entry found.1) (kept_without_entry test kept found.1) h in
    all_changed (anode_content test) anode_freed (changed fileset found.0 (content_without_entry found.1)).anodes (found.2 - 1) (λ a there m. refl) left)

kept_rename : (test : Content → Bool) → IsKept test → (fileset : Fileset) (user : User) (from to : List (List ℕ)) → fileset_contents test fileset ≡ true → fileset_contents test (rename_answer fileset user from to).fileset ≡ true
unfolding rename_answer
kept_rename test kept fileset user from to h =
    after_answer (λ f. fileset_contents test f ≡ true) fileset (rename_target fileset user from to) _ h (λ move e.
    kept_always test (changed fileset move.to (content_with_entry move.entry)) move.from (content_without_entry move.name) (kept_without_entry test kept move.name)
    (kept_always test fileset move.to (content_with_entry move.entry) (kept_with_entry test kept move.entry) h))

kept_truncate : (test : Content → Bool) → IsKept test → (fileset : Fileset) (user : User) (path : List (List ℕ)) (len : ℕ) → fileset_contents test fileset ≡ true → fileset_contents test (truncate_answer fileset user path len).fileset ≡ true
unfolding truncate_answer
kept_truncate test kept fileset user path len h =
    after_answer (λ f. fileset_contents test f ≡ true) fileset (write_target fileset user path len) _ h (λ anode e. kept_always test fileset anode (content_truncated len) (kept.truncated len) h)

kept_set_access : (test : Content → Bool) → IsKept test → (fileset : Fileset) (user : User) (path : List (List ℕ)) (which : Which) (list : List AccessEntry) → fileset_contents test fileset ≡ true →
    fileset_contents test (set_access_answer fileset user path which list).fileset ≡ true
unfolding set_access_answer
kept_set_access test kept fileset user path which list h =
    after_answer (λ f. fileset_contents test f ≡ true) fileset (set_access_target fileset user path which) _ h (λ anode e. kept_always test fileset anode (content_with_list which list) (kept.listed which list) h)

kept_sync : (test : Content → Bool) → IsKept test → (fileset : Fileset) (host : HostId) (user : User) (path : List (List ℕ)) → fileset_contents test fileset ≡ true → fileset_contents test (sync_answer fileset host user path).fileset ≡ true
unfolding sync_answer
kept_sync test kept fileset host user path h =
    after_answer (λ f. fileset_contents test f ≡ true) fileset (file_target fileset user path) _ h (λ found e. kept_always test fileset found.0 (content_synced host) (kept.synced host) h)

-- the file that is written is the one to which the path leads
written_there : (fileset : Fileset) (user : User) (path : List (List ℕ)) (end anode : ℕ) → write_target fileset user path end ≡ Ok anode →
    (object : Object) × (object_at fileset.anodes anode ≡ Some object) × (content_led_to fileset path ≡ Some object.content)
unfolding write_target
written_there fileset user path end anode h =
    let (writable, k) = unless_ok fileset.read_only ReadOnly _ anode h in
    let (at, e, l) = then_ok (permitted_file fileset user path write_right) _ anode k in
    let (within, same) = unless_ok (nat_lt FILE_BYTES_MAX end) TooBig (Ok at.0) anode l in
    let walked = permitted_file_ok fileset user path write_right at e in
    let led = walk_leads fileset.anodes user path 1 at.0 walked.way in
    let P : ℕ → Type 0 = λ n. object_at fileset.anodes n ≡ Some at.1 in (
      at.1,
      subst P (ok_is at.0 anode same) walked.there,
      then_some (leads fileset.anodes 1 path) (λ anode. option_map (λ object. object.content) (object_at fileset.anodes anode)) at.0 at.1.content led (ap (λ o. option_map (λ object. object.content) o) walked.there),
    )

-- whether a write keeps it
abbrev pub WriteKeeps : (Content → Bool) → Option Content → HostId → ℕ → List ℕ → Type 0
WriteKeeps test named host from bytes = (content : Content) → named ≡ Some content → test content ≡ true → test (content_written host from bytes content) ≡ true

kept_write : (test : Content → Bool) (fileset : Fileset) (host : HostId) (user : User) (path : List (List ℕ)) (from : ℕ) (bytes : List ℕ) → WriteKeeps test (content_led_to fileset path) host from bytes →
    fileset_contents test fileset ≡ true → fileset_contents test (write_answer fileset host user path from bytes).fileset ≡ true
unfolding write_answer
kept_write test fileset host user path from bytes k h =
    after_answer (λ f. fileset_contents test f ≡ true) fileset (write_target fileset user path (from + length bytes)) _ h (λ anode e.
    let (known, there, led) = written_there fileset user path (from + length bytes) anode e in
    kept_changed test fileset anode (content_written host from bytes) (λ a object at o m.
    let same = same_there fileset.anodes anode known a object there at o in
    k object.content (led ∙ ap (λ x. Some x.content) same) m) h)

-- whether each write that a call is keeps it
abbrev pub CallKeeps : (Content → Bool) → (Place → Option Content) → HostId → CallOf → Type 0
CallKeeps test named host (Write place from bytes) = WriteKeeps test (named place) host from bytes
CallKeeps test named host _ = Unit {0}

kept_row : (test : Content → Bool) → IsKept test → (fileset : Fileset) (in_use : Fid → Bool) (host : HostId) (user : User) (call : CallOf) → CallKeeps test (λ place. content_led_to fileset place.path) host call →
    fileset_contents test fileset ≡ true → fileset_contents test (fileset_answer fileset in_use host user call).fileset ≡ true
unfolding fileset_answer
kept_row test kept fileset in_use host user (Create place) k h = kept_create test kept fileset _ user place.path (λ directory content e. kept_new_file test kept directory content e) h
kept_row test kept fileset in_use host user (MakeDir place) k h = kept_create test kept fileset _ user place.path (λ directory content e. kept_new_directory test kept directory content e) h
kept_row test kept fileset in_use host user (Remove place) k h = kept_remove test kept fileset in_use user place.path h
kept_row test kept fileset in_use host user (Rename from to) k h = kept_rename test kept fileset user from.path to.path h
kept_row test kept fileset in_use host user (Truncate place len) k h = kept_truncate test kept fileset user place.path len h
kept_row test kept fileset in_use host user (SetAcl place which list) k h = kept_set_access test kept fileset user place.path which list h
kept_row test kept fileset in_use host user (Write place from bytes) k h = kept_write test fileset host user place.path from bytes k h
kept_row test kept fileset in_use host user (Sync place) k h = kept_sync test kept fileset host user place.path h
kept_row test kept fileset in_use host user _ k h = h

-- the fileset that decides a write is the one that is named
pub place_is : {X : Type 0} (p : X → Bool) (xs : List X) (i : ℕ) (x : X) → found_or (position p xs) NoFileset ≡ Ok i → Some x ≡ slice_get xs i → find p xs ≡ Some x
place_is p xs i x =
    elim (nat_lt (prefix_len (λ x. not (p x)) xs) (length xs)) as (λ t. found_or (cond t (Some (prefix_len (λ x. not (p x)) xs)) None) NoFileset ≡ Ok i → Some x ≡ slice_get xs i → find p xs ≡ Some x) [
      | true ↦ λ h there. let same : prefix_len (λ x. not (p x)) xs ≡ i = ok_is _ i h in place_found p xs ∙ ap (λ n. slice_get xs n) same ∙ sym there
      | false ↦ λ h. absurd (search (rules, h))
    ]

named_there : (tree : Tree) (place : Place) (at : ℕ) (fileset : Fileset) → fileset_place tree place.server place.fileset ≡ Ok at → Some fileset ≡ slice_get tree.filesets at → content_named tree place ≡ content_led_to fileset place.path
unfolding fileset_place fileset_named
named_there tree place at fileset h there =
    ap (λ o. either (found_or o NoFileset) (λ f. content_led_to f place.path) (λ refusal. None)) (place_is (leads_to tree place.server place.fileset) tree.filesets at fileset h there)

call_there : (test : Content → Bool) (tree : Tree) (host : HostId) (call : CallOf) (at : ℕ) (fileset : Fileset) → deciding_place tree call ≡ Ok at → Some fileset ≡ slice_get tree.filesets at → CallKeeps test (content_named tree) host call →
    CallKeeps test (λ place. content_led_to fileset place.path) host call
call_there test tree host (Write place from bytes) at fileset h there k = λ content e m. k content (named_there tree place at fileset h there ∙ e) m
call_there test tree host _ at fileset h there k = tt

-- one fileset answers
kept_at : (test : Content → Bool) (tree : Tree) (place : ℕ) (found : Option Fileset) (ask : Fileset → Answered) → found ≡ slice_get tree.filesets place →
    ((fileset : Fileset) → found ≡ Some fileset → fileset_contents test fileset ≡ true → fileset_contents test (ask fileset).fileset ≡ true) → all_contents test tree ≡ true → all_contents test (answer_at tree place found ask).tree ≡ true
kept_at test tree place None ask e k h = h
kept_at test tree place (Some fileset) ask e k h =
    all_set (fileset_contents test) tree.filesets place (ask fileset).fileset (k fileset refl (get_all (fileset_contents test) tree.filesets place fileset e h)) h

kept_place : (test : Content → Bool) → IsKept test → (tree : Tree) (found : Result ℕ Refusal) (host : HostId) (user : User) (call : CallOf) → deciding_place tree call ≡ found → CallKeeps test (content_named tree) host call → all_contents test tree ≡ true →
    all_contents test (either found (λ place. answer_at tree place (slice_get tree.filesets place) (λ fileset. fileset_answer fileset (is_used tree.locks tree.opens) host user call)) (refuse tree)).tree ≡ true
kept_place test kept tree (Err why) host user call e k h = h
kept_place test kept tree (Ok place) host user call e k h =
    kept_at test tree place (slice_get tree.filesets place) _ refl
    (λ fileset there. kept_row test kept fileset (is_used tree.locks tree.opens) host user call (call_there test tree host call place fileset e (sym there) k)) h

kept_fileset_row : (test : Content → Bool) → IsKept test → (tree : Tree) (host : HostId) (user : User) (call : CallOf) → CallKeeps test (content_named tree) host call → all_contents test tree ≡ true → all_contents test (fileset_row tree host user call).tree ≡ true
unfolding fileset_row
kept_fileset_row test kept tree host user call k h = kept_place test kept tree (deciding_place tree call) host user call refl k h

-- a fileset more
kept_with : (test : Content → Bool) (tree : Tree) (server : ServerId) (room : ServerRoom) (new : Fileset) → fileset_contents test new ≡ true → all_contents test tree ≡ true → all_contents test (with_fileset tree server room new) ≡ true
kept_with test tree server room new k h = all_insert (fileset_contents test) new (id_place tree.filesets new.id) tree.filesets k h

kept_new : (test : Content → Bool) → IsKept test → (tree : Tree) (server : ServerId) (name : List ℕ) (objects : ℕ) (owner : User) (checked : Result ServerRoom Refusal) → all_contents test tree ≡ true →
    all_contents test (either checked (λ room. let answer : Answer = record { reply = Done; tree = with_fileset tree server room (new_fileset server (next_id server room) name objects owner) } in answer) (refuse tree)).tree ≡ true
unfolding new_fileset
kept_new test kept tree server name objects owner (Err why) h = h
kept_new test kept tree server name objects owner (Ok room) h =
    kept_with test tree server room (new_fileset server (next_id server room) name objects owner) (and_both _ _ (kept.dir _ _) (all_replicate (anode_content test) (objects - 1) unused_anode refl)) h

kept_anode : (test : Content → Bool) → IsKept test → (anode : Anode) → anode_content test anode ≡ true → anode_content test (anode_as_cloned anode) ≡ true
kept_anode test kept anode h = kept_object test content_as_cloned anode.object (λ object e m. kept.clone object.content m) h

kept_cloned : (test : Content → Bool) → IsKept test → (tree : Tree) (user : User) (server : ServerId) (source new : List ℕ) (checked : Result (Fileset × ServerRoom) Refusal) → checked ≡ clone_target tree user server source new → all_contents test tree ≡ true →
    all_contents test (either checked (λ (fileset, room). let answer : Answer = record { reply = Done; tree = with_fileset tree server room (cloned fileset (next_id server room) new) } in answer) (refuse tree)).tree ≡ true
unfolding cloned
kept_cloned test kept tree user server source new (Err why) e h = h
kept_cloned test kept tree user server source new (Ok found) e h =
    let so = cloned_so tree user server source new found (sym e) in
    let source_kept : fileset_contents test found.0 ≡ true = find_all (leads_to tree server source) (fileset_contents test) tree.filesets found.0 (named_is tree server source found.0 so.from) h in
    kept_with test tree server found.1 (cloned found.0 (next_id server found.1) new) (all_mapped (anode_content test) (anode_content test) anode_as_cloned (kept_anode test kept) found.0.anodes source_kept) h

-- a fileset that moves
kept_moved : (test : Content → Bool) → IsKept test → (tree : Tree) (user : User) (server : ServerId) (name : List ℕ) (to : ServerId) (checked : Result (ℕ × Fileset) Refusal) → checked ≡ move_target tree user server name to → all_contents test tree ≡ true →
    all_contents test (either checked (λ (place, fileset). let answer : Answer = record { reply = Done; tree = with_moved tree place fileset to } in answer) (refuse tree)).tree ≡ true
unfolding moved
kept_moved test kept tree user server name to (Err why) e h = h
kept_moved test kept tree user server name to (Ok found) e h =
    let there = (move_ok tree user server name to found (sym e)).1.there in
    let source_kept : fileset_contents test found.1 ≡ true = get_all (fileset_contents test) tree.filesets found.0 found.1 there h in
    all_set (fileset_contents test) tree.filesets found.0 (moved found.1 to) (all_mapped (anode_content test) (anode_content test) anode_as_cloned (kept_anode test kept) found.1.anodes source_kept) h

-- calls that leave the filesets
kept_same : (test : Content → Bool) (tree : Tree) (answer : Answer) → answer.tree.filesets ≡ tree.filesets → all_contents test tree ≡ true → all_contents test answer.tree ≡ true
kept_same test tree answer e h = ap (list_all (fileset_contents test)) e ∙ h

lock_leaves : (tree : Tree) (host : HostId) (user : User) (label : List ℕ) (place : Place) (writing : Bool) (from len : ℕ) → (lock_answer tree host user label place writing from len).tree.filesets ≡ tree.filesets
unfolding lock_answer
lock_leaves tree host user label place writing from len = leaves (lock_check tree host user label place writing from len)
  where
    leaves : (checked : Result (Fid × Span) Refusal) → (either checked (λ (fid, span). let answer : Answer = record { reply = Done; tree = with_lock tree (record { host = host; label = label; fid = fid; writing = writing; span = span }) } in answer) (refuse tree)).tree.filesets ≡ tree.filesets
    leaves (Ok found) = refl
    leaves (Err why) = refl

unlock_leaves : (tree : Tree) (host : HostId) (label : List ℕ) → (unlock_answer tree host label).tree.filesets ≡ tree.filesets
unfolding unlock_answer
unlock_leaves tree host label = ap_cond (has_lock tree.locks host label) _ _ refl refl
  where
    ap_cond : (t : Bool) (a b : Answer) → a.tree.filesets ≡ tree.filesets → b.tree.filesets ≡ tree.filesets → (cond (not t) a b).tree.filesets ≡ tree.filesets
    ap_cond true a b h k = k
    ap_cond false a b h k = h

open_leaves : (tree : Tree) (host : HostId) (user : User) (label : List ℕ) (place : Place) (kind : OpenKind) → (open_answer tree host user label place kind).tree.filesets ≡ tree.filesets
unfolding open_answer
open_leaves tree host user label place kind = leaves (open_check tree host user label place kind)
  where
    leaves : (checked : Result Fid Refusal) → (either checked (λ fid. let answer : Answer = record { reply = Done; tree = with_open tree (record { host = host; label = label; fid = fid; kind = kind }) } in answer) (refuse tree)).tree.filesets ≡ tree.filesets
    leaves (Ok found) = refl
    leaves (Err why) = refl

close_leaves : (tree : Tree) (host : HostId) (label : List ℕ) → (close_answer tree host label).tree.filesets ≡ tree.filesets
unfolding close_answer
close_leaves tree host label = ap_cond (has_open tree.opens host label) _ _ refl refl
  where
    ap_cond : (t : Bool) (a b : Answer) → a.tree.filesets ≡ tree.filesets → b.tree.filesets ≡ tree.filesets → (cond (not t) a b).tree.filesets ≡ tree.filesets
    ap_cond true a b h k = k
    ap_cond false a b h k = h

kept_for : (test : Content → Bool) → IsKept test → (tree : Tree) (host : HostId) (call : CallOf) (user : User) → CallKeeps test (content_named tree) host call → all_contents test tree ≡ true → all_contents test (answer_for tree host call user).tree ≡ true
unfolding answer_for new_fileset_answer clone_answer move_answer
kept_for test kept tree host (NewFileset server name objects owner) user k h = kept_new test kept tree server name objects owner (new_fileset_target tree server name objects) h
kept_for test kept tree host (CloneFileset server source new) user k h = kept_cloned test kept tree user server source new (clone_target tree user server source new) refl h
kept_for test kept tree host (MoveFileset server name to) user k h = kept_moved test kept tree user server name to (move_target tree user server name to) refl h
kept_for test kept tree host (Lock label place writing from len) user k h = kept_same test tree (lock_answer tree host user label place writing from len) (lock_leaves tree host user label place writing from len) h
kept_for test kept tree host (Unlock label) user k h = kept_same test tree (unlock_answer tree host label) (unlock_leaves tree host label) h
kept_for test kept tree host (OpenFile label place kind) user k h = kept_same test tree (open_answer tree host user label place kind) (open_leaves tree host user label place kind) h
kept_for test kept tree host (CloseFile label) user k h = kept_same test tree (close_answer tree host label) (close_leaves tree host label) h
kept_for test kept tree host (Create place) user k h = kept_fileset_row test kept tree host user (Create place) k h
kept_for test kept tree host (MakeDir place) user k h = kept_fileset_row test kept tree host user (MakeDir place) k h
kept_for test kept tree host (Remove place) user k h = kept_fileset_row test kept tree host user (Remove place) k h
kept_for test kept tree host (Rename from to) user k h = kept_fileset_row test kept tree host user (Rename from to) k h
kept_for test kept tree host (Truncate place len) user k h = kept_fileset_row test kept tree host user (Truncate place len) k h
kept_for test kept tree host (SetAcl place which list) user k h = kept_fileset_row test kept tree host user (SetAcl place which list) k h
kept_for test kept tree host (Read place from len) user k h = kept_fileset_row test kept tree host user (Read place from len) k h
kept_for test kept tree host (Write place from bytes) user k h = kept_fileset_row test kept tree host user (Write place from bytes) k h
kept_for test kept tree host (ListNames place) user k h = kept_fileset_row test kept tree host user (ListNames place) k h
kept_for test kept tree host (Stat place) user k h = kept_fileset_row test kept tree host user (Stat place) k h
kept_for test kept tree host (GetAcl place which) user k h = kept_fileset_row test kept tree host user (GetAcl place which) k h
kept_for test kept tree host (Sync place) user k h = kept_fileset_row test kept tree host user (Sync place) k h

-- a call
pub kept_call : (test : Content → Bool) → IsKept test → (tree : Tree) (host : HostId) (call : CallOf) → CallKeeps test (content_named tree) host call → all_contents test tree ≡ true → all_contents test (answer_to tree host call).tree ≡ true
unfolding answer_to
kept_call test kept tree host call k h = for_found (user_of tree.roster host)
  where
    for_found : (found : Option User) → all_contents test (for_user tree found (answer_for tree host call)).tree ≡ true
    for_found None = h
    for_found (Some user) = kept_for test kept tree host call user k h

-- a store
pub kept_store : (test : Content → Bool) (tree : Tree) (host : HostId) (fid : Fid) (spans : List Span) (stored : Option ℕ) →
    ((fileset : Fileset) (a : Anode) (object : Object) → Some fileset ≡ slice_get tree.filesets (place_with_id tree.filesets fid.fileset) → Some a ≡ slice_get fileset.anodes (fid.anode - 1) → a.object ≡ Some object →
    test object.content ≡ true → test (content_stored host spans stored object.content) ≡ true) →
    all_contents test tree ≡ true → all_contents test (stored_tree tree host fid spans stored) ≡ true
unfolding stored_tree
kept_store test tree host fid spans stored k h =
    all_changed (fileset_contents test) (λ fileset. changed fileset fid.anode (content_stored host spans stored)) tree.filesets (place_with_id tree.filesets fid.fileset)
    (λ fileset there m. kept_changed test fileset fid.anode (content_stored host spans stored) (λ a object at e n. k fileset a object there at e n) m) h

-- a host that is down
pub fileset_mapped : (test other : Content → Bool) (change : Content → Content) → ((content : Content) → test content ≡ true → other (change content) ≡ true) → (anodes : List Anode) →
    list_all (anode_content test) anodes ≡ true → list_all (anode_content other) (map (anode_changed change) anodes) ≡ true
fileset_mapped test other change k anodes h = all_mapped (anode_content test) (anode_content other) (anode_changed change) (λ anode m. object_mapped anode.object m) anodes h
  where
    object_mapped : (o : Option Object) → option_map_or (λ object. test object.content) o true ≡ true → option_map_or (λ object. other object.content) (option_map (content_changed change) o) true ≡ true
    object_mapped None m = refl
    object_mapped (Some object) m = k object.content m

-- a server learns that a fileset has arrived
pub kept_left : (test : Content → Bool) (tree : Tree) (server : ServerId) (id : FilesetId) → all_contents test tree ≡ true → all_contents test (left_tree tree server id) ≡ true
unfolding left_tree
kept_left test tree server id h = h

pub kept_down : (test : Content → Bool) → IsKept test → (tree : Tree) (host : HostId) (server : ServerId) → all_contents test tree ≡ true → all_contents test (down_tree tree host server) ≡ true
unfolding down_tree
kept_down test kept tree host server h =
    all_mapped (fileset_contents test) (fileset_contents test) (λ fileset. if fileset.server.0 == server.0 then fileset_forgotten host fileset else fileset) forgotten tree.filesets h
  where
    forgotten : (fileset : Fileset) → fileset_contents test fileset ≡ true → fileset_contents test (if fileset.server.0 == server.0 then fileset_forgotten host fileset else fileset) ≡ true
    forgotten fileset m =
        elim (fileset.server.0 == server.0) as (λ t. fileset_contents test (if t then fileset_forgotten host fileset else fileset) ≡ true)
        [ true ↦ fileset_mapped test test (content_forgotten host) (kept.forgotten host) fileset.anodes m | false ↦ m ]
