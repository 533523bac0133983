-- Where looks along paths end, by a view that shows a fileset.
use Rattle.std.proofs.Common.{◌≡◌, ℕ, Bool, true, false, ◌&&◌, not, List, [], ◌∷◌, Option, Some, None, Result, Ok, Err, refl, sym, ap, ◌∙◌}
use Rattle.std.specs.Prelude.{slice_get, if◌then◌else◌}
use Rattle.std.specs.Option.{option_map_or}
use Rattle.base_types.specs.Access.{rights_of, allows}
use Rattle.base_types.specs.declared.access.AccessEntry.{AccessEntry}
use Rattle.base_types.specs.Outcomes.{and_then}
use Rattle.base_types.specs.declared.ids.Fid.{Fid}
use Rattle.base_types.specs.declared.user.User.{User}
use Rattle.tree_calls.specs.declared.part.DirEntry.{DirEntry}
use Rattle.tree_calls.specs.declared.reply.Refusal.{Refusal}
use Rattle.tree_calls.specs.declared.reply.Refusal.TheVariants.{NoEntry, IsDir, Denied, ReadOnly}
use Rattle.tree_objects.specs.declared.content.Content.{Content}
use Rattle.tree_objects.specs.declared.content.Content.TheVariants.{Dir, File}
use Rattle.tree_objects.specs.declared.content.Object.{Object}
use Rattle.tree_objects.specs.Entries.{entry_named}
use Rattle.tree_objects.specs.Objects.{is_dir, own_list, rights_by, own_rights, entered}
use Rattle.tree_filesets.specs.declared.fileset.Fileset.{Fileset}
use Rattle.tree_filesets.specs.Checks.{unless, permission}
use Rattle.tree_filesets.specs.Rights.{execute_right}
use Rattle.tree_filesets.specs.Walk.{object_at, entered_at, entry_or_none, step, walk, found_at, target, file_target, permitted_file}
use Rattle.tree_filesets.specs.Uses.{use_target}
use Rattle.tree_filesets.specs.WellFormed.{IsWellFormed, entry_at}
use Rattle.tree_filesets.proofs.Targets.{entered_ok, entry_or_none_ok}
use Rattle.tree_answers.specs.Finding.{found_or}
use Rattle.tree_laws.specs.Parts.Part.{Traits, Entries}
use Rattle.need_host.specs.Looks.{Look, outcome, checked, refuse_if, View}
use Rattle.need_host.specs.Looks.Look.{Ends, Looks}
use Rattle.need_host.specs.Walks.{fid_in, rights_on, nature_look, permitted, search_look, step_look, walk_look, target_look, file_look, permitted_look, use_look}
use Rattle.need_host.proofs.Looking.{outcome_checked, outcome_refuse}
use Rattle.tree_laws.proofs.Steps.{then_same, then_then, unless_then}
use Rattle.tree_laws.specs.Losses.{use_of}
use Rattle.tree_laws.specs.Parts.{Part, Nature, present, nature_of, cell_found}
use Rattle.tree_filesets.specs.Laws.{lists_in, entries_in}

-- a view shows what stands at the anodes of a fileset
abbrev pub ShowsFileset : View → Fileset → Type 0
ShowsFileset view fileset = (at : ℕ) (part : Part) → view (use_of fileset at) part ≡ present (cell_found fileset.read_only (object_at fileset.anodes at) part)

-- rights
by_list : (o : Option (List AccessEntry)) (object : Object) (user : User) → option_map_or (λ list. rights_of list object.owner object.group user) o 0 ≡ rights_by o object user
by_list None object user = refl
by_list (Some list) object user = refl

by_content : (content : Content) (object : Object) (user : User) → option_map_or (λ list. rights_of list object.owner object.group user) (slice_get (lists_in content) 0) 0 ≡ rights_by (own_list content) object user
by_content (Dir entries lists) object user = by_list (slice_get lists 0) object user
by_content (File list kept unsaved len) object user = refl

pub same_rights : (read_only : Bool) (object : Object) (user : User) → rights_on (nature_of read_only object) user ≡ own_rights object user
same_rights read_only object user = by_content object.content object user

allowed : {A : Type 0} (b : Bool) (right : ℕ) (next : Result A Refusal) → unless (not b) (Denied right) next ≡ and_then {A = Unit {0}} (if b then Ok tt else Err (Denied right)) (λ _. next)
allowed true right next = refl
allowed false right next = refl

-- a right that the user has to have
pub same_permission : {A : Type 0} (view : View) (read_only : Bool) (object : Object) (user : User) (right : ℕ) (next : Look (Result A Refusal)) →
    outcome view (permitted (nature_of read_only object) user right next) ≡ and_then (permission object user right) (λ _. outcome view next)
same_permission view read_only object user right next =
    outcome_refuse view (not (allows (rights_on (nature_of read_only object) user) right)) (Denied right) next
    ∙ ap (λ rights. unless (not (allows rights right)) (Denied right) (outcome view next)) (same_rights read_only object user)
    ∙ allowed (allows (own_rights object user) right) right (outcome view next)

-- a directory that the user may search
search_content : (view : View) (fid : Fid) (read_only : Bool) (owner group : List ℕ) (content : Content) (user : User) → view fid Entries ≡ entries_in content →
    let object : Object = record { owner = owner; group = group; content = content } in
    outcome view (search_look user fid (nature_of read_only object)) ≡ entered object user
search_content view fid read_only owner group (Dir entries lists) user shows =
    let object : Object = record { owner = owner; group = group; content = Dir entries lists } in
    same_permission view read_only object user execute_right (Looks fid Entries (λ entries. Ends (Ok entries)))
    ∙ ap (λ seen. and_then (permission object user execute_right) (λ _. Ok seen)) shows
    ∙ by_test (allows (own_rights object user) 4)
  where
    by_test : (b : Bool) → and_then {A = Unit {0}} (if b then Ok tt else Err (Denied 4)) (λ _. Ok entries) ≡ (if b then Ok entries else Err (Denied 4))
    by_test true = refl
    by_test false = refl
search_content view fid read_only owner group (File list kept unsaved len) user shows = refl

pub search_seen : (view : View) (fid : Fid) (read_only : Bool) (object : Object) (user : User) → view fid Entries ≡ entries_in object.content →
    outcome view (search_look user fid (nature_of read_only object)) ≡ entered object user
search_seen view fid read_only object user shows = search_content view fid read_only object.owner object.group object.content user shows

-- what a path leads to
abbrev pub seen_at : Fileset → ℕ × Object → Fid × Nature
seen_at fileset found = (use_of fileset found.0, nature_of fileset.read_only found.1)

module _ (view : View) (fileset : Fileset) (formed : IsWellFormed fileset) (shows : ShowsFileset view fileset) where
  -- one name
  step_object : (user : User) (at : ℕ) (name : List ℕ) (o : Option Object) → object_at fileset.anodes at ≡ o →
      outcome view (step_look user (use_of fileset at) name) ≡ and_then (entered_at o user) (λ entries. and_then (entry_or_none (entry_named entries name)) (λ entry. Ok (fid_in (use_of fileset at) entry)))
  step_object user at name None there =
      outcome_checked view (nature_look (use_of fileset at)) _
      ∙ ap (λ seen. and_then (found_or seen NoEntry) (λ nature. outcome view (checked (search_look user (use_of fileset at) nature) (λ entries. Ends (and_then (entry_or_none (entry_named entries name)) (λ entry. Ok (fid_in (use_of fileset at) entry)))))))
      (shows at Traits ∙ ap (λ o. present (cell_found fileset.read_only o Traits)) there)
  step_object user at name (Some object) there =
      outcome_checked view (nature_look (use_of fileset at)) _
      ∙ ap (λ seen. and_then (found_or seen NoEntry) (λ nature. outcome view (checked (search_look user (use_of fileset at) nature) (λ entries. Ends (and_then (entry_or_none (entry_named entries name)) (λ entry. Ok (fid_in (use_of fileset at) entry)))))))
      (shows at Traits ∙ ap (λ o. present (cell_found fileset.read_only o Traits)) there)
      ∙ outcome_checked view (search_look user (use_of fileset at) (nature_of fileset.read_only object)) _
      ∙ ap (λ found. and_then found (λ entries. and_then (entry_or_none (entry_named entries name)) (λ entry. Ok (fid_in (use_of fileset at) entry))))
      (search_seen view (use_of fileset at) fileset.read_only object user (shows at Entries ∙ ap (λ o. present (cell_found fileset.read_only o Entries)) there))

  -- what an entry names is the present use of its anode
  entry_used : (at : ℕ) (name : List ℕ) (entry : DirEntry) → entry_at fileset.anodes at name ≡ Some entry → fid_in (use_of fileset at) entry ≡ use_of fileset entry.anode
  entry_used at name entry found = ap (λ n. let fid : Fid = record { fileset = fileset.id; anode = entry.anode; unique = n } in fid) (sym (formed.named at name entry found).1)

  pub step_seen : (user : User) (at : ℕ) (name : List ℕ) → outcome view (step_look user (use_of fileset at) name) ≡ and_then (step fileset.anodes user at name) (λ next. Ok (use_of fileset next))
  unfolding step
  step_seen user at name =
      step_object user at name (object_at fileset.anodes at) refl
      ∙ then_same (entered_at (object_at fileset.anodes at) user) _ (λ entries. and_then (and_then (entry_or_none (entry_named entries name)) (λ entry. Ok entry.anode)) (λ next. Ok (use_of fileset next)))
      (λ entries h. then_same (entry_or_none (entry_named entries name)) _ (λ entry. Ok (use_of fileset entry.anode))
      (λ entry k. ap Ok (entry_used at name entry (entered_ok (object_at fileset.anodes at) user entries h name ∙ entry_or_none_ok (entry_named entries name) entry k)))
      ∙ sym (then_then (entry_or_none (entry_named entries name)) (λ entry. Ok entry.anode) (λ next. Ok (use_of fileset next))))
      ∙ sym (then_then (entered_at (object_at fileset.anodes at) user) (λ entries. and_then (entry_or_none (entry_named entries name)) (λ entry. Ok entry.anode)) (λ next. Ok (use_of fileset next)))

  pub walk_seen : (user : User) (at : ℕ) (path : List (List ℕ)) → outcome view (walk_look user (use_of fileset at) path) ≡ and_then (walk fileset.anodes user at path) (λ next. Ok (use_of fileset next))
  walk_seen user at [] = refl
  walk_seen user at (name ∷ names) =
      outcome_checked view (step_look user (use_of fileset at) name) _
      ∙ ap (λ found. and_then found (λ next. outcome view (walk_look user next names))) (step_seen user at name)
      ∙ then_then (step fileset.anodes user at name) (λ next. Ok (use_of fileset next)) (λ next. outcome view (walk_look user next names))
      ∙ then_same (step fileset.anodes user at name) _ _ (λ next h. walk_seen user next names)
      ∙ sym (then_then (step fileset.anodes user at name) (λ next. walk fileset.anodes user next names) (λ next. Ok (use_of fileset next)))

  -- the nature of what a walk reached
  nature_seen : (anode : ℕ) (o : Option Object) → object_at fileset.anodes anode ≡ o →
      outcome view (checked {B = Fid × Nature} (nature_look (use_of fileset anode)) (λ nature. Ends (Ok (use_of fileset anode, nature)))) ≡ and_then (found_at anode o) (λ (at, object). Ok (use_of fileset at, nature_of fileset.read_only object))
  nature_seen anode None there =
      outcome_checked view (nature_look (use_of fileset anode)) _
      ∙ ap (λ seen. and_then {B = Fid × Nature} (found_or seen NoEntry) (λ nature. Ok (use_of fileset anode, nature))) (shows anode Traits ∙ ap (λ o. present (cell_found fileset.read_only o Traits)) there)
  nature_seen anode (Some object) there =
      outcome_checked view (nature_look (use_of fileset anode)) _
      ∙ ap (λ seen. and_then {B = Fid × Nature} (found_or seen NoEntry) (λ nature. Ok (use_of fileset anode, nature))) (shows anode Traits ∙ ap (λ o. present (cell_found fileset.read_only o Traits)) there)

  pub target_seen : (user : User) (path : List (List ℕ)) → outcome view (target_look user (use_of fileset 1) path) ≡ and_then (target fileset user path) (λ found. Ok (seen_at fileset found))
  unfolding target
  target_seen user path =
      outcome_checked view (walk_look user (use_of fileset 1) path) _
      ∙ ap (λ found. and_then found (λ fid. outcome view (checked {B = Fid × Nature} (nature_look fid) (λ nature. Ends (Ok (fid, nature)))))) (walk_seen user 1 path)
      ∙ then_then (walk fileset.anodes user 1 path) (λ next. Ok (use_of fileset next)) _
      ∙ then_same (walk fileset.anodes user 1 path) _ _ (λ anode h. nature_seen anode (object_at fileset.anodes anode) refl)
      ∙ sym (then_then (walk fileset.anodes user 1 path) (λ anode. found_at anode (object_at fileset.anodes anode)) (λ found. Ok (seen_at fileset found)))

  -- a look from there on
  pub on_target : {A : Type 0} (user : User) (path : List (List ℕ)) (next : Fid × Nature → Look (Result A Refusal)) →
      outcome view (checked (target_look user (use_of fileset 1) path) next) ≡ and_then (target fileset user path) (λ found. outcome view (next (seen_at fileset found)))
  on_target user path next =
      outcome_checked view (target_look user (use_of fileset 1) path) next
      ∙ ap (λ found. and_then found (λ value. outcome view (next value))) (target_seen user path)
      ∙ then_then (target fileset user path) (λ found. Ok (seen_at fileset found)) (λ value. outcome view (next value))

  pub file_seen : (user : User) (path : List (List ℕ)) → outcome view (file_look user (use_of fileset 1) path) ≡ and_then (file_target fileset user path) (λ found. Ok (seen_at fileset found))
  unfolding file_target
  file_seen user path =
      on_target user path (λ (fid, nature). refuse_if nature.dir IsDir (Ends (Ok (fid, nature))))
      ∙ then_same (target fileset user path) _ _ (λ found h. outcome_refuse view (is_dir found.1.content) IsDir (Ends (Ok (seen_at fileset found))) ∙ sym (unless_then (is_dir found.1.content) IsDir (Ok found) (λ found. Ok (seen_at fileset found))))
      ∙ sym (then_then (target fileset user path) (λ (anode, object). unless (is_dir object.content) IsDir (Ok (anode, object))) (λ found. Ok (seen_at fileset found)))

  pub on_file : {A : Type 0} (user : User) (path : List (List ℕ)) (next : Fid × Nature → Look (Result A Refusal)) →
      outcome view (checked (file_look user (use_of fileset 1) path) next) ≡ and_then (file_target fileset user path) (λ found. outcome view (next (seen_at fileset found)))
  on_file user path next =
      outcome_checked view (file_look user (use_of fileset 1) path) next
      ∙ ap (λ found. and_then found (λ value. outcome view (next value))) (file_seen user path)
      ∙ then_then (file_target fileset user path) (λ found. Ok (seen_at fileset found)) (λ value. outcome view (next value))

  pub permitted_seen : (user : User) (path : List (List ℕ)) (right : ℕ) → outcome view (permitted_look user (use_of fileset 1) path right) ≡ and_then (permitted_file fileset user path right) (λ found. Ok (seen_at fileset found))
  unfolding permitted_file
  permitted_seen user path right =
      on_file user path (λ (fid, nature). permitted nature user right (Ends (Ok (fid, nature))))
      ∙ then_same (file_target fileset user path) _ _ (λ found h.
      same_permission view fileset.read_only found.1 user right (Ends (Ok (seen_at fileset found)))
      ∙ sym (then_then (permission found.1 user right) (λ _. Ok found) (λ found. Ok (seen_at fileset found))))
      ∙ sym (then_then (file_target fileset user path) (λ (anode, object). and_then (permission object user right) (λ _. Ok (anode, object))) (λ found. Ok (seen_at fileset found)))

  pub on_permitted : {A : Type 0} (user : User) (path : List (List ℕ)) (right : ℕ) (next : Fid × Nature → Look (Result A Refusal)) →
      outcome view (checked (permitted_look user (use_of fileset 1) path right) next) ≡ and_then (permitted_file fileset user path right) (λ found. outcome view (next (seen_at fileset found)))
  on_permitted user path right next =
      outcome_checked view (permitted_look user (use_of fileset 1) path right) next
      ∙ ap (λ found. and_then found (λ value. outcome view (next value))) (permitted_seen user path right)
      ∙ then_then (permitted_file fileset user path right) (λ found. Ok (seen_at fileset found)) (λ value. outcome view (next value))

  -- a file to be used
  pub use_seen : (user : User) (path : List (List ℕ)) (changing : Bool) (right : ℕ) → outcome view (use_look user (use_of fileset 1) path changing right) ≡ use_target fileset user path changing right
  unfolding use_target
  use_seen user path changing right =
      on_file user path (λ (fid, nature). refuse_if (changing && nature.read_only) ReadOnly (permitted nature user right (Ends (Ok fid))))
      ∙ then_same (file_target fileset user path) _ _ (λ found h.
      outcome_refuse view (changing && fileset.read_only) ReadOnly (permitted (nature_of fileset.read_only found.1) user right (Ends (Ok (use_of fileset found.0))))
      ∙ ap (λ next. unless (changing && fileset.read_only) ReadOnly next) (same_permission view fileset.read_only found.1 user right (Ends (Ok (use_of fileset found.0)))))
