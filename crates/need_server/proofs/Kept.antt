-- What is kept answers Changes of names and lists as the tree does.
use Rattle.std.proofs.Common.{◌≡◌, ℕ, zero, suc, ◌+◌, ◌-◌, ◌==◌, nat_lt, Bool, true, false, ◌&&◌, ◌||◌, List, [], ◌∷◌, take, Option, Some, None, is_none, Result, Ok, Err, refl, sym, ap, ◌∙◌, subst, rules}
use Rattle.std.specs.Prelude.{map, if◌then◌else◌}
use Rattle.std.specs.Option.{option_map}
use Rattle.base_types.specs.Lists.{changed_at}
use Rattle.base_types.specs.Outcomes.{and_then, either}
use Rattle.base_types.specs.declared.access.AccessEntry.{AccessEntry}
use Rattle.base_types.specs.declared.ids.HostId.{HostId}
use Rattle.base_types.specs.declared.ids.Fid.{Fid}
use Rattle.base_types.specs.declared.user.User.{User}
use Rattle.tree_calls.specs.declared.call.Call.{Call}
use Rattle.tree_calls.specs.declared.call.Call.TheVariants.{NewFileset, Create, MakeDir, Remove, Rename, Truncate, SetAcl, CloneFileset, Read, Write, List as ListNames, Stat, GetAcl, Sync, Lock, Unlock, OpenFile, CloseFile, MoveFileset}
use Rattle.tree_calls.specs.declared.part.DirEntry.{DirEntry}
use Rattle.tree_calls.specs.declared.place.Which.{Which}
use Rattle.tree_calls.specs.declared.place.Which.TheVariants.{Own as OwnList, Files, Dirs}
use Rattle.tree_calls.specs.declared.reply.Refusal.{Refusal}
use Rattle.tree_calls.specs.declared.reply.Refusal.TheVariants.{NoFileset, NoEntry, ReadOnly, Exists, Loop, InUse, NotEmpty, NotDir}
use Rattle.tree_objects.specs.declared.content.Content.{Content}
use Rattle.tree_objects.specs.declared.content.Content.TheVariants.{Dir, File}
use Rattle.tree_objects.specs.declared.content.Object.{Object}
use Rattle.tree_objects.specs.declared.content.Anode.{Anode}
use Rattle.tree_objects.specs.Changes.{content_changed, anode_changed, anode_freed}
use Rattle.tree_objects.specs.Entries.{entry_named, content_with_entry, content_without_entry}
use Rattle.tree_objects.specs.Objects.{own_rights, entered, access_of, content_with_list}
use Rattle.tree_filesets.specs.declared.fileset.Fileset.{Fileset}
use Rattle.tree_filesets.specs.Answers.{Answered, answered}
use Rattle.tree_filesets.specs.Changing.{set_access_target, set_access_answer}
use Rattle.tree_filesets.specs.Checks.{unless, permission, split_path}
use Rattle.tree_filesets.specs.Creation.{is_vacant, first_vacancy, vacancy, owned, new_object, create_target, create_answer, occupied}
use Rattle.tree_filesets.specs.Removal.{has_entries, fid_of, remove_target, remove_answer}
use Rattle.tree_filesets.specs.Renaming.{rename_target, rename_answer}
use Rattle.tree_filesets.specs.Rights.{insert_right, delete_right, control_right}
use Rattle.tree_filesets.specs.Rows.{fileset_answer}
use Rattle.tree_filesets.specs.Updates.{updated, changed}
use Rattle.tree_filesets.specs.Walk.{object_at, entered_at, entry_or_none, step, walk, passes, found_at, target, parent_target, insert_target, entry_target}
use Rattle.tree_filesets.specs.Founding.{control_check}
use Rattle.tree_filesets.proofs.Mapped.{mapped_object, mapped_unique}
use Rattle.tree_laws.specs.Losses.{use_of}
use Rattle.tree_filesets.proofs.Targets.{then_ok, unless_ok, ok_is}
use Rattle.tree_laws.specs.Fates.{creation}
use Rattle.tree_laws.proofs.Steps.{no_file, then_same, then_then}
use Rattle.need_server.specs.Kept.{content_settled, kept_fileset}

-- an answer of a fileset of which only what is kept counts
abbrev pub kept_answered : Answered → Answered
kept_answered answer = record { reply = answer.reply; fileset = kept_fileset answer.fileset }

-- a Change of names or lists
abbrev pub changes_names : Call → Bool
changes_names (Create place) = true
changes_names (MakeDir place) = true
changes_names (Remove place) = true
changes_names (Rename from to) = true
changes_names (SetAcl place which list) = true
changes_names _ = false

-- one outcome for another
pub then_first : {A B E : Type 0} (found other : Result A E) (next : A → Result B E) → found ≡ other → and_then found next ≡ and_then other next
then_first found other next same = ap (λ r. and_then r next) same

pub unless_same : {A : Type 0} (a b : Bool) (refusal : Refusal) (next : Result A Refusal) → a ≡ b → unless a refusal next ≡ unless b refusal next
unless_same a b refusal next same = ap (λ t. unless t refusal next) same

-- an object of which nothing is unsaved
abbrev pub settled_object : Object → Object
settled_object object = content_changed content_settled object

-- what the checks of calls look at is the same
entered_content : (owner group : List ℕ) (content : Content) (user : User) → let old : Object = record { owner = owner; group = group; content = content } in
    entered (settled_object old) user ≡ entered old user
entered_content owner group (Dir entries lists) user = refl
entered_content owner group (File list kept unsaved len) user = refl

entered_option : (o : Option Object) (user : User) → entered_at (option_map settled_object o) user ≡ entered_at o user
entered_option None user = refl
entered_option (Some object) user = entered_content object.owner object.group object.content user

rights_content : (owner group : List ℕ) (content : Content) (user : User) → let old : Object = record { owner = owner; group = group; content = content } in own_rights (settled_object old) user ≡ own_rights old user
rights_content owner group (Dir entries lists) user = refl
rights_content owner group (File list kept unsaved len) user = refl

pub same_permit : (object : Object) (user : User) (right : ℕ) → permission (settled_object object) user right ≡ permission object user right
same_permit object user right = ap (λ rights. if Rattle.base_types.specs.Access.allows rights right then Ok tt else Err (Rattle.tree_calls.specs.declared.reply.Refusal.TheVariants.Denied right)) (rights_content object.owner object.group object.content user)

same_access : (which : Which) (content : Content) → access_of which (content_settled content) ≡ access_of which content
same_access which (Dir entries lists) = refl
same_access OwnList (File list kept unsaved len) = refl
same_access Files (File list kept unsaved len) = refl
same_access Dirs (File list kept unsaved len) = refl

same_entries : (content : Content) → has_entries (content_settled content) ≡ has_entries content
same_entries (Dir [] lists) = refl
same_entries (Dir (entry ∷ entries) lists) = refl
same_entries (File list kept unsaved len) = refl

either_alike : (found : Result ℕ Refusal) (f g : ℕ → Bool) → ((next : ℕ) → f next ≡ g next) → either found f (λ refusal. false) ≡ either found g (λ refusal. false)
either_alike (Ok next) f g same = same next
either_alike (Err refusal) f g same = refl

module _ (fileset : Fileset) (user : User) where
  -- walks
  kept_step : (at : ℕ) (name : List ℕ) → step (kept_fileset fileset).anodes user at name ≡ step fileset.anodes user at name
  unfolding step
  kept_step at name =
      ap (λ found. and_then found (λ entries. and_then (entry_or_none (entry_named entries name)) (λ entry. Ok entry.anode)))
      (ap (λ o. entered_at o user) (mapped_object content_settled fileset.anodes at) ∙ entered_option (object_at fileset.anodes at) user)

  kept_walk : (at : ℕ) (path : List (List ℕ)) → walk (kept_fileset fileset).anodes user at path ≡ walk fileset.anodes user at path
  kept_walk at [] = refl
  kept_walk at (name ∷ names) =
      ap (λ found. and_then found (λ next. walk (kept_fileset fileset).anodes user next names)) (kept_step at name)
      ∙ then_same (step fileset.anodes user at name) (λ next. walk (kept_fileset fileset).anodes user next names) (λ next. walk fileset.anodes user next names) (λ next h. kept_walk next names)

  kept_passes : (at : ℕ) (path : List (List ℕ)) (anode : ℕ) → passes (kept_fileset fileset).anodes user at path anode ≡ passes fileset.anodes user at path anode
  kept_passes at [] anode = refl
  kept_passes at (name ∷ names) anode =
      ap (λ found. (at == anode) || either found (λ next. passes (kept_fileset fileset).anodes user next names anode) (λ refusal. false)) (kept_step at name)
      ∙ ap (λ t. (at == anode) || t) (either_alike (step fileset.anodes user at name) (λ next. passes (kept_fileset fileset).anodes user next names anode) (λ next. passes fileset.anodes user next names anode) (λ next. kept_passes next names anode))

  found_option : (anode : ℕ) (o : Option Object) → found_at anode (option_map settled_object o) ≡ and_then (found_at anode o) (λ found. Ok (found.0, settled_object found.1))
  found_option anode None = refl
  found_option anode (Some object) = refl

  kept_found : (anode : ℕ) → found_at anode (object_at (kept_fileset fileset).anodes anode) ≡ and_then (found_at anode (object_at fileset.anodes anode)) (λ found. Ok (found.0, settled_object found.1))
  kept_found anode = ap (λ o. found_at anode o) (mapped_object content_settled fileset.anodes anode) ∙ found_option anode (object_at fileset.anodes anode)

  pub kept_target : (path : List (List ℕ)) → target (kept_fileset fileset) user path ≡ and_then (target fileset user path) (λ found. Ok (found.0, settled_object found.1))
  unfolding target
  kept_target path =
      ap (λ found. and_then found (λ anode. found_at anode (object_at (kept_fileset fileset).anodes anode))) (kept_walk 1 path)
      ∙ then_same (walk fileset.anodes user 1 path) _ (λ anode. and_then (found_at anode (object_at fileset.anodes anode)) (λ found. Ok (found.0, settled_object found.1))) (λ anode h. kept_found anode)
      ∙ sym (then_then (walk fileset.anodes user 1 path) (λ anode. found_at anode (object_at fileset.anodes anode)) (λ found. Ok (found.0, settled_object found.1)))

  -- directories
  parent_content : (anode : ℕ) (owner group : List ℕ) (content : Content) (right : ℕ) → let object : Object = record { owner = owner; group = group; content = content } in
      and_then {B = ℕ × Object × List DirEntry} (entered (settled_object object) user) (λ entries. and_then (permission (settled_object object) user right) (λ _. Ok (anode, settled_object object, entries)))
      ≡ and_then {B = ℕ × Object × List DirEntry} (entered object user) (λ entries. and_then (permission object user right) (λ _. Ok (anode, object, entries)))
  parent_content anode owner group (Dir entries lists) right = refl
  parent_content anode owner group (File list kept unsaved len) right = refl

  kept_parent : (front : List (List ℕ)) (right : ℕ) → parent_target (kept_fileset fileset) user front right ≡ parent_target fileset user front right
  unfolding parent_target
  kept_parent front right =
      then_first (target (kept_fileset fileset) user front) _ _ (kept_target front)
      ∙ then_then (target fileset user front) (λ found. Ok (found.0, settled_object found.1)) _
      ∙ then_same (target fileset user front) _ _ (λ found h. parent_content found.0 found.1.owner found.1.group found.1.content right)

  pub kept_insert : (front : List (List ℕ)) (name : List ℕ) → insert_target (kept_fileset fileset) user front name ≡ insert_target fileset user front name
  unfolding insert_target
  kept_insert front name = then_first (parent_target (kept_fileset fileset) user front insert_right) _ _ (kept_parent front insert_right)

  kept_entry : (front : List (List ℕ)) (name : List ℕ) → entry_target (kept_fileset fileset) user front name ≡ entry_target fileset user front name
  unfolding entry_target
  kept_entry front name = then_first (parent_target (kept_fileset fileset) user front delete_right) _ _ (kept_parent front delete_right)

  -- vacancies
  kept_first : (n anode : ℕ) (anodes : List Anode) → first_vacancy anode (take n (map (anode_changed content_settled) anodes)) ≡ first_vacancy anode (take n anodes)
  kept_first zero anode anodes = refl
  kept_first (suc n) anode [] = refl
  kept_first (suc n) anode (first ∷ rest) =
      ap (λ t. if t && nat_lt first.unique Rattle.base_types.specs.declared.limits.TheConstants.UNIQUE_MAX then Ok (record { anode = anode; unique = first.unique + 1 }) else first_vacancy (anode + 1) (take n (map (anode_changed content_settled) rest))) (same_none first.object)
      ∙ ap (λ other. if is_vacant first then Ok (record { anode = anode; unique = first.unique + 1 }) else other) (kept_first n (anode + 1) rest)
    where
      same_none : (o : Option Object) → is_none (option_map settled_object o) ≡ is_none o
      same_none None = refl
      same_none (Some object) = refl

  pub kept_vacancy : vacancy (kept_fileset fileset) ≡ vacancy fileset
  kept_vacancy = kept_first fileset.objects 1 fileset.anodes

  -- checks
  kept_create : (kind : _) (path : List (List ℕ)) → create_target (kept_fileset fileset) kind user path ≡ create_target fileset kind user path
  unfolding create_target
  kept_create kind path =
      ap (λ next. unless fileset.read_only ReadOnly next) (then_same (split_path path Exists) _ _ (λ parts h.
      then_first _ _ _ (kept_insert parts.1 parts.0)
      ∙ then_same (insert_target fileset user parts.1 parts.0) _ _ (λ at h. then_first _ _ _ kept_vacancy)))

  pub kept_creation : (dir : Bool) (path : List (List ℕ)) → creation (kept_fileset fileset) dir user path ≡ creation fileset dir user path
  kept_creation dir path =
      ap (λ next. unless fileset.read_only ReadOnly next) (then_same (split_path path Exists) _ _ (λ parts h.
      then_first _ _ _ (kept_insert parts.1 parts.0)
      ∙ then_same (insert_target fileset user parts.1 parts.0) _ _ (λ at h. then_first _ _ _ kept_vacancy)))

  pub kept_remove : (in_use : Fid → Bool) (path : List (List ℕ)) → remove_target (kept_fileset fileset) in_use user path ≡ remove_target fileset in_use user path
  unfolding remove_target
  kept_remove in_use path =
      ap (λ next. unless fileset.read_only ReadOnly next) (then_same (split_path path InUse) _ _ (λ parts h.
      then_first _ _ _ (kept_entry parts.1 parts.0)
      ∙ then_same (entry_target fileset user parts.1 parts.0) _ _ (λ at h.
      then_first _ _ _ (kept_found at.1.anode)
      ∙ then_then (found_at at.1.anode (object_at fileset.anodes at.1.anode)) (λ found. Ok (found.0, settled_object found.1)) _
      ∙ then_same (found_at at.1.anode (object_at fileset.anodes at.1.anode)) _ _ (λ found h.
      ap (λ t. unless t NotEmpty (unless (in_use (fid_of fileset at.1)) InUse (Ok (at.0, parts.0, found.0)))) (same_entries found.1.content)))))

  pub kept_rename : (from to : List (List ℕ)) → rename_target (kept_fileset fileset) user from to ≡ rename_target fileset user from to
  unfolding rename_target
  kept_rename from to =
      ap (λ next. unless fileset.read_only ReadOnly next) (then_same (split_path from Loop) _ _ (λ old h. then_same (split_path to Exists) _ _ (λ new h.
      then_first _ _ _ (kept_entry old.1 old.0)
      ∙ then_same (entry_target fileset user old.1 old.0) _ _ (λ at h.
      then_first _ _ _ (kept_insert new.1 new.0)
      ∙ then_same (insert_target fileset user new.1 new.0) _ _ (λ into h. unless_same _ _ Loop _ (kept_passes 1 new.1 at.1.anode))))))

  pub kept_listed : (path : List (List ℕ)) (which : Which) → set_access_target (kept_fileset fileset) user path which ≡ set_access_target fileset user path which
  unfolding set_access_target
  kept_listed path which =
      ap (λ next. unless fileset.read_only ReadOnly next)
      (then_first _ _ _ (kept_target path)
      ∙ then_then (target fileset user path) (λ found. Ok (found.0, settled_object found.1)) _
      ∙ then_same (target fileset user path) _ _ (λ found h.
      then_first _ _ _ (same_access which found.1.content)
      ∙ then_same (access_of which found.1.content) _ _ (λ list h. ap (λ may. and_then may (λ _. Ok found.0)) (same_permit found.1 user control_right))))

-- the present use of an anode
pub kept_use_of : (fileset : Fileset) (anode : ℕ) → use_of (kept_fileset fileset) anode ≡ use_of fileset anode
kept_use_of fileset anode = ap (λ n. let fid : Fid = record { fileset = fileset.id; anode = anode; unique = n } in fid) (mapped_unique content_settled fileset.anodes (anode - 1))

-- the checks of a clone or a move on the fileset alone
pub kept_control : (fileset : Fileset) (user : User) → control_check (kept_fileset fileset) user ≡ control_check fileset user
unfolding control_check
kept_control fileset user =
    ap (λ next. unless fileset.read_only ReadOnly next)
    (then_first _ _ _ (kept_target fileset user [])
    ∙ then_then (target fileset user []) (λ found. Ok (found.0, settled_object found.1)) _
    ∙ then_same (target fileset user []) _ _ (λ found h. same_permit found.1 user control_right))

-- lists in which one element is changed
map_changed : {X Y : Type 0} (g : X → Y) (f : X → X) (h : Y → Y) (xs : List X) (i : ℕ) → ((x : X) → g (f x) ≡ h (g x)) → map g (changed_at xs i f) ≡ changed_at (map g xs) i h
map_changed g f h [] i same = refl
map_changed g f h (x ∷ xs) zero same = ap (λ y. y ∷ map g xs) (same x)
map_changed g f h (x ∷ xs) (suc i) same = ap (λ ys. g x ∷ ys) (map_changed g f h xs i same)

pub kept_updated : (fileset : Fileset) (anode : ℕ) (f h : Anode → Anode) → ((a : Anode) → anode_changed content_settled (f a) ≡ h (anode_changed content_settled a)) →
    kept_fileset (updated fileset anode f) ≡ updated (kept_fileset fileset) anode h
unfolding updated
kept_updated fileset anode f h same = ap (λ anodes. record fileset { anodes = anodes }) (map_changed (anode_changed content_settled) f h fileset.anodes (anode - 1) same)

anode_option : (change : Content → Content) (unique : ℕ) (o : Option Object) → ((content : Content) → content_settled (change content) ≡ change (content_settled content)) →
    (let a : Anode = record { unique = unique; object = option_map settled_object (option_map (content_changed change) o) } in a) ≡ (let a : Anode = record { unique = unique; object = option_map (content_changed change) (option_map settled_object o) } in a)
anode_option change unique None same = refl
anode_option change unique (Some object) same = ap (λ content. let a : Anode = record { unique = unique; object = Some (record object { content = content }) } in a) (same object.content)

kept_changed : (fileset : Fileset) (anode : ℕ) (change : Content → Content) → ((content : Content) → content_settled (change content) ≡ change (content_settled content)) →
    kept_fileset (changed fileset anode change) ≡ changed (kept_fileset fileset) anode change
kept_changed fileset anode change same = kept_updated fileset anode (anode_changed change) (anode_changed change) (λ a. anode_option change a.unique a.object same)

with_entry_kept : (entry : DirEntry) (content : Content) → content_settled (content_with_entry entry content) ≡ content_with_entry entry (content_settled content)
with_entry_kept entry (Dir entries lists) = refl
with_entry_kept entry (File list kept unsaved len) = refl

without_entry_kept : (name : List ℕ) (content : Content) → content_settled (content_without_entry name content) ≡ content_without_entry name (content_settled content)
without_entry_kept name (Dir entries lists) = refl
without_entry_kept name (File list kept unsaved len) = refl

with_list_kept : (which : Which) (list : List AccessEntry) (content : Content) → content_settled (content_with_list which list content) ≡ content_with_list which list (content_settled content)
with_list_kept which list (Dir entries lists) = refl
with_list_kept which list (File old kept unsaved len) = refl

-- a row that is checked alike and has the same effect on what is kept
pub kept_row : {A : Type 0} (fileset : Fileset) (checks : Result A Refusal) (effect other : A → Fileset) → ((found : A) → checks ≡ Ok found → other found ≡ kept_fileset (effect found)) →
    answered (kept_fileset fileset) checks other ≡ kept_answered (answered fileset checks effect)
kept_row fileset (Ok found) effect other same = ap (λ next. let answer : Answered = record { reply = Rattle.tree_calls.specs.declared.reply.Reply.TheVariants.Ok; fileset = next } in answer) (same found refl)
kept_row fileset (Err refusal) effect other same = refl

pub row_first : {A : Type 0} (fileset : Fileset) (checks other : Result A Refusal) (effect : A → Fileset) → checks ≡ other → answered fileset checks effect ≡ answered fileset other effect
row_first fileset checks other effect same = ap (λ r. answered fileset r effect) same

-- what a user makes is settled
made_settled : (fileset : Fileset) (user : User) (path : List (List ℕ)) (kind : _) → ((directory object : Object) → new_object kind user directory ≡ Ok object → settled_object object ≡ object) →
    (made : _) → create_target fileset kind user path ≡ Ok made → settled_object made.object ≡ made.object
unfolding create_target
made_settled fileset user path kind settles made h =
    let (writable, a) = unless_ok fileset.read_only ReadOnly _ made h in
    let (parts, b, c) = then_ok (split_path path Exists) _ made a in
    let (at, d, e) = then_ok (insert_target fileset user parts.1 parts.0) _ made c in
    let (free, f, g) = then_ok (vacancy fileset) _ made e in
    let (object, i, same) = then_ok (new_object kind user at.1) _ made g in
    subst (λ o. settled_object o ≡ o) (ap (λ m. m.object) (ok_is _ made same)) (settles at.1 object i)

kept_made : (fileset : Fileset) (user : User) (path : List (List ℕ)) (kind : _) → ((directory object : Object) → new_object kind user directory ≡ Ok object → settled_object object ≡ object) →
    create_answer (kept_fileset fileset) kind user path ≡ kept_answered (create_answer fileset kind user path)
unfolding create_answer
kept_made fileset user path kind settles =
    row_first (kept_fileset fileset) _ _ _ (kept_create fileset user kind path)
    ∙ kept_row fileset (create_target fileset kind user path) _ _ (λ made h.
    sym (kept_updated (changed fileset made.parent (content_with_entry made.entry)) made.entry.anode (occupied made.entry.unique made.object) (occupied made.entry.unique made.object)
    (λ a. ap (λ o. let b : Anode = record { unique = made.entry.unique; object = Some o } in b) (made_settled fileset user path kind settles made h))
    ∙ ap (λ f. updated f made.entry.anode (occupied made.entry.unique made.object)) (kept_changed fileset made.parent (content_with_entry made.entry) (with_entry_kept made.entry))))

file_settled : (found : Result (List AccessEntry) Refusal) (user : User) (object : Object) → and_then (and_then found (λ files. Ok (File files [] [] None))) (λ content. Ok (owned user content)) ≡ Ok object → settled_object object ≡ object
file_settled (Ok files) user object h = subst (λ o. settled_object o ≡ o) (ok_is _ object h) refl
file_settled (Err refusal) user object h = absurd (search (rules, h))

dir_settled : (found other : Result (List AccessEntry) Refusal) (user : User) (object : Object) →
    and_then (and_then found (λ files. and_then other (λ dirs. Ok (Dir [] (dirs ∷ files ∷ dirs ∷ []))))) (λ content. Ok (owned user content)) ≡ Ok object → settled_object object ≡ object
dir_settled (Ok files) (Ok dirs) user object h = subst (λ o. settled_object o ≡ o) (ok_is _ object h) refl
dir_settled (Ok files) (Err refusal) user object h = absurd (search (rules, h))
dir_settled (Err refusal) other user object h = absurd (search (rules, h))

-- each Change of names and lists in one fileset
pub row_kept : (fileset : Fileset) (in_use : Fid → Bool) (host : HostId) (user : User) (call : Call) → changes_names call ≡ true → fileset_answer (kept_fileset fileset) in_use host user call ≡ kept_answered (fileset_answer fileset in_use host user call)
unfolding fileset_answer remove_answer rename_answer set_access_answer
row_kept fileset in_use host user (Create place) is_change = kept_made fileset user place.path _ (λ directory object h. file_settled (access_of Files directory.content) user object h)
row_kept fileset in_use host user (MakeDir place) is_change = kept_made fileset user place.path _ (λ directory object h. dir_settled (access_of Files directory.content) (access_of Dirs directory.content) user object h)
row_kept fileset in_use host user (Remove place) is_change =
    row_first (kept_fileset fileset) _ _ _ (kept_remove fileset user in_use place.path)
    ∙ kept_row fileset (remove_target fileset in_use user place.path) _ _ (λ found h.
    sym (kept_updated (changed fileset found.0 (content_without_entry found.1)) found.2 anode_freed anode_freed (λ a. refl)
    ∙ ap (λ f. updated f found.2 anode_freed) (kept_changed fileset found.0 (content_without_entry found.1) (without_entry_kept found.1))))
row_kept fileset in_use host user (Rename from to) is_change =
    row_first (kept_fileset fileset) _ _ _ (kept_rename fileset user from.path to.path)
    ∙ kept_row fileset (rename_target fileset user from.path to.path) _ _ (λ move h.
    sym (kept_changed (changed fileset move.to (content_with_entry move.entry)) move.from (content_without_entry move.name) (without_entry_kept move.name)
    ∙ ap (λ f. changed f move.from (content_without_entry move.name)) (kept_changed fileset move.to (content_with_entry move.entry) (with_entry_kept move.entry))))
row_kept fileset in_use host user (SetAcl place which list) is_change =
    row_first (kept_fileset fileset) _ _ _ (kept_listed fileset user place.path which)
    ∙ kept_row fileset (set_access_target fileset user place.path which) _ _ (λ anode h. sym (kept_changed fileset anode (content_with_list which list) (with_list_kept which list)))
row_kept fileset in_use host user (Truncate place len) is_change = no_file is_change
row_kept fileset in_use host user (Read place from len) is_change = no_file is_change
row_kept fileset in_use host user (Write place from bytes) is_change = no_file is_change
row_kept fileset in_use host user (ListNames place) is_change = no_file is_change
row_kept fileset in_use host user (Stat place) is_change = no_file is_change
row_kept fileset in_use host user (GetAcl place which) is_change = no_file is_change
row_kept fileset in_use host user (Sync place) is_change = no_file is_change
row_kept fileset in_use host user (NewFileset server name objects owner) is_change = no_file is_change
row_kept fileset in_use host user (CloneFileset server source new) is_change = no_file is_change
row_kept fileset in_use host user (Lock label place writing from len) is_change = no_file is_change
row_kept fileset in_use host user (Unlock label) is_change = no_file is_change
row_kept fileset in_use host user (OpenFile label place kind) is_change = no_file is_change
row_kept fileset in_use host user (CloseFile label) is_change = no_file is_change
row_kept fileset in_use host user (MoveFileset server name to) is_change = no_file is_change
