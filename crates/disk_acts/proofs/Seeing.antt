-- What is seen of anodes tells what an act made of them.
use Rattle.std.proofs.Common.{◌≡◌, ◌⊎◌, ℕ, zero, suc, ◌-◌, Bool, true, false, List, [], ◌∷◌, ◌++◌, length, take, map, replicate, Option, Some, None, Result, Ok, Err, inl, inr, refl, sym, subst, ◌∙◌, ap, arith}
use Rattle.std.specs.Prelude.{⊤, slice_get}
use Rattle.std.specs.Option.{option_map}
use Rattle.std.proofs.lemmas.List.{take_all}
use Rattle.base_types.specs.Lists.{changed_at}
use Rattle.base_types.specs.Outcomes.{either}
use Rattle.base_types.specs.declared.access.AccessEntry.{AccessEntry}
use Rattle.base_types.specs.declared.ids.Fid.{Fid}
use Rattle.base_types.specs.declared.ids.HostId.{HostId}
use Rattle.base_types.specs.declared.user.User.{User}
use Rattle.tree_calls.specs.declared.call.Call.{Call}
use Rattle.tree_calls.specs.declared.call.Call.TheVariants.{NewFileset, Create, MakeDir, Remove, Rename, Truncate, SetAcl, CloneFileset, Read, Write, List as ListNames, Stat, GetAcl, Sync, Lock, Unlock, OpenFile, CloseFile, MoveFileset}
use Rattle.tree_calls.specs.declared.part.DirEntry.{DirEntry}
use Rattle.tree_calls.specs.declared.place.Which.{Which}
use Rattle.tree_calls.specs.declared.place.Which.TheVariants.{Files, Dirs}
use Rattle.tree_calls.specs.declared.reply.Refusal.{Refusal}
use Rattle.tree_calls.specs.declared.reply.Refusal.TheVariants.{ReadOnly, Exists}
use Rattle.tree_objects.specs.declared.content.Anode.{Anode}
use Rattle.tree_objects.specs.declared.content.Content.{Content}
use Rattle.tree_objects.specs.declared.content.Content.TheVariants.{Dir, File}
use Rattle.tree_objects.specs.declared.content.Object.{Object}
use Rattle.tree_objects.specs.declared.content.Unsaved.{Unsaved}
use Rattle.tree_objects.specs.declared.content.UnsavedLength.{UnsavedLength}
use Rattle.tree_objects.specs.Changes.{anode_changed, anode_freed, content_truncated}
use Rattle.tree_objects.specs.Entries.{content_with_entry, content_without_entry}
use Rattle.tree_objects.specs.Files.{present_bytes, resized}
use Rattle.tree_objects.specs.Objects.{access_of, content_with_list}
use Rattle.tree_objects.proofs.Lawful.{over_itself}
use Rattle.tree_objects.proofs.Observed.{length_resized}
use Rattle.tree_filesets.specs.declared.creating.Creation.{Creation}
use Rattle.tree_filesets.specs.declared.creating.NewObject.{NewObject}
use Rattle.tree_filesets.specs.declared.creating.NewObject.TheVariants.{EmptyFile, EmptyDirectory}
use Rattle.tree_filesets.specs.declared.fileset.Fileset.{Fileset}
use Rattle.tree_filesets.specs.Answers.{answered}
use Rattle.tree_filesets.specs.Changing.{write_target, truncate_answer, set_access_target, set_access_answer}
use Rattle.tree_filesets.specs.Checks.{split_path}
use Rattle.tree_filesets.specs.Creation.{create_answer, create_target, new_content, new_entry, new_object, occupied, owned, vacancy}
use Rattle.tree_filesets.specs.Founding.{unused_anode}
use Rattle.tree_filesets.specs.Removal.{remove_answer, remove_target}
use Rattle.tree_filesets.specs.Renaming.{rename_answer, rename_target}
use Rattle.tree_filesets.specs.Rows.{fileset_answer}
use Rattle.tree_filesets.specs.Updates.{updated}
use Rattle.tree_filesets.specs.Walk.{insert_target}
use Rattle.tree_filesets.specs.WellFormed.{is_settled}
use Rattle.tree_filesets.proofs.Targets.{then_ok, unless_ok, ok_is}
use Rattle.store_acts.specs.Sound.{IsDecided}
use Rattle.disk_acts.specs.Seen.{seen_content, seen_object, seen_anode, IsTold}
use Rattle.disk_acts.specs.declared.seen.SeenAnode.{SeenAnode}
use Rattle.disk_acts.specs.declared.seen.SeenContent.{SeenContent}
use Rattle.disk_acts.specs.declared.seen.SeenContent.TheVariants as seen
use Rattle.disk_acts.specs.declared.seen.SeenObject.{SeenObject}

-- the parts of what is seen
abbrev bytes_in : SeenContent → ℕ
bytes_in (seen.Dir entries lists) = 0
bytes_in (seen.File list bytes settled) = bytes

abbrev settled_in : SeenContent → Bool
settled_in (seen.Dir entries lists) = true
settled_in (seen.File list bytes settled) = settled

abbrev list_in : SeenContent → List AccessEntry
list_in (seen.Dir entries lists) = []
list_in (seen.File list bytes settled) = list

abbrev is_dir_in : SeenContent → Bool
is_dir_in (seen.Dir entries lists) = true
is_dir_in (seen.File list bytes settled) = false

abbrev entries_in : SeenContent → List DirEntry
entries_in (seen.Dir entries lists) = entries
entries_in (seen.File list bytes settled) = []

abbrev lists_in : SeenContent → List (List AccessEntry)
lists_in (seen.Dir entries lists) = lists
lists_in (seen.File list bytes settled) = []

-- What is seen of it tells a content from all others.
abbrev pub ClearContent : Content → Type 0
ClearContent content = (other : Content) → seen_content other ≡ seen_content content → other ≡ content

clear_dir : (entries : List DirEntry) (lists : List (List AccessEntry)) → ClearContent (Dir entries lists)
clear_dir entries lists (Dir others more) e = λ i. Dir (ap entries_in e i) (ap lists_in e i)
clear_dir entries lists (File list kept unsaved len) e = absurd (let h = ap is_dir_in e in grind (arith, h))

clear_empty : (list : List AccessEntry) → ClearContent (File list [] [] None)
clear_empty list (Dir entries lists) e = absurd (let h = ap is_dir_in e in grind (arith, h))
clear_empty list (File other [] [] None) e = λ i. File (ap list_in e i) [] [] None
clear_empty list (File other (byte ∷ kept) [] None) e = absurd (let h = ap bytes_in e in omega (arith, h))
clear_empty list (File other kept [] (Some len)) e = absurd (let h = ap settled_in e in grind (arith, h))
clear_empty list (File other kept (byte ∷ unsaved) len) e = absurd (let h = ap settled_in e in grind (arith, h))

-- so of an object, and of an anode
clear_object : (object : Object) → ClearContent object.content → (other : Object) → seen_object other ≡ seen_object object → other ≡ object
clear_object object clear other e =
    let content = clear other.content (ap (λ (o : SeenObject). o.content) e) in
    λ i. record { owner = (ap (λ (o : SeenObject). o.owner) e) i; group = (ap (λ (o : SeenObject). o.group) e) i; content = content i }

abbrev pub IsClear : Option Object → Type 0
IsClear None = ⊤
IsClear (Some object) = ClearContent object.content

seen_some : (a b : SeenObject) → ◌≡◌ {A = Option SeenObject} (Some a) (Some b) → a ≡ b
seen_some a b e = cc

clear_option : (o other : Option Object) → IsClear o → option_map seen_object other ≡ option_map seen_object o → other ≡ o
clear_option None None clear e = refl
clear_option None (Some other) clear e = absurd (cc)
clear_option (Some object) None clear e = absurd (cc)
clear_option (Some object) (Some other) clear e = ap Some (clear_object object clear other (seen_some _ _ e))

clear_anode : (anode : Anode) → IsClear anode.object → (other : Anode) → seen_anode other ≡ seen_anode anode → other ≡ anode
clear_anode anode clear other e =
    let object = clear_option anode.object other.object clear (ap (λ (a : SeenAnode). a.object) e) in
    λ i. record { unique = (ap (λ (a : SeenAnode). a.unique) e) i; object = object i }

-- where one of two is clear, the next one is told by what is seen
pub told_next : (was is : Anode) → IsClear was.object → IsTold was is
told_next was is clear e = clear_anode was clear is e

pub told_made : (was is : Anode) → IsClear is.object → IsTold was is
told_made was is clear e = sym (clear_anode is clear was (sym e))

-- a change that leaves it, but where it is clear
abbrev pub Stays : Anode → Anode → Type 0
Stays was is = IsClear was.object ⊎ (is ≡ was)

told_then : (a b c : Anode) → Stays a b → IsTold b c → IsTold a c
told_then a b c (inl clear) told = told_next a c clear
told_then a b c (inr same) told = subst (λ (x : Anode). IsTold x c) same told

-- a change of directories
abbrev KeepsFiles : (Content → Content) → Type 0
KeepsFiles change = (list : List AccessEntry) (kept : List ℕ) (unsaved : List Unsaved) (len : Option UnsavedLength) → change (File list kept unsaved len) ≡ File list kept unsaved len

content_stays : (change : Content → Content) → KeepsFiles change → (unique : ℕ) (owner group : List ℕ) (content : Content)
    → Stays (record { unique = unique; object = Some (record { owner = owner; group = group; content = content }) })
    (anode_changed change (record { unique = unique; object = Some (record { owner = owner; group = group; content = content }) }))
content_stays change keeps unique owner group (Dir entries lists) = inl (clear_dir entries lists)
content_stays change keeps unique owner group (File list kept unsaved len) = inr (λ i. record { unique = unique; object = Some (record { owner = owner; group = group; content = keeps list kept unsaved len i }) })

object_stays : (change : Content → Content) → KeepsFiles change → (unique : ℕ) (o : Option Object) → Stays (record { unique = unique; object = o }) (anode_changed change (record { unique = unique; object = o }))
object_stays change keeps unique None = inl tt
object_stays change keeps unique (Some object) = content_stays change keeps unique object.owner object.group object.content

anode_stays : (change : Content → Content) → KeepsFiles change → (anode : Anode) → Stays anode (anode_changed change anode)
anode_stays change keeps anode = object_stays change keeps anode.unique anode.object

-- a change of contents that is told
abbrev IsToldContent : Content → Content → Type 0
IsToldContent was is = seen_content is ≡ seen_content was → is ≡ was

told_object : (change : Content → Content) → ((content : Content) → IsToldContent content (change content)) → (unique : ℕ) (o : Option Object) → IsTold (record { unique = unique; object = o }) (anode_changed change (record { unique = unique; object = o }))
told_object change each unique None e = refl
told_object change each unique (Some object) e =
    let content = each object.content (ap (λ (o : SeenObject). o.content) (seen_some _ _ (ap (λ (a : SeenAnode). a.object) e))) in
    λ i. record { unique = unique; object = Some (record object { content = content i }) }

told_change : (change : Content → Content) → ((content : Content) → IsToldContent content (change content)) → (anode : Anode) → IsTold anode (anode_changed change anode)
told_change change each anode = told_object change each anode.unique anode.object

-- an entry comes or goes
entry_kept : (entry : DirEntry) → KeepsFiles (content_with_entry entry)
entry_kept entry list kept unsaved len = refl

name_kept : (name : List ℕ) → KeepsFiles (content_without_entry name)
name_kept name list kept unsaved len = refl

name_told : (name : List ℕ) (content : Content) → IsToldContent content (content_without_entry name content)
name_told name (Dir entries lists) e = clear_dir entries lists _ e
name_told name (File list kept unsaved len) e = refl

-- a list is set
list_told : (which : Which) (list : List AccessEntry) (content : Content) → IsToldContent content (content_with_list which list content)
list_told which list (Dir entries lists) e = clear_dir entries lists _ e
list_told which list (File old kept unsaved len) e = λ i. File (ap list_in e i) kept unsaved len

-- a length is set
append_none : (xs : List ℕ) → xs ++ [] ≡ xs
append_none [] = refl
append_none (x ∷ xs) = ap (λ ys. x ∷ ys) (append_none xs)

resized_itself : (xs : List ℕ) → resized xs (length xs) ≡ xs
resized_itself xs = let none : length xs - length xs ≡ 0 = omega arith in rw (none, take_all (length xs) xs (omega arith)) (append_none xs)

kept_resized : (kept : List ℕ) (len : ℕ) → length (resized (present_bytes kept [] None) len) ≡ length kept → resized (present_bytes kept [] None) len ≡ kept
kept_resized kept len e =
    let shown : present_bytes kept [] None ≡ kept = over_itself kept in
    let same : len ≡ length kept = sym (length_resized (present_bytes kept [] None) len) ∙ e in
    (λ i. resized (shown i) (same i)) ∙ resized_itself kept

length_told : (len : ℕ) (content : Content) → IsToldContent content (content_truncated len content)
length_told len (Dir entries lists) e = refl
length_told len (File list kept [] None) e = (let same = kept_resized kept len (ap bytes_in e) in λ i. File list (same i) [] None)
length_told len (File list kept [] (Some unsaved)) e = absurd (let h = ap settled_in e in grind (arith, h))
length_told len (File list kept (byte ∷ unsaved) unsaved_len) e = absurd (let h = ap settled_in e in grind (arith, h))

-- all of some anodes, of as many as both have
abbrev pub AllTold : List Anode → List Anode → Type 0
AllTold [] new = ⊤
AllTold (x ∷ xs) [] = ⊤
AllTold (x ∷ xs) (y ∷ ys) = IsTold x y × AllTold xs ys

pub all_itself : (xs : List Anode) → AllTold xs xs
all_itself [] = tt
all_itself (x ∷ xs) = (λ e. refl, all_itself xs)

pub all_gone : (xs : List Anode) → AllTold xs []
all_gone [] = tt
all_gone (x ∷ xs) = tt

pub all_more : (xs more : List Anode) → AllTold xs (xs ++ more)
all_more [] more = tt
all_more (x ∷ xs) more = (λ e. refl, all_more xs more)

pub all_fresh : (n : ℕ) (new : List Anode) → AllTold (replicate n unused_anode) new
all_fresh zero new = tt
all_fresh (suc n) [] = tt
all_fresh (suc n) (y ∷ ys) = (told_next unused_anode y tt, all_fresh n ys)

pub told_at : (old new : List Anode) (at : ℕ) (was is : Anode) → AllTold old new → slice_get old at ≡ Some was → slice_get new at ≡ Some is → IsTold was is
told_at [] new at was is all a b = absurd (cc)
told_at (x ∷ xs) [] at was is all a b = absurd (cc)
told_at (x ∷ xs) (y ∷ ys) zero was is all a b = (let first : x ≡ was = cc in let second : y ≡ is = cc in subst (λ (v : Anode). IsTold v is) first (subst (λ (v : Anode). IsTold x v) second all.0))
told_at (x ∷ xs) (y ∷ ys) (suc at) was is all a b = told_at xs ys at was is all.1 a b

-- one anode changes
all_at : (xs : List Anode) (n : ℕ) (change : Anode → Anode) → ((anode : Anode) → IsTold anode (change anode)) → AllTold xs (changed_at xs n change)
all_at [] n change each = tt
all_at (x ∷ xs) zero change each = (each x, all_itself xs)
all_at (x ∷ xs) (suc n) change each = (λ e. refl, all_at xs n change each)

-- two of them, the first one a directory
all_two : (xs : List Anode) (n m : ℕ) (first second : Anode → Anode) → ((anode : Anode) → Stays anode (first anode)) → ((anode : Anode) → IsTold anode (second anode)) → AllTold xs (changed_at (changed_at xs n first) m second)
all_two [] n m first second stays each = tt
all_two (x ∷ xs) zero zero first second stays each = (told_then x (first x) (second (first x)) (stays x) (each (first x)), all_itself xs)
all_two (x ∷ xs) zero (suc m) first second stays each = (told_then x (first x) (first x) (stays x) (λ e. refl), all_at xs m second each)
all_two (x ∷ xs) (suc n) zero first second stays each = (each x, all_at xs n first (λ anode. told_then anode (first anode) (first anode) (stays anode) (λ e. refl)))
all_two (x ∷ xs) (suc n) (suc m) first second stays each = (λ e. refl, all_two xs n m first second stays each)

-- what a call changes, where its checks let it
all_answered : {A : Type 0} (fileset : Fileset) (checked : Result A Refusal) (effect : A → Fileset) → ((found : A) → checked ≡ Ok found → AllTold fileset.anodes (effect found).anodes) → AllTold fileset.anodes (answered fileset checked effect).fileset.anodes
all_answered fileset (Ok found) effect each = each found refl
all_answered fileset (Err refusal) effect each = all_itself fileset.anodes

-- a new object is clear
clear_content : (kind : NewObject) (directory content : Content) → new_content kind directory ≡ Ok content → ClearContent content
clear_content EmptyFile directory content e =
    let (files, is_files, a) = then_ok (access_of Files directory) _ content e in
    subst ClearContent (ok_is _ _ a) (clear_empty files)
clear_content EmptyDirectory directory content e =
    let (files, is_files, a) = then_ok (access_of Files directory) _ content e in
    let (dirs, is_dirs, b) = then_ok (access_of Dirs directory) _ content a in
    subst ClearContent (ok_is _ _ b) (clear_dir [] _)

clear_new : (kind : NewObject) (user : User) (directory object : Object) → new_object kind user directory ≡ Ok object → ClearContent object.content
clear_new kind user directory object e =
    let (content, is_content, a) = then_ok (new_content kind directory.content) _ object e in
    subst (λ (o : Object). ClearContent o.content) (ok_is _ _ a) (clear_content kind directory.content content is_content)

clear_created : (fileset : Fileset) (kind : NewObject) (user : User) (path : List (List ℕ)) (creation : Creation) → create_target fileset kind user path ≡ Ok creation → ClearContent creation.object.content
unfolding create_target
clear_created fileset kind user path creation e =
    let (free, a) = unless_ok fileset.read_only ReadOnly _ creation e in
    let (split, is_split, b) = then_ok (split_path path Exists) _ creation a in
    let (parent, is_parent, c) = then_ok (insert_target fileset user split.1 split.0) _ creation b in
    let (place, is_place, d) = then_ok (vacancy fileset) _ creation c in
    let (object, is_object, f) = then_ok (new_object kind user parent.1) _ creation d in
    subst (λ (x : Creation). ClearContent x.object.content) (ok_is _ _ f) (clear_new kind user parent.1 object is_object)

-- the calls
told_created : (fileset : Fileset) (kind : NewObject) (user : User) (path : List (List ℕ)) → AllTold fileset.anodes (create_answer fileset kind user path).fileset.anodes
unfolding create_answer updated
told_created fileset kind user path =
    all_answered fileset (create_target fileset kind user path) _ (λ creation is.
    all_two fileset.anodes (creation.parent - 1) (creation.entry.anode - 1) (anode_changed (content_with_entry creation.entry)) (occupied creation.entry.unique creation.object)
    (anode_stays (content_with_entry creation.entry) (entry_kept creation.entry))
    (λ anode. told_made anode (occupied creation.entry.unique creation.object anode) (clear_created fileset kind user path creation is)))

told_removed : (fileset : Fileset) (in_use : Fid → Bool) (user : User) (path : List (List ℕ)) → AllTold fileset.anodes (remove_answer fileset in_use user path).fileset.anodes
unfolding remove_answer updated
told_removed fileset in_use user path =
    all_answered fileset (remove_target fileset in_use user path) _ (λ (parent, name, anode) is.
    all_two fileset.anodes (parent - 1) (anode - 1) (anode_changed (content_without_entry name)) anode_freed
    (anode_stays (content_without_entry name) (name_kept name)) (λ a. told_made a (anode_freed a) tt))

told_renamed : (fileset : Fileset) (user : User) (from to : List (List ℕ)) → AllTold fileset.anodes (rename_answer fileset user from to).fileset.anodes
unfolding rename_answer updated
told_renamed fileset user from to =
    all_answered fileset (rename_target fileset user from to) _ (λ move is.
    all_two fileset.anodes (move.to - 1) (move.from - 1) (anode_changed (content_with_entry move.entry)) (anode_changed (content_without_entry move.name))
    (anode_stays (content_with_entry move.entry) (entry_kept move.entry)) (told_change (content_without_entry move.name) (name_told move.name)))

told_truncated : (fileset : Fileset) (user : User) (path : List (List ℕ)) (len : ℕ) → AllTold fileset.anodes (truncate_answer fileset user path len).fileset.anodes
unfolding truncate_answer updated
told_truncated fileset user path len =
    all_answered fileset (write_target fileset user path len) _ (λ anode is. all_at fileset.anodes (anode - 1) (anode_changed (content_truncated len)) (told_change (content_truncated len) (length_told len)))

told_listed : (fileset : Fileset) (user : User) (path : List (List ℕ)) (which : Which) (list : List AccessEntry) → AllTold fileset.anodes (set_access_answer fileset user path which list).fileset.anodes
unfolding set_access_answer updated
told_listed fileset user path which list =
    all_answered fileset (set_access_target fileset user path which) _ (λ anode is. all_at fileset.anodes (anode - 1) (anode_changed (content_with_list which list)) (told_change (content_with_list which list) (list_told which list)))

pub told_answer : (fileset : Fileset) (in_use : Fid → Bool) (host : HostId) (user : User) (call : Call) → IsDecided call → AllTold fileset.anodes (fileset_answer fileset in_use host user call).fileset.anodes
unfolding fileset_answer
told_answer fileset in_use host user (Create place) d = told_created fileset EmptyFile user place.path
told_answer fileset in_use host user (MakeDir place) d = told_created fileset EmptyDirectory user place.path
told_answer fileset in_use host user (Remove place) d = told_removed fileset in_use user place.path
told_answer fileset in_use host user (Rename from to) d = told_renamed fileset user from.path to.path
told_answer fileset in_use host user (Truncate place len) d = told_truncated fileset user place.path len
told_answer fileset in_use host user (SetAcl place which list) d = told_listed fileset user place.path which list
told_answer fileset in_use host user (NewFileset server name objects owner) d = all_itself fileset.anodes
told_answer fileset in_use host user (CloneFileset server source new) d = all_itself fileset.anodes
told_answer fileset in_use host user (Read place from len) d = absurd d
told_answer fileset in_use host user (Write place from bytes) d = absurd d
told_answer fileset in_use host user (ListNames place) d = absurd d
told_answer fileset in_use host user (Stat place) d = absurd d
told_answer fileset in_use host user (GetAcl place which) d = absurd d
told_answer fileset in_use host user (Sync place) d = absurd d
told_answer fileset in_use host user (Lock label place writing from len) d = absurd d
told_answer fileset in_use host user (Unlock label) d = absurd d
told_answer fileset in_use host user (OpenFile label place kind) d = absurd d
told_answer fileset in_use host user (CloseFile label) d = absurd d
told_answer fileset in_use host user (MoveFileset server name to) d = absurd d
