-- A fileset in which nothing is unsaved stays so under the calls that stores decide; and one that is read-only stays.
use Rattle.std.proofs.Common.{◌≡◌, ℕ, zero, suc, ◌-◌, List, [], ◌∷◌, refl, sym, ◌∙◌, ap, subst}
use Rattle.std.specs.Prelude.{Bool, true, false, Option, Some, None, Ok, slice_get}
use Rattle.std.specs.List.{list_all}
use Rattle.std.specs.Option.{option_map, option_map_or}
use Rattle.std.proofs.lemmas.Bool.{and_parts, and_from, false≢true}
use Rattle.base_types.specs.Lists.{changed_at}
use Rattle.base_types.specs.declared.access.AccessEntry.{AccessEntry}
use Rattle.base_types.specs.declared.ids.Fid.{Fid}
use Rattle.base_types.specs.declared.ids.HostId.{HostId}
use Rattle.base_types.specs.declared.user.User.{User}
use Rattle.tree_calls.specs.declared.call.Call.{Call}
use Rattle.tree_calls.specs.declared.call.Call.TheVariants.{Create, MakeDir, Remove, Rename, Truncate, SetAcl, Write, Sync}
use Rattle.tree_calls.specs.declared.part.DirEntry.{DirEntry}
use Rattle.tree_calls.specs.declared.place.Which.{Which}
use Rattle.tree_calls.specs.declared.place.Which.TheVariants.{Files, Dirs}
use Rattle.tree_calls.specs.declared.reply.Refusal.TheVariants.{ReadOnly, Exists}
use Rattle.tree_objects.specs.Changes.{anode_changed, anode_freed, content_changed, content_truncated}
use Rattle.tree_objects.specs.Entries.{content_with_entry, content_without_entry}
use Rattle.tree_objects.specs.Objects.{access_of, content_with_list}
use Rattle.tree_objects.specs.declared.content.Anode.{Anode}
use Rattle.tree_objects.specs.declared.content.Content.{Content}
use Rattle.tree_objects.specs.declared.content.Content.TheVariants.{Dir, File}
use Rattle.tree_objects.specs.declared.content.Object.{Object}
use Rattle.tree_filesets.specs.Changing.{write_target, truncate_answer, set_access_target, set_access_answer}
use Rattle.tree_filesets.specs.Checks.{split_path}
use Rattle.tree_filesets.specs.Creation.{new_content, new_object, vacancy, occupied, create_target, create_answer}
use Rattle.tree_filesets.specs.Removal.{remove_target, remove_answer}
use Rattle.tree_filesets.specs.Renaming.{rename_target, rename_answer}
use Rattle.tree_filesets.specs.Rows.{fileset_answer}
use Rattle.tree_filesets.specs.Updates.{updated, changed}
use Rattle.tree_filesets.specs.Walk.{insert_target}
use Rattle.tree_filesets.specs.WellFormed.{is_settled, is_at_rest}
use Rattle.tree_filesets.specs.declared.creating.Creation.{Creation}
use Rattle.tree_filesets.specs.declared.creating.NewObject.{NewObject}
use Rattle.tree_filesets.specs.declared.creating.NewObject.TheVariants.{EmptyFile, EmptyDirectory}
use Rattle.tree_filesets.specs.declared.fileset.Fileset.{Fileset}
use Rattle.tree_filesets.proofs.StaysWellFormed.{after_answer}
use Rattle.tree_filesets.proofs.Targets.{then_ok, unless_ok, ok_is}
use Rattle.store_acts.specs.Sound.{IsDecided}

-- whether nothing is unsaved at an anode
abbrev pub rests : Option Object → Bool
rests object = option_map_or (λ object. is_settled object.content) object true

abbrev Rests : Fileset → Type 0
Rests fileset = is_at_rest fileset ≡ true

all_changed : {X : Type 0} (p : X → Bool) (f : X → X) → ((x : X) → p x ≡ true → p (f x) ≡ true) → (xs : List X) (i : ℕ) → list_all p xs ≡ true → list_all p (changed_at xs i f) ≡ true
all_changed p f k [] i h = h
all_changed p f k (x ∷ xs) zero h = let (a, b) = and_parts (p x) (list_all p xs) h in and_from (p (f x)) (list_all p xs) (k x a) b
all_changed p f k (x ∷ xs) (suc i) h =
    let (a, b) = and_parts (p x) (list_all p xs) h in and_from (p x) (list_all p (changed_at xs i f)) a (all_changed p f k xs i b)

pub all_got : {X : Type 0} (p : X → Bool) (xs : List X) (i : ℕ) (x : X) → list_all p xs ≡ true → slice_get xs i ≡ Some x → p x ≡ true
all_got p [] i x h e = absurd (cc)
all_got p (y ∷ xs) zero x h e = let same : y ≡ x = cc in ap p (sym same) ∙ (and_parts (p y) (list_all p xs) h).0
all_got p (y ∷ xs) (suc i) x h e = all_got p xs i x (and_parts (p y) (list_all p xs) h).1 e

pub rest_updated : (fileset : Fileset) (anode : ℕ) (change : Anode → Anode) → ((a : Anode) → rests a.object ≡ true → rests (change a).object ≡ true)
    → is_at_rest fileset ≡ true → is_at_rest (updated fileset anode change) ≡ true
unfolding updated
rest_updated fileset anode change k h = all_changed (λ a. rests a.object) change k fileset.anodes (anode - 1) h

content_rests : (change : Content → Content) → ((c : Content) → is_settled c ≡ true → is_settled (change c) ≡ true) → (o : Option Object) → rests o ≡ true → rests (option_map (content_changed change) o) ≡ true
content_rests change k None h = h
content_rests change k (Some object) h = k object.content h

pub rest_changed : (fileset : Fileset) (anode : ℕ) (change : Content → Content) → ((c : Content) → is_settled c ≡ true → is_settled (change c) ≡ true)
    → is_at_rest fileset ≡ true → is_at_rest (changed fileset anode change) ≡ true
rest_changed fileset anode change k h = rest_updated fileset anode (anode_changed change) (λ a e. content_rests change k a.object e) h

-- contents
truncated_rests : (len : ℕ) (content : Content) → is_settled content ≡ true → is_settled (content_truncated len content) ≡ true
truncated_rests len (Dir entries lists) h = refl
truncated_rests len (File list kept unsaved unsaved_len) h = refl

listed_rests : (which : Which) (access : List AccessEntry) (content : Content) → is_settled content ≡ true → is_settled (content_with_list which access content) ≡ true
listed_rests which access (Dir entries lists) h = refl
listed_rests which access (File list kept [] None) h = refl
listed_rests which access (File list kept [] (Some len)) h = h
listed_rests which access (File list kept (byte ∷ unsaved) len) h = h

with_rests : (entry : DirEntry) (content : Content) → is_settled content ≡ true → is_settled (content_with_entry entry content) ≡ true
with_rests entry (Dir entries lists) h = refl
with_rests entry (File list kept unsaved len) h = h

without_rests : (name : List ℕ) (content : Content) → is_settled content ≡ true → is_settled (content_without_entry name content) ≡ true
without_rests name (Dir entries lists) h = refl
without_rests name (File list kept unsaved len) h = h

-- new objects
content_settled : (kind : NewObject) (directory content : Content) → new_content kind directory ≡ Ok content → is_settled content ≡ true
content_settled EmptyFile directory content e =
    let (files, f, same) = then_ok (access_of Files directory) _ content e in
    subst (λ c. is_settled c ≡ true) (ok_is _ content same) refl
content_settled EmptyDirectory directory content e =
    let (files, f, g) = then_ok (access_of Files directory) _ content e in
    let (dirs, i, same) = then_ok (access_of Dirs directory) _ content g in
    subst (λ c. is_settled c ≡ true) (ok_is _ content same) refl

object_settled : (kind : NewObject) (user : User) (directory object : Object) → new_object kind user directory ≡ Ok object → is_settled object.content ≡ true
object_settled kind user directory object e =
    let (content, f, same) = then_ok (new_content kind directory.content) _ object e in
    subst (λ o. is_settled o.content ≡ true) (ok_is _ object same) (content_settled kind directory.content content f)

creation_settled : (fileset : Fileset) (kind : NewObject) (user : User) (path : List (List ℕ)) (creation : Creation) → create_target fileset kind user path ≡ Ok creation → is_settled creation.object.content ≡ true
unfolding create_target
creation_settled fileset kind user path creation h =
    let (writable, a) = unless_ok fileset.read_only ReadOnly _ creation h in
    let (parts, b, c) = then_ok (split_path path Exists) _ creation a in
    let (at, d, e) = then_ok (insert_target fileset user parts.1 parts.0) _ creation c in
    let (free, f, g) = then_ok (vacancy fileset) _ creation e in
    let (object, i, same) = then_ok (new_object kind user at.1) _ creation g in
    subst (λ c. is_settled c.object.content ≡ true) (ok_is _ creation same) (object_settled kind user at.1 object i)

-- calls
rest_created : (fileset : Fileset) (kind : NewObject) (user : User) (path : List (List ℕ)) → is_at_rest fileset ≡ true → is_at_rest (create_answer fileset kind user path).fileset ≡ true
unfolding create_answer
rest_created fileset kind user path h =
    after_answer Rests fileset (create_target fileset kind user path) _ h (λ c e.
    rest_updated (changed fileset c.parent (content_with_entry c.entry)) c.entry.anode (occupied c.entry.unique c.object)
    (λ a k. creation_settled fileset kind user path c e)
    (rest_changed fileset c.parent (content_with_entry c.entry) (with_rests c.entry) h))

rest_removed : (fileset : Fileset) (in_use : Fid → Bool) (user : User) (path : List (List ℕ)) → is_at_rest fileset ≡ true → is_at_rest (remove_answer fileset in_use user path).fileset ≡ true
unfolding remove_answer
rest_removed fileset in_use user path h =
    after_answer Rests fileset (remove_target fileset in_use user path) _ h (λ f e.
    rest_updated (changed fileset f.0 (content_without_entry f.1)) f.2 anode_freed (λ a k. refl)
    (rest_changed fileset f.0 (content_without_entry f.1) (without_rests f.1) h))

rest_renamed : (fileset : Fileset) (user : User) (from to : List (List ℕ)) → is_at_rest fileset ≡ true → is_at_rest (rename_answer fileset user from to).fileset ≡ true
unfolding rename_answer
rest_renamed fileset user from to h =
    after_answer Rests fileset (rename_target fileset user from to) _ h (λ m e.
    rest_changed (changed fileset m.to (content_with_entry m.entry)) m.from (content_without_entry m.name) (without_rests m.name)
    (rest_changed fileset m.to (content_with_entry m.entry) (with_rests m.entry) h))

rest_truncated : (fileset : Fileset) (user : User) (path : List (List ℕ)) (len : ℕ) → is_at_rest fileset ≡ true → is_at_rest (truncate_answer fileset user path len).fileset ≡ true
unfolding truncate_answer
rest_truncated fileset user path len h =
    after_answer Rests fileset (write_target fileset user path len) _ h (λ anode e. rest_changed fileset anode (content_truncated len) (truncated_rests len) h)

rest_listed : (fileset : Fileset) (user : User) (path : List (List ℕ)) (which : Which) (list : List AccessEntry) → is_at_rest fileset ≡ true → is_at_rest (set_access_answer fileset user path which list).fileset ≡ true
unfolding set_access_answer
rest_listed fileset user path which list h =
    after_answer Rests fileset (set_access_target fileset user path which) _ h
    (λ anode e. rest_changed fileset anode (content_with_list which list) (listed_rests which list) h)

pub rest_answered : (fileset : Fileset) (in_use : Fid → Bool) (host : HostId) (user : User) (call : Call) → IsDecided call → is_at_rest fileset ≡ true
    → is_at_rest (fileset_answer fileset in_use host user call).fileset ≡ true
unfolding fileset_answer
rest_answered fileset in_use host user (Create place) d h = rest_created fileset EmptyFile user place.path h
rest_answered fileset in_use host user (MakeDir place) d h = rest_created fileset EmptyDirectory user place.path h
rest_answered fileset in_use host user (Remove place) d h = rest_removed fileset in_use user place.path h
rest_answered fileset in_use host user (Rename from to) d h = rest_renamed fileset user from.path to.path h
rest_answered fileset in_use host user (Truncate place len) d h = rest_truncated fileset user place.path len h
rest_answered fileset in_use host user (SetAcl place which list) d h = rest_listed fileset user place.path which list h
rest_answered fileset in_use host user (Write place from bytes) d h = absurd d
rest_answered fileset in_use host user (Sync place) d h = absurd d
rest_answered fileset in_use host user _ d h = h

-- a clone stays as it is
frozen : (b : Bool) → b ≡ true → b ≡ false → ⊥
frozen b on off = false≢true (sym off ∙ on)

pub frozen_answered : (fileset : Fileset) (in_use : Fid → Bool) (host : HostId) (user : User) (call : Call) → IsDecided call → fileset.read_only ≡ true
    → (fileset_answer fileset in_use host user call).fileset ≡ fileset
unfolding fileset_answer create_answer create_target remove_answer remove_target rename_answer rename_target truncate_answer write_target set_access_answer set_access_target
frozen_answered fileset in_use host user (Create place) d ro =
    after_answer (λ f. f ≡ fileset) fileset (create_target fileset EmptyFile user place.path) _ refl
    (λ c e. absurd (frozen _ ro (unless_ok fileset.read_only ReadOnly _ c e).0))
frozen_answered fileset in_use host user (MakeDir place) d ro =
    after_answer (λ f. f ≡ fileset) fileset (create_target fileset EmptyDirectory user place.path) _ refl
    (λ c e. absurd (frozen _ ro (unless_ok fileset.read_only ReadOnly _ c e).0))
frozen_answered fileset in_use host user (Remove place) d ro =
    after_answer (λ f. f ≡ fileset) fileset (remove_target fileset in_use user place.path) _ refl
    (λ c e. absurd (frozen _ ro (unless_ok fileset.read_only ReadOnly _ c e).0))
frozen_answered fileset in_use host user (Rename from to) d ro =
    after_answer (λ f. f ≡ fileset) fileset (rename_target fileset user from.path to.path) _ refl
    (λ c e. absurd (frozen _ ro (unless_ok fileset.read_only ReadOnly _ c e).0))
frozen_answered fileset in_use host user (Truncate place len) d ro =
    after_answer (λ f. f ≡ fileset) fileset (write_target fileset user place.path len) _ refl
    (λ c e. absurd (frozen _ ro (unless_ok fileset.read_only ReadOnly _ c e).0))
frozen_answered fileset in_use host user (SetAcl place which list) d ro =
    after_answer (λ f. f ≡ fileset) fileset (set_access_target fileset user place.path which) _ refl
    (λ c e. absurd (frozen _ ro (unless_ok fileset.read_only ReadOnly _ c e).0))
frozen_answered fileset in_use host user (Write place from bytes) d ro = absurd d
frozen_answered fileset in_use host user (Sync place) d ro = absurd d
frozen_answered fileset in_use host user _ d ro = refl
