-- What changes nothing where nothing is unsaved.
use Rattle.std.proofs.Common.{◌≡◌, ℕ, zero, suc, ◌-◌, nat_le, Bool, true, false, List, [], ◌∷◌, length, Option, Some, None, Result, Ok, Err, refl, sym, ap, ◌∙◌, subst, arith, rules}
use Rattle.std.specs.Prelude.{slice_get, map}
use Rattle.std.specs.List.{list_all}
use Rattle.std.specs.Option.{option_map, option_map_or, option_and_then}
use Rattle.std.proofs.lemmas.Grind.{common_steps}
use Rattle.base_types.specs.Lists.{changed_at}
use Rattle.base_types.specs.declared.ids.HostId.{HostId}
use Rattle.base_types.specs.declared.ids.Fid.{Fid}
use Rattle.base_types.specs.declared.span.Span.{Span}
use Rattle.base_types.specs.declared.user.User.{User}
use Rattle.tree_calls.specs.declared.call.Call.{Call as CallOf}
use Rattle.tree_calls.specs.declared.call.Call.TheVariants.{NewFileset, Create, MakeDir, Remove, Rename, Truncate, SetAcl, CloneFileset, Read, Write, List as ListNames, Stat, GetAcl, Sync, Lock, Unlock, OpenFile, CloseFile, MoveFileset}
use Rattle.tree_calls.specs.declared.reply.Refusal.{Refusal}
use Rattle.tree_calls.specs.declared.reply.Refusal.TheVariants.{ReadOnly}
use Rattle.tree_objects.specs.declared.content.Content.{Content}
use Rattle.tree_objects.specs.declared.content.Content.TheVariants.{Dir, File}
use Rattle.tree_objects.specs.declared.content.Object.{Object}
use Rattle.tree_objects.specs.declared.content.Anode.{Anode}
use Rattle.tree_objects.specs.Changes.{content_changed, anode_changed, content_forgotten}
use Rattle.tree_objects.specs.Files.{bytes_over}
use Rattle.tree_objects.specs.Stores.{content_stored, content_synced, is_storable}
use Rattle.tree_objects.proofs.Lawful.{over_itself}
use Rattle.tree_objects.proofs.Observed.{and_left, and_right}
use Rattle.tree_filesets.specs.declared.fileset.Fileset.{Fileset}
use Rattle.tree_filesets.specs.Answers.{answered}
use Rattle.tree_filesets.specs.Changing.{write_target, write_answer, truncate_answer, sync_answer, set_access_target, set_access_answer}
use Rattle.tree_filesets.specs.Checks.{unless}
use Rattle.tree_filesets.specs.Creation.{create_target, create_answer}
use Rattle.tree_filesets.specs.Removal.{remove_target, remove_answer}
use Rattle.tree_filesets.specs.Renaming.{rename_target, rename_answer}
use Rattle.tree_filesets.specs.Rows.{fileset_answer}
use Rattle.tree_filesets.specs.Updates.{updated, changed}
use Rattle.tree_filesets.specs.Walk.{object_at, file_target}
use Rattle.tree_filesets.proofs.Observations.{object_from, object_not_zero}
use Rattle.tree_answers.specs.Losses.{fileset_forgotten}
use Rattle.tree_filesets.specs.WellFormed.{is_settled, is_at_rest}

-- a settled content is changed by nothing that makes changes kept, or lets them go
settled_synced : (host : HostId) (content : Content) → is_settled content ≡ true → content_synced host content ≡ content
settled_synced host (Dir entries lists) h = refl
settled_synced host (File list kept [] None) h = ap (λ bytes. File list bytes [] None) (over_itself kept)
settled_synced host (File list kept [] (Some len)) h = absurd (search (rules, h))
settled_synced host (File list kept (byte ∷ unsaved) len) h = absurd (search (rules, h))

settled_forgotten : (host : HostId) (content : Content) → is_settled content ≡ true → content_forgotten host content ≡ content
settled_forgotten host (Dir entries lists) h = refl
settled_forgotten host (File list kept [] None) h = refl
settled_forgotten host (File list kept [] (Some len)) h = absurd (search (rules, h))
settled_forgotten host (File list kept (byte ∷ unsaved) len) h = absurd (search (rules, h))

pub settled_stored : (host : HostId) (spans : List Span) (stored : Option ℕ) (content : Content) → is_settled content ≡ true → is_storable host spans stored content ≡ true → content_stored host spans stored content ≡ content
settled_stored host spans stored (Dir entries lists) h k = refl
settled_stored host spans None (File list kept [] None) h k = ap (λ bytes. File list bytes [] None) (over_itself kept)
settled_stored host spans (Some n) (File list kept [] None) h k =
    let length_fits = and_left _ _ k in
    let low : nat_le (length kept) n ≡ true = and_left _ _ (and_left _ _ length_fits) in
    let high : nat_le n (length kept) ≡ true = and_right _ _ (and_left _ _ length_fits) in
    let same : n ≡ length kept = grind (arith, common_steps, low, high) in
    ap (λ end. File list (bytes_over kept [] 0 end) [] None) same ∙ ap (λ bytes. File list bytes [] None) (over_itself kept)
settled_stored host spans stored (File list kept [] (Some len)) h k = absurd (search (rules, h))
settled_stored host spans stored (File list kept (byte ∷ unsaved) len) h k = absurd (search (rules, h))

-- whether what stands at an anode is settled
abbrev pub settled_at : Anode → Bool
settled_at anode = option_map_or (λ object. is_settled object.content) anode.object true

same_object : (o : Option Object) (change : Content → Content) → ((content : Content) → is_settled content ≡ true → change content ≡ content) → option_map_or (λ object. is_settled object.content) o true ≡ true → option_map (content_changed change) o ≡ o
same_object None change k h = refl
same_object (Some object) change k h = ap (λ content. Some (record object { content = content })) (k object.content h)

same_anode : (anode : Anode) (change : Content → Content) → ((content : Content) → is_settled content ≡ true → change content ≡ content) → settled_at anode ≡ true → anode_changed change anode ≡ anode
same_anode anode change k h = ap (λ o. record anode { object = o }) (same_object anode.object change k h)

same_changed : {X : Type 0} (q : X → Bool) (f : X → X) → ((x : X) → q x ≡ true → f x ≡ x) → (xs : List X) (i : ℕ) → list_all q xs ≡ true → changed_at xs i f ≡ xs
same_changed q f k [] i h = refl
same_changed q f k (x ∷ xs) zero h = ap (λ y. y ∷ xs) (k x (and_left _ _ h))
same_changed q f k (x ∷ xs) (suc i) h = ap (λ ys. x ∷ ys) (same_changed q f k xs i (and_right _ _ h))

same_mapped : {X : Type 0} (q : X → Bool) (f : X → X) → ((x : X) → q x ≡ true → f x ≡ x) → (xs : List X) → list_all q xs ≡ true → map f xs ≡ xs
same_mapped q f k [] h = refl
same_mapped q f k (x ∷ xs) h = ap (λ y. y ∷ map f xs) (k x (and_left _ _ h)) ∙ ap (λ ys. x ∷ ys) (same_mapped q f k xs (and_right _ _ h))

rest_changed : (fileset : Fileset) (anode : ℕ) (change : Content → Content) → ((content : Content) → is_settled content ≡ true → change content ≡ content) → is_at_rest fileset ≡ true → changed fileset anode change ≡ fileset
unfolding updated
rest_changed fileset anode change k h = ap (λ anodes. record fileset { anodes = anodes }) (same_changed settled_at (anode_changed change) (λ a s. same_anode a change k s) fileset.anodes (anode - 1) h)

pub rest_forgotten : (host : HostId) (fileset : Fileset) → is_at_rest fileset ≡ true → fileset_forgotten host fileset ≡ fileset
rest_forgotten host fileset h = ap (λ anodes. record fileset { anodes = anodes }) (same_mapped settled_at (anode_changed (content_forgotten host)) (λ a s. same_anode a (content_forgotten host) (settled_forgotten host) s) fileset.anodes h)

-- a row of a clone
row_refused : {A : Type 0} (fileset : Fileset) (read_only : Bool) (next : Result A Refusal) (effect : A → Fileset) → read_only ≡ true → (answered fileset (unless read_only ReadOnly next) effect).fileset ≡ fileset
row_refused fileset true next effect h = refl
row_refused fileset false next effect h = absurd (search (rules, h))

row_synced : (fileset : Fileset) (host : HostId) (checked : Result (ℕ × Object) Refusal) → is_at_rest fileset ≡ true → (answered fileset checked (λ (anode, object). changed fileset anode (content_synced host))).fileset ≡ fileset
row_synced fileset host (Err why) h = refl
row_synced fileset host (Ok found) h = rest_changed fileset found.0 (content_synced host) (settled_synced host) h

pub row_rests : (fileset : Fileset) (in_use : Fid → Bool) (host : HostId) (user : User) (call : CallOf) → fileset.read_only ≡ true → is_at_rest fileset ≡ true → (fileset_answer fileset in_use host user call).fileset ≡ fileset
unfolding fileset_answer create_answer remove_answer rename_answer truncate_answer set_access_answer write_answer sync_answer create_target remove_target rename_target write_target set_access_target
row_rests fileset in_use host user (Create place) r h = row_refused fileset fileset.read_only _ _ r
row_rests fileset in_use host user (MakeDir place) r h = row_refused fileset fileset.read_only _ _ r
row_rests fileset in_use host user (Remove place) r h = row_refused fileset fileset.read_only _ _ r
row_rests fileset in_use host user (Rename from to) r h = row_refused fileset fileset.read_only _ _ r
row_rests fileset in_use host user (Truncate place len) r h = row_refused fileset fileset.read_only _ _ r
row_rests fileset in_use host user (SetAcl place which list) r h = row_refused fileset fileset.read_only _ _ r
row_rests fileset in_use host user (Write place from bytes) r h = row_refused fileset fileset.read_only _ _ r
row_rests fileset in_use host user (Sync place) r h = row_synced fileset host (file_target fileset user place.path) h
row_rests fileset in_use host user (Read place from len) r h = refl
row_rests fileset in_use host user (ListNames place) r h = refl
row_rests fileset in_use host user (Stat place) r h = refl
row_rests fileset in_use host user (GetAcl place which) r h = refl
row_rests fileset in_use host user (NewFileset server name objects owner) r h = refl
row_rests fileset in_use host user (CloneFileset server source new) r h = refl
row_rests fileset in_use host user (MoveFileset server name to) r h = refl
row_rests fileset in_use host user (Lock label place writing from len) r h = refl
row_rests fileset in_use host user (Unlock label) r h = refl
row_rests fileset in_use host user (OpenFile label place kind) r h = refl
row_rests fileset in_use host user (CloseFile label) r h = refl

-- a host stores there
same_place : (anodes : List Anode) (i : ℕ) (change : Content → Content) (object : Object) → option_and_then (λ a. a.object) (slice_get anodes i) ≡ Some object → change object.content ≡ object.content → changed_at anodes i (anode_changed change) ≡ anodes
same_place [] i change object h k = refl
same_place (x ∷ xs) zero change object h k =
    let same : option_map (content_changed change) x.object ≡ x.object = ap (option_map (content_changed change)) h ∙ ap (λ content. Some (record object { content = content })) k ∙ sym h in
    ap (λ o. record x { object = o } ∷ xs) same
same_place (x ∷ xs) (suc i) change object h k = ap (λ ys. x ∷ ys) (same_place xs i change object h k)

pub rest_stored : (fileset : Fileset) (anode : ℕ) (change : Content → Content) (object : Object) → object_at fileset.anodes anode ≡ Some object → change object.content ≡ object.content → changed fileset anode change ≡ fileset
unfolding updated
rest_stored fileset anode change object h k =
    ap (λ anodes. record fileset { anodes = anodes }) (same_place fileset.anodes (anode - 1) change object (sym (object_from fileset.anodes anode (object_not_zero fileset.anodes anode object h)) ∙ h) k)

-- what stands at an anode of a fileset at rest is settled
pub settled_there : (anodes : List Anode) (i : ℕ) (object : Object) → list_all settled_at anodes ≡ true → option_and_then (λ a. a.object) (slice_get anodes i) ≡ Some object → is_settled object.content ≡ true
settled_there [] i object q h = absurd (search (rules, h))
settled_there (x ∷ xs) zero object q h = subst (λ o. option_map_or (λ object. is_settled object.content) o true ≡ true) h (and_left _ _ q)
settled_there (x ∷ xs) (suc i) object q h = settled_there xs i object (and_right _ _ q) h

pub same_id : (fileset : Fileset) (anode : ℕ) (change : Content → Content) → (changed fileset anode change).id ≡ fileset.id
unfolding updated
same_id fileset anode change = refl
