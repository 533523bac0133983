-- The laws.
use Rattle.std.proofs.Common.{◌≡◌, ℕ, ◌==◌, Bool, true, false, not, cond, List, [], ◌∷◌, Option, Some, None, Result, Ok, Err, refl, subst, arith, rules}
use Rattle.std.specs.Prelude.{slice_get}
use Rattle.std.specs.List.{list_all}
use Rattle.std.specs.Option.{option_map_or, option_and_then}
use Rattle.std.proofs.lemmas.Grind.{common_steps}
use Rattle.base_types.specs.Outcomes.{either}
use Rattle.base_types.specs.declared.ids.HostId.{HostId}
use Rattle.base_types.specs.declared.ids.ServerId.{ServerId}
use Rattle.base_types.specs.declared.ids.FilesetId.{FilesetId}
use Rattle.base_types.specs.declared.ids.Fid.{Fid}
use Rattle.base_types.specs.declared.span.Span.{Span}
use Rattle.base_types.specs.declared.user.User.{User}
use Rattle.tree_calls.specs.declared.call.Call.{Call as CallOf}
use Rattle.tree_calls.specs.declared.call.Call.TheVariants.{NewFileset, Create, MakeDir, Remove, Rename, Truncate, SetAcl, CloneFileset, Read, Write, List as ListNames, Stat, GetAcl, Sync, Lock, Unlock, OpenFile, CloseFile, MoveFileset}
use Rattle.tree_calls.specs.declared.entry.Entry.TheVariants.{Call, Stored, Down, Left}
use Rattle.tree_calls.specs.declared.reply.Refusal.{Refusal}
use Rattle.tree_calls.specs.Rosters.{user_of}
use Rattle.tree_objects.specs.declared.content.Content.{Content}
use Rattle.tree_objects.specs.declared.content.Content.TheVariants.{Dir, File}
use Rattle.tree_objects.specs.declared.content.Object.{Object}
use Rattle.tree_objects.specs.declared.content.Anode.{Anode}
use Rattle.tree_objects.specs.Spans.{whole}
use Rattle.tree_objects.specs.Stores.{own_length_of, is_storable}
use Rattle.tree_objects.proofs.Observed.{and_left, and_right}
use Rattle.tree_objects.proofs.Rising.{and_both}
use Rattle.tree_filesets.specs.declared.fileset.Fileset.{Fileset}
use Rattle.tree_filesets.specs.Rows.{fileset_answer}
use Rattle.tree_filesets.specs.Walk.{object_at, unique_at}
use Rattle.tree_answers.specs.declared.tree.Tree.{Tree}
use Rattle.tree_answers.specs.Answers.{for_user, answer_at, deciding_place, fileset_row, answer_for, answer_to}
use Rattle.tree_answers.specs.Finding.{Answer, refuse}
use Rattle.tree_answers.specs.Moving.{move_target, move_answer, left_tree}
use Rattle.tree_answers.specs.Founding.{new_fileset_target, new_fileset_answer, clone_target, clone_answer}
use Rattle.tree_filesets.specs.WellFormed.{is_settled, is_at_rest}
use Rattle.tree_answers.specs.Locks.{lock_answer, lock_check, unlock_answer, has_lock}
use Rattle.tree_answers.specs.Losses.{down_tree}
use Rattle.tree_answers.specs.Opens.{open_answer, open_check, close_answer, has_open}
use Rattle.tree_answers.specs.Stores.{content_in, stored_tree}
use Rattle.tree_answers.specs.Uses.{is_used}
use Rattle.tree_answers.proofs.Kept.{tested_object, fileset_with_id}
use Rattle.tree_saving.specs.Unsaved.{anode_content, fileset_contents, has_saved, is_only_by, is_by_one, content_named, writes_alone, is_write_by}
use Rattle.tree_saving.specs.Laws.{StaysApart, StaysSaved, SavedIsAtRest, StartsWithout, RosterStays}
use Rattle.tree_saving.proofs.Contents.{saved_written, saved_stored, saved_truncated, saved_clone, saved_listed, saved_forgotten, one_stored, one_synced, one_truncated, one_clone, one_listed, one_written, one_forgotten}
use Rattle.tree_saving.proofs.Kept.{IsKept, CallKeeps, same_there, kept_call, kept_store, kept_down, kept_left}

-- one host's in each file
one_kept : IsKept is_by_one
one_kept = record {
  dir = λ entries lists. refl;
  empty = λ list. refl;
  truncated = λ size content h. one_truncated size content;
  synced = one_synced;
  listed = one_listed;
  clone = λ content h. one_clone content;
  forgotten = one_forgotten;
}

alone_is : (host : HostId) (named : Option Content) (content : Content) → option_map_or (is_only_by host) named true ≡ true → named ≡ Some content → is_only_by host content ≡ true
alone_is host named content h e = subst (λ o. option_map_or (is_only_by host) o true ≡ true) e h

one_call : (tree : Tree) (host : HostId) (k : ℕ) (call : CallOf) → (reply : _) → writes_alone tree (Call host k call reply) ≡ true → CallKeeps is_by_one (content_named tree) host call
one_call tree host k (Write place from bytes) reply h = λ content e m. one_written host from bytes content (alone_is host (content_named tree place) content h e)
one_call tree host k _ reply h = tt

pub stays_apart : StaysApart
stays_apart tree (Call host k call reply) legal h alone = kept_call is_by_one one_kept tree host call (one_call tree host k call reply alone) h
stays_apart tree (Stored host fid spans stored) legal h alone =
    kept_store is_by_one tree host fid spans stored (λ fileset a object at there e m.
    let found = fileset_with_id tree.filesets fid.fileset fileset at in
    let here : option_map_or (is_storable host spans stored) (content_in fileset fid) false ≡ true = subst (λ o. option_map_or (is_storable host spans stored) (option_and_then (λ f. content_in f fid) o) false ≡ true) found legal in
    let (known, stands, storable) = tested_object (unique_at fileset.anodes fid.anode == fid.unique) (object_at fileset.anodes fid.anode) (is_storable host spans stored) here in
    let same = same_there fileset.anodes fid.anode known a object stands there e in
    one_stored host spans stored object.content (subst (λ o. is_storable host spans stored o.content ≡ true) same storable) m) h
stays_apart tree (Down host server) legal h alone = kept_down is_by_one one_kept tree host server h
stays_apart tree (Left server id) legal h alone = kept_left is_by_one tree server id h

-- nothing of a host
saved_kept : (host : HostId) → IsKept (has_saved host)
saved_kept host = record {
  dir = λ entries lists. refl;
  empty = λ list. refl;
  truncated = λ size content h. saved_truncated host size content;
  synced = λ writer content h. saved_stored host writer (whole ∷ []) (own_length_of writer content) content h;
  listed = saved_listed host;
  clone = λ content h. saved_clone host content;
  forgotten = saved_forgotten host;
}

saved_call : (tree : Tree) (host writer : HostId) (k : ℕ) (call : CallOf) → (reply : _) → is_write_by host (Call writer k call reply) ≡ false → CallKeeps (has_saved host) (content_named tree) writer call
saved_call tree host writer k (Write place from bytes) reply h = λ content e m. saved_written host writer from bytes content h m
saved_call tree host writer k _ reply h = tt

pub stays_saved : StaysSaved
stays_saved tree (Call writer k call reply) host h other = kept_call (has_saved host) (saved_kept host) tree writer call (saved_call tree host writer k call reply other) h
stays_saved tree (Stored writer fid spans stored) host h other = kept_store (has_saved host) tree writer fid spans stored (λ fileset a object at there e m. saved_stored host writer spans stored object.content m) h
stays_saved tree (Down writer server) host h other = kept_down (has_saved host) (saved_kept host) tree writer server h
stays_saved tree (Left server id) host h other = kept_left (has_saved host) tree server id h

-- a host is itself
not_itself : (host : HostId) → not (host.0 == host.0) ≡ true → ⊥
not_itself host h = let e : (host.0 == host.0) ≡ true = grind (arith, common_steps) in let wrong : not true ≡ true = subst (λ t. not t ≡ true) e h in search (rules, wrong)

-- nothing of any host
settled_saved : (content : Content) → ((host : HostId) → has_saved host content ≡ true) → is_settled content ≡ true
settled_saved (Dir entries lists) k = refl
settled_saved (File list kept [] None) k = refl
settled_saved (File list kept [] (Some u)) k = absurd (not_itself u.writer (k u.writer))
settled_saved (File list kept (byte ∷ bytes) len) k = absurd (not_itself byte.writer (and_left _ _ (and_left _ _ (k byte.writer))))

settled_object : (o : Option Object) → ((host : HostId) → option_map_or (λ object. has_saved host object.content) o true ≡ true) → option_map_or (λ object. is_settled object.content) o true ≡ true
settled_object None k = refl
settled_object (Some object) k = settled_saved object.content k

settled_anodes : (anodes : List Anode) → ((host : HostId) → list_all (anode_content (has_saved host)) anodes ≡ true) → list_all (λ anode. option_map_or (λ object. is_settled object.content) anode.object true) anodes ≡ true
settled_anodes [] k = refl
settled_anodes (anode ∷ anodes) k = and_both _ _ (settled_object anode.object (λ host. and_left _ _ (k host))) (settled_anodes anodes (λ host. and_right _ _ (k host)))

settled_filesets : (filesets : List Fileset) → ((host : HostId) → list_all (fileset_contents (has_saved host)) filesets ≡ true) → list_all is_at_rest filesets ≡ true
settled_filesets [] k = refl
settled_filesets (fileset ∷ filesets) k = and_both _ _ (settled_anodes fileset.anodes (λ host. and_left _ _ (k host))) (settled_filesets filesets (λ host. and_right _ _ (k host)))

pub saved_is_at_rest : SavedIsAtRest
saved_is_at_rest tree k = settled_filesets tree.filesets k

pub starts_without : StartsWithout
starts_without roster test = refl

-- the roster
roster_at : (tree : Tree) (place : ℕ) (found : Option Fileset) (host : HostId) (user : User) (call : CallOf) →
    (answer_at tree place found (λ fileset. fileset_answer fileset (is_used tree.locks tree.opens) host user call)).tree.roster ≡ tree.roster
roster_at tree place None host user call = refl
roster_at tree place (Some fileset) host user call = refl

roster_row : (tree : Tree) (host : HostId) (user : User) (call : CallOf) → (fileset_row tree host user call).tree.roster ≡ tree.roster
unfolding fileset_row
roster_row tree host user call = placed (deciding_place tree call)
  where
    placed : (found : Result ℕ Refusal) →
        (either found (λ place. answer_at tree place (slice_get tree.filesets place) (λ fileset. fileset_answer fileset (is_used tree.locks tree.opens) host user call)) (refuse tree)).tree.roster ≡ tree.roster
    placed (Ok place) = roster_at tree place (slice_get tree.filesets place) host user call
    placed (Err why) = refl

-- what follows a check leaves the roster
roster_checked : {A : Type 0} (tree : Tree) (checked : Result A Refusal) (act : A → Answer) → ((found : A) → (act found).tree.roster ≡ tree.roster) → (either checked act (refuse tree)).tree.roster ≡ tree.roster
roster_checked tree (Ok found) act k = k found
roster_checked tree (Err why) act k = refl

roster_or : (tree : Tree) (t : Bool) (a b : Answer) → a.tree.roster ≡ tree.roster → b.tree.roster ≡ tree.roster → (cond t a b).tree.roster ≡ tree.roster
roster_or tree true a b h k = h
roster_or tree false a b h k = k

roster_for : (tree : Tree) (host : HostId) (call : CallOf) (user : User) → (answer_for tree host call user).tree.roster ≡ tree.roster
unfolding answer_for new_fileset_answer clone_answer move_answer lock_answer unlock_answer open_answer close_answer
roster_for tree host (NewFileset server name objects owner) user = roster_checked tree (new_fileset_target tree server name objects) _ (λ room. refl)
roster_for tree host (CloneFileset server source new) user = roster_checked tree (clone_target tree user server source new) _ (λ found. refl)
roster_for tree host (MoveFileset server name to) user = roster_checked tree (move_target tree user server name to) _ (λ found. refl)
roster_for tree host (Lock label place writing from len) user = roster_checked tree (lock_check tree host user label place writing from len) _ (λ found. refl)
roster_for tree host (Unlock label) user = roster_or tree (not (has_lock tree.locks host label)) _ _ refl refl
roster_for tree host (OpenFile label place kind) user = roster_checked tree (open_check tree host user label place kind) _ (λ found. refl)
roster_for tree host (CloseFile label) user = roster_or tree (not (has_open tree.opens host label)) _ _ refl refl
roster_for tree host (Create place) user = roster_row tree host user (Create place)
roster_for tree host (MakeDir place) user = roster_row tree host user (MakeDir place)
roster_for tree host (Remove place) user = roster_row tree host user (Remove place)
roster_for tree host (Rename from to) user = roster_row tree host user (Rename from to)
roster_for tree host (Truncate place len) user = roster_row tree host user (Truncate place len)
roster_for tree host (SetAcl place which list) user = roster_row tree host user (SetAcl place which list)
roster_for tree host (Read place from len) user = roster_row tree host user (Read place from len)
roster_for tree host (Write place from bytes) user = roster_row tree host user (Write place from bytes)
roster_for tree host (ListNames place) user = roster_row tree host user (ListNames place)
roster_for tree host (Stat place) user = roster_row tree host user (Stat place)
roster_for tree host (GetAcl place which) user = roster_row tree host user (GetAcl place which)
roster_for tree host (Sync place) user = roster_row tree host user (Sync place)

roster_answer : (tree : Tree) (host : HostId) (call : CallOf) → (answer_to tree host call).tree.roster ≡ tree.roster
unfolding answer_to
roster_answer tree host call = for_found (user_of tree.roster host)
  where
    for_found : (found : Option User) → (for_user tree found (answer_for tree host call)).tree.roster ≡ tree.roster
    for_found None = refl
    for_found (Some user) = roster_for tree host call user

roster_stored : (tree : Tree) (host : HostId) (fid : Fid) (spans : List Span) (stored : Option ℕ) → (stored_tree tree host fid spans stored).roster ≡ tree.roster
unfolding stored_tree
roster_stored tree host fid spans stored = refl

roster_down : (tree : Tree) (host : HostId) (server : ServerId) → (down_tree tree host server).roster ≡ tree.roster
unfolding down_tree
roster_down tree host server = refl

roster_left : (tree : Tree) (server : ServerId) (id : FilesetId) → (left_tree tree server id).roster ≡ tree.roster
unfolding left_tree
roster_left tree server id = refl

pub roster_stays : RosterStays
roster_stays tree (Call host k call reply) = roster_answer tree host call
roster_stays tree (Stored host fid spans stored) = roster_stored tree host fid spans stored
roster_stays tree (Down host server) = roster_down tree host server
roster_stays tree (Left server id) = roster_left tree server id
