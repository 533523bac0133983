-- What a host has to store where it has written: nothing, or its file.
use Rattle.std.proofs.Common.{◌≡◌, ◌≢◌, ℕ, zero, suc, ◌+◌, ◌-◌, ◌==◌, Bool, true, false, List, [], ◌∷◌, ◌++◌, length, Option, Some, None, Result, Ok, Err, refl, sym, ap, subst, ◌∙◌, arith, rules, ◌⊎◌, inl, inr}
use Rattle.std.specs.Prelude.{slice_get, slice_set, flat_map, nat_lt, if◌then◌else◌}
use Rattle.std.specs.List.{list_all}
use Rattle.std.specs.Option.{option_map, option_map_or, option_and_then}
use Rattle.std.proofs.lemmas.List.{append-nil}
use Rattle.base_types.specs.Lists.{changed_at}
use Rattle.base_types.specs.Outcomes.{either}
use Rattle.base_types.specs.declared.ids.Fid.{Fid}
use Rattle.base_types.specs.declared.ids.FilesetId.{FilesetId}
use Rattle.base_types.specs.declared.ids.HostId.{HostId}
use Rattle.base_types.specs.declared.limits.TheConstants.{FILE_BYTES_MAX}
use Rattle.base_types.specs.declared.span.Span.{Span}
use Rattle.base_types.specs.declared.user.User.{User}
use Rattle.tree_calls.specs.Rosters.{user_of}
use Rattle.tree_calls.specs.declared.call.Call.TheVariants.{Write}
use Rattle.tree_calls.specs.declared.entry.Entry.{Entry}
use Rattle.tree_calls.specs.declared.entry.Entry.TheVariants.{Call as Called, Stored}
use Rattle.tree_calls.specs.declared.place.Place.{Place}
use Rattle.tree_calls.specs.declared.reply.Refusal.{Refusal}
use Rattle.tree_calls.specs.declared.reply.Refusal.TheVariants.{NoFileset, ReadOnly, TooBig}
use Rattle.tree_calls.specs.declared.reply.Reply.{Reply}
use Rattle.tree_objects.specs.declared.content.Anode.{Anode}
use Rattle.tree_objects.specs.declared.content.Content.{Content}
use Rattle.tree_objects.specs.declared.content.Content.TheVariants.{Dir, File}
use Rattle.tree_objects.specs.declared.content.Object.{Object}
use Rattle.tree_objects.specs.Changes.{anode_changed, content_written}
use Rattle.tree_objects.specs.Losses.{own_spans}
use Rattle.tree_objects.specs.Stores.{own_length_of}
use Rattle.tree_filesets.specs.declared.fileset.Fileset.{Fileset}
use Rattle.tree_filesets.specs.Changing.{write_target, write_answer}
use Rattle.tree_filesets.specs.Rights.{write_right}
use Rattle.tree_filesets.specs.Rows.{fileset_answer}
use Rattle.tree_filesets.specs.Updates.{updated, changed}
use Rattle.tree_filesets.specs.Walk.{permitted_file, unique_at}
use Rattle.tree_filesets.specs.WellFormed.{is_settled, is_at_rest, leads}
use Rattle.tree_filesets.proofs.Observations.{object_not_zero}
use Rattle.tree_filesets.proofs.StaysWellFormed.{after_answer}
use Rattle.tree_filesets.proofs.Targets.{then_ok, unless_ok, ok_is, permitted_file_ok, walk_leads}
use Rattle.tree_answers.specs.declared.tree.Tree.{Tree}
use Rattle.tree_answers.specs.Answers.{answer_to, answer_for, answer_at, fileset_row, for_user}
use Rattle.tree_answers.specs.Finding.{refuse, found_or, fileset_named, fileset_place, leads_to}
use Rattle.tree_answers.specs.Uses.{is_used}
use Rattle.tree_answers.proofs.Places.{get_all}
use Rattle.tree_saving.specs.Saving.{fid_named}
use Rattle.tree_saving.specs.Stores.{store_of, own_store, listed, anode_store, anodes_stores, fileset_stores, own_stores}
use Rattle.tree_saving.specs.Unsaved.{writer_of}
use Rattle.tree_saving.proofs.Kept.{place_is}
use Rattle.service_plain.specs.Played.{rests, written_by}
use Rattle.service_plain.proofs.Histories.{fst_true, snd_true}

-- the one entry by which a host stores of the file that it has just written
pub record StoresFile (host : HostId) (written : Option (HostId × Fid)) (entries : List Entry) : Type 0 where
  pub fid : Fid
  pub spans : List Span
  pub len : Option ℕ
  pub due : written ≡ Some (host, fid)
  pub one : entries ≡ Stored host fid spans len ∷ []

abbrev pub StoresOnce : HostId → Option (HostId × Fid) → List Entry → Type 0
StoresOnce host written entries = (entries ≡ []) ⊎ StoresFile host written entries

-- where nothing is unsaved, nothing has to be stored
abbrev settled_anode : Anode → Bool
settled_anode anode = option_map_or (λ object. is_settled object.content) anode.object true

settled_none : (content : Content) → is_settled content ≡ true → writer_of content ≡ None
settled_none (Dir entries lists) h = refl
settled_none (File list kept [] None) h = refl
settled_none (File list kept [] (Some len)) h = cc
settled_none (File list kept (byte ∷ unsaved) len) h = cc

none_at : (host : HostId) (id : FilesetId) (at : ℕ) (anode : Anode) → settled_anode anode ≡ true → listed (anode_store host id at anode) ≡ []
none_at host id at anode h = by anode.object h
  where
    by : (o : Option Object) → option_map_or (λ object. is_settled object.content) o true ≡ true → listed (option_and_then (own_store host (record { fileset = id; anode = at; unique = anode.unique })) o) ≡ []
    by None h = refl
    by (Some object) h =
        ap (λ writer. listed (if option_map_or (λ w. w.0 == host.0) writer false then Some (store_of host (record { fileset = id; anode = at; unique = anode.unique }) object.content) else None)) (settled_none object.content h)

none_in : (host : HostId) (id : FilesetId) (at : ℕ) (anodes : List Anode) → list_all settled_anode anodes ≡ true → anodes_stores host id at anodes ≡ []
none_in host id at [] h = refl
none_in host id at (anode ∷ anodes) h = ap (λ first. first ++ anodes_stores host id (at + 1) anodes) (none_at host id at anode (fst_true _ _ h)) ∙ none_in host id (at + 1) anodes (snd_true _ _ h)

pub none_flat : (host : HostId) (filesets : List Fileset) → list_all is_at_rest filesets ≡ true → flat_map (fileset_stores host) filesets ≡ []
none_flat host [] h = refl
none_flat host (fileset ∷ filesets) h = ap (λ first. first ++ flat_map (fileset_stores host) filesets) (none_in host fileset.id 1 fileset.anodes (fst_true _ _ h)) ∙ none_flat host filesets (snd_true _ _ h)

-- where one anode, or one fileset, is changed, only what that has
one_in : (host : HostId) (id : FilesetId) (change : Anode → Anode) (anodes : List Anode) (i at j : ℕ) → j ≡ at + i → list_all settled_anode anodes ≡ true →
    anodes_stores host id at (changed_at anodes i change) ≡ option_map_or (λ anode. listed (anode_store host id j (change anode))) (slice_get anodes i) []
one_in host id change [] zero at j e h = refl
one_in host id change [] (suc i) at j e h = refl
one_in host id change (anode ∷ anodes) zero at j e h =
    let same : at ≡ j = omega (arith, e) in
    ap (λ rest. listed (anode_store host id at (change anode)) ++ rest) (none_in host id (at + 1) anodes (snd_true _ _ h)) ∙ (append-nil _ ∙ ap (λ n. listed (anode_store host id n (change anode))) same)
one_in host id change (anode ∷ anodes) (suc i) at j e h =
    ap (λ first. first ++ anodes_stores host id (at + 1) (changed_at anodes i change)) (none_at host id at anode (fst_true _ _ h)) ∙ one_in host id change anodes i (at + 1) j (omega (arith, e)) (snd_true _ _ h)

one_flat : (host : HostId) (filesets : List Fileset) (i : ℕ) (old new : Fileset) → Some old ≡ slice_get filesets i → list_all is_at_rest filesets ≡ true → flat_map (fileset_stores host) (slice_set filesets i new) ≡ fileset_stores host new
one_flat host [] i old new e h = absurd (search (rules, e))
one_flat host (fileset ∷ filesets) zero old new e h = ap (λ rest. fileset_stores host new ++ rest) (none_flat host filesets (snd_true _ _ h)) ∙ append-nil _
one_flat host (fileset ∷ filesets) (suc i) old new e h =
    ap (λ first. first ++ flat_map (fileset_stores host) (slice_set filesets i new)) (none_in host fileset.id 1 fileset.anodes (fst_true _ _ h)) ∙ one_flat host filesets i old new e (snd_true _ _ h)

one_listed : (host : HostId) (written : Option (HostId × Fid)) (fid : Fid) (object : Object) → written ≡ Some (host, fid) → StoresOnce host written (listed (own_store host fid object))
one_listed host written fid object e = by (option_map_or (λ writer. writer.0 == host.0) (writer_of object.content) false)
  where
    by : (b : Bool) → StoresOnce host written (listed (if b then Some (store_of host fid object.content) else None))
    by true = inr (record { fid = fid; spans = own_spans host object.content; len = own_length_of host object.content; due = e; one = refl })
    by false = inl refl

one_anode : (host : HostId) (written : Option (HostId × Fid)) (id : FilesetId) (at : ℕ) (anode : Anode) → written ≡ Some (host, record { fileset = id; anode = at; unique = anode.unique }) → StoresOnce host written (listed (anode_store host id at anode))
one_anode host written id at anode e = by anode.object
  where
    by : (o : Option Object) → StoresOnce host written (listed (option_and_then (own_store host (record { fileset = id; anode = at; unique = anode.unique })) o))
    by None = inl refl
    by (Some object) = one_listed host written (record { fileset = id; anode = at; unique = anode.unique }) object e

-- the fid of an anode
abbrev fid_in : Fileset → ℕ → Fid
fid_in fileset at = record { fileset = fileset.id; anode = at; unique = unique_at fileset.anodes at }

one_changed : (host : HostId) (written : Option (HostId × Fid)) (fileset : Fileset) (anode : ℕ) (change : Content → Content) → is_at_rest fileset ≡ true → anode ≢ 0 → written ≡ Some (host, fid_in fileset anode) →
    StoresOnce host written (fileset_stores host (changed fileset anode change))
unfolding updated
one_changed host written fileset anode change r some due =
    subst (StoresOnce host written) (sym (one_in host fileset.id (anode_changed change) fileset.anodes (anode - 1) 1 anode (omega (arith, some)) r)) (by (slice_get fileset.anodes (anode - 1)) refl)
  where
    by : (o : Option Anode) → slice_get fileset.anodes (anode - 1) ≡ o → StoresOnce host written (option_map_or (λ a. listed (anode_store host fileset.id anode (anode_changed change a))) o [])
    by None e = inl refl
    by (Some a) e = one_anode host written fileset.id anode (anode_changed change a) (due ∙ ap (λ o. Some (host, record { fileset = fileset.id; anode = anode; unique = option_map_or (λ a. a.unique) o 0 })) e)

-- a write changes the file to which its path leads
write_way : (fileset : Fileset) (user : User) (path : List (List ℕ)) (end anode : ℕ) → write_target fileset user path end ≡ Ok anode → (leads fileset.anodes 1 path ≡ Some anode) × (anode ≢ 0)
unfolding write_target
write_way fileset user path end anode h =
    let (writable, k) = unless_ok fileset.read_only ReadOnly _ anode h in
    let (at, e, l) = then_ok (permitted_file fileset user path write_right) _ anode k in
    let (within, same) = unless_ok (nat_lt FILE_BYTES_MAX end) TooBig (Ok at.0) anode l in
    let walked = permitted_file_ok fileset user path write_right at e in
    let one : at.0 ≡ anode = ok_is at.0 anode same in
    (walk_leads fileset.anodes user path 1 at.0 walked.way ∙ ap Some one, subst (λ n. n ≢ 0) one (object_not_zero fileset.anodes at.0 at.1 walked.there))

written_in : (host : HostId) (written : Option (HostId × Fid)) (fileset : Fileset) (user : User) (path : List (List ℕ)) (from : ℕ) (bytes : List ℕ) → is_at_rest fileset ≡ true →
    ((anode : ℕ) → leads fileset.anodes 1 path ≡ Some anode → written ≡ Some (host, fid_in fileset anode)) → StoresOnce host written (fileset_stores host (write_answer fileset host user path from bytes).fileset)
unfolding write_answer
written_in host written fileset user path from bytes r due =
    after_answer (λ f. StoresOnce host written (fileset_stores host f)) fileset (write_target fileset user path (from + length bytes)) _ (inl (none_in host fileset.id 1 fileset.anodes r)) (λ anode e.
    let (way, some) = write_way fileset user path (from + length bytes) anode e in
    one_changed host written fileset anode (content_written host from bytes) r some (due anode way))

abbrev due_at : Tree → HostId → Place → Option (HostId × Fid)
due_at tree host place = option_map (λ fid. (host, fid)) (fid_named tree place)

named_due : (tree : Tree) (host : HostId) (place : Place) (at : ℕ) (fileset : Fileset) → fileset_place tree place.server place.fileset ≡ Ok at → Some fileset ≡ slice_get tree.filesets at →
    (anode : ℕ) → leads fileset.anodes 1 place.path ≡ Some anode → due_at tree host place ≡ Some (host, fid_in fileset anode)
unfolding fileset_place fileset_named
named_due tree host place at fileset h there anode way =
    ap (λ o. option_map (λ fid. (host, fid)) (either (found_or o NoFileset) (λ f. option_map (fid_in f) (leads f.anodes 1 place.path)) (λ refusal. None))) (place_is (leads_to tree place.server place.fileset) tree.filesets at fileset h there)
    ∙ ap (λ o. option_map (λ fid. (host, fid)) (option_map (fid_in fileset) o)) way

write_row : (tree : Tree) (host : HostId) (user : User) (place : Place) (from : ℕ) (bytes : List ℕ) → rests tree ≡ true → StoresOnce host (due_at tree host place) (own_stores host (fileset_row tree host user (Write place from bytes)).tree)
unfolding fileset_row fileset_answer
write_row tree host user place from bytes r = placed (fileset_place tree place.server place.fileset) refl
  where
    answered_at : (at : ℕ) → fileset_place tree place.server place.fileset ≡ Ok at → (found : Option Fileset) → found ≡ slice_get tree.filesets at →
        StoresOnce host (due_at tree host place) (own_stores host (answer_at tree at found (λ fileset. fileset_answer fileset (is_used tree.locks tree.opens) host user (Write place from bytes))).tree)
    answered_at at e None there = inl (none_flat host tree.filesets r)
    answered_at at e (Some fileset) there =
        subst (StoresOnce host (due_at tree host place)) (sym (one_flat host tree.filesets at fileset (write_answer fileset host user place.path from bytes).fileset there r))
        (written_in host (due_at tree host place) fileset user place.path from bytes (get_all is_at_rest tree.filesets at fileset there r) (named_due tree host place at fileset e there))

    placed : (found : Result ℕ Refusal) → fileset_place tree place.server place.fileset ≡ found →
        StoresOnce host (due_at tree host place) (own_stores host (either found (λ at. answer_at tree at (slice_get tree.filesets at) (λ fileset. fileset_answer fileset (is_used tree.locks tree.opens) host user (Write place from bytes))) (refuse tree)).tree)
    placed (Err why) e = inl (none_flat host tree.filesets r)
    placed (Ok at) e = answered_at at e (slice_get tree.filesets at) refl

-- where nothing was unsaved, a host that writes has just its file to store
pub write_stores : (tree : Tree) (host : HostId) (k : ℕ) (place : Place) (from : ℕ) (bytes : List ℕ) (reply : Reply) → rests tree ≡ true →
    StoresOnce host (written_by tree (Called host k (Write place from bytes) reply)) (own_stores host (answer_to tree host (Write place from bytes)).tree)
unfolding answer_to answer_for
write_stores tree host k place from bytes reply r = for_found (user_of tree.roster host)
  where
    for_found : (found : Option User) → StoresOnce host (due_at tree host place) (own_stores host (for_user tree found (answer_for tree host (Write place from bytes))).tree)
    for_found None = inl (none_flat host tree.filesets r)
    for_found (Some user) = write_row tree host user place from bytes r
