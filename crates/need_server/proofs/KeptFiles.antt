-- What is kept answers a Truncate as the tree does, where nothing of the file is unsaved.
use Rattle.std.proofs.Common.{◌≡◌, ◌≢◌, ℕ, zero, suc, ◌-◌, ◌==◌, nat_lt, Bool, true, false, ◌&&◌, ◌||◌, not, cond, List, [], ◌∷◌, length, Option, Some, None, Ok, refl, sym, ap, ◌∙◌, subst, rules, arith}
use Rattle.std.specs.Prelude.{slice_get, map}
use Rattle.std.specs.List.{find, prefix_len, list_any}
use Rattle.std.specs.Option.{option_map, option_and_then}
use Rattle.std.proofs.lemmas.Grind.{common_steps}
use Rattle.base_types.specs.Ids.{same_fid}
use Rattle.base_types.specs.Lists.{changed_at}
use Rattle.base_types.specs.Outcomes.{and_then, either}
use Rattle.base_types.specs.Spans.{has_byte}
use Rattle.base_types.specs.declared.ids.HostId.{HostId}
use Rattle.base_types.specs.declared.ids.Fid.{Fid}
use Rattle.base_types.specs.declared.ids.ServerId.{ServerId}
use Rattle.base_types.specs.declared.limits.TheConstants.{FILE_BYTES_MAX}
use Rattle.base_types.specs.declared.user.User.{User}
use Rattle.tree_calls.specs.declared.call.Call.TheVariants.{Truncate}
use Rattle.tree_calls.specs.declared.place.Place.{Place}
use Rattle.tree_calls.specs.declared.reply.Refusal.TheVariants.{NoFileset, IsDir, ReadOnly, TooBig}
use Rattle.tree_objects.specs.declared.content.Content.{Content}
use Rattle.tree_objects.specs.declared.content.Content.TheVariants.{Dir, File}
use Rattle.tree_objects.specs.declared.content.Object.{Object}
use Rattle.tree_objects.specs.declared.content.Anode.{Anode}
use Rattle.tree_objects.specs.declared.content.Unsaved.{Unsaved}
use Rattle.tree_objects.specs.declared.content.UnsavedLength.{UnsavedLength}
use Rattle.tree_objects.specs.Changes.{content_changed, anode_changed, content_truncated}
use Rattle.tree_objects.specs.Files.{unsaved_at}
use Rattle.tree_objects.specs.Objects.{is_dir}
use Rattle.tree_objects.specs.Sound.{is_sound}
use Rattle.tree_objects.specs.Spans.{whole}
use Rattle.tree_objects.proofs.Observed.{and_left}
use Rattle.tree_objects.proofs.StaysSound.{sound_places}
use Rattle.tree_filesets.specs.declared.fileset.Fileset.{Fileset}
use Rattle.tree_filesets.specs.Changing.{write_target, truncate_answer}
use Rattle.tree_filesets.specs.Checks.{unless, permission}
use Rattle.tree_filesets.specs.Rights.{write_right}
use Rattle.tree_filesets.specs.Rows.{fileset_answer}
use Rattle.tree_filesets.specs.Updates.{updated, changed}
use Rattle.tree_filesets.specs.Walk.{object_at, target, file_target, permitted_file}
use Rattle.tree_filesets.specs.WellFormed.{IsWellFormed as IsWellFormedFileset}
use Rattle.tree_filesets.proofs.Observations.{object_from, object_not_zero}
use Rattle.tree_filesets.proofs.Targets.{write_target_ok}
use Rattle.tree_answers.specs.declared.tree.Tree.{Tree}
use Rattle.tree_answers.specs.Finding.{refuse, found_or, has_id, leads_to, fileset_place, fileset_named}
use Rattle.tree_answers.specs.Answers.{answer_at, fileset_row, answer_for}
use Rattle.tree_answers.specs.Uses.{is_used}
use Rattle.tree_answers.specs.WellFormed.{IsWellFormed}
use Rattle.tree_answers.proofs.Followed.{same_fid_itself}
use Rattle.tree_answers.proofs.Places.{found_by_id}
use Rattle.tree_answers.proofs.Places.{place_found}
use Rattle.token_types.specs.declared.token.Need.{Need}
use Rattle.tree_laws.specs.Parts.Part.{ByteAt, Size}
use Rattle.need_host.proofs.Found.{object_used}
use Rattle.tree_laws.proofs.Steps.{same_number, formed_found, then_same, then_then, unless_then}
use Rattle.need_host.specs.Shows.{shows, needs_show}
use Rattle.need_server.specs.Wants.{want_for, want_in, want}
use Rattle.need_server.proofs.Kept.{kept_answered, then_first, settled_object, same_permit, kept_target, kept_row, row_first}
use Rattle.need_server.proofs.KeptTree.{same_place, kept_place}
use Rattle.tree_laws.specs.Losses.{use_of}
use Rattle.tree_laws.specs.Parts.{Part, written_byte, written_length, byte_cell, size_cell, cell_of, cell_found, cell_in, cell_at}
use Rattle.need_server.specs.Kept.{content_settled, kept_fileset, kept_tree, kept_answer}
use Rattle.need_server.specs.Wants.{all_of}
use Rattle.need_server.specs.Laws.{NothingUnsaved}

-- a content of whose parts nothing is unsaved
no_length : (o : Option UnsavedLength) → option_map written_length o ≡ None → o ≡ None
no_length None h = refl
no_length (Some len) h = absurd (search (rules, h))

no_byte : {A : Type 0} (b : Bool) (byte : Unsaved) (rest : Option Unsaved) → b ≡ true → option_map written_byte (cond b (Some byte) rest) ≡ None → A
no_byte true byte rest e h = absurd (search (rules, h))
no_byte false byte rest e h = absurd (search (rules, e))

pub settled_by : (content : Content) → is_sound content ≡ true → (size_cell content).unsaved ≡ None → ((at : ℕ) → nat_lt at FILE_BYTES_MAX ≡ true → (byte_cell content at).unsaved ≡ None) → content_settled content ≡ content
settled_by (Dir entries lists) sound size bytes = refl
settled_by (File list kept [] len) sound size bytes = ap (λ o. File list kept [] o) (sym (no_length len size))
settled_by (File list kept (byte ∷ rest) len) sound size bytes =
    no_byte (byte.at == byte.at) byte (unsaved_at rest byte.at) (same_number byte.at) (bytes byte.at (and_left _ _ (sound_places list kept (byte ∷ rest) len sound)))

-- what is seen of a present use
pub cell_shows : (tree : Tree) (fileset : Fileset) (at : ℕ) (object : Object) (part : Part) → find (has_id fileset.id) tree.filesets ≡ Some fileset → object_at fileset.anodes at ≡ Some object →
    cell_at tree (use_of fileset at) part ≡ cell_of fileset.read_only object part
cell_shows tree fileset at object part found there =
    ap (λ o. cell_in o (use_of fileset at) part) found ∙ ap (λ o. cell_found fileset.read_only o part) (object_used fileset at ∙ there)

-- the status and all bytes
all_size : (update : Bool) (fid : Fid) (rest : List Need) → (list_any (λ need. same_fid need.fid fid && shows need.kind Size) (all_of update fid)) ≡ true
all_size update fid rest = ap (λ t. (t && true) || ((t && false) || false)) (same_fid_itself fid)

all_byte : (update : Bool) (fid : Fid) (at : ℕ) → nat_lt at FILE_BYTES_MAX ≡ true → needs_show (all_of update fid) fid (ByteAt at) ≡ true
all_byte update fid at h =
    let inside : has_byte whole at ≡ true = grind (arith, common_steps, h) in
    ap (λ t. (t && false) || ((t && has_byte whole at) || false)) (same_fid_itself fid) ∙ ap (λ t. t || false) inside

pub settled_under : (tree : Tree) (fileset : Fileset) (update : Bool) (at : ℕ) (object : Object) → find (has_id fileset.id) tree.filesets ≡ Some fileset → object_at fileset.anodes at ≡ Some object → is_sound object.content ≡ true →
    NothingUnsaved tree (all_of update (use_of fileset at)) → content_settled object.content ≡ object.content
settled_under tree fileset update at object found there sound nothing =
    let fid = use_of fileset at in
    settled_by object.content sound
    (ap (λ cell. cell.unsaved) (sym (cell_shows tree fileset at object Size found there)) ∙ nothing fid Size (all_size update fid []))
    (λ byte h. ap (λ cell. cell.unsaved) (sym (cell_shows tree fileset at object (ByteAt byte) found there)) ∙ nothing fid (ByteAt byte) (all_byte update fid byte h))

-- files
pub kept_file : (fileset : Fileset) (user : User) (path : List (List ℕ)) → file_target (kept_fileset fileset) user path ≡ and_then (file_target fileset user path) (λ found. Ok (found.0, settled_object found.1))
unfolding file_target
kept_file fileset user path =
    then_first (target (kept_fileset fileset) user path) _ _ (kept_target fileset user path)
    ∙ then_then (target fileset user path) (λ found. Ok (found.0, settled_object found.1)) _
    ∙ then_same (target fileset user path) _ (λ found. and_then (unless (is_dir found.1.content) IsDir (Ok found)) (λ found. Ok (found.0, settled_object found.1)))
    (λ found h. ap (λ t. unless t IsDir (Ok (found.0, settled_object found.1))) (same_dir found.1.content) ∙ sym (unless_then (is_dir found.1.content) IsDir (Ok found) (λ found. Ok (found.0, settled_object found.1))))
    ∙ sym (then_then (target fileset user path) (λ found. unless (is_dir found.1.content) IsDir (Ok found)) (λ found. Ok (found.0, settled_object found.1)))
  where
    same_dir : (content : Content) → is_dir (content_settled content) ≡ is_dir content
    same_dir (Dir entries lists) = refl
    same_dir (File list kept unsaved len) = refl

pub kept_permitted : (fileset : Fileset) (user : User) (path : List (List ℕ)) (right : ℕ) → permitted_file (kept_fileset fileset) user path right ≡ and_then (permitted_file fileset user path right) (λ found. Ok (found.0, settled_object found.1))
unfolding permitted_file
kept_permitted fileset user path right =
    then_first (file_target (kept_fileset fileset) user path) _ _ (kept_file fileset user path)
    ∙ then_then (file_target fileset user path) (λ found. Ok (found.0, settled_object found.1)) _
    ∙ then_same (file_target fileset user path) _ (λ found. and_then (and_then (permission found.1 user right) (λ _. Ok found)) (λ found. Ok (found.0, settled_object found.1)))
    (λ found h. ap (λ may. and_then may (λ _. Ok (found.0, settled_object found.1))) (same_permit found.1 user right) ∙ sym (then_then (permission found.1 user right) (λ _. Ok found) (λ found. Ok (found.0, settled_object found.1))))
    ∙ sym (then_then (file_target fileset user path) (λ found. and_then (permission found.1 user right) (λ _. Ok found)) (λ found. Ok (found.0, settled_object found.1)))

pub kept_write : (fileset : Fileset) (user : User) (path : List (List ℕ)) (end : ℕ) → write_target (kept_fileset fileset) user path end ≡ write_target fileset user path end
unfolding write_target
kept_write fileset user path end =
    ap (λ next. unless fileset.read_only ReadOnly next)
    (then_first (permitted_file (kept_fileset fileset) user path write_right) _ _ (kept_permitted fileset user path write_right)
    ∙ then_then (permitted_file fileset user path write_right) (λ found. Ok (found.0, settled_object found.1)) (λ (anode, object). unless (nat_lt FILE_BYTES_MAX end) TooBig (Ok anode)))

-- lists in which one element is changed
map_changed_at : {X Y : Type 0} (g : X → Y) (f : X → X) (h : Y → Y) (xs : List X) (i : ℕ) → ((x : X) → slice_get xs i ≡ Some x → g (f x) ≡ h (g x)) → map g (changed_at xs i f) ≡ changed_at (map g xs) i h
map_changed_at g f h [] i same = refl
map_changed_at g f h (x ∷ xs) zero same = ap (λ y. y ∷ map g xs) (same x refl)
map_changed_at g f h (x ∷ xs) (suc i) same = ap (λ ys. g x ∷ ys) (map_changed_at g f h xs i same)

cut_settled : (len : ℕ) (content : Content) → content_settled content ≡ content → content_settled (content_truncated len content) ≡ content_truncated len (content_settled content)
cut_settled len (Dir entries lists) h = refl
cut_settled len (File list kept unsaved unsaved_len) h = ap (λ content. content_truncated len content) (sym h)

cut_anode : (len : ℕ) (unique : ℕ) (o : Option Object) → ((object : Object) → o ≡ Some object → content_settled object.content ≡ object.content) →
    (let a : Anode = record { unique = unique; object = option_map settled_object (option_map (content_changed (content_truncated len)) o) } in a)
    ≡ (let a : Anode = record { unique = unique; object = option_map (content_changed (content_truncated len)) (option_map settled_object o) } in a)
cut_anode len unique None same = refl
cut_anode len unique (Some object) same = ap (λ content. let a : Anode = record { unique = unique; object = Some (record object { content = content }) } in a) (cut_settled len object.content (same object refl))

kept_cut : (fileset : Fileset) (anode len : ℕ) → anode ≢ 0 → ((object : Object) → object_at fileset.anodes anode ≡ Some object → content_settled object.content ≡ object.content) →
    kept_fileset (changed fileset anode (content_truncated len)) ≡ changed (kept_fileset fileset) anode (content_truncated len)
unfolding updated
kept_cut fileset anode len place settled =
    ap (λ anodes. record fileset { anodes = anodes })
    (map_changed_at (anode_changed content_settled) (anode_changed (content_truncated len)) (anode_changed (content_truncated len)) fileset.anodes (anode - 1)
    (λ a h. cut_anode len a.unique a.object (λ object k. settled object (object_from fileset.anodes anode place ∙ ap (λ o. option_and_then (λ a. a.object) o) h ∙ k))))

row_truncated : (tree : Tree) (fileset : Fileset) (host : HostId) (user : User) (place : Place) (len : ℕ) → find (has_id fileset.id) tree.filesets ≡ Some fileset → IsWellFormedFileset fileset → NothingUnsaved tree (want_in fileset user (Truncate place len)) →
    fileset_answer (kept_fileset fileset) (is_used tree.locks tree.opens) host user (Truncate place len) ≡ kept_answered (fileset_answer fileset (is_used tree.locks tree.opens) host user (Truncate place len))
unfolding fileset_answer truncate_answer want_in
row_truncated tree fileset host user place len found formed nothing =
    row_first (kept_fileset fileset) _ _ _ (kept_write fileset user place.path len)
    ∙ kept_row fileset (write_target fileset user place.path len) _ _ (λ anode h.
    let reached = write_target_ok fileset user place.path len anode h in
    let under : NothingUnsaved tree (all_of true (use_of fileset anode)) =
    subst (λ checks. NothingUnsaved tree (want_for checks (λ anode. all_of true (use_of fileset anode)))) h nothing in
    sym (kept_cut fileset anode len (object_not_zero fileset.anodes anode reached.object reached.there)
    (λ object there. settled_under tree fileset true anode object found there (formed.sound anode object there) under)))

-- the fileset at the place of a name
pub named_at : (tree : Tree) (server : ServerId) (name : List ℕ) (place : ℕ) (fileset : Fileset) → fileset_place tree server name ≡ Ok place → slice_get tree.filesets place ≡ Some fileset → find (leads_to tree server name) tree.filesets ≡ Some fileset
unfolding fileset_place
named_at tree server name place fileset h k = by_test (nat_lt (prefix_len (λ x. not (leads_to tree server name x)) tree.filesets) (length tree.filesets)) h
  where
    by_test : (b : Bool) → found_or (cond b (Some (prefix_len (λ x. not (leads_to tree server name x)) tree.filesets)) None) NoFileset ≡ Ok place → find (leads_to tree server name) tree.filesets ≡ Some fileset
    by_test true e = let same : prefix_len (λ x. not (leads_to tree server name x)) tree.filesets ≡ place = cc in place_found (leads_to tree server name) tree.filesets ∙ ap (λ i. slice_get tree.filesets i) same ∙ k
    by_test false e = absurd (search (rules, e))

pub kept_truncate : (tree : Tree) (host : HostId) (user : User) (place : Place) (len : ℕ) → IsWellFormed tree → NothingUnsaved tree (want tree user (Truncate place len)) →
    answer_for (kept_tree tree) host (Truncate place len) user ≡ kept_answer (answer_for tree host (Truncate place len) user)
unfolding answer_for fileset_row want fileset_named
kept_truncate tree host user place len formed nothing =
    let ask = λ (fileset : Fileset). fileset_answer fileset (is_used tree.locks tree.opens) host user (Truncate place len) in
    ap (λ found. either found (λ at. answer_at (kept_tree tree) at (slice_get (map kept_fileset tree.filesets) at) ask) (refuse (kept_tree tree))) (same_place tree place.server place.fileset)
    ∙ kept_place tree (fileset_place tree place.server place.fileset) ask (λ at fileset h k.
    let found = named_at tree place.server place.fileset at fileset h k in
    let under = subst (λ o. NothingUnsaved tree (want_for (found_or o NoFileset) (λ fileset. want_in fileset user (Truncate place len)))) found nothing in
    row_truncated tree fileset host user place len (found_by_id (leads_to tree place.server place.fileset) tree.filesets fileset found formed.ordered)
    (formed_found (leads_to tree place.server place.fileset) tree.filesets fileset formed.filesets found) under)
