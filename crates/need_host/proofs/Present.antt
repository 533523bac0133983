-- What entries leave of what readers see, and what a server keeps.
use Rattle.std.proofs.Common.{◌≡◌, ◌≤◌, ℕ, nat_lt, Bool, true, false, ◌&&◌, [], ◌∷◌, length, Option, Some, None, Result, Ok, Err, refl, sym, ap, ◌∙◌, rules, arith}
use Rattle.std.specs.Prelude.{slice_get, unwrap_or, if◌then◌else◌}
use Rattle.std.specs.List.{find}
use Rattle.std.specs.Option.{option_map}
use Rattle.std.proofs.lemmas.Grind.{common_steps}
use Rattle.base_types.specs.Outcomes.{and_then, either}
use Rattle.base_types.specs.declared.ids.HostId.{HostId}
use Rattle.base_types.specs.declared.ids.Fid.{Fid}
use Rattle.base_types.specs.declared.user.User.{User}
use Rattle.tree_calls.specs.declared.call.Call.{Call as CallOf}
use Rattle.tree_calls.specs.declared.call.Call.TheVariants.{NewFileset, Create, MakeDir, Remove, Rename, Truncate, SetAcl, CloneFileset, MoveFileset, Read, Write, List as ListNames, Stat, GetAcl, Sync, Lock, Unlock, OpenFile, CloseFile}
use Rattle.tree_calls.specs.declared.reply.Refusal.{Refusal}
use Rattle.tree_calls.specs.Rosters.{user_of}
use Rattle.tree_objects.specs.declared.content.Content.{Content}
use Rattle.tree_objects.specs.declared.content.Content.TheVariants.{Dir, File}
use Rattle.tree_objects.specs.declared.content.Object.{Object}
use Rattle.tree_objects.specs.Spans.{whole}
use Rattle.tree_objects.proofs.Observed.{get_past}
use Rattle.tree_filesets.specs.declared.fileset.Fileset.{Fileset}
use Rattle.tree_filesets.specs.Walk.{file_target}
use Rattle.tree_answers.specs.declared.tree.Tree.{Tree}
use Rattle.tree_answers.specs.Answers.{deciding_place}
use Rattle.tree_answers.specs.Finding.{has_id}
use Rattle.tree_answers.specs.Uses.{is_used}
use Rattle.tree_laws.specs.Parts.Part.{ByteAt, Size, Traits, Entries}
use Rattle.tree_laws.specs.Fates.{Cells, is_of, byte_stored, size_stored, own_size, after_fate, names_use, if_reached, fate_row, fate_at, fate_for}
use Rattle.tree_laws.specs.Fates.Fate.{Stays, IsSynced}
use Rattle.need_host.specs.Present.{changes_nothing, AnswersLeaveAll, SyncsOfNothing}
use Rattle.tree_laws.proofs.TreeFates.{fates_call}
use Rattle.tree_laws.proofs.Steps.{no_file}
use Rattle.tree_laws.specs.Parts.{Part, Cell, Written, present, settled, byte_cell, size_cell, cell_found, cell_in, cell_at, object_in}

-- a fate that is none either way
stays_place : (tree : Tree) (host : HostId) (user : User) (call : CallOf) (fid : Fid) (cells : Cells) (part : Part) (found : Result ℕ Refusal) →
    ((fileset : Fileset) → after_fate (fate_row fileset (is_used tree.locks tree.opens) host user call fid) cells part ≡ cells part) →
    after_fate (either found (λ place. fate_at tree host user call fid (slice_get tree.filesets place)) (λ refusal. Stays)) cells part ≡ cells part
stays_place tree host user call fid cells part (Err refusal) same = refl
stays_place tree host user call fid cells part (Ok place) same = by_found (slice_get tree.filesets place)
  where
    by_found : (o : Option Fileset) → after_fate (fate_at tree host user call fid o) cells part ≡ cells part
    by_found None = refl
    by_found (Some fileset) = by_test (has_id fid.fileset fileset)
      where
        by_test : (b : Bool) → after_fate (if b then fate_row fileset (is_used tree.locks tree.opens) host user call fid else Stays) cells part ≡ cells part
        by_test true = same fileset
        by_test false = refl

leaves_for : (tree : Tree) (host : HostId) (call : CallOf) (fid : Fid) (part : Part) (user : User) → changes_nothing call ≡ true → after_fate (fate_for tree host call fid (Some user)) (cell_at tree fid) part ≡ cell_at tree fid part
leaves_for tree host (Read place from len) fid part user h = stays_place tree host user (Read place from len) fid (cell_at tree fid) part (deciding_place tree (Read place from len)) (λ fileset. refl)
leaves_for tree host (ListNames place) fid part user h = stays_place tree host user (ListNames place) fid (cell_at tree fid) part (deciding_place tree (ListNames place)) (λ fileset. refl)
leaves_for tree host (Stat place) fid part user h = stays_place tree host user (Stat place) fid (cell_at tree fid) part (deciding_place tree (Stat place)) (λ fileset. refl)
leaves_for tree host (GetAcl place which) fid part user h = stays_place tree host user (GetAcl place which) fid (cell_at tree fid) part (deciding_place tree (GetAcl place which)) (λ fileset. refl)
leaves_for tree host (Lock label place writing from len) fid part user h = refl
leaves_for tree host (Unlock label) fid part user h = refl
leaves_for tree host (OpenFile label place kind) fid part user h = refl
leaves_for tree host (CloseFile label) fid part user h = refl
leaves_for tree host (Create place) fid part user h = no_file h
leaves_for tree host (MakeDir place) fid part user h = no_file h
leaves_for tree host (Remove place) fid part user h = no_file h
leaves_for tree host (Rename from to) fid part user h = no_file h
leaves_for tree host (Truncate place len) fid part user h = no_file h
leaves_for tree host (SetAcl place which list) fid part user h = no_file h
leaves_for tree host (Write place from bytes) fid part user h = no_file h
leaves_for tree host (Sync place) fid part user h = no_file h
leaves_for tree host (NewFileset server name objects owner) fid part user h = no_file h
leaves_for tree host (CloneFileset server source new) fid part user h = no_file h
leaves_for tree host (MoveFileset server name to) fid part user h = no_file h

pub answers_leave_all : AnswersLeaveAll
answers_leave_all tree host call fid part w h = fates_call tree host call fid part w ∙ by_user (user_of tree.roster host)
  where
    by_user : (found : Option User) → after_fate (fate_for tree host call fid found) (cell_at tree fid) part ≡ cell_at tree fid part
    by_user None = refl
    by_user (Some user) = leaves_for tree host call fid part user h

-- kept bytes behind the kept size are zero
zero_content : (content : Content) (at : ℕ) → nat_lt at (size_cell content).kept ≡ false → (byte_cell content at).kept ≡ 0
zero_content (Dir entries lists) at h = refl
zero_content (File list kept unsaved len) at h = let past : length kept ≤ at = grind (arith, common_steps, h) in get_past kept at past

zero_behind : (read_only : Bool) (o : Option Object) (at : ℕ) → nat_lt at (cell_found read_only o Size).kept ≡ false → (cell_found read_only o (ByteAt at)).kept ≡ 0
zero_behind read_only None at h = refl
zero_behind read_only (Some object) at h = zero_content object.content at h

zero_in : (o : Option Fileset) (fid : Fid) (at : ℕ) → nat_lt at (cell_in o fid Size).kept ≡ false → (cell_in o fid (ByteAt at)).kept ≡ 0
zero_in None fid at h = refl
zero_in (Some fileset) fid at h = zero_behind fileset.read_only (object_in fileset fid) at h

cut_kept : (kept : ℕ) (unsaved : Option (Written ℕ)) (b : Bool) → (b ≡ false → kept ≡ 0) →
    (let new : Cell ℕ = record { kept = if b then kept else 0; unsaved = unsaved } in new) ≡ (let old : Cell ℕ = record { kept = kept; unsaved = unsaved } in old)
cut_kept kept unsaved true none = refl
cut_kept kept unsaved false none = ap (λ n. let new : Cell ℕ = record { kept = n; unsaved = unsaved } in new) (sym (none refl))

-- a byte of which nothing is the host's
not_of : (cell : Cell ℕ) (own b c : Bool) (end at : ℕ) → own ≡ false → (nat_lt at end ≡ false → cell.kept ≡ 0) →
    (if own && b && c then settled (present cell) else (let new : Cell ℕ = record cell { kept = if nat_lt at end then cell.kept else 0 } in new)) ≡ cell
not_of cell true b c end at e none = absurd (search (rules, e))
not_of cell false b c end at e none = cut_kept cell.kept cell.unsaved (nat_lt at end) none

own_none : (host : HostId) (cell : Cell ℕ) → is_of host cell.unsaved ≡ false → own_size host cell ≡ None
own_none host cell h = ap (λ t. if t then option_map (λ written. written.value) cell.unsaved else None) h

pub synced_part : (tree : Tree) (host : HostId) (fid : Fid) (part : Part) → ((part : Part) → is_of host (cell_at tree fid part).unsaved ≡ false) → after_fate (IsSynced host) (cell_at tree fid) part ≡ cell_at tree fid part
synced_part tree host fid (ByteAt at) none =
    ap (λ o. byte_stored host (whole ∷ []) (unwrap_or o (cell_at tree fid Size).kept) at (cell_at tree fid (ByteAt at))) (own_none host (cell_at tree fid Size) (none Size))
    ∙ not_of (cell_at tree fid (ByteAt at)) (is_of host (cell_at tree fid (ByteAt at)).unsaved) _ _ (cell_at tree fid Size).kept at (none (ByteAt at)) (zero_in (find (has_id fid.fileset) tree.filesets) fid at)
synced_part tree host fid Size none = ap (λ o. size_stored o (cell_at tree fid Size)) (own_none host (cell_at tree fid Size) (none Size))
synced_part tree host fid Traits none = refl
synced_part tree host fid Entries none = refl

synced_reached : (tree : Tree) (host : HostId) (fileset : Fileset) (fid : Fid) (part : Part) (checks : Result ℕ Refusal) → ((part : Part) → is_of host (cell_at tree fid part).unsaved ≡ false) →
    after_fate (if_reached fileset fid (IsSynced host) checks) (cell_at tree fid) part ≡ cell_at tree fid part
synced_reached tree host fileset fid part (Err refusal) none = refl
synced_reached tree host fileset fid part (Ok anode) none = by_test (names_use fileset anode fid)
  where
    by_test : (b : Bool) → after_fate (if b then IsSynced host else Stays) (cell_at tree fid) part ≡ cell_at tree fid part
    by_test true = synced_part tree host fid part none
    by_test false = refl

pub syncs_of_nothing : SyncsOfNothing
syncs_of_nothing tree host place fid part w none = fates_call tree host (Sync place) fid part w ∙ by_user (user_of tree.roster host)
  where
    by_user : (found : Option User) → after_fate (fate_for tree host (Sync place) fid found) (cell_at tree fid) part ≡ cell_at tree fid part
    by_user None = refl
    by_user (Some user) = stays_place tree host user (Sync place) fid (cell_at tree fid) part (deciding_place tree (Sync place))
        (λ fileset. synced_reached tree host fileset fid part (and_then (file_target fileset user place.path) (λ (anode, object). Ok anode)) none)
