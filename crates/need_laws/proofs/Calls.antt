-- What calls that hosts answer by themselves, and Downs, leave of what is kept.
use Rattle.std.proofs.Common.{Bool, Err, List, None, Ok, Option, Result, Some, ap, false, refl, subst, sym, true, ℕ}
use Rattle.std.proofs.Common.{length, not, ◌+◌, ◌∙◌, ◌≡◌, ◌≢◌}
use Rattle.std.proofs.lemmas.Bool.{false≢true}
use Rattle.std.specs.List.{find}
use Rattle.std.specs.Option.{option_map}
use Rattle.std.specs.Prelude.{if◌then◌else◌, map, slice_get, slice_set, ◌&&◌, ◌==◌}
use Rattle.base_types.specs.Outcomes.{either}
use Rattle.base_types.specs.declared.ids.Fid.{Fid}
use Rattle.base_types.specs.declared.ids.HostId.{HostId}
use Rattle.base_types.specs.declared.user.User.{User}
use Rattle.tree_calls.specs.Rosters.{user_of}
use Rattle.tree_calls.specs.declared.call.Call.{Call}
use Rattle.tree_calls.specs.declared.call.Call.TheVariants.{CloneFileset, CloseFile, Create, GetAcl}
use Rattle.tree_calls.specs.declared.call.Call.TheVariants.{List as ListNames, Lock as LockCall, MakeDir}
use Rattle.tree_calls.specs.declared.call.Call.TheVariants.{MoveFileset, NewFileset, OpenFile, Read, Remove}
use Rattle.tree_calls.specs.declared.call.Call.TheVariants.{Rename, SetAcl, Stat, Sync, Truncate, Unlock}
use Rattle.tree_calls.specs.declared.call.Call.TheVariants.{Write}
use Rattle.tree_calls.specs.declared.reply.Refusal.{Refusal}
use Rattle.tree_calls.specs.declared.reply.Refusal.TheVariants.{NotLocked, NotOpened}
use Rattle.tree_filesets.proofs.Observations.{object_not_zero}
use Rattle.tree_filesets.proofs.Targets.{file_target_ok}
use Rattle.tree_filesets.specs.Answers.{Answered, answered}
use Rattle.tree_filesets.specs.Changing.{sync_answer, write_answer, write_target}
use Rattle.tree_filesets.specs.Rows.{fileset_answer}
use Rattle.tree_filesets.specs.Updates.{changed, updated}
use Rattle.tree_filesets.specs.Walk.{file_target, object_at, unique_at}
use Rattle.tree_filesets.specs.declared.fileset.Fileset.{Fileset}
use Rattle.need_host.proofs.Found.{object_used}
use Rattle.tree_objects.specs.Changes.{anode_changed, content_changed, content_forgotten, content_written}
use Rattle.tree_objects.specs.Stores.{content_synced}
use Rattle.tree_objects.specs.declared.content.Anode.{Anode}
use Rattle.tree_objects.specs.declared.content.Object.{Object}
use Rattle.tree_answers.proofs.Places.{find_at_place, find_put}
use Rattle.tree_answers.specs.Answers.{answer_at, answer_for, answer_to, deciding_place, fileset_row, for_user}
use Rattle.tree_answers.specs.Finding.{Answer, has_id, refuse}
use Rattle.tree_answers.specs.Locks.{has_lock, lock_answer, lock_check, unlock_answer}
use Rattle.tree_answers.specs.Losses.{down_tree, fileset_forgotten}
use Rattle.tree_answers.specs.Opens.{close_answer, has_open, open_answer, open_check}
use Rattle.tree_answers.specs.WellFormed.{IsWellFormed}
use Rattle.tree_answers.specs.declared.tree.Tree.{Tree}
use Rattle.need_server.specs.Kept.{content_settled, kept_fileset}
use Rattle.need_laws.proofs.Contents.{forgotten_kept, kept_always, kept_same, map_alike, map_set, map_twice}
use Rattle.need_laws.proofs.Contents.{seen_changed, synced_kept, written_kept}
use Rattle.need_laws.specs.Keeps.{CallsKeepAll, DownsKeepAll, KeepsAll, is_answered_alone}
use Rattle.tree_laws.specs.Losses.{use_of}
use Rattle.tree_laws.proofs.Steps.{same_number}
use Rattle.tree_laws.specs.Fates.{names_use}
use Rattle.tree_laws.specs.Parts.{Cell, Part, Seen, cell_at, cell_found, cell_in, cell_of, object_in}
use Rattle.tree_laws.specs.Parts.Part.{ByteAt, Size}

module _ (tree : Tree) where
  pub stays : KeepsAll tree tree
  stays = record { roster = refl; servers = refl; away = refl; filesets = refl }

  -- one fileset answers, of which the same is kept then
  row_keeps : (ask : Fileset → Answered)
      → ((fileset : Fileset) → kept_fileset (ask fileset).fileset ≡ kept_fileset fileset) → (found : Result ℕ Refusal)
      → KeepsAll tree
      (either found (λ place. answer_at tree place (slice_get tree.filesets place) ask) (refuse tree)).tree
  row_keeps ask same (Err refusal) = stays
  row_keeps ask same (Ok place) = by (slice_get tree.filesets place) refl
    where
      by : (o : Option Fileset) → slice_get tree.filesets place ≡ o → KeepsAll tree (answer_at tree place o ask).tree
      by None e = stays
      by (Some fileset) e = record {
        roster = refl;
        servers = refl;
        away = refl;
        filesets = map_set kept_fileset tree.filesets place fileset (ask fileset).fileset e (same fileset);
      }

  either_keeps : {A : Type 0} (found : Result A Refusal) (next : A → Answer) → ((x : A) → KeepsAll tree (next x).tree)
      → KeepsAll tree (either found next (refuse tree)).tree
  either_keeps (Ok x) next all = all x
  either_keeps (Err refusal) next all = stays

  if_keeps : (b : Bool) (refusal : Refusal) (answer : Answer) → KeepsAll tree answer.tree
      → KeepsAll tree (if b then refuse tree refusal else answer).tree
  if_keeps true refusal answer k = stays
  if_keeps false refusal answer k = k

  uses_keep : (new : Tree) → new.roster ≡ tree.roster → new.servers ≡ tree.servers → new.away ≡ tree.away
      → new.filesets ≡ tree.filesets → KeepsAll tree new
  uses_keep new roster servers away filesets =
      record { roster = roster; servers = servers; away = away; filesets = ap (map kept_fileset) filesets }

-- a Write
write_same : (fileset : Fileset) (host : HostId) (user : User) (path : List (List ℕ)) (from : ℕ) (bytes : List ℕ)
    → kept_fileset (write_answer fileset host user path from bytes).fileset ≡ kept_fileset fileset
unfolding write_answer
write_same fileset host user path from bytes = go (write_target fileset user path (from + length bytes))
  where
    go : (r : Result ℕ Refusal)
        → kept_fileset (answered fileset r (λ anode. changed fileset anode (content_written host from bytes))).fileset
        ≡ kept_fileset fileset
    go (Err refusal) = refl
    go (Ok anode) = kept_always fileset anode (content_written host from bytes) (written_kept host from bytes)

-- a Sync
module _ (tree : Tree) (formed : IsWellFormed tree) (host : HostId) (user : User) (path : List (List ℕ)) where
  abbrev ask : Fileset → Answered
  ask fileset = sync_answer fileset host user path

  abbrev KeepsParts : Tree → Type 0
  KeepsParts new = (fid : Fid) (part : Part) → (cell_at new fid part).kept ≡ (cell_at tree fid part).kept

  module _ (place : ℕ) (fileset : Fileset) (at : slice_get tree.filesets place ≡ Some fileset) where
    -- the object at an anode is synced
    module _ (anode : ℕ) (object : Object) (there : object_at fileset.anodes anode ≡ Some object) where
      abbrev new : List Fileset
      new = slice_set tree.filesets place (changed fileset anode (content_synced host))

      abbrev fid : Fid
      fid = use_of fileset anode

      place_is : anode ≢ 0
      place_is = object_not_zero fileset.anodes anode object there

      mine : has_id fileset.id fileset ≡ true
      mine = same_number fileset.id.0

      found : find (has_id fid.fileset) new ≡ Some (changed fileset anode (content_synced host))
      unfolding updated
      found =
          find_put fileset.id tree.filesets place fileset (changed fileset anode (content_synced host)) (sym at)
          formed.ordered refl mine

      was : find (has_id fid.fileset) tree.filesets ≡ Some fileset
      was = find_at_place fileset.id tree.filesets place fileset (sym at) formed.ordered mine

      it : object_in fileset fid ≡ Some object
      it = object_used fileset anode ∙ there

      names : names_use fileset anode fid ≡ true
      names =
          ap (λ t. t && (unique_at fileset.anodes anode == unique_at fileset.anodes anode)) (same_number anode)
          ∙ same_number (unique_at fileset.anodes anode)

      shown : KeepsParts (record tree { filesets = new }) → (part : Part)
          → (cell_of fileset.read_only (content_changed (content_synced host) object) part).kept
          ≡ (cell_of fileset.read_only object part).kept
      shown same part =
          ap (λ (c : Cell (Seen part)). c.kept)
          (sym (seen_changed fileset anode (content_synced host) new fid object part found it names place_is))
          ∙ (same fid part
          ∙ (ap (λ (o : Option Fileset). (cell_in o fid part).kept) was
          ∙ ap (λ (o : Option Object). (cell_found fileset.read_only o part).kept) it))

      synced : KeepsParts (record tree { filesets = new })
          → kept_fileset (changed fileset anode (content_synced host)) ≡ kept_fileset fileset
      synced same =
          kept_same fileset anode (content_synced host) place_is (λ o k.
          let one : object ≡ o = (let q : Some object ≡ Some o = sym there ∙ k in cc) in
          subst (λ (x : Object). content_settled (content_synced host x.content) ≡ content_settled x.content) one
          (synced_kept host object.content (shown same Size) (λ q. shown same (ByteAt q))))

    asked : (r : Result (ℕ × Object) Refusal) → file_target fileset user path ≡ r
        → KeepsParts (record tree {
          filesets = slice_set tree.filesets place
              (answered fileset r (λ (anode, object). changed fileset anode (content_synced host))).fileset;
        })
        → kept_fileset (answered fileset r (λ (anode, object). changed fileset anode (content_synced host))).fileset
        ≡ kept_fileset fileset
    asked (Err refusal) e same = refl
    asked (Ok found) e same = synced found.0 found.1 (file_target_ok fileset user path found e).there same

    sync_same : KeepsParts (record tree { filesets = slice_set tree.filesets place (ask fileset).fileset })
        → kept_fileset (ask fileset).fileset ≡ kept_fileset fileset
    unfolding sync_answer
    sync_same same = asked (file_target fileset user path) refl same

  sync_keeps : (found : Result ℕ Refusal)
      → KeepsParts (either found (λ place. answer_at tree place (slice_get tree.filesets place) ask) (refuse tree)).tree
      → KeepsAll tree
      (either found (λ place. answer_at tree place (slice_get tree.filesets place) ask) (refuse tree)).tree
  sync_keeps (Err refusal) same = stays tree
  sync_keeps (Ok place) same = by (slice_get tree.filesets place) refl same
    where
      by : (o : Option Fileset) → slice_get tree.filesets place ≡ o → KeepsParts (answer_at tree place o ask).tree
          → KeepsAll tree (answer_at tree place o ask).tree
      by None e same = stays tree
      by (Some fileset) e same = record {
        roster = refl;
        servers = refl;
        away = refl;
        filesets = map_set kept_fileset tree.filesets place fileset (ask fileset).fileset e
            (sync_same place fileset e same);
      }

-- a call of a user
module _ (tree : Tree) (formed : IsWellFormed tree) (host : HostId) (user : User) where
  for_kept : (call : Call) → is_answered_alone call ≡ true
      → ((fid : Fid) (part : Part) → (cell_at (answer_for tree host call user).tree fid part).kept
      ≡ (cell_at tree fid part).kept)
      → KeepsAll tree (answer_for tree host call user).tree
  unfolding answer_for fileset_row fileset_answer lock_answer open_answer unlock_answer close_answer
  for_kept (Read place from len) e same = row_keeps tree _ (λ fileset. refl) _
  for_kept (Write place from bytes) e same =
      row_keeps tree _ (λ fileset. write_same fileset host user place.path from bytes) _
  for_kept (ListNames place) e same = row_keeps tree _ (λ fileset. refl) _
  for_kept (Stat place) e same = row_keeps tree _ (λ fileset. refl) _
  for_kept (GetAcl place which) e same = row_keeps tree _ (λ fileset. refl) _
  for_kept (Sync place) e same = sync_keeps tree formed host user place.path (deciding_place tree (Sync place)) same
  for_kept (LockCall label place writing from len) e same =
      either_keeps tree (lock_check tree host user label place writing from len) _
      (λ found. uses_keep tree _ refl refl refl refl)
  for_kept (OpenFile label place kind) e same =
      either_keeps tree (open_check tree host user label place kind) _ (λ found. uses_keep tree _ refl refl refl refl)
  for_kept (Unlock label) e same =
      if_keeps tree (not (has_lock tree.locks host label)) NotLocked _ (uses_keep tree _ refl refl refl refl)
  for_kept (CloseFile label) e same =
      if_keeps tree (not (has_open tree.opens host label)) NotOpened _ (uses_keep tree _ refl refl refl refl)
  for_kept (NewFileset server name objects owner) e same = absurd (false≢true e)
  for_kept (CloneFileset server source name) e same = absurd (false≢true e)
  for_kept (MoveFileset server name to) e same = absurd (false≢true e)
  for_kept (Create place) e same = absurd (false≢true e)
  for_kept (MakeDir place) e same = absurd (false≢true e)
  for_kept (Remove place) e same = absurd (false≢true e)
  for_kept (Rename from to) e same = absurd (false≢true e)
  for_kept (Truncate place len) e same = absurd (false≢true e)
  for_kept (SetAcl place which list) e same = absurd (false≢true e)

pub calls_keep_all : CallsKeepAll
unfolding answer_to
calls_keep_all tree host call formed e same = go (user_of tree.roster host) same
  where
    go : (o : Option User)
        → ((fid : Fid) (part : Part) → (cell_at (for_user tree o (answer_for tree host call)).tree fid part).kept
        ≡ (cell_at tree fid part).kept)
        → KeepsAll tree (for_user tree o (answer_for tree host call)).tree
    go None same = stays tree
    go (Some user) same = for_kept tree formed host user call e same

-- a Down
forgotten_object : (host : HostId) (unique : ℕ) (o : Option Object)
    → (let a : Anode = record {
      unique = unique;
      object = option_map (content_changed content_settled) (option_map (content_changed (content_forgotten host)) o);
    } in a)
    ≡ (let a : Anode = record { unique = unique; object = option_map (content_changed content_settled) o } in a)
forgotten_object host unique None = refl
forgotten_object host unique (Some object) =
    ap (λ content. let a : Anode = record { unique = unique; object = Some (record object { content = content }) } in a)
    (forgotten_kept host object.content)

forgotten_fileset : (host : HostId) (fileset : Fileset)
    → kept_fileset (fileset_forgotten host fileset) ≡ kept_fileset fileset
forgotten_fileset host fileset =
    ap (λ anodes. record fileset { anodes = anodes })
    (map_twice (anode_changed content_settled) (anode_changed (content_forgotten host)) fileset.anodes
    ∙ map_alike (λ a. anode_changed content_settled (anode_changed (content_forgotten host) a))
    (anode_changed content_settled) fileset.anodes (λ a. forgotten_object host a.unique a.object))

pub downs_keep_all : DownsKeepAll
unfolding down_tree
downs_keep_all tree host server = record {
  roster = refl;
  servers = refl;
  away = refl;
  filesets = map_twice kept_fileset
      (λ fileset. if fileset.server.0 == server.0 then fileset_forgotten host fileset else fileset) tree.filesets
      ∙ map_alike
      (λ fileset. kept_fileset (if fileset.server.0 == server.0 then fileset_forgotten host fileset else fileset))
      kept_fileset tree.filesets (λ fileset. each (fileset.server.0 == server.0) fileset);
}
  where
    each : (b : Bool) (fileset : Fileset)
        → kept_fileset (if b then fileset_forgotten host fileset else fileset) ≡ kept_fileset fileset
    each true fileset = forgotten_fileset host fileset
    each false fileset = refl
