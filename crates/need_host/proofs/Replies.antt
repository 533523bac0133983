-- The look of a call over a tree ends in the reply of the tree.
use Rattle.std.proofs.Common.{◌≡◌, ℕ, ◌+◌, ◌==◌, nat_lt, nat_le, Bool, true, false, ◌&&◌, ◌||◌, not, cond, List, [], ◌∷◌, length, filter, Option, Some, None, Result, Ok, Err, refl, sym, ap, ◌∙◌, subst}
use Rattle.std.specs.Prelude.{slice_get, if◌then◌else◌}
use Rattle.std.specs.List.{list_any, count_by}
use Rattle.std.proofs.lemmas.List.Sums.{length-filter}
use Rattle.base_types.specs.Name.{same_name}
use Rattle.base_types.specs.Outcomes.{and_then, either}
use Rattle.base_types.specs.declared.ids.HostId.{HostId}
use Rattle.base_types.specs.declared.ids.ServerId.{ServerId}
use Rattle.base_types.specs.declared.ids.FilesetId.{FilesetId}
use Rattle.base_types.specs.declared.ids.Fid.{Fid}
use Rattle.base_types.specs.declared.ids.OpenKind.{OpenKind}
use Rattle.base_types.specs.declared.limits.TheConstants.{FILE_BYTES_MAX, LABELS_MAX}
use Rattle.base_types.specs.declared.span.Span.{Span}
use Rattle.base_types.specs.declared.user.User.{User}
use Rattle.tree_calls.specs.declared.call.Call.{Call}
use Rattle.tree_calls.specs.declared.call.Call.TheVariants.{NewFileset, Create, MakeDir, Remove, Rename, Truncate, SetAcl, CloneFileset, MoveFileset, Read, Write, List as ListNames, Stat, GetAcl, Sync, Lock, Unlock, OpenFile, CloseFile}
use Rattle.tree_calls.specs.declared.place.Place.{Place}
use Rattle.tree_calls.specs.declared.reply.Refusal.{Refusal}
use Rattle.tree_calls.specs.declared.reply.Refusal.TheVariants.{NoFileset, TooBig, TooMany, AlreadyLocked, Locked, NotLocked, AlreadyOpened, NotOpened, OpenConflict}
use Rattle.tree_calls.specs.declared.reply.Reply.{Reply}
use Rattle.tree_calls.specs.declared.reply.Reply.TheVariants.{Ok as Done, Refused}
use Rattle.tree_objects.specs.declared.content.Object.{Object}
use Rattle.tree_objects.specs.Spans.{span_between}
use Rattle.tree_filesets.specs.declared.fileset.Fileset.{Fileset}
use Rattle.tree_filesets.specs.Answers.{Answered, answered}
use Rattle.tree_filesets.specs.Changing.{write_target, write_answer, sync_answer}
use Rattle.tree_filesets.specs.Checks.{unless}
use Rattle.tree_filesets.specs.Rows.{fileset_answer}
use Rattle.tree_filesets.specs.Telling.{read_reply, list_reply, stat_reply, access_reply}
use Rattle.tree_filesets.specs.Uses.{lock_target, open_target}
use Rattle.tree_filesets.specs.Walk.{file_target}
use Rattle.tree_answers.specs.declared.tree.Tree.{Tree}
use Rattle.tree_answers.specs.declared.tree.LockUse.{LockUse}
use Rattle.tree_answers.specs.Finding.{Answer, refuse, found_or, fileset_place, fileset_named}
use Rattle.tree_answers.specs.Answers.{for_user, answer_at, fileset_row, answer_for, answer_to}
use Rattle.tree_answers.specs.Locks.{covers, has_lock, lock_count, is_own_locked, is_excluded, lock_check, with_lock, lock_answer, unlock_answer}
use Rattle.tree_answers.specs.Opens.{has_open, open_count, is_barred, open_check, with_open, open_answer, close_answer}
use Rattle.tree_answers.specs.WellFormed.{IsWellFormed}
use Rattle.need_host.specs.Looks.{Look, outcome, tree_view}
use Rattle.need_host.specs.Looks.Look.{Ends}
use Rattle.need_host.specs.Calls.{Verdict, Own, from_root, change_look, lock_look, open_look, call_look}
use Rattle.need_host.specs.Calls.Verdict.{Replies, Locks, Opens, Frees, Gives}
use Rattle.need_host.specs.Laws.{Knows, tree_reply, IsTold, LooksEndInReplies, CoveredAnswersAreTheTrees}
use Rattle.need_host.proofs.Looking.{outcome_alike}
use Rattle.need_host.proofs.Rows.{written_verdict, lock_checks, read_seen, write_seen, list_row_seen, stat_seen, access_seen, sync_seen, lock_seen, open_seen}
use Rattle.need_host.proofs.Found.{IsHome, home_known, tree_shows, row_reply}
use Rattle.tree_laws.specs.Losses.{use_of}

-- a host's own among those of all
any_own : {X : Type 0} (own test : X → Bool) (xs : List X) → list_any (λ x. own x && test x) (filter own xs) ≡ list_any (λ x. own x && test x) xs
any_own own test [] = refl
any_own own test (x ∷ xs) =
    elim (own x) as (λ t. own x ≡ t → list_any (λ y. own y && test y) (cond t (x ∷ filter own xs) (filter own xs)) ≡ ((t && test x) || list_any (λ y. own y && test y) xs)) [
      | true ↦ λ e. ap (λ t. (t && test x) || list_any (λ y. own y && test y) (filter own xs)) e ∙ ap (λ rest. test x || rest) (any_own own test xs)
      | false ↦ λ e. any_own own test xs
    ] refl

own_twice : {X : Type 0} (own : X → Bool) (xs : List X) → filter own (filter own xs) ≡ filter own xs
own_twice own [] = refl
own_twice own (x ∷ xs) =
    elim (own x) as (λ t. own x ≡ t → filter own (cond t (x ∷ filter own xs) (filter own xs)) ≡ cond t (x ∷ filter own xs) (filter own xs)) [
      | true ↦ λ e. ap (λ t. cond t (x ∷ filter own (filter own xs)) (filter own (filter own xs))) e ∙ ap (λ rest. x ∷ rest) (own_twice own xs)
      | false ↦ λ e. own_twice own xs
    ] refl

count_own : {X : Type 0} (own : X → Bool) (xs : List X) → count_by own (filter own xs) ≡ count_by own xs
count_own own xs = sym (length-filter own (filter own xs)) ∙ ap length (own_twice own xs) ∙ length-filter own xs

own_locked : (own locks : List LockUse) (host : HostId) (fid : Fid) (span : Span) → own ≡ filter (λ lock. lock.host.0 == host.0) locks → is_own_locked own host fid span ≡ is_own_locked locks host fid span
own_locked own locks host fid span e = ap (λ all. is_own_locked all host fid span) e ∙ any_own (λ lock. lock.host.0 == host.0) (covers fid span) locks

-- what replies come to
row_either : {A : Type 0} (fileset : Fileset) (found : Result A Refusal) (effect : A → Fileset) → (answered fileset found effect).reply ≡ either found (λ _. Done) (λ refusal. Refused refusal)
row_either fileset (Ok value) effect = refl
row_either fileset (Err refusal) effect = refl

module _ (tree : Tree) (host : HostId) (user : User) (own : Own) (formed : IsWellFormed tree) (knows : Knows own host user tree) where
  abbrev FitsVerdict : Verdict → Reply → Type 0
  FitsVerdict verdict reply = IsTold (tree_reply tree host verdict) reply

  abbrev FitsLook : Look Verdict → Reply → Type 0
  FitsLook look reply = FitsVerdict (outcome (tree_view tree) look) reply

  -- a look from the root of a fileset that the host has seen
  from_home : (server : ServerId) (name : List ℕ) (look : Fid → Look Verdict) (reply : Reply) →
      ((fileset : Fileset) (id : FilesetId) → IsHome tree server name id fileset → FitsLook (look (use_of fileset 1)) reply) → FitsLook (from_root server (own.seen server name) look) reply
  from_home server name look reply row =
      elim (own.seen server name) as (λ o. own.seen server name ≡ o → FitsLook (from_root server o look) reply) [
        | None ↦ λ e. tt
        | Some id ↦ λ e.
            let (fileset, named, same) = knows.seen server name id e in
            let home = home_known tree server name id fileset formed named same in
            subst (λ root. FitsLook (look root) reply) home.root (row fileset id home)
      ] refl

  verdict_fits : (look : Look Verdict) (verdict : Verdict) (reply : Reply) → outcome (tree_view tree) look ≡ verdict → FitsVerdict verdict reply → FitsLook look reply
  verdict_fits look verdict reply e k = subst (λ v. FitsVerdict v reply) (sym e) k

  -- a row that one fileset decides
  row_fits : (place : Place) (look : Fid → Look Verdict) (ask : Fileset → Answered) (verdict : Fileset → Verdict) →
      ((fileset : Fileset) (id : FilesetId) → IsHome tree place.server place.fileset id fileset → outcome (tree_view tree) (look (use_of fileset 1)) ≡ verdict fileset) →
      ((fileset : Fileset) → FitsVerdict (verdict fileset) (ask fileset).reply) →
      FitsLook (from_root place.server (own.seen place.server place.fileset) look) (either (fileset_place tree place.server place.fileset) (λ place. answer_at tree place (slice_get tree.filesets place) ask) (refuse tree)).reply
  row_fits place look ask verdict ends fits =
      let reply = (either (fileset_place tree place.server place.fileset) (λ place. answer_at tree place (slice_get tree.filesets place) ask) (refuse tree)).reply in
      from_home place.server place.fileset look reply (λ fileset id home.
      verdict_fits (look (use_of fileset 1)) (verdict fileset) reply (ends fileset id home)
      (subst (FitsVerdict (verdict fileset)) (sym (row_reply tree place.server place.fileset fileset ask home.found)) (fits fileset)))

  -- verdicts against rows
  sync_fits : (fileset : Fileset) (found : Result (ℕ × Object) Refusal) (effect : ℕ × Object → Fileset) →
      FitsVerdict (either found (λ found. if own.is_clean (use_of fileset found.0) then Replies Done else Gives) (λ refusal. Replies (Refused refusal))) (answered fileset found effect).reply
  sync_fits fileset (Ok found) effect = by_test (own.is_clean (use_of fileset found.0))
    where
      by_test : (b : Bool) → FitsVerdict (if b then Replies Done else Gives) Done
      by_test true = refl
      by_test false = refl
  sync_fits fileset (Err refusal) effect = refl

  write_fits : (fileset : Fileset) (from : ℕ) (bytes : List ℕ) (found : Result ℕ Refusal) (effect : ℕ → Fileset) →
      FitsVerdict (either found (λ anode. written_verdict (use_of fileset anode) from bytes) (λ refusal. Replies (Refused refusal))) (answered fileset found effect).reply
  write_fits fileset from [] (Ok anode) effect = refl
  write_fits fileset from (byte ∷ bytes) (Ok anode) effect = refl
  write_fits fileset from bytes (Err refusal) effect = refl

  lock_fits : (label : List ℕ) (writing : Bool) (span : Span) (big : Bool) (found : Result Fid Refusal) →
      FitsVerdict (either (and_then found (λ fid. unless big TooBig (unless (is_own_locked own.locks host fid span) AlreadyLocked (Ok fid)))) (λ fid. Locks fid writing span) (λ refusal. Replies (Refused refusal)))
      (either (and_then found (λ fid. unless big TooBig (unless (is_own_locked tree.locks host fid span) AlreadyLocked (unless (is_excluded tree.locks host fid span writing) Locked (Ok (fid, span))))))
      (λ (fid, span). let answer : Answer = record { reply = Done; tree = with_lock tree (record { host = host; label = label; fid = fid; writing = writing; span = span }) } in answer) (refuse tree)).reply
  lock_fits label writing span big (Err refusal) = refl
  lock_fits label writing span true (Ok fid) = refl
  lock_fits label writing span false (Ok fid) =
      rw (own_locked own.locks tree.locks host fid span knows.locks) (by_tests (is_own_locked tree.locks host fid span) (is_excluded tree.locks host fid span writing) refl)
    where
      by_tests : (mine others : Bool) → is_excluded tree.locks host fid span writing ≡ others →
          FitsVerdict (either (unless mine AlreadyLocked (Ok fid)) (λ fid. Locks fid writing span) (λ refusal. Replies (Refused refusal)))
          (either (unless mine AlreadyLocked (unless others Locked (Ok (fid, span))))
          (λ (fid, span). let answer : Answer = record { reply = Done; tree = with_lock tree (record { host = host; label = label; fid = fid; writing = writing; span = span }) } in answer) (refuse tree)).reply
      by_tests true others e = refl
      by_tests false true e = sym (ap (λ t. if t then Refused Locked else Done) e)
      by_tests false false e = sym (ap (λ t. if t then Refused Locked else Done) e)

  open_fits : (label : List ℕ) (kind : OpenKind) (found : Result Fid Refusal) →
      FitsVerdict (either found (λ fid. Opens fid kind) (λ refusal. Replies (Refused refusal)))
      (either (and_then found (λ fid. unless (is_barred tree.opens host fid kind) OpenConflict (Ok fid)))
      (λ fid. let answer : Answer = record { reply = Done; tree = with_open tree (record { host = host; label = label; fid = fid; kind = kind }) } in answer) (refuse tree)).reply
  open_fits label kind (Err refusal) = refl
  open_fits label kind (Ok fid) = by_test (is_barred tree.opens host fid kind) refl
    where
      by_test : (others : Bool) → is_barred tree.opens host fid kind ≡ others → FitsVerdict (Opens fid kind)
          (either (unless others OpenConflict (Ok fid)) (λ fid. let answer : Answer = record { reply = Done; tree = with_open tree (record { host = host; label = label; fid = fid; kind = kind }) } in answer) (refuse tree)).reply
      by_test true e = sym (ap (λ t. if t then Refused OpenConflict else Done) e)
      by_test false e = sym (ap (λ t. if t then Refused OpenConflict else Done) e)

  -- the checks of labels
  label_fits : (used full : Bool) (refusal : Refusal) (look : Look Verdict) (rest : Result (Fid × Span) Refusal) (done : Fid × Span → Answer) →
      FitsLook look (either rest done (refuse tree)).reply →
      FitsLook (if used then Ends (Replies (Refused refusal)) else if full then Ends (Replies (Refused TooMany)) else look) (either (unless used refusal (unless full TooMany rest)) done (refuse tree)).reply
  label_fits true full refusal look rest done fits = refl
  label_fits false true refusal look rest done fits = refl
  label_fits false false refusal look rest done fits = fits

  open_label_fits : (used full : Bool) (refusal : Refusal) (look : Look Verdict) (rest : Result Fid Refusal) (done : Fid → Answer) →
      FitsLook look (either rest done (refuse tree)).reply →
      FitsLook (if used then Ends (Replies (Refused refusal)) else if full then Ends (Replies (Refused TooMany)) else look) (either (unless used refusal (unless full TooMany rest)) done (refuse tree)).reply
  open_label_fits true full refusal look rest done fits = refl
  open_label_fits false true refusal look rest done fits = refl
  open_label_fits false false refusal look rest done fits = fits

  free_fits : (used last : Bool) (refusal : Refusal) (after : Tree) →
      FitsLook (if not used then Ends (Replies (Refused refusal)) else Ends (if last then Gives else Frees)) (if not used then refuse tree refusal else (let answer : Answer = record { reply = Done; tree = after } in answer)).reply
  free_fits false last refusal after = refl
  free_fits true true refusal after = refl
  free_fits true false refusal after = refl

  -- a Lock, and an OpenFile, in a fileset that the host has seen
  lock_row : (label : List ℕ) (place : Place) (writing : Bool) (from len : ℕ) (fileset : Fileset) (id : FilesetId) → IsHome tree place.server place.fileset id fileset →
      let span = span_between from (from + len) in
      FitsLook (lock_look own host user (use_of fileset 1) place.path writing from len)
      (either (and_then (fileset_named tree place.server place.fileset) (λ fileset. and_then (lock_target fileset user place.path writing) (λ fid.
      unless (nat_lt FILE_BYTES_MAX (from + len)) TooBig (unless (is_own_locked tree.locks host fid span) AlreadyLocked (unless (is_excluded tree.locks host fid span writing) Locked (Ok (fid, span)))))))
      (λ (fid, span). let answer : Answer = record { reply = Done; tree = with_lock tree (record { host = host; label = label; fid = fid; writing = writing; span = span }) } in answer) (refuse tree)).reply
  unfolding fileset_named
  lock_row label place writing from len fileset id home =
      let span = span_between from (from + len) in
      let verdict = either (lock_checks fileset own host user place.path writing from len) (λ fid. Locks fid writing span) (λ refusal. Replies (Refused refusal)) in
      verdict_fits (lock_look own host user (use_of fileset 1) place.path writing from len) verdict _ (lock_seen (tree_view tree) fileset home.formed (tree_shows tree fileset home.by_id) own host user place.path writing from len)
      (subst (λ o. FitsVerdict verdict (either (and_then (found_or o NoFileset) (λ fileset. and_then (lock_target fileset user place.path writing) (λ fid.
      unless (nat_lt FILE_BYTES_MAX (from + len)) TooBig (unless (is_own_locked tree.locks host fid span) AlreadyLocked (unless (is_excluded tree.locks host fid span writing) Locked (Ok (fid, span)))))))
      (λ (fid, span). let answer : Answer = record { reply = Done; tree = with_lock tree (record { host = host; label = label; fid = fid; writing = writing; span = span }) } in answer) (refuse tree)).reply)
      (sym home.found) (lock_fits label writing span (nat_lt FILE_BYTES_MAX (from + len)) (lock_target fileset user place.path writing)))

  open_row : (label : List ℕ) (place : Place) (kind : OpenKind) (fileset : Fileset) (id : FilesetId) → IsHome tree place.server place.fileset id fileset →
      FitsLook (open_look user (use_of fileset 1) place.path kind)
      (either (and_then (fileset_named tree place.server place.fileset) (λ fileset. and_then (open_target fileset user place.path kind) (λ fid. unless (is_barred tree.opens host fid kind) OpenConflict (Ok fid))))
      (λ fid. let answer : Answer = record { reply = Done; tree = with_open tree (record { host = host; label = label; fid = fid; kind = kind }) } in answer) (refuse tree)).reply
  unfolding fileset_named
  open_row label place kind fileset id home =
      let verdict = either (open_target fileset user place.path kind) (λ fid. Opens fid kind) (λ refusal. Replies (Refused refusal)) in
      verdict_fits (open_look user (use_of fileset 1) place.path kind) verdict _ (open_seen (tree_view tree) fileset home.formed (tree_shows tree fileset home.by_id) user place.path kind)
      (subst (λ o. FitsVerdict verdict (either (and_then (found_or o NoFileset) (λ fileset. and_then (open_target fileset user place.path kind) (λ fid. unless (is_barred tree.opens host fid kind) OpenConflict (Ok fid))))
      (λ fid. let answer : Answer = record { reply = Done; tree = with_open tree (record { host = host; label = label; fid = fid; kind = kind }) } in answer) (refuse tree)).reply)
      (sym home.found) (open_fits label kind (open_target fileset user place.path kind)))

  -- a Change promises nothing
  change_fits : (server : ServerId) (o : Option FilesetId) (reply : Reply) → FitsLook (from_root server o change_look) reply
  change_fits server None reply = tt
  change_fits server (Some id) reply = tt

  pub call_fits : (call : Call) → FitsLook (call_look own host user call) (answer_for tree host call user).reply
  unfolding call_look answer_for fileset_row fileset_answer lock_answer lock_check unlock_answer open_answer open_check close_answer write_answer sync_answer
  call_fits (NewFileset server name objects owner) = tt
  call_fits (Create place) = change_fits place.server (own.seen place.server place.fileset) _
  call_fits (MakeDir place) = change_fits place.server (own.seen place.server place.fileset) _
  call_fits (Remove place) = change_fits place.server (own.seen place.server place.fileset) _
  call_fits (Rename from to) = change_fits from.server (own.seen from.server from.fileset) _
  call_fits (Truncate place len) = change_fits place.server (own.seen place.server place.fileset) _
  call_fits (SetAcl place which list) = change_fits place.server (own.seen place.server place.fileset) _
  call_fits (CloneFileset server fileset new) = tt
  call_fits (MoveFileset server name to) = change_fits server (own.seen server name) _
  call_fits (Read place from len) =
      row_fits place _ _ (λ fileset. Replies (read_reply fileset user place.path from len)) (λ fileset id home. read_seen (tree_view tree) fileset home.formed (tree_shows tree fileset home.by_id) user place.path from len) (λ fileset. refl)
  call_fits (Write place from bytes) =
      row_fits place _ _ (λ fileset. either (write_target fileset user place.path (from + length bytes)) (λ anode. written_verdict (use_of fileset anode) from bytes) (λ refusal. Replies (Refused refusal)))
      (λ fileset id home. write_seen (tree_view tree) fileset home.formed (tree_shows tree fileset home.by_id) user place.path from bytes)
      (λ fileset. write_fits fileset from bytes (write_target fileset user place.path (from + length bytes)) _)
  call_fits (ListNames place) =
      row_fits place _ _ (λ fileset. Replies (list_reply fileset user place.path)) (λ fileset id home. list_row_seen (tree_view tree) fileset home.formed (tree_shows tree fileset home.by_id) user place.path) (λ fileset. refl)
  call_fits (Stat place) =
      row_fits place _ _ (λ fileset. Replies (stat_reply fileset user place.path)) (λ fileset id home. stat_seen (tree_view tree) fileset home.formed (tree_shows tree fileset home.by_id) user place.path) (λ fileset. refl)
  call_fits (GetAcl place which) =
      row_fits place _ _ (λ fileset. Replies (access_reply fileset user place.path which)) (λ fileset id home. access_seen (tree_view tree) fileset home.formed (tree_shows tree fileset home.by_id) user place.path which) (λ fileset. refl)
  call_fits (Sync place) =
      row_fits place _ _ (λ fileset. either (file_target fileset user place.path) (λ found. if own.is_clean (use_of fileset found.0) then Replies Done else Gives) (λ refusal. Replies (Refused refusal)))
      (λ fileset id home. sync_seen (tree_view tree) fileset home.formed (tree_shows tree fileset home.by_id) own user place.path)
      (λ fileset. sync_fits fileset (file_target fileset user place.path) _)
  call_fits (Lock label place writing from len) =
      rw (ap (λ locks. has_lock locks host label) knows.locks ∙ any_own (λ lock. lock.host.0 == host.0) (λ lock. same_name lock.label label) tree.locks, ap (λ locks. lock_count locks host) knows.locks ∙ count_own (λ lock. lock.host.0 == host.0) tree.locks)
      (label_fits (has_lock tree.locks host label) (nat_le LABELS_MAX (lock_count tree.locks host)) AlreadyLocked _ _ _
      (from_home place.server place.fileset _ _ (λ fileset id home. lock_row label place writing from len fileset id home)))
  call_fits (Unlock label) =
      rw (ap (λ locks. has_lock locks host label) knows.locks ∙ any_own (λ lock. lock.host.0 == host.0) (λ lock. same_name lock.label label) tree.locks)
      (free_fits (has_lock tree.locks host label) (own.gives_lock label) NotLocked _)
  call_fits (OpenFile label place kind) =
      rw (ap (λ opens. has_open opens host label) knows.opens ∙ any_own (λ opened. opened.host.0 == host.0) (λ opened. same_name opened.label label) tree.opens, ap (λ opens. open_count opens host) knows.opens ∙ count_own (λ opened. opened.host.0 == host.0) tree.opens)
      (open_label_fits (has_open tree.opens host label) (nat_le LABELS_MAX (open_count tree.opens host)) AlreadyOpened _ _ _
      (from_home place.server place.fileset _ _ (λ fileset id home. open_row label place kind fileset id home)))
  call_fits (CloseFile label) =
      rw (ap (λ opens. has_open opens host label) knows.opens ∙ any_own (λ opened. opened.host.0 == host.0) (λ opened. same_name opened.label label) tree.opens)
      (free_fits (has_open tree.opens host label) (own.gives_open label) NotOpened _)

pub looks_end_in_replies : LooksEndInReplies
unfolding answer_to
looks_end_in_replies tree host user own call formed knows =
    subst (λ found. IsTold (tree_reply tree host (outcome (tree_view tree) (call_look own host user call))) (for_user tree found (answer_for tree host call)).reply) (sym knows.acts_for) (call_fits tree host user own formed knows call)

pub covered_answers : CoveredAnswersAreTheTrees
covered_answers tree host user own held view call stands covered =
    subst (λ verdict. IsTold (tree_reply tree host verdict) (answer_to tree host call).reply) (sym (outcome_alike held view (tree_view tree) stands.agrees (call_look own host user call) covered))
    (looks_end_in_replies tree host user own call stands.formed stands.knows)
