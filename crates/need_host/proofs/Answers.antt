-- What each call that a host answers by itself leaves of its view and of the tree.
use Rattle.std.proofs.Common.{◌≡◌, ℕ, ◌+◌, nat_le, Bool, true, false, ◌&&◌, not, List, Option, Some, None, is_some, Result, Ok, Err, refl, sym, ap, ◌∙◌, subst}
use Rattle.std.specs.Prelude.{if◌then◌else◌}
use Rattle.base_types.specs.Outcomes.{and_then, either}
use Rattle.base_types.specs.declared.ids.HostId.{HostId}
use Rattle.base_types.specs.declared.ids.FilesetId.{FilesetId}
use Rattle.base_types.specs.declared.ids.Fid.{Fid}
use Rattle.base_types.specs.declared.ids.ServerId.{ServerId}
use Rattle.base_types.specs.declared.limits.TheConstants.{LABELS_MAX}
use Rattle.base_types.specs.declared.user.User.{User}
use Rattle.tree_calls.specs.declared.call.Call.{Call as CallOf}
use Rattle.tree_calls.specs.declared.call.Call.TheVariants.{NewFileset, Create, MakeDir, Remove, Rename, Truncate, SetAcl, CloneFileset, MoveFileset, Read, Write, List as ListNames, Stat, GetAcl, Sync, Lock, Unlock, OpenFile, CloseFile}
use Rattle.tree_calls.specs.declared.place.Place.{Place}
use Rattle.tree_calls.specs.declared.reply.Refusal.{Refusal}
use Rattle.tree_calls.specs.declared.reply.Refusal.TheVariants.{AlreadyLocked, AlreadyOpened, NotLocked, NotOpened, TooMany}
use Rattle.tree_calls.specs.declared.reply.Reply.TheVariants.{Ok as Done, Bytes, Names, Facts, Access, Refused}
use Rattle.tree_filesets.specs.Rights.{read_right, write_right}
use Rattle.tree_filesets.specs.Uses.{is_changing, right_to_open}
use Rattle.tree_objects.specs.Entries.{names_of}
use Rattle.tree_objects.specs.Spans.{span_between}
use Rattle.tree_filesets.specs.declared.fileset.Fileset.{Fileset}
use Rattle.tree_filesets.specs.Walk.{file_target}
use Rattle.tree_objects.specs.declared.content.Object.{Object}
use Rattle.tree_answers.specs.declared.tree.Tree.{Tree}
use Rattle.tree_answers.specs.Answers.{answer_to}
use Rattle.tree_answers.specs.Finding.{has_id}
use Rattle.tree_answers.specs.Locks.{has_lock, lock_count}
use Rattle.tree_answers.specs.Opens.{has_open, open_count}
use Rattle.need_host.specs.Looks.{Look, outcome, checked, View, IsCovered, tree_view}
use Rattle.need_host.specs.Looks.Look.{Ends}
use Rattle.need_host.specs.Walks.{root_of, target_look, file_look, permitted_look, use_look}
use Rattle.need_host.specs.Calls.{Verdict, Own, judged, from_root, change_look, reply_now, read_from, read_look, entries_for, list_look, facts_for, stat_look, list_for, access_look, sync_verdict, sync_look, lock_for, lock_look, open_for, open_look, call_look, view_after}
use Rattle.need_host.specs.Calls.Verdict.{Replies, Locks, Opens, Frees, Gives}
use Rattle.need_host.specs.Present.{changes_nothing, AnswersLeaveAlike}
use Rattle.tree_laws.proofs.Steps.{no_file, fid_is}
use Rattle.need_host.specs.Laws.{AgreeUnder, Stands}
use Rattle.need_host.proofs.Found.{home_known, tree_shows}
use Rattle.need_host.proofs.Looking.{outcome_alike}
use Rattle.need_host.proofs.Present.{answers_leave_all, synced_part}
use Rattle.need_host.proofs.Rows.{outcome_judged, sync_seen}
use Rattle.need_host.proofs.Written.{stays_either, fate_home, after_call, write_leaves}
use Rattle.tree_laws.specs.Losses.{use_of}
use Rattle.token_types.specs.declared.token.Token.{Token}
use Rattle.tree_laws.specs.Fates.{after_fate, names_use, if_reached}
use Rattle.tree_laws.specs.Fates.Fate.{Stays, IsSynced}
use Rattle.tree_laws.specs.Parts.{Part, Nature, present, cell_at}

module _ (view : View) (fid : Fid) (part : Part) where
  -- a verdict that leaves the view
  abbrev Quiet : Verdict → Type 0
  Quiet verdict = view_after verdict view fid part ≡ view fid part

  quiet_judged : {A : Type 0} (look : Look (Result A Refusal)) (judge : A → Verdict) → ((value : A) → Quiet (judge value)) → Quiet (outcome view (judged look judge))
  quiet_judged look judge quiet = subst Quiet (sym (outcome_judged view look judge)) (by_found (outcome view look))
    where
      by_found : (found : Result _ Refusal) → Quiet (either found judge (λ refusal. Replies (Refused refusal)))
      by_found (Ok value) = quiet value
      by_found (Err refusal) = refl

  quiet_home : (server : ServerId) (o : Option FilesetId) (look : Fid → Look Verdict) → ((root : Fid) → Quiet (outcome view (look root))) → Quiet (outcome view (from_root server o look))
  quiet_home server None look quiet = refl
  quiet_home server (Some id) look quiet = quiet (root_of id)

  quiet_label : (used full : Bool) (refusal : Refusal) (look : Look Verdict) → Quiet (outcome view look) → Quiet (outcome view (if used then Ends (Replies (Refused refusal)) else if full then Ends (Replies (Refused TooMany)) else look))
  quiet_label true full refusal look quiet = refl
  quiet_label false true refusal look quiet = refl
  quiet_label false false refusal look quiet = quiet

  quiet_free : (used last : Bool) (refusal : Refusal) → Quiet (outcome view (if not used then Ends (Replies (Refused refusal)) else Ends (if last then Gives else Frees)))
  quiet_free false last refusal = refl
  quiet_free true true refusal = refl
  quiet_free true false refusal = refl

  quiet_sync : (own : Own) (found : Fid × Nature) → Quiet (sync_verdict own found)
  quiet_sync own (file, nature) = by_test (own.is_clean file)
    where
      by_test : (b : Bool) → Quiet (if b then Replies Done else Gives)
      by_test true = refl
      by_test false = refl

  quiet_call : (own : Own) (host : HostId) (user : User) (call : CallOf) → changes_nothing call ≡ true → Quiet (outcome view (call_look own host user call))
  unfolding call_look read_look list_look stat_look access_look lock_look open_look
  quiet_call own host user (Read place from len) h = quiet_home place.server (own.seen place.server place.fileset) _ (λ root. quiet_judged (checked (permitted_look user root place.path read_right) (read_from from len)) (λ bytes. Replies (Bytes bytes)) (λ bytes. refl))
  quiet_call own host user (ListNames place) h = quiet_home place.server (own.seen place.server place.fileset) _ (λ root. quiet_judged (checked (target_look user root place.path) (entries_for user)) (λ entries. Replies (Names (names_of entries))) (λ entries. refl))
  quiet_call own host user (Stat place) h = quiet_home place.server (own.seen place.server place.fileset) _ (λ root. quiet_judged (checked (target_look user root place.path) (facts_for user)) (λ facts. Replies (Facts facts)) (λ facts. refl))
  quiet_call own host user (GetAcl place which) h = quiet_home place.server (own.seen place.server place.fileset) _ (λ root. quiet_judged (checked (target_look user root place.path) (list_for which)) (λ list. Replies (Access list)) (λ list. refl))
  quiet_call own host user (Lock label place writing from len) h =
      quiet_label (has_lock own.locks host label) (nat_le LABELS_MAX (lock_count own.locks host)) AlreadyLocked _ (quiet_home place.server (own.seen place.server place.fileset) _ (λ root.
      quiet_judged (checked (use_look user root place.path writing (if writing then write_right else read_right)) (lock_for own host writing from len)) (λ fid. Locks fid writing (span_between from (from + len))) (λ fid. refl)))
  quiet_call own host user (OpenFile label place kind) h =
      quiet_label (has_open own.opens host label) (nat_le LABELS_MAX (open_count own.opens host)) AlreadyOpened _ (quiet_home place.server (own.seen place.server place.fileset) _ (λ root.
      quiet_judged (checked (use_look user root place.path (is_changing kind) (right_to_open kind)) (open_for kind)) (λ fid. Opens fid kind) (λ fid. refl)))
  quiet_call own host user (Unlock label) h = quiet_free (has_lock own.locks host label) (own.gives_lock label) NotLocked
  quiet_call own host user (CloseFile label) h = quiet_free (has_open own.opens host label) (own.gives_open label) NotOpened
  quiet_call own host user (Create place) h = no_file h
  quiet_call own host user (MakeDir place) h = no_file h
  quiet_call own host user (Remove place) h = no_file h
  quiet_call own host user (Rename from to) h = no_file h
  quiet_call own host user (Truncate place len) h = no_file h
  quiet_call own host user (SetAcl place which list) h = no_file h
  quiet_call own host user (Write place from bytes) h = no_file h
  quiet_call own host user (Sync place) h = no_file h
  quiet_call own host user (NewFileset server name objects owner) h = no_file h
  quiet_call own host user (CloneFileset server source new) h = no_file h
  quiet_call own host user (MoveFileset server name to) h = no_file h

-- a fid that names the present use of an anode in the fileset
use_is : (fileset : Fileset) (anode : ℕ) (fid : Fid) → has_id fid.fileset fileset ≡ true → names_use fileset anode fid ≡ true → use_of fileset anode ≡ fid
use_is fileset anode fid h k = fid_is (use_of fileset anode) fid (all_true _ _ _ h k)
  where
    all_true : (a b c : Bool) → a ≡ true → (b && c) ≡ true → (a && b && c) ≡ true
    all_true true true c h k = k
    all_true true false c h k = k
    all_true false b c h k = no_file h

clean_now : (b : Bool) → is_some (reply_now (if b then Replies Done else Gives)) ≡ true → b ≡ true
clean_now true h = refl
clean_now false h = no_file h

module _ (tree : Tree) (host : HostId) (user : User) (own : Own) (held : List Token) (view : View) (stands : Stands tree host user own held view) where
  -- a Sync that is answered at once finds nothing of the host's
  clean_synced : (fileset : Fileset) (fid : Fid) (part : Part) (found : Result (ℕ × Object) Refusal) →
      is_some (reply_now (either found (λ found. if own.is_clean (use_of fileset found.0) then Replies Done else Gives) (λ refusal. Replies (Refused refusal)))) ≡ true →
      after_fate (if has_id fid.fileset fileset then if_reached fileset fid (IsSynced host) (and_then found (λ found. Ok found.0)) else Stays) (cell_at tree fid) part ≡ cell_at tree fid part
  clean_synced fileset fid part (Err refusal) answers = sym (stays_either (has_id fid.fileset fileset) (cell_at tree fid) part)
  clean_synced fileset fid part (Ok found) answers = by_tests (has_id fid.fileset fileset) (names_use fileset found.0 fid) refl refl
    where
      by_tests : (a b : Bool) → has_id fid.fileset fileset ≡ a → names_use fileset found.0 fid ≡ b →
          after_fate (if a then (if b then IsSynced host else Stays) else Stays) (cell_at tree fid) part ≡ cell_at tree fid part
      by_tests true true h k =
          let clean : own.is_clean fid ≡ true = ap own.is_clean (sym (use_is fileset found.0 fid h k)) ∙ clean_now (own.is_clean (use_of fileset found.0)) answers in
          synced_part tree host fid part (stands.knows.clean fid clean)
      by_tests true false h k = refl
      by_tests false b h k = refl

  sync_home : (place : Place) (o : Option FilesetId) → own.seen place.server place.fileset ≡ o → let look = from_root place.server o (λ root. sync_look own user root place.path) in
      IsCovered held view look → is_some (reply_now (outcome view look)) ≡ true → AgreeUnder held (view_after (outcome view look) view) (tree_view (answer_to tree host (Sync place)).tree)
  unfolding sync_look
  sync_home place None e covered answers fid part under = no_file answers
  sync_home place (Some id) e covered answers fid part under =
      let (fileset, named, same) = stands.knows.seen place.server place.fileset id e in
      let home = home_known tree place.server place.fileset id fileset stands.formed named same in
      let look = sync_look own user (root_of id) place.path in
      let verdict : outcome view look ≡ either (file_target fileset user place.path) (λ found. if own.is_clean (use_of fileset found.0) then Replies Done else Gives) (λ refusal. Replies (Refused refusal)) =
      outcome_alike held view (tree_view tree) stands.agrees look covered
      ∙ ap (λ root. outcome (tree_view tree) (sync_look own user root place.path)) (sym home.root)
      ∙ sync_seen (tree_view tree) fileset home.formed (tree_shows tree fileset home.by_id) own user place.path in
      quiet_judged view fid part (file_look user (root_of id) place.path) (sync_verdict own) (quiet_sync view fid part own)
      ∙ stands.agrees fid part under
      ∙ ap present (sym (after_call tree host user (Sync place) fid part stands.formed stands.knows.acts_for
      ∙ ap (λ fate. after_fate fate (cell_at tree fid) part) (fate_home tree host user place.server place.fileset (Sync place) fileset fid home.found)
      ∙ clean_synced fileset fid part (file_target fileset user place.path) (ap (λ v. is_some (reply_now v)) (sym verdict) ∙ answers)))

  -- a call that tells, or is about a label
  tells : (call : CallOf) → changes_nothing call ≡ true → AgreeUnder held (view_after (outcome view (call_look own host user call)) view) (tree_view (answer_to tree host call).tree)
  tells call h fid part under = quiet_call view fid part own host user call h ∙ stands.agrees fid part under ∙ ap present (sym (answers_leave_all tree host call fid part stands.formed h))

  -- a Change isn't answered at once
  asked : {A : Type 0} (server : ServerId) (o : Option FilesetId) → is_some (reply_now (outcome view (from_root server o change_look))) ≡ true → A
  asked server None answers = no_file answers
  asked server (Some id) answers = no_file answers

pub answers_leave_alike : AnswersLeaveAlike
unfolding call_look
answers_leave_alike tree host user own held view (Write place from bytes) stands covered answers = write_leaves tree host user own held view place from bytes stands covered answers
answers_leave_alike tree host user own held view (Sync place) stands covered answers = sync_home tree host user own held view stands place (own.seen place.server place.fileset) refl covered answers
answers_leave_alike tree host user own held view (Read place from len) stands covered answers = tells tree host user own held view stands (Read place from len) refl
answers_leave_alike tree host user own held view (ListNames place) stands covered answers = tells tree host user own held view stands (ListNames place) refl
answers_leave_alike tree host user own held view (Stat place) stands covered answers = tells tree host user own held view stands (Stat place) refl
answers_leave_alike tree host user own held view (GetAcl place which) stands covered answers = tells tree host user own held view stands (GetAcl place which) refl
answers_leave_alike tree host user own held view (Lock label place writing from len) stands covered answers = tells tree host user own held view stands (Lock label place writing from len) refl
answers_leave_alike tree host user own held view (Unlock label) stands covered answers = tells tree host user own held view stands (Unlock label) refl
answers_leave_alike tree host user own held view (OpenFile label place kind) stands covered answers = tells tree host user own held view stands (OpenFile label place kind) refl
answers_leave_alike tree host user own held view (CloseFile label) stands covered answers = tells tree host user own held view stands (CloseFile label) refl
answers_leave_alike tree host user own held view (NewFileset server name objects owner) stands covered answers = no_file answers
answers_leave_alike tree host user own held view (CloneFileset server source new) stands covered answers = no_file answers
answers_leave_alike tree host user own held view (Create place) stands covered answers = asked tree host user own held view stands place.server (own.seen place.server place.fileset) answers
answers_leave_alike tree host user own held view (MakeDir place) stands covered answers = asked tree host user own held view stands place.server (own.seen place.server place.fileset) answers
answers_leave_alike tree host user own held view (Remove place) stands covered answers = asked tree host user own held view stands place.server (own.seen place.server place.fileset) answers
answers_leave_alike tree host user own held view (Truncate place len) stands covered answers = asked tree host user own held view stands place.server (own.seen place.server place.fileset) answers
answers_leave_alike tree host user own held view (SetAcl place which list) stands covered answers = asked tree host user own held view stands place.server (own.seen place.server place.fileset) answers
answers_leave_alike tree host user own held view (Rename from to) stands covered answers = asked tree host user own held view stands from.server (own.seen from.server from.fileset) answers
answers_leave_alike tree host user own held view (MoveFileset server name to) stands covered answers = asked tree host user own held view stands server (own.seen server name) answers
