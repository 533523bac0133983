-- What a host asks about a call is about the fileset of the call.
use Rattle.std.proofs.Common.{◌≡◌, ◌+◌, nat_le, Bool, true, false, not, List, [], ◌∷◌, Option, Some, None, Result, Ok, Err, refl, sym, ap, ◌∙◌, subst}
use Rattle.std.specs.Prelude.{ℕ, if◌then◌else◌, length}
use Rattle.base_types.specs.Outcomes.{and_then, either}
use Rattle.base_types.specs.declared.ids.FilesetId.{FilesetId}
use Rattle.base_types.specs.declared.ids.Fid.{Fid}
use Rattle.base_types.specs.declared.ids.ServerId.{ServerId}
use Rattle.base_types.specs.declared.user.User.{User}
use Rattle.base_types.specs.declared.limits.TheConstants.{LABELS_MAX}
use Rattle.tree_calls.specs.declared.call.Call.{Call}
use Rattle.tree_calls.specs.declared.call.Call.TheVariants.{NewFileset, Create, MakeDir, Remove, Rename, Truncate, SetAcl, CloneFileset, MoveFileset, Read, Write, List as ListNames, Stat, GetAcl, Sync, Lock, Unlock, OpenFile, CloseFile}
use Rattle.tree_calls.specs.declared.reply.Refusal.{Refusal}
use Rattle.tree_calls.specs.declared.reply.Refusal.TheVariants.{AlreadyLocked, AlreadyOpened, NotLocked, NotOpened, TooMany}
use Rattle.tree_calls.specs.declared.reply.Reply.TheVariants.{Ok as Done, Bytes, Names, Facts, Access, Refused}
use Rattle.tree_filesets.specs.Rights.{read_right, write_right}
use Rattle.tree_filesets.specs.Uses.{is_changing, right_to_open}
use Rattle.tree_objects.specs.Entries.{names_of}
use Rattle.tree_objects.specs.Spans.{span_between}
use Rattle.tree_answers.specs.Locks.{has_lock, lock_count}
use Rattle.tree_answers.specs.Opens.{has_open, open_count}
use Rattle.tree_laws.specs.Parts.{Nature}
use Rattle.need_host.specs.Looks.{View, Look, outcome, checked}
use Rattle.need_host.specs.Looks.Look.{Ends}
use Rattle.need_host.specs.Questions.{Question, fileset_of, is_change}
use Rattle.need_host.specs.Questions.Question.{EnterAt, ChangeIn, ChangeAt}
use Rattle.need_host.specs.Walks.{root_of, target_look, file_look, permitted_look, use_look}
use Rattle.need_host.specs.Calls.{Verdict, Own, judged, from_root, change_look, read_from, read_look, write_target_look, written_look, write_look, entries_for, list_look, facts_for, stat_look, list_for, access_look, sync_verdict, sync_look, lock_for, lock_look, open_for, open_look, call_look}
use Rattle.need_host.specs.Calls.Verdict.{Replies, Locks, Opens, Frees, Gives, Asks}
use Rattle.need_host.specs.Laws.{IsAbout, QuestionsAreAboutFilesets}
use Rattle.need_host.proofs.Looking.{outcome_checked}
use Rattle.need_host.proofs.Rows.{outcome_judged, written_verdict, written_seen}

-- what a verdict asks
abbrev AsksNone : Verdict → Type 0
AsksNone (Asks question) = ⊥
AsksNone verdict = Unit {0}

no_question : (verdict : Verdict) (question : Question) → AsksNone verdict → verdict ≡ Asks question → ⊥
no_question verdict question none e = subst AsksNone e none

module _ (view : View) (own : Own) (call : Call) where
  abbrev About : Verdict → Type 0
  About verdict = (question : Question) → verdict ≡ Asks question → IsAbout own call question

  about_none : (verdict : Verdict) → AsksNone verdict → About verdict
  about_none verdict none question e = absurd (no_question verdict question none e)

  about_same : (question : Question) → IsAbout own call question → About (Asks question)
  about_same question about other e = let same : question ≡ other = cc in subst (IsAbout own call) same about

  about_judged : {A : Type 0} (look : Look (Result A Refusal)) (judge : A → Verdict) → ((value : A) → AsksNone (judge value)) → About (outcome view (judged look judge))
  about_judged look judge none = subst About (sym (outcome_judged view look judge)) (by_found (outcome view look))
    where
      by_found : (found : Result _ Refusal) → About (either found judge (λ refusal. Replies (Refused refusal)))
      by_found (Ok value) = about_none (judge value) (none value)
      by_found (Err refusal) = about_none (Replies (Refused refusal)) tt

  about_root : (server : ServerId) (name : List ℕ) → fileset_of call ≡ Some (server, name) → (look : Fid → Look Verdict) → ((id : FilesetId) → own.seen server name ≡ Some id → About (outcome view (look (root_of id)))) →
      About (outcome view (from_root server (own.seen server name) look))
  about_root server name of look rest = by_seen (own.seen server name) refl
    where
      by_seen : (o : Option FilesetId) → own.seen server name ≡ o → About (outcome view (from_root server o look))
      by_seen None e = about_same (EnterAt server) (name, of, e)
      by_seen (Some id) e = rest id e

  about_change : (server : ServerId) (name : List ℕ) → is_change call ≡ true → fileset_of call ≡ Some (server, name) → About (outcome view (from_root server (own.seen server name) change_look))
  about_change server name changes of = about_root server name of change_look (λ id e. about_same (ChangeIn id) (server, name, of, e, changes))

  about_label : (used full : Bool) (refusal : Refusal) (look : Look Verdict) → About (outcome view look) → About (outcome view (if used then Ends (Replies (Refused refusal)) else if full then Ends (Replies (Refused TooMany)) else look))
  about_label true full refusal look about = about_none (Replies (Refused refusal)) tt
  about_label false true refusal look about = about_none (Replies (Refused TooMany)) tt
  about_label false false refusal look about = about

  about_free : (used last : Bool) (refusal : Refusal) → About (outcome view (if not used then Ends (Replies (Refused refusal)) else Ends (if last then Gives else Frees)))
  about_free false last refusal = about_none (Replies (Refused refusal)) tt
  about_free true true refusal = about_none Gives tt
  about_free true false refusal = about_none Frees tt

none_synced : (own : Own) (found : Fid × Nature) → AsksNone (sync_verdict own found)
none_synced own (file, nature) = by_test (own.is_clean file)
  where
    by_test : (b : Bool) → AsksNone (if b then Replies Done else Gives)
    by_test true = tt
    by_test false = tt

about_write : (view : View) (own : Own) (call : Call) (user : User) (root : Fid) (path : List (List ℕ)) (from : ℕ) (bytes : List ℕ) → About view own call (outcome view (write_look user root path from bytes))
unfolding write_look
about_write view own call user root path from bytes =
    subst (About view own call) (sym (outcome_judged view (checked (write_target_look user root path (from + length bytes)) (written_look from bytes)) (λ verdict. verdict)
    ∙ ap (λ found. either found (λ verdict. verdict) (λ refusal. Replies (Refused refusal))) (outcome_checked view (write_target_look user root path (from + length bytes)) (written_look from bytes))))
    (by_target (outcome view (write_target_look user root path (from + length bytes))) bytes)
  where
    none_written : (fid : Fid) (bytes : List ℕ) → AsksNone (written_verdict fid from bytes)
    none_written fid [] = tt
    none_written fid (byte ∷ bytes) = tt

    by_target : (found : Result Fid Refusal) (bytes : List ℕ) → About view own call (either (and_then found (λ fid. outcome view (written_look from bytes fid))) (λ verdict. verdict) (λ refusal. Replies (Refused refusal)))
    by_target (Ok fid) bytes = subst (λ r. About view own call (either r (λ verdict. verdict) (λ refusal. Replies (Refused refusal)))) (sym (written_seen view fid from bytes)) (about_none view own call (written_verdict fid from bytes) (none_written fid bytes))
    by_target (Err refusal) bytes = about_none view own call (Replies (Refused refusal)) tt

pub questions_are_about_filesets : QuestionsAreAboutFilesets
unfolding call_look read_look list_look stat_look access_look sync_look lock_look open_look
questions_are_about_filesets own host user (NewFileset server name objects owner) view = about_same view own (NewFileset server name objects owner) (ChangeAt server) (refl, refl)
questions_are_about_filesets own host user (CloneFileset server source new) view = about_same view own (CloneFileset server source new) (ChangeAt server) (refl, refl)
questions_are_about_filesets own host user (Create place) view = about_change view own (Create place) place.server place.fileset refl refl
questions_are_about_filesets own host user (MakeDir place) view = about_change view own (MakeDir place) place.server place.fileset refl refl
questions_are_about_filesets own host user (Remove place) view = about_change view own (Remove place) place.server place.fileset refl refl
questions_are_about_filesets own host user (Rename from to) view = about_change view own (Rename from to) from.server from.fileset refl refl
questions_are_about_filesets own host user (Truncate place len) view = about_change view own (Truncate place len) place.server place.fileset refl refl
questions_are_about_filesets own host user (SetAcl place which list) view = about_change view own (SetAcl place which list) place.server place.fileset refl refl
questions_are_about_filesets own host user (MoveFileset server name to) view = about_change view own (MoveFileset server name to) server name refl refl
questions_are_about_filesets own host user (Read place from len) view = about_root view own (Read place from len) place.server place.fileset refl _ (λ id e.
    about_judged view own (Read place from len) (checked (permitted_look user (root_of id) place.path read_right) (read_from from len)) (λ bytes. Replies (Bytes bytes)) (λ bytes. tt))
questions_are_about_filesets own host user (Write place from bytes) view = about_root view own (Write place from bytes) place.server place.fileset refl _ (λ id e. about_write view own (Write place from bytes) user (root_of id) place.path from bytes)
questions_are_about_filesets own host user (ListNames place) view = about_root view own (ListNames place) place.server place.fileset refl _ (λ id e.
    about_judged view own (ListNames place) (checked (target_look user (root_of id) place.path) (entries_for user)) (λ entries. Replies (Names (names_of entries))) (λ entries. tt))
questions_are_about_filesets own host user (Stat place) view = about_root view own (Stat place) place.server place.fileset refl _ (λ id e.
    about_judged view own (Stat place) (checked (target_look user (root_of id) place.path) (facts_for user)) (λ facts. Replies (Facts facts)) (λ facts. tt))
questions_are_about_filesets own host user (GetAcl place which) view = about_root view own (GetAcl place which) place.server place.fileset refl _ (λ id e.
    about_judged view own (GetAcl place which) (checked (target_look user (root_of id) place.path) (list_for which)) (λ list. Replies (Access list)) (λ list. tt))
questions_are_about_filesets own host user (Sync place) view = about_root view own (Sync place) place.server place.fileset refl _ (λ id e.
    about_judged view own (Sync place) (file_look user (root_of id) place.path) (sync_verdict own) (none_synced own))
questions_are_about_filesets own host user (Lock label place writing from len) view =
    about_label view own (Lock label place writing from len) (has_lock own.locks host label) (nat_le LABELS_MAX (lock_count own.locks host)) AlreadyLocked _
    (about_root view own (Lock label place writing from len) place.server place.fileset refl _ (λ id e.
    about_judged view own (Lock label place writing from len) (checked (use_look user (root_of id) place.path writing (if writing then write_right else read_right)) (lock_for own host writing from len)) (λ fid. Locks fid writing (span_between from (from + len))) (λ fid. tt)))
questions_are_about_filesets own host user (OpenFile label place kind) view =
    about_label view own (OpenFile label place kind) (has_open own.opens host label) (nat_le LABELS_MAX (open_count own.opens host)) AlreadyOpened _
    (about_root view own (OpenFile label place kind) place.server place.fileset refl _ (λ id e.
    about_judged view own (OpenFile label place kind) (checked (use_look user (root_of id) place.path (is_changing kind) (right_to_open kind)) (open_for kind)) (λ fid. Opens fid kind) (λ fid. tt)))
questions_are_about_filesets own host user (Unlock label) view = about_free view own (Unlock label) (has_lock own.locks host label) (own.gives_lock label) NotLocked
questions_are_about_filesets own host user (CloseFile label) view = about_free view own (CloseFile label) (has_open own.opens host label) (own.gives_open label) NotOpened
