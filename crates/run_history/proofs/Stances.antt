-- A host stands in one way in a step: what it looks at, and what its tokens cover, is the same however that is told.
use Rattle.std.proofs.Common.{◌≡◌, ℕ, ◌+◌, nat_lt, nat_le, Bool, if◌then◌else◌, not, List, [], ◌∷◌, Option, Some}
use Rattle.std.proofs.Common.{None, Ok, refl, sym, ap, ◌∙◌, subst}
use Rattle.std.specs.List.{list_any}
use Rattle.std.specs.Prelude.{IsTrue}
use Rattle.base_types.specs.declared.ids.Fid.{Fid}
use Rattle.base_types.specs.declared.ids.FilesetId.{FilesetId}
use Rattle.base_types.specs.declared.ids.HostId.{HostId}
use Rattle.base_types.specs.declared.ids.ServerId.{ServerId}
use Rattle.base_types.specs.declared.limits.TheConstants.{FILE_BYTES_MAX, LABELS_MAX}
use Rattle.base_types.specs.declared.span.Span.{Span}
use Rattle.base_types.specs.declared.user.User.{User}
use Rattle.tree_calls.specs.declared.call.Call.{Call}
use Rattle.tree_calls.specs.declared.call.Call.TheVariants.{NewFileset, Create, MakeDir, Remove, Rename, Truncate}
use Rattle.tree_calls.specs.declared.call.Call.TheVariants.{SetAcl, CloneFileset, Read, Write, List as ListNames, Stat}
use Rattle.tree_calls.specs.declared.call.Call.TheVariants.{GetAcl, Sync, Lock, Unlock, OpenFile, CloseFile}
use Rattle.tree_calls.specs.declared.call.Call.TheVariants.{MoveFileset}
use Rattle.tree_calls.specs.declared.place.Place.{Place}
use Rattle.tree_calls.specs.declared.reply.Refusal.TheVariants.{AlreadyLocked, AlreadyOpened, NotLocked, NotOpened}
use Rattle.tree_calls.specs.declared.reply.Refusal.TheVariants.{TooBig, TooMany}
use Rattle.tree_calls.specs.declared.reply.Reply.TheVariants.{Ok as Fine}
use Rattle.tree_calls.specs.declared.roster.Roster.{Roster}
use Rattle.tree_filesets.specs.Rights.{read_right, write_right}
use Rattle.need_host.specs.Calls.{Own, Verdict, access_look, call_look, change_look, from_root, in_place, judged}
use Rattle.need_host.specs.Calls.{list_look, lock_look, open_look, read_look, refuse, stat_look, sync_look}
use Rattle.need_host.specs.Calls.{write_look}
use Rattle.need_host.specs.Calls.Verdict.{Frees, Gives, Locks, Replies}
use Rattle.need_host.specs.Looks.{CoverAll, Look, checked, refuse_if}
use Rattle.need_host.specs.Looks.Look.{Ends, Takes}
use Rattle.need_host.specs.Walks.{file_look, use_look}
use Rattle.tree_objects.specs.Spans.{span_between}
use Rattle.tree_answers.specs.Locks.{has_lock, is_own_locked, lock_count}
use Rattle.tree_answers.specs.Opens.{has_open, open_count}
use Rattle.tree_answers.specs.declared.tree.LockUse.{LockUse}
use Rattle.tree_answers.specs.declared.tree.OpenUse.{OpenUse}
use Rattle.token_types.specs.Covers.{CoversKind, covers_alone, covers_byte}
use Rattle.token_types.specs.declared.token.Kind.{Kind}
use Rattle.token_types.specs.declared.token.Kind.TheVariants.{Bytes, Lock as LockKind, Opening, Status}
use Rattle.token_types.specs.declared.token.Need.{Need}
use Rattle.token_types.specs.declared.token.Token.{Token}
use Rattle.run_history.proofs.Lists.{same_any, same_bool, same_count}
use Rattle.run_rules.specs.Past.{In}
use Rattle.run_rules.specs.Views.{Stance, look_of}
use Rattle.run_rules.specs.declared.step.Step.{Step}

-- lists of tokens with the same elements cover the same
cover_same : (xs ys : List Token) → ((p : Token → Bool) → list_any p xs ≡ list_any p ys) → (fid : Fid) (kind : Kind) → CoversKind xs fid kind → CoversKind ys fid kind
cover_same xs ys same fid (Bytes needed span) c = λ at from to. subst (λ b. IsTrue b) (same (covers_byte fid needed at)) (c at from to)
cover_same xs ys same fid (Status needed) c = subst (λ b. IsTrue b) (same (covers_alone fid (Status needed))) c
cover_same xs ys same fid (LockKind writing span) c = subst (λ b. IsTrue b) (same (covers_alone fid (LockKind writing span))) c
cover_same xs ys same fid (Opening kind) c = subst (λ b. IsTrue b) (same (covers_alone fid (Opening kind))) c

all_same : (xs ys : List Token) → ((p : Token → Bool) → list_any p xs ≡ list_any p ys) → (needs : List Need) → CoverAll xs needs → CoverAll ys needs
all_same xs ys same [] c = tt
all_same xs ys same (need ∷ needs) c = (cover_same xs ys same need.fid need.kind c.0, all_same xs ys same needs c.1)

-- the look of a lock, by what is asked of the labels
abbrev lock_with : Bool → ℕ → (Fid → Span → Bool) → (ServerId → List ℕ → Option FilesetId) → User → Place → Bool → ℕ → ℕ → Look Verdict
lock_with has count locked seen user place writing from len =
    if has then refuse AlreadyLocked
    else if nat_le LABELS_MAX count then refuse TooMany
    else from_root place.server (seen place.server place.fileset) (λ root.
    judged
    (checked (use_look user root place.path writing (if writing then write_right else read_right)) (λ fid.
    refuse_if (nat_lt FILE_BYTES_MAX (from + len)) TooBig (
    refuse_if (locked fid (span_between from (from + len))) AlreadyLocked (
    Takes (record { fid = fid; kind = LockKind writing (span_between from (from + len)) }) (Ends (Ok fid))))))
    (λ fid. Locks fid writing (span_between from (from + len))))

lock_is : (own : Own) (h : HostId) (user : User) (label : List ℕ) (place : Place) (writing : Bool) (from len : ℕ)
    → call_look own h user (Lock label place writing from len)
    ≡ lock_with (has_lock own.locks h label) (lock_count own.locks h) (λ fid span. is_own_locked own.locks h fid span) own.seen user place writing from len
unfolding call_look lock_look
lock_is own h user label place writing from len = refl

-- what two ways to tell what a host knows have in common
record SameOwn (h : HostId) (a b : Own) : Type 0 where
  pub has_lock_is : (label : List ℕ) → has_lock a.locks h label ≡ has_lock b.locks h label
  pub lock_count_is : lock_count a.locks h ≡ lock_count b.locks h
  pub own_locked_is : (fid : Fid) (span : Span) → is_own_locked a.locks h fid span ≡ is_own_locked b.locks h fid span
  pub has_open_is : (label : List ℕ) → has_open a.opens h label ≡ has_open b.opens h label
  pub open_count_is : open_count a.opens h ≡ open_count b.opens h
  pub gives_lock_is : (label : List ℕ) → a.gives_lock label ≡ b.gives_lock label
  pub gives_open_is : (label : List ℕ) → a.gives_open label ≡ b.gives_open label
  pub clean_is : (fid : Fid) → a.is_clean fid ≡ b.is_clean fid
  pub seen_is : (server : ServerId) (name : List ℕ) → a.seen server name ≡ b.seen server name

module _ (h : HostId) (user : User) (a b : Own) (same : SameOwn h a b) where
  place_same : (place : Place) (look : Fid → Look Verdict) → in_place a place look ≡ in_place b place look
  place_same place look = ap (λ o. from_root place.server o look) (same.seen_is place.server place.fileset)

  sync_same : (place : Place) → in_place a place (λ root. sync_look a user root place.path) ≡ in_place b place (λ root. sync_look b user root place.path)
  unfolding sync_look
  sync_same place = λ i. from_root place.server (same.seen_is place.server place.fileset i) (λ root. judged (file_look user root place.path) (λ found. if same.clean_is found.0 i then Replies Fine else Gives))

  look_same : (call : Call) → call_look a h user call ≡ call_look b h user call
  unfolding call_look
  look_same (Lock label place writing from len) =
      lock_is a h user label place writing from len
      ∙ ((λ i. lock_with (same.has_lock_is label i) (same.lock_count_is i) (λ fid span. same.own_locked_is fid span i) (λ server name. same.seen_is server name i) user place writing from len)
      ∙ sym (lock_is b h user label place writing from len))
  look_same (Unlock label) = λ i. if not (same.has_lock_is label i) then refuse NotLocked else Ends (if same.gives_lock_is label i then Gives else Frees)
  look_same (OpenFile label place kind) = λ i. if same.has_open_is label i then refuse AlreadyOpened
      else if nat_le LABELS_MAX (same.open_count_is i) then refuse TooMany
      else from_root place.server (same.seen_is place.server place.fileset i) (λ root. open_look user root place.path kind)
  look_same (CloseFile label) = λ i. if not (same.has_open_is label i) then refuse NotOpened else Ends (if same.gives_open_is label i then Gives else Frees)
  look_same (NewFileset server name objects owner) = refl
  look_same (CloneFileset server source new) = refl
  look_same (MoveFileset server name to) = ap (λ o. from_root server o change_look) (same.seen_is server name)
  look_same (Create place) = place_same place change_look
  look_same (MakeDir place) = place_same place change_look
  look_same (Remove place) = place_same place change_look
  look_same (Rename from to) = place_same from change_look
  look_same (Truncate place len) = place_same place change_look
  look_same (SetAcl place which list) = place_same place change_look
  look_same (Read place from len) = place_same place (λ root. read_look user root place.path from len)
  look_same (Write place from bytes) = place_same place (λ root. write_look user root place.path from bytes)
  look_same (ListNames place) = place_same place (λ root. list_look user root place.path)
  look_same (Stat place) = place_same place (λ root. stat_look user root place.path)
  look_same (GetAcl place which) = place_same place (λ root. access_look user root place.path which)
  look_same (Sync place) = sync_same place

same_option : {X : Type 0} (a b : Option X) → ((x : X) → a ≡ Some x → b ≡ Some x) → ((x : X) → b ≡ Some x → a ≡ Some x) → a ≡ b
same_option None None to back = refl
same_option None (Some y) to back = back y refl
same_option (Some x) b to back = sym (to x refl)

-- of one host and step
module _ {roster : Roster} {host : HostId} {past : List Step} {s : Step} (a b : Stance roster host past s) where
  own_same : SameOwn host a.own b.own
  own_same = record {
    has_lock_is = λ label. same_any _ a.own.locks b.own.locks locks back_locks;
    lock_count_is = same_count _ a.own.locks b.own.locks a.knows.locks_once b.knows.locks_once locks back_locks;
    own_locked_is = λ fid span. same_any _ a.own.locks b.own.locks locks back_locks;
    has_open_is = λ label. same_any _ a.own.opens b.own.opens opens back_opens;
    open_count_is = same_count _ a.own.opens b.own.opens a.knows.opens_once b.knows.opens_once opens back_opens;
    gives_lock_is = λ label. same_bool _ _ (λ e. (b.knows.gives_lock label).1 ((a.knows.gives_lock label).0 e)) (λ e. (a.knows.gives_lock label).1 ((b.knows.gives_lock label).0 e));
    gives_open_is = λ label. same_bool _ _ (λ e. (b.knows.gives_open label).1 ((a.knows.gives_open label).0 e)) (λ e. (a.knows.gives_open label).1 ((b.knows.gives_open label).0 e));
    clean_is = λ fid. same_bool _ _ (λ e. (b.knows.clean fid).1 ((a.knows.clean fid).0 e)) (λ e. (a.knows.clean fid).1 ((b.knows.clean fid).0 e));
    seen_is = λ server name. same_option _ _ (λ id e. (b.knows.seen server name id).1 ((a.knows.seen server name id).0 e)) (λ id e. (a.knows.seen server name id).1 ((b.knows.seen server name id).0 e));
  }
    where
      locks : (lock : LockUse) → In lock a.own.locks → In lock b.own.locks
      locks lock i = (b.knows.locks lock).1 ((a.knows.locks lock).0 i)

      back_locks : (lock : LockUse) → In lock b.own.locks → In lock a.own.locks
      back_locks lock i = (a.knows.locks lock).1 ((b.knows.locks lock).0 i)

      opens : (opened : OpenUse) → In opened a.own.opens → In opened b.own.opens
      opens opened i = (b.knows.opens opened).1 ((a.knows.opens opened).0 i)

      back_opens : (opened : OpenUse) → In opened b.own.opens → In opened a.own.opens
      back_opens opened i = (a.knows.opens opened).1 ((b.knows.opens opened).0 i)

  pub look_one : (call : Call) → look_of a call ≡ look_of b call
  look_one call =
      let user : Some a.user ≡ Some b.user = sym a.acts_for ∙ b.acts_for in
      let one : a.user ≡ b.user = cc in
      look_same host a.user a.own b.own own_same call ∙ ap (λ u. call_look b.own host u call) one

  pub covers_one : (needs : List Need) → CoverAll a.held needs → CoverAll b.held needs
  covers_one needs c = all_same a.held b.held (λ p. same_any p a.held b.held (λ t i. (b.holds t).1 ((a.holds t).0 i)) (λ t i. (a.holds t).1 ((b.holds t).0 i))) needs c
