-- Which tokens a step uses: the same for all stances of it.
use Rattle.base_types.specs.Outcomes.{either}
use Rattle.base_types.specs.declared.ids.Fid.{Fid}
use Rattle.base_types.specs.declared.ids.FilesetId.{FilesetId}
use Rattle.base_types.specs.declared.ids.HostId.{HostId}
use Rattle.base_types.specs.declared.ids.ServerId.{ServerId}
use Rattle.base_types.specs.declared.limits.TheConstants.{FILE_BYTES_MAX, LABELS_MAX}
use Rattle.base_types.specs.declared.span.Span.{Span}
use Rattle.base_types.specs.declared.user.User.{User}
use Rattle.host_cache.specs.Holding.{first_by, is_idle, last_of, used}
use Rattle.host_cache.specs.declared.held.Held.{Held}
use Rattle.host_tables.proofs.Lists.{any_false, any_in, by_test, each_fits, false_any, false_not, filter_in, in_any}
use Rattle.host_tables.proofs.Lists.{in_filter, true_false}
use Rattle.host_tables.proofs.Plain.{needs_ended}
use Rattle.host_tables.specs.Half.{half}
use Rattle.host_tables.specs.Stands.{IsCoveredFrom, OrderStands, Stands, UsedLater, look_from, needs_from}
use Rattle.host_tables.specs.Tables.{content, held_of, own_of}
use Rattle.host_tables.specs.Using.{NeedsAreOne, OldestIsOldest, OrderIsKept, UsesAreTold, UsesFrom, used_all}
use Rattle.host_tables.specs.declared.tables.Tables.{Tables}
use Rattle.need_host.proofs.Looking.{needs_alike}
use Rattle.need_host.specs.Calls.{Own, Verdict, access_look, call_look, change_look, from_root, in_place, judged}
use Rattle.need_host.specs.Calls.{list_look, lock_for, lock_look, open_look, read_look, refuse, stat_look, sync_look}
use Rattle.need_host.specs.Calls.{sync_verdict, write_look}
use Rattle.need_host.specs.Calls.Verdict.{Frees, Gives, Locks, Replies}
use Rattle.need_host.specs.Looks.{Look, View, after_check, checked, kind_for, look_on, needs_of, refuse_if}
use Rattle.need_host.specs.Looks.Look.{Ends, Looks, Takes}
use Rattle.need_host.specs.Walks.{file_look, root_of, use_look}
use Rattle.run_rules.specs.HostTokens.{LastUsed, UsesToken, helps_cover}
use Rattle.run_rules.specs.Past.{EachOnce, In}
use Rattle.run_rules.specs.Views.{Stance, needs_in, sees}
use Rattle.run_rules.specs.declared.applied.Answer.{Answer as AnswerOf}
use Rattle.run_rules.specs.declared.step.Step.{Step}
use Rattle.script_lines.specs.declared.script.Script.{Script}
use Rattle.std.proofs.Common.{Bool, Err, List, None, Ok, Option, Result, Some, [], ap, arith, count_by, false, filter}
use Rattle.std.proofs.Common.{if◌then◌else◌, inl, inr, length, nat_le, nat_lt, not, refl, subst, suc, sym, true, ℕ}
use Rattle.std.proofs.Common.{◌&&◌, ◌++◌, ◌+◌, ◌==◌, ◌↔◌, ◌∙◌, ◌∷◌, ◌≡◌, ◌≤◌, ◌⊎◌}
use Rattle.std.specs.List.{fold, list_any}
use Rattle.token_types.specs.declared.token.Kind.TheVariants.{Lock as LockKind}
use Rattle.token_types.specs.declared.token.Need.{Need}
use Rattle.token_types.specs.declared.token.Token.{Token}
use Rattle.tree_answers.specs.Locks.{covers, has_lock, is_own_locked, lock_count}
use Rattle.tree_answers.specs.Opens.{has_open, open_count}
use Rattle.tree_answers.specs.Uses.{is_under, lock_hold, open_hold}
use Rattle.tree_answers.specs.declared.tree.LockUse.{LockUse}
use Rattle.tree_answers.specs.declared.tree.OpenUse.{OpenUse}
use Rattle.tree_calls.specs.declared.call.Call.{Call}
use Rattle.tree_calls.specs.declared.call.Call.TheVariants.{CloneFileset, CloseFile, Create, GetAcl}
use Rattle.tree_calls.specs.declared.call.Call.TheVariants.{List as ListNames, Lock, MakeDir, MoveFileset, NewFileset}
use Rattle.tree_calls.specs.declared.call.Call.TheVariants.{OpenFile, Read, Remove, Rename, SetAcl, Stat, Sync}
use Rattle.tree_calls.specs.declared.call.Call.TheVariants.{Truncate, Unlock, Write}
use Rattle.tree_calls.specs.declared.place.Place.{Place as NamedPlace}
use Rattle.tree_calls.specs.declared.reply.Refusal.{Refusal}
use Rattle.tree_calls.specs.declared.reply.Refusal.TheVariants.{AlreadyLocked, AlreadyOpened, NotLocked, NotOpened}
use Rattle.tree_calls.specs.declared.reply.Refusal.TheVariants.{TooBig, TooMany}
use Rattle.tree_calls.specs.declared.reply.Reply.TheVariants.{Refused}
use Rattle.tree_calls.specs.declared.roster.Roster.{Roster}
use Rattle.tree_filesets.specs.Rights.{read_right, write_right}
use Rattle.tree_objects.specs.Spans.{span_between}
use Rattle.host_tables.proofs.Standing as standing
use Rattle.host_tables.proofs.AtOnce as at_once
use Rattle.host_tables.proofs.Answered as answered

-- lists with the same elements, each once
any_alike : {A : Type 0} (test : A → Bool) (xs ys : List A) → ((x : A) → In x xs → In x ys)
    → ((x : A) → In x ys → In x xs) → list_any test xs ≡ list_any test ys
any_alike test xs ys there back = elim (by_test (list_any test xs)) [
  | inl e ↦ (let r = in_any test xs e in e ∙ sym (any_in test ys r.0 (there r.0 r.1) r.2))
  | inr e ↦ e ∙ sym (false_any test ys (λ x i t. any_false test xs e x (back x i) t))
]

filter_once_if : {A : Type 0} (b : Bool) (test : A → Bool) (x : A) (xs : List A) → (In x (filter test xs) → ⊥)
    → EachOnce (filter test xs) → EachOnce (if b then x ∷ filter test xs else filter test xs)
filter_once_if true test x xs other once = (other, once)
filter_once_if false test x xs other once = once

filter_once : {A : Type 0} (test : A → Bool) (xs : List A) → EachOnce xs → EachOnce (filter test xs)
filter_once test [] once = tt
filter_once test (x ∷ xs) once = filter_once_if (test x) test x xs (λ i. once.0 (in_filter test xs x i).0)
    (filter_once test xs once.1)

abbrev counted : {A : Type 0} → (A → Bool) → ℕ → List A → ℕ
counted test n xs = fold (λ a x. a + (if test x then 1 else 0)) n xs

count_if : {A : Type 0} (b : Bool) (test : A → Bool) (n : ℕ) (x : A) (xs : List A)
    → ((k : ℕ) → counted test k xs ≡ k + length (filter test xs))
    → counted test (n + (if b then 1 else 0)) xs ≡ n + length (if b then x ∷ filter test xs else filter test xs)
count_if true test n x xs e = let h = e (n + 1) in omega (arith, h)
count_if false test n x xs e = let h = e (n + 0) in omega (arith, h)

count_from : {A : Type 0} (test : A → Bool) (n : ℕ) (xs : List A) → counted test n xs ≡ n + length (filter test xs)
count_from test n [] = omega arith
count_from test n (x ∷ xs) = count_if (test x) test n x xs (λ k. count_from test k xs)

count_is : {A : Type 0} (test : A → Bool) (xs : List A) → count_by test xs ≡ length (filter test xs)
count_is test xs = let h : count_by test xs ≡ 0 + length (filter test xs) = count_from test 0 xs in omega (arith, h)

count_alike : {A : Type 0} (test : A → Bool) (xs ys : List A) → EachOnce xs → EachOnce ys
    → ((x : A) → In x xs → In x ys) → ((x : A) → In x ys → In x xs) → count_by test xs ≡ count_by test ys
count_alike test xs ys one two there back =
    let a = each_fits (filter test xs) (filter test ys) (filter_once test xs one) (λ x i. let r =
    in_filter test xs x i in filter_in test ys x (there x r.0) r.1) in
    let b = each_fits (filter test ys) (filter test xs) (filter_once test ys two) (λ x i. let r =
    in_filter test ys x i in filter_in test xs x (back x r.0) r.1) in
    let c = count_is test xs in let d = count_is test ys in omega (arith, a, b, c, d)

-- looks that go on alike
on_alike : {A B : Type 0} (view : View) (look : Look A) (next other : A → Look B)
    → ((a : A) → needs_of view (next a) ≡ needs_of view (other a)) → needs_of view (look_on look next) ≡ needs_of view
    (look_on look other)
on_alike view (Ends result) next other same = same result
on_alike view (Takes need after) next other same = ap (λ (l : List Need). need ∷ l)
    (on_alike view after next other same)
on_alike view (Looks fid part after) next other same = ap (λ (l : List Need). record { fid = fid; kind = kind_for part }
    ∷ l) (on_alike view (after (view fid part)) next other same)

then_alike : {A B : Type 0} (view : View) (look : Look (Result A Refusal)) (next other : A → Look (Result B Refusal))
    → ((a : A) → needs_of view (next a) ≡ needs_of view (other a)) → needs_of view (checked look next) ≡ needs_of view
    (checked look other)
then_alike {A = A} {B = B} view look next other same = on_alike view look (after_check next) (after_check other) by_case
  where
    by_case : (r : Result A Refusal) → needs_of view (after_check next r) ≡ needs_of view (after_check other r)
    by_case (Ok value) = same value
    by_case (Err refusal) = refl

judged_needs : {A : Type 0} (view : View) (look : Look (Result A Refusal)) (judge : A → Verdict)
    → needs_of view (judged look judge) ≡ needs_of view look
judged_needs view look judge = needs_ended view look (λ seen. either seen judge (λ refusal. Replies (Refused refusal)))

-- what two hosts' knowledge has in common
pub record Alike (host : HostId) (a b : Own) : Type 0 where
  pub has_lock_is : (label : List ℕ) → has_lock a.locks host label ≡ has_lock b.locks host label
  pub lock_count_is : lock_count a.locks host ≡ lock_count b.locks host
  pub own_locked : (fid : Fid) (span : Span) → is_own_locked a.locks host fid span ≡ is_own_locked b.locks host fid span
  pub has_open_is : (label : List ℕ) → has_open a.opens host label ≡ has_open b.opens host label
  pub open_count_is : open_count a.opens host ≡ open_count b.opens host
  pub seen_is : (server : ServerId) (name : List ℕ) → a.seen server name ≡ b.seen server name

module _ (view : View) (host : HostId) (a b : Own) (alike : Alike host a b) where
  placed_alike : (place : NamedPlace) (look other : Fid → Look Verdict)
      → ((root : Fid) → needs_of view (look root) ≡ needs_of view (other root)) → needs_of view (in_place a place look)
      ≡ needs_of view (in_place b place other)
  placed_alike place look other same =
      go (b.seen place.server place.fileset)
      ∙ ap (λ (o : Option FilesetId). needs_of view (from_root place.server o other)) refl
    where
      go : (o : Option FilesetId) → needs_of view (in_place a place look) ≡ needs_of view
          (from_root place.server (b.seen place.server place.fileset) other)
      go o = ap (λ (o : Option FilesetId). needs_of view (from_root place.server o look))
          (alike.seen_is place.server place.fileset) ∙ by_case (b.seen place.server place.fileset)
        where
          by_case : (o : Option FilesetId) → needs_of view (from_root place.server o look) ≡ needs_of view
              (from_root place.server o other)
          by_case None = refl
          by_case (Some id) = same (root_of id)

  lock_for_alike : (writing : Bool) (from len : ℕ) (fid : Fid) → needs_of view (lock_for a host writing from len fid)
      ≡ needs_of view (lock_for b host writing from len fid)
  lock_for_alike writing from len fid =
      let span : Span = span_between from (from + len) in
      let takes : Look (Result Fid Refusal) = Takes (record { fid = fid; kind = LockKind writing span })
      (Ends (Ok fid)) in
      ap (λ (own : Bool). needs_of view (refuse_if (nat_lt FILE_BYTES_MAX (from + len)) TooBig
      (refuse_if own AlreadyLocked takes))) (alike.own_locked fid span)

  lock_alike : (user : User) (root : Fid) (path : List (List ℕ)) (writing : Bool) (from len : ℕ)
      → needs_of view (lock_look a host user root path writing from len) ≡ needs_of view
      (lock_look b host user root path writing from len)
  unfolding lock_look
  lock_alike user root path writing from len =
      let right : ℕ = if writing then write_right else read_right in
      let judge : Fid → Verdict = λ fid. Locks fid writing (span_between from (from + len)) in
      judged_needs view (checked (use_look user root path writing right) (lock_for a host writing from len)) judge
      ∙ (then_alike view (use_look user root path writing right) (lock_for a host writing from len)
      (lock_for b host writing from len) (lock_for_alike writing from len)
      ∙ sym (judged_needs view (checked (use_look user root path writing right) (lock_for b host writing from len))
      judge))

  sync_alike : (user : User) (root : Fid) (path : List (List ℕ)) → needs_of view (sync_look a user root path)
      ≡ needs_of view (sync_look b user root path)
  unfolding sync_look
  sync_alike user root path = judged_needs view (file_look user root path) (sync_verdict a)
      ∙ sym (judged_needs view (file_look user root path) (sync_verdict b))

  pub calls_alike : (user : User) (call : Call) → needs_of view (call_look a host user call) ≡ needs_of view
      (call_look b host user call)
  unfolding call_look
  calls_alike user (NewFileset server name objects owner) = refl
  calls_alike user (Create place) = placed_alike place change_look change_look (λ root. refl)
  calls_alike user (MakeDir place) = placed_alike place change_look change_look (λ root. refl)
  calls_alike user (Remove place) = placed_alike place change_look change_look (λ root. refl)
  calls_alike user (Rename from to) = placed_alike from change_look change_look (λ root. refl)
  calls_alike user (Truncate place len) = placed_alike place change_look change_look (λ root. refl)
  calls_alike user (SetAcl place which list) = placed_alike place change_look change_look (λ root. refl)
  calls_alike user (CloneFileset server source new) = refl
  calls_alike user (Read place from len) = placed_alike place (λ root. read_look user root place.path from len)
      (λ root. read_look user root place.path from len) (λ root. refl)
  calls_alike user (Write place from bytes) = placed_alike place (λ root. write_look user root place.path from bytes)
      (λ root. write_look user root place.path from bytes) (λ root. refl)
  calls_alike user (ListNames place) = placed_alike place (λ root. list_look user root place.path)
      (λ root. list_look user root place.path) (λ root. refl)
  calls_alike user (Stat place) = placed_alike place (λ root. stat_look user root place.path)
      (λ root. stat_look user root place.path) (λ root. refl)
  calls_alike user (GetAcl place which) = placed_alike place (λ root. access_look user root place.path which)
      (λ root. access_look user root place.path which) (λ root. refl)
  calls_alike user (Sync place) = placed_alike place (λ root. sync_look a user root place.path)
      (λ root. sync_look b user root place.path) (λ root. sync_alike user root place.path)
  calls_alike user (Lock label place writing from len) =
      ap (λ (has : Bool). needs_of view (if has then refuse AlreadyLocked
      else if nat_le LABELS_MAX (lock_count a.locks host) then refuse TooMany
      else in_place a place (λ root. lock_look a host user root place.path writing from len)))
      (alike.has_lock_is label)
      ∙ (ap (λ (count : ℕ). needs_of view (if has_lock b.locks host label then refuse AlreadyLocked
      else if nat_le LABELS_MAX count then refuse TooMany
      else in_place a place (λ root. lock_look a host user root place.path writing from len))) alike.lock_count_is
      ∙ by_case (has_lock b.locks host label) (nat_le LABELS_MAX (lock_count b.locks host)))
    where
      by_case : (x y : Bool) → needs_of view (if x then refuse AlreadyLocked else if y then refuse TooMany
          else in_place a place (λ root. lock_look a host user root place.path writing from len))
          ≡ needs_of view (if x then refuse AlreadyLocked else if y then refuse TooMany
          else in_place b place (λ root. lock_look b host user root place.path writing from len))
      by_case true y = refl
      by_case false true = refl
      by_case false false = placed_alike place (λ root. lock_look a host user root place.path writing from len)
          (λ root. lock_look b host user root place.path writing from len)
          (λ root. lock_alike user root place.path writing from len)
  calls_alike user (Unlock label) = by_case (has_lock a.locks host label) (has_lock b.locks host label)
    where
      by_case : (x y : Bool) → needs_of view (if not x then refuse NotLocked else Ends (if a.gives_lock label then Gives
          else Frees)) ≡ needs_of view (if not y then refuse NotLocked else Ends (if b.gives_lock label then Gives
          else Frees))
      by_case true true = refl
      by_case true false = refl
      by_case false true = refl
      by_case false false = refl
  calls_alike user (OpenFile label place kind) =
      ap (λ (has : Bool). needs_of view (if has then refuse AlreadyOpened
      else if nat_le LABELS_MAX (open_count a.opens host) then refuse TooMany
      else in_place a place (λ root. open_look user root place.path kind))) (alike.has_open_is label)
      ∙ (ap (λ (count : ℕ). needs_of view (if has_open b.opens host label then refuse AlreadyOpened
      else if nat_le LABELS_MAX count then refuse TooMany
      else in_place a place (λ root. open_look user root place.path kind))) alike.open_count_is
      ∙ by_case (has_open b.opens host label) (nat_le LABELS_MAX (open_count b.opens host)))
    where
      by_case : (x y : Bool) → needs_of view (if x then refuse AlreadyOpened else if y then refuse TooMany
          else in_place a place (λ root. open_look user root place.path kind))
          ≡ needs_of view (if x then refuse AlreadyOpened else if y then refuse TooMany
          else in_place b place (λ root. open_look user root place.path kind))
      by_case true y = refl
      by_case false true = refl
      by_case false false = placed_alike place (λ root. open_look user root place.path kind)
          (λ root. open_look user root place.path kind) (λ root. refl)
  calls_alike user (CloseFile label) = by_case (has_open a.opens host label) (has_open b.opens host label)
    where
      by_case : (x y : Bool) → needs_of view (if not x then refuse NotOpened else Ends (if a.gives_open label then Gives
          else Frees)) ≡ needs_of view (if not y then refuse NotOpened else Ends (if b.gives_open label then Gives
          else Frees))
      by_case true true = refl
      by_case true false = refl
      by_case false true = refl
      by_case false false = refl
  calls_alike user (MoveFileset server name to) =
      ap (λ (o : Option FilesetId). needs_of view (from_root server o change_look)) (alike.seen_is server name)

-- two stances
module _ (roster : Roster) (host : HostId) (past : List Step) (s : Step) (a b : Stance roster host past s) where
  same_option : (o p : Option FilesetId) → ((id : FilesetId) → (o ≡ Some id) ↔ (p ≡ Some id)) → o ≡ p
  same_option (Some id) p same = sym ((same id).0 refl)
  same_option None (Some id) same = (same id).1 refl
  same_option None None same = refl

  knows_alike : Alike host a.own b.own
  knows_alike =
      let there : (lock : LockUse) → In lock a.own.locks → In lock b.own.locks = λ lock i. (b.knows.locks lock).1
      ((a.knows.locks lock).0 i) in
      let back : (lock : LockUse) → In lock b.own.locks → In lock a.own.locks = λ lock i. (a.knows.locks lock).1
      ((b.knows.locks lock).0 i) in
      let to : (opened : OpenUse) → In opened a.own.opens → In opened b.own.opens = λ opened i. (b.knows.opens opened).1
      ((a.knows.opens opened).0 i) in
      let fro : (opened : OpenUse) → In opened b.own.opens → In opened a.own.opens =
      λ opened i. (a.knows.opens opened).1 ((b.knows.opens opened).0 i) in
      record {
        has_lock_is = λ label. any_alike (is_under lock_hold host label) a.own.locks b.own.locks there back;
        lock_count_is = count_alike (λ (one : LockUse). one.host.0 == host.0) a.own.locks b.own.locks a.knows.locks_once
            b.knows.locks_once there back;
        own_locked = λ fid span. any_alike (λ (lock : LockUse). (lock.host.0 == host.0) && covers fid span lock)
            a.own.locks b.own.locks there back;
        has_open_is = λ label. any_alike (is_under open_hold host label) a.own.opens b.own.opens to fro;
        open_count_is = count_alike (λ (one : OpenUse). one.host.0 == host.0) a.own.opens b.own.opens a.knows.opens_once
            b.knows.opens_once to fro;
        seen_is = λ server name. same_option (a.own.seen server name) (b.own.seen server name)
            (λ id. (
              (λ e. (b.knows.seen server name id).1 ((a.knows.seen server name id).0 e)),
              (λ e. (a.knows.seen server name id).1 ((b.knows.seen server name id).0 e)),
            ));
      }

  same_user : a.user ≡ b.user
  same_user = let p = sym a.acts_for ∙ b.acts_for in cc

  pub one_need : (call : Call) → needs_in a call ≡ needs_in b call
  one_need call = calls_alike (sees past s) host a.own b.own knows_alike a.user call
      ∙ ap (λ (user : User). needs_of (sees past s) (call_look b.own host user call)) same_user

pub needs_are_one : NeedsAreOne
needs_are_one roster host past s a b call = one_need roster host past s a b call

module _ (script : Script) (m : Tables) (past : List Step) (s : Step) (stands : Stands script m (half s ∷ past))
    (covered : (a : AnswerOf) → In a s.answers → IsCoveredFrom m a.call) where
  -- the needs of an answered call, in any stance
  needs_here : (stance : Stance script.roster m.host past s) (a : AnswerOf) → In a s.answers → needs_in stance a.call
      ≡ needs_from m a.call
  needs_here stance a i =
      let its : Stance script.roster m.host past s = record stance {
        user = m.user;
        acts_for = stands.user;
        own = own_of m;
        knows = standing.knows script m past s stands;
      } in
      one_need script.roster m.host past s stance its a.call
      ∙ sym (needs_alike (held_of m) (content m.cache) (sees past s) (answered.agree script m past s stands)
      (look_from m a.call) (covered a i))

  told_uses : (t : Token) → UsesToken script.roster m.host past s t → UsesFrom m s t
  told_uses t (inl i) = inl i
  told_uses t (inr (stance, a, need, i, j, h)) = inr (a, need, i, subst (In need) (needs_here stance a i) j, h)

  uses_told : (stance : Stance script.roster m.host past s) (t : Token) → UsesFrom m s t
      → UsesToken script.roster m.host past s t
  uses_told stance t (inl i) = inl i
  uses_told stance t (inr (a, need, i, j, h)) =
      inr (stance, a, need, i, subst (In need) (sym (needs_here stance a i)) j, h)

pub uses_are_told : UsesAreTold
uses_are_told script m past s stands covered stance t =
    (told_uses script m past s stands covered t, uses_told script m past s stands covered stance t)

-- one stands before another
abbrev pub IsBefore : {A : Type 0} → List A → A → A → Type 0
IsBefore [] a b = ⊥
IsBefore (x ∷ xs) a b = ((x ≡ a) × In b xs) ⊎ IsBefore xs a b

pub parts_before : {A : Type 0} (before behind : List A) (a b : A) → In b behind → IsBefore (before ++ a ∷ behind) a b
parts_before [] behind a b i = inl (refl, i)
parts_before (x ∷ before) behind a b i = inr (parts_before before behind a b i)

pub before_parts : {A : Type 0} (xs : List A) (a b : A) → IsBefore xs a b → (before : List A) × (behind : List A)
    × (xs ≡ before ++ a ∷ behind) × In b behind
before_parts [] a b r = absurd r
before_parts (x ∷ xs) a b (inl (e, i)) = ([], xs, ap (λ y. y ∷ xs) e, i)
before_parts (x ∷ xs) a b (inr r) = let p = before_parts xs a b r in (x ∷ p.0, p.1, ap (λ ys. x ∷ ys) p.2, p.3)

before_first : {A : Type 0} (xs : List A) (a b : A) → IsBefore xs a b → In a xs
before_first [] a b r = absurd r
before_first (x ∷ xs) a b (inl (e, i)) = inl (sym e)
before_first (x ∷ xs) a b (inr r) = inr (before_first xs a b r)

before_second : {A : Type 0} (xs : List A) (a b : A) → IsBefore xs a b → In b xs
before_second [] a b r = absurd r
before_second (x ∷ xs) a b (inl (e, i)) = inr i
before_second (x ∷ xs) a b (inr r) = inr (before_second xs a b r)

before_either : {A : Type 0} (xs ys : List A) (a b : A) → IsBefore (xs ++ ys) a b → In a xs ⊎ IsBefore ys a b
before_either [] ys a b r = inr r
before_either (x ∷ xs) ys a b (inl (e, i)) = inl (inl (sym e))
before_either (x ∷ xs) ys a b (inr r) = elim (before_either xs ys a b r) [ inl i ↦ inl (inr i) | inr q ↦ inr q ]

filter_before_if : {A : Type 0} (t : Bool) (test : A → Bool) (x : A) (xs : List A) (a b : A)
    → (IsBefore (filter test xs) a b → IsBefore xs a b) → (In b (filter test xs) → In b xs)
    → IsBefore (if t then x ∷ filter test xs else filter test xs) a b → IsBefore (x ∷ xs) a b
filter_before_if true test x xs a b back within (inl (e, i)) = inl (e, within i)
filter_before_if true test x xs a b back within (inr r) = inr (back r)
filter_before_if false test x xs a b back within r = inr (back r)

pub filter_before : {A : Type 0} (test : A → Bool) (xs : List A) (a b : A) → IsBefore (filter test xs) a b
    → IsBefore xs a b
filter_before test [] a b r = r
filter_before test (x ∷ xs) a b r = filter_before_if (test x) test x xs a b (λ q. filter_before test xs a b q)
    (λ i. (in_filter test xs b i).0) r

first_before : {A : Type 0} (test : A → Bool) (xs : List A) (a b : A) → IsBefore (first_by test xs) a b → test a ≡ false
    → (test b ≡ false) × IsBefore xs a b
first_before {A = A} test xs a b r e =
    let other : A → Bool = λ x. not (test x) in
    elim (before_either (filter test xs) (filter other xs) a b r) [
      | inl i ↦ absurd (true_false (test a) (in_filter test xs a i).1 e)
      | inr q ↦ (
        not_true_is (test b) (in_filter other xs b (before_second (filter other xs) a b q)).1,
        filter_before other xs a b q,
      )
    ]
  where
    not_true_is : (t : Bool) → not t ≡ true → t ≡ false
    not_true_is true p = absurd (cc)
    not_true_is false p = refl

abbrev helps_none : List Need → Token → Type 0
helps_none needs t = (need : Need) → In need needs → helps_cover t need ≡ false

used_before : (needs : List Need) (held : List Held) (a b : Held) → IsBefore (used_all needs held) a b
    → helps_none needs a.token → helps_none needs b.token × IsBefore held a b
used_before [] held a b r none = ((λ need i. elim i [ ]), r)
used_before (first ∷ needs) held a b r none =
    let p = used_before needs (used first held) a b r (λ need i. none need (inr i)) in
    let q = first_before (λ (h : Held). helps_cover h.token first) held a b p.1 (none first (inl refl)) in (
      (λ need i. elim i [
        | inl e ↦ subst (λ (x : Need). helps_cover b.token x ≡ false) (sym e) q.0
        | inr j ↦ p.0 need j
      ]),
      q.1,
    )

-- whether a token helps with one of the needs
helps_some : (needs : List Need) (t : Token) → ((need : Need) × In need needs × (helps_cover t need ≡ true))
    ⊎ helps_none needs t
helps_some [] t = inr (λ need i. elim i [ ])
helps_some (first ∷ needs) t = elim (by_test (helps_cover t first)) [
  | inl e ↦ inl (first, inl refl, e)
  | inr e ↦ elim (helps_some needs t) [
    | inl p ↦ inl (p.0, inr p.1, p.2)
    | inr none ↦ inr (λ need i. elim i [
      | inl q ↦ subst (λ (x : Need). helps_cover t x ≡ false) (sym q) e
      | inr j ↦ none need j
    ])
  ]
]

-- when a token was last used
last_fits : (roster : Roster) (host : HostId) (past : List Step) (t : Token) (n : ℕ) → LastUsed roster host past t n
    → n ≤ length past
last_fits roster host [] t n l = absurd l
last_fits roster host (s ∷ past) t n (inl (u, e)) = omega (arith, e)
last_fits roster host (s ∷ past) t n (inr (l, u)) = let h = last_fits roster host past t n l in omega (arith, h)

last_one : (roster : Roster) (host : HostId) (past : List Step) (t : Token) (n k : ℕ) → LastUsed roster host past t n
    → LastUsed roster host past t k → n ≡ k
last_one roster host [] t n k l o = absurd l
last_one roster host (s ∷ past) t n k (inl (u, e)) (inl (v, f)) = e ∙ sym f
last_one roster host (s ∷ past) t n k (inl (u, e)) (inr (o, v)) = absurd (v u)
last_one roster host (s ∷ past) t n k (inr (l, u)) (inl (v, f)) = absurd (u v)
last_one roster host (s ∷ past) t n k (inr (l, u)) (inr (o, v)) = last_one roster host past t n k l o

module _ (script : Script) (m : Tables) (past : List Step) (s : Step) (stands : Stands script m (half s ∷ past))
    (covered : (a : AnswerOf) → In a s.answers → IsCoveredFrom m a.call)
    (stance : Stance script.roster m.host past s) (needs : List Need)
    (from : (need : Need) → In need needs → (a : AnswerOf) × In a s.answers × In need (needs_from m a.call))
    (all : (a : AnswerOf) (need : Need) → In a s.answers → In need (needs_from m a.call) → In need needs) where
  abbrev roster : Roster
  roster = script.roster

  -- what helps with none of the needs is used by the step as by its half
  taken_there : (t : Token) → helps_none needs t → UsesToken roster m.host past s t → UsesToken roster m.host past
      (half s) t
  taken_there t none u = elim (told_uses script m past s stands covered t u) [
    | inl i ↦ inl i
    | inr (a, need, i, j, h) ↦ absurd (true_false (helps_cover t need) h (none need (all a need i j)))
  ]

  taken_back : (t : Token) → UsesToken roster m.host past (half s) t → UsesToken roster m.host past s t
  taken_back t (inl i) = inl i
  taken_back t (inr (st, a, need, i, j, h)) = elim i [ ]

  last_there : (t : Token) (n : ℕ) → helps_none needs t → LastUsed roster m.host (s ∷ past) t n
      → LastUsed roster m.host (half s ∷ past) t n
  last_there t n none (inl (u, e)) = inl (taken_there t none u, e)
  last_there t n none (inr (l, u)) = inr (l, λ v. u (taken_back t v))

  helped_last : (t : Token) (n : ℕ) (need : Need) → In need needs → helps_cover t need ≡ true
      → LastUsed roster m.host (s ∷ past) t n → n ≡ suc (length past)
  helped_last t n need i h (inl (u, e)) = e
  helped_last t n need i h (inr (l, u)) =
      let r = from need i in
      absurd (u (uses_told script m past s stands covered stance t (inr (r.0, need, r.1, r.2, h))))

  ordered : (late early : Held) → IsBefore (used_all needs m.cache.held) late early
      → UsedLater roster m.host (s ∷ past) late.token early.token
  ordered late early r n k l o = elim (helps_some needs late.token) [
    | inl p ↦ (let e = helped_last late.token n p.0 p.1 p.2 l in let f = last_fits roster m.host (s ∷ past) early.token
        k o in omega (arith, e, f))
    | inr none ↦ (
        let p = used_before needs m.cache.held late early r none in
        let q = before_parts m.cache.held late early p.1 in
        stands.order q.0 q.1 late early q.2 q.3 n k (last_there late.token n none l) (last_there early.token k p.0 o))
  ]

  pub order_after : OrderStands roster m.host (used_all needs m.cache.held) (s ∷ past)
  order_after before behind late early e i =
      ordered late early (subst (λ (xs : List Held). IsBefore xs late early) (sym e)
      (parts_before before behind late early i))

pub order_is_kept : OrderIsKept
order_is_kept script m past s stands covered stance needs from all = order_after script m past s stands covered stance
    needs from all

-- the last of a list
last_before : {A : Type 0} (xs : List A) (h a : A) → last_of xs ≡ Some h → In a xs → (a ≡ h) ⊎ IsBefore xs a h
last_before [] h a e i = elim i [ ]
last_before (x ∷ []) h a e i = elim i [ inl p ↦ inl (p ∙ (let q = e in cc)) | inr j ↦ elim j [ ] ]
last_before (x ∷ y ∷ xs) h a e i = elim i [
  | inl p ↦ inr (inl (sym p, last_in (y ∷ xs) h e))
  | inr j ↦ elim (last_before (y ∷ xs) h a e j) [ inl q ↦ inl q | inr r ↦ inr (inr r) ]
]
  where
    last_in : {A : Type 0} (xs : List A) (h : A) → last_of xs ≡ Some h → In h xs
    last_in [] h e = absurd (cc)
    last_in (x ∷ []) h e = inl (let q = e in cc)
    last_in (x ∷ y ∷ xs) h e = inr (last_in (y ∷ xs) h e)

pub oldest_is_oldest : OldestIsOldest
oldest_is_oldest script m past stands h e u n k idle l o =
    let r = at_once.idle_held script m past stands u idle in
    let i = filter_in is_idle m.cache.held r.0 r.1 (false_not r.0.in_use r.3) in
    elim (last_before (filter is_idle m.cache.held) h r.0 e i) [
      | inl same ↦ (
          let t : h.token ≡ u = ap (λ (x : Held). x.token) (sym same) ∙ r.2 in
          let q = last_one script.roster m.host past u n k
          (subst (λ (x : Token). LastUsed script.roster m.host past x n) t l) o in omega (arith, q))
      | inr b ↦ (
          let p = before_parts m.cache.held r.0 h (filter_before is_idle m.cache.held r.0 h b) in
          stands.order p.0 p.1 r.0 h p.2 p.3 k n (subst (λ (x : Token). LastUsed script.roster m.host past x k)
          (sym r.2) o) l)
    ]
