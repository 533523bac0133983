-- Locks.
use Rattle.std.specs.Prelude.{ℕ, ◌+◌, ◌==◌, nat_lt, nat_le, Bool, ◌&&◌, ◌||◌, not, if◌then◌else◌, List, Result, Ok}
use Rattle.std.specs.List.{list_any}
use Rattle.base_types.specs.Outcomes.{and_then, either}
use Rattle.base_types.specs.Spans.{overlap}
use Rattle.base_types.specs.declared.ids.HostId.{HostId}
use Rattle.base_types.specs.declared.ids.Fid.{Fid}
use Rattle.base_types.specs.declared.span.Span.{Span}
use Rattle.base_types.specs.declared.user.User.{User}
use Rattle.base_types.specs.declared.limits.TheConstants.{LABELS_MAX, FILE_BYTES_MAX}
use Rattle.tree_calls.specs.declared.place.Place.{Place}
use Rattle.tree_calls.specs.declared.reply.Refusal.{Refusal}
use Rattle.tree_calls.specs.declared.reply.Refusal.TheVariants.{AlreadyLocked, NotLocked, TooMany, TooBig, Locked}
use Rattle.tree_calls.specs.declared.reply.Reply.TheVariants.{Ok as Done}
use Rattle.tree_objects.specs.Spans.{span_between}
use Rattle.tree_filesets.specs.Checks.{unless}
use Rattle.tree_filesets.specs.Uses.{lock_target}
use Rattle.tree_answers.specs.declared.tree.Tree.{Tree}
use Rattle.tree_answers.specs.declared.tree.LockUse.{LockUse}
use Rattle.tree_answers.specs.Finding.{Answer, refuse, fileset_named}
use Rattle.base_types.specs.Ids.{same_fid}
use Rattle.tree_answers.specs.Uses.{lock_hold, is_under, has_label, label_count, label_place, with_one, without_label}

-- whether this is a host's lock with a label
abbrev pub is_lock : HostId → List ℕ → LockUse → Bool
is_lock = is_under lock_hold

abbrev pub has_lock : List LockUse → HostId → List ℕ → Bool
has_lock = has_label lock_hold

-- how many locks a host has
abbrev pub lock_count : List LockUse → HostId → ℕ
lock_count = label_count lock_hold

-- whether a lock is on a file and overlaps a span
abbrev pub covers : Fid → Span → LockUse → Bool
covers fid span lock = same_fid lock.fid fid && overlap lock.span span

-- whether a host has a lock there itself
abbrev pub is_own_locked : List LockUse → HostId → Fid → Span → Bool
is_own_locked locks host fid span = list_any (λ lock. (lock.host.0 == host.0) && covers fid span lock) locks

-- whether another host has a lock there, one of both for writing
abbrev pub is_excluded : List LockUse → HostId → Fid → Span → Bool → Bool
is_excluded locks host fid span writing =
    list_any (λ lock. not (lock.host.0 == host.0) && covers fid span lock && (lock.writing || writing)) locks

-- Lock: AlreadyLocked (label); TooMany; NoFileset; walk; IsDir; ReadOnly; Denied; TooBig; AlreadyLocked (overlap);
-- Locked
unfoldable pub lock_check : Tree → HostId → User → List ℕ → Place → Bool → ℕ → ℕ → Result (Fid × Span) Refusal
lock_check tree host user label place writing from len =
    let span = span_between from (from + len) in
    unless (has_lock tree.locks host label) AlreadyLocked (
    unless (nat_le LABELS_MAX (lock_count tree.locks host)) TooMany (
    and_then (fileset_named tree place.server place.fileset) (λ fileset.
    and_then (lock_target fileset user place.path writing) (λ fid.
    unless (nat_lt FILE_BYTES_MAX (from + len)) TooBig (
    unless (is_own_locked tree.locks host fid span) AlreadyLocked (
    unless (is_excluded tree.locks host fid span writing) Locked (
    Ok (fid, span))))))))

-- where a lock goes
abbrev pub lock_place : List LockUse → HostId → List ℕ → ℕ
lock_place = label_place lock_hold

-- a tree with a lock more
abbrev pub with_lock : Tree → LockUse → Tree
with_lock tree lock = record tree { locks = with_one lock_hold tree.locks lock }

-- Lock: in use under the label
unfoldable pub lock_answer : Tree → HostId → User → List ℕ → Place → Bool → ℕ → ℕ → Answer
lock_answer tree host user label place writing from len =
    either (lock_check tree host user label place writing from len)
    (λ (fid, span). record {
      reply = Done;
      tree = with_lock tree (record { host = host; label = label; fid = fid; writing = writing; span = span });
    })
    (refuse tree)

-- Unlock: NotLocked. No longer in use
unfoldable pub unlock_answer : Tree → HostId → List ℕ → Answer
unlock_answer tree host label =
    if not (has_lock tree.locks host label) then refuse tree NotLocked
    else record { reply = Done; tree = record tree { locks = without_label lock_hold tree.locks host label } }
