-- A host's labels are counted by themselves.
use Rattle.std.proofs.Common.{◌≡◌, ◌<◌, ◌≤◌, ℕ, ◌+◌, ◌==◌, nat_lt, nat_le, min, max, Bool, true, false, ◌&&◌, ◌||◌, not, List, [], ◌∷◌, Option, Some, None, Result, Ok, Err, refl, sym, ap, ◌∙◌, subst, inl, inr, rules, arith}
use Rattle.std.specs.Prelude.{◌↔◌, if◌then◌else◌}
use Rattle.std.specs.List.{find, list_any, count_by}
use Rattle.std.proofs.lemmas.Bool.Decides.{leb_tells}
use Rattle.std.proofs.lemmas.Grind.{common_steps}
use Rattle.base_types.specs.Access.{allows}
use Rattle.base_types.specs.Outcomes.{and_then, either}
use Rattle.base_types.specs.Spans.{has_byte, overlap}
use Rattle.base_types.specs.Ids.{same_fid}
use Rattle.base_types.specs.Name.{same_name}
use Rattle.base_types.specs.Opens.{opens_conflict}
use Rattle.base_types.specs.declared.ids.HostId.{HostId}
use Rattle.base_types.specs.declared.ids.ServerId.{ServerId}
use Rattle.base_types.specs.declared.ids.Fid.{Fid}
use Rattle.base_types.specs.declared.ids.OpenKind.{OpenKind}
use Rattle.base_types.specs.declared.limits.TheConstants.{FILE_BYTES_MAX}
use Rattle.base_types.specs.declared.span.Span.{Span}
use Rattle.base_types.specs.declared.user.User.{User}
use Rattle.tree_calls.specs.declared.call.Call.TheVariants.{Lock, OpenFile}
use Rattle.tree_calls.specs.declared.part.DirEntry.{DirEntry}
use Rattle.tree_calls.specs.declared.place.Place.{Place}
use Rattle.tree_calls.specs.declared.reply.Refusal.{Refusal}
use Rattle.tree_calls.specs.declared.reply.Refusal.TheVariants.{NoEntry, NotDir, IsDir, Denied, ReadOnly, TooMany, TooBig, NoFileset, AlreadyLocked, AlreadyOpened, Locked, OpenConflict}
use Rattle.tree_calls.specs.declared.reply.Reply.{Reply}
use Rattle.tree_calls.specs.declared.reply.Reply.TheVariants.{Ok as Done, Refused}
use Rattle.tree_objects.specs.declared.content.Anode.{Anode}
use Rattle.tree_objects.specs.declared.content.Content.{Content}
use Rattle.tree_objects.specs.declared.content.Content.TheVariants.{Dir, File}
use Rattle.tree_objects.specs.declared.content.Object.{Object}
use Rattle.tree_objects.specs.Entries.{entry_named}
use Rattle.tree_objects.specs.Objects.{is_dir, own_rights, searched}
use Rattle.tree_objects.specs.Spans.{span_between}
use Rattle.tree_filesets.specs.declared.fileset.Fileset.{Fileset}
use Rattle.tree_filesets.specs.Checks.{unless, permission}
use Rattle.tree_filesets.specs.Rights.{read_right, write_right}
use Rattle.tree_filesets.specs.Uses.{use_target, lock_target, open_target, is_changing, right_to_open}
use Rattle.tree_filesets.specs.Walk.{object_at, entered_at, entry_or_none, step, walk, found_at, target, file_target}
use Rattle.tree_answers.specs.declared.tree.Tree.{Tree}
use Rattle.tree_answers.specs.declared.tree.LockUse.{LockUse}
use Rattle.tree_answers.specs.declared.tree.OpenUse.{OpenUse}
use Rattle.tree_answers.specs.Answers.{for_user, answer_for, answer_to}
use Rattle.tree_answers.specs.Finding.{Answer, refuse, found_or, leads_to, fileset_named}
use Rattle.tree_answers.specs.Locks.{has_lock, lock_count, is_own_locked, is_excluded, lock_check, with_lock, lock_answer}
use Rattle.tree_answers.specs.Opens.{has_open, open_count, is_barred, open_check, with_open, open_answer}
use Rattle.tree_laws.specs.Labels.{locks_agree, opens_agree, LabelsAreCountedByHost, LockIsInTheWay, OpenIsInTheWay, OthersExcludeOnlySo, OverlapIsCommon, OpenTable}
use Rattle.tree_laws.proofs.Steps.{no_dir, no_file}
use Rattle.tree_objects.proofs.Observed.{and_left, and_right}
use Rattle.tree_objects.proofs.Rising.{and_both}

-- a refusal that no walk gives
pub record IsOther (never : Refusal) : Type 0 where
  pub no_entry : NoEntry ≡ never → ⊥
  pub not_dir : NotDir ≡ never → ⊥
  pub is_dir : IsDir ≡ never → ⊥
  pub read_only : ReadOnly ≡ never → ⊥
  pub no_fileset : NoFileset ≡ never → ⊥
  pub denied : (right : ℕ) → Denied right ≡ never → ⊥

too_many : IsOther TooMany
too_many = record { no_entry = λ h. cc; not_dir = λ h. cc; is_dir = λ h. cc; read_only = λ h. cc; no_fileset = λ h. cc; denied = λ right h. cc }

by_lock : IsOther Locked
by_lock = record { no_entry = λ h. cc; not_dir = λ h. cc; is_dir = λ h. cc; read_only = λ h. cc; no_fileset = λ h. cc; denied = λ right h. cc }

by_open : IsOther OpenConflict
by_open = record { no_entry = λ h. cc; not_dir = λ h. cc; is_dir = λ h. cc; read_only = λ h. cc; no_fileset = λ h. cc; denied = λ right h. cc }

same_error : {A : Type 0} (a b : Refusal) → ◌≡◌ {A = Result A Refusal} (Err a) (Err b) → a ≡ b
same_error a b h = cc

-- what is refused, if it is, for another cause
abbrev Never : {A : Type 0} → Refusal → Result A Refusal → Type 0
Never never found = found ≡ Err never → ⊥

never_then : {A B : Type 0} (never : Refusal) (found : Result A Refusal) (next : A → Result B Refusal) → Never never found → ((value : A) → Never never (next value)) → Never never (and_then found next)
never_then never (Ok value) next a b = b value
never_then {B = B} never (Err refusal) next a b = λ h. a (ap Err (same_error {A = B} refusal never h))

never_unless : {A : Type 0} (never : Refusal) (b : Bool) (refusal : Refusal) (next : Result A Refusal) → (refusal ≡ never → ⊥) → Never never next → Never never (unless b refusal next)
never_unless {A = A} never true refusal next other a = λ h. other (same_error {A = A} refusal never h)
never_unless never false refusal next other a = a

never_ok : {A : Type 0} (never : Refusal) (value : A) → Never never (Ok value)
never_ok never value = λ h. absurd (search (rules, h))

never_err : {A : Type 0} (never refusal : Refusal) → (refusal ≡ never → ⊥) → Never {A = A} never (Err refusal)
never_err {A = A} never refusal other = λ h. other (same_error {A = A} refusal never h)

-- the walk
module _ (never : Refusal) (other : IsOther never) where
  never_searched : (content : Content) (rights : ℕ) → Never never (searched content rights)
  never_searched (File list kept unsaved len) rights = never_err never NotDir other.not_dir
  never_searched (Dir entries lists) rights = by_test (allows rights 4)
    where
      by_test : (b : Bool) → Never never (if b then Ok entries else Err (Denied 4))
      by_test true = never_ok never entries
      by_test false = never_err never (Denied 4) (other.denied 4)

  never_entered : (o : Option Object) (user : User) → Never never (entered_at o user)
  never_entered None user = never_err never NoEntry other.no_entry
  never_entered (Some object) user = never_searched object.content (own_rights object user)

  never_entry : (o : Option DirEntry) → Never never (entry_or_none o)
  never_entry None = never_err never NoEntry other.no_entry
  never_entry (Some entry) = never_ok never entry

  never_step : (anodes : List Anode) (user : User) (at : ℕ) (name : List ℕ) → Never never (step anodes user at name)
  unfolding step
  never_step anodes user at name =
      never_then never (entered_at (object_at anodes at) user) _ (never_entered (object_at anodes at) user)
      (λ entries. never_then never (entry_or_none (entry_named entries name)) _ (never_entry (entry_named entries name)) (λ entry. never_ok never entry.anode))

  never_walk : (anodes : List Anode) (user : User) (at : ℕ) (path : List (List ℕ)) → Never never (walk anodes user at path)
  never_walk anodes user at [] = never_ok never at
  never_walk anodes user at (name ∷ names) = never_then never (step anodes user at name) (λ next. walk anodes user next names) (never_step anodes user at name) (λ next. never_walk anodes user next names)

  never_found : (anode : ℕ) (o : Option Object) → Never never (found_at anode o)
  never_found anode None = never_err never NoEntry other.no_entry
  never_found anode (Some object) = never_ok never (anode, object)

  never_permitted : (object : Object) (user : User) (right : ℕ) → Never never (permission object user right)
  never_permitted object user right = by_test (allows (own_rights object user) right)
    where
      by_test : (b : Bool) → Never {A = Unit {0}} never (if b then Ok tt else Err (Denied right))
      by_test true = never_ok never tt
      by_test false = never_err never (Denied right) (other.denied right)

  never_use : (fileset : Fileset) (user : User) (path : List (List ℕ)) (changing : Bool) (right : ℕ) → Never never (use_target fileset user path changing right)
  unfolding use_target file_target target
  never_use fileset user path changing right =
      never_then never (and_then (and_then (walk fileset.anodes user 1 path) (λ anode. found_at anode (object_at fileset.anodes anode))) (λ (anode, object). unless (is_dir object.content) IsDir (Ok (anode, object)))) _
      (never_then never (and_then (walk fileset.anodes user 1 path) (λ anode. found_at anode (object_at fileset.anodes anode))) _
      (never_then never (walk fileset.anodes user 1 path) _ (never_walk fileset.anodes user 1 path) (λ anode. never_found anode (object_at fileset.anodes anode)))
      (λ (anode, object). never_unless never (is_dir object.content) IsDir (Ok (anode, object)) other.is_dir (never_ok never (anode, object))))
      (λ (anode, object). never_unless never (changing && fileset.read_only) ReadOnly _ other.read_only
      (never_then never (permission object user right) _ (never_permitted object user right) (λ _. never_ok never _)))

  never_place : (tree : Tree) (server : ServerId) (name : List ℕ) → Never never (fileset_named tree server name)
  unfolding fileset_named
  never_place tree server name = by_found (find (leads_to tree server name) tree.filesets)
    where
      by_found : (o : Option Fileset) → Never never (found_or o NoFileset)
      by_found None = never_err never NoFileset other.no_fileset
      by_found (Some fileset) = never_ok never fileset

-- after the first two checks
abbrev lock_rest : Tree → HostId → User → Place → Bool → ℕ → ℕ → Result (Fid × Span) Refusal
lock_rest tree host user place writing from len =
    let span = span_between from (from + len) in
    and_then (fileset_named tree place.server place.fileset) (λ fileset.
    and_then (lock_target fileset user place.path writing) (λ fid.
    unless (nat_lt FILE_BYTES_MAX (from + len)) TooBig (
    unless (is_own_locked tree.locks host fid span) AlreadyLocked (
    unless (is_excluded tree.locks host fid span writing) Locked (
    Ok (fid, span))))))

never_lock : (tree : Tree) (host : HostId) (user : User) (place : Place) (writing : Bool) (from len : ℕ) → Never TooMany (lock_rest tree host user place writing from len)
never_lock tree host user place writing from len =
    never_then TooMany (fileset_named tree place.server place.fileset) _ (never_place TooMany too_many tree place.server place.fileset) (λ fileset.
    never_then TooMany (lock_target fileset user place.path writing) _ (never_use TooMany too_many fileset user place.path writing (if writing then write_right else read_right)) (λ fid.
    never_unless TooMany (nat_lt FILE_BYTES_MAX (from + len)) TooBig _ (λ h. cc) (
    never_unless TooMany (is_own_locked tree.locks host fid (span_between from (from + len))) AlreadyLocked _ (λ h. cc) (
    never_unless TooMany (is_excluded tree.locks host fid (span_between from (from + len)) writing) Locked _ (λ h. cc) (never_ok TooMany _)))))

abbrev open_rest : Tree → HostId → User → Place → OpenKind → Result Fid Refusal
open_rest tree host user place kind =
    and_then (fileset_named tree place.server place.fileset) (λ fileset.
    and_then (open_target fileset user place.path kind) (λ fid.
    unless (is_barred tree.opens host fid kind) OpenConflict (
    Ok fid)))

never_open : (tree : Tree) (host : HostId) (user : User) (place : Place) (kind : OpenKind) → Never TooMany (open_rest tree host user place kind)
never_open tree host user place kind =
    never_then TooMany (fileset_named tree place.server place.fileset) _ (never_place TooMany too_many tree place.server place.fileset) (λ fileset.
    never_then TooMany (open_target fileset user place.path kind) _ (never_use TooMany too_many fileset user place.path (is_changing kind) (right_to_open kind)) (λ fid.
    never_unless TooMany (is_barred tree.opens host fid kind) OpenConflict _ (λ h. cc) (never_ok TooMany fid)))

-- a call that is refused for the number of labels alone where there are so many
abbrev reply_to : {A : Type 0} → Tree → (A → Tree) → Result A Refusal → Reply
reply_to tree after found = (either found (λ value. let answer : Answer = record { reply = Done; tree = after value } in answer) (refuse tree)).reply

refused_so : {A : Type 0} (tree : Tree) (after : A → Tree) (refusal : Refusal) (found : Result A Refusal) → reply_to tree after found ≡ Refused refusal → found ≡ Err refusal
refused_so tree after refusal (Ok value) k = absurd (search (rules, k))
refused_so tree after refusal (Err other) k = ap Err (same other refusal k)
  where
    same : (a b : Refusal) → Refused a ≡ Refused b → a ≡ b
    same a b k = cc

counted : {A : Type 0} (tree : Tree) (after : A → Tree) (taken : Bool) (taken_refusal : Refusal) (count : ℕ) (rest : Result A Refusal) → taken ≡ false → Never TooMany rest →
    (reply_to tree after (unless taken taken_refusal (unless (nat_le 64 count) TooMany rest)) ≡ Refused TooMany) ↔ (64 ≤ count)
counted tree after true taken_refusal count rest free never = no_dir free
counted tree after false taken_refusal count rest free never =
    elim (leb_tells 64 count) as (λ _. (reply_to tree after (unless (nat_le 64 count) TooMany rest) ≡ Refused TooMany) ↔ (64 ≤ count)) [
      | inl (e, h) ↦ rw e (λ _. h, λ _. refl)
      | inr (e, h) ↦ rw e (λ k. absurd (never (refused_so tree after TooMany rest k)), λ k. absurd (omega (arith, h, k)))
    ]

lock_counted : (tree : Tree) (host : HostId) (user : User) (label : List ℕ) (place : Place) (writing : Bool) (from len : ℕ) → has_lock tree.locks host label ≡ false →
    ((lock_answer tree host user label place writing from len).reply ≡ Refused TooMany) ↔ (64 ≤ count_by (λ lock. lock.host.0 == host.0) tree.locks)
unfolding lock_answer lock_check
lock_counted tree host user label place writing from len free =
    counted tree (λ (found : Fid × Span). with_lock tree (record { host = host; label = label; fid = found.0; writing = writing; span = found.1 })) (has_lock tree.locks host label) AlreadyLocked (lock_count tree.locks host) (lock_rest tree host user place writing from len) free (never_lock tree host user place writing from len)

open_counted : (tree : Tree) (host : HostId) (user : User) (label : List ℕ) (place : Place) (kind : OpenKind) → has_open tree.opens host label ≡ false →
    ((open_answer tree host user label place kind).reply ≡ Refused TooMany) ↔ (64 ≤ count_by (λ opened. opened.host.0 == host.0) tree.opens)
unfolding open_answer open_check
open_counted tree host user label place kind free =
    counted tree (λ (fid : Fid). with_open tree (record { host = host; label = label; fid = fid; kind = kind })) (has_open tree.opens host label) AlreadyOpened (open_count tree.opens host) (open_rest tree host user place kind) free (never_open tree host user place kind)

pub labels_are_counted : LabelsAreCountedByHost
unfolding answer_to answer_for
labels_are_counted = record {
  locks = λ tree host user label place writing from len is_user free.
      subst (λ found. ((for_user tree found (answer_for tree host (Lock label place writing from len))).reply ≡ Refused TooMany) ↔ (64 ≤ count_by (λ lock. lock.host.0 == host.0) tree.locks)) (sym is_user)
      (lock_counted tree host user label place writing from len free);
  opens = λ tree host user label place kind is_user free.
      subst (λ found. ((for_user tree found (answer_for tree host (OpenFile label place kind))).reply ≡ Refused TooMany) ↔ (64 ≤ count_by (λ opened. opened.host.0 == host.0) tree.opens)) (sym is_user)
      (open_counted tree host user label place kind free);
}

-- what was refused for one cause
err_then : {A B : Type 0} (found : Result A Refusal) (next : A → Result B Refusal) (refusal : Refusal) → and_then found next ≡ Err refusal → Never refusal found → (value : A) × (found ≡ Ok value) × (next value ≡ Err refusal)
err_then (Ok value) next refusal h never = (value, refl, h)
err_then {B = B} (Err other) next refusal h never = absurd (never (ap Err (same_error {A = B} other refusal h)))

err_unless : {A : Type 0} (b : Bool) (other : Refusal) (next : Result A Refusal) (refusal : Refusal) → unless b other next ≡ Err refusal → (other ≡ refusal → ⊥) → next ≡ Err refusal
err_unless {A = A} true other next refusal h differ = absurd (differ (same_error {A = A} other refusal h))
err_unless false other next refusal h differ = h

err_last : {A : Type 0} (b : Bool) (refusal : Refusal) (value : A) → unless b refusal (Ok value) ≡ Err refusal → b ≡ true
err_last true refusal value h = refl
err_last false refusal value h = absurd (search (rules, h))

any_implied : {X : Type 0} (p q : X → Bool) → ((x : X) → p x ≡ true → q x ≡ true) → (xs : List X) → list_any p xs ≡ true → list_any q xs ≡ true
any_implied p q f [] h = h
any_implied p q f (x ∷ xs) h = by_test (p x) refl h (any_implied p q f xs)
  where
    or_second : (a b : Bool) → b ≡ true → (a || b) ≡ true
    or_second true b e = refl
    or_second false b e = e

    by_test : (b : Bool) → p x ≡ b → (b || list_any p xs) ≡ true → (list_any p xs ≡ true → list_any q xs ≡ true) → (q x || list_any q xs) ≡ true
    by_test true e k rest = ap (λ t. t || list_any q xs) (f x e)
    by_test false e k rest = or_second (q x) (list_any q xs) (rest k)

lock_excludes : (h n s w v : Bool) → (not h && s && (w || v)) ≡ true → (not h && not (if h then not n && not s else not s || (not w && not v))) ≡ true
lock_excludes true n s w v e = no_file e
lock_excludes false n true true v e = refl
lock_excludes false n true false true e = refl
lock_excludes false n true false false e = no_file e
lock_excludes false n false w v e = no_file e

open_excludes : (h n s c : Bool) → (not h && s && c) ≡ true → (not h && not (if h then not n else not (s && c))) ≡ true
open_excludes true n s c e = no_file e
open_excludes false n true true e = refl
open_excludes false n true false e = no_file e
open_excludes false n false c e = no_file e

lock_refused : (tree : Tree) (host : HostId) (user : User) (label : List ℕ) (place : Place) (writing : Bool) (from len : ℕ) →
    (lock_answer tree host user label place writing from len).reply ≡ Refused Locked → LockIsInTheWay tree host user label place writing from len
unfolding lock_answer lock_check
lock_refused tree host user label place writing from len h =
    let span = span_between from (from + len) in
    let a = refused_so tree (λ (found : Fid × Span). with_lock tree (record { host = host; label = label; fid = found.0; writing = writing; span = found.1 })) Locked _ h in
    let b = err_unless (has_lock tree.locks host label) AlreadyLocked _ Locked a (λ h. cc) in
    let c = err_unless (nat_le 64 (lock_count tree.locks host)) TooMany _ Locked b (λ h. cc) in
    let (fileset, d, e) = err_then (fileset_named tree place.server place.fileset) _ Locked c (never_place Locked by_lock tree place.server place.fileset) in
    let (fid, f, g) = err_then (lock_target fileset user place.path writing) _ Locked e (never_use Locked by_lock fileset user place.path writing (if writing then write_right else read_right)) in
    let i = err_unless (nat_lt FILE_BYTES_MAX (from + len)) TooBig _ Locked g (λ h. cc) in
    let j = err_unless (is_own_locked tree.locks host fid span) AlreadyLocked _ Locked i (λ h. cc) in
    let k = err_last (is_excluded tree.locks host fid span writing) Locked (fid, span) j in
    let new : LockUse = record { host = host; label = label; fid = fid; writing = writing; span = span } in (
      fid,
      ap (λ r. and_then r (λ fileset. lock_target fileset user place.path writing)) d ∙ f,
      any_implied _ (λ lock. not (lock.host.0 == host.0) && not (locks_agree lock new))
          (λ lock m. lock_excludes (lock.host.0 == host.0) (same_name lock.label label) (same_fid lock.fid fid && overlap lock.span span) lock.writing writing m) tree.locks k,
    )

open_refused : (tree : Tree) (host : HostId) (user : User) (label : List ℕ) (place : Place) (kind : OpenKind) →
    (open_answer tree host user label place kind).reply ≡ Refused OpenConflict → OpenIsInTheWay tree host user label place kind
unfolding open_answer open_check
open_refused tree host user label place kind h =
    let a = refused_so tree (λ (fid : Fid). with_open tree (record { host = host; label = label; fid = fid; kind = kind })) OpenConflict _ h in
    let b = err_unless (has_open tree.opens host label) AlreadyOpened _ OpenConflict a (λ h. cc) in
    let c = err_unless (nat_le 64 (open_count tree.opens host)) TooMany _ OpenConflict b (λ h. cc) in
    let (fileset, d, e) = err_then (fileset_named tree place.server place.fileset) _ OpenConflict c (never_place OpenConflict by_open tree place.server place.fileset) in
    let (fid, f, g) = err_then (open_target fileset user place.path kind) _ OpenConflict e (never_use OpenConflict by_open fileset user place.path (is_changing kind) (right_to_open kind)) in
    let k = err_last (is_barred tree.opens host fid kind) OpenConflict fid g in
    let new : OpenUse = record { host = host; label = label; fid = fid; kind = kind } in (
      fid,
      ap (λ r. and_then r (λ fileset. open_target fileset user place.path kind)) d ∙ f,
      any_implied _ (λ opened. not (opened.host.0 == host.0) && not (opens_agree opened new))
          (λ opened m. open_excludes (opened.host.0 == host.0) (same_name opened.label label) (same_fid opened.fid fid) (opens_conflict opened.kind kind) m) tree.opens k,
    )

pub others_exclude_only_so : OthersExcludeOnlySo
unfolding answer_to answer_for
others_exclude_only_so = record {
  locks = λ tree host user label place writing from len is_user h.
      lock_refused tree host user label place writing from len (subst (λ found. (for_user tree found (answer_for tree host (Lock label place writing from len))).reply ≡ Refused Locked) is_user h);
  opens = λ tree host user label place kind is_user h.
      open_refused tree host user label place kind (subst (λ found. (for_user tree found (answer_for tree host (OpenFile label place kind))).reply ≡ Refused OpenConflict) is_user h);
}

-- a byte in common
common_byte : (a b : Span) (at : ℕ) → has_byte a at ≡ true → has_byte b at ≡ true → overlap a b ≡ true
common_byte a b at h k =
    let l : nat_le a.from at ≡ true = and_left _ _ h in let m : nat_lt at a.to ≡ true = and_right _ _ h in
    let n : nat_le b.from at ≡ true = and_left _ _ k in let o : nat_lt at b.to ≡ true = and_right _ _ k in
    let p : a.from ≤ at = grind (arith, common_steps, l) in let q : at < a.to = grind (arith, common_steps, m) in
    let r : b.from ≤ at = grind (arith, common_steps, n) in let s : at < b.to = grind (arith, common_steps, o) in
    let less : max a.from b.from < min a.to b.to = omega (arith, p, q, r, s) in grind (arith, common_steps, less)

first_byte : (a b : Span) → overlap a b ≡ true → (at : ℕ) × (has_byte a at ≡ true) × (has_byte b at ≡ true)
first_byte a b h =
    let at = max a.from b.from in
    let less : max a.from b.from < min a.to b.to = grind (arith, common_steps, h) in
    let p : a.from ≤ at = omega arith in let q : at < a.to = omega (arith, less) in
    let r : b.from ≤ at = omega arith in let s : at < b.to = omega (arith, less) in
    let l : nat_le a.from at ≡ true = grind (arith, common_steps, p) in let m : nat_lt at a.to ≡ true = grind (arith, common_steps, q) in
    let n : nat_le b.from at ≡ true = grind (arith, common_steps, r) in let o : nat_lt at b.to ≡ true = grind (arith, common_steps, s) in
    (at, and_both _ _ l m, and_both _ _ n o)

pub overlap_is_common : OverlapIsCommon
overlap_is_common a b = (first_byte a b, λ (at, h, k). common_byte a b at h k)

pub open_table : OpenTable
open_table = record { reading = refl; writing = refl; executing = refl; shared = refl; exclusive = refl }
