-- How a tree replies to calls about labels, and the file that a host and the tree find for a lock or an open.
use Rattle.std.proofs.Common.{Bool, Err, List, None, Ok, Option, Result, Some, ap, false, nat_le, nat_lt, not, refl}
use Rattle.std.proofs.Common.{sym, true, ℕ, ◌+◌, ◌∙◌, ◌≡◌}
use Rattle.std.proofs.lemmas.Bool.{false≢true}
use Rattle.std.specs.Prelude.{if◌then◌else◌}
use Rattle.base_types.specs.Outcomes.{and_then, either}
use Rattle.base_types.specs.declared.ids.Fid.{Fid}
use Rattle.base_types.specs.declared.ids.FilesetId.{FilesetId}
use Rattle.base_types.specs.declared.ids.HostId.{HostId}
use Rattle.base_types.specs.declared.ids.OpenKind.{OpenKind}
use Rattle.base_types.specs.declared.ids.ServerId.{ServerId}
use Rattle.base_types.specs.declared.limits.TheConstants.{FILE_BYTES_MAX, LABELS_MAX}
use Rattle.base_types.specs.declared.span.Span.{Span}
use Rattle.base_types.specs.declared.user.User.{User}
use Rattle.tree_calls.specs.Rosters.{user_of}
use Rattle.tree_calls.specs.declared.call.Call.TheVariants.{CloseFile, Lock, OpenFile, Unlock}
use Rattle.tree_calls.specs.declared.place.Place.{Place}
use Rattle.tree_calls.specs.declared.reply.Refusal.{Refusal}
use Rattle.tree_calls.specs.declared.reply.Refusal.TheVariants.{AlreadyLocked, AlreadyOpened, Locked, NotLocked}
use Rattle.tree_calls.specs.declared.reply.Refusal.TheVariants.{NotOpened, OpenConflict, TooBig, TooMany}
use Rattle.tree_calls.specs.declared.reply.Reply.{Reply}
use Rattle.tree_calls.specs.declared.reply.Reply.TheVariants.{Ok as Fine, Refused}
use Rattle.tree_filesets.specs.Checks.{unless}
use Rattle.tree_filesets.specs.Uses.{lock_target, open_target}
use Rattle.tree_filesets.specs.declared.fileset.Fileset.{Fileset}
use Rattle.need_host.proofs.Found.{home_known, tree_shows}
use Rattle.need_host.proofs.Looking.{outcome_alike}
use Rattle.need_host.proofs.Rows.{lock_checks, lock_seen, open_seen}
use Rattle.need_host.specs.Calls.{Own, call_look, from_root, lock_look, open_look, refuse, reply_now}
use Rattle.need_host.specs.Calls.Verdict.{Locks, Opens, Replies}
use Rattle.need_host.specs.Laws.{AgreeUnder}
use Rattle.need_host.specs.Looks.{IsCovered, View, outcome, tree_view}
use Rattle.need_host.specs.Walks.{root_of}
use Rattle.tree_objects.specs.Spans.{span_between}
use Rattle.tree_answers.specs.Answers.{answer_for, answer_to, for_user}
use Rattle.tree_answers.specs.Finding.{Answer as TreeAnswer, fileset_named, refuse as refused}
use Rattle.tree_answers.specs.Locks.{has_lock, is_excluded, is_own_locked, lock_answer, lock_check, lock_count}
use Rattle.tree_answers.specs.Locks.{unlock_answer, with_lock}
use Rattle.tree_answers.specs.Opens.{close_answer, has_open, is_barred, open_answer, open_check, open_count, with_open}
use Rattle.tree_answers.specs.Uses.{lock_hold, open_hold, without_label}
use Rattle.tree_answers.specs.WellFormed.{IsWellFormed}
use Rattle.tree_answers.specs.declared.tree.Tree.{Tree}
use Rattle.token_types.specs.declared.token.Token.{Token}

-- the tree's replies to calls about labels
module _ (tree : Tree) (host : HostId) (user : User) (is : user_of tree.roster host ≡ Some user) where
  pub lock_reply : (label : List ℕ) (place : Place) (writing : Bool) (from len : ℕ)
      → (answer_to tree host (Lock label place writing from len)).reply
      ≡ either (lock_check tree host user label place writing from len) (λ found. Fine) (λ refusal. Refused refusal)
  unfolding answer_to answer_for lock_answer
  lock_reply label place writing from len =
      ap (λ (o : Option User). (for_user tree o (answer_for tree host (Lock label place writing from len))).reply) is
      ∙ go (lock_check tree host user label place writing from len)
    where
      go : (r : Result (Fid × Span) Refusal)
          → (either r (λ (fid, span). let answer : TreeAnswer = record {
            reply = Fine;
            tree = with_lock tree
                (record { host = host; label = label; fid = fid; writing = writing; span = span });
          } in answer) (refused tree)).reply
          ≡ either r (λ found. Fine) (λ refusal. Refused refusal)
      go (Ok found) = refl
      go (Err refusal) = refl

  pub open_reply : (label : List ℕ) (place : Place) (kind : OpenKind)
      → (answer_to tree host (OpenFile label place kind)).reply
      ≡ either (open_check tree host user label place kind) (λ found. Fine) (λ refusal. Refused refusal)
  unfolding answer_to answer_for open_answer
  open_reply label place kind =
      ap (λ (o : Option User). (for_user tree o (answer_for tree host (OpenFile label place kind))).reply) is
      ∙ go (open_check tree host user label place kind)
    where
      go : (r : Result Fid Refusal)
          → (either r (λ fid. let answer : TreeAnswer = record {
            reply = Fine;
            tree = with_open tree
                (record { host = host; label = label; fid = fid; kind = kind });
          } in answer) (refused tree)).reply
          ≡ either r (λ found. Fine) (λ refusal. Refused refusal)
      go (Ok found) = refl
      go (Err refusal) = refl

  pub unlock_reply : (label : List ℕ) → has_lock tree.locks host label ≡ true
      → (answer_to tree host (Unlock label)).reply ≡ Fine
  unfolding answer_to answer_for unlock_answer
  unlock_reply label has =
      ap (λ (o : Option User). (for_user tree o (answer_for tree host (Unlock label))).reply) is
      ∙ go (has_lock tree.locks host label) has
    where
      go : (b : Bool) → b ≡ true
          → (if not b then refused tree NotLocked else (let answer : TreeAnswer = record {
            reply = Fine;
            tree = record tree { locks = without_label lock_hold tree.locks host label };
          } in answer)).reply ≡ Fine
      go true e = refl
      go false e = absurd (false≢true e)

  pub close_reply : (label : List ℕ) → has_open tree.opens host label ≡ true
      → (answer_to tree host (CloseFile label)).reply ≡ Fine
  unfolding answer_to answer_for close_answer
  close_reply label has =
      ap (λ (o : Option User). (for_user tree o (answer_for tree host (CloseFile label))).reply) is
      ∙ go (has_open tree.opens host label) has
    where
      go : (b : Bool) → b ≡ true
          → (if not b then refused tree NotOpened else (let answer : TreeAnswer = record {
            reply = Fine;
            tree = record tree { opens = without_label open_hold tree.opens host label };
          } in answer)).reply ≡ Fine
      go true e = refl
      go false e = absurd (false≢true e)

ok_same : {A : Type 0} (x y : A) (r : Result A Refusal) → r ≡ Ok x → r ≡ Ok y → x ≡ y
ok_same x y r p q = cc

-- what passes checks has passed each
then_ok : {A B : Type 0} (r : Result A Refusal) (next : A → Result B Refusal) (y : B) → and_then r next ≡ Ok y
    → (x : A) × (r ≡ Ok x) × (next x ≡ Ok y)
then_ok (Ok x) next y e = (x, refl, e)
then_ok {A} {B} (Err refusal) next y e = absurd (let q : Err refusal ≡ Ok y = e in cc)

unless_ok : {A : Type 0} (b : Bool) (refusal : Refusal) (rest : Result A Refusal) (y : A)
    → unless b refusal rest ≡ Ok y → rest ≡ Ok y
unless_ok true refusal rest y e = absurd (let q : Err refusal ≡ Ok y = e in cc)
unless_ok false refusal rest y e = e

-- the file that a lock of the tree is on, and its bytes
pub record LockIsAt (tree : Tree) (user : User) (place : Place) (writing : Bool) (from len : ℕ) (found : Fid × Span)
    : Type 0 where
  pub fileset : Fileset
  pub named : fileset_named tree place.server place.fileset ≡ Ok fileset
  pub target : lock_target fileset user place.path writing ≡ Ok found.0
  pub span : found.1 ≡ span_between from (from + len)

pub lock_at : (tree : Tree) (host : HostId) (user : User) (label : List ℕ) (place : Place) (writing : Bool)
    (from len : ℕ) (found : Fid × Span) → lock_check tree host user label place writing from len ≡ Ok found
    → LockIsAt tree user place writing from len found
unfolding lock_check
lock_at tree host user label place writing from len found e =
    let a = unless_ok (has_lock tree.locks host label) AlreadyLocked _ found e in
    let b = unless_ok (nat_le LABELS_MAX (lock_count tree.locks host)) TooMany _ found a in
    let c = then_ok (fileset_named tree place.server place.fileset) _ found b in
    let d = then_ok (lock_target c.0 user place.path writing) _ found c.2 in
    let f = unless_ok (nat_lt FILE_BYTES_MAX (from + len)) TooBig _ found d.2 in
    let g = unless_ok (is_own_locked tree.locks host d.0 (span_between from (from + len))) AlreadyLocked _ found f in
    let h = unless_ok (is_excluded tree.locks host d.0 (span_between from (from + len)) writing) Locked _ found g in
    let one : (d.0, span_between from (from + len)) ≡ found = sym (ok_same found (
      d.0,
      span_between from
          (from + len),
    ) _ h refl) in
    record {
      fileset = c.0;
      named = c.1;
      target = d.1 ∙ ap (λ (p : Fid × Span). Ok p.0) one;
      span = sym (ap (λ (p : Fid × Span). p.1) one);
    }

pub record OpenIsAt (tree : Tree) (user : User) (place : Place) (kind : OpenKind) (found : Fid) : Type 0 where
  pub fileset : Fileset
  pub named : fileset_named tree place.server place.fileset ≡ Ok fileset
  pub target : open_target fileset user place.path kind ≡ Ok found

pub open_at : (tree : Tree) (host : HostId) (user : User) (label : List ℕ) (place : Place) (kind : OpenKind)
    (found : Fid)
    → open_check tree host user label place kind ≡ Ok found → OpenIsAt tree user place kind found
unfolding open_check
open_at tree host user label place kind found e =
    let a = unless_ok (has_open tree.opens host label) AlreadyOpened _ found e in
    let b = unless_ok (nat_le LABELS_MAX (open_count tree.opens host)) TooMany _ found a in
    let c = then_ok (fileset_named tree place.server place.fileset) _ found b in
    let d = then_ok (open_target c.0 user place.path kind) _ found c.2 in
    let g = unless_ok (is_barred tree.opens host d.0 kind) OpenConflict _ found d.2 in
    let one : d.0 ≡ found = sym (ok_same found d.0 _ g refl) in
    record { fileset = c.0; named = c.1; target = d.1 ∙ ap Ok one }

-- a host that answers a Lock or an OpenFile with ok found the same file
module _ (tree : Tree) (formed : IsWellFormed tree) (held : List Token) (view : View)
    (under : AgreeUnder held view (tree_view tree)) (own : Own) (host : HostId) (user : User)
    (seen : (server : ServerId) (name : List ℕ) (id : FilesetId) → own.seen server name ≡ Some id
    → (fileset : Fileset) × (fileset_named tree server name ≡ Ok fileset) × (fileset.id ≡ id)) where
  fine_none : (o : Option Reply) → o ≡ None → o ≡ Some Fine → ⊥
  fine_none o none e = let q : None ≡ Some Fine = sym none ∙ e in cc

  same_fileset : (server : ServerId) (name : List ℕ) (a b : Fileset) → fileset_named tree server name ≡ Ok a
      → fileset_named tree server name ≡ Ok b → a ≡ b
  same_fileset server name a b p q = let e : Ok a ≡ Ok b = sym p ∙ q in cc

  judged_lock : (r : Result Fid Refusal) (writing : Bool) (span : Span)
      → reply_now (either r (λ fid. Locks fid writing span) (λ refusal. Replies (Refused refusal))) ≡ Some Fine
      → (fid : Fid) × (r ≡ Ok fid)
  judged_lock (Ok fid) writing span e = (fid, refl)
  judged_lock (Err refusal) writing span e = absurd (let q : Some (Refused refusal) ≡ Some Fine = e in cc)

  judged_open : (r : Result Fid Refusal) (kind : OpenKind)
      → reply_now (either r (λ fid. Opens fid kind) (λ refusal. Replies (Refused refusal))) ≡ Some Fine
      → (fid : Fid) × (r ≡ Ok fid)
  judged_open (Ok fid) kind e = (fid, refl)
  judged_open (Err refusal) kind e = absurd (let q : Some (Refused refusal) ≡ Some Fine = e in cc)

  module _ (place : Place) (writing : Bool) (from len : ℕ) (found : Fid × Span)
      (is_at : LockIsAt tree user place writing from len found) where
    abbrev span : Span
    span = span_between from (from + len)

    lock_row : (o : Option FilesetId) → own.seen place.server place.fileset ≡ o
        → (let row = from_root place.server o (λ root. lock_look own host user root place.path writing from len) in
        reply_now (outcome view row) ≡ Some Fine → IsCovered held view row
        → outcome view row ≡ Locks found.0 writing found.1)
    lock_row None e fine covered = absurd (let q : None ≡ Some Fine = fine in cc)
    lock_row (Some id) e fine covered =
        let (fileset, named, same_id) = seen place.server place.fileset id e in
        let home = home_known tree place.server place.fileset id fileset formed named same_id in
        let one : fileset ≡ is_at.fileset = same_fileset place.server place.fileset fileset is_at.fileset named
        is_at.named in
        let verdict : outcome view (lock_look own host user (root_of id) place.path writing from len)
        ≡ either (lock_checks fileset own host user place.path writing from len) (λ fid. Locks fid writing span)
        (λ refusal. Replies (Refused refusal)) =
        outcome_alike held view (tree_view tree) under (lock_look own host user
        (root_of id) place.path writing from len)
        covered
        ∙ (ap (λ root. outcome (tree_view tree) (lock_look own host user root place.path writing from len))
        (sym home.root)
        ∙ lock_seen (tree_view tree) fileset home.formed (tree_shows tree fileset home.by_id) own host user place.path
        writing from len) in
        let r = judged_lock (lock_checks fileset own host user place.path writing from len) writing span
        (ap reply_now (sym verdict) ∙ fine) in
        let t = then_ok (lock_target fileset user place.path writing) _ r.0 r.1 in
        let u = unless_ok (nat_lt FILE_BYTES_MAX (from + len)) TooBig _ r.0 t.2 in
        let w = unless_ok (is_own_locked own.locks host t.0 span) AlreadyLocked _ r.0 u in
        let same_file : t.0 ≡ r.0 = sym (ok_same r.0 t.0 _ w refl) in
        let fid : r.0 ≡ found.0 =
        sym same_file ∙ ok_same t.0 found.0 (lock_target fileset user place.path writing) t.1
        (ap (λ (f : Fileset). lock_target f user place.path writing) one ∙ is_at.target) in
        verdict
        ∙ (ap (λ (q : Result Fid Refusal). either q (λ f. Locks f writing span) (λ refusal. Replies
        (Refused refusal))) r.1
        ∙ (λ i. Locks (fid i) writing (sym is_at.span i)))

    pub lock_verdict : (label : List ℕ)
        → reply_now (outcome view (call_look own host user (Lock label place writing from len))) ≡ Some Fine
        → IsCovered held view (call_look own host user (Lock label place writing from len))
        → outcome view (call_look own host user (Lock label place writing from len)) ≡ Locks found.0 writing found.1
    unfolding call_look
    lock_verdict label fine covered =
        go (has_lock own.locks host label) (nat_le LABELS_MAX (lock_count own.locks host)) fine covered
      where
        go : (has many : Bool)
            → (let row = if has then refuse AlreadyLocked else if many then refuse TooMany
            else from_root place.server (own.seen place.server place.fileset) (λ root.
            lock_look own host user root place.path writing from len) in
            reply_now (outcome view row) ≡ Some Fine → IsCovered held view row
            → outcome view row ≡ Locks found.0 writing found.1)
        go true many fine covered = absurd (let q : Some (Refused AlreadyLocked) ≡ Some Fine = fine in cc)
        go false true fine covered = absurd (let q : Some (Refused TooMany) ≡ Some Fine = fine in cc)
        go false false fine covered = lock_row (own.seen place.server place.fileset) refl fine covered

  module _ (place : Place) (kind : OpenKind) (found : Fid) (is_at : OpenIsAt tree user place kind found) where
    open_row : (o : Option FilesetId) → own.seen place.server place.fileset ≡ o
        → (let row = from_root place.server o (λ root. open_look user root place.path kind) in
        reply_now (outcome view row) ≡ Some Fine → IsCovered held view row → outcome view row ≡ Opens found kind)
    open_row None e fine covered = absurd (let q : None ≡ Some Fine = fine in cc)
    open_row (Some id) e fine covered =
        let (fileset, named, same_id) = seen place.server place.fileset id e in
        let home = home_known tree place.server place.fileset id fileset formed named same_id in
        let one : fileset ≡ is_at.fileset = same_fileset place.server place.fileset fileset is_at.fileset named
        is_at.named in
        let verdict : outcome view (open_look user (root_of id) place.path kind)
        ≡ either (open_target fileset user place.path kind) (λ fid. Opens fid kind) (λ refusal. Replies
        (Refused refusal)) =
        outcome_alike held view (tree_view tree) under (open_look user (root_of id) place.path kind) covered
        ∙ (ap (λ root. outcome (tree_view tree) (open_look user root place.path kind)) (sym home.root)
        ∙ open_seen (tree_view tree) fileset home.formed (tree_shows tree fileset home.by_id) user place.path kind) in
        verdict
        ∙ ap (λ (q : Result Fid Refusal). either q (λ f. Opens f kind) (λ refusal. Replies (Refused refusal)))
        (ap (λ (f : Fileset). open_target f user place.path kind) one ∙ is_at.target)

    pub open_verdict : (label : List ℕ)
        → reply_now (outcome view (call_look own host user (OpenFile label place kind))) ≡ Some Fine
        → IsCovered held view (call_look own host user (OpenFile label place kind))
        → outcome view (call_look own host user (OpenFile label place kind)) ≡ Opens found kind
    unfolding call_look
    open_verdict label fine covered =
        go (has_open own.opens host label) (nat_le LABELS_MAX (open_count own.opens host)) fine covered
      where
        go : (has many : Bool)
            → (let row = if has then refuse AlreadyOpened else if many then refuse TooMany
            else from_root place.server (own.seen place.server place.fileset) (λ root.
            open_look user root place.path kind) in
            reply_now (outcome view row) ≡ Some Fine → IsCovered held view row → outcome view row ≡ Opens found kind)
        go true many fine covered = absurd (let q : Some (Refused AlreadyOpened) ≡ Some Fine = fine in cc)
        go false true fine covered = absurd (let q : Some (Refused TooMany) ≡ Some Fine = fine in cc)
        go false false fine covered = open_row (own.seen place.server place.fileset) refl fine covered
