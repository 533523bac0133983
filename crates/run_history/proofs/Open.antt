-- Of a host's steps: a give-back that ends a use is for the open call, and so is an outstanding Change; each label is
-- in
-- use once; and while a Change is outstanding the labels are those with which it was asked.
use Rattle.std.proofs.Common.{Bool, List, None, Option, Some, ap, arith, eqb-true, false, inl, inr, refl, subst, sym}
use Rattle.std.proofs.Common.{true, ℕ, ◌&&◌, ◌==◌, ◌∙◌, ◌∷◌, ◌≡◌, ◌⊎◌}
use Rattle.std.proofs.lemmas.Bool.{eqb-false, false≢true}
use Rattle.std.specs.Option.{option_map_or}
use Rattle.std.specs.Prelude.{[], nat_le, ◌+◌, ◌/◌, ◌↔◌}
use Rattle.base_types.specs.Name.{same_name}
use Rattle.base_types.specs.declared.ids.FilesetId.{FilesetId}
use Rattle.base_types.specs.declared.ids.HostId.{HostId}
use Rattle.base_types.specs.declared.ids.OpenKind.{OpenKind}
use Rattle.base_types.specs.declared.ids.ServerId.{ServerId}
use Rattle.base_types.specs.declared.limits.TheConstants.{LABELS_MAX}
use Rattle.base_types.specs.declared.span.Span.{Span}
use Rattle.base_types.specs.declared.user.User.{User}
use Rattle.tree_calls.specs.Rosters.{user_of}
use Rattle.tree_calls.specs.declared.call.Call.{Call}
use Rattle.tree_calls.specs.declared.call.Call.TheVariants.{CloneFileset, CloseFile, Create, GetAcl, List as ListNames}
use Rattle.tree_calls.specs.declared.call.Call.TheVariants.{Lock, MakeDir, MoveFileset, NewFileset, OpenFile, Read}
use Rattle.tree_calls.specs.declared.call.Call.TheVariants.{Remove, Rename, SetAcl, Stat, Sync, Truncate, Unlock}
use Rattle.tree_calls.specs.declared.call.Call.TheVariants.{Write}
use Rattle.tree_calls.specs.declared.reply.Reply.{Reply}
use Rattle.tree_calls.specs.declared.reply.Reply.TheVariants.{Ok as Fine}
use Rattle.tree_filesets.proofs.Names.{same_self}
use Rattle.need_host.proofs.Asking.{questions_are_about_filesets}
use Rattle.need_host.specs.Calls.{Own, call_look, reply_now}
use Rattle.need_host.specs.Calls.Verdict.{Asks}
use Rattle.need_host.specs.Laws.{IsAbout}
use Rattle.need_host.specs.Looks.{outcome}
use Rattle.need_host.specs.Questions.{Question, fileset_of, is_change, numbered_under}
use Rattle.need_host.specs.Questions.Question.{ChangeAt, ChangeIn, EnterAt}
use Rattle.tree_objects.specs.Spans.{span_between}
use Rattle.tree_answers.specs.Locks.{has_lock, is_lock, is_own_locked, lock_count}
use Rattle.tree_answers.specs.Opens.{has_open, is_open, open_count}
use Rattle.tree_answers.specs.declared.tree.LockUse.{LockUse}
use Rattle.tree_answers.specs.declared.tree.OpenUse.{OpenUse}
use Rattle.message_types.specs.Soundness.{IsEnd}
use Rattle.message_types.specs.declared.asking.Change.{Change as ChangeOf}
use Rattle.message_types.specs.declared.giving.Ends.{Ends}
use Rattle.message_types.specs.declared.giving.Give.{Give}
use Rattle.message_types.specs.declared.message.Body.TheVariants.{Change}
use Rattle.message_types.specs.declared.message.Message.{Message}
use Rattle.message_types.specs.declared.telling.Done.{Done as DoneOf}
use Rattle.script_lines.specs.declared.script.Script.{Script}
use Rattle.token_types.specs.declared.token.Kind.{Kind}
use Rattle.token_types.specs.declared.token.Kind.TheVariants.{Bytes, Lock as LockToken, Opening, Status}
use Rattle.token_types.specs.declared.token.TokenId.{TokenId}
use Rattle.tree_laws.proofs.Steps.{same_number}
use Rattle.run_rules.specs.HostAsks.{AsksServer, HasChanged, IsNewChange}
use Rattle.run_rules.specs.HostMay.{HostMay, IsExact}
use Rattle.run_rules.specs.Messages.{Changing, DoneComes, HasKeptToken, Sends, Stay, home, stay_of}
use Rattle.run_rules.specs.Past.{EachOnce, In}
use Rattle.run_rules.specs.Tokens.{CauseEnds, DoneCounts, GivesUse, IsEnding, IsKnown, IsOpen, LabelInUse, Learns}
use Rattle.run_rules.specs.Tokens.{Made, end_call, end_of, number_of}
use Rattle.run_rules.specs.Views.{HasLabel, IsLock, IsOpening, is_entering, sees as host_sees, stay_asked}
use Rattle.run_parts.proofs.LabelWords.{HadKept, HasBegun}
use Rattle.run_parts.proofs.LabelLaw.{Given, given_ended}
use Rattle.run_contents.proofs.Calls.{begins_free, one_open}
use Rattle.run_contents.proofs.Uses.{IsUse, begun_use, ended_begun, ended_gives, used_begun}
use Rattle.run_contents.proofs.Words.{in_any}
use Rattle.run_contents.specs.Steps.{HostRun}
use Rattle.run_rules.specs.declared.applied.Answer.{Answer}
use Rattle.run_rules.specs.declared.step.Asked.{Asked}
use Rattle.run_rules.specs.declared.step.Labelled.{Labelled}
use Rattle.run_rules.specs.declared.step.Step.{Step}
use Rattle.run_history.proofs.Rows.{AsksOf, close_asks, close_gives, lock_asks, lock_used, open_asks, open_used}
use Rattle.run_history.proofs.Rows.{unlock_asks, unlock_gives}

-- the label is in use, or a give-back that ends its use isn't known as applied
abbrev pub Has : List Step → Labelled → Type 0
Has A u = LabelInUse A u ⊎ ((g : Give) × Given A u g × GivesUse g u × (IsKnown A g → ⊥))

-- no token stands in two give-backs
abbrev pub MadeOnce : List Step → Type 0
MadeOnce A = (g k : Give) (i : TokenId) → Made A g → Made A k → In i g.ids → In i k.ids → g ≡ k

-- the step sends to servers that are there
abbrev pub SendsReal : Step → Type 0
SendsReal s = (m : Message) → In m s.sent → m.server.0 ≡ 0 → ⊥

-- what is so of a host's steps besides its rules
abbrev pub Also : List Step → Type 0
Also [] = Unit {0}
Also (s ∷ A) = Also A × SendsReal s × MadeOnce (s ∷ A)

-- the server that a call names
abbrev pub named : Call → ServerId
named (NewFileset server name objects owner) = server
named (CloneFileset server source new) = server
named call =
    let none : ServerId = record { 0 = 0 } in
    option_map_or (λ (at : ServerId × List ℕ). at.0) (fileset_of call) none

-- how the labels stand with which a Change is asked
abbrev pub Passes : Own → HostId → ChangeOf → Call → Type 0
Passes own host c (Lock label place writing from len) =
    (has_lock own.locks host label ≡ false) × (nat_le LABELS_MAX (lock_count own.locks host) ≡ false)
    × (c.enter ≡ false → is_own_locked own.locks host c.fid (span_between from (from + len)) ≡ false)
Passes own host c (OpenFile label place kind) =
    (has_open own.opens host label ≡ false) × (nat_le LABELS_MAX (open_count own.opens host) ≡ false)
Passes own host c _ = Unit {0}

-- the labels in use are those with which a Change was asked
pub record Labelling (host : HostId) (A : List Step) (c : ChangeOf) : Type 0 where
  pub own : Own
  pub locks : (lock : LockUse) → In lock own.locks ↔ ((u : Labelled) × LabelInUse A u × IsLock host lock u)
  pub locks_once : EachOnce own.locks
  pub opens : (opened : OpenUse) → In opened own.opens ↔ ((u : Labelled) × LabelInUse A u × IsOpening host opened u)
  pub opens_once : EachOnce own.opens
  pub passes : Passes own host c c.call

-- a Change that is outstanding at a server
pub record Outstanding (host : HostId) (A : List Step) (v : ServerId) (c : ChangeOf) : Type 0 where
  pub is_open : IsOpen A (record { k = c.k; call = c.call })
  pub at : c.fileset.0 ≡ 0 → named c.call ≡ v
  pub no_end : IsEnd c.call → ⊥
  pub labels : Labelling host A c

-- all of it
pub record Firm (host : HostId) (A : List Step) : Type 0 where
  pub once : (u w : Labelled) → Has A u → Has A w → end_of u ≡ end_of w → u ≡ w
  pub given_open : (g : Give) (ends : Ends) → Made A g → g.ends ≡ Some ends → (IsKnown A g → ⊥)
      → IsOpen A (record { k = ends.k; call = ends.call })
  pub asked : (v : ServerId) (c : ChangeOf) → HasChanged A v c → Changing A v c.fileset c.number
      → Outstanding host A v c

-- the end of a use is an Unlock or a CloseFile
pub ends_is_end : (u : Labelled) → IsEnd (end_of u)
ends_is_end u = go u.token.kind
  where
    go : (k : Kind) → IsEnd (end_call k u.label)
    go (Opening kind) = tt
    go (Bytes update span) = tt
    go (Status update) = tt
    go (LockToken writing span) = tt

-- whom a change of names and filesets is asked of
call_server : (o : Option (ServerId × List ℕ)) (server : ServerId) (name : List ℕ) → o ≡ Some (server, name)
    → (let none : ServerId = record { 0 = 0 } in option_map_or (λ (at : ServerId × List ℕ). at.0) o none ≡ server)
call_server o server name e =
    ap (λ (x : Option (ServerId × List ℕ)).
    let none : ServerId = record { 0 = 0 } in option_map_or (λ (at : ServerId × List ℕ). at.0) x none) e

named_is : (call : Call) (server : ServerId) (name : List ℕ) → fileset_of call ≡ Some (server, name)
    → named call ≡ server
named_is (NewFileset at name objects owner) server of e = absurd (let q : None ≡ Some (server, of) = e in cc)
named_is (CloneFileset at source new) server of e = absurd (let q : None ≡ Some (server, of) = e in cc)
named_is (Unlock label) server of e = absurd (let q : None ≡ Some (server, of) = e in cc)
named_is (CloseFile label) server of e = absurd (let q : None ≡ Some (server, of) = e in cc)
named_is (Create place) server of e = call_server _ server of e
named_is (MakeDir place) server of e = call_server _ server of e
named_is (Remove place) server of e = call_server _ server of e
named_is (Rename from to) server of e = call_server _ server of e
named_is (Truncate place len) server of e = call_server _ server of e
named_is (SetAcl place which list) server of e = call_server _ server of e
named_is (Read place from len) server of e = call_server _ server of e
named_is (Write place from bytes) server of e = call_server _ server of e
named_is (ListNames place) server of e = call_server _ server of e
named_is (Stat place) server of e = call_server _ server of e
named_is (GetAcl place which) server of e = call_server _ server of e
named_is (Sync place) server of e = call_server _ server of e
named_is (Lock label place writing from len) server of e = call_server _ server of e
named_is (OpenFile label place kind) server of e = call_server _ server of e
named_is (MoveFileset at name to) server of e = call_server _ server of e

module _ (view : _) (own : Own) (host : HostId) (user : User) where
  founded_at : (call : Call) (server : ServerId) → fileset_of call ≡ None → is_change call ≡ true
      → outcome view (call_look own host user call) ≡ Asks (ChangeAt server) → named call ≡ server
  unfolding call_look
  founded_at (NewFileset at name objects owner) server none change e =
      let q : Asks (ChangeAt at) ≡ Asks (ChangeAt server) = e in cc
  founded_at (CloneFileset at source new) server none change e =
      let q : Asks (ChangeAt at) ≡ Asks (ChangeAt server) = e in cc
  founded_at (Unlock label) server none change e = absurd (false≢true change)
  founded_at (CloseFile label) server none change e = absurd (false≢true change)
  founded_at (Create place) server none change e = absurd (cc)
  founded_at (MakeDir place) server none change e = absurd (cc)
  founded_at (Remove place) server none change e = absurd (cc)
  founded_at (Rename from to) server none change e = absurd (cc)
  founded_at (Truncate place len) server none change e = absurd (cc)
  founded_at (SetAcl place which list) server none change e = absurd (cc)
  founded_at (Read place from len) server none change e = absurd (cc)
  founded_at (Write place from bytes) server none change e = absurd (cc)
  founded_at (ListNames place) server none change e = absurd (cc)
  founded_at (Stat place) server none change e = absurd (cc)
  founded_at (GetAcl place which) server none change e = absurd (cc)
  founded_at (Sync place) server none change e = absurd (cc)
  founded_at (Lock label place writing from len) server none change e = absurd (cc)
  founded_at (OpenFile label place kind) server none change e = absurd (cc)
  founded_at (MoveFileset at name to) server none change e = absurd (cc)

-- what is outstanding was sent
pub changing_said : (A : List Step) (v : ServerId) (fs : FilesetId) (n : ℕ) → Changing A v fs n
    → (c : ChangeOf) × HasChanged A v c × (c.fileset ≡ fs) × (c.number ≡ n)
changing_said [] v fs n e = elim e [ ]
changing_said (s ∷ A) v fs n x = elim x.0 [
  | inl (c, (to, e, k, sends, at), files, numbers) ↦ (c, (to, e, k, inl sends, at), files, numbers)
  | inr old ↦ (
      let r = changing_said A v fs n old in
      let h = r.1 in
      (r.0, (h.0, h.1, h.2, inr h.3, h.4), r.2, r.3)
      )
]

-- under a fileset it is outstanding whatever the server
pub changing_on : (A : List Step) (v w : ServerId) (fs : FilesetId) (n : ℕ) → (fs.0 ≡ 0 → ⊥) → Changing A v fs n
    → Changing A w fs n
changing_on [] v w fs n some e = e
changing_on (s ∷ A) v w fs n some x = (
  elim x.0 [
    | inl (c, (to, e, k, sends, at), files, numbers) ↦ inl (
      c,
      (to, e, k, sends, λ z. absurd (some (sym (ap (λ (f : FilesetId). f.0) files) ∙ z))),
      files,
      numbers,
    )
    | inr old ↦ inr (changing_on A v w fs n some old)
  ],
  λ d settles files numbers. elim settles [
    | inl y ↦ some (sym (ap (λ (f : FilesetId). f.0) files) ∙ y.0)
    | inr about ↦ x.1 d (inr about) files numbers
  ],
)

pub zero_or : (n : ℕ) → (n ≡ 0) ⊎ (n ≡ 0 → ⊥)
zero_or n = go (n == 0) refl
  where
    go : (b : Bool) → (n == 0) ≡ b → (n ≡ 0) ⊎ (n ≡ 0 → ⊥)
    go true e = inl (eqb-true n 0 e)
    go false e = inr (eqb-false n 0 e)

changing_at : (A : List Step) (v w : ServerId) (fs : FilesetId) (n : ℕ) → (fs.0 ≡ 0 → v ≡ w) → Changing A v fs n
    → Changing A w fs n
changing_at A v w fs n same x = elim (zero_or fs.0) [
  | inl z ↦ subst (λ (u : ServerId). Changing A u fs n) (same z) x
  | inr some ↦ changing_on A v w fs n some x
]

pub given_made : (A : List Step) (u : Labelled) (g : Give) → Given A u g → Made A g
given_made [] u g e = elim e [ ]
given_made (s ∷ A) u g (inl x) = inl x.1
given_made (s ∷ A) u g (inr e) = inr (given_made A u g e)

-- what was kept since it was taken was kept
had_kept : (A : List Step) (i : TokenId) → HasKeptToken A i → HadKept A i
had_kept [] i e = e
had_kept (s ∷ A) i (inl q) = inl q
had_kept (s ∷ A) i (inr (q, _)) = inr (had_kept A i q)

-- the use that a give-back ends, of a token that a Kept named
pub record EndsOf (script : Script) (host : HostId) (A : List Step) (g : Give) (ends : Ends) : Type 0 where
  pub u : Labelled
  pub given : Given A u g
  pub gives : GivesUse g u
  pub call : ends.call ≡ end_of u
  pub kept : HadKept A u.token.id
  pub user : User
  pub acts_for : user_of script.roster host ≡ Some user

module _ (script : Script) (host : HostId) where
  pub made_ends : (A : List Step) → HostRun script host A → (g : Give) (ends : Ends) → Made A g → g.ends ≡ Some ends
      → EndsOf script host A g ends
  made_ends [] run g ends m e = elim m [ ]
  made_ends (s ∷ A) run g ends (inl i) e =
      let k = (run.1.gives.ends g ends i e).0 in
      record {
        u = k.0;
        given = inl (k.1.0.0, i);
        gives = (ends, e, k.2, k.3);
        call = k.2;
        kept = inr (had_kept A k.0.token.id k.1.1);
        user = run.1.stance.user;
        acts_for = run.1.stance.acts_for;
      }
  made_ends (s ∷ A) run g ends (inr m) e =
      let k = made_ends A run.0 g ends m e in
      record {
        u = k.u;
        given = inr k.given;
        gives = k.gives;
        call = k.call;
        kept = inr k.kept;
        user = k.user;
        acts_for = k.acts_for;
      }

  -- one Change is outstanding
  pub one_changing : (A : List Step) → HostRun script host A → (v w : ServerId) (fs gs : FilesetId) (n m : ℕ)
      → Changing A v fs n → Changing A w gs m → (fs ≡ gs) × (n ≡ m)
  one_changing [] run v w fs gs n m a b = elim a [ ]
  one_changing (s ∷ A) run v w fs gs n m a b = run.1.asks.one_change v w fs gs n m a b

  module _ (A : List Step) (s : Step) (run : HostRun script host (s ∷ A)) where
    abbrev m : HostMay script host A s
    m = run.1

    abbrev mine : Own
    mine = m.stance.own

    -- a lock, an open file in use is known
    lock_known : (u : Labelled) (w : Bool) (span : Span) → HasLabel A s u → u.token.kind ≡ LockToken w span
        → has_lock mine.locks host u.label ≡ true
    lock_known u w span has kind =
        let lock : LockUse =
        record { host = host; label = u.label; fid = u.token.fid; writing = w; span = span } in
        in_any (is_lock host u.label) mine.locks lock
        ((m.stance.knows.locks lock).1 (u, has, (refl, refl, refl, kind)))
        (both_same host.0 u.label)
      where
        both_same : (n : ℕ) (label : List ℕ) → ((n == n) && same_name label label) ≡ true
        both_same n label = ap (λ b. b && same_name label label) (same_number n) ∙ same_self label

    open_known : (u : Labelled) (kind : OpenKind) → HasLabel A s u → u.token.kind ≡ Opening kind
        → has_open mine.opens host u.label ≡ true
    open_known u kind has is =
        let opened : OpenUse = record { host = host; label = u.label; fid = u.token.fid; kind = kind } in
        in_any (is_open host u.label) mine.opens opened
        ((m.stance.knows.opens opened).1 (u, has, (refl, refl, refl, is)))
        (both_same host.0 u.label)
      where
        both_same : (n : ℕ) (label : List ℕ) → ((n == n) && same_name label label) ≡ true
        both_same n label = ap (λ b. b && same_name label label) (same_number n) ∙ same_self label

    settled : (a : Answer) → In a s.answers
        → reply_now (outcome (host_sees A s) (call_look mine host m.stance.user a.call)) ≡ Some a.reply
    settled a i = (m.answers.answers a i).2.settled

    -- while the end of a use is on its way it isn't answered
    pub ending_unanswered : (a : Answer) → In a s.answers → (u : Labelled) → IsEnding A s u → a.call ≡ end_of u → ⊥
    ending_unanswered a i u ending e =
        go (begun_use script host A run.0 u (ended_begun script host A u ending.0 ending.1))
      where
        answered : reply_now (outcome (host_sees A s) (call_look mine host m.stance.user (end_of u))) ≡ Some a.reply
        answered = subst (λ (call : Call).
            reply_now (outcome (host_sees A s) (call_look mine host m.stance.user call)) ≡ Some a.reply) e (settled a i)

        go : IsUse u.token.kind → ⊥
        go (inl (w, span, kind)) =
            unlock_gives (host_sees A s) mine host m.stance.user u.label a.reply (lock_known u w span (inr ending) kind)
            ((m.stance.knows.gives_lock u.label).1 (
              record { host = host; label = u.label; fid = u.token.fid; writing = w; span = span },
              u,
              refl,
              (refl, refl, refl, kind),
              inr ending,
            ))
            (subst (λ (k : Kind). reply_now (outcome (host_sees A s)
            (call_look mine host m.stance.user (end_call k u.label))) ≡ Some a.reply) kind answered)
        go (inr (kind, is)) =
            close_gives (host_sees A s) mine host m.stance.user u.label a.reply (open_known u kind (inr ending) is)
            ((m.stance.knows.gives_open u.label).1 (
              record { host = host; label = u.label; fid = u.token.fid; kind = kind },
              u,
              refl,
              (refl, refl, refl, is),
              inr ending,
            ))
            (subst (λ (k : Kind). reply_now (outcome (host_sees A s)
            (call_look mine host m.stance.user (end_call k u.label))) ≡ Some a.reply) is answered)

    -- of a label that begins none has the name
    abbrev Named_so : Labelled → Call → Type 0
    Named_so w call = (end_of w ≡ call) × HasLabel A s w

    unlock_kind : (w : Labelled) (label : List ℕ) → HasBegun A w → end_of w ≡ Unlock label
        → (v : Bool) × (span : Span) × (w.token.kind ≡ LockToken v span) × (w.label ≡ label)
    unlock_kind w label begun e = go (begun_use script host A run.0 w begun)
      where
        go : IsUse w.token.kind
            → (v : Bool) × (span : Span) × (w.token.kind ≡ LockToken v span) × (w.label ≡ label)
        go (inl (v, span, kind)) =
            let q : Unlock w.label ≡ Unlock label = subst (λ (k : Kind). end_call k w.label ≡ Unlock label) kind e in
            (v, span, kind, (let p : w.label ≡ label = cc in p))
        go (inr (kind, is)) =
            absurd (let q : CloseFile w.label ≡ Unlock label =
            subst (λ (k : Kind). end_call k w.label ≡ Unlock label) is e in cc)

    close_kind : (w : Labelled) (label : List ℕ) → HasBegun A w → end_of w ≡ CloseFile label
        → (kind : OpenKind) × (w.token.kind ≡ Opening kind) × (w.label ≡ label)
    close_kind w label begun e = go (begun_use script host A run.0 w begun)
      where
        go : IsUse w.token.kind → (kind : OpenKind) × (w.token.kind ≡ Opening kind) × (w.label ≡ label)
        go (inl (v, span, kind)) =
            absurd (let q : Unlock w.label ≡ CloseFile label =
            subst (λ (k : Kind). end_call k w.label ≡ CloseFile label) kind e in cc)
        go (inr (kind, is)) =
            let q : CloseFile w.label ≡ CloseFile label =
            subst (λ (k : Kind). end_call k w.label ≡ CloseFile label) is e in
            (kind, is, (let p : w.label ≡ label = cc in p))

    label_begun : (w : Labelled) → HasLabel A s w → HasBegun A w
    label_begun w (inl usage) = used_begun script host A w usage
    label_begun w (inr ending) = ended_begun script host A w ending.0 ending.1

    fresh : (u w : Labelled) → In u s.begun → HasLabel A s w → end_of u ≡ end_of w → ⊥
    fresh u w i has e =
        let b = m.answers.begins u i in
        go b.0.call b.3 (subst (λ (r : Reply).
        reply_now (outcome (host_sees A s) (call_look mine host m.stance.user b.0.call)) ≡ Some r) b.2
        (settled b.0 b.1))
      where
        go : (call : Call) → IsExact call u
            → reply_now (outcome (host_sees A s) (call_look mine host m.stance.user call)) ≡ Some Fine → ⊥
        go (Lock label place writing from len) x fine =
            let (span, kind) = x.1 in
            let end : end_of w ≡ Unlock label =
            sym e ∙ (ap (λ (k : Kind). end_call k u.label) kind ∙ ap Unlock x.0) in
            let k = unlock_kind w label (label_begun w has) end in
            lock_used (host_sees A s) mine host m.stance.user label place writing from len
            (subst (λ (l : List ℕ). has_lock mine.locks host l ≡ true) k.3 (lock_known w k.0 k.1 has k.2)) fine
        go (OpenFile label place kind) x fine =
            let end : end_of w ≡ CloseFile label =
            sym e ∙ (ap (λ (k : Kind). end_call k u.label) x.1 ∙ ap CloseFile x.0) in
            let k = close_kind w label (label_begun w has) end in
            open_used (host_sees A s) mine host m.stance.user label place kind
            (subst (λ (l : List ℕ). has_open mine.opens host l ≡ true) k.2 (open_known w k.0 has k.1)) fine
        go _ x fine = elim x [ ]

    -- what is had after the step begins in it, or was had before and is still
    had : (u : Labelled) → Has (s ∷ A) u → In u s.begun ⊎ (Has A u × HasLabel A s u)
    had u (inl (inl i)) = inl i
    had u (inl (inr x)) = inr (inl x.0, inl x.0)
    had u (inr (g, inl y, gives, unknown)) = inr (inl y.0, inl y.0)
    had u (inr (g, inr y, gives, unknown)) =
        inr (
          inr (g, y, gives, λ k. unknown (inr k)),
          inr (g, given_ended A u g y gives, unknown),
        )

    module _ (also : Also (s ∷ A)) (firm : Firm host A) where
      once' : (u w : Labelled) → Has (s ∷ A) u → Has (s ∷ A) w → end_of u ≡ end_of w → u ≡ w
      once' u w a b e =
          elim (had u a) [
            | inl i ↦ elim (had w b) [
              | inl j ↦ m.answers.begins_one u w i j
              | inr y ↦ absurd (fresh u w i y.1 e)
            ]
            | inr x ↦ elim (had w b) [
              | inl j ↦ absurd (fresh w u j x.1 (sym e))
              | inr y ↦ firm.once u w x.0 y.0 e
            ]
          ]

      -- the open call of an outstanding Change isn't the end of a use
      no_done : (g : Give) (ends : Ends) → Made A g → g.ends ≡ Some ends → (IsKnown A g → ⊥) → (v : ServerId)
          (fs : FilesetId) (n : ℕ) → Changing A v fs n → ⊥
      no_done g ends made e unknown v fs n changing =
          let (c, has, files, numbers) = changing_said A v fs n changing in
          let out = firm.asked v c has
          (subst (λ (y : FilesetId × ℕ). Changing A v y.0 y.1) (λ i. (sym files i, sym numbers i)) changing) in
          let one = one_open script host A run.0 (record { k = c.k; call = c.call })
          (record { k = ends.k; call = ends.call }) out.is_open (firm.given_open g ends made e unknown) in
          let k = made_ends A run.0 g ends made e in
          out.no_end (subst IsEnd (sym (ap (λ (z : Asked). z.call) one ∙ k.call)) (ends_is_end k.u))

      -- two give-backs of the open call are one
      one_given : (g h : Give) (ends other : Ends) → Made A g → Made A h → g.ends ≡ Some ends → h.ends ≡ Some other
          → (IsKnown A g → ⊥) → (IsKnown A h → ⊥) → g ≡ h
      one_given g h ends other a b p q x y =
          let one = one_open script host A run.0 (record { k = ends.k; call = ends.call })
          (record { k = other.k; call = other.call }) (firm.given_open g ends a p x) (firm.given_open h other b q y) in
          let k = made_ends A run.0 g ends a p in
          let l = made_ends A run.0 h other b q in
          let u = firm.once k.u l.u (inr (g, k.given, k.gives, x)) (inr (h, l.given, l.gives, y))
          (sym k.call ∙ (ap (λ (z : Asked). z.call) one ∙ l.call)) in
          also.2 g h k.u.token.id (inr a) (inr b) k.gives.3
          (subst (λ (z : Labelled). In z.token.id h.ids) (sym u) l.gives.3)

      given_open' : (g : Give) (ends : Ends) → Made (s ∷ A) g → g.ends ≡ Some ends → (IsKnown (s ∷ A) g → ⊥)
          → IsOpen (s ∷ A) (record { k = ends.k; call = ends.call })
      given_open' g ends (inl i) e unknown = (m.gives.ends g ends i e).1
      given_open' g ends (inr made) e unknown = inr (o, not_ended, not_answered)
        where
          before : IsKnown A g → ⊥
          before k = unknown (inr k)

          o : IsOpen A (record { k = ends.k; call = ends.call })
          o = firm.given_open g ends made e before

          not_ended : CauseEnds A s (record { k = ends.k; call = ends.call }) → ⊥
          not_ended (inl (v, done, reply, counts, is)) =
              no_done g ends made e before v done.fileset done.bring.number counts.1
          not_ended (inr (h, other, b, q, same, learns, new)) =
              let one = one_given h g other ends b made q e new before in
              unknown (inl (subst (λ (z : Give). Learns A s (number_of z)) one learns))

          not_answered : (a : Answer) → In a s.answers → a.k ≡ ends.k → ⊥
          not_answered a i same =
              elim (m.answers.answers a i).1 [
                | inl begins ↦ begins_free script host A s m a.k a.call begins
                    (record { k = ends.k; call = ends.call }) o
                | inr on ↦ (
                    let one = one_open script host A run.0 (record { k = a.k; call = a.call })
                    (record { k = ends.k; call = ends.call }) on.0 o in
                    let k = made_ends A run.0 g ends made e in
                    ending_unanswered a i k.u (g, given_ended A k.u g k.given k.gives, unknown)
                    (ap (λ (z : Asked). z.call) one ∙ k.call)
                    )
              ]

      -- while a Change is outstanding nothing is answered, and no use ends
      module _ (v : ServerId) (c : ChangeOf) (after : Changing (s ∷ A) v c.fileset c.number)
          (is_open : IsOpen (s ∷ A) (record { k = c.k; call = c.call })) (no_end : IsEnd c.call → ⊥) where
        no_answer : (a : Answer) → In a s.answers → ⊥
        no_answer a i = m.answers.answers_settled a v c.fileset c.number i after

        no_give : (g : Give) (ends : Ends) → Made (s ∷ A) g → g.ends ≡ Some ends → (IsKnown (s ∷ A) g → ⊥) → ⊥
        no_give g ends made e unknown =
            let one = one_open script host (s ∷ A) run (record { k = c.k; call = c.call })
            (record { k = ends.k; call = ends.call }) is_open (given_open' g ends made e unknown) in
            let k = made_ends (s ∷ A) run g ends made e in
            no_end (subst IsEnd (sym (ap (λ (z : Asked). z.call) one ∙ k.call)) (ends_is_end k.u))

        none_made : (g : Give) (u : Labelled) → In g s.made → GivesUse g u → ⊥
        none_made g u i gives =
            let ends = gives.0 in
            let one = one_open script host (s ∷ A) run (record { k = c.k; call = c.call })
            (record { k = ends.k; call = ends.call }) is_open (m.gives.ends g ends i gives.1).1 in
            no_end (subst IsEnd (sym (ap (λ (z : Asked). z.call) one ∙ gives.2)) (ends_is_end u))

        stays_used : (u : Labelled) → LabelInUse A u → LabelInUse (s ∷ A) u
        stays_used u usage =
            inr (usage, λ e. no_answer e.0 e.1, λ g i gives. none_made g u i gives)

        was_used : (u : Labelled) → LabelInUse (s ∷ A) u → LabelInUse A u
        was_used u (inl i) = let b = m.answers.begins u i in absurd (no_answer b.0 b.1)
        was_used u (inr x) = x.0

        -- what the host has is in use
        is_used : (u : Labelled) → HasLabel A s u → LabelInUse (s ∷ A) u
        is_used u (inl usage) = stays_used u usage
        is_used u (inr (g, ended, unknown)) =
            let (made, gives) = ended_gives script host A u g ended in
            absurd (no_give g gives.0 (inr made) gives.1 unknown)

        labels_go_on : Labelling host A c → Labelling host (s ∷ A) c
        labels_go_on old = record {
          own = old.own;
          locks = λ lock. (
            λ i. (let k = (old.locks lock).0 i in (k.0, stays_used k.0 k.1, k.2)),
            λ k. (old.locks lock).1 (k.0, was_used k.0 k.1, k.2),
          );
          locks_once = old.locks_once;
          opens = λ opened. (
            λ i. (let k = (old.opens opened).0 i in (k.0, stays_used k.0 k.1, k.2)),
            λ k. (old.opens opened).1 (k.0, was_used k.0 k.1, k.2),
          );
          opens_once = old.opens_once;
          passes = old.passes;
        }

        labels_asked : Passes mine host c c.call → Labelling host (s ∷ A) c
        labels_asked passes = record {
          own = mine;
          locks = λ lock. (
            λ i. (let k = (m.stance.knows.locks lock).0 i in (k.0, is_used k.0 k.1, k.2)),
            λ k. (m.stance.knows.locks lock).1 (k.0, inl (was_used k.0 k.1), k.2),
          );
          locks_once = m.stance.knows.locks_once;
          opens = λ opened. (
            λ i. (let k = (m.stance.knows.opens opened).0 i in (k.0, is_used k.0 k.1, k.2)),
            λ k. (m.stance.knows.opens opened).1 (k.0, inl (was_used k.0 k.1), k.2),
          );
          opens_once = m.stance.knows.opens_once;
          passes = passes;
        }

      -- a Change that goes on
      goes_on : (v : ServerId) (c : ChangeOf) → Outstanding host A v c → HasChanged A v c
          → Changing A v c.fileset c.number → Changing (s ∷ A) v c.fileset c.number → Outstanding host (s ∷ A) v c
      goes_on v c old has before after = record {
        is_open = is_open';
        at = old.at;
        no_end = old.no_end;
        labels = labels_go_on v c after is_open' old.no_end old.labels;
      }
        where
          call : Asked
          call = record { k = c.k; call = c.call }

          -- a Done that counts is this Change's
          settled_by : (w : ServerId) (d : DoneOf) → DoneCounts A s w d → ⊥
          settled_by w d counts =
              let one = one_changing A run.0 v w c.fileset d.fileset c.number d.bring.number before counts.1 in
              let (b, had_it, files, numbers) = changing_said A w d.fileset d.bring.number counts.1 in
              let other = firm.asked w b had_it
              (subst (λ (y : FilesetId × ℕ). Changing A w y.0 y.1) (λ i. (sym files i, sym numbers i)) counts.1) in
              let same = one_open script host A run.0 (record { k = b.k; call = b.call })
              (record { k = c.k; call = c.call }) other.is_open old.is_open in
              elim counts.0 [
                | inr about ↦ after.1 d (inr about) (sym one.0) (sym one.1)
                | inl y ↦ (
                    let to : w ≡ v =
                    sym (other.at (ap (λ (f : FilesetId). f.0) files ∙ y.0))
                    ∙ (ap (λ (z : Asked). named z.call) same
                    ∙ old.at (ap (λ (f : FilesetId). f.0) one.0 ∙ y.0)) in
                    after.1 d (subst (λ (x : ServerId). DoneComes A s x d) to (inl y)) (sym one.0) (sym one.1)
                    )
              ]

          ended : CauseEnds A s (record { k = c.k; call = c.call }) → ⊥
          ended (inl (w, d, reply, counts, is)) = settled_by w d counts
          ended (inr (g, ends, made, e, same, learns, new)) =
              let one = one_open script host A run.0 (record { k = c.k; call = c.call })
              (record { k = ends.k; call = ends.call }) old.is_open (firm.given_open g ends made e new) in
              let k = made_ends A run.0 g ends made e in
              old.no_end (subst IsEnd (sym (ap (λ (z : Asked). z.call) one ∙ k.call)) (ends_is_end k.u))

          is_open' : IsOpen (s ∷ A) (record { k = c.k; call = c.call })
          is_open' = inr (
            old.is_open,
            ended,
            λ a i _. m.answers.answers_settled a v c.fileset c.number i after,
          )

      -- a new Change
      module _ (v : ServerId) (e n : ℕ) (c : ChangeOf) (sends : Sends s v e n (Change c))
          (new : IsNewChange script.roster host A s m.stance v n c) where
        at_home : (fileset : FilesetId) → c.fileset ≡ fileset
            → stay_asked (s ∷ A) (ChangeIn fileset) ≡ record { server = v; moves = n } → c.fileset.0 ≡ 0 → ⊥
        unfolding home
        at_home fileset files goes zero =
            let none : fileset.0 ≡ 0 = sym (ap (λ (f : FilesetId). f.0) files) ∙ zero in
            let to : home fileset ≡ v = ap (λ (p : Stay). p.server) goes in
            let at : v.0 ≡ fileset.0 / 65536 = sym (ap (λ (w : ServerId). w.0) to) in
            let no : v.0 ≡ 0 = at ∙ ap (λ k. k / 65536) none in
            also.1 sends.0 sends.1 (ap (λ (w : ServerId). w.0) sends.2 ∙ no)

        at_server : c.fileset.0 ≡ 0 → named c.call ≡ v
        at_server zero = by new.question new.asks new.numbered new.goes
          where
            by : (q : Question) → AsksServer script.roster host A s m.stance c.call q c.fid
                → c.fileset ≡ numbered_under q
                → stay_asked (s ∷ A) q ≡ record { server = v; moves = n } → named c.call ≡ v
            by (EnterAt server) (inl x) numbered goes =
                let about : IsAbout mine c.call (EnterAt server) =
                questions_are_about_filesets mine host m.stance.user c.call (host_sees A s) (EnterAt server) x.0 in
                named_is c.call server about.0 about.1 ∙ ap (λ (p : Stay). p.server) goes
            by (ChangeAt server) (inl x) numbered goes =
                let about : IsAbout mine c.call (ChangeAt server) =
                questions_are_about_filesets mine host m.stance.user c.call (host_sees A s) (ChangeAt server) x.0 in
                founded_at (host_sees A s) mine host m.stance.user c.call server about.0 about.1 x.0
                ∙ ap (λ (p : Stay). p.server) goes
            by (ChangeIn fileset) (inl x) numbered goes = absurd (at_home fileset numbered goes zero)
            by q (inr x) numbered goes =
                absurd (at_home x.0.fid.fileset (numbered ∙ ap numbered_under x.4)
                (sym (ap (stay_asked (s ∷ A)) x.4) ∙ goes) zero)

        -- the label that it is for is free
        asks_it : AsksOf (host_sees A s) m.stance.kept (call_look mine host m.stance.user c.call) c.fid
        asks_it = elim new.asks [
          | inl x ↦ inl (new.question, x.0)
          | inr x ↦ inr (x.0, x.1, x.2, x.3)
        ]

        is_no_end : IsEnd c.call → ⊥
        is_no_end is = go c.call asks_it is
          where
            go : (call : Call)
                → AsksOf (host_sees A s) m.stance.kept (call_look mine host m.stance.user call) c.fid
                → IsEnd call → ⊥
            go (Unlock label) x is = unlock_asks (host_sees A s) mine host m.stance.user m.stance.kept c.fid label x
            go (CloseFile label) x is = close_asks (host_sees A s) mine host m.stance.user m.stance.kept c.fid label x
            go _ x is = elim is [ ]

        passes' : Passes mine host c c.call
        passes' = go c.call asks_it new.asks
          where
            go : (call : Call) → AsksOf (host_sees A s) m.stance.kept (call_look mine host m.stance.user call) c.fid
                → AsksServer script.roster host A s m.stance call new.question c.fid → Passes mine host c call
            go (Lock label place writing from len) x asks =
                let k = lock_asks (host_sees A s) mine host m.stance.user m.stance.kept c.fid label place writing from
                len x in (
                  k.free,
                  k.few,
                  λ non. elim asks [
                    | inl y ↦ absurd (false≢true (sym non ∙ (new.enters ∙ ap is_entering (k.asks new.question y.0))))
                    | inr y ↦ k.lacks y.0 y.1 y.2 y.3
                  ],
                )
            go (OpenFile label place kind) x asks =
                open_asks (host_sees A s) mine host m.stance.user m.stance.kept c.fid label place kind x
            go _ x asks = tt

        asked_new : Changing (s ∷ A) v c.fileset c.number → Outstanding host (s ∷ A) v c
        asked_new after = record {
          is_open = new.is_open;
          at = at_server;
          no_end = is_no_end;
          labels = labels_asked v c after new.is_open is_no_end passes';
        }

      -- a Change is said to one server, under fileset 0
      moved_to : (v w : ServerId) (c : ChangeOf) → (c.fileset.0 ≡ 0 → w ≡ v) → Outstanding host (s ∷ A) w c
          → Outstanding host (s ∷ A) v c
      moved_to v w c to out = record {
        is_open = out.is_open;
        at = λ zero. out.at zero ∙ to zero;
        no_end = out.no_end;
        labels = out.labels;
      }

      -- so it was before
      on : (v w : ServerId) (c : ChangeOf) → (c.fileset.0 ≡ 0 → w ≡ v) → HasChanged A w c
          → Changing A w c.fileset c.number → Changing (s ∷ A) v c.fileset c.number → Outstanding host (s ∷ A) v c
      on v w c to has before after =
          moved_to v w c to (goes_on w c (firm.asked w c has before) has before
          (changing_at (s ∷ A) v w c.fileset c.number (λ zero. sym (to zero)) after))

      asked' : (v : ServerId) (c : ChangeOf) → HasChanged (s ∷ A) v c → Changing (s ∷ A) v c.fileset c.number
          → Outstanding host (s ∷ A) v c
      asked' v c (w, e, n, inl sends, to) after =
          elim (m.asks.changes w e n c sends) [
            | inl (has, before) ↦ on v w c to has before after
            | inr new ↦ moved_to v w c to (asked_new w e n c sends new
                (changing_at (s ∷ A) v w c.fileset c.number (λ zero. sym (to zero)) after))
          ]
      asked' v c (w, e, n, inr old, to) after =
          elim after.0 [
            | inr before ↦ on v v c (λ zero. refl) (w, e, n, old, to) before after
            | inl (b, (at, d, k, sends, there), files, numbers) ↦ elim (m.asks.changes at d k b sends) [
              | inl (has, before) ↦ (
                  let same : Changing A at c.fileset c.number =
                  subst (λ (y : FilesetId × ℕ). Changing A at y.0 y.1) (λ i. (files i, numbers i)) before in
                  let there' : c.fileset.0 ≡ 0 → at ≡ v =
                  λ zero. there (ap (λ (f : FilesetId). f.0) files ∙ zero) in
                  on v v c (λ zero. refl) (w, e, n, old, to) (changing_at A at v c.fileset c.number there' same) after
                  )
              | inr new ↦ (
                  let lt = new.next.above c.number (
                    c,
                    (w, e, n, old, λ zero. to zero ∙ sym (there (ap (λ (f : FilesetId). f.0) files ∙ zero))),
                    sym files,
                    refl,
                  ) in
                  absurd (omega (arith, lt, numbers))
                  )
            ]
          ]

      firm_step : Firm host (s ∷ A)
      firm_step = record { once = once'; given_open = given_open'; asked = asked' }

  pub firm : (A : List Step) → HostRun script host A → Also A → Firm host A
  firm [] run also = record {
    once = λ u w a. elim a [ inl e ↦ elim e [ ] | inr x ↦ elim x.1 [ ] ];
    given_open = λ g ends e. elim e [ ];
    asked = λ v c has changing. elim changing [ ];
  }
  firm (s ∷ A) run also = firm_step A s run also (firm A run.0 also.0)

  -- in a step that answers a call no use is on its way to its end
  pub none_ends : (A : List Step) (s : Step) → HostRun script host (s ∷ A) → Also A → (a : Answer) → In a s.answers
      → (u : Labelled) → IsEnding A s u → ⊥
  none_ends A s run also a i u ending =
      let (g, ended, unknown) = ending in
      let (made, gives) = ended_gives script host A u g ended in
      let o = (firm A run.0 also).given_open g gives.0 made gives.1 (λ k. unknown (inr k)) in
      elim (run.1.answers.answers a i).1 [
        | inl begins ↦ begins_free script host A s run.1 a.k a.call begins
            (record { k = gives.0.k; call = gives.0.call }) o
        | inr on ↦ (
            let one = one_open script host A run.0 (record { k = a.k; call = a.call })
            (record { k = gives.0.k; call = gives.0.call }) on.0 o in
            ending_unanswered A s run a i u ending (ap (λ (z : Asked). z.call) one ∙ gives.2)
            )
      ]
