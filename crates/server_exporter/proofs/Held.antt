-- What holds of a step in the making while Changes are decided: one that is written down keeps it.
use Rattle.std.proofs.Common.{◌≡◌, ◌⊎◌, ℕ, true, List, [], ◌∷◌, ◌++◌, Some, inl, inr, refl, sym}
use Rattle.std.proofs.Common.{◌∙◌, ap, subst}
use Rattle.base_types.specs.declared.ids.HostId.{HostId}
use Rattle.base_types.specs.declared.ids.ServerId.{ServerId}
use Rattle.tree_answers.specs.declared.tree.Tree.{Tree}
use Rattle.tree_calls.specs.declared.reply.Reply.{Reply}
use Rattle.token_types.specs.declared.token.Token.{Token}
use Rattle.message_types.specs.declared.asking.Change.{Change as ChangeOf}
use Rattle.message_types.specs.declared.giving.Reclaimed.{Reclaimed as ReclaimedOf}
use Rattle.message_types.specs.declared.message.Body.TheVariants.{Done, Reclaimed}
use Rattle.message_types.specs.declared.message.Message.{Message}
use Rattle.server_decides.specs.Changes.{are_home}
use Rattle.run_rules.specs.Doings.{Doing, HasReclaimed, IsLive, NoGrace, SentTo, after_cause, epoch, sending}
use Rattle.run_rules.specs.Doings.Doing.{Admits, Sent, WritesDown}
use Rattle.run_rules.specs.Kept.{filesets_through}
use Rattle.run_rules.specs.Past.{EachInTurn, EachOnce, In, appended}
use Rattle.run_rules.specs.ServerDecides.{DecidedSo, IsAskedHere, IsDecidedHere}
use Rattle.run_rules.specs.ServerMay.{IsLast}
use Rattle.run_rules.specs.Wants.{Decides, IsQueued}
use Rattle.run_rules.specs.declared.applied.Applied.{Applied}
use Rattle.run_rules.specs.declared.applied.Applied.TheVariants.{Done as IsDone}
use Rattle.run_rules.specs.declared.applied.Request.{Request}
use Rattle.run_rules.specs.declared.applied.Request.TheVariants.{Change as Changes}
use Rattle.run_rules.specs.declared.applied.Wanted.{Wanted}
use Rattle.run_rules.specs.declared.applied.Written.{Written}
use Rattle.run_rules.specs.declared.step.Cause.{Cause}
use Rattle.server_decides.specs.StoreKeeping.{StandsFor}
use Rattle.store_state.specs.declared.state.StoreState.{StoreState}
use Rattle.server_decides.specs.Acting.{GivesBelow}
use Rattle.server_tables.specs.Answers.{AreLastChanges}
use Rattle.server_tables.specs.Gives.{AreLast, last_give}
use Rattle.server_tables.specs.Places.{is_of}
use Rattle.server_tables.specs.Standing.{AnsweredStand, Stands, WroteThis, tokens_of}
use Rattle.server_tables.specs.Updates.{unqueued}
use Rattle.server_tables.specs.declared.pending.Pending.{Pending}
use Rattle.server_tables.specs.declared.recovering.Answered.{Answered}
use Rattle.server_tables.specs.declared.recovering.Claimed.{Claimed}
use Rattle.server_tables.specs.declared.tables.Tables.{Tables}
use Rattle.server_tables.proofs.Alike.{IsInner, heard_inner, live_both, reclaimed_inner, sent_inner, write_inner}
use Rattle.server_tables.proofs.Carried.{answered_carried}
use Rattle.server_tables.proofs.Drafting.{written_more}
use Rattle.server_tables.proofs.Early.{Grows, IsEarly, IsReplyOf, each_grows, grows_inner, grows_under}
use Rattle.server_tables.proofs.Greeting.{in_parts}
use Rattle.server_tables.proofs.Making.{one_more, sending_both}
use Rattle.server_tables.proofs.Numbered.{in_removed}
use Rattle.server_decides.specs.Drafts.{word}
use Rattle.server_decides.specs.Taking.{Made}
use Rattle.server_decides.specs.Draft.{Draft}
use Rattle.server_decides.specs.Writing.{done_of, written_made, written_of}
use Rattle.server_decides.specs.Deciding.{IsPlaced}
use Rattle.server_decides.specs.Serving.{IsServed}
use Rattle.server_decides.specs.Running.{Making, making}
use Rattle.server_exporter.proofs.DecidesAll.{decided_end, written_keeps}
use Rattle.server_exporter.proofs.Decisions.{IsDeciding, decided_by, said_by}
use Rattle.server_exporter.proofs.Making.{as_sent, change_home, words_back}
use Rattle.server_decides.proofs.Served.{placed_in}
use Rattle.server_exporter.proofs.Single.{single_renewed}

-- # Lists of words

pub once_end : (ms : List Message) (m : Message) → EachOnce ms → (In m ms → ⊥) → EachOnce (ms ++ m ∷ [])
once_end [] m o new = ((λ i. i), tt)
once_end (n ∷ ms) m o new = (
  (λ i. by i),
  once_end ms m o.1 (λ i. new (inr i)),
)
  where
    split : (ns : List Message) → In n (ns ++ m ∷ []) → In n ns ⊎ (n ≡ m)
    split [] (inl e) = inr e
    split [] (inr i) = elim i [ ]
    split (k ∷ ns) (inl e) = inl (inl e)
    split (k ∷ ns) (inr i) = elim (split ns i) [ inl j ↦ inl (inr j) | inr e ↦ inr e ]

    by : In n (ms ++ m ∷ []) → ⊥
    by i = elim (split ms i) [ inl j ↦ o.0 j | inr e ↦ new (inl (sym e)) ]

-- what was written down stays so behind words
pub wrote_under : (v : Written) (more l : List Doing) → WroteThis l v → WroteThis (appended more l) v
wrote_under v [] l w = w
wrote_under v (a ∷ more) l w = wrote_under v more (a ∷ l) (inr w)

-- what was answered stays so after a doing by which no claim is granted
pub answered_inner : (server : ServerId) (past : List Doing) (a : Doing) (answers : List Answered) → IsInner a
    → ((h : HostId) (ts : List Token) → a ≡ Admits h ts → ⊥) → AnsweredStand past answers
    → AnsweredStand (a ∷ past) answers
answered_inner server past a answers i none s = record {
  answers_all = λ h r. s.answers_all h (elim ((reclaimed_inner server past a i h).0 r) [
    | inl q ↦ absurd (none h q.0 q.1)
    | inr q ↦ q
  ]);
  answered = λ b m. (let r = s.answered b m in (
    r.0,
    inr (subst (λ (e : ℕ). SentTo past b.host e r.0 (Reclaimed b.answer))
        (sym (heard_inner server past a i).epoch_is) r.1),
  ));
}

module _ (server : ServerId) (cause : Cause) (tree : Tree) (past : List Doing) (base : List Applied) where
  abbrev pub kept_by : List Applied → Tree
  kept_by applied = filesets_through cause applied tree

  -- the store keeps what the server keeps after what was applied
  pub record IsStoredSo (applied : List Applied) (x : Tables) (st : StoreState) : Type 0 where
    pub keeps : StandsFor (kept_by applied) st
    pub homes : are_home (kept_by applied) ≡ true
    pub taken : GivesBelow (last_give x.gives) st
    pub epoch : st.epoch ≡ x.hosts.epoch

  pub record IsHeld (a : Making) : Type 0 where
    pub more : List Applied
    pub deciding : IsDeciding server cause tree past base more a.tables a.draft
    pub served : IsServed a.tables a.state
    pub stored : IsStoredSo a.draft.applied a.tables a.state
    pub listed : EachOnce a.tables.hosts.listed
    pub gives : AreLast a.tables.gives
    pub changes : AreLastChanges a.tables.changes
    -- one that enters wants nothing
    pub enters : (p : Pending) (c : ChangeOf) → In p a.tables.pending → p.wanted.request ≡ Changes c
        → c.enter ≡ true → p.wanted.needs ≡ []
    pub tokens : (t : Token) → In t (tokens_of a.tables.tokens.grants) → is_of a.tables.server t.fid.fileset ≡ true
    pub answered : AnsweredStand (said_by server cause tree past a.draft) a.tables.recovering.answers
    -- the words so far may be said whatever is decided yet, and each once
    pub early : EachInTurn (IsEarly server) (sending a.draft.sent) (decided_by server cause tree past a.draft)
    pub once : EachOnce a.draft.sent
    -- a claim that waits is of a live host that hasn't reclaimed, and who is answered so has, or isn't live
    pub waits : (c : Claimed) → In c a.tables.recovering.claims → (HasReclaimed (after_cause cause past) c.host → ⊥)
        × IsLive (after_cause cause past) c.host
    pub told : (m : Message) (r : ReclaimedOf) → In m a.draft.sent → m.body ≡ Reclaimed r
        → HasReclaimed (after_cause cause past) m.host ⊎ (IsLive (after_cause cause past) m.host → ⊥)

  -- the want at a place is a Change's, and is written down with this reply
  module _ (a : Making) (h : IsHeld a) (at : ℕ) (p : Pending) (place : IsPlaced a.tables.pending at p) (c : ChangeOf)
      (is : p.wanted.request ≡ Changes c) (over : NoGrace (said_by server cause tree past a.draft)) (reply : Reply)
      (so : DecidedSo server (kept_by a.draft.applied) (said_by server cause tree past a.draft) p.wanted c reply)
    where
      abbrev x : Tables
      x = a.tables

      abbrev d : Draft
      d = a.draft

      abbrev w : Wanted
      w = p.wanted

      abbrev v : Written
      v = written_of w.host c reply

      abbrev both : Made
      both = written_made (unqueued x at p.number) d w.host c reply

      abbrev said : List Doing
      said = said_by server cause tree past d

      abbrev decided : List Doing
      decided = decided_by server cause tree past d

      abbrev told : Message
      told = word x w.host (Done (done_of c reply))

      -- the words so far, behind what is written down
      abbrev behind : List Doing
      behind = appended (sending d.sent) (WritesDown v ∷ decided)

      stands : Stands said x
      stands = h.deciding.stands

      waits : IsQueued said w
      waits = stands.wants.pending p (placed_in x.pending at p place)

      grows : Grows server decided (WritesDown v ∷ decided)
      grows = grows_inner server decided (WritesDown v) (write_inner v) (λ k e n b q. cc)

      grown : Grows server said behind
      grown = grows_under server decided (WritesDown v ∷ decided) (sending d.sent) grows

      here : IsDecidedHere server said c.fileset 0
      here = subst (λ (s : ServerId). IsDecidedHere s said c.fileset 0) h.deciding.server_is
          (subst (IsDecidedHere x.server said c.fileset) (change_home said x stands w waits c is)
          (subst (IsAskedHere x.server said w.moves) is (stands.wants.here w waits)).0)

      last : IsLast said w.host (done_of c reply)
      last e n o t f = stands.changes.above w c e n o waits is t f

      its_reply : IsReplyOf server behind w.host 0 (done_of c reply)
      its_reply = record {
        v = v;
        wrote = wrote_under v (sending d.sent) (WritesDown v ∷ decided) (inl refl);
        host = refl;
        fileset = refl;
        number = refl;
        reply = refl;
        tokens = refl;
        last = λ e n o t f. last e n o ((grown.sent w.host e n (Done o)).1 t) f;
        live = (live_both server said behind grown.heard w.host).0 (stands.wants.live w waits);
        here = elim here [ inl none ↦ inl none | inr it ↦ inr (sym (grown.heard.slots c.fileset) ∙ it) ];
      }

      epoch_is : x.hosts.epoch ≡ epoch behind
      epoch_is = stands.hosts.epoch_is ∙ grown.heard.epoch_is

      its_word : IsEarly server behind (as_sent told)
      its_word = inr (
        w.host,
        0,
        done_of c reply,
        ap (λ (e : ℕ). Sent w.host e 0 (Done (done_of c reply))) epoch_is,
        its_reply,
      )

      decided_is : decided_by server cause tree past both.draft ≡ WritesDown v ∷ decided
      decided_is = decided_end (after_cause cause past) d.applied (IsDone v) (WritesDown v) refl

      early_now : EachInTurn (IsEarly server) (sending both.draft.sent) (decided_by server cause tree past both.draft)
      early_now =
          subst (EachInTurn (IsEarly server) (sending both.draft.sent)) (sym decided_is)
          (subst (λ l. EachInTurn (IsEarly server) l (WritesDown v ∷ decided)) (sym (sending_both d.sent told))
          (one_more (IsEarly server) (sending d.sent) (as_sent told) (WritesDown v ∷ decided)
          (each_grows server decided (WritesDown v ∷ decided) (sending d.sent) grows h.early) its_word))

      decides_it : Decides (as_sent told) w.host w.request
      decides_it = subst (λ (r : Request). Decides (as_sent told) w.host r) (sym is)
          (inr (x.hosts.epoch, 0, done_of c reply, refl, refl, refl))

      new_word : In told d.sent → ⊥
      new_word i = h.deciding.mute.decides told i w (words_back d.sent decided w waits) decides_it

      answered_now : AnsweredStand (said_by server cause tree past both.draft) x.recovering.answers
      answered_now =
          answered_carried server (as_sent told ∷ WritesDown v ∷ said) (said_by server cause tree past both.draft)
          (written_more server cause d.applied d.sent v told past)
          (answered_inner server (WritesDown v ∷ said) (as_sent told) x.recovering.answers
          (sent_inner w.host x.hosts.epoch 0 (Done (done_of c reply))) (λ k ts q. cc)
          (answered_inner server said (WritesDown v) x.recovering.answers (write_inner v) (λ k ts q. cc) h.answered))

      pub written_held : (next : StoreState) → IsServed both.tables next
          → IsStoredSo both.draft.applied both.tables next → IsHeld (making both.tables both.draft next)
      written_held next served stored = record {
        more = h.more ++ IsDone v ∷ [];
        deciding = written_keeps server cause tree past base h.more x d h.deciding h.served.counted.rising p c is over
            at place reply so;
        served = served;
        stored = stored;
        listed = h.listed;
        gives = h.gives;
        changes = single_renewed (unqueued x at p.number) w.host (done_of c reply) (Some v) h.changes;
        enters = λ q o i. h.enters q o (in_removed x.pending at q i);
        tokens = h.tokens;
        answered = answered_now;
        early = early_now;
        once = once_end d.sent told h.once new_word;
        waits = h.waits;
        told = λ m r i e. elim (in_parts m d.sent (told ∷ []) i) [
          | inl j ↦ h.told m r j e
          | inr j ↦ absurd (no_claim m r j e)
        ];
      }
        where
          no_claim : (m : Message) (r : ReclaimedOf) → In m (told ∷ []) → m.body ≡ Reclaimed r → ⊥
          no_claim m r (inl f) e = let q : Done (done_of c reply) ≡ Reclaimed r =
              sym (ap (λ (n : Message). n.body) f) ∙ e in cc
          no_claim m r (inr k) e = elim k [ ]
