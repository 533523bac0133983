-- A step in the making: what is decided, admitted and sent so far, in the order in which the rules tell it.
use Rattle.std.proofs.Common.{List, [], ap, refl, subst, sym, ℕ, ◌++◌, ◌∷◌, ◌∙◌, ◌≡◌, inl, inr}
use Rattle.base_types.specs.declared.ids.FilesetId.{FilesetId}
use Rattle.base_types.specs.declared.ids.HostId.{HostId}
use Rattle.base_types.specs.declared.ids.ServerId.{ServerId}
use Rattle.token_types.specs.declared.token.Token.{Token}
use Rattle.message_types.specs.declared.message.Body.{Body}
use Rattle.message_types.specs.declared.message.Message.{Message}
use Rattle.run_rules.specs.Doings.{Doing, Granted, HasReclaimed, IsNewlyGranted, Issues, NoGrace, Pinned, StayStamp}
use Rattle.run_rules.specs.Doings.{WasWritten}
use Rattle.run_rules.specs.Doings.{admitting, after_cause, deciding, decisions_of, sending}
use Rattle.run_rules.specs.Doings.Doing.{Admits, MakesWant, Sent, WritesDown}
use Rattle.run_rules.specs.Past.{In, appended}
use Rattle.run_rules.specs.Wants.{CanDecide, CanGrant, CanRefuse, Decides, IsBehind, IsQueued, IsQueuedBefore, Unwants}
use Rattle.run_rules.specs.declared.applied.Admission.{Admission}
use Rattle.run_rules.specs.declared.applied.Applied.{Applied}
use Rattle.run_rules.specs.declared.applied.Applied.TheVariants.{Done as IsDone, Wants as IsWanted}
use Rattle.run_rules.specs.declared.applied.Wanted.{Wanted}
use Rattle.run_rules.specs.declared.applied.Written.{Written}
use Rattle.run_rules.specs.declared.step.Cause.{Cause}
use Rattle.server_tables.specs.Standing.{WroteThis}
use Rattle.server_tables.proofs.Alike.{AreApart, Both, IsInner, SameHeard, SameWords, admit_inner, both_back}
use Rattle.server_tables.proofs.Alike.{heard_back}
use Rattle.server_tables.proofs.Alike.{both_same, both_then, granted_inner, heard_inner, heard_same, heard_then}
use Rattle.server_tables.proofs.Alike.{live_both, pinned_inner, reclaimed_inner, sent_inner, unwants_inner}
use Rattle.server_tables.proofs.Alike.{want_inner, words_moved, words_next, write_inner}
use Rattle.server_tables.proofs.Making.{deciding_both, sending_both}

-- the doings of a server, with those of a step so far
abbrev pub so_far : Cause → List Applied → List Admission → List Message → List Doing → List Doing
so_far cause applied admitted sent past =
    appended (sending sent) (appended (admitting admitted) (appended (deciding applied) (after_cause cause past)))

pub append_end : {A : Type 0} (xs : List A) (x : A) (past : List A) → appended (xs ++ x ∷ []) past
    ≡ x ∷ appended xs past
append_end [] x past = refl
append_end (y ∷ xs) x past = append_end xs x (y ∷ past)

append_none : {A : Type 0} (xs : List A) → xs ++ [] ≡ xs
append_none [] = refl
append_none (x ∷ xs) = ap (λ l. x ∷ l) (append_none xs)

pub decided_one : (applied : List Applied) (x : Applied) (a : Doing) → decisions_of x ≡ a ∷ []
    → deciding (applied ++ x ∷ []) ≡ deciding applied ++ a ∷ []
decided_one applied x a e =
    deciding_both applied (x ∷ [])
    ∙ ap (λ l. deciding applied ++ l) (append_none (decisions_of x) ∙ e)

pub decided_none : (applied : List Applied) (x : Applied) → decisions_of x ≡ []
    → deciding (applied ++ x ∷ []) ≡ deciding applied
decided_none applied x e =
    deciding_both applied (x ∷ [])
    ∙ ap (λ l. deciding applied ++ l) (append_none (decisions_of x) ∙ e) ∙ append_none (deciding applied)

-- what is sent next stands at the end
pub sent_more : (cause : Cause) (applied : List Applied) (admitted : List Admission) (sent : List Message) (m : Message)
    (past : List Doing)
    → so_far cause applied admitted (sent ++ m ∷ []) past
    ≡ Sent m.host m.epoch m.moves m.body ∷ so_far cause applied admitted sent past
sent_more cause applied admitted sent m past =
    ap (λ l. appended l (appended (admitting admitted) (appended (deciding applied) (after_cause cause past))))
    (sending_both sent m)
    ∙ append_end (sending sent) (Sent m.host m.epoch m.moves m.body) _

-- what is stored, and who is down, is no doing of its own
pub applied_more : (cause : Cause) (applied : List Applied) (admitted : List Admission) (sent : List Message)
    (x : Applied) (past : List Doing) → decisions_of x ≡ []
    → so_far cause (applied ++ x ∷ []) admitted sent past ≡ so_far cause applied admitted sent past
applied_more cause applied admitted sent x past e =
    ap (λ l. appended (sending sent) (appended (admitting admitted) (appended l (after_cause cause past))))
    (decided_none applied x e)

-- a decision goes before all that was sent
pub decided_more : (server : ServerId) (cause : Cause) (applied : List Applied) (sent : List Message) (x : Applied)
    (a : Doing) (past : List Doing) → decisions_of x ≡ a ∷ [] → IsInner a → AreApart (sending sent) a
    → SameWords server (a ∷ so_far cause applied [] sent past) (so_far cause (applied ++ x ∷ []) [] sent past)
decided_more server cause applied sent x a past e i apart =
    let begun = after_cause cause past in
    subst (λ l. SameWords server (a ∷ appended (sending sent) (appended (deciding applied) begun))
    (appended (sending sent) (appended l begun))) (sym (decided_one applied x a e))
    (subst (λ l. SameWords server (a ∷ appended (sending sent) (appended (deciding applied) begun))
    (appended (sending sent) l)) (sym (append_end (deciding applied) a begun))
    (words_moved server (appended (deciding applied) begun) (sending sent) a i apart))

-- a want is made
pub wanted_more : (server : ServerId) (cause : Cause) (applied : List Applied) (sent : List Message) (w : Wanted)
    (past : List Doing) → AreApart (sending sent) (MakesWant w)
    → SameWords server (MakesWant w ∷ so_far cause applied [] sent past)
    (so_far cause (applied ++ IsWanted w ∷ []) [] sent past)
wanted_more server cause applied sent w past apart =
    decided_more server cause applied sent (IsWanted w) (MakesWant w) past refl (want_inner w) apart

-- all that is sent is a word
sends_are : (sent : List Message) (a : Doing) → ((w : Wanted) → a ≡ MakesWant w → ⊥) → AreApart (sending sent) a
sends_are [] a none = tt
sends_are (m ∷ sent) a none =
    ((m.host, m.epoch, m.moves, m.body, refl, λ w made d. none w made), sends_are sent a none)

-- none of them decides a want
pub wants_apart : (sent : List Message) (w : Wanted)
    → ((m : Message) → In m sent → Decides (Sent m.host m.epoch m.moves m.body) w.host w.request → ⊥)
    → AreApart (sending sent) (MakesWant w)
wants_apart [] w none = tt
wants_apart (m ∷ sent) w none = (
  (
    m.host,
    m.epoch,
    m.moves,
    m.body,
    refl,
    λ v made d.
        none m (inl refl) (subst (λ (u : Wanted). Decides (Sent m.host m.epoch m.moves m.body) u.host u.request)
        (let q : v ≡ w = cc in q) d),
  ),
  wants_apart sent w (λ n i. none n (inr i)),
)

-- a Change is written down, and its host learns the reply
pub written_more : (server : ServerId) (cause : Cause) (applied : List Applied) (sent : List Message) (v : Written)
    (m : Message) (past : List Doing)
    → SameWords server (Sent m.host m.epoch m.moves m.body ∷ WritesDown v ∷ so_far cause applied [] sent past)
    (so_far cause (applied ++ IsDone v ∷ []) [] (sent ++ m ∷ []) past)
written_more server cause applied sent v m past =
    subst (SameWords server (Sent m.host m.epoch m.moves m.body ∷ WritesDown v ∷ so_far cause applied [] sent past))
    (sym (sent_more cause (applied ++ IsDone v ∷ []) [] sent m past))
    (words_next server (WritesDown v ∷ so_far cause applied [] sent past)
    (so_far cause (applied ++ IsDone v ∷ []) [] sent past)
    (decided_more server cause applied sent (IsDone v) (WritesDown v) past refl (write_inner v)
    (sends_are sent (WritesDown v) (λ w made. cc)))
    (Sent m.host m.epoch m.moves m.body))

admitted_one : (admitted : List Admission) (c : Admission)
    → admitting (admitted ++ c ∷ []) ≡ admitting admitted ++ Admits c.host c.tokens ∷ []
admitted_one [] c = refl
admitted_one (x ∷ admitted) c = ap (λ l. Admits x.host x.tokens ∷ l) (admitted_one admitted c)

-- a claim is granted
pub admitted_more : (server : ServerId) (cause : Cause) (applied : List Applied) (admitted : List Admission)
    (sent : List Message) (c : Admission) (past : List Doing)
    → SameWords server (Admits c.host c.tokens ∷ so_far cause applied admitted sent past)
    (so_far cause applied (admitted ++ c ∷ []) sent past)
admitted_more server cause applied admitted sent c past =
    let decided = appended (deciding applied) (after_cause cause past) in
    subst (λ l. SameWords server (Admits c.host c.tokens ∷ appended (sending sent) (appended
    (admitting admitted) decided))
    (appended (sending sent) (appended l decided))) (sym (admitted_one admitted c))
    (subst (λ l. SameWords server
    (Admits c.host c.tokens ∷ appended (sending sent) (appended (admitting admitted) decided))
    (appended (sending sent) l)) (sym (append_end (admitting admitted) (Admits c.host c.tokens) decided))
    (words_moved server (appended (admitting admitted) decided) (sending sent) (Admits c.host c.tokens)
    (admit_inner c.host c.tokens) (sends_are sent (Admits c.host c.tokens) (λ w made. cc))))

-- # What a word that brings nothing leaves of what can be decided

-- two lists of doings of which the same wants wait, for the same tokens
pub record SameReady (server : ServerId) (p q : List Doing) : Type 0 where
  pub heard : SameHeard server p q
  pub reclaimed : (h : HostId) → Both (HasReclaimed p h) (HasReclaimed q h)
  pub granted : (t : Token) → Both (Granted server p t) (Granted server q t)
  pub pinned : (t : Token) → Both (Pinned server p t) (Pinned server q t)
  pub written : (h : HostId) (f : FilesetId) (n : ℕ) → Both (WasWritten p h f n) (WasWritten q h f n)
  pub wrote : (w : Written) → Both (WroteThis p w) (WroteThis q w)
  pub queued : (w : Wanted) → Both (IsQueued p w) (IsQueued q w)
  pub before : (w v : Wanted) → Both (IsQueuedBefore p w v) (IsQueuedBefore q w v)

pub ready_back : {server : ServerId} {p q : List Doing} → SameReady server p q → SameReady server q p
ready_back s = record {
  heard = heard_back s.heard;
  reclaimed = λ h. both_back (s.reclaimed h);
  granted = λ t. both_back (s.granted t);
  pinned = λ t. both_back (s.pinned t);
  written = λ h f n. both_back (s.written h f n);
  wrote = λ w. both_back (s.wrote w);
  queued = λ w. both_back (s.queued w);
  before = λ w v. both_back (s.before w v);
}

pub ready_then : {server : ServerId} {p q r : List Doing} → SameReady server p q → SameReady server q r
    → SameReady server p r
ready_then s z = record {
  heard = heard_then s.heard z.heard;
  reclaimed = λ h. both_then (s.reclaimed h) (z.reclaimed h);
  granted = λ t. both_then (s.granted t) (z.granted t);
  pinned = λ t. both_then (s.pinned t) (z.pinned t);
  written = λ h f n. both_then (s.written h f n) (z.written h f n);
  wrote = λ w. both_then (s.wrote w) (z.wrote w);
  queued = λ w. both_then (s.queued w) (z.queued w);
  before = λ w v. both_then (s.before w v) (z.before w v);
}

-- a word that brings no token, and decides no want that waits
pub record IsBare (past : List Doing) (a : Doing) : Type 0 where
  pub word : (h : HostId) × (e : ℕ) × (n : ℕ) × (b : Body) × (a ≡ Sent h e n b)
  pub brings : (t : Token) (k : StayStamp) → Issues a t k → ⊥
  pub decides : (w : Wanted) → IsQueued past w → Decides a w.host w.request → ⊥

module _ (server : ServerId) (past : List Doing) (h : HostId) (e n : ℕ) (b : Body)
    (brings : (t : Token) (k : StayStamp) → Issues (Sent h e n b) t k → ⊥)
    (decides : (w : Wanted) → IsQueued past w → Decides (Sent h e n b) w.host w.request → ⊥) where
  abbrev a : Doing
  a = Sent h e n b

  i : IsInner a
  i = sent_inner h e n b

  stays : (w : Wanted) → IsQueued past w → Unwants past a w → ⊥
  stays w waits u = elim ((unwants_inner server past a i w).0 u) [
    | inl d ↦ decides w waits d
    | inr m ↦ (let q = m.1 in cc)
  ]

  on : (w : Wanted) → IsQueued past w → IsQueued (a ∷ past) w
  on w waits = inr (waits, stays w waits)

  back : (w : Wanted) → IsQueued (a ∷ past) w → IsQueued past w
  back w (inl q) = absurd (cc)
  back w (inr q) = q.0

  both_wait : (acts : List Doing) (w v : Wanted) → IsQueuedBefore acts w v → IsQueued acts w × IsQueued acts v
  both_wait [] w v o = absurd o
  both_wait (x ∷ acts) w v o = (o.1, o.2)

  pub bare_ready : SameReady server (a ∷ past) past
  bare_ready = record {
    heard = heard_inner server past a i;
    reclaimed = λ k. both_then (reclaimed_inner server past a i k)
        (λ x. elim x [ inl y ↦ absurd (let q = y.1 in cc) | inr y ↦ y ], λ y. inr y);
    granted = λ t. both_then (granted_inner server past a i t)
        (λ x. elim x [ inl y ↦ absurd (none t y) | inr y ↦ y ], λ y. inr y);
    pinned = pinned_inner server past a i;
    written = λ k f m. (λ x. elim x [ inl y ↦ absurd (let q = y.1 in cc) | inr y ↦ y ], λ y. inr y);
    wrote = λ w. (λ x. elim x [ inl y ↦ absurd (cc) | inr y ↦ y ], λ y. inr y);
    queued = λ w. (back w, on w);
    before = λ w v. (
      λ o. elim o.0 [ inl x ↦ absurd (let q = x.1 in cc) | inr x ↦ x ],
      λ o. (let waits = both_wait past w v o in (inr o, on w waits.0, on v waits.1)),
    );
  }
    where
      none : (t : Token) → IsNewlyGranted a t → ⊥
      none t (inl x) = brings t x.0 x.1
      none t (inr x) = let q = x.1 in cc

-- some such words, one after the other
abbrev pub AreBare : List Doing → List Doing → Type 0
AreBare past [] = Unit {0}
AreBare past (a ∷ more) = IsBare past a × AreBare (a ∷ past) more

pub bares_ready : (server : ServerId) (past more : List Doing) → AreBare past more
    → SameReady server (appended more past) past
bares_ready server past [] bare = record {
  heard = heard_same server past;
  reclaimed = λ h. both_same;
  granted = λ t. both_same;
  pinned = λ t. both_same;
  written = λ h f n. both_same;
  wrote = λ w. both_same;
  queued = λ w. both_same;
  before = λ w v. both_same;
}
bares_ready server past (a ∷ more) bare =
    ready_then (bares_ready server (a ∷ past) more bare.1)
    (subst (λ x. SameReady server (x ∷ past) past) (sym bare.0.word.4)
    (bare_ready server past bare.0.word.0 bare.0.word.1 bare.0.word.2 bare.0.word.3
    (λ t k x. bare.0.brings t k (subst (λ y. Issues y t k) (sym bare.0.word.4) x))
    (λ w waits d. bare.0.decides w waits (subst (λ y. Decides y w.host w.request) (sym bare.0.word.4) d))))

-- so what can be decided before them can be after them
module _ (server : ServerId) (p q : List Doing) (s : SameReady server p q) where
  over_ready : NoGrace p → NoGrace q
  over_ready over h live = (s.reclaimed h).0 (over h ((live_both server p q s.heard h).1 live))

  behind_ready : (w : Wanted) → IsBehind q w → IsBehind p w
  behind_ready w b = (b.0, (s.before b.0 w).1 b.1, b.2)

  pub grant_ready : (w : Wanted) → CanGrant server p w → CanGrant server q w
  grant_ready w g = record {
    over = over_ready g.over;
    free = λ t h. g.free t (elim h [ inl x ↦ inl ((s.granted t).1 x) | inr x ↦ inr ((s.heard.reserved t).1 x) ]);
    first = λ b. g.first (behind_ready w b);
  }

  pub refuse_ready : (w : Wanted) → CanRefuse server p w → CanRefuse server q w
  refuse_ready w g = record {
    over = over_ready g.over;
    pinned = (g.pinned.0, (s.pinned g.pinned.0).0 g.pinned.1, g.pinned.2);
    first = λ b. g.first (behind_ready w b);
  }

  pub decide_ready : (w : Wanted) → CanDecide server p w → CanDecide server q w
  decide_ready w (inl g) = inl (grant_ready w g)
  decide_ready w (inr g) = inr (refuse_ready w g)
