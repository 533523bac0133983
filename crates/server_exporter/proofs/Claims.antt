-- Claims are granted one after the other, behind all decisions of a step: the rules allow each, and what is answered,
-- and the tables stand then.
use Rattle.std.proofs.Common.{◌≡◌, ◌⊎◌, ◌==◌, ◌&&◌, ℕ, Bool, true, false, not, List, [], ◌∷◌, ◌++◌, map, inl, inr}
use Rattle.std.proofs.Common.{refl, sym, ◌∙◌, ap, subst, eq-eqb}
use Rattle.std.specs.List.{list_any}
use Rattle.std.proofs.lemmas.Bool.{and_from, and_parts, false≢true}
use Rattle.std.proofs.lemmas.List.{append-nil, append_assoc}
use Rattle.base_types.specs.declared.ids.FilesetId.{FilesetId}
use Rattle.base_types.specs.declared.ids.HostId.{HostId}
use Rattle.base_types.specs.declared.ids.ServerId.{ServerId}
use Rattle.message_types.specs.declared.giving.Outstanding.{Outstanding}
use Rattle.message_types.specs.declared.giving.Reclaimed.{Reclaimed as ReclaimedOf}
use Rattle.message_types.specs.declared.message.Body.{Body}
use Rattle.message_types.specs.declared.message.Body.TheVariants.{GiveBack, Reclaim, Reclaimed}
use Rattle.message_types.specs.declared.message.Message.{Message}
use Rattle.token_manager.specs.Grants.{with_claims}
use Rattle.token_manager.specs.declared.grants.Grants.{Grants}
use Rattle.token_table.specs.Tables.{has_id}
use Rattle.token_types.specs.declared.token.Token.{Token}
use Rattle.run_rules.specs.Doings.{Doing, HasReclaimed, IsLive, Issues, SentTo, StayStamp, admitting, after_cause}
use Rattle.run_rules.specs.Doings.{deciding, epoch, sending}
use Rattle.run_rules.specs.Doings.Doing.{Admits, Sent}
use Rattle.run_rules.specs.Past.{EachInTurn, EachOnce, In, appended}
use Rattle.run_rules.specs.ServerTokens.{MayAdmit, ServerTokens}
use Rattle.run_rules.specs.Wants.{Decides, IsQueued}
use Rattle.run_rules.specs.declared.applied.Admission.{Admission}
use Rattle.run_rules.specs.declared.applied.Applied.{Applied}
use Rattle.run_rules.specs.declared.applied.Request.{Request}
use Rattle.run_rules.specs.declared.applied.Request.TheVariants.{Change as Changes, Fetch as Asks}
use Rattle.run_rules.specs.declared.applied.Wanted.{Wanted}
use Rattle.run_rules.specs.declared.step.Cause.{Cause}
use Rattle.server_tables.specs.Claims.{answered_so, names}
use Rattle.server_tables.specs.Judging.{gave_up, has_all, is_here}
use Rattle.server_tables.specs.Listing.{no_grace}
use Rattle.server_tables.specs.Places.{is_of}
use Rattle.server_tables.specs.Standing.{AnsweredStand, Stands, tokens_of}
use Rattle.server_tables.specs.declared.recovering.Answered.{Answered}
use Rattle.server_tables.specs.declared.recovering.Claimed.{Claimed}
use Rattle.server_tables.specs.declared.tables.Tables.{Tables}
use Rattle.server_tables.proofs.Alike.{IsInner, SameHeard, SameWords, admit_inner, heard_back, heard_inner, heard_same}
use Rattle.server_tables.proofs.Alike.{heard_then, live_both, reclaimed_inner, sent_inner}
use Rattle.server_tables.proofs.Carried.{stands_carried}
use Rattle.server_tables.proofs.Drafting.{SameReady, admitted_more, append_end, sent_more, so_far}
use Rattle.server_tables.proofs.Early.{IsEarly, IsWordOf, each_grows, grows_inner}
use Rattle.server_tables.proofs.Answering.{same_fileset}
use Rattle.server_tables.proofs.Greeting.{in_parts}
use Rattle.server_tables.proofs.Idle.{idle, says, up_to}
use Rattle.server_tables.proofs.Judged.{found_first, ripe_is}
use Rattle.server_tables.proofs.Linking.{AreNew, all_admitted}
use Rattle.server_tables.proofs.Making.{one_more}
use Rattle.server_tables.proofs.Opening.{opened_grants}
use Rattle.server_tables.proofs.Quiet.{IsBlank, blank_word}
use Rattle.server_tables.proofs.Reclaiming.{answered_told}
use Rattle.server_tables.proofs.Settling.{any_in, of_map}
use Rattle.server_tables.proofs.Still.{still}
use Rattle.server_tables.proofs.Without.{in_filter}
use Rattle.server_decides.specs.Drafts.{word}
use Rattle.server_decides.specs.Taking.{Made, made}
use Rattle.server_decides.specs.Draft.{Draft}
use Rattle.server_decides.specs.Claiming.{AdmitsOne, all_answered, answer_of, is_claimed, is_ripe}
use Rattle.server_decides.specs.Claiming.{to_admit}
use Rattle.server_decides.specs.Going.{GoesTo}
use Rattle.server_decides.proofs.Admits.{admission_may, admission_stands, answer_word, new_of}
use Rattle.server_decides.proofs.Chains.{goes_keeps}
use Rattle.server_decides.proofs.Picks.{picked_apart, picked_are}
use Rattle.server_exporter.proofs.Decisions.{AreMute, mute_ready}
use Rattle.server_exporter.proofs.Lapses.{in_turn_both, once_both, sending_append}
use Rattle.run_tokens.specs.Unmoved.{is_move}
use Rattle.server_exporter.proofs.Making.{as_sent}

abbrev pub said_to : Tables → HostId → List ReclaimedOf → List Message
said_to x h answers = map (λ r. word x h (Reclaimed r)) answers

-- # What is answered brings no token, and decides no want

reclaimed_blank : (r : ReclaimedOf) → IsBlank (Reclaimed r)
reclaimed_blank r = record { grant = λ g e. cc; done = λ d e. cc; revoke = λ k e. cc }

brings_none : (h : HostId) (e n : ℕ) (r : ReclaimedOf) (t : Token) (k : StayStamp)
    → Issues (Sent h e n (Reclaimed r)) t k → ⊥
brings_none h e n r t k i = elim i.3 [ inl q ↦ (let p = q.1 in cc) | inr q ↦ (let p = q.1 in cc) ]

decides_none : (h : HostId) (e n : ℕ) (r : ReclaimedOf) (k : HostId) (q : Request)
    → Decides (Sent h e n (Reclaimed r)) k q → ⊥
decides_none h e n r k (Asks f) d = let p = d.3 in cc
decides_none h e n r k (Changes f) (inl d) = let p = d.1 in cc
decides_none h e n r k (Changes f) (inr d) = let p = d.3 in cc

its_answer : (a b : ReclaimedOf) → Reclaimed a ≡ Reclaimed b → a ≡ b
its_answer a b e = cc

-- which of them a message is
pub in_said : (x : Tables) (h : HostId) (rs : List ReclaimedOf) (m : Message) → In m (said_to x h rs)
    → (r : ReclaimedOf) × In r rs × (word x h (Reclaimed r) ≡ m)
in_said x h rs m i = of_map (λ (r : ReclaimedOf). word x h (Reclaimed r)) m rs i

module _ (server : ServerId) (decided : List Doing) where
  mute_more : (sent : List Message) → AreMute server decided sent → (x : Tables) (h : HostId) (rs : List ReclaimedOf)
      → AreMute server decided (sent ++ said_to x h rs)
  mute_more sent g x h rs = record {
    brings = λ m i t k o. elim (in_parts m sent (said_to x h rs) i) [
      | inl j ↦ g.brings m j t k o
      | inr j ↦ (let f = in_said x h rs m j in
          brings_none h x.hosts.epoch 0 f.0 t k (subst (λ (n : Message). Issues (as_sent n) t k) (sym f.2) o))
    ];
    decides = λ m i w u o. elim (in_parts m sent (said_to x h rs) i) [
      | inl j ↦ g.decides m j w u o
      | inr j ↦ (let f = in_said x h rs m j in
          decides_none h x.hosts.epoch 0 f.0 w.host w.request
          (subst (λ (n : Message). Decides (as_sent n) w.host w.request) (sym f.2) o))
    ];
  }

  queued_back : (admitted : List Admission) (before : List Doing) (w : Wanted)
      → IsQueued (appended (admitting admitted) before) w → IsQueued before w
  queued_back [] before w u = u
  queued_back (a ∷ more) before w u = elim (queued_back more (Admits a.host a.tokens ∷ before) w u) [
    | inl p ↦ absurd (cc)
    | inr p ↦ p.0
  ]

  -- so they are behind what was admitted
  mute_behind : (admitted : List Admission) (sent : List Message) → AreMute server decided sent
      → AreMute server (appended (admitting admitted) decided) sent
  mute_behind admitted sent g = record {
    brings = g.brings;
    decides = λ m i w u o. g.decides m i w (queued_back admitted decided w u) o;
  }

-- # Words that are said one after the other

so_more : (cause : Cause) (applied : List Applied) (admitted : List Admission) (sent ms : List Message)
    (past : List Doing)
    → so_far cause applied admitted (sent ++ ms) past
    ≡ appended (sending ms) (so_far cause applied admitted sent past)
so_more cause applied admitted sent [] past =
    ap (λ (l : List Message). so_far cause applied admitted l past) (append-nil sent)
so_more cause applied admitted sent (m ∷ ms) past =
    ap (λ (l : List Message). so_far cause applied admitted l past) (sym (append_assoc sent (m ∷ []) ms))
    ∙ so_more cause applied admitted (sent ++ m ∷ []) ms past
    ∙ ap (λ (l : List Doing). appended (sending ms) l) (sent_more cause applied admitted sent m past)

admits_both : (admitted : List Admission) (a : Admission)
    → admitting (admitted ++ a ∷ []) ≡ admitting admitted ++ Admits a.host a.tokens ∷ []
admits_both [] a = refl
admits_both (b ∷ bs) a = ap (λ (l : List Doing). Admits b.host b.tokens ∷ l) (admits_both bs a)

word_inner : (m : Message) → IsInner (as_sent m)
word_inner m = sent_inner m.host m.epoch m.moves m.body

-- the same was heard before them
pub sent_heard : (server : ServerId) (ms : List Message) (before : List Doing)
    → SameHeard server before (appended (sending ms) before)
sent_heard server [] before = heard_same server before
sent_heard server (m ∷ ms) before =
    heard_then (heard_back (heard_inner server before (as_sent m) (word_inner m)))
    (sent_heard server ms (as_sent m ∷ before))

-- and the same hosts had reclaimed
one_was : (server : ServerId) (before : List Doing) (m : Message) (k : HostId) → HasReclaimed (as_sent m ∷ before) k
    → HasReclaimed before k
one_was server before m k r = elim ((reclaimed_inner server before (as_sent m) (word_inner m) k).0 r) [
  | inl p ↦ absurd (let u = p.1 in cc)
  | inr p ↦ p
]

pub sent_was : (server : ServerId) (ms : List Message) (before : List Doing) (k : HostId)
    → HasReclaimed (appended (sending ms) before) k → HasReclaimed before k
sent_was server [] before k r = r
sent_was server (m ∷ ms) before k r = one_was server before m k (sent_was server ms (as_sent m ∷ before) k r)

pub sent_is : (server : ServerId) (ms : List Message) (before : List Doing) (k : HostId) → HasReclaimed before k
    → HasReclaimed (appended (sending ms) before) k
sent_is server [] before k r = r
sent_is server (m ∷ ms) before k r = sent_is server ms (as_sent m ∷ before) k
    ((reclaimed_inner server before (as_sent m) (word_inner m) k).1 (inr r))

-- the tables stand behind the answers
told_stands : (x y : Tables) (h : HostId) → y.hosts.epoch ≡ x.hosts.epoch → (rs : List ReclaimedOf)
    (before : List Doing) → Stands before y → Stands (appended (sending (said_to x h rs)) before) y
told_stands x y h same [] before s = s
told_stands x y h same (r ∷ rs) before s =
    let w = as_sent (word x h (Reclaimed r)) in
    told_stands x y h same rs (w ∷ before)
    (still before w y
    (idle y.server y.stamp before w
    (says h x.hosts.epoch 0 (Reclaimed r) (blank_word (Reclaimed r) (reclaimed_blank r)))
    (up_to before h x.hosts.epoch 0 (Reclaimed r) (sym same ∙ s.hosts.epoch_is))) s)

-- and tell what was answered
answered_on : (x : Tables) (h : HostId) (rs : List ReclaimedOf) (before : List Doing) (answers : List Answered)
    → x.hosts.epoch ≡ epoch before → AnsweredStand before answers
    → AnsweredStand (appended (sending (said_to x h rs)) before) (all_answered answers h rs)
answered_on x h [] before answers e z = z
answered_on x h (r ∷ rs) before answers e z =
    let m = word x h (Reclaimed r) in
    answered_on x h rs (as_sent m ∷ before) (answered_so answers h r) e
    (answered_told before (as_sent m ∷ before) answers h r z refl
    (λ k c. inr (one_was x.server before m k c)) (λ k n b t. inr t) 0
    (inl (ap (λ (n : ℕ). Sent h n 0 (Reclaimed r)) e)))

-- a host has reclaimed, and some answer is said to it
answered_all : (x : Tables) (h : HostId) (rs : List ReclaimedOf) (before now : List Doing) (answers : List Answered)
    → AnsweredStand before answers → epoch now ≡ epoch before → x.hosts.epoch ≡ epoch before
    → ((k : HostId) → HasReclaimed now k → (k ≡ h) ⊎ HasReclaimed before k)
    → ((k : HostId) (e n : ℕ) (b : Body) → SentTo before k e n b → SentTo now k e n b)
    → (r : ReclaimedOf) → In r rs
    → AnsweredStand (appended (sending (said_to x h rs)) now) (all_answered answers h rs)
answered_all x h [] before now answers z same e was on r i = elim i [ ]
answered_all x h (q ∷ rs) before now answers z same e was on r i =
    let m = word x h (Reclaimed q) in
    answered_on x h rs (as_sent m ∷ now) (answered_so answers h q) (e ∙ sym same)
    (answered_told before (as_sent m ∷ now) answers h q z same
    (λ k c. was k (one_was x.server now m k c)) (λ k n b t. inr (on k (epoch before) n (Reclaimed b) t)) 0
    (inl (ap (λ (n : ℕ). Sent h n 0 (Reclaimed q)) e)))

word_heard : (server : ServerId) (p q : List Doing) (h : HostId) (n : ℕ) (b : Body) → SameHeard server p q
    → IsWordOf server p h n b → IsWordOf server q h n b
word_heard server p q h n b s c = record {
  blank = c.blank;
  gone = λ o e. (let x = c.gone o e in (sym (s.slots o.fileset) ∙ x.0, (s.applied h o).0 x.1));
  reclaimed = λ r o e i. (s.applied h o).0 (c.reclaimed r o e i);
  left_out = λ r o e i. (s.given_up h o).0 (c.left_out r o e i);
}

-- the rules let each be said
told_early : (server : ServerId) (past : List Doing) (x : Tables) (h : HostId) → x.hosts.epoch ≡ epoch past
    → (rs : List ReclaimedOf) → ((r : ReclaimedOf) → In r rs → IsWordOf server past h 0 (Reclaimed r))
    → (now : List Doing) → SameHeard server past now
    → EachInTurn (IsEarly server) (sending (said_to x h rs)) now
told_early server past x h e [] w now s = tt
told_early server past x h e (r ∷ rs) w now s =
    let m = word x h (Reclaimed r) in (
      inl (
        h,
        0,
        Reclaimed r,
        ap (λ (n : ℕ). Sent h n 0 (Reclaimed r)) (e ∙ s.epoch_is),
        word_heard server past now h 0 (Reclaimed r) s (w r (inl refl)),
      ),
      told_early server past x h e rs (λ q i. w q (inr i)) (as_sent m ∷ now)
          (heard_then s (heard_back (heard_inner server now (as_sent m) (word_inner m)))),
    )

-- each is said once
said_once : (x : Tables) (h : HostId) (rs : List ReclaimedOf) → EachOnce rs → EachOnce (said_to x h rs)
said_once x h [] o = tt
said_once x h (r ∷ rs) o = (
  λ i. (let f = in_said x h rs (word x h (Reclaimed r)) i in
      o.0 (subst (λ (q : ReclaimedOf). In q rs) (its_answer f.0 r (ap (λ (m : Message). m.body) f.2)) f.1)),
  said_once x h rs o.1,
)

-- # A claim is granted

-- the same may be admitted
may_ready : (server : ServerId) (p q : List Doing) → SameReady server p q → (h : HostId) (ts : List Token)
    → MayAdmit server p h ts → MayAdmit server q h ts
may_ready server p q s h ts m = record {
  first = λ c. m.first ((s.reclaimed h).1 c);
  live = (live_both server p q s.heard h).0 m.live;
  claim = m.claim;
  moves = m.moves;
  took = (s.heard.took h m.moves (Reclaim m.claim)).0 m.took;
  waited = λ o i some here.
      (let g = m.waited o i some (s.heard.slots o.fileset ∙ here) in
      (g.0, (s.heard.took_of h o.fileset (GiveBack g.0)).0 g.1, g.2, g.3));
  sound = λ t i. (let z = m.sound t i in (
    z.0,
    z.1,
    (z.2.0, z.2.1, z.2.2, sym (s.heard.slots z.2.0.fileset) ∙ z.2.3),
    (λ u. z.3 ((s.heard.given_up h t.id).1 u)),
    (λ k. z.4 (k.0, (s.granted k.0).1 k.1, k.2)),
  ));
  whole = λ t i here up is.
      m.whole t i (here.0, here.1, here.2, s.heard.slots here.0.fileset ∙ here.3)
      (λ u. up ((s.heard.given_up h t.id).0 u)) (λ k. is (k.0, (s.granted k.0).0 k.1, k.2));
  apart = m.apart;
}

not_so : (b : Bool) → not b ≡ true → b ≡ false
not_so true e = absurd (false≢true e)
not_so false e = refl

same_admits : (h k : HostId) (ts us : List Token) → Admits h ts ≡ Admits k us → (h ≡ k) × (ts ≡ us)
same_admits h k ts us p = (cc, cc)

admit_tokens : (server : ServerId) (past : List Doing) (h : HostId) (ts : List Token) → MayAdmit server past h ts
    → ServerTokens server past (Admits h ts)
admit_tokens server past h ts may = record {
  epochs = λ k e n b p. absurd (cc);
  grants = λ k e n o p. absurd (cc);
  dones = λ k e n o p. absurd (cc);
  revokes = λ k e n r i p. absurd (cc);
  revokes_here = λ k e n r p. absurd (cc);
  stamps = λ k e n z r p. absurd (cc);
  gones = λ k e n o p. absurd (cc);
  reclaimed = λ k e n r o p. absurd (cc);
  left_out = λ k e n r i p. absurd (cc);
  admits = λ k us p. (let q = same_admits h k ts us p in
      subst (λ (z : HostId × List Token). MayAdmit server past z.0 z.1) (λ i. (q.0 i, q.1 i)) may);
  writes = λ w p. absurd (cc);
  writes_once = λ w p. absurd (cc);
  reserves = λ us t u p. absurd (cc);
}

module _ (cause : Cause) (past : List Doing) where
  abbrev pub decided_in : Draft → List Doing
  decided_in d = appended (deciding d.applied) (after_cause cause past)

  abbrev pub admitted_in : Draft → List Doing
  admitted_in d = appended (admitting d.admitted) (decided_in d)

  abbrev pub said_in : Draft → List Doing
  said_in d = appended (sending d.sent) (admitted_in d)

  -- what was granted so far
  pub record IsGranting (x : Tables) (d : Draft) : Type 0 where
    pub none : list_any is_move d.applied ≡ false
    pub stands : Stands (said_in d) x
    pub answered : AnsweredStand (said_in d) x.recovering.answers
    -- a claim that waits is of a live host that hasn't reclaimed
    pub waits : (c : Claimed) → In c x.recovering.claims → (HasReclaimed (said_in d) c.host → ⊥)
        × IsLive (said_in d) c.host
    pub homes : (t : Token) → In t (tokens_of x.tokens.grants) → is_of x.server t.fid.fileset ≡ true
    pub mute : AreMute x.server (decided_in d) d.sent
    pub admits : EachInTurn (ServerTokens x.server) (admitting d.admitted) (decided_in d)
    pub words : EachInTurn (IsEarly x.server) (sending d.sent) (admitted_in d)
    pub once : EachOnce d.sent
    -- who was told that its claim is answered has reclaimed, or isn't live
    pub told : (m : Message) (r : ReclaimedOf) → In m d.sent → m.body ≡ Reclaimed r
        → HasReclaimed (said_in d) m.host ⊎ (IsLive (said_in d) m.host → ⊥)

  -- one claim more
  module _ (x : Tables) (d : Draft) (g : IsGranting x d) (y : Tables) (e : Draft)
      (one : AdmitsOne (made x d) (made y e)) where
    abbrev a : Admission
    a = one.admission

    abbrev c : Claimed
    c = one.next.claimed

    abbrev before : List Doing
    before = said_in d

    abbrev admit : Doing
    admit = Admits a.host a.tokens

    abbrev rs : List ReclaimedOf
    rs = one.so.answers

    abbrev ms : List Message
    ms = said_to x a.host rs

    abbrev with_one : Draft
    with_one = record d { admitted = d.admitted ++ a ∷ []; sent = d.sent ++ ms }

    -- where it is granted, and nothing was answered yet
    abbrev now : List Doing
    now = so_far cause d.applied (d.admitted ++ a ∷ []) d.sent past

    inner : IsInner admit
    inner = admit_inner a.host a.tokens

    its : In c x.recovering.claims
    its = (ripe_is before x.server x.recovering g.stands.slots g.stands.recovery c one.next.ripe).0

    never : HasReclaimed before c.host → ⊥
    never = (g.waits c its).0

    live : IsLive before c.host
    live = (g.waits c its).1

    never_a : HasReclaimed before a.host → ⊥
    never_a = subst (λ (h : HostId). HasReclaimed before h → ⊥) (sym one.next.host) never

    live_a : IsLive before a.host
    live_a = subst (IsLive before) (sym one.next.host) live

    y_server : y.server ≡ x.server
    y_server = ap (λ (z : Tables). z.server) one.so.tables

    words_now : (server : ServerId) → SameWords server (admit ∷ before) now
    words_now server = admitted_more server cause d.applied d.admitted d.sent a past

    said_is : said_in with_one ≡ appended (sending ms) now
    said_is = so_more cause d.applied (d.admitted ++ a ∷ []) d.sent ms past

    admitted_is : admitted_in with_one ≡ admit ∷ admitted_in d
    admitted_is = ap (λ (l : List Doing). appended l (decided_in d)) (admits_both d.admitted a)
        ∙ append_end (admitting d.admitted) admit (decided_in d)

    stands_one : Stands (said_in with_one) y
    stands_one = subst (λ (l : List Doing). Stands l y) (sym said_is)
        (told_stands x y a.host (ap (λ (z : Tables). z.hosts.epoch) one.so.tables) rs now
        (stands_carried (admit ∷ before) now y (words_now y.server)
        (admission_stands before x g.stands a one.next never live d e y one.so)))

    reclaimed_now : (k : HostId) → HasReclaimed now k → (k ≡ a.host) ⊎ HasReclaimed before k
    reclaimed_now k r =
        elim ((reclaimed_inner x.server before admit inner k).0 (((words_now x.server).reclaimed k).1 r)) [
          | inl p ↦ inl (sym (same_admits a.host k a.tokens p.0 p.1).0)
          | inr p ↦ inr p
        ]

    reclaimed_on : (k : HostId) → HasReclaimed before k → HasReclaimed (said_in with_one) k
    reclaimed_on k r = subst (λ (l : List Doing). HasReclaimed l k) (sym said_is)
        (sent_is x.server ms now k
        (((words_now x.server).reclaimed k).0 ((reclaimed_inner x.server before admit inner k).1 (inr r))))

    reclaimed_a : HasReclaimed (said_in with_one) a.host
    reclaimed_a = subst (λ (l : List Doing). HasReclaimed l a.host) (sym said_is)
        (sent_is x.server ms now a.host
        (((words_now x.server).reclaimed a.host).0
        ((reclaimed_inner x.server before admit inner a.host).1 (inl (a.tokens, refl)))))

    heard_now : SameHeard x.server before now
    heard_now = heard_then (heard_back (heard_inner x.server before admit inner)) (words_now x.server).heard

    heard_one : SameHeard x.server before (said_in with_one)
    heard_one = heard_then heard_now (subst (λ (l : List Doing). SameHeard x.server now l) (sym said_is)
        (sent_heard x.server ms now))

    -- its own claim is answered
    ripe : is_ripe x a.host c ≡ true
    ripe = subst (λ (h : HostId). is_ripe x h c ≡ true) (sym one.next.host)
        (and_from (c.host.0 == c.host.0) (has_all x.recovering.taken x.server c.host c.claim)
        (eq-eqb c.host.0 c.host.0 refl)
        (found_first (λ (d : Claimed). has_all x.recovering.taken x.server d.host d.claim) x.recovering.claims c
        one.next.ripe).1)

    answered_one : AnsweredStand (said_in with_one) y.recovering.answers
    answered_one =
        subst (λ (l : List Answered). AnsweredStand (said_in with_one) l)
        (sym (ap (λ (z : Tables). z.recovering.answers) one.so.tables))
        (subst (λ (l : List Doing). AnsweredStand l (all_answered x.recovering.answers a.host rs)) (sym said_is)
        (answered_all x a.host rs before now x.recovering.answers g.answered (sym (words_now x.server).heard.epoch_is)
        g.stands.hosts.epoch_is reclaimed_now
        (λ k e n b t. ((words_now x.server).sent k e n b).0 (inr t))
        (answer_of x.recovering a.host c.claim) (one.so.are.all c its ripe)))

    waits_one : (d : Claimed) → In d y.recovering.claims → (HasReclaimed (said_in with_one) d.host → ⊥)
        × IsLive (said_in with_one) d.host
    waits_one d i =
        let f = in_filter (λ (z : Claimed). not (z.host.0 == a.host.0)) d x.recovering.claims
        (subst (λ (z : Tables). In d z.recovering.claims) one.so.tables i) in
        let w = g.waits d f.0 in (
          λ r. elim (reclaimed_now d.host (sent_was x.server ms now d.host
              (subst (λ (l : List Doing). HasReclaimed l d.host) said_is r))) [
                | inl q ↦ false≢true (sym (ap not (eq-eqb d.host.0 a.host.0 (ap (λ (h : HostId). h.0) q))) ∙ f.1)
                | inr q ↦ w.0 q
              ],
          (live_both x.server before (said_in with_one) heard_one d.host).0 w.1,
        )

    -- its tokens are of filesets that are here
    claimed_home : (t : Token) → In t a.tokens → is_of x.server t.fid.fileset ≡ true
    claimed_home t i =
        let k = ((picked_are (is_claimed x c) c.claim.tokens).from t
        (subst (λ (l : List Token). In t l) one.next.tokens i)).1 in
        let n = (and_parts (names c.claim x.server t.fid.fileset) (not (gave_up x.recovering.given_up c.host t.id))
        (and_parts (not (has_id (tokens_of x.tokens.grants) t.id))
        (names c.claim x.server t.fid.fileset && not (gave_up x.recovering.given_up c.host t.id)) k).1).0 in
        let o = any_in (λ (o : Outstanding). (o.fileset.0 == t.fid.fileset.0) && is_here x.server o)
        c.claim.numbers n in
        let p = and_parts (o.0.fileset.0 == t.fid.fileset.0) (is_here x.server o.0) o.2 in
        subst (λ (f : FilesetId). is_of x.server f ≡ true) (same_fileset o.0.fileset t.fid.fileset p.0)
        (and_parts (o.0.moves == 0) (is_of x.server o.0.fileset) p.1).1

    grants_are : y.tokens.grants ≡ with_claims x.tokens.grants (to_admit x c)
    grants_are = ap (λ (z : Tables). z.tokens.grants) one.so.tables ∙ opened_grants (no_grace x.hosts) _
        ∙ ap (λ (l : List Token). with_claims x.tokens.grants l) one.next.tokens

    -- and their numbers are new
    admitted_new : AreNew x.tokens.grants (to_admit x c)
    admitted_new = new_of x.tokens.grants (to_admit x c) g.stands.tokens.noted
        (λ t i. not_so (has_id (tokens_of x.tokens.grants) t.id)
        (and_parts (not (has_id (tokens_of x.tokens.grants) t.id))
        (names c.claim x.server t.fid.fileset && not (gave_up x.recovering.given_up c.host t.id))
        ((picked_are (is_claimed x c) c.claim.tokens).from t i).1).0)
        (picked_apart (is_claimed x c) c.claim.tokens)

    homes_one : (t : Token) → In t (tokens_of y.tokens.grants) → is_of y.server t.fid.fileset ≡ true
    homes_one t i =
        subst (λ (v : ServerId). is_of v t.fid.fileset ≡ true) (sym y_server)
        (elim ((all_admitted x.tokens.grants (to_admit x c) admitted_new g.stands.tokens.noted).were t
        (subst (λ (k : Grants). In t (tokens_of k)) grants_are i)) [
          | inl k ↦ g.homes t k
          | inr k ↦ claimed_home t (subst (λ (l : List Token). In t l) (sym one.next.tokens) k)
        ])

    admits_one : EachInTurn (ServerTokens x.server) (admitting (d.admitted ++ a ∷ [])) (decided_in d)
    admits_one = subst (λ (l : List Doing). EachInTurn (ServerTokens x.server) l (decided_in d))
        (sym (admits_both d.admitted a))
        (one_more (ServerTokens x.server) (admitting d.admitted) admit (decided_in d) g.admits
        (admit_tokens x.server (admitted_in d) a.host a.tokens
        (may_ready x.server before (admitted_in d)
        (mute_ready x.server (admitted_in d) d.sent (mute_behind x.server (decided_in d) d.admitted d.sent g.mute))
        a.host a.tokens (admission_may before x g.stands a one.next never live))))

    words_one : EachInTurn (IsEarly x.server) (sending (d.sent ++ ms)) (admitted_in with_one)
    words_one = subst (λ (l : List Doing). EachInTurn (IsEarly x.server) l (admitted_in with_one))
        (sym (sending_append d.sent ms))
        (in_turn_both (IsEarly x.server) (sending d.sent) (sending ms) (admitted_in with_one)
        (subst (λ (l : List Doing). EachInTurn (IsEarly x.server) (sending d.sent) l) (sym admitted_is)
        (each_grows x.server (admitted_in d) (admit ∷ admitted_in d) (sending d.sent)
        (grows_inner x.server (admitted_in d) admit inner (λ h e n b p. cc)) g.words))
        (told_early x.server before x a.host g.stands.hosts.epoch_is rs
        (answer_word before x g.stands a.host never_a live_a rs one.so.are) now heard_now))

    once_one : EachOnce (d.sent ++ ms)
    once_one = once_both d.sent ms g.once (said_once x a.host rs one.so.are.once)
        (λ m i j. (let f = in_said x a.host rs m j in
        let e : m.host ≡ a.host = ap (λ (n : Message). n.host) (sym f.2) in
        elim (g.told m f.0 i (ap (λ (n : Message). n.body) (sym f.2))) [
          | inl r ↦ never_a (subst (HasReclaimed before) e r)
          | inr o ↦ o (subst (IsLive before) (sym e) live_a)
        ]))

    told_one : (m : Message) (r : ReclaimedOf) → In m (d.sent ++ ms) → m.body ≡ Reclaimed r
        → HasReclaimed (said_in with_one) m.host ⊎ (IsLive (said_in with_one) m.host → ⊥)
    told_one m r i q = elim (in_parts m d.sent ms i) [
      | inl j ↦ elim (g.told m r j q) [
        | inl k ↦ inl (reclaimed_on m.host k)
        | inr k ↦ inr (λ l. k ((live_both x.server before (said_in with_one) heard_one m.host).1 l))
      ]
      | inr j ↦ (let f = in_said x a.host rs m j in
          inl (subst (HasReclaimed (said_in with_one)) (ap (λ (n : Message). n.host) f.2) reclaimed_a))
    ]

    pub granted_one : IsGranting y e
    granted_one = subst (λ (w : Draft). IsGranting y w) (sym one.so.draft) (record {
      none = g.none;
      stands = stands_one;
      answered = answered_one;
      waits = waits_one;
      homes = homes_one;
      mute = subst (λ (v : ServerId). AreMute v (decided_in d) (d.sent ++ ms)) (sym y_server)
          (mute_more x.server (decided_in d) d.sent g.mute x a.host rs);
      admits = subst (λ (v : ServerId). EachInTurn (ServerTokens v) (admitting (d.admitted ++ a ∷ [])) (decided_in d))
          (sym y_server) admits_one;
      words = subst (λ (v : ServerId). EachInTurn (IsEarly v) (sending (d.sent ++ ms)) (admitted_in with_one))
          (sym y_server) words_one;
      once = once_one;
      told = told_one;
    })

  -- all claims that can be
  pub granted_all : (b z : Made) → GoesTo AdmitsOne b z → IsGranting b.tables b.draft → IsGranting z.tables z.draft
  granted_all b z r g = goes_keeps AdmitsOne (λ (m : Made). IsGranting m.tables m.draft)
      (λ p q h one. granted_one p.tables p.draft h q.tables q.draft one) b z r g
