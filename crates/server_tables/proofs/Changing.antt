-- A Change that is decided in the step that takes it: refused, or with effect. Its reply is sent with it.
use Rattle.std.proofs.Common.{◌≡◌, ℕ, ◌+◌, ◌≤◌, ◌⊎◌, true, false, Some, List, [], ◌∷◌, ◌&&◌, ◌==◌, eq-eqb, inl, inr}
use Rattle.std.proofs.Common.{sym, ◌∙◌, ap, subst, refl, arith}
use Rattle.std.proofs.lemmas.Bool.{and_from, cases_Bool, cases_lt, eqb-true, false≢true}
use Rattle.base_types.specs.declared.ids.FilesetId.{FilesetId}
use Rattle.base_types.specs.declared.ids.Fid.{Fid}
use Rattle.base_types.specs.declared.ids.HostId.{HostId}
use Rattle.base_types.specs.declared.ids.Node.TheVariants.{Server}
use Rattle.tree_calls.specs.declared.reply.Reply.{Reply}
use Rattle.tree_answers.specs.declared.tree.Tree.{Tree}
use Rattle.message_types.specs.Soundness.{no_fid}
use Rattle.message_types.specs.declared.asking.Change.{Change as ChangeOf}
use Rattle.message_types.specs.declared.message.Body.{Body}
use Rattle.message_types.specs.declared.message.Body.TheVariants.{Change, Done, Revoke}
use Rattle.message_types.specs.declared.message.Message.{Message}
use Rattle.message_types.specs.declared.telling.Bring.{Bring}
use Rattle.message_types.specs.declared.telling.Done.{Done as DoneOf}
use Rattle.message_types.specs.declared.telling.DoneIs.TheVariants.{Reply as HasReply}
use Rattle.message_types.specs.declared.tokens.Revoke.{Revoke as RevokeOf}
use Rattle.script_lines.specs.declared.script.Script.{Script}
use Rattle.token_types.specs.declared.token.Need.{Need}
use Rattle.token_types.specs.declared.token.Token.{Token}
use Rattle.run_rules.specs.Doings.{BringsTokens, Doing, Granted, IsDurable, IsLive}
use Rattle.run_rules.specs.Doings.{NoGrace, Pinned, SentNow, SentTo, TakenNow, TookNow, UsesStamp}
use Rattle.run_rules.specs.Doings.{WasWritten, after_step, epoch}
use Rattle.run_rules.specs.Doings.Doing.{MakesWant, Reserves, Sent, Took, WritesDown}
use Rattle.run_rules.specs.Kept.{filesets_kept, filesets_through}
use Rattle.run_rules.specs.Past.{In}
use Rattle.run_rules.specs.ServerDecides.{DecidedSo, IsDecidedHere, IsMeantSo, IsNewRequest, IsWrittenSo}
use Rattle.run_tokens.specs.ServerRest.{ServerMeets}
use Rattle.run_rules.specs.ServerDue.{IsOfChange}
use Rattle.run_rules.specs.ServerMay.{DoneFor, HasRevoked, IsAskedBack, IsLast, MaySend}
use Rattle.run_rules.specs.ServerMay.DoneFor.{OfWritten}
use Rattle.run_rules.specs.ServerTokens.{ServerTokens}
use Rattle.run_rules.specs.Steps.{lines_of}
use Rattle.run_rules.specs.Wants.{CanDecide, CannotBothWait, Decides, IsOld, IsQueued}
use Rattle.run_rules.specs.Wants.{IsQueuedBefore, NoneQueued, Unwants, body_of, row_needs}
use Rattle.run_rules.specs.declared.applied.Applied.TheVariants.{Done as IsDone, Wants as IsWanted}
use Rattle.run_rules.specs.declared.applied.Request.TheVariants.{Change as Changes, Fetch as Asks}
use Rattle.run_rules.specs.declared.applied.Request.{Request}
use Rattle.run_rules.specs.declared.applied.Wanted.{Wanted}
use Rattle.run_rules.specs.declared.applied.Written.{Written}
use Rattle.run_rules.specs.declared.step.Step.{Step}
use Rattle.server_tables.specs.declared.tables.Tables.{Tables}
use Rattle.server_tables.specs.declared.tables.LastChange.{LastChange}
use Rattle.server_tables.specs.Standing.{ChangesStand, GivesStand, IsLastChange, RecoveryStands, IsSettled, Stands}
use Rattle.server_tables.specs.Standing.{TokensStand, WantsStand, WroteThis}
use Rattle.server_tables.specs.Steps.{to_host}
use Rattle.server_tables.proofs.Still.{ClaimsStill, claims_of, HostsStill, IsStill, TokensStill, gives_still}
use Rattle.server_tables.proofs.Still.{hosts_still, live_still, over_still, recovery_still, stamps_still, still}
use Rattle.server_tables.proofs.Still.{decided_home, tokens_still, waits_back}
use Rattle.server_tables.proofs.Idle.{no_words, up_to, idle, reserves_nothing}
use Rattle.server_tables.proofs.Resting.{NoneClaims, claims_still, still_settled, waiting_both}
use Rattle.server_tables.proofs.Settling.{both}
use Rattle.server_tables.proofs.Fetching.{same_host}
use Rattle.server_tables.proofs.Quiet.{lines_may, no_host_may, reserves_may, the_cause}
use Rattle.server_tables.proofs.Queueing.{made_answers, made_hosts, made_tokens, made_waits, not_waiting, same_refl}
use Rattle.server_tables.proofs.Queueing.{same_sym, waits_on}
use Rattle.server_tables.proofs.Asking.{IsAsked, IsTelling, answers_asked, asking, live_begun, makes_may, not_down}
use Rattle.server_tables.proofs.Still.{asked_by}
use Rattle.server_tables.proofs.Asking.{not_given, settled_begun, stands_begun, took_still, only_asked}

same_fileset : (a b : FilesetId) → (a.0 == b.0) ≡ true → a ≡ b
same_fileset a b e = let q : a.0 ≡ b.0 = eqb-true a.0 b.0 e in λ i. record { 0 = q i }

-- the last answers, with one of them renewed
pub record IsRenewed (old new : List LastChange) (entry : LastChange) : Type 0 where
  pub has : In entry new
  pub of : (l : LastChange) → In l new → (l ≡ entry) ⊎ (In l old × (l.host ≡ entry.host → l.fileset ≡ entry.fileset
      → ⊥))
  pub all : (l : LastChange) → In l old → (l.host ≡ entry.host → l.fileset ≡ entry.fileset → ⊥) → In l new

-- A new Change of a live host is taken, out of a grace period.
pub record IsChanged (past : List Doing) (x : Tables) (m : Message) (c : ChangeOf) (needs : List Need) : Type 0 where
  pub stands : Stands past x
  pub settled : IsSettled x.server past
  pub asked : IsAsked past m
  pub body : m.body ≡ Change c
  pub here : IsDecidedHere x.server past c.fileset m.moves
  pub meant : IsMeantSo c
  pub over : NoGrace past
  pub alone : NoneQueued past m.host (Changes c)
  pub new : IsOld past m.host (Changes c) → ⊥

module _ (past : List Doing) (x : Tables) (m : Message) (c : ChangeOf) (needs : List Need)
    (k : IsChanged past x m c needs) (reply : Reply) where
  abbrev w : Wanted
  w = record { host = m.host; request = Changes c; moves = m.moves; needs = needs }

  abbrev v : Written
  v = record {
    fileset = c.fileset;
    number = c.number;
    answer = record { host = m.host; k = c.k; call = c.call; reply = reply; first = false };
  }

  abbrev d : DoneOf
  d = record {
    fileset = c.fileset;
    outcome = HasReply reply;
    bring = record {
      number = c.number;
      fid = no_fid;
      stamp = 0;
      tokens = [];
    };
  }

  abbrev came : Doing
  came = Took m.host m.epoch m.moves m.body

  -- no other Change of the host and the fileset waits, and none of a higher number was answered
  lone : (u : Wanted) (o : ChangeOf) → IsQueued past u → u.request ≡ Changes o → u.host ≡ m.host → o.fileset
      ≡ c.fileset → ⊥
  lone u o waits is h f = k.alone u waits h (subst (λ (r : Request). CannotBothWait r (Changes c)) (sym is) f)

  fresh_number : IsDurable past m.host c.fileset c.number → ⊥
  fresh_number o = k.new (inl o)

  top : (e n : ℕ) (o : DoneOf) → SentTo past m.host e n (Done o) → o.fileset ≡ c.fileset → o.bring.number ≤ c.number
  top e n o t f = elim (cases_lt c.number o.bring.number) [
    | inl l ↦ absurd (k.new (inr (e, n, o, t, f, inl l)))
    | inr l ↦ l
  ]

  abbrev begun : List Doing
  begun = came ∷ past

  abbrev wanted : List Doing
  wanted = MakesWant w ∷ begun

  abbrev written : List Doing
  written = WritesDown v ∷ wanted

  abbrev sent : Doing
  sent = Sent m.host x.hosts.epoch m.moves (Done d)

  abbrev told : List Doing
  told = sent ∷ written

  came_is : came ≡ Took m.host (epoch past) m.moves (Change c)
  came_is = let p = k.asked.now in let q = k.body in cc

  took : TookNow begun m.host m.moves (Change c)
  took = inl (came_is, k.asked.live)

  sb : Stands begun x
  sb = stands_begun past x m k.stands k.asked

  zb : IsSettled x.server begun
  zb = settled_begun past x m k.stands k.asked k.settled

  still_came : IsStill x.server x.stamp past came
  still_came = took_still past x m k.stands k.asked

  over_begun : NoGrace begun
  over_begun = over_still past came still_came.hosts.calm k.over

  back_begun : (u : Wanted) → IsQueued begun u → IsQueued past u
  back_begun = waits_back past came still_came.hosts.calm x.server still_came.wants

  alone_begun : NoneQueued begun m.host (Changes c)
  alone_begun u waits h s = k.alone u (back_begun u waits) h s

  live_b : IsLive begun m.host
  live_b = live_begun past x m k.stands k.asked

  -- it is written down
  wrote_hosts : (as0 : List Doing) → HostsStill as0 (WritesDown v)
  wrote_hosts as0 = record {
    calm = record {
      begin = λ b. let p = b.1 in cc;
      still = λ b. let p = b.1 in cc;
      away = λ h g. absurd (elim g [
        | inl p ↦
            (let q = p.2 in cc)
        | inr p ↦ (let q = p.0.1 in cc)
      ]);
      admits = λ h ts p. cc;
    };
    hello = λ h p l o. let q = p.2 in cc;
    down = λ h p. absurd (let q = p.2 in cc);
    sends = λ h0 e0 n0 b0 p. absurd (cc);
  }

  wrote_tokens : (as0 : List Doing) → TokensStill x.server as0 (WritesDown v)
  wrote_tokens as0 = record {
    names = λ h i n. elim n [ inl p ↦ (let q = p.1.2.0 in cc) | inr p ↦ (let q = p.1.2.0 in cc) ];
    kept = λ h f n p. let q = p.2.0 in cc;
    issues = λ t j i. elim i.3 [ inl p ↦ (let q = p.1 in cc) | inr p ↦ (let q = p.1 in cc) ];
    reserves = λ t ts p i. absurd (cc);
    revokes = λ h e n r p. cc;
  }

  told_hosts : (as0 : List Doing) → x.hosts.epoch ≡ epoch as0 → HostsStill as0 sent
  told_hosts as0 now = record {
    calm = record {
      begin = λ b. let p = b.1 in cc;
      still = λ b. let p = b.1 in cc;
      away = λ h g. absurd (elim g [
        | inl p ↦
            (let q = p.2 in cc)
        | inr p ↦ (let q = p.0.1 in cc)
      ]);
      admits = λ h ts p. cc;
    };
    hello = λ h p l o. let q = p.2 in cc;
    down = λ h p. absurd (let q = p.2 in cc);
    sends = up_to as0 m.host x.hosts.epoch m.moves (Done d) now;
  }

  its_done : (h : HostId) (e n : ℕ) (o : DoneOf) → sent ≡ Sent h e n (Done o) → d ≡ o
  its_done h e n o p = cc

  told_tokens : (as0 : List Doing) → TokensStill x.server as0 sent
  told_tokens as0 = record {
    names = λ h i n. elim n [ inl p ↦ (let q = p.1.2.0 in cc) | inr p ↦ (let q = p.1.2.0 in cc) ];
    kept = λ h f n p. let q = p.2.0 in cc;
    issues = λ t j i. elim i.3 [
      | inl p ↦ (let q = p.1 in cc)
      | inr p ↦
          none t (subst (In t) (ap (λ (z : Bring). z.tokens) (sym p.2) ∙ ap (λ (z : DoneOf). z.bring.tokens)
          (sym (its_done i.0 i.1 j.moves p.0 p.1))) i.4)
    ];
    reserves = λ t ts p i. absurd (cc);
    revokes = λ h e n r p. cc;
  }
    where
      none : (t : Token) → In t [] → ⊥
      none t i = i

  told_tells : (f : Fid) (y : ℕ) → UsesStamp sent f y → y ≤ x.stamp
  told_tells f y (inl (h, e, n, b, inl p, q, r)) = absurd (let u = p.1 in cc)
  told_tells f y (inl (h, e, n, b, inr p, q, r)) = let u : 0 ≡ y = ap (λ (z : DoneOf). z.bring.stamp)
      (its_done h e n p.0 p.1) ∙ (ap (λ (z : Bring). z.stamp) p.2 ∙ r) in omega (arith, u)
  told_tells f y (inr r) = absurd (let u = r.4 in cc)

  -- others wait as before
  never_w : (u : Wanted) → IsQueued begun u → u ≡ w → ⊥
  never_w u waits e = not_waiting begun w x.server x.next x.pending sb.wants alone_begun (subst
      (IsQueued begun) e waits)

  on_written : (u : Wanted) → IsQueued begun u → IsQueued written u
  on_written u waits = inr (waits_on begun w x.server x.next x.pending sb.wants alone_begun u waits, not)
    where
      its_written : (o : Written) → WritesDown v ≡ WritesDown o → v ≡ o
      its_written o p = cc

      same : (h : HostId) (r : Request) → Decides (WritesDown v) h r → (h ≡ m.host) × CannotBothWait (Changes c) r
      same h (Asks f) o = absurd (let p = o.3 in cc)
      same h (Changes f) (inl o) = let e = its_written o.0 o.1 in
          (sym (ap (λ (z : Written). z.answer.host) e ∙ o.2), ap (λ (z : Written). z.fileset) e ∙ o.3)
      same h (Changes f) (inr o) = absurd (let p = o.3 in cc)

      not : Unwants wanted (WritesDown v) u → ⊥
      not (inl o) = let p = same u.host u.request o in alone_begun u waits p.0 (same_sym (Changes c) u.request p.1)
      not (inr (inl o)) = let q = o.1 in cc
      not (inr (inr (inl g))) = elim g [ inl q ↦ (let y = q.2 in cc) | inr q ↦ (let y = q.0.1 in cc) ]
      not (inr (inr (inr z))) = let y = z.1 in cc

  on_told : (u : Wanted) → IsQueued begun u → IsQueued told u
  on_told u waits = inr (on_written u waits, not)
    where
      same : (h : HostId) (r : Request) → Decides sent h r → (h ≡ m.host) × CannotBothWait (Changes c) r
      same h (Asks f) o = absurd (let p = o.3 in cc)
      same h (Changes f) (inl o) = absurd (let p = o.1 in cc)
      same h (Changes f) (inr o) = let e = its_done h o.0 o.1 o.2 o.3 in
          ((let p = o.3 in cc), ap (λ (z : DoneOf). z.fileset) e ∙ o.4)

      not : Unwants written sent u → ⊥
      not (inl o) = let p = same u.host u.request o in alone_begun u waits p.0 (same_sym (Changes c) u.request p.1)
      not (inr (inl o)) = let q = o.1 in cc
      not (inr (inr (inl g))) = elim g [ inl q ↦ (let y = q.2 in cc) | inr q ↦ (let y = q.0.1 in cc) ]
      not (inr (inr (inr z))) = let y = z.1 in cc

  back_written : (u : Wanted) → IsQueued written u → IsQueued begun u
  back_written u (inl p) = absurd (cc)
  back_written u (inr p) = elim (made_waits begun w u p.0) [
    | inl e ↦ absurd (p.1 (inl (subst (λ (z : Wanted). Decides (WritesDown v) z.host z.request) (sym e) (inl (
      v,
      refl,
      refl,
      refl,
      refl,
    )))))
    | inr q ↦ q
  ]

  back_told : (u : Wanted) → IsQueued told u → IsQueued begun u
  back_told u (inl p) = absurd (cc)
  back_told u (inr p) = back_written u p.0

  before_written : (u o : Wanted) → IsQueuedBefore begun u o → IsQueuedBefore written u o
  before_written u o b = let p = waiting_both begun u o b in (
    inr (
      inr b,
      waits_on begun w x.server x.next x.pending sb.wants alone_begun u p.0,
      waits_on begun w x.server x.next x.pending sb.wants alone_begun o p.1,
    ),
    on_written u p.0,
    on_written o p.1,
  )

  before_told : (u o : Wanted) → IsQueuedBefore begun u o → IsQueuedBefore told u o
  before_told u o b = let p = waiting_both begun u o b in (inr (before_written u o b), on_told u p.0, on_told o p.1)

  before_back : (u o : Wanted) → IsQueued begun o → IsQueuedBefore told u o → IsQueuedBefore begun u o
  before_back u o waits b = elim b.0 [
    | inl p ↦ absurd (let q = p.1 in cc)
    | inr p ↦ elim p.0 [
      | inl q ↦ absurd (let r = q.1 in cc)
      | inr q ↦ elim q.0 [ inl r ↦ absurd (never_w o waits (let e = r.1 in cc)) | inr r ↦ r ]
    ]
  ]

  ts_wanted : TokensStand wanted x.server x.tokens.grants
  ts_wanted = tokens_still begun (MakesWant w) (made_hosts begun w).calm x.server
      (made_tokens begun w x.server) sb.tokens

  ts_written : TokensStand written x.server x.tokens.grants
  ts_written = tokens_still wanted (WritesDown v) (wrote_hosts wanted).calm x.server (wrote_tokens wanted) ts_wanted

  ts_told : TokensStand told x.server x.tokens.grants
  ts_told = tokens_still written sent (told_hosts written sb.hosts.epoch_is).calm x.server
      (told_tokens written) ts_written

  -- what stands for the same grants and leaves others waiting makes none of them ready
  module _ (acts : List Doing) (ts : TokensStand acts x.server x.tokens.grants) (before : (u o : Wanted)
      → IsQueuedBefore begun u o → IsQueuedBefore acts u o) where
    was_pinned : (t : Token) → Pinned x.server acts t → Pinned x.server begun t
    was_pinned t p = sb.tokens.pinned t (ts.granted_all t (go acts p)) (ts.pinned_all t p)
      where
        go : (l : List Doing) → Pinned x.server l t → Granted x.server l t
        go [] q = q
        go (a ∷ l) q = q.1

    ready_was : (u : Wanted) → CanDecide x.server acts u → CanDecide x.server begun u
    ready_was u (inl g) = inl (record {
      over = over_begun;
      free = λ t h. elim h [
        | inl p ↦ g.free t (inl (ts.granted t (sb.tokens.granted_all t p)))
        | inr p ↦
            absurd (sb.tokens.none_reserved t p)
      ];
      first = λ b. g.first (b.0, before b.0 u b.1, b.2);
    })
    ready_was u (inr g) = inr (record {
      over = over_begun;
      pinned = (g.pinned.0, was_pinned g.pinned.0 g.pinned.1, g.pinned.2);
      first = λ b. g.first (b.0, before b.0 u b.1, b.2);
    })

    asked_was : ((u : Wanted) → IsQueued acts u → IsQueued begun u) → (t : Token) → IsAskedBack x.server acts t
        → IsAskedBack x.server begun t
    asked_was back t b = record {
      over = over_begun;
      granted = sb.tokens.granted t (ts.granted_all t b.granted);
      unpinned = λ p. b.unpinned (ts.pinned t (ts.granted_all t b.granted) (sb.tokens.pinned_all t p));
      w = b.w;
      waits = back b.w b.waits;
      blocks_it = b.blocks_it;
    }

  revoked_on : (t : Token) → HasRevoked begun t → HasRevoked told t
  revoked_on t r = inr (inr (inr (r, λ b. let p = b.1 in cc), λ b. let p = b.1 in cc), λ b. let p = b.1 in cc)

  claims_told : NoneClaims x.server told
  claims_told = claims_still x.server written sent (told_hosts written sb.hosts.epoch_is).calm answers_sent
      (claims_still x.server wanted (WritesDown v) (wrote_hosts wanted).calm answers_wrote
      (claims_still x.server begun (MakesWant w) (made_hosts begun w).calm (claims_of x.server begun (MakesWant w)
      (made_answers begun w x.server)) zb.claims))
    where
      answers_sent : ClaimsStill x.server written sent
      answers_sent = record { gives = λ h f g p. let q = p.2.0 in cc; claims = λ h n o p. let q = p.0 in cc }

      answers_wrote : ClaimsStill x.server wanted (WritesDown v)
      answers_wrote = record { gives = λ h f g p. let q = p.2.0 in cc; claims = λ h n o p. let q = p.0 in cc }

  settled_told : IsSettled x.server told
  settled_told = record {
    rested = λ u waits r. zb.rested u (back_told u waits) (ready_was told ts_told before_told u r);
    asked = λ t b. revoked_on t (zb.asked t (asked_was told ts_told before_told back_told t b));
    claims = claims_told;
  }

  rested_written : (u : Wanted) → IsQueued written u → CanDecide x.server written u → ⊥
  rested_written u waits r = zb.rested u (back_written u waits) (ready_was written ts_written before_written u r)

  -- the tables after it: `new` are the last answers
  module _ (new : List LastChange) (renewed : IsRenewed x.changes new (record {
    host = m.host;
    fileset = c.fileset;
    epoch = x.hosts.epoch;
    done = d;
    written = Some v;
  })) where
    abbrev entry : LastChange
    entry = record { host = m.host; fileset = c.fileset; epoch = x.hosts.epoch; done = d; written = Some v }

    abbrev y : Tables
    y = record x { changes = new; next = x.next + 1 }

    sent_were : (h : HostId) (e n : ℕ) (o : DoneOf) → SentTo told h e n (Done o) → ((h ≡ m.host) × (o ≡ d))
        ⊎ SentTo past h e n (Done o)
    sent_were h e n o (inl p) = inl ((let q = p in cc), sym (its_done h e n o p))
    sent_were h e n o (inr (inl p)) = absurd (cc)
    sent_were h e n o (inr (inr (inl p))) = absurd (cc)
    sent_were h e n o (inr (inr (inr (inl p)))) = absurd (cc)
    sent_were h e n o (inr (inr (inr (inr p)))) = inr p

    wrote_were : (o : Written) → WroteThis told o → (o ≡ v) ⊎ WroteThis past o
    wrote_were o (inl p) = absurd (cc)
    wrote_were o (inr (inl p)) = inl (let q = p in cc)
    wrote_were o (inr (inr (inl p))) = absurd (cc)
    wrote_were o (inr (inr (inr (inl p)))) = absurd (cc)
    wrote_were o (inr (inr (inr (inr p)))) = inr p

    was_written : (acts : List Doing) (o : Written) → WroteThis acts o → WasWritten acts o.answer.host o.fileset
        o.number
    was_written [] o p = p
    was_written (a ∷ acts) o (inl p) = inl (o, p, refl, refl, refl)
    was_written (a ∷ acts) o (inr p) = inr (was_written acts o p)

    not_above : (o : Written) → WroteThis past o → o.answer.host ≡ m.host → o.fileset ≡ c.fileset → o.number ≤ c.number
    not_above o p h f = elim (cases_lt o.number c.number) [
      | inl l ↦ omega (arith, l)
      | inr l ↦ absurd (fresh_number (
        o.number,
        l,
        subst (λ (z : HostId × FilesetId). WasWritten past z.0 z.1 o.number) (λ i. (
          h i,
          f i,
        )) (was_written past o p),
      ))
    ]

    is_last_entry : IsLastChange told entry
    is_last_entry = record {
      n = m.moves;
      sent = inl refl;
      of = refl;
      top = λ e n o t f. elim (sent_were m.host e n o t) [
        | inl p ↦
            (let q : o.bring.number ≡ c.number = ap (λ (z : DoneOf). z.bring.number) p.1 in omega (arith, q))
        | inr p ↦
            top e n o p f
      ];
      newest = λ n o t f. inl k.stands.hosts.epoch_is;
      wrote = λ o p. (
        inr (inl (let q : v ≡ o = (let r = p in cc) in ap WritesDown q)),
        (let q : v ≡ o =
            (let r = p in cc) in ap (λ (z : Written). z.answer.host) (sym q)),
        (let q : v ≡ o =
            (let r = p in cc) in ap (λ (z : Written). z.fileset) (sym q)),
      );
      wrote_all = λ o t h f. (
        v,
        refl,
        elim (wrote_were o t) [
          | inl p ↦
              (let q : o.number ≡ c.number = ap (λ (z : Written). z.number) p in omega (arith, q))
          | inr p ↦
              not_above o p h f
        ],
      );
      home = decided_home x.server past c.fileset m.moves k.stands.slots k.here;
      reply = λ o p. (let q : v ≡ o = (let r = p in cc) in
          inr (ap (λ (z : Written). z.number) (sym q), ap (λ (z : Written). HasReply z.answer.reply) q, refl, refl));
      brings = λ t i. elim i [ ];
    }

    -- another answer stays what it was
    is_last_other : (l : LastChange) → IsLastChange past l → (l.host ≡ m.host → l.fileset ≡ c.fileset → ⊥)
        → IsLastChange told l
    is_last_other l z apart = record {
      n = z.n;
      sent = inr (inr (inr (inr z.sent)));
      of = z.of;
      top = λ e n o t f. elim (sent_were l.host e n o t) [
        | inl p ↦
            absurd (apart p.0 (sym f ∙ ap (λ (q : DoneOf). q.fileset) p.1))
        | inr p ↦ z.top e n o p f
      ];
      newest = λ n o t f. elim (sent_were l.host (epoch past) n o t) [
        | inl p ↦
            absurd (apart p.0 (sym f ∙ ap (λ (q : DoneOf). q.fileset) p.1))
        | inr p ↦ z.newest n o p f
      ];
      wrote = λ o p. let q = z.wrote o p in (inr (inr (inr (inr q.0))), q.1, q.2);
      wrote_all = λ o t h f. elim (wrote_were o t) [
        | inl p ↦
            absurd (apart (sym h ∙ ap (λ (q : Written). q.answer.host) p) (sym f ∙ ap (λ (q : Written). q.fileset) p))
        | inr p ↦ z.wrote_all o p h f
      ];
      reply = z.reply;
      brings = z.brings;
      home = z.home;
    }

    changes_told : ChangesStand told new
    changes_told = record {
      last = λ l i. elim (renewed.of l i) [
        | inl e ↦ subst (IsLastChange told) (sym e) is_last_entry
        | inr q ↦
            is_last_other l (k.stands.changes.last l q.0) q.1
      ];
      last_all = λ h e n o t. elim (sent_were h e n o t) [
        | inl p ↦ (entry, renewed.has, sym p.0, sym (ap (λ (q : DoneOf). q.fileset) p.1))
        | inr p ↦ (let q = k.stands.changes.last_all h e n o p in found q.0 q.1 h o.fileset q.2 q.3)
      ];
      answered = λ o t. elim (wrote_were o t) [
        | inl p ↦ (
          entry,
          renewed.has,
          sym (ap (λ (q : Written). q.answer.host) p),
          sym (ap (λ (q : Written). q.fileset) p),
        )
        | inr p ↦ (let q = k.stands.changes.answered o p in found q.0 q.1 o.answer.host o.fileset q.2 q.3)
      ];
      fresh = λ u o waits is old. fresh_other u o (back_begun u (back_told u waits)) is old;
      above = λ u o e n r waits is t f. elim (sent_were u.host e n r t) [
        | inl p ↦ absurd (lone u o (back_begun u (back_told u waits)) is p.0 (sym f ∙ ap
            (λ (q : DoneOf). q.fileset) p.1))
        | inr p ↦ k.stands.changes.above u o e n r (back_begun u (back_told u waits)) is p f
      ];
    }
      where
        -- the entry of a host and a fileset
        found : (l : LastChange) → In l x.changes → (h : HostId) (f : FilesetId) → l.host ≡ h → l.fileset ≡ f →
            (q : LastChange) × In q new × (q.host ≡ h) × (q.fileset ≡ f)
        found l i h f p q = elim (cases_Bool ((l.host.0 == m.host.0) && (l.fileset.0 == c.fileset.0))) [
          | inl same ↦ (let r = both (l.host.0 == m.host.0) (l.fileset.0 == c.fileset.0) same in (
            entry,
            renewed.has,
            sym (same_host l.host m.host r.0) ∙ p,
            sym (same_fileset l.fileset c.fileset r.1)
                ∙ q,
          ))
          | inr other ↦ (
            l,
            renewed.all l i (λ h1 f1. false≢true (sym other ∙ and_from (l.host.0 == m.host.0)
                (l.fileset.0 == c.fileset.0) (eq-eqb l.host.0 m.host.0 (ap (λ (z : HostId). z.0) h1))
                (eq-eqb l.fileset.0 c.fileset.0 (ap (λ (z : FilesetId). z.0) f1)))),
            p,
            q,
          )
        ]

        fresh_other : (u : Wanted) (o : ChangeOf) → IsQueued past u → u.request ≡ Changes o
            → IsDurable told u.host o.fileset o.number → ⊥
        fresh_other u o waits is (later, le, inl p) = let q = p.1 in cc
        fresh_other u o waits is (later, le, inr (inl p)) = let e : v ≡ p.0 = (let q = p.1 in cc) in
            lone u o waits is (sym (ap (λ (z : Written). z.answer.host) e ∙ p.2))
            (sym (ap (λ (z : Written). z.fileset) e ∙ p.3))
        fresh_other u o waits is (later, le, inr (inr (inl p))) = let q = p.1 in cc
        fresh_other u o waits is (later, le, inr (inr (inr (inl p)))) = let q = p.1 in cc
        fresh_other u o waits is (later, le, inr (inr (inr (inr p)))) = k.stands.changes.fresh u o waits is (
          later,
          le,
          p,
        )

    wants_told : WantsStand told x.server (x.next + 1) x.pending
    wants_told = record {
      pending = λ p i. on_told p.wanted (sb.wants.pending p i);
      pending_all = λ u waits. sb.wants.pending_all u (back_told u waits);
      order = λ p q i j l. before_told p.wanted q.wanted (sb.wants.order p q i j l);
      order_all = λ p q i j b. sb.wants.order_all p q i j (before_back p.wanted q.wanted (sb.wants.pending q j) b);
      live = λ u waits. let l = sb.wants.live u (back_told u waits) in live_on u.host l;
      took = λ u waits. inr (
        inr (
          inr (sb.wants.took u (back_told u waits), λ b. let p = b.1 in cc),
          λ b. let p =
              b.1 in cc,
        ),
        λ b. let p = b.1 in cc,
      );
      here = λ u waits. asked_by x.server begun told (λ f. refl) u.moves u.request (sb.wants.here u (back_told u waits));
      once = λ u o p q. sb.wants.once u o (back_told u p) (back_told o q);
      few = sb.wants.few;
      below = λ p i. let l = sb.wants.below p i in omega (arith, l);
    }
      where
        live_on : (h : HostId) → IsLive begun h → IsLive told h
        live_on h l = live_still written sent (told_hosts written sb.hosts.epoch_is).calm h (live_still wanted
            (WritesDown v) (wrote_hosts wanted).calm h (live_still begun (MakesWant w) (made_hosts begun w).calm h l))

    over_told : NoGrace told
    over_told = over_still written sent (told_hosts written sb.hosts.epoch_is).calm (over_still wanted (WritesDown v)
        (wrote_hosts wanted).calm (over_still begun (MakesWant w) (made_hosts begun w).calm over_begun))

    stands_told : Stands told y
    stands_told = record {
      slots = sb.slots;
      hosts = hosts_still written sent (told_hosts written sb.hosts.epoch_is) (hosts_still wanted (WritesDown v)
          (wrote_hosts wanted) (hosts_still begun (MakesWant w) (made_hosts begun w) sb.hosts));
      tokens = ts_told;
      stamps = stamps_still written sent (told_hosts written sb.hosts.epoch_is).calm x.server
          (told_tokens written) told_tells
          (stamps_still wanted (WritesDown v) (wrote_hosts wanted).calm x.server (wrote_tokens wanted)
          (λ f z t. absurd (quiet (WritesDown v) f z (λ h e n b p. elim p [
            | inl q ↦ (let r = q.1 in cc)
            | inr q ↦
                (let r = q.1 in cc)
          ]) (λ h e n r p. cc) t))
          (stamps_still begun (MakesWant w) (made_hosts begun w).calm x.server (made_tokens begun w x.server)
          (λ f z t. absurd (quiet (MakesWant w) f z (λ h e n b p. elim p [
            | inl q ↦ (let r = q.1 in cc)
            | inr q ↦
                (let r = q.1 in cc)
          ]) (λ h e n r p. cc) t)) sb.stamps));
      wants = wants_told;
      queue = record { calm = λ o. sb.queue.calm over_begun; grace = λ o. absurd (o over_told) };
      gives = gives_of;
      changes = changes_told;
      recovery = recovery_of;
    }
      where
        quiet : (a : Doing) (f : Fid) (z : ℕ) → ((h : HostId) (e n : ℕ) (b : Bring) → BringsTokens a h e n b → ⊥) →
            ((h : HostId) (e n : ℕ) (r : RevokeOf) → a ≡ Sent h e n (Revoke r) → ⊥) → UsesStamp a f z → ⊥
        quiet a f z p q (inl t) = p t.0 t.1 t.2 t.3 t.4
        quiet a f z p q (inr t) = q t.0 t.1 t.2 t.3 t.4

        ans_sent : ClaimsStill x.server written sent
        ans_sent = record { gives = λ h f g p. let q = p.2.0 in cc; claims = λ h n o p. let q = p.0 in cc }

        ans_wrote : ClaimsStill x.server wanted (WritesDown v)
        ans_wrote = record { gives = λ h f g p. let q = p.2.0 in cc; claims = λ h n o p. let q = p.0 in cc }

        gives_of : GivesStand told x.server x.gives
        gives_of = gives_still written sent (told_hosts written sb.hosts.epoch_is).calm x.server ans_sent
            (gives_still wanted (WritesDown v) (wrote_hosts wanted).calm x.server ans_wrote (gives_still begun
            (MakesWant w) (made_hosts begun w).calm x.server (claims_of x.server begun (MakesWant w)
            (made_answers begun w x.server)) sb.gives))

        recovery_of : RecoveryStands told x.server x.recovering.claims x.recovering.taken x.recovering.given_up
        recovery_of = recovery_still written sent (told_hosts written sb.hosts.epoch_is).calm x.server ans_sent
            (told_tokens written).names (recovery_still wanted (WritesDown v)
            (wrote_hosts wanted).calm x.server ans_wrote (wrote_tokens wanted).names (recovery_still begun
            (MakesWant w) (made_hosts begun w).calm x.server (claims_of x.server begun (MakesWant w)
            (made_answers begun w x.server)) (made_tokens begun w x.server).names sb.recovery))

    kept_still : IsStill x.server y.stamp told (Reserves [])
    kept_still = idle x.server y.stamp told (Reserves []) reserves_nothing (no_words told)

    abbrev answer : Message
    answer = to_host x.server m.host x.hosts.epoch m.moves (Done d)

    abbrev step : Step
    step = asking x.server m (IsWanted w ∷ IsDone v ∷ []) (answer ∷ [])

    pub stands_changed : Stands (after_step step past) y
    stands_changed = still told (Reserves []) y kept_still stands_told

    pub settled_changed : IsSettled x.server (after_step step past)
    settled_changed = still_settled told (Reserves []) y stands_told kept_still settled_told

    tells_done : (n : Message) → In n (answer ∷ []) → IsTelling n.body
    tells_done n (inl e) = subst (λ (z : Message). IsTelling z.body) (sym e) tt
    tells_done n (inr i) = elim i [ ]

    is_change : (h : HostId) (n : ℕ) (b : Body) → TakenNow past step h n b → (m.host ≡ h) × (m.moves ≡ n) × (Change c
        ≡ b)
    is_change h n b t = let e = the_cause m t.0.0 t.0.1 in (
      ap (λ (z : Message). z.host) e ∙ t.0.2,
      ap (λ (z : Message). z.moves) e ∙ t.0.4,
      sym k.body ∙ (ap (λ (z : Message). z.body) e ∙ t.0.5),
    )

    its_request : (r : Request) → Change c ≡ body_of r → Changes c ≡ r
    its_request (Asks o) e = absurd (cc)
    its_request (Changes o) e = let p : c ≡ o = cc in ap (λ (z : ChangeOf). Changes z) p

    new_request : IsNewRequest x.server past begun step m.host m.moves (Changes c)
    new_request = record {
      taken = ((m, refl, refl, k.asked.now, refl, k.body), k.asked.live);
      here = (k.here, k.meant);
      fresh = λ old. elim old [
        | inl o ↦ fresh_number (o.0, o.1, (elim o.2 [ inl p ↦ absurd (let q = p.1 in cc) | inr p ↦ p ]))
        | inr q ↦ k.new (inr (q.0, q.1, q.2, (elim q.3 [ inl p ↦ absurd (cc) | inr p ↦ p ]), q.4, q.5))
      ];
      alone = alone_begun;
    }

    words_done : ServerTokens x.server written sent
    words_done = record {
      epochs = λ h e n b p. (let q : x.hosts.epoch ≡ e = cc in sym q) ∙ sb.hosts.epoch_is;
      grants = λ h e n o p. absurd (cc);
      dones = λ h e n o p. inl (ap (λ (z : DoneOf). z.bring.tokens) (sym (its_done h e n o p)));
      revokes = λ h e n r i p. absurd (cc);
      revokes_here = λ h e n r p. absurd (cc);
      stamps = λ h e n z r p. absurd (cc);
      gones = λ h e n o p. absurd (cc);
      reclaimed = λ h e n r o p. absurd (cc);
      left_out = λ h e n r i p. absurd (cc);
      admits = λ h ts p. absurd (cc);
      writes = λ o p. absurd (cc);
      writes_once = λ o p. absurd (cc);
      reserves = λ ts t u p. absurd (cc);
    }

    may_write : ServerTokens x.server wanted (WritesDown v)
    may_write = record {
      epochs = λ h e n b p. absurd (cc);
      grants = λ h e n o p. absurd (cc);
      dones = λ h e n o p. absurd (cc);
      revokes = λ h e n r i p. absurd (cc);
      revokes_here = λ h e n r p. absurd (cc);
      stamps = λ h e n z r p. absurd (cc);
      gones = λ h e n o p. absurd (cc);
      reclaimed = λ h e n r o p. absurd (cc);
      left_out = λ h e n r i p. absurd (cc);
      admits = λ h ts p. absurd (cc);
      writes = λ o p. subst (λ (z : Written). (q : ChangeOf) × (n : ℕ) × TookNow wanted z.answer.host n (Change q) ×
          (q.fileset ≡ z.fileset) × (q.number ≡ z.number) × (q.k ≡ z.answer.k) × (q.call ≡ z.answer.call)) (let e : v
          ≡ o = cc in e) (c, m.moves, inr (took, λ b. let q = b.1 in cc), refl, refl, refl, refl);
      writes_once = λ o p old. fresh_number (durable (subst (λ (z : Written). IsDurable wanted z.answer.host
          z.fileset z.number) (let e : o ≡ v = cc in e) old));
      reserves = λ ts t u p. absurd (cc);
    }
      where
        durable : IsDurable wanted m.host c.fileset c.number → IsDurable past m.host c.fileset c.number
        durable (l, le, inl p) = absurd (let q = p.1 in cc)
        durable (l, le, inr (inl p)) = absurd (let q = p.1 in cc)
        durable (l, le, inr (inr p)) = (l, le, p)

    -- `so` is why it has this reply; what the rules say of its want
    pub meets_changed : (script : Script) (start : Tree) (steps : List Step)
        → needs ≡ row_needs (filesets_kept start x.server steps) m.host c → DecidedSo x.server
        (filesets_kept start x.server steps) wanted w c reply
        → ServerMeets script start x.server steps past step
    meets_changed script start steps row so = record {
      may = record {
        tokens = record {
          writes = (makes_may x.server begun w, (may_write, tt));
          admits = tt;
          sends =
              (words_done, tt);
          reserves = reserves_may x.server told;
        };
        no_host = no_host_may (step) m refl (refl, refl, refl, refl, refl, refl, refl);
        answers = only_asked past x m k.stands k.asked k.settled (IsWanted w ∷ IsDone v ∷ []) (answer ∷ []) tells_done;
        works = record {
          applies = record {
            given = λ h o f. absurd (not_given past x m k.stands k.asked k.settled (IsWanted w ∷ IsDone v ∷ [])
                (answer ∷ []) tells_done h o f);
            down = λ h f. absurd (not_down past x m k.stands k.asked k.settled (IsWanted w ∷ IsDone v ∷ [])
                (answer ∷ []) tells_done h f);
            else_none = λ a b. refl;
            decided = refl;
            reserves = λ t i. elim i [ ];
          };
          decides = ((row, inl new_request), (written_so, tt));
          sends = (may_send, tt);
        };
      };
      due = record {
        lines = lines_may (lines_of script (Server x.server)) steps (step) m refl;
        answers = answers_asked past x m k.stands k.asked k.settled (IsWanted w ∷ IsDone v ∷ [])
            (answer ∷ []) tells_done;
        decided = record {
          news = λ h n r f. let t = is_change h n (body_of r) f.taken in (w, inl refl, t.0, its_request r t.2);
          refused = λ u o refusal waits is z f. elim f [ inl r ↦ rested_written u waits r | inr q ↦ gone u waits q ];
          effects = λ u o waits is effect accepted r. rested_written u waits r;
          pinned = λ u o waits is z accepted r. rested_written u waits (inr r);
        };
        sent = record {
          once = (λ i. elim i [ ], tt);
          revokes_once = λ h r q i told. absurd (elim told.1 [
            | inl p ↦
                (let n = ap (λ (z : Message). z.body) (sym p) ∙ told.3 in cc)
            | inr p ↦ elim p [ ]
          ]);
          dones_only = is_of_change;
          written = λ o i. elim i [
            | inl p ↦ absurd (cc)
            | inr p ↦ elim p [
              | inl q ↦ answered_now o (let e : o ≡ v =
                  cc in e)
              | inr q ↦ elim q [ ]
            ]
          ];
          repeats = λ h n o r t here f g last old. (
            d,
            (answer, inl refl, (is_change h n (Change o) t).0, refl),
            fs_of h n o t,
            num_of h n o t,
          );
          grants = λ u o waits is z. settled_changed.rested u waits (inl z);
          uses = λ u o waits is uses accepted z. settled_changed.rested u waits (inl z);
          others = λ u o waits is uses accepted z r. settled_changed.rested u waits r;
          enters = λ u o waits is enter accepted z. settled_changed.rested u waits (inl z);
          revokes = settled_changed.asked;
          revokes_again = λ t p. absurd (cc);
        };
      };
    }
      where
        its_change : (o : ChangeOf) → Change c ≡ Change o → c ≡ o
        its_change o p = cc

        fs_of : (h : HostId) (n : ℕ) (o : ChangeOf) → TakenNow past step h n (Change o) → c.fileset ≡ o.fileset
        fs_of h n o t = ap (λ (z : ChangeOf). z.fileset) (its_change o (is_change h n (Change o) t).2)

        num_of : (h : HostId) (n : ℕ) (o : ChangeOf) → TakenNow past step h n (Change o) → c.number ≡ o.number
        num_of h n o t = ap (λ (z : ChangeOf). z.number) (its_change o (is_change h n (Change o) t).2)

        its_answer : (o : DoneOf) → Done d ≡ Done o → d ≡ o
        its_answer o p = cc

        is_of_change : (h : HostId) (o : DoneOf) → SentNow step h (Done o) → (q : ChangeOf) × IsOfChange q o
            × (((n : ℕ) × TakenNow past step h n (Change q)) ⊎ ((u : Wanted) × IsQueued past u × (u.host ≡ h) ×
            (u.request ≡ Changes q)))
        is_of_change h o (z, inl p, host, body) = (
          c,
          subst (IsOfChange c) (its_answer o (ap (λ (y0 : Message). y0.body) (sym p) ∙ body)) (refl, refl),
          inl (
            m.moves,
            (
              (m, refl, ap (λ (y0 : Message). y0.host) (sym p) ∙ host, k.asked.now, refl, k.body),
              subst (IsLive past) (ap (λ (y0 : Message). y0.host) (sym p) ∙ host) k.asked.live,
            ),
          ),
        )
        is_of_change h o (z, inr p, host, body) = elim p [ ]

        -- the new request doesn't wait any more
        gone : (u : Wanted) → IsQueued written u → NoGrace written × IsNewRequest x.server past begun step u.host
            u.moves u.request → ⊥
        gone u waits q = let t = is_change u.host u.moves (body_of u.request) q.1.taken in
            k.alone u (back_begun u (back_written u waits)) (sym t.0) (subst
            (λ (z : Request). CannotBothWait u.request z) (sym (its_request u.request t.2)) (same_refl u.request))

        written_so : IsWrittenSo x.server (filesets_kept start x.server steps) wanted v
        written_so = record {
          w = w;
          waits = inl refl;
          change = c;
          request = refl;
          host = refl;
          fileset = refl;
          number = refl;
          k = refl;
          call = refl;
          later = refl;
          so = so;
        }

        answered_now : (o : Written) → o ≡ v → (z : DoneOf) × SentNow step o.answer.host (Done z) × (z.outcome
            ≡ HasReply o.answer.reply) × (z.fileset ≡ o.fileset) × (z.bring.number ≡ o.number)
        answered_now o e = subst (λ (q : Written). (z : DoneOf) × SentNow step q.answer.host (Done z) × (z.outcome
            ≡ HasReply q.answer.reply) × (z.fileset ≡ q.fileset) × (z.bring.number ≡ q.number)) (sym e) (
              d,
              (answer, inl refl, refl, refl),
              refl,
              refl,
              refl,
            )

        last_now : IsLast written m.host d
        last_now e n o t f = top e n o (elim t [
          | inl p ↦ absurd (cc)
          | inr p ↦ elim p [
            | inl q ↦ absurd (cc)
            | inr q ↦
                elim q [ inl r ↦ absurd (cc) | inr r ↦ r ]
          ]
        ]) f

        may_send : MaySend x.server (filesets_through step.cause step.applied (filesets_kept start x.server steps))
            step written sent
        may_send = record {
          grant_for = λ h e n g p. absurd (cc);
          done_for = λ h e n o p. let q = its_done h e n o p in let a : m.host ≡ h = cc in let b : m.moves ≡ n = cc in
              subst (λ (z : HostId × ℕ × DoneOf). IsLive written z.0 × IsDecidedHere x.server written z.2.fileset z.1
              × DoneFor x.server (filesets_through step.cause step.applied (filesets_kept start x.server steps))
              written z.0 z.1 z.2) (λ i. (a i, b i, q i)) (
                live_still wanted (WritesDown v) (wrote_hosts wanted).calm m.host (live_still begun (MakesWant w)
                    (made_hosts begun w).calm m.host live_b),
                k.here,
                OfWritten (inl (
                  v,
                  refl,
                  refl,
                  refl,
                  refl,
                  refl,
                )) refl last_now,
              );
          revoke_for = λ h e n r i p. absurd (cc);
        }
