-- The rules of tokens admit a restart, a claim and a give-back.
use Rattle.run_rules.specs.Doings.{Doing, GivenUp, Granted, HasReclaimed, Here, IsApplied, IsLive, IsNewlyGranted, SentTo}
use Rattle.run_rules.specs.Doings.{TookOf, doings_of, epoch}
use Rattle.run_rules.specs.Doings.Doing.{Admits, BeginsEpoch, Reserves, Sent, Took}
use Rattle.run_rules.specs.HostTokens.{Claims, HostTokens, IsClaimable}
use Rattle.run_rules.specs.Messages.{Changing, HasSaid, HasStopped, ReturnsToken, Said, Sends, epoch_at, home}
use Rattle.run_rules.specs.Past.{In}
use Rattle.run_rules.specs.Runs.{CameToHost, IsFrom}
use Rattle.run_rules.specs.ServerTokens.{ClaimsHere, MayAdmit, ServerStep, ServerTokens}
use Rattle.run_rules.specs.Steps.{steps_of_host}
use Rattle.run_rules.specs.Tokens.{AtHand, Drops, Held, IsKnown, LeavesHost, Made, number_of}
use Rattle.run_rules.specs.declared.applied.Why.TheVariants.{Evicted}
use Rattle.run_tokens.specs.TokenLaws.{IsTokenRun, TokensAreSafe}
use Rattle.run_tokens.proofs.Words.{given_up}
use Rattle.std.proofs.Common.{◌≡◌, ℕ, ◌<◌, ◌⊎◌, false, List, [], ◌∷◌, inl, inr, sym, ◌∙◌, ap, subst, refl, arith}
use Rattle.base_types.specs.declared.ids.HostId.{HostId}
use Rattle.base_types.specs.declared.ids.ServerId.{ServerId}
use Rattle.base_types.specs.declared.ids.FilesetId.{FilesetId}
use Rattle.base_types.specs.declared.ids.Node.TheVariants.{Server}
use Rattle.base_types.specs.declared.span.Span.{Span}
use Rattle.token_types.specs.declared.token.Kind.TheVariants.{Bytes, Status}
use Rattle.token_types.specs.declared.token.Token.{Token}
use Rattle.token_types.specs.declared.token.TokenId.{TokenId}
use Rattle.message_types.specs.declared.message.Direction.TheVariants.{ToHost}
use Rattle.message_types.specs.declared.message.Body.{Body}
use Rattle.message_types.specs.declared.message.Body.TheVariants.{Hello, Fetch, Grant, Change, Done, Revoke, Returned, Kept, GiveBack, Gone, Reclaim, Reclaimed, Restarted, Down, Bye}
use Rattle.message_types.specs.declared.message.Message.{Message}
use Rattle.message_types.specs.declared.asking.Change.{Change as ChangeOf}
use Rattle.message_types.specs.declared.tokens.Named.{Named}
use Rattle.message_types.specs.declared.tokens.Revoke.{Revoke as RevokeOf}
use Rattle.message_types.specs.declared.telling.Grant.{Grant as GrantOf}
use Rattle.message_types.specs.declared.telling.Done.{Done as DoneOf}
use Rattle.message_types.specs.declared.giving.Give.{Give}
use Rattle.message_types.specs.declared.giving.AppliedGive.{AppliedGive}
use Rattle.message_types.specs.declared.giving.Outstanding.{Outstanding}
use Rattle.message_types.specs.declared.giving.Reclaim.{Reclaim as ReclaimOf}
use Rattle.message_types.specs.declared.giving.Reclaimed.{Reclaimed as ReclaimedOf}
use Rattle.run_rules.specs.declared.applied.Leave.{Leave}
use Rattle.run_rules.specs.declared.step.Cause.TheVariants.{Message as Came}
use Rattle.run_rules.specs.declared.step.Step.{Step}
use Rattle.run_tokens.specs.Worked.{client, site_one, root, token, to_server, granted, from_cache, worked, claim, reclaims, from_server, restarts, claimed, admits, give, gives, stores, learns, worked_restart, IsExample}
use Rattle.run_tokens.proofs.Law.{always, safe}
use Rattle.run_tokens.proofs.Example.{at_one, here_one, came, four, SaidPlain, said_four, asked, asked_new, reserves_may, to_it, server_cause, a_run, holds}

-- a step that sends one message
sent_one : (s : Step) (n : ℕ) (body : Body) → s.sent ≡ to_server n body ∷ [] → (v : ServerId) (e k : ℕ) (b : Body) → Sends s v e k b → (site_one ≡ v) × (n ≡ e) × (0 ≡ k) × (body ≡ b)
sent_one s n body is v e k b (m, i, at, epoch_is, moves, body_is) = go (subst (In m) is i)
  where
    go : In m (to_server n body ∷ []) → (site_one ≡ v) × (n ≡ e) × (0 ≡ k) × (body ≡ b)
    go (inl p) = (ap (λ (x : Message). x.server) (sym p) ∙ at, ap (λ (x : Message). x.epoch) (sym p) ∙ epoch_is, ap (λ (x : Message). x.moves) (sym p) ∙ moves, ap (λ (x : Message). x.body) (sym p) ∙ body_is)
    go (inr p) = elim p [ ]

-- what sends nothing but such messages
record IsBare (b : Body) : Type 0 where
  grant : (w : GrantOf) → b ≡ Grant w → ⊥
  done : (w : DoneOf) → b ≡ Done w → ⊥
  revoke : (r : RevokeOf) → b ≡ Revoke r → ⊥

sends_bare : (past : List Doing) (b : Body) → epoch past ≡ 2 → IsBare b → ((g : AppliedGive) → b ≡ Gone g → Here site_one past g.fileset 0 × IsApplied site_one past client g) → ((r : ReclaimedOf) → b ≡ Reclaimed r → claimed ≡ r) → ServerTokens site_one past (Sent client 2 0 b)
sends_bare past b now bare gone says = record {
  epochs = λ h e n c p. let q : 2 ≡ e = cc in sym q ∙ sym now;
  grants = λ h e n w p. absurd (bare.grant w (cc));
  dones = λ h e n w p. absurd (bare.done w (cc));
  revokes = λ h e n r i p. absurd (bare.revoke r (cc));
  revokes_here = λ h e n r p. absurd (bare.revoke r (cc));
  stamps = λ h e n x r p. absurd (bare.revoke r (cc));
  gones = λ h e n g p. let q : client ≡ h = cc in let o : 0 ≡ n = cc in let x = gone g (cc) in (subst (λ k. Here site_one past g.fileset k) o x.0, subst (λ k. IsApplied site_one past k g) q x.1);
  reclaimed = λ h e n r g p m. let q : claimed ≡ r = says r (cc) in elim (subst (λ (x : ReclaimedOf). In g x.applied) (sym q) m) [ ];
  left_out = λ h e n r i p m. let q : claimed ≡ r = says r (cc) in elim (subst (λ (x : ReclaimedOf). In i x.left_out) (sym q) m) [ ];
  admits = λ h ts p. absurd (cc);
  writes = λ w p. absurd (cc);
  writes_once = λ w p. absurd (cc);
  reserves = λ ts t u p. absurd (cc);
}

-- the host is live all the time
stays : (a : Doing) (S : List Doing) → IsLive S client → ((e n : ℕ) → a ≡ Took client e n Down → ⊥) → ((e n : ℕ) → a ≡ Took client e n Bye → ⊥) → IsLive (a ∷ S) client
stays a S live down bye = (inr live.0, λ w. elim w [ inl g ↦ elim g [ inl d ↦ down d.0 d.1 d.2 | inr b ↦ bye (epoch S) b.0.0 b.0.1 ] | inr o ↦ live.1 o ])

back : (a : Doing) (S : List Doing) → ((ts : List Token) → a ≡ Admits client ts → ⊥) → ((e n : ℕ) → a ≡ Took client e n Hello → ⊥) → HasReclaimed (a ∷ S) client → HasReclaimed S client
back a S claims hello (inl (inl z)) = absurd (claims z.0 z.1)
back a S claims hello (inl (inr z)) = absurd (elim z.0 [ inl p ↦ hello p.0.0 p.0.1 p.0.2 | inr p ↦ z.1 p ])
back a S claims hello (inr y) = y.0

fresh_none : (a : Doing) → ((h : HostId) (e n : ℕ) (g : GrantOf) → a ≡ Sent h e n (Grant g) → ⊥) → ((h : HostId) (e n : ℕ) (d : DoneOf) → a ≡ Sent h e n (Done d) → ⊥) → ((h : HostId) (ts : List Token) → a ≡ Admits h ts → ⊥) → (t : Token) → IsNewlyGranted a t → ⊥
fresh_none a no_grant no_done no_claim t (inl (x, (h, e, w, inl g, _, _))) = no_grant h e x.moves g.0 g.1
fresh_none a no_grant no_done no_claim t (inl (x, (h, e, w, inr g, _, _))) = no_done h e x.moves g.0 g.1
fresh_none a no_grant no_done no_claim t (inr (ts, e, _)) = no_claim t.host ts e

ungrant : (a : Doing) (S : List Doing) (t : Token) → ((u : Token) → IsNewlyGranted a u → ⊥) → Granted site_one (a ∷ S) t → Granted site_one S t
ungrant a S t none (inl n) = absurd (none t n)
ungrant a S t none (inr g) = g.0

module _ (whole : Span) where
  abbrev first : Token
  first = token 1 (Status false)

  abbrev second : Token
  second = token 2 (Bytes false whole)

  -- the server's doings
  abbrev pub before : List Doing
  before = Reserves [] ∷ Sent client 1 0 (Grant (granted whole)) ∷ asked whole

  abbrev pub began_again : List Doing
  began_again = Reserves [] ∷ Sent client 2 0 Restarted ∷ BeginsEpoch 2 ∷ before

  abbrev pub asked_again : List Doing
  asked_again = Took client 2 0 (Reclaim (claim whole)) ∷ began_again

  live_asked : IsLive (asked whole) client
  live_asked = ((asked_new whole).listed, (asked_new whole).here client)

  live_before : IsLive before client
  live_before = stays (Reserves []) (Sent client 1 0 (Grant (granted whole)) ∷ asked whole) (stays (Sent client 1 0 (Grant (granted whole))) (asked whole) live_asked (λ e n p. cc) (λ e n p. cc)) (λ e n p. cc) (λ e n p. cc)

  live_began : IsLive began_again client
  live_began =
      let a = stays (BeginsEpoch 2) before live_before (λ e n p. cc) (λ e n p. cc) in
      let b = stays (Sent client 2 0 Restarted) (BeginsEpoch 2 ∷ before) a (λ e n p. cc) (λ e n p. cc) in
      stays (Reserves []) (Sent client 2 0 Restarted ∷ BeginsEpoch 2 ∷ before) b (λ e n p. cc) (λ e n p. cc)

  live_again : IsLive asked_again client
  live_again = stays (Took client 2 0 (Reclaim (claim whole))) began_again live_began (λ e n p. cc) (λ e n p. cc)

  -- in the new epoch nothing was taken but the claim, nobody has reclaimed, nothing is granted
  took_only : (fs : FilesetId) (b : Body) → TookOf site_one asked_again client fs b → Reclaim (claim whole) ≡ b
  took_only fs b (inl p) = let q = p.2.0 in cc
  took_only fs b (inr (inl p, _)) = absurd (let q = p.2.0 in cc)
  took_only fs b (inr (inr (inl p, _), _)) = absurd (let q = p.2.0 in cc)
  took_only fs b (inr (inr (inr (inl p, _), _), _)) = absurd (let q = p.2.0 in cc)
  took_only fs b (inr (inr (inr (inr (o, n), _), _), _)) = absurd (n (2, refl))

  not_reclaimed : HasReclaimed asked_again client → ⊥
  not_reclaimed r =
      let r1 = back (Took client 2 0 (Reclaim (claim whole))) began_again (λ ts p. cc) (λ e n p. cc) r in
      let r2 = back (Reserves []) (Sent client 2 0 Restarted ∷ BeginsEpoch 2 ∷ before) (λ ts p. cc) (λ e n p. cc) r1 in
      let r3 = back (Sent client 2 0 Restarted) (BeginsEpoch 2 ∷ before) (λ ts p. cc) (λ e n p. cc) r2 in
      elim r3 [ inl y ↦ elim y [ inl z ↦ (let q = z.1 in cc) | inr z ↦ elim z.0 [ inl p ↦ (let q = p.0.2 in cc) | inr p ↦ z.1 p ] ] | inr y ↦ y.1 (2, refl) ]

  not_granted : (t : Token) → Granted site_one asked_again t → ⊥
  not_granted t g =
      let g1 = ungrant (Took client 2 0 (Reclaim (claim whole))) began_again t (fresh_none (Took client 2 0 (Reclaim (claim whole))) (λ h e n w p. cc) (λ h e n w p. cc) (λ h ts p. cc)) g in
      let g2 = ungrant (Reserves []) (Sent client 2 0 Restarted ∷ BeginsEpoch 2 ∷ before) t (fresh_none (Reserves []) (λ h e n w p. cc) (λ h e n w p. cc) (λ h ts p. cc)) g1 in
      let g3 = ungrant (Sent client 2 0 Restarted) (BeginsEpoch 2 ∷ before) t (fresh_none (Sent client 2 0 Restarted) (λ h e n w p. cc) (λ h e n w p. cc) (λ h ts p. cc)) g2 in
      elim g3 [ inl n ↦ fresh_none (BeginsEpoch 2) (λ h e n w p. cc) (λ h e n w p. cc) (λ h ts p. cc) t n | inr y ↦ y.1 (2, refl) ]

  not_given_up : (i : TokenId) → GivenUp site_one asked_again client i → ⊥
  not_given_up i given =
      elim (given_up site_one asked_again client i given) [
        | inl l ↦ (let q = took_only l.0.fid.fileset (GiveBack l.0) l.1 in cc)
        | inr l ↦ (let q = took_only l.0.fid.fileset (Returned l.0) l.1 in cc)
      ]

  -- what both tokens have
  both : (P : Token → Type 0) → P first → P second → (t : Token) → In t (claim whole).tokens → P t
  both P x y t (inl e) = subst P (sym e) x
  both P x y t (inr (inl e)) = subst P (sym e) y
  both P x y t (inr (inr e)) = elim e [ ]

  two_of : (t u : Token) → In t (claim whole).tokens → In u (claim whole).tokens → t.id ≡ u.id → t ≡ u
  two_of t u (inl p) (inl q) e = p ∙ sym q
  two_of t u (inr (inl p)) (inr (inl q)) e = p ∙ sym q
  two_of t u (inl p) (inr (inl q)) e = absurd (let s : 1 ≡ 2 = ap (λ (x : Token). x.id.seq) (sym p) ∙ (ap (λ (x : TokenId). x.seq) e ∙ ap (λ (x : Token). x.id.seq) q) in omega (arith, s))
  two_of t u (inr (inl p)) (inl q) e = absurd (let s : 2 ≡ 1 = ap (λ (x : Token). x.id.seq) (sym p) ∙ (ap (λ (x : TokenId). x.seq) e ∙ ap (λ (x : Token). x.id.seq) q) in omega (arith, s))
  two_of t u (inr (inr p)) q e = elim p [ ]
  two_of t u p (inr (inr q)) e = elim q [ ]

  abbrev at_root : Outstanding
  at_root = record { fileset = root.fileset; moves = 0; give = 0; change = 0 }

  number_is : (o : Outstanding) → In o (claim whole).numbers → at_root ≡ o
  number_is o (inl e) = sym e
  number_is o (inr e) = elim e [ ]

  it_waits : (o : Outstanding) → In o (claim whole).numbers → 0 < o.give → ⊥
  it_waits o m up = (let q : 0 ≡ o.give = ap (λ (x : Outstanding). x.give) (number_is o m) in omega (arith, q, up))

  may_admit : MayAdmit site_one asked_again client (claim whole).tokens
  may_admit = record {
    first = not_reclaimed;
    live = live_again;
    claim = claim whole;
    moves = 0;
    took = inl (refl, live_began);
    waited = λ o m up. absurd (it_waits o m up);
    sound = λ t m. (m, both (λ x. x.host ≡ client) refl refl t m, both (λ x. ClaimsHere site_one asked_again (claim whole) x) (at_root, inl refl, refl, here_one) (at_root, inl refl, refl, here_one) t m, not_given_up t.id, λ u. not_granted u.0 u.1);
    whole = λ t m here out free. (t, m, refl);
    apart = two_of;
  }

  admits_them : ServerTokens site_one asked_again (Admits client (claim whole).tokens)
  admits_them = record {
    epochs = λ h e n c p. absurd (cc);
    grants = λ h e n w p. absurd (cc);
    dones = λ h e n w p. absurd (cc);
    revokes = λ h e n r i p. absurd (cc);
    revokes_here = λ h e n r p. absurd (cc);
    stamps = λ h e n x r p. absurd (cc);
    gones = λ h e n g p. absurd (cc);
    reclaimed = λ h e n r g p. absurd (cc);
    left_out = λ h e n r i p. absurd (cc);
    admits = λ h ts p. let q : client ≡ h = cc in let r : (claim whole).tokens ≡ ts = cc in subst (λ (x : HostId × List Token). MayAdmit site_one asked_again x.0 x.1) (λ i. (q i, r i)) may_admit;
    writes = λ w p. absurd (cc);
    writes_once = λ w p. absurd (cc);
    reserves = λ ts t u p. absurd (cc);
  }

  -- the host's steps
  abbrev pub five : List Step
  five = from_cache ∷ four whole

  abbrev pub six : List Step
  six = reclaims whole ∷ five

  abbrev pub seven : List Step
  seven = gives whole ∷ six

  said_five : SaidPlain five
  said_five v e n b (inl p) = elim p.1 [ ]
  said_five v e n b (inr p) = said_four whole v e n b p

  going : HasStopped five → ⊥
  going d = said_five d.0 d.1 d.2 Down d.3

  only_claim : (v : ServerId) (e n : ℕ) (b : Body) → Sends (reclaims whole) v e n b → (site_one ≡ v) × (2 ≡ e) × (0 ≡ n) × (Reclaim (claim whole) ≡ b)
  only_claim = sent_one (reclaims whole) 2 (Reclaim (claim whole)) refl

  none_made_five : (g : Give) → Made five g → ⊥
  none_made_five g m = elim m [ inl e ↦ elim e [ ] | inr m ↦ elim m [ inl e ↦ elim e [ ] | inr m ↦ elim m [ inl e ↦ elim e [ ] | inr m ↦ elim m [ inl e ↦ elim e [ ] | inr m ↦ elim m [ inl e ↦ elim e [ ] | inr m ↦ elim m [ ] ] ] ] ] ]

  none_made : (g : Give) → Made six g → ⊥
  none_made g (inl m) = elim m [ ]
  none_made g (inr m) = none_made_five g m

  -- it holds the two tokens
  mine : (t : Token) → Held five t → In t (claim whole).tokens
  mine t (inl m, _) = elim m [ ]
  mine t (inr (inl m, _), _) = m
  mine t (inr (inr k, _), _) = elim k.0 [ inl e ↦ elim e [ ] | inr k ↦ elim k.0 [ inl e ↦ elim e [ ] | inr k ↦ elim k.0 [ inl e ↦ elim e [ ] | inr k ↦ elim k [ ] ] ] ]

  held : (t : Token) → In t (claim whole).tokens → Held five t
  held t m = (inr (inl m, λ d. elim d.1 [ ]), λ d. elim d.1 [ ])

  -- no Change of the fileset was sent
  said_change : (v : ServerId) (e n : ℕ) (c : ChangeOf) → Said five v e n (Change c) → c.fileset.0 ≡ 0
  said_change v e n c p = said_five v e n (Change c) p

  none_changing_five : (n : ℕ) (past : List Step) → ((v : ServerId) (e m : ℕ) (c : ChangeOf) → Said past v e m (Change c) → c.fileset.0 ≡ 0) → Changing past site_one root.fileset n → ⊥
  none_changing_five n [] said a = elim a [ ]
  none_changing_five n (s ∷ past) said (inl (c, (v, e, m, p, at), f, k), _) =
      let q = said v e m c (inl p) in
      let r : c.fileset.0 ≡ root.fileset.0 = ap (λ (x : FilesetId). x.0) f in
      omega (arith, q, r)
  none_changing_five n (s ∷ past) said (inr a, _) = none_changing_five n past (λ v e m c p. said v e m c (inr p)) a

  none_changing : (n : ℕ) → Changing six site_one root.fileset n → ⊥
  none_changing n (inl (c, (v, e, m, p, at), f, k), _) = (let q = (only_claim v e m (Change c) p).3 in cc)
  none_changing n (inr a, _) = none_changing_five n five said_change a

  it_claims : Claims six site_one (claim whole)
  it_claims = record {
    held = λ t k i. elim k.0 [ inl m ↦ elim m [ ] | inr o ↦ mine t o ];
    given = λ g i m. absurd (none_made g m);
    only = λ t m. (inr (inr (inl m)), both (λ x. IsClaimable six site_one x.id) (refl, omega arith) (refl, omega arith) t m, inl (inr (held t m), λ d. elim d.1 [ ]));
    numbers = both (λ x. (o : Outstanding) × In o (claim whole).numbers × (o.fileset ≡ x.fid.fileset)) (at_root, inl refl, refl) (at_root, inl refl, refl);
    moves = λ o m. ap (λ (x : Outstanding). x.moves) (sym (number_is o m));
    gives = λ o m up. absurd (it_waits o m up);
    gives_all = λ o g m out f. absurd (none_made g out.made);
    changes = λ o m up. absurd (let q : 0 ≡ o.change = ap (λ (x : Outstanding). x.change) (number_is o m) in omega (arith, q, up));
    changes_all = λ o n m c. absurd (none_changing n (subst (λ (x : Outstanding). Changing six site_one x.fileset n) (sym (number_is o m)) c));
  }

  pub reclaims_may : HostTokens five (reclaims whole)
  reclaims_may = record {
    live = going;
    stops_alone = λ v e n b p q. absurd (let r = (only_claim p.0 p.1 p.2 Down p.3).3 in cc);
    epochs = λ v e n b p. let q = only_claim v e n b p in sym q.1 ∙ ap (epoch_at six) q.0;
    takes = λ t m. elim m [ ];
    drops = λ t a l. absurd (leaves_none t.id l);
    drops_only = λ t d. elim d.1 [ ];
    returns = λ i r. absurd (returns_none i r);
    returns_free = λ i g r. absurd (returns_none i r);
    answers = λ w v e n p. absurd (answers_none w v e n p);
    answers_file = λ w v e n t p. absurd (answers_none w v e n p);
    makes = λ g i m. elim m [ ];
    makes_once = λ g k i m. elim m [ ];
    makes_from = λ g m. elim m [ ];
    makes_apart = λ g k m. elim m [ ];
    makes_new = λ g k m. elim m [ ];
    gives = λ g v e n p. absurd (let q = (only_claim v e n (GiveBack g) p).3 in cc);
    gives_first = λ g k v e n p. absurd (let q = (only_claim v e n (GiveBack g) p).3 in cc);
    fetches = λ f v e n p. absurd (let q = (only_claim v e n (Fetch f) p).3 in cc);
    changes = λ c v e n p. absurd (let q = (only_claim v e n (Change c) p).3 in cc);
    claims = λ v e n c p. let q = only_claim v e n (Reclaim c) p in let r = q.3 in let is : claim whole ≡ c = cc in subst (λ (x : ServerId × ReclaimOf). Claims six x.0 x.1) (λ i. (q.0 i, is i)) it_claims;
    bye_held = λ v e n t p. absurd (let q = (only_claim v e n Bye p).3 in cc);
    bye_gives = λ v e n g p. absurd (let q = (only_claim v e n Bye p).3 in cc);
    bye_asking = λ v e n fs k p. absurd (let q = (only_claim v e n Bye p).3 in cc);
    bye_changing = λ v w e n fs k p. absurd (let q = (only_claim v e n Bye p).3 in cc);
  }
    where
      answers_none : (w : Named) (v : ServerId) (e n : ℕ) → Sends (reclaims whole) v e n (Returned w) ⊎ Sends (reclaims whole) v e n (Kept w) → ⊥
      answers_none w v e n (inl p) = let q = (only_claim v e n (Returned w) p).3 in cc
      answers_none w v e n (inr p) = let q = (only_claim v e n (Kept w) p).3 in cc

      returns_none : (i : TokenId) → ReturnsToken (reclaims whole) i → ⊥
      returns_none i (v, e, n, named, p, m) = let q = (only_claim v e n (Returned named) p).3 in cc

      leaves_none : (i : TokenId) → LeavesHost (reclaims whole) i → ⊥
      leaves_none i (inl m) = elim m.1 [ ]
      leaves_none i (inr r) = returns_none i r

  -- the host's give-back
  only_give : (v : ServerId) (e n : ℕ) (b : Body) → Sends (gives whole) v e n b → (site_one ≡ v) × (2 ≡ e) × (0 ≡ n) × (GiveBack (give whole) ≡ b)
  only_give = sent_one (gives whole) 2 (GiveBack (give whole)) refl

  is_give : (g : Give) → In g (gives whole).made → give whole ≡ g
  is_give g (inl e) = sym e
  is_give g (inr e) = elim e [ ]

  leaves_second : (i : TokenId) → LeavesHost (gives whole) i → i ≡ second.id
  leaves_second i (inl (g, m, n)) = go (subst (λ (x : Give). In i x.ids) (sym (is_give g m)) n)
    where
      go : In i (second.id ∷ []) → i ≡ second.id
      go (inl p) = p
      go (inr p) = elim p [ ]
  leaves_second i (inr (v, e, n, named, p, m)) = absurd (let q = (only_give v e n (Returned named) p).3 in cc)

  held_six : (t : Token) → In t (claim whole).tokens → Held six t
  held_six t m = (inr (held t m), λ d. elim d.1 [ ])

  seq_apart : (t : Token) → t ≡ first → t.id ≡ second.id → ⊥
  seq_apart t e i = (let q : 1 ≡ 2 = ap (λ (x : Token). x.id.seq) (sym e) ∙ ap (λ (x : TokenId). x.seq) i in omega (arith, q))

  dropped_is : (t : Token) → Drops (gives whole) t → second ≡ t
  dropped_is t (l, inl e, at) = ap (λ (x : Leave). x.token) (sym e) ∙ at
  dropped_is t (l, inr e, at) = elim e [ ]

  said_six_bye : (v : ServerId) → HasSaid six v Bye → ⊥
  said_six_bye v (e, n, inl p) = (let q = (only_claim v e n Bye p).3 in cc)
  said_six_bye v (e, n, inr p) = said_five v e n Bye p

  pub gives_may : HostTokens six (gives whole)
  gives_may = record {
    live = λ d. elim d.3 [ inl p ↦ (let q = (only_claim d.0 d.1 d.2 Down p).3 in cc) | inr p ↦ going (d.0, d.1, d.2, p) ];
    stops_alone = λ v e n b p q. absurd (let r = (only_give p.0 p.1 p.2 Down p.3).3 in cc);
    epochs = λ v e n b p. let q = only_give v e n b p in sym q.1 ∙ ap (epoch_at seven) q.0;
    takes = λ t m. elim m [ ];
    drops = drops;
    drops_only = λ t d. inl (subst (λ (x : Token). LeavesHost (gives whole) x.id) (dropped_is t d) (inl (give whole, inl refl, inl refl)));
    returns = λ i r. absurd (returns_none i r);
    returns_free = λ i g r. absurd (returns_none i r);
    answers = λ w v e n p. absurd (answers_none w v e n p);
    answers_file = λ w v e n t p. absurd (answers_none w v e n p);
    makes = λ g i m n. (second, inr (held_six second (inr (inl refl))), sym (leaves_second i (inl (g, m, n))), ap (λ (x : Give). x.fid) (is_give g m));
    makes_once = λ g k i m n _ _. sym (is_give g m) ∙ is_give k n;
    makes_from = λ g m. subst (λ (x : Give). 0 < x.number) (is_give g m) (omega arith);
    makes_apart = λ g k m n _. sym (is_give g m) ∙ is_give k n;
    makes_new = λ g k m n. absurd (none_made k n);
    gives = λ g v e n p. let q = only_give v e n (GiveBack g) p in let r = q.3 in let is : give whole ≡ g = cc in (subst (Made seven) is (inl (inl refl)), λ i. record { server = (ap (λ (x : Give). home x.fid.fileset) (sym is) ∙ (at_one ∙ q.0)) i; moves = q.2 i });
    gives_first = λ g k v e n p m f lt. absurd (elim m [ inl o ↦ (let r = (only_give v e n (GiveBack g) p).3 in let is : give whole ≡ g = cc in let one : k.number ≡ g.number = ap (λ (x : Give). x.number) (sym (is_give k o) ∙ is) in omega (arith, one, lt)) | inr o ↦ none_made k o ]);
    fetches = λ f v e n p. absurd (let q = (only_give v e n (Fetch f) p).3 in cc);
    changes = λ c v e n p. absurd (let q = (only_give v e n (Change c) p).3 in cc);
    claims = λ v e n c p. absurd (let q = (only_give v e n (Reclaim c) p).3 in cc);
    bye_held = λ v e n t p. absurd (let q = (only_give v e n Bye p).3 in cc);
    bye_gives = λ v e n g p. absurd (let q = (only_give v e n Bye p).3 in cc);
    bye_asking = λ v e n fs k p. absurd (let q = (only_give v e n Bye p).3 in cc);
    bye_changing = λ v w e n fs k p. absurd (let q = (only_give v e n Bye p).3 in cc);
  }
    where
      answers_none : (w : Named) (v : ServerId) (e n : ℕ) → Sends (gives whole) v e n (Returned w) ⊎ Sends (gives whole) v e n (Kept w) → ⊥
      answers_none w v e n (inl p) = let q = (only_give v e n (Returned w) p).3 in cc
      answers_none w v e n (inr p) = let q = (only_give v e n (Kept w) p).3 in cc

      returns_none : (i : TokenId) → ReturnsToken (gives whole) i → ⊥
      returns_none i (v, e, n, named, p, m) = let q = (only_give v e n (Returned named) p).3 in cc

      drops : (t : Token) → AtHand (gives whole) six t → LeavesHost (gives whole) t.id → Drops (gives whole) t
      drops t (inl m) l = elim m [ ]
      drops t (inr (inl m, _)) l = elim m [ ]
      drops t (inr (inr k, _)) l = go (mine t k)
        where
          go : In t (claim whole).tokens → Drops (gives whole) t
          go (inl e) = absurd (seq_apart t e (leaves_second t.id l))
          go (inr (inl e)) = (record { token = second; why = Evicted }, inl refl, sym e)
          go (inr (inr e)) = elim e [ ]

  learns_nothing : (v : ServerId) (e n : ℕ) (b : Body) → Sends (learns whole) v e n b → ⊥
  learns_nothing v e n b s = elim s.1 [ ]

  pub learns_may : HostTokens seven (learns whole)
  learns_may = record {
    live = λ d. elim d.3 [ inl p ↦ (let q = (only_give d.0 d.1 d.2 Down p).3 in cc) | inr r ↦ elim r [ inl p ↦ (let q = (only_claim d.0 d.1 d.2 Down p).3 in cc) | inr p ↦ going (d.0, d.1, d.2, p) ] ];
    stops_alone = λ v e n b p q. absurd (learns_nothing p.0 p.1 p.2 Down p.3);
    epochs = λ v e n b p. absurd (learns_nothing v e n b p);
    takes = λ t m. elim m [ ];
    drops = λ t a l. absurd (leaves_none t.id l);
    drops_only = λ t d. elim d.1 [ ];
    returns = λ i r. absurd (returns_none i r);
    returns_free = λ i g r. absurd (returns_none i r);
    answers = λ w v e n p. elim p [ inl q ↦ absurd (learns_nothing v e n (Returned w) q) | inr q ↦ absurd (learns_nothing v e n (Kept w) q) ];
    answers_file = λ w v e n t p. elim p [ inl q ↦ absurd (learns_nothing v e n (Returned w) q) | inr q ↦ absurd (learns_nothing v e n (Kept w) q) ];
    makes = λ g i m. elim m [ ];
    makes_once = λ g k i m. elim m [ ];
    makes_from = λ g m. elim m [ ];
    makes_apart = λ g k m. elim m [ ];
    makes_new = λ g k m. elim m [ ];
    gives = λ g v e n p. absurd (learns_nothing v e n (GiveBack g) p);
    gives_first = λ g k v e n p. absurd (learns_nothing v e n (GiveBack g) p);
    fetches = λ f v e n p. absurd (learns_nothing v e n (Fetch f) p);
    changes = λ c v e n p. absurd (learns_nothing v e n (Change c) p);
    claims = λ v e n c p. absurd (learns_nothing v e n (Reclaim c) p);
    bye_held = λ v e n t p. absurd (learns_nothing v e n Bye p);
    bye_gives = λ v e n g p. absurd (learns_nothing v e n Bye p);
    bye_asking = λ v e n fs k p. absurd (learns_nothing v e n Bye p);
    bye_changing = λ v w e n fs k p. absurd (learns_nothing v e n Bye p);
  }
    where
      returns_none : (i : TokenId) → ReturnsToken (learns whole) i → ⊥
      returns_none i (v, e, n, named, p, m) = learns_nothing v e n (Returned named) p

      leaves_none : (i : TokenId) → LeavesHost (learns whole) i → ⊥
      leaves_none i (inl m) = elim m.1 [ ]
      leaves_none i (inr r) = returns_none i r

  -- the server's doings after it has granted the claim, and after it has stored
  abbrev pub granted_again : List Doing
  granted_again = Reserves [] ∷ Sent client 2 0 (Reclaimed claimed) ∷ Admits client (claim whole).tokens ∷ asked_again

  abbrev pub stored : List Doing
  stored = Took client 2 0 (GiveBack (give whole)) ∷ granted_again

  live_granted : IsLive granted_again client
  live_granted =
      let a = stays (Admits client (claim whole).tokens) asked_again live_again (λ e n p. cc) (λ e n p. cc) in
      let b = stays (Sent client 2 0 (Reclaimed claimed)) (Admits client (claim whole).tokens ∷ asked_again) a (λ e n p. cc) (λ e n p. cc) in
      stays (Reserves []) (Sent client 2 0 (Reclaimed claimed) ∷ Admits client (claim whole).tokens ∷ asked_again) b (λ e n p. cc) (λ e n p. cc)

  is_applied : IsApplied site_one stored client (number_of (give whole))
  is_applied = inl (give whole, (0, here_one, (refl, live_granted)), refl, omega arith)

  -- the server's steps
  plain_words : IsBare Restarted
  plain_words = record { grant = λ w p. cc; done = λ w p. cc; revoke = λ r p. cc }

  pub restarts_may : ServerStep site_one before restarts
  restarts_may = record { writes = tt; admits = tt; sends = (sends_bare (BeginsEpoch 2 ∷ before) Restarted refl plain_words (λ n p. absurd (cc)) (λ r p. absurd (cc)), tt); reserves = reserves_may whole (Sent client 2 0 Restarted ∷ BeginsEpoch 2 ∷ before) }

  pub admits_may : ServerStep site_one began_again (admits whole)
  admits_may = record { writes = tt; admits = (admits_them, tt); sends = (sends_bare (Admits client (claim whole).tokens ∷ asked_again) (Reclaimed claimed) refl (record { grant = λ w p. cc; done = λ w p. cc; revoke = λ r p. cc }) (λ n p. absurd (cc)) (λ r p. cc), tt); reserves = reserves_may whole (Sent client 2 0 (Reclaimed claimed) ∷ Admits client (claim whole).tokens ∷ asked_again) }

  pub stores_may : ServerStep site_one granted_again (stores whole)
  stores_may = record { writes = tt; admits = tt; sends = (sends_bare stored (Gone (number_of (give whole))) refl (record { grant = λ w p. cc; done = λ w p. cc; revoke = λ r p. cc }) (λ n p. let q : number_of (give whole) ≡ n = cc in subst (λ (x : AppliedGive). Here site_one stored x.fileset 0 × IsApplied site_one stored client x) q (here_one, is_applied)) (λ r p. absurd (cc)), tt); reserves = reserves_may whole (Sent client 2 0 (Gone (number_of (give whole))) ∷ stored) }

  -- the run
  abbrev steps_9 : List Step
  steps_9 = restarts ∷ worked whole

  abbrev steps_10 : List Step
  steps_10 = reclaims whole ∷ steps_9

  abbrev steps_11 : List Step
  steps_11 = admits whole ∷ steps_10

  abbrev steps_12 : List Step
  steps_12 = gives whole ∷ steps_11

  abbrev steps_13 : List Step
  steps_13 = stores whole ∷ steps_12

  from_it : (b : Body) (m : Message) → In m (from_server b ∷ []) → IsFrom (Server site_one) m
  from_it b m (inl e) = (ap (λ (x : Message). x.server) e, ap (λ (x : Message). x.direction) e)
  from_it b m (inr e) = elim e [ ]

  host_cause : (past : List Step) (s : Step) (b : Body) → s.cause ≡ Came (from_server b) → SentTo (doings_of 1 site_one past) client 2 0 b → CameToHost (λ v. 1) client past s
  host_cause past s b is sent m e =
      let p : from_server b ≡ m = came whole (from_server b) m (sym is ∙ e) in
      subst (λ (x : Message). (x.host ≡ client) × (x.direction ≡ ToHost) × SentTo (doings_of 1 x.server past) client x.epoch x.moves x.body) p (refl, refl, sent)

  run_9 : IsTokenRun (λ v. 1) steps_9
  run_9 = (a_run whole, (restarts_may, λ m e. absurd (cc)), from_it Restarted, refl)

  run_10 : IsTokenRun (λ v. 1) steps_10
  run_10 = (run_9, (reclaims_may, host_cause steps_9 (reclaims whole) Restarted refl (inr (inl refl))), to_it whole 2 (Reclaim (claim whole)), refl)

  run_11 : IsTokenRun (λ v. 1) steps_11
  run_11 = (run_10, (admits_may, server_cause whole steps_10 (admits whole) 2 (Reclaim (claim whole)) refl (inl (to_server 2 (Reclaim (claim whole)), inl refl, refl, refl, refl, refl))), from_it (Reclaimed claimed), refl)

  run_12 : IsTokenRun (λ v. 1) steps_12
  run_12 = (run_11, (gives_may, host_cause steps_11 (gives whole) (Reclaimed claimed) refl (inr (inl refl))), to_it whole 2 (GiveBack (give whole)), refl)

  run_13 : IsTokenRun (λ v. 1) steps_13
  run_13 = (run_12, (stores_may, server_cause whole steps_12 (stores whole) 2 (GiveBack (give whole)) refl (inl (to_server 2 (GiveBack (give whole)), inl refl, refl, refl, refl, refl))), from_it (Gone (number_of (give whole))), refl)

  pub restart_run : IsTokenRun (λ v. 1) (worked_restart whole)
  restart_run = (run_13, (learns_may, host_cause steps_13 (learns whole) (Gone (number_of (give whole))) refl (inr (inl refl))), λ m i. elim i [ ], refl)

  pub was_applied : IsApplied site_one (doings_of 1 site_one (worked_restart whole)) client (number_of (give whole))
  was_applied = inr (inr is_applied)

  second_gone : Held seven second → ⊥
  second_gone k = k.1 (record { token = second; why = Evicted }, inl refl, refl)

  first_stays : Held seven first
  first_stays = (inr (held_six first (inl refl)), λ d. let q : 2 ≡ 1 = ap (λ (x : Token). x.id.seq) (dropped_is first d) in omega (arith, q))

  is_known : IsKnown (steps_of_host client (worked_restart whole)) (give whole)
  is_known = inl (
    (give whole, inl (inl refl), refl),
    inl (from_server (Gone (number_of (give whole))), refl, sym at_one, sym (ap (epoch_at seven) at_one), refl, refl),
  )

  going_on : HasStopped (learns whole ∷ seven) → ⊥
  going_on (v, e, n, inl p) = learns_nothing v e n Down p
  going_on (v, e, n, inr p) = learns_may.live (v, e, n, p)

  has_reclaimed : HasReclaimed (doings_of 1 site_one (worked_restart whole)) client
  has_reclaimed = inr (inr (inr (inr (inr (inl (inl ((claim whole).tokens, refl)), λ b. let q = b.1 in cc), λ b. let q = b.1 in cc), λ b. let q = b.1 in cc), λ b. let q = b.1 in cc), λ b. let q = b.1 in cc)

  is_safe : TokensAreSafe (λ v. 1) (worked_restart whole)
  is_safe = safe (λ v. 1) (worked_restart whole) (always (λ v. 1) (worked_restart whole) restart_run)

  still_held : Held (learns whole ∷ seven) first
  still_held = (inr first_stays, λ d. elim d.1 [ ])

  pub is_example : IsExample whole
  is_example = record {
    run = restart_run;
    held = holds whole;
    still_held = still_held;
    gone = λ k. elim k.0 [ inl m ↦ elim m [ ] | inr o ↦ second_gone o ];
    still_granted = is_safe.held_granted client site_one first going_on still_held refl has_reclaimed;
    ended = is_safe.given_ended client site_one (give whole) second (inr (inl (inl refl))) (inl refl) refl was_applied;
    applied = was_applied;
    known = is_known;
  }
