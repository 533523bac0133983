-- The start of a step whose cause is a request: it makes its want, or is answered at once, or neither.
use Rattle.std.proofs.Common.{◌≡◌, ◌⊎◌, ◌≤◌, ◌<◌, ℕ, Bool, true, false, List, [], ◌∷◌, ◌++◌, length, inl}
use Rattle.std.proofs.Common.{inr}
use Rattle.std.proofs.Common.{refl, sym, ◌∙◌, ap, subst, arith, eq-eqb}
use Rattle.std.proofs.lemmas.Bool.{cases_Bool}
use Rattle.std.proofs.lemmas.Bool.Decides.{nat_tests}
use Rattle.std.specs.Prelude.{nat_lt}
use Rattle.base_types.specs.declared.ids.HostId.{HostId}
use Rattle.base_types.specs.declared.ids.ServerId.{ServerId}
use Rattle.base_types.specs.declared.ids.Fid.{Fid}
use Rattle.tree_answers.specs.declared.tree.Tree.{Tree}
use Rattle.token_manager.specs.declared.grants.Grants.{Grants}
use Rattle.token_types.specs.declared.token.Need.{Need}
use Rattle.message_types.specs.declared.asking.Change.{Change as ChangeOf}
use Rattle.message_types.specs.declared.giving.Give.{Give}
use Rattle.message_types.specs.declared.giving.Reclaim.{Reclaim as ReclaimOf}
use Rattle.message_types.specs.declared.message.Body.{Body}
use Rattle.message_types.specs.declared.message.Body.TheVariants.{Bye, Change, Done, Down, GiveBack}
use Rattle.message_types.specs.declared.message.Body.TheVariants.{Hello, Reclaim}
use Rattle.message_types.specs.declared.message.Message.{Message}
use Rattle.message_types.specs.declared.telling.Done.{Done as DoneOf}
use Rattle.run_rules.specs.Doings.{Doing, HasReclaimed, IsLive, SentTo, TakenNow, TookNow, UsesStamp}
use Rattle.run_rules.specs.Doings.{after_cause}
use Rattle.run_rules.specs.Doings.{epoch}
use Rattle.run_rules.specs.Doings.Doing.{MakesWant, Took}
use Rattle.run_rules.specs.Past.{In}
use Rattle.run_rules.specs.ServerDecides.{IsAskedHere, IsDecidedHere, IsNewRequest}
use Rattle.run_rules.specs.ServerDue.{IsOfChange}
use Rattle.run_rules.specs.ServerMay.{HasWritten, IsLast}
use Rattle.run_rules.specs.Wants.{IsOld, NoneQueued, body_of, needs_for, CannotBothWait}
use Rattle.run_rules.specs.declared.applied.Applied.TheVariants.{Wants as IsWanted}
use Rattle.run_rules.specs.declared.applied.Request.{Request}
use Rattle.run_rules.specs.declared.applied.Request.TheVariants.{Change as Changes, Fetch as Asks}
use Rattle.run_rules.specs.declared.applied.Wanted.{Wanted}
use Rattle.run_rules.specs.declared.step.Cause.TheVariants.{Message as Came}
use Rattle.run_rules.specs.declared.step.Step.{Step}
use Rattle.store_state.specs.declared.state.StoreState.{StoreState}
use Rattle.server_tables.specs.Listing.{no_grace}
use Rattle.server_tables.specs.Standing.{QueueStands, Stands, tokens_of, StampsStand, TokensStand}
use Rattle.server_tables.specs.Updates.{enqueued, tokens_enqueued}
use Rattle.server_tables.specs.declared.pending.Pending.{Pending}
use Rattle.server_tables.specs.declared.tables.Tables.{Tables}
use Rattle.server_tables.proofs.Asking.{IsAsked, makes_may, took_still}
use Rattle.server_tables.proofs.Greeting.{in_parts}
use Rattle.server_tables.proofs.Idle.{IsAsk}
use Rattle.server_tables.proofs.Listed.{in_grace, over_is}
use Rattle.server_tables.proofs.Queueing.{changes_made, made_answers, made_hosts, made_tokens, queue_made, same_refl}
use Rattle.server_tables.proofs.Queueing.{wants_made}
use Rattle.server_tables.proofs.Still.{IsStill, answered_still, claims_of, gives_still, hosts_still, over_back}
use Rattle.server_tables.proofs.Still.{over_still}
use Rattle.server_tables.proofs.Still.{recovery_still, stamps_still, tokens_still}
use Rattle.server_decides.specs.Drafts.{no_draft, wanting}
use Rattle.server_decides.specs.Taking.{wanted_for}
use Rattle.server_decides.specs.Running.{making}
use Rattle.server_decides.specs.Serving.{IsServed}
use Rattle.server_exporter.specs.Machines.{IsAt, Keeps}
use Rattle.server_exporter.specs.declared.exporter.Exporter.{Exporter}
use Rattle.server_exporter.proofs.Greets.{live_too, never_more, stays_answered, stays_now, stays_onset}
use Rattle.server_exporter.proofs.Holds.{same_grants}
use Rattle.server_exporter.proofs.Onsets.{HasBegun, SaysAtOnce, SaysTo}
use Rattle.server_exporter.proofs.Openings.{AreCaused, AreSaid, begins}
use Rattle.server_exporter.proofs.Reasons.{row_none}
use Rattle.server_exporter.proofs.Replies.{heard_m, taken_m, was_m}
use Rattle.run_rules.specs.declared.step.Cause.{Cause}
use Rattle.base_types.specs.declared.limits.TheConstants.{NEEDS_MAX}

-- # A request

pub same_body : (q r : Request) → body_of q ≡ body_of r → q ≡ r
same_body (Asks f) (Asks g) e = let p : f ≡ g = cc in ap Asks p
same_body (Changes c) (Changes d) e = let p : c ≡ d = cc in ap Changes p
same_body (Asks f) (Changes d) e = absurd (cc)
same_body (Changes c) (Asks g) e = absurd (cc)

-- it is no greeting, no farewell, no give-back and no claim
abbrev pub IsOther : Body → Type 0
IsOther b = (b ≡ Hello) ⊎ ((b ≡ Bye)
    ⊎ ((b ≡ Down) ⊎ (((g : Give) × (b ≡ GiveBack g)) ⊎ ((c : ReclaimOf) × (b ≡ Reclaim c)))))

asks_no_other : (r : Request) (b : Body) → body_of r ≡ b → IsOther b → ⊥
asks_no_other (Asks f) b e (inl p) = let q = e ∙ p in cc
asks_no_other (Asks f) b e (inr (inl p)) = let q = e ∙ p in cc
asks_no_other (Asks f) b e (inr (inr (inl p))) = let q = e ∙ p in cc
asks_no_other (Asks f) b e (inr (inr (inr (inl p)))) = let q = e ∙ p.1 in cc
asks_no_other (Asks f) b e (inr (inr (inr (inr p)))) = let q = e ∙ p.1 in cc
asks_no_other (Changes c) b e (inl p) = let q = e ∙ p in cc
asks_no_other (Changes c) b e (inr (inl p)) = let q = e ∙ p in cc
asks_no_other (Changes c) b e (inr (inr (inl p))) = let q = e ∙ p in cc
asks_no_other (Changes c) b e (inr (inr (inr (inl p)))) = let q = e ∙ p.1 in cc
asks_no_other (Changes c) b e (inr (inr (inr (inr p)))) = let q = e ∙ p.1 in cc

is_ask : (r : Request) → IsAsk (body_of r)
is_ask (Asks f) = tt
is_ask (Changes c) = tt

module _ (server : ServerId) (past : List Doing) (m : Message) (r : Request) (is : m.body ≡ body_of r)
    (current : m.epoch ≡ epoch past) where
  abbrev now : List Doing
  now = Took m.host m.epoch m.moves m.body ∷ past

  other_none : (b : Body) → m.body ≡ b → IsOther b → ⊥
  other_none b e o = asks_no_other r b (sym is ∙ e) o

  -- a repeat is answered
  abbrev pub IsRepeated : List Message → Type 0
  IsRepeated sent = (c : ChangeOf) (d : DoneOf) → r ≡ Changes c → IsDecidedHere server past c.fileset m.moves
      → d.fileset ≡ c.fileset → d.bring.number ≡ c.number → IsLast past m.host d
      → HasWritten past m.host d ⊎ ((k : ℕ) × SentTo past m.host (epoch past) k (Done d))
      → (o : DoneOf) × SaysTo sent m.host (Done o) × (o.fileset ≡ c.fileset) × (o.bring.number ≡ c.number)

  -- what is said at once are Dones of the Change
  pub record AreDones (sent : List Message) : Type 0 where
    pub host : (n : Message) → In n sent → n.host ≡ m.host
    pub done : (n : Message) → In n sent → (d : DoneOf) × (n.body ≡ Done d)
        × ((c : ChangeOf) × (r ≡ Changes c) × IsOfChange c d)

  its_change : (q : Request) (c : ChangeOf) → body_of q ≡ Change c → q ≡ Changes c
  its_change q c e = same_body q (Changes c) e

  pub request_says : (sent : List Message) → AreDones sent → IsRepeated sent → IsLive past m.host
      → (s : Step) → s.cause ≡ Came m → SaysAtOnce server past s sent
  request_says sent dones repeats lives s e = record {
    hello_old = λ h f live old. absurd (other_none Hello (heard_m past m s e h Hello f).1 (inl refl));
    hello = λ h f up either. absurd (other_none Hello (heard_m past m s e h Hello f).1 (inl refl));
    bye = λ h f up either. absurd (other_none Bye (heard_m past m s e h Bye f).1 (inr (inl refl)));
    late = λ h n to host live other not_hello not_down.
        absurd (other (sym (was_m past m s e h n to host).1 ∙ current));
    restarted_only = λ h q. absurd (let k = sym (dones.done q.0 q.1).1 ∙ q.3 in cc);
    gone = λ h n g t here.
        absurd (other_none (GiveBack g) (taken_m past m s e h n (GiveBack g) t).3 (inr (inr (inr (inl (g, refl))))));
    gone_only = λ h n q. absurd (let k = sym (dones.done q.0 q.1).1 ∙ q.3 in cc);
    claim_again = λ h n c t p.
        absurd (other_none (Reclaim c) (taken_m past m s e h n (Reclaim c) t).3 (inr (inr (inr (inr (c, refl))))));
    bye_only = λ h q. absurd (let k = sym (dones.done q.0 q.1).1 ∙ q.3 in cc);
    reclaimed_only = λ h a q. absurd (let k = sym (dones.done q.0 q.1).1 ∙ q.3 in cc);
    repeats = λ h n c d t here f k last done. (let p = taken_m past m s e h n (Change c) t in
        subst (λ (v : HostId). (o : DoneOf) × SaysTo sent v (Done o) × (o.fileset ≡ c.fileset)
        × (o.bring.number ≡ c.number)) p.0
        (repeats c d (its_change r c (sym is ∙ p.3))
        (subst (IsDecidedHere server past c.fileset) (sym p.2) here) f k
        (subst (λ (v : HostId). IsLast past v d) (sym p.0) last)
        (subst (λ (v : HostId). HasWritten past v d ⊎ ((i : ℕ) × SentTo past v (epoch past) i (Done d))) (sym p.0)
        done)));
    dones_only = λ h d q. (let p = dones.done q.0 q.1 in
        let same = its_done p.0 d (sym p.1 ∙ q.3) in
        let to : m.host ≡ h = sym (dones.host q.0 q.1) ∙ q.2 in (
          p.2.0,
          subst (IsOfChange p.2.0) same p.2.2,
          subst (λ (v : HostId). (n : ℕ) × TakenNow past s v n (Change p.2.0)) to
              (m.moves, ((m, e, refl, current, refl, is ∙ ap body_of p.2.1), lives)),
        ));
    no_grant = λ h g q. let k = sym (dones.done q.0 q.1).1 ∙ q.3 in cc;
    no_revoke = λ h v q. let k = sym (dones.done q.0 q.1).1 ∙ q.3 in cc;
  }
    where
      its_done : (c d : DoneOf) → Done c ≡ Done d → c ≡ d
      its_done c d q = cc

  pub request_caused : (tree : Tree) (sent : List Message)
      → ((s : Step) → s.cause ≡ Came m → SaysAtOnce server past s sent)
      → ((h : HostId) (n : ℕ) (c : ReclaimOf) → TookNow now h n (Reclaim c) → (HasReclaimed past h → ⊥)
      → HasReclaimed now h → ⊥) → AreCaused server tree past m [] sent
  request_caused tree sent at_once never = record {
    given = λ s e h g f. absurd (other_none (GiveBack g) (taken_m past m s e h f.0.0 (GiveBack g) f.0.1).3
        (inr (inr (inr (inl (g, refl))))));
    down = λ s e h f. absurd (other_none Down (heard_m past m s e h Down f.0).1 (inr (inr (inl refl))));
    else_none = λ s e a b. refl;
    at_once = at_once;
    never = never;
  }

  -- what a new request is
  pub its_request : (s : Step) → s.cause ≡ Came m → (h : HostId) (n : ℕ) (q : Request)
      → IsNewRequest server past (after_cause s.cause past) s h n q → (m.host ≡ h) × (m.moves ≡ n) × (r ≡ q)
      × IsAskedHere server past m.moves r × (IsOld now m.host r → ⊥) × NoneQueued now m.host r
  its_request s e h n q new =
      let p = taken_m past m s e h n (body_of q) new.taken in
      let same : r ≡ q = same_body r q (sym is ∙ p.3) in
      let begun : after_cause s.cause past ≡ now = ap (λ (c : Cause). after_cause c past) e in (
        p.0,
        p.2,
        same,
        subst (λ (y : ℕ × Request). IsAskedHere server past y.0 y.1) (λ i. (sym p.2 i, sym same i)) new.here,
        subst (λ (y : List Doing × HostId × Request). IsOld y.0 y.1 y.2 → ⊥)
            (λ i. (begun i, sym p.0 i, sym same i)) new.fresh,
        subst (λ (y : List Doing × HostId × Request). NoneQueued y.0 y.1 y.2)
            (λ i. (begun i, sym p.0 i, sym same i)) new.alone,
      )

-- # The tables stay, or its want is made

module _ (tree : Tree) (past : List Doing) (x : Exporter) (z : IsAt past tree x) (m : Message) (st : StoreState)
    (k : Keeps x.tables tree st) (served : IsServed x.tables st) (r : Request) (is : m.body ≡ body_of r)
    (live : IsLive past m.host) (current : m.epoch ≡ epoch past) where
  abbrev t : Tables
  t = x.tables

  abbrev begun : List Doing
  begun = Took m.host m.epoch m.moves m.body ∷ past

  asked : IsAsked past m
  asked = record { asks = subst IsAsk (sym is) (is_ask r); now = current; live = live }

  pub asked_still : IsStill t.server t.stamp past (Took m.host m.epoch m.moves m.body)
  asked_still = took_still past t m z.tables asked

  pub begun_stands : Stands begun t
  begun_stands = stays_now tree past x z m st k served asked_still

  -- no want is made
  pub request_opens : (sent : List Message) → AreSaid t.server begun t sent
      → AreDones t.server past m r is current sent → IsRepeated t.server past m r is current sent
      → (IsAskedHere t.server past m.moves r → (IsOld begun m.host r → ⊥) → NoneQueued begun m.host r → ⊥)
      → HasBegun t.server (Came m) tree past (making t (record no_draft { sent = sent }) st)
  request_opens sent said dones repeats none =
      begins t.server tree past m [] t st sent (stays_onset tree past x z m st k served asked_still) said
      (request_caused t.server past m r is current tree sent
      (request_says t.server past m r is current sent dones repeats live)
      (never_more tree past x z m st k served asked_still)) z.told
      (λ s e h n q new. (let p = its_request t.server past m r is current s e h n q new in none p.3 p.4 p.5))

  -- it makes its want
  module _ (needs : List Need) (home : m.moves ≡ 0) (here : IsAskedHere t.server past 0 r)
      (fresh : IsOld begun m.host r → ⊥) (alone : NoneQueued begun m.host r)
      (needs_is : needs ≡ needs_for tree m.host r) (few : length needs ≤ NEEDS_MAX)
      (after : IsServed (enqueued t (wanted_for m.host r needs)) st)
      (unrepeated : IsRepeated t.server past m r is current []) where
    abbrev w : Wanted
    w = wanted_for m.host r needs

    abbrev p0 : Pending
    p0 = record { number = t.next; wanted = w }

    abbrev y : Tables
    y = enqueued t w

    abbrev wanted : List Doing
    wanted = MakesWant w ∷ begun

    abbrev made : Doing
    made = MakesWant w

    took_it : TookNow begun m.host 0 (body_of r)
    took_it = inl (came, live)
      where
        came : Took m.host m.epoch m.moves m.body ≡ Took m.host (epoch past) 0 (body_of r)
        came i = Took m.host (current i) (home i) (is i)

    queue_wanted : (b : Bool) → no_grace t.hosts ≡ b
        → QueueStands wanted (tokens_enqueued t p0).queue (t.pending ++ p0 ∷ [])
    unfolding tokens_enqueued
    queue_wanted true e = rw e (queue_made begun w t.server t.next t.pending begun_stands.wants alone t.tokens.queue
        begun_stands.queue (over_is begun t.hosts begun_stands.hosts e))
    queue_wanted false e = rw e (record {
      calm = λ over. absurd (in_grace begun t.hosts begun_stands.hosts e
          (over_back begun made (made_hosts begun w).calm over));
      grace = λ g. begun_stands.queue.grace (λ over. g (over_still begun made (made_hosts begun w).calm over));
    })

    not_below : (c : ChangeOf) (e n : ℕ) (d : DoneOf) → r ≡ Changes c → SentTo begun m.host e n (Done d)
        → d.fileset ≡ c.fileset → d.bring.number ≤ c.number
    not_below c e n d q sent f = elim (cases_Bool (nat_lt c.number d.bring.number)) [
      | inl l ↦ absurd (fresh (subst (IsOld begun m.host) (sym q)
          (inr (e, n, d, sent, f, inl (less c.number d.bring.number l)))))
      | inr l ↦ not_less c.number d.bring.number l
    ]
      where
        less : (a b : ℕ) → nat_lt a b ≡ true → a < b
        less a b e = grind (arith, nat_tests, e)

        not_less : (a b : ℕ) → nat_lt a b ≡ false → b ≤ a
        not_less a b e = grind (arith, nat_tests, e)

    tells_none : (f : Fid) (v : ℕ) → UsesStamp made f v → v ≤ t.stamp
    tells_none f v u = absurd (elim u [
      | inl q ↦ elim q.4 [ inl p ↦ (let i = p.1 in cc) | inr p ↦ (let i = p.1 in cc) ]
      | inr q ↦ (let i = q.4 in cc)
    ])

    stands_wanted : Stands wanted y
    stands_wanted =
        let s = begun_stands in
        let h = made_hosts begun w in
        record {
          slots = s.slots;
          hosts = hosts_still begun made h s.hosts;
          tokens = subst (TokensStand wanted t.server) (sym (same_grants t p0))
              (tokens_still begun made h.calm t.server (made_tokens begun w t.server) s.tokens);
          stamps = subst (λ (g : Grants). StampsStand wanted g t.stamp) (sym (same_grants t p0))
              (stamps_still begun made h.calm t.server (made_tokens begun w t.server) tells_none s.stamps);
          wants = wants_made begun w t.server t.next t.pending s.wants alone
              (live_too tree past x z m st k served asked_still live) took_it here few;
          queue = queue_wanted (no_grace t.hosts) refl;
          gives = gives_still begun made h.calm t.server (claims_of t.server begun made (made_answers begun w t.server))
              s.gives;
          changes = changes_made begun w t.server t.next t.pending s.wants alone s.changes
              (λ c q d. fresh (subst (IsOld begun m.host) (sym q) (inl d))) not_below;
          recovery = recovery_still begun made h.calm t.server
              (claims_of t.server begun made (made_answers begun w t.server)) (made_tokens begun w t.server).names
              s.recovery;
        }

    one_pending : (p : Pending) → In p (p0 ∷ []) → p ≡ p0
    one_pending p (inl e) = e
    one_pending p (inr i) = elim i [ ]

    enters_none : (p : Pending) (c : ChangeOf) → In p y.pending → p.wanted.request ≡ Changes c → c.enter ≡ true
        → p.wanted.needs ≡ []
    enters_none p c i q e = elim (in_parts p t.pending (p0 ∷ []) i) [
      | inl j ↦ z.enters p c j q e
      | inr j ↦ subst (λ (v : Pending). v.wanted.needs ≡ []) (sym (one_pending p j))
          (needs_is ∙ ap (needs_for tree m.host)
          (sym (ap (λ (v : Pending). v.wanted.request) (one_pending p j)) ∙ q) ∙ row_none tree m.host c e)
    ]

    new_request : (s : Step) → s.cause ≡ Came m → IsNewRequest t.server past begun s m.host 0 r
    new_request s e = record {
      taken = ((m, e, refl, current, home, is), live);
      here = here;
      fresh = fresh;
      alone = alone;
    }

    pub want_opens : HasBegun t.server (Came m) tree past (making y (wanting no_draft w t.next) st)
    want_opens =
        let o = stays_onset tree past x z m st k served asked_still in
        let c = request_caused t.server past m r is current tree []
        (request_says t.server past m r is current [] (record { host = λ n i. elim i [ ]; done = λ n i. elim i [ ] })
        unrepeated live) (never_more tree past x z m st k served asked_still) in
        record {
          base = [];
          held = record {
            more = IsWanted w ∷ [];
            deciding = record {
              server_is = refl;
              applied = refl;
              admitted = refl;
              stands = stands_wanted;
              mute = record { brings = λ n i. elim i [ ]; decides = λ n i. elim i [ ] };
              none = refl;
              all = refl;
              writes = (makes_may t.server begun w, tt);
              may = λ s e. (
                (needs_is, inl (new_request s e)),
                tt,
              );
            };
            served = after;
            stored = record { keeps = k.stands; homes = k.homes; taken = k.taken; epoch = k.epoch };
            listed = z.once;
            gives = z.gives;
            changes = z.changes;
            enters = enters_none;
            tokens = λ u i. z.homes u (subst (λ (g : Grants). In u (tokens_of g)) (same_grants t p0) i);
            answered = answered_still begun made (made_hosts begun w)
                (stays_answered tree past x z m st k served asked_still);
            early = tt;
            once = tt;
            waits = o.waits;
            told = λ n q i. elim i [ ];
          };
          plain = record {
            line = λ n e. cc;
            restart = λ n e. cc;
            lapse = λ e. cc;
            evict = λ e. cc;
            end = λ e. cc;
          };
          told = z.told;
          known = z.known;
          undone = λ v i. elim i [ inl e ↦ (cc) | inr n ↦ n ];
          origin = λ p c i q. elim (in_parts p t.pending (p0 ∷ []) i) [
            | inl j ↦ inr (p.wanted, z.tables.wants.pending p j, refl, q)
            | inr j ↦ inl (
              m.moves,
              λ s e. (let n = one_pending p j in
                  subst (λ (v : HostId). TakenNow past s v m.moves (Change c))
                  (sym (ap (λ (v : Pending). v.wanted.host) n)) (
                    (
                      m,
                      e,
                      refl,
                      current,
                      refl,
                      is ∙ ap body_of (sym (ap (λ (v : Pending). v.wanted.request) n) ∙ q),
                    ),
                    live,
                  )),
            )
          ];
          given = c.given;
          down = c.down;
          else_none = c.else_none;
          at_once = c.at_once;
          news = λ s e h n q new. (let p = its_request t.server past m r is current s e h n q new in
              (w, inl refl, p.0, p.2));
          fresh = λ s e p i new. elim (in_parts p t.pending (p0 ∷ []) i) [
            | inl j ↦ (let q = its_request t.server past m r is current s e p.wanted.host p.wanted.moves
                p.wanted.request
                new in absurd (q.5 p.wanted (begun_stands.wants.pending p j) (sym q.0)
                (subst (λ (v : Request). CannotBothWait p.wanted.request v) (sym q.2) (same_refl p.wanted.request))))
            | inr j ↦ eq-eqb t.next p.number (sym (ap (λ (v : Pending). v.number) (one_pending p j)))
          ];
          never = c.never;
        }
