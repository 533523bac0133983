-- The start of a step by which a host claims what it had: the claim waits, or it is answered as before.
use Rattle.std.proofs.Common.{◌≡◌, ◌⊎◌, ◌==◌, ℕ, Bool, true, false, List, [], ◌∷◌, Option, None, Some, inl, inr}
use Rattle.std.proofs.Common.{refl, if◌then◌else◌}
use Rattle.std.proofs.Common.{sym, ◌∙◌, ap, subst, eq-eqb}
use Rattle.std.specs.Option.{option_map_or, option_map}
use Rattle.base_types.specs.declared.ids.HostId.{HostId}
use Rattle.tree_answers.specs.declared.tree.Tree.{Tree}
use Rattle.message_types.specs.declared.giving.Reclaim.{Reclaim as ReclaimOf}
use Rattle.message_types.specs.declared.giving.Reclaimed.{Reclaimed as ReclaimedOf}
use Rattle.message_types.specs.declared.message.Body.{Body}
use Rattle.message_types.specs.declared.message.Body.TheVariants.{Bye, Change, Down, Fetch, GiveBack, Hello, Reclaim}
use Rattle.message_types.specs.declared.message.Body.TheVariants.{Reclaimed}
use Rattle.message_types.specs.declared.message.Message.{Message}
use Rattle.run_rules.specs.Doings.{Doing, HasReclaimed, IsLive, SentTo, TakenNow, TookNow, after_cause, epoch}
use Rattle.run_rules.specs.Doings.Doing.{Took}
use Rattle.run_rules.specs.Past.{In}
use Rattle.run_rules.specs.ServerDecides.{IsNewRequest}
use Rattle.run_rules.specs.Wants.{body_of}
use Rattle.run_rules.specs.declared.applied.Request.{Request}
use Rattle.run_rules.specs.declared.applied.Request.TheVariants.{Change as Changes, Fetch as Asks}
use Rattle.run_rules.specs.declared.step.Cause.TheVariants.{Message as Came}
use Rattle.run_rules.specs.declared.step.Step.{Step}
use Rattle.store_state.specs.declared.state.StoreState.{StoreState}
use Rattle.server_tables.specs.Claims.{answer_to}
use Rattle.server_tables.specs.Listing.{has_host}
use Rattle.server_tables.specs.Standing.{AnsweredStand, Stands}
use Rattle.server_tables.specs.declared.recovering.Answered.{Answered}
use Rattle.server_tables.specs.declared.recovering.Claimed.{Claimed}
use Rattle.server_tables.specs.declared.tables.Tables.{Tables}
use Rattle.server_tables.proofs.Claiming.{stands_claimed}
use Rattle.server_tables.proofs.Early.{IsWordOf}
use Rattle.server_tables.proofs.Fetching.{same_host}
use Rattle.server_tables.proofs.Greeting.{in_end, in_front, in_parts}
use Rattle.server_tables.proofs.Judged.{found_first, none_found}
use Rattle.server_tables.proofs.Listed.{has_in, in_has}
use Rattle.server_tables.proofs.Quiet.{IsBlank}
use Rattle.server_tables.proofs.Still.{HostsStill, answered_still, live_still, reclaimed_back}
use Rattle.server_decides.specs.Drafts.{no_draft, saying, word}
use Rattle.server_decides.specs.Taking.{AreClaims, IsClaimed, claim_draft, claim_of}
use Rattle.server_decides.specs.Draft.{Draft}
use Rattle.server_decides.specs.Running.{making}
use Rattle.server_decides.specs.Serving.{IsServed}
use Rattle.server_exporter.specs.Machines.{IsAt, IsTold, Keeps}
use Rattle.server_exporter.specs.declared.exporter.Exporter.{Exporter}
use Rattle.server_exporter.proofs.Greets.{took_is}
use Rattle.server_exporter.proofs.Onsets.{HasBegun, SaysAtOnce, SaysTo}
use Rattle.server_exporter.proofs.Openings.{AreCaused, IsOnset, begins, none_said, one_said}
use Rattle.server_exporter.proofs.Replies.{heard_m, taken_m, was_m}
use Rattle.std.proofs.lemmas.Bool.{false≢true}
use Rattle.std.specs.List.{find}

module _ (tree : Tree) (past : List Doing) (x : Exporter) (z : IsAt past tree x) (n : Message) (claim : ReclaimOf)
    (st : StoreState) (k : Keeps x.tables tree st) (live : IsLive past n.host) (current : n.epoch ≡ epoch past) where
  abbrev t : Tables
  t = x.tables

  -- the message, as it is known
  abbrev m : Message
  m = record n { epoch = epoch past; body = Reclaim claim }

  abbrev took : Doing
  took = Took n.host (epoch past) n.moves (Reclaim claim)

  abbrev now : List Doing
  now = took ∷ past

  its_body : (h : HostId) (e i : ℕ) (b : Body) → took ≡ Took h e i b → Reclaim claim ≡ b
  its_body h e i b p = (took_is past m h e i b p).3

  claim_hosts : HostsStill past took
  claim_hosts = record {
    calm = record {
      begin = λ w. let q = w.1 in cc;
      still = λ w. let q = w.1 in cc;
      away = λ h g. absurd (elim g [
        | inl f ↦ (let q = its_body h f.0 f.1 Down f.2 in cc)
        | inr f ↦ (let q = its_body h (epoch past) f.0.0 Bye f.0.1 in cc)
      ]);
      admits = λ h ts p. cc;
    };
    hello = λ h f l d. let q = its_body h f.0 f.1 Hello f.2 in cc;
    down = λ h f. absurd (let q = its_body h f.0 f.1 Down f.2 in cc);
    sends = λ h e i b p. absurd (cc);
  }

  never_then : (h : HostId) (i : ℕ) (c : ReclaimOf) → TookNow now h i (Reclaim c) → (HasReclaimed past h → ⊥)
      → HasReclaimed now h → ⊥
  never_then h i c took_it never r = never (reclaimed_back past took claim_hosts h r)

  -- what is said at once answers the claim
  claim_says : (sent : List Message) → ((o : Message) → In o sent → (o.host ≡ n.host) × ((r : ReclaimedOf) × (o.body
      ≡ Reclaimed r))) → ((HasReclaimed past n.host → ⊥) → (o : Message) → In o sent → ⊥)
      → (HasReclaimed past n.host → (answer : ReclaimedOf) × (i : ℕ)
      × SentTo past n.host (epoch past) i (Reclaimed answer)
      × SaysTo sent n.host (Reclaimed answer))
      → (HasReclaimed past n.host ⊎ (HasReclaimed past n.host → ⊥)) → (s : Step) → s.cause ≡ Came m
      → SaysAtOnce t.server past s sent
  claim_says sent are none again either s e = record {
    hello_old = λ h f l old. absurd (let q = (heard_m past m s e h Hello f).1 in cc);
    hello = λ h f up o. absurd (let q = (heard_m past m s e h Hello f).1 in cc);
    bye = λ h f up o. absurd (let q = (heard_m past m s e h Bye f).1 in cc);
    late = λ h o is host l other a b. absurd (other (sym (was_m past m s e h o is host).1));
    restarted_only = λ h q. absurd (let p = sym (are q.0 q.1).1.1 ∙ q.3 in cc);
    gone = λ h i g p here. absurd (let q = (taken_m past m s e h i (GiveBack g) p).3 in cc);
    gone_only = λ h i q. absurd (let p = sym (are q.0 q.1).1.1 ∙ q.3 in cc);
    claim_again = λ h i c p r. (let q = taken_m past m s e h i (Reclaim c) p in
        subst (λ (v : HostId). (answer : ReclaimedOf) × (j : ℕ) × SentTo past v (epoch past) j (Reclaimed answer)
        × SaysTo sent v (Reclaimed answer)) q.0 (again (subst (HasReclaimed past) (sym q.0) r)));
    bye_only = λ h q. absurd (let p = sym (are q.0 q.1).1.1 ∙ q.3 in cc);
    reclaimed_only = λ h a q. elim either [
      | inl r ↦ (let to : n.host ≡ h = sym (are q.0 q.1).0 ∙ q.2 in
          inr (
            n.moves,
            claim,
            subst (λ (v : HostId). TakenNow past s v n.moves (Reclaim claim)) to
                ((m, e, refl, refl, refl, refl), live),
            subst (HasReclaimed past) to r,
          ))
      | inr r ↦ absurd (none r q.0 q.1)
    ];
    repeats = λ h i c d p here f j last done. absurd (let q = (taken_m past m s e h i (Change c) p).3 in cc);
    dones_only = λ h d q. absurd (let p = sym (are q.0 q.1).1.1 ∙ q.3 in cc);
    no_grant = λ h g q. let p = sym (are q.0 q.1).1.1 ∙ q.3 in cc;
    no_revoke = λ h r q. let p = sym (are q.0 q.1).1.1 ∙ q.3 in cc;
  }

  claim_caused : (sent : List Message) → ((s : Step) → s.cause ≡ Came m → SaysAtOnce t.server past s sent)
      → AreCaused t.server tree past m [] sent
  claim_caused sent at_once = record {
    given = λ s e h g f. absurd (let q = (taken_m past m s e h f.0.0 (GiveBack g) f.0.1).3 in cc);
    down = λ s e h f. absurd (let q = (heard_m past m s e h Down f.0).1 in cc);
    else_none = λ s e a b. refl;
    at_once = at_once;
    never = never_then;
  }

  none_asked : (s : Step) → s.cause ≡ Came m → (h : HostId) (i : ℕ) (r : Request)
      → IsNewRequest t.server past (after_cause s.cause past) s h i r → ⊥
  none_asked s e h i r q = by r q.taken
    where
      by : (r : Request) → TakenNow past s h i (body_of r) → ⊥
      by (Asks f) p = let q = (taken_m past m s e h i (Fetch f) p).3 in cc
      by (Changes c) p = let q = (taken_m past m s e h i (Change c) p).3 in cc

  -- the tables with some claims that wait
  module _ (claims : List Claimed)
      (has : (HasReclaimed past n.host → ⊥) → In (record { host = n.host; claim = claim }) claims)
      (of : (l : Claimed) → In l claims → In l t.recovering.claims
      ⊎ ((l ≡ record { host = n.host; claim = claim }) × (HasReclaimed past n.host → ⊥)))
      (stay : (l : Claimed) → In l t.recovering.claims → In l claims)
      (served : IsServed (record t { recovering = record t.recovering { claims = claims } }) st) where
    abbrev y : Tables
    y = record t { recovering = record t.recovering { claims = claims } }

    y_stands : Stands now y
    y_stands = stands_claimed past t z.tables n.host n.moves claim live claims has
        (λ l i. elim (of l i) [ inl j ↦ inl j | inr q ↦ inr q.0 ]) stay

    y_answered : AnsweredStand now y.recovering.answers
    y_answered = answered_still past took claim_hosts z.answered

    y_onset : IsOnset t.server tree past m [] y st
    y_onset = record {
      server_is = refl;
      none = refl;
      undone = λ v i. elim i [ ];
      served = served;
      keeps = k.stands;
      kept_homes = k.homes;
      below = k.taken;
      epoch = k.epoch;
      listed = z.once;
      known = z.known;
      gives = z.gives;
      changes = z.changes;
      enters = z.enters;
      tokens = z.homes;
      waits = λ c i. (let w = was c i in (
        (λ r. w.0 (reclaimed_back past took claim_hosts c.host r)),
        live_still past took claim_hosts.calm c.host w.1,
      ));
      queued = z.tables.wants.pending;
    }
      where
        was : (c : Claimed) → In c claims → (HasReclaimed past c.host → ⊥) × IsLive past c.host
        was c i = elim (of c i) [
          | inl j ↦ z.claims c j
          | inr q ↦ subst (λ (l : Claimed). (HasReclaimed past l.host → ⊥) × IsLive past l.host) (sym q.0) (q.1, live)
        ]

    -- it waits
    waits_m : (HasReclaimed past n.host → ⊥) → HasBegun t.server (Came m) tree past (making y no_draft st)
    waits_m never = begins t.server tree past m [] y st [] y_onset (none_said t.server now y y_stands y_answered)
        (claim_caused [] (claim_says [] (λ o i. elim i [ ]) (λ r o i. i) (λ r. absurd (never r)) (inr never))) z.told
        none_asked

    -- it is answered as before
    again_m : HasReclaimed past n.host → (a : Answered) → In a t.recovering.answers → a.host ≡ n.host
        → HasBegun t.server (Came m) tree past
        (making y (saying no_draft (word y n.host (Reclaimed a.answer))) st)
    again_m r a i same =
        begins t.server tree past m [] y st (word y n.host (Reclaimed a.answer) ∷ []) y_onset
        (one_said t.server now y y_stands n.host (Reclaimed a.answer) blank its_word
        (λ q e. inl (inr (r, claim_hosts.calm.begin))) y_answered)
        (claim_caused (word y n.host (Reclaimed a.answer) ∷ []) (claim_says (word y n.host (Reclaimed a.answer) ∷ [])
        (λ o j. elim j [
          | inl p ↦ (ap (λ (v : Message). v.host) p, (a.answer, ap (λ (v : Message). v.body) p))
          | inr p ↦ absurd p
        ]) (λ never o j. never r)
        (λ q. (a.answer, sent.0, sent.1, (word y n.host (Reclaimed a.answer), inl refl, refl, refl))) (inl r))) z.told
        none_asked
      where
        sent : (j : ℕ) × SentTo past n.host (epoch past) j (Reclaimed a.answer)
        sent = let q = z.answered.answered a i in
            (q.0, subst (λ (h : HostId). SentTo past h (epoch past) q.0 (Reclaimed a.answer)) same q.1)

        its_told : IsTold t.server past n.host a.answer
        its_told = z.told.claims n.host sent.0 a.answer sent.1

        blank : IsBlank (Reclaimed a.answer)
        blank = record { grant = λ g e. cc; done = λ d e. cc; revoke = λ q e. cc }

        its_answer : (q : ReclaimedOf) → Reclaimed a.answer ≡ Reclaimed q → q ≡ a.answer
        its_answer q e = cc

        its_word : IsWordOf t.server now n.host 0 (Reclaimed a.answer)
        its_word = record {
          blank = blank;
          gone = λ g e. absurd (cc);
          reclaimed = λ q g e j. inr (its_told.applied g
              (subst (λ (v : ReclaimedOf). In g v.applied) (its_answer q e) j));
          left_out = λ q j e l. inr (
            its_told.left_out j (subst (λ (v : ReclaimedOf). In j v.left_out) (its_answer q e) l),
            claim_hosts.calm.begin,
          );
        }

  -- what the calls say of it
  claim_by : (v : Bool) → has_host t.hosts.reclaimed n.host ≡ v → (y : Tables) (d : Draft)
      → (v ≡ true → y ≡ t)
      → (v ≡ false → (y ≡ record t { recovering = record t.recovering { claims = y.recovering.claims } })
      × AreClaims n.host claim t.recovering.claims y.recovering.claims)
      → d ≡ (if v then option_map_or (λ answer. saying no_draft (word t n.host (Reclaimed answer)))
      (answer_to t.recovering.answers n.host) no_draft else no_draft)
      → IsServed y st → HasBegun t.server (Came m) tree past (making y d st)
  claim_by true e y d same after said served =
      let r = z.tables.hosts.reclaimed n.host (has_in t.hosts.reclaimed n.host e) in
      subst (λ (q : Tables × Draft). HasBegun t.server (Came m) tree past (making q.0 q.1 st))
      (λ i. (sym (same refl) i, sym said i))
      (by (find (λ (a : Answered). a.host.0 == n.host.0) t.recovering.answers) refl r
      (subst (λ (q : Tables). IsServed q st) (same refl) served))
    where
      by : (o : Option Answered) → find (λ (a : Answered). a.host.0 == n.host.0) t.recovering.answers ≡ o
          → HasReclaimed past n.host → IsServed t st → HasBegun t.server (Came m) tree past (making t
          (option_map_or (λ answer. saying no_draft (word t n.host (Reclaimed answer)))
          (option_map (λ (a : Answered). a.answer) o) no_draft) st)
      by None q r served =
          let a = z.answered.answers_all n.host r in
          absurd (none_found (λ (b : Answered). b.host.0 == n.host.0) t.recovering.answers q a.0 a.1
          (eq-eqb a.0.host.0 n.host.0 (ap (λ (h : HostId). h.0) a.2)))
      by (Some a) q r served =
          let f = found_first (λ (b : Answered). b.host.0 == n.host.0) t.recovering.answers a q in
          again_m t.recovering.claims (λ never. absurd (never r)) (λ l i. inl i) (λ l i. i) served r a f.0
          (same_host a.host n.host f.1)
  claim_by false e y d same after said served =
      let never = λ (r : HasReclaimed past n.host).
      false≢true (sym e ∙ in_has t.hosts.reclaimed n.host (z.tables.hosts.reclaimed_all n.host r)) in
      let q = after refl in
      subst (λ (v : Tables × Draft). HasBegun t.server (Came m) tree past (making v.0 v.1 st))
      (λ i. (sym q.0 i, sym said i))
      (waits_m y.recovering.claims (λ o. there q.1) (of never q.1) (stay q.1)
      (subst (λ (v : Tables). IsServed v st) q.0 served) never)
    where
      there : AreClaims n.host claim t.recovering.claims y.recovering.claims
          → In (record { host = n.host; claim = claim }) y.recovering.claims
      there (inl p) = subst (In (claim_of n.host claim)) (sym p.1) p.0
      there (inr p) = subst (In (claim_of n.host claim)) (sym p) (in_end (claim_of n.host claim) t.recovering.claims)

      of : (HasReclaimed past n.host → ⊥) → AreClaims n.host claim t.recovering.claims y.recovering.claims
          → (l : Claimed) → In l y.recovering.claims → In l t.recovering.claims
          ⊎ ((l ≡ record { host = n.host; claim = claim }) × (HasReclaimed past n.host → ⊥))
      of never (inl p) l i = inl (subst (In l) p.1 i)
      of never (inr p) l i =
          elim (in_parts l t.recovering.claims (claim_of n.host claim ∷ []) (subst (In l) p i)) [
            | inl j ↦ inl j
            | inr j ↦ elim j [ inl f ↦ inr (f, never) | inr g ↦ absurd g ]
          ]

      stay : AreClaims n.host claim t.recovering.claims y.recovering.claims → (l : Claimed)
          → In l t.recovering.claims → In l y.recovering.claims
      stay (inl p) l i = subst (In l) (sym p.1) i
      stay (inr p) l i = subst (In l) (sym p) (in_front l t.recovering.claims (claim_of n.host claim ∷ []) i)

  pub claim_opens : n.body ≡ Reclaim claim → (y : Tables) (d : Draft) → IsClaimed t n.host claim y
      → d ≡ claim_draft t no_draft n.host → IsServed y st → HasBegun t.server (Came n) tree past (making y d st)
  claim_opens is y d so said served =
      subst (λ (o : Message). HasBegun t.server (Came o) tree past (making y d st))
      (λ i. record n { epoch = sym current i; body = sym is i })
      (claim_by (has_host t.hosts.reclaimed n.host) refl y d so.reclaimed so.after said served)
