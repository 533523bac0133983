-- What a message leaves that is answered by nothing: what its host returned, or keeps. So the rest of the step can be
-- made.
use Rattle.std.proofs.Common.{◌≡◌, ◌⊎◌, ◌/◌, ℕ, Bool, true, false, if◌then◌else◌, List, [], ◌∷◌, inl, inr, refl, sym}
use Rattle.std.proofs.Common.{◌∙◌, ap, eq-eqb, subst}
use Rattle.std.proofs.lemmas.Bool.{cases_Bool, false≢true}
use Rattle.base_types.specs.declared.ids.FilesetId.{FilesetId}
use Rattle.base_types.specs.declared.ids.HostId.{HostId}
use Rattle.base_types.specs.declared.ids.ServerId.{ServerId}
use Rattle.tree_answers.specs.declared.tree.Tree.{Tree}
use Rattle.tree_calls.specs.declared.roster.Roster.{Roster}
use Rattle.token_manager.specs.Managers.{Manager, after_kept, after_returned}
use Rattle.token_table.specs.Tables.{Table}
use Rattle.token_types.specs.declared.token.Token.{Token}
use Rattle.token_types.specs.declared.token.TokenId.{TokenId}
use Rattle.message_types.specs.Soundness.{AreNamed, IsBody, IsHost}
use Rattle.message_types.specs.declared.asking.Change.{Change as ChangeOf}
use Rattle.message_types.specs.declared.asking.Fetch.{Fetch as FetchOf}
use Rattle.message_types.specs.declared.giving.Give.{Give}
use Rattle.message_types.specs.declared.giving.Reclaim.{Reclaim as ReclaimOf}
use Rattle.message_types.specs.declared.message.Body.{Body}
use Rattle.message_types.specs.declared.message.Body.TheVariants.{Bye, Change, Down, Fetch, GiveBack, Hello, Kept}
use Rattle.message_types.specs.declared.message.Body.TheVariants.{Reclaim, Returned}
use Rattle.message_types.specs.declared.message.Message.{Message}
use Rattle.message_types.specs.declared.tokens.Named.{Named}
use Rattle.run_rules.specs.Doings.{Doing, GivesUp, GoesAway, HeardNow, Here, IsLive, TakenNow, TakesOf}
use Rattle.run_rules.specs.Doings.{epoch}
use Rattle.run_rules.specs.Doings.Doing.{Took}
use Rattle.run_rules.specs.Messages.{Stay}
use Rattle.run_rules.specs.Past.{EachOnce, In}
use Rattle.run_rules.specs.Wants.{Decides, Unwants, body_of}
use Rattle.run_rules.specs.declared.applied.Request.{Request}
use Rattle.run_rules.specs.declared.applied.Request.TheVariants.{Change as Changes, Fetch as Asks}
use Rattle.run_rules.specs.declared.applied.Wanted.{Wanted}
use Rattle.run_rules.specs.declared.step.Cause.TheVariants.{Message as Came}
use Rattle.run_rules.specs.declared.step.Step.{Step}
use Rattle.store_state.specs.declared.state.StoreState.{StoreState}
use Rattle.server_decides.specs.Acting.{GivesBelow}
use Rattle.server_tables.specs.Answers.{AreLastChanges}
use Rattle.server_tables.specs.Claims.{ups_of}
use Rattle.server_tables.specs.Gives.{AreLast, last_give}
use Rattle.server_tables.specs.Listing.{has_host}
use Rattle.server_tables.specs.Places.{is_of}
use Rattle.server_tables.specs.Standing.{AnsweredStand, Stands, tokens_of}
use Rattle.server_tables.specs.declared.hosts.Hosts.{Hosts}
use Rattle.server_tables.specs.declared.recovering.Answered.{Answered}
use Rattle.server_tables.specs.declared.recovering.Recovering.{Recovering}
use Rattle.server_tables.specs.declared.tables.LastGive.{LastGive}
use Rattle.server_tables.specs.declared.tables.Tables.{Tables}
use Rattle.server_tables.proofs.Freeing.{stands_freed}
use Rattle.server_tables.proofs.Judged.{here_from, here_to}
use Rattle.server_tables.proofs.Pinning.{all_kept as pins_all, keeping, stands_kept}
use Rattle.server_tables.proofs.Still.{HostsStill, IsStill, answered_still, live_still, reclaimed_back, still}
use Rattle.server_tables.proofs.Without.{AreSingle, all_returned as returns_all, returning}
use Rattle.server_decides.specs.Drafts.{no_draft}
use Rattle.server_decides.specs.Messages.{IsFor}
use Rattle.server_decides.specs.Taking.{all_kept, all_returned, freed, kept_tables, returned_tables}
use Rattle.server_decides.specs.Running.{making}
use Rattle.server_decides.specs.Serving.{IsServed}
use Rattle.server_exporter.specs.Machines.{IsAt, Keeps}
use Rattle.server_exporter.specs.declared.exporter.Exporter.{Exporter}
use Rattle.server_tables.proofs.Still.{StayPut, decided_home}
use Rattle.server_exporter.proofs.Onsets.{HasBegun, SaysAtOnce}

-- # A message by which nothing is asked

-- it is no greeting, no farewell, no request, no give-back and no claim
pub record IsPlainBody (b : Body) : Type 0 where
  pub hello : b ≡ Hello → ⊥
  pub bye : b ≡ Bye → ⊥
  pub down : b ≡ Down → ⊥
  pub fetch : (f : FetchOf) → b ≡ Fetch f → ⊥
  pub change : (c : ChangeOf) → b ≡ Change c → ⊥
  pub give : (g : Give) → b ≡ GiveBack g → ⊥
  pub claim : (c : ReclaimOf) → b ≡ Reclaim c → ⊥

pub returned_plain : (g : Named) → IsPlainBody (Returned g)
returned_plain g = record {
  hello = λ e. cc;
  bye = λ e. cc;
  down = λ e. cc;
  fetch = λ f e. cc;
  change = λ c e. cc;
  give = λ h e. cc;
  claim = λ c e. cc;
}

pub kept_plain : (g : Named) → IsPlainBody (Kept g)
kept_plain g = record {
  hello = λ e. cc;
  bye = λ e. cc;
  down = λ e. cc;
  fetch = λ f e. cc;
  change = λ c e. cc;
  give = λ h e. cc;
  claim = λ c e. cc;
}

pub same_came : (m n : Message) → Came m ≡ Came n → m ≡ n
same_came m n e = cc

module _ (past : List Doing) (m : Message) (plain : IsPlainBody m.body) where
  taken_is : (s : Step) → s.cause ≡ Came m → (h : HostId) (n : ℕ) (b : Body) → TakenNow past s h n b → m.body ≡ b
  taken_is s e h n b t = ap (λ (o : Message). o.body) (same_came m t.0.0 (sym e ∙ t.0.1)) ∙ t.0.5

  heard_is : (s : Step) → s.cause ≡ Came m → (h : HostId) (b : Body) → HeardNow s h b → m.body ≡ b
  heard_is s e h b t = ap (λ (o : Message). o.body) (same_came m t.0 (sym e ∙ t.1)) ∙ t.3

  none_asked : (s : Step) → s.cause ≡ Came m → (h : HostId) (n : ℕ) (r : Request) → TakenNow past s h n (body_of r) → ⊥
  none_asked s e h n (Asks f) t = plain.fetch f (taken_is s e h n (Fetch f) t)
  none_asked s e h n (Changes c) t = plain.change c (taken_is s e h n (Change c) t)

  -- and it is of the present epoch, where its host is live
  module _ (server : ServerId) (now : IsLive past m.host → m.epoch ≡ epoch past) where
    says_none : (s : Step) → s.cause ≡ Came m → SaysAtOnce server past s []
    says_none s e = record {
      hello_old = λ h f live old. absurd (plain.hello (heard_is s e h Hello f));
      hello = λ h f down either. absurd (plain.hello (heard_is s e h Hello f));
      bye = λ h f down either. absurd (plain.bye (heard_is s e h Bye f));
      late = λ h n is host live other hello down.
          (let q = same_came m n (sym e ∙ is) in
          absurd (other (ap (λ (o : Message). o.epoch) (sym q)
          ∙ now (subst (IsLive past) (sym (ap (λ (o : Message). o.host) q ∙ host)) live))));
      restarted_only = λ h w. elim w.1 [ ];
      gone = λ h n g t here. absurd (plain.give g (taken_is s e h n (GiveBack g) t));
      gone_only = λ h n w. elim w.1 [ ];
      claim_again = λ h n c t r. absurd (plain.claim c (taken_is s e h n (Reclaim c) t));
      bye_only = λ h w. elim w.1 [ ];
      reclaimed_only = λ h a w. elim w.1 [ ];
      repeats = λ h n c d t here f k last done. absurd (plain.change c (taken_is s e h n (Change c) t));
      dones_only = λ h d w. elim w.1 [ ];
      no_grant = λ h g w. elim w.1 [ ];
      no_revoke = λ h r w. elim w.1 [ ];
    }

-- # The step goes on

module _ (tree : Tree) (past : List Doing) (x : Exporter) (z : IsAt past tree x) (m : Message) where
  abbrev t : Tables
  t = x.tables

  abbrev took : Doing
  took = Took m.host m.epoch m.moves m.body

  abbrev begun : List Doing
  begun = took ∷ past

  -- what the tables are once it was taken
  pub record IsSilent (y : Tables) : Type 0 where
    pub hosts_still : HostsStill past took
    pub stands : Stands begun y
    pub server : y.server ≡ t.server
    pub roster : y.roster ≡ t.roster
    pub hosts : y.hosts ≡ t.hosts
    pub pending : y.pending ≡ t.pending
    pub gives : y.gives ≡ t.gives
    pub changes : y.changes ≡ t.changes
    pub answers : y.recovering.answers ≡ t.recovering.answers
    pub claims : y.recovering.claims ≡ t.recovering.claims
    pub tokens : (u : Token) → In u (tokens_of y.tokens.grants) → In u (tokens_of t.tokens.grants)

  pub silent_begins : (y : Tables) → IsSilent y → IsPlainBody m.body → (IsLive past m.host → m.epoch ≡ epoch past)
      → (st : StoreState) → Keeps t tree st → IsServed y st
      → HasBegun t.server (Came m) tree past (making y no_draft st)
  silent_begins y c plain now st k served = record {
    base = [];
    held = record {
      more = [];
      deciding = record {
        server_is = c.server;
        applied = refl;
        admitted = refl;
        stands = c.stands;
        mute = record { brings = λ n i. elim i [ ]; decides = λ n i. elim i [ ] };
        none = refl;
        all = refl;
        writes = tt;
        may = λ s e. tt;
      };
      served = served;
      stored = record {
        keeps = k.stands;
        homes = k.homes;
        taken = subst (λ (l : List LastGive). GivesBelow (last_give l) st) (sym c.gives) k.taken;
        epoch = k.epoch ∙ ap (λ (h : Hosts). h.epoch) (sym c.hosts);
      };
      listed = subst (λ (h : Hosts). EachOnce h.listed) (sym c.hosts) z.once;
      gives = subst AreLast (sym c.gives) z.gives;
      changes = subst AreLastChanges (sym c.changes) z.changes;
      enters = λ p o i. z.enters p o (subst (In p) c.pending i);
      tokens = λ u i. subst (λ (v : ServerId). is_of v u.fid.fileset ≡ true) (sym c.server) (z.homes u (c.tokens u i));
      answered = subst (λ (l : List Answered). AnsweredStand begun l) (sym c.answers)
          (answered_still past took c.hosts_still z.answered);
      early = tt;
      once = tt;
      waits = λ d i. (let w = z.claims d (subst (In d) c.claims i) in (
        (λ r. w.0 (reclaimed_back past took c.hosts_still d.host r)),
        live_still past took c.hosts_still.calm d.host w.1,
      ));
      told = λ n r i. elim i [ ];
    };
    plain = record {
      line = λ n e. cc;
      restart = λ n e. cc;
      lapse = λ e. cc;
      evict = λ e. cc;
      end = λ e. cc;
    };
    told = z.told;
    known = λ h i. subst (λ (r : Roster). IsHost r h) (sym c.roster)
        (z.known h (subst (λ (o : Hosts). In h o.listed) c.hosts i));
    undone = λ v i. elim i [ ];
    origin = λ p o i is. inr (p.wanted, z.tables.wants.pending p (subst (In p) c.pending i), refl, is);
    given = λ s e h g f. absurd (plain.give g (taken_is past m plain s e h f.0.0 (GiveBack g) f.0.1));
    down = λ s e h f. absurd (plain.down (heard_is past m plain s e h Down f.0));
    else_none = λ s e a b. refl;
    at_once = λ s e. says_none past m plain t.server now s e;
    news = λ s e h n r q. absurd (none_asked past m plain s e h n r q.taken);
    fresh = λ s e p i q.
        absurd (none_asked past m plain s e p.wanted.host p.wanted.moves p.wanted.request q.taken);
    never = λ h n claim took_it never r. never (reclaimed_back past took c.hosts_still h r);
  }

  -- # Nothing changes by it

  -- it is no greeting, no request, and names no token of a file that is here
  pub record LeavesAll : Type 0 where
    pub away : (k : HostId) → GoesAway past took k → ⊥
    pub still : IsStill t.server t.stamp past took

  pub leaves_silent : LeavesAll → IsSilent t
  leaves_silent c = record {
    hosts_still = c.still.hosts;
    stands = still past took t c.still z.tables;
    server = refl;
    roster = refl;
    hosts = refl;
    pending = refl;
    gives = refl;
    changes = refl;
    answers = refl;
    claims = refl;
    tokens = λ u i. i;
  }

-- # It names nothing that is here

pub same_took : (h k : HostId) (e f n i : ℕ) (a b : Body) → Took h e n a ≡ Took k f i b
    → (h ≡ k) × (e ≡ f) × (n ≡ i) × (a ≡ b)
same_took h k e f n i a b p = (cc, cc, cc, cc)

-- it is no greeting and no farewell
pub record IsNoGreeting (b : Body) : Type 0 where
  pub hello : b ≡ Hello → ⊥
  pub bye : b ≡ Bye → ⊥
  pub down : b ≡ Down → ⊥

plain_quiet : (b : Body) → IsPlainBody b → IsNoGreeting b
plain_quiet b plain = record { hello = plain.hello; bye = plain.bye; down = plain.down }

-- such a message changes none of the words of a server
module _ (server : ServerId) (stamp : ℕ) (past : List Doing) (h : HostId) (e n : ℕ) (b : Body)
    (quiet : IsNoGreeting b) (names : (k : HostId) (i : TokenId) → GivesUp server past (Took h e n b) k i → ⊥)
    (keeps : (k : HostId) (f : FilesetId) (w : Named) → TakesOf server past (Took h e n b) k f (Kept w) → ⊥)
    (gives : (k : HostId) (f : FilesetId) (g : Give) → TakesOf server past (Took h e n b) k f (GiveBack g) → ⊥)
    (claims : (c : ReclaimOf) → b ≡ Reclaim c → ⊥) where
  abbrev a : Doing
  a = Took h e n b

  goes_none : (k : HostId) → GoesAway past a k → ⊥
  goes_none k (inl f) = quiet.down (same_took h k e f.0 n f.1 b Down f.2).3
  goes_none k (inr f) = quiet.bye (same_took h k e (epoch past) n f.0.0 b Bye f.0.1).3

  decides_none : (k : HostId) (r : Request) → Decides a k r → ⊥
  decides_none k (Asks f) d = let p = d.3 in cc
  decides_none k (Changes f) (inl d) = let p = d.1 in cc
  decides_none k (Changes f) (inr d) = let p = d.3 in cc

  unwants_none : (w : Wanted) → Unwants past a w → ⊥
  unwants_none w (inl d) = decides_none w.host w.request d
  unwants_none w (inr (inl v)) = let q = v.1 in cc
  unwants_none w (inr (inr (inl g))) = goes_none w.host g
  unwants_none w (inr (inr (inr q))) = let u = q.1 in cc

  pub unheard_still : IsStill server stamp past a
  unheard_still = record {
    hosts = record {
      calm = record { begin = λ w. let p = w.1 in cc; still = λ w. let p = w.1 in cc; away = λ k g. absurd (goes_none k g); admits = λ k ts p. cc };
      hello = λ k f l d. quiet.hello (same_took h k e f.0 n f.1 b Hello f.2).3;
      down = λ k f. absurd (quiet.down (same_took h k e f.0 n f.1 b Down f.2).3);
      sends = λ k f i d p. absurd (cc);
    };
    tokens = record {
      names = names;
      kept = keeps;
      issues = λ t k i. elim i.3 [ inl p ↦ (let q = p.1 in cc) | inr p ↦ (let q = p.1 in cc) ];
      reserves = λ t ts p m. absurd (cc);
      revokes = λ k f i r p. cc;
    };
    tells = λ f k t. absurd (elim t [
      | inl p ↦ elim p.4 [ inl q ↦ (let r = q.1 in cc) | inr q ↦ (let r = q.1 in cc) ]
      | inr p ↦ (let q = p.4 in cc)
    ]);
    wants = record { wants = λ w p. cc; unwants = λ w p u. unwants_none w u };
    answers = record {
      gives = gives;
      claims = λ k i c p. claims c (same_took h k e (epoch past) n i b (Reclaim c) p.0).3;
      dones = λ k f i d p. cc;
      writes = λ w p. cc;
    };
  }

-- What a host returned isn't here, or it isn't taken: it isn't live, or the message is of another epoch.
module _ (server : ServerId) (past : List Doing) (h : HostId) (e n : ℕ) (g : Named)
    (none : (IsLive past h → ⊥) ⊎ ((e ≡ epoch past → ⊥) ⊎ (Here server past g.fid.fileset n → ⊥))) where
  unheard : (k : HostId) (i : ℕ) (b : Body) → IsLive past k → h ≡ k → e ≡ epoch past
      → Here server past g.fid.fileset n → ⊥
  unheard k i b live q now here = elim none [
    | inl o ↦ o (subst (IsLive past) (sym q) live)
    | inr o ↦ elim o [ inl p ↦ p now | inr p ↦ p here ]
  ]

  returned_names : (k : HostId) (i : TokenId) → GivesUp server past (Took h e n (Returned g)) k i → ⊥
  returned_names k i (inl p) =
      let q = same_took h k e (epoch past) n p.1.0 (Returned g) (Returned p.0) p.1.2.0 in
      let same : g ≡ p.0 = (let r = q.3 in cc) in
      unheard k p.1.0 (Returned g) p.1.2.1 q.0 q.1
      (subst (λ (d : Named). Here server past d.fid.fileset n) (sym same)
      (subst (Here server past p.0.fid.fileset) (sym q.2) p.1.1))
  returned_names k i (inr p) = let q = p.1.2.0 in cc

  pub returned_still : (stamp : ℕ) → IsStill server stamp past (Took h e n (Returned g))
  returned_still stamp = unheard_still server stamp past h e n (Returned g)
      (plain_quiet (Returned g) (returned_plain g)) returned_names (λ k f w p. let q = p.2.0 in cc)
      (λ k f w p. let q = p.2.0 in cc) (λ c q. cc)

-- A message that isn't heard: its host isn't live, it is of another epoch, or of a later stay of its fileset.
module _ (server : ServerId) (past : List Doing) (put : StayPut server past) (h : HostId) (e n : ℕ)
    (none : (IsLive past h → ⊥) ⊎ ((e ≡ epoch past → ⊥) ⊎ (n ≡ 0 → ⊥))) where
  pub not_taken : (b : Body) (k : HostId) (f : FilesetId) (w : Body) → TakesOf server past (Took h e n b) k f w → ⊥
  not_taken b k f w p =
      let q = same_took h k e (epoch past) n p.0 b w p.2.0 in
      elim none [
        | inl o ↦ o (subst (IsLive past) (sym q.0) p.2.1)
        | inr o ↦ elim o [ inl r ↦ r q.1 | inr r ↦ r (q.2 ∙ decided_home server past f p.0 put (inr p.1)) ]
      ]

  pub unheard_names : (b : Body) (k : HostId) (i : TokenId) → GivesUp server past (Took h e n b) k i → ⊥
  unheard_names b k i (inl p) = not_taken b k p.0.fid.fileset (Returned p.0) p.1
  unheard_names b k i (inr p) = not_taken b k p.0.fid.fileset (GiveBack p.0) p.1

  pub kept_still : (g : Named) (stamp : ℕ) → IsStill server stamp past (Took h e n (Kept g))
  kept_still g stamp = unheard_still server stamp past h e n (Kept g) (plain_quiet (Kept g) (kept_plain g))
      (unheard_names (Kept g)) (λ k f w p. not_taken (Kept g) k f (Kept w) p) (λ k f w p. let q = p.2.0 in cc)
      (λ c q. cc)

  pub give_still : (g : Give) (stamp : ℕ) → IsStill server stamp past (Took h e n (GiveBack g))
  give_still g stamp = unheard_still server stamp past h e n (GiveBack g)
      (record { hello = λ q. cc; bye = λ q. cc; down = λ q. cc }) (unheard_names (GiveBack g))
      (λ k f w p. let q = p.2.0 in cc) (λ k f w p. not_taken (GiveBack g) k f (GiveBack w) p) (λ c q. cc)

-- # What was returned, or is kept

-- the token manager's answers, number by number
pub returned_is : (manager : Manager) (h : HostId) (ids : List TokenId)
    → all_returned manager h ids ≡ record manager { grants = returning manager.grants h ids }
returned_is manager h [] = refl
returned_is manager h (id ∷ ids) = returned_is (after_returned manager h id) h ids

kept_is : (manager : Manager) (h : HostId) (ids : List TokenId)
    → all_kept manager h ids ≡ record manager { grants = keeping manager.grants h ids }
kept_is manager h [] = refl
kept_is manager h (id ∷ ids) = kept_is (after_kept manager h id) h ids

module _ (tree : Tree) (past : List Doing) (x : Exporter) (z : IsAt past tree x) (h : HostId) (n : ℕ) (g : Named)
    (live : IsLive past h) (here : Here x.tables.server past g.fid.fileset n)
    (one : (u v : Token) → In u (tokens_of x.tables.tokens.grants) → In v (tokens_of x.tables.tokens.grants)
    → u.id ≡ v.id → u ≡ v) where
  single : AreSingle x.tables.tokens.grants
  single = record { one = one; noted = z.tables.tokens.noted }

  its_body : (a b : Body) (e k : ℕ) (o : HostId) (f i : ℕ) → Took h e k a ≡ Took o f i b → a ≡ b
  its_body a b e k o f i p = cc

  -- no host comes or goes by it
  plain_hosts : (b : Body) → IsPlainBody b → HostsStill past (Took h (epoch past) n b)
  plain_hosts b p = record {
    calm = record {
      begin = λ w. let q = w.1 in cc;
      still = λ w. let q = w.1 in cc;
      away = λ k w. absurd (elim w [
        | inl f ↦ p.down (its_body b Down (epoch past) n k f.0 f.1 f.2)
        | inr f ↦ p.bye (its_body b Bye (epoch past) n k (epoch past) f.0.0 f.0.1)
      ]);
      admits = λ k ts q. cc;
    };
    hello = λ k f l d. p.hello (its_body b Hello (epoch past) n k f.0 f.1 f.2);
    down = λ k f. absurd (p.down (its_body b Down (epoch past) n k f.0 f.1 f.2));
    sends = λ k e i d q. absurd (cc);
  }

  -- tokens leave the host
  pub returned_silent : (m : Message) → m ≡ record m { host = h; epoch = epoch past; moves = n; body = Returned g }
      → IsSilent tree past x z m (freed x.tables h g.ids)
  returned_silent m e =
      let t = x.tables in
      let w = returns_all t.tokens.grants h g.ids single in
      let a = Took h (epoch past) n (Returned g) in
      subst (λ (o : Message). IsSilent tree past x z o (freed t h g.ids)) (sym e) (record {
        hosts_still = plain_hosts (Returned g) (returned_plain g);
        stands = subst (λ (k : Manager). Stands (a ∷ past) (record t {
          tokens = k;
          recovering = (freed t h g.ids).recovering;
        })) (sym (returned_is t.tokens h g.ids))
            (stands_freed past t z.tables h n g live here
            (record t.tokens { grants = returning t.tokens.grants h g.ids }) w refl);
        server = refl;
        roster = refl;
        hosts = refl;
        pending = refl;
        gives = refl;
        changes = refl;
        answers = by_one (λ (r : Recovering). r.answers) refl refl;
        claims = by_one (λ (r : Recovering). r.claims) refl refl;
        tokens = λ u i. w.were u (subst (λ (k : Manager). In u (tokens_of k.grants)) (returned_is t.tokens h g.ids) i);
      })
    where
      -- what a note of what it gave up leaves as it was
      by_one : {A : Type 0} (f : Recovering → A)
          → f x.tables.recovering ≡ f x.tables.recovering
          → f (record x.tables.recovering { given_up = ups_of x.tables.recovering.given_up h g.ids })
          ≡ f x.tables.recovering
          → f (freed x.tables h g.ids).recovering ≡ f x.tables.recovering
      by_one f p q = elim (cases_Bool (has_host x.tables.hosts.reclaimed h)) [
        | inl r ↦ rw r p
        | inr r ↦ rw r q
      ]

  -- tokens stay with the host, as they are in use
  pub kept_silent : (m : Message) → m ≡ record m { host = h; epoch = epoch past; moves = n; body = Kept g }
      → IsSilent tree past x z m (kept_tables x.tables h g)
  kept_silent m e =
      let t = x.tables in
      let w = pins_all t.tokens.grants h g.ids in
      let a = Took h (epoch past) n (Kept g) in
      subst (λ (o : Message). IsSilent tree past x z o (kept_tables t h g)) (sym e) (record {
        hosts_still = plain_hosts (Kept g) (kept_plain g);
        stands = subst (λ (k : Manager). Stands (a ∷ past) (record t { tokens = k })) (sym (kept_is t.tokens h g.ids))
            (stands_kept past t h n g live here (keeping t.tokens.grants h g.ids) w one z.tables);
        server = refl;
        roster = refl;
        hosts = refl;
        pending = refl;
        gives = refl;
        changes = refl;
        answers = refl;
        claims = refl;
        tokens = λ u i. subst (λ (k : Table). In u k.tokens) w.table
            (subst (λ (k : Manager). In u (tokens_of k.grants)) (kept_is t.tokens h g.ids) i);
      })

-- # The steps begin by them

module _ (tree : Tree) (past : List Doing) (x : Exporter) (z : IsAt past tree x) (m : Message) (st : StoreState)
    (k : Keeps x.tables tree st) (live : IsLive past m.host) (current : m.epoch ≡ epoch past)
    (one : (u v : Token) → In u (tokens_of x.tables.tokens.grants) → In v (tokens_of x.tables.tokens.grants)
    → u.id ≡ v.id → u ≡ v) where
  -- nothing is taken of it
  silent_still : (b : Body) → m.body ≡ b → IsPlainBody b
      → IsStill x.tables.server x.tables.stamp past (Took m.host m.epoch m.moves b)
      → IsServed x.tables st → HasBegun x.tables.server (Came m) tree past (making x.tables no_draft st)
  silent_still b is plain quiet served =
      let own = subst IsPlainBody (sym is) plain in
      silent_begins tree past x z m x.tables (leaves_silent tree past x z m (record {
        away = λ j w. elim w [
          | inl f ↦ own.down (same_took m.host j m.epoch f.0 m.moves f.1 m.body Down f.2).3
          | inr f ↦ own.bye (same_took m.host j m.epoch (epoch past) m.moves f.0.0 m.body Bye f.0.1).3
        ];
        still = subst (λ (o : Body). IsStill x.tables.server x.tables.stamp past (Took m.host m.epoch m.moves o))
            (sym is) quiet;
      })) own (λ l. current) st k served

  -- its fileset isn't here
  not_here : (f : FilesetId) → is_of x.tables.server f ≡ false → Here x.tables.server past f m.moves → ⊥
  not_here f e here = false≢true (sym e ∙ (here_from x.tables.server past f m.moves z.tables.slots here).1)

  module _ (g : Named) where
    pub returned_opens : m.body ≡ Returned g → m.moves ≡ 0 → IsServed (returned_tables x.tables m.host g) st
        → HasBegun x.tables.server (Came m) tree past (making (returned_tables x.tables m.host g) no_draft st)
    returned_opens is unmoved = by (is_of x.tables.server g.fid.fileset) refl
      where
        by : (b : Bool) → is_of x.tables.server g.fid.fileset ≡ b
            → IsServed (if b then freed x.tables m.host g.ids else x.tables) st
            → HasBegun x.tables.server (Came m) tree past
            (making (if b then freed x.tables m.host g.ids else x.tables) no_draft st)
        by true e served = silent_begins tree past x z m (freed x.tables m.host g.ids)
            (returned_silent tree past x z m.host m.moves g live
            (here_to x.tables.server past g.fid.fileset m.moves z.tables.slots unmoved e) one m
            (λ i. record m { epoch = current i; body = is i }))
            (subst IsPlainBody (sym is) (returned_plain g)) (λ l. current) st k served
        by false e served = silent_still (Returned g) is (returned_plain g)
            (returned_still x.tables.server past m.host m.epoch m.moves g (inr (inr (not_here g.fid.fileset e)))
            x.tables.stamp) served

    pub returned_away : m.body ≡ Returned g → (m.moves ≡ 0 → ⊥) → IsServed x.tables st
        → HasBegun x.tables.server (Came m) tree past (making x.tables no_draft st)
    returned_away is moved served = silent_still (Returned g) is (returned_plain g)
        (returned_still x.tables.server past m.host m.epoch m.moves g
        (inr (inr (λ here. moved (here_from x.tables.server past g.fid.fileset m.moves z.tables.slots here).0))) x.tables.stamp)
        served

    pub kept_opens : IsFor x.tables.server x.tables.roster m → m.body ≡ Kept g → m.moves ≡ 0
        → IsServed (kept_tables x.tables m.host g) st
        → HasBegun x.tables.server (Came m) tree past (making (kept_tables x.tables m.host g) no_draft st)
    kept_opens of is unmoved served =
        let its : AreNamed m g.fid g.ids = subst (IsBody x.tables.roster m) is of.sound.body in
        let e : is_of x.tables.server g.fid.fileset ≡ true =
        eq-eqb (g.fid.fileset.0 / 65536) x.tables.server.0
        (its.home unmoved ∙ ap (λ (v : ServerId). v.0) of.own) in
        silent_begins tree past x z m (kept_tables x.tables m.host g)
        (kept_silent tree past x z m.host m.moves g live
        (here_to x.tables.server past g.fid.fileset m.moves z.tables.slots unmoved e) one m
        (λ i. record m { epoch = current i; body = is i }))
        (subst IsPlainBody (sym is) (kept_plain g)) (λ l. current) st k served

    pub kept_away : m.body ≡ Kept g → (m.moves ≡ 0 → ⊥) → IsServed x.tables st
        → HasBegun x.tables.server (Came m) tree past (making x.tables no_draft st)
    kept_away is moved served = silent_still (Kept g) is (kept_plain g)
        (kept_still x.tables.server past z.tables.slots m.host m.epoch m.moves (inr (inr moved)) g x.tables.stamp) served
