-- A host gives tokens up: a Returned or a give-back is taken, and a give-back is applied and answered by Gone.
use Rattle.std.proofs.Common.{◌≡◌, ◌≢◌, ℕ, ◌≤◌, Bool, true, false, ◌||◌, ◌&&◌, nat_lt, is_some, if◌then◌else◌, None}
use Rattle.std.proofs.Common.{Some, Option, List, [], ◌∷◌, ◌++◌, length, map, inl, inr, sym, ◌∙◌, ap, subst, refl}
use Rattle.std.proofs.Common.{arith}
use Rattle.std.specs.List.{list_all}
use Rattle.std.specs.Option.{option_map_or}
use Rattle.base_types.specs.declared.ids.HostId.{HostId}
use Rattle.base_types.specs.declared.ids.ServerId.{ServerId}
use Rattle.base_types.specs.declared.ids.Node.TheVariants.{Server}
use Rattle.tree_answers.specs.declared.tree.Tree.{Tree}
use Rattle.tree_calls.specs.declared.reply.Reply.TheVariants.{Ok as Fine}
use Rattle.message_types.specs.declared.giving.AppliedGive.{AppliedGive}
use Rattle.message_types.specs.declared.giving.Ends.{Ends}
use Rattle.message_types.specs.declared.giving.Give.{Give}
use Rattle.message_types.specs.declared.message.Body.{Body}
use Rattle.message_types.specs.declared.message.Body.TheVariants.{Hello, Fetch, Change, Done, Revoke, Kept, Gone}
use Rattle.message_types.specs.declared.message.Body.TheVariants.{GiveBack, Reclaim, Reclaimed, Restarted, Down, Bye}
use Rattle.message_types.specs.declared.message.Message.{Message}
use Rattle.message_types.specs.declared.tokens.Named.{Named}
use Rattle.script_lines.specs.declared.script.Script.{Script}
use Rattle.token_manager.specs.declared.grants.Grants.{Grants}
use Rattle.token_table.specs.declared.notes.Note.{Note}
use Rattle.token_table.specs.Marks.{note_at}
use Rattle.token_types.specs.declared.token.Token.{Token}
use Rattle.token_types.specs.declared.token.TokenId.{TokenId}
use Rattle.run_rules.specs.Doings.{Doing, GivesUp, GoesAway, Granted, HasReclaimed, Here}
use Rattle.run_rules.specs.Doings.{IsApplied, IsLive, IsNewlyGranted, SentNow, TakenNow, TakesOf}
use Rattle.run_rules.specs.Doings.{TookNow, deciding, epoch}
use Rattle.run_rules.specs.Doings.Doing.{Reserves, Sent, Took}
use Rattle.run_rules.specs.Kept.{filesets_kept, filesets_through, takes_gifts}
use Rattle.run_rules.specs.Past.{EachInTurn, In, appended}
use Rattle.run_rules.specs.ServerDecides.{FirstGiven, MayDecideAll, by_cause, decisions, ended_by}
use Rattle.run_rules.specs.ServerDecides.{is_decision, span_of, stored_of}
use Rattle.run_rules.specs.ServerDue.{HasDecided, HasSent, ServerAnswers}
use Rattle.run_tokens.specs.ServerRest.{ServerMeets}
use Rattle.run_rules.specs.ServerMay.{HasRevoked, MaySend, OnlyAnswers}
use Rattle.run_rules.specs.ServerTokens.{ServerTokens}
use Rattle.run_rules.specs.Steps.{lines_of}
use Rattle.run_rules.specs.Tokens.{number_of}
use Rattle.run_rules.specs.Wants.{Decides, Unwants, body_of}
use Rattle.run_rules.specs.declared.applied.Applied.TheVariants.{Done as IsDone, Replied as EndsCall, Stored}
use Rattle.run_rules.specs.declared.applied.Applied.TheVariants.{Wants as IsWanted}
use Rattle.run_rules.specs.declared.applied.Request.TheVariants.{Change as Changes, Fetch as Asks}
use Rattle.run_rules.specs.declared.applied.Applied.{Applied as AppliedOf}
use Rattle.run_rules.specs.declared.applied.Written.{Written}
use Rattle.run_rules.specs.declared.applied.Request.{Request}
use Rattle.run_rules.specs.declared.applied.Wanted.{Wanted}
use Rattle.run_rules.specs.declared.step.Cause.TheVariants.{Message as Came}
use Rattle.run_rules.specs.declared.step.Step.{Step}
use Rattle.server_tables.specs.declared.tables.Tables.{Tables}
use Rattle.server_tables.specs.declared.tables.LastGive.{LastGive}
use Rattle.server_tables.specs.Standing.{GivesStand, IsCalm, IsSettled, RecoveryStands, StampsStand, Stands}
use Rattle.server_tables.specs.Standing.{TokensStand, tokens_of}
use Rattle.server_tables.specs.Steps.{to_host}
use Rattle.server_tables.proofs.Still.{HostsStill, IsStill, WantsStill, changes_still, hosts_still, live_was}
use Rattle.server_tables.proofs.Still.{queue_still, reclaimed_back, still, took_listed, wants_still, waits_back}
use Rattle.server_tables.proofs.Idle.{no_words, up_to, idle, reserves_nothing, says}
use Rattle.server_tables.proofs.Resting.{NoneClaims, still_settled}
use Rattle.server_tables.proofs.Quiet.{IsBlank, blank_may, blank_word, lines_may, no_host_may, reserves_may, the_cause}
use Rattle.server_tables.proofs.Settling.{calm_means}
use Rattle.server_tables.proofs.Asking.{asking}

-- a host's tokens with these numbers are gone, and the notes of them
pub record IsWithout (grants without : Grants) (host : HostId) (ids : List TokenId) : Type 0 where
  pub server : without.table.server ≡ grants.table.server
  pub epoch : without.table.epoch ≡ grants.table.epoch
  pub last : without.table.last ≡ grants.table.last
  pub were : (t : Token) → In t (tokens_of without) → In t (tokens_of grants)
  pub gone : (t : Token) → In t (tokens_of without) → t.host ≡ host → In t.id ids → ⊥
  pub stay : (t : Token) → In t (tokens_of grants) → (t.host ≡ host → In t.id ids → ⊥) → In t (tokens_of without)
  pub same : (t : Token) → In t (tokens_of without) → note_at without.notes t.id ≡ note_at grants.notes t.id
  pub noted : (i : TokenId) → is_some (note_at without.notes i) ≡ true → (t : Token) × In t (tokens_of without) ×
      (t.id ≡ i)

module _ (past : List Doing) (server : ServerId) (h : HostId) (n : ℕ) (b : Body) (ids : List TokenId)
    (live : IsLive past h)
    (quiet : (b ≢ Hello) × (b ≢ Down) × (b ≢ Bye)) (not_kept : (k : Named) → b ≡ Kept k → ⊥)
    (names : (k : HostId) (i : TokenId) → GivesUp server past (Took h (epoch past) n b) k i → (k ≡ h) × In i ids)
    (names_all : (i : TokenId) → In i ids → GivesUp server past (Took h (epoch past) n b) h i) where
  abbrev a : Doing
  a = Took h (epoch past) n b

  its_body : (k : HostId) (e m : ℕ) (d : Body) → a ≡ Took k e m d → b ≡ d
  its_body k e m d p = cc

  goes : (k : HostId) → GoesAway past a k → ⊥
  goes k (inl p) = quiet.1 (its_body k p.0 p.1 Down p.2)
  goes k (inr p) = quiet.2 (its_body k (epoch past) p.0.0 Bye p.0.1)

  pub up_hosts : HostsStill past a
  up_hosts = record {
    calm = record { begin = λ w. let p = w.1 in cc; still = λ w. let p = w.1 in cc; away = λ k g. absurd (goes k g); admits = λ k ts p. cc };
    hello = λ k p l d. quiet.0 (its_body k p.0 p.1 Hello p.2);
    down = λ k p. absurd (quiet.1 (its_body k p.0 p.1 Down p.2));
    sends = λ h0 e0 n0 b0 p. absurd (cc);
  }

  pub up_wants : WantsStill past a
  up_wants = record { wants = λ w p. cc; unwants = λ w p u. unwanted w u }
    where
      unmade : (k : HostId) (r : Request) → Decides a k r → ⊥
      unmade k (Asks f) d = let p = d.3 in cc
      unmade k (Changes f) (inl d) = let p = d.1 in cc
      unmade k (Changes f) (inr d) = let p = d.3 in cc

      unwanted : (w : Wanted) → Unwants past a w → ⊥
      unwanted w (inl d) = unmade w.host w.request d
      unwanted w (inr (inl v)) = let q = v.1 in cc
      unwanted w (inr (inr (inl g))) = goes w.host g
      unwanted w (inr (inr (inr z))) = let q = z.1 in cc

  newly : (t : Token) → IsNewlyGranted a t → ⊥
  newly t (inl p) = elim p.1.3 [ inl q ↦ (let r = q.1 in cc) | inr q ↦ (let r = q.1 in cc) ]
  newly t (inr p) = let q = p.1 in cc

  module _ (grants left : Grants) (s : TokensStand past server grants) (w : IsWithout grants left h ids) where
    granted_on : (t : Token) → In t (tokens_of left) → Granted server (a ∷ past) t
    granted_on t m = inr (
      s.granted t (w.were t m),
      up_hosts.calm.begin,
      (λ k. let p = names t.host t.id k in w.gone t m p.0 p.1),
      goes t.host,
    )

    granted_in : (t : Token) → Granted server (a ∷ past) t → In t (tokens_of left)
    granted_in t (inl p) = absurd (newly t p)
    granted_in t (inr p) = w.stay t (s.granted_all t p.0) (λ e i. p.2 (subst
        (λ (k : HostId). GivesUp server past a k t.id) (sym e) (names_all t.id i)))

    pub tokens_up : TokensStand (a ∷ past) server left
    tokens_up = record {
      server_is = w.server ∙ s.server_is;
      epoch_is = w.epoch ∙ s.epoch_is;
      granted = granted_on;
      granted_all = granted_in;
      pinned = λ t m p. (
        inr (s.pinned t (w.were t m) (sym (ap (λ o. option_map_or
            (λ (note : Note). note.pinned) o false) (w.same t m)) ∙ p)),
        granted_on t m,
      );
      pinned_all = λ t p. elim p.0 [
        | inl k ↦ absurd (not_kept k.0 (its_body t.host (epoch past) k.1.0 (Kept k.0) k.1.2.0))
        | inr k ↦ ap (λ o. option_map_or (λ (note : Note). note.pinned) o false) (w.same t (granted_in t p.1))
            ∙ s.pinned_all t k
      ];
      here = λ t g z. elim z [ inl p ↦ goes t.host p | inr p ↦ s.here t (s.granted t (w.were t (granted_in t g))) p ];
      live = λ t g. let l = s.live t (s.granted t (w.were t (granted_in t g))) in
          (inr l.0, λ z. elim z [ inl p ↦ goes t.host p | inr p ↦ l.1 p ]);
      known = λ t m. ap is_some (w.same t m) ∙ s.known t (w.were t m);
      issued = λ t k i e. subst (λ (z : ℕ). t.id.seq ≤ z) (sym w.last) (elim i [
        | inl p ↦ absurd (newly t (inl (
          k,
          p,
        )))
        | inr p ↦ s.issued t k p e
      ]);
      issued_up_to = λ t k i. elim i [ inl p ↦ absurd (newly t (inl (k, p))) | inr p ↦ s.issued_up_to t k p ];
      noted = w.noted;
      old = λ t m e. subst (λ (z : ℕ). t.id.seq ≤ z) (sym w.last) (s.old t (w.were t m) e);
      none_reserved = λ t r. elim r [ inl k ↦ (let q = k.1 in cc) | inr k ↦ s.none_reserved t k.0 ];
      one = λ t u k i e g q. elim i [
        | inl p ↦ absurd (newly t (inl (k, p)))
        | inr p ↦ elim g [ inl n ↦ absurd (newly u n) | inr o ↦ s.one t u k p e o.0 q ]
      ];
    }

    pub stamps_up : {stamp : ℕ} → StampsStand past grants stamp → StampsStand (a ∷ past) left stamp
    stamps_up z = record {
      told = λ f x t. elim t [
        | inl q ↦ absurd (elim q [
          | inl p ↦ elim p.4 [
            | inl r ↦ (let u = r.1 in cc)
            | inr r ↦
                (let u = r.1 in cc)
          ]
          | inr p ↦ (let u = p.4 in cc)
        ])
        | inr q ↦ z.told f x q.0
      ];
      revoked = λ t m p. inr (
        z.revoked t (w.were t m) (sym (ap (λ o. option_map_or
            (λ (note : Note). note.revoked) o false) (w.same t m)) ∙ p),
        up_hosts.calm.begin,
      );
      revoked_all = λ t m r. ap (λ o. option_map_or (λ (note : Note). note.revoked) o false) (w.same t m)
          ∙ z.revoked_all t (w.were t m) (back t r);
      revoked_old = λ t r e. subst (λ (y : ℕ). t.id.seq ≤ y) (sym w.last) (z.revoked_old t (back t r) e);
      revoked_live = λ t r. inr (z.revoked_live t (back t r), up_hosts.calm.begin);
    }
      where
        back : (t : Token) → HasRevoked (a ∷ past) t → HasRevoked past t
        back t (inl p) = absurd (let q = p.3 in cc)
        back t (inr p) = p.0

-- A give-back of a live host that has reclaimed: `left` are the grants without what it names.
pub record IsGiven (past : List Doing) (x : Tables) (left : Grants) (m : Message) (g : Give) : Type 0 where
  pub stands : Stands past x
  pub claims : NoneClaims x.server past
  pub body : m.body ≡ GiveBack g
  pub now : m.epoch ≡ epoch past
  pub live : IsLive past m.host
  pub here : Here x.server past g.fid.fileset m.moves
  pub reclaimed : HasReclaimed past m.host
  pub without : IsWithout x.tokens.grants left m.host g.ids
  -- nothing can be decided then, and all that is wanted is asked back: else decisions follow
  pub calm : IsCalm left x.tokens.queue

module _ (past : List Doing) (x : Tables) (left : Grants) (m : Message) (g : Give) (c : IsGiven past x left m g) where
  abbrev gave : Doing
  gave = Took m.host (epoch past) m.moves (GiveBack g)

  abbrev came : Doing
  came = Took m.host m.epoch m.moves m.body

  came_is : gave ≡ came
  came_is = let p = c.now in let q = c.body in cc

  takes : TakesOf x.server past gave m.host g.fid.fileset (GiveBack g)
  takes = (m.moves, c.here, (refl, c.live))

  its_give : (k : HostId) (e n : ℕ) (d : Give) → gave ≡ Took k e n (GiveBack d) → (m.host ≡ k) × (g ≡ d)
  its_give k e n d p = (cc, cc)

  names : (k : HostId) (i : TokenId) → GivesUp x.server past gave k i → (k ≡ m.host) × In i g.ids
  names k i (inl p) = absurd (let q = p.1.2.0 in cc)
  names k i (inr p) = let q = its_give k (epoch past) p.1.0 p.0 p.1.2.0 in
      (sym q.0, subst (λ (z : Give). In i z.ids) (sym q.1) p.2)

  names_all : (i : TokenId) → In i g.ids → GivesUp x.server past gave m.host i
  names_all i j = inr (g, takes, j)

  abbrev y : Tables
  y = record x {
    tokens = record x.tokens { grants = left };
    gives = record { host = m.host; give = number_of g } ∷ x.gives;
  }

  hosts_gave : HostsStill past gave
  hosts_gave = up_hosts past x.server m.host m.moves (GiveBack g) g.ids c.live (
    (λ p. cc),
    (λ p. cc),
    (λ p. cc),
  ) (λ k p. cc) names names_all

  wants_gave : WantsStill past gave
  wants_gave = up_wants past x.server m.host m.moves (GiveBack g) g.ids c.live (
    (λ p. cc),
    (λ p. cc),
    (λ p. cc),
  ) (λ k p. cc) names names_all

  gives_gave : GivesStand (gave ∷ past) x.server y.gives
  gives_gave = record { applied = each; applied_all = all }
    where
      here : IsApplied x.server (gave ∷ past) m.host (number_of g)
      here = inl (g, takes, refl, omega arith)

      each : (l : LastGive) → In l y.gives → IsApplied x.server (gave ∷ past) l.host l.give
      each l (inl e) = subst (λ (z : LastGive). IsApplied x.server (gave ∷ past) z.host z.give) (sym e) here
      each l (inr i) = inr (c.stands.gives.applied l i)

      all : (h : HostId) (n : AppliedGive) → IsApplied x.server (gave ∷ past) h n → (l : LastGive) × In l y.gives ×
          (l.host ≡ h) × (l.give.fileset ≡ n.fileset) × (n.number ≤ l.give.number)
      all h n (inr p) = let q = c.stands.gives.applied_all h n p in (q.0, inr q.1, q.2, q.3, q.4)
      all h n (inl p) = let q = its_give h (epoch past) p.1.0 p.0 p.1.2.0 in (
        record { host = m.host; give = number_of g },
        inl refl,
        q.0,
        ap (λ (z : Give). z.fid.fileset) q.1 ∙ p.2,
        subst (λ (z : Give). n.number ≤ z.number) (sym q.1) p.3,
      )

  recovery_gave : RecoveryStands (gave ∷ past) x.server x.recovering.claims x.recovering.taken x.recovering.given_up
  recovery_gave = record {
    claim = λ h n d t never l. let was : TookNow past h n (Reclaim d) = elim t [
      | inl p ↦ absurd (let q = p.0 in
          cc)
      | inr p ↦ p.0
    ] in
        s.claim h n d was (λ r. never (inr (r, hosts_gave.calm.begin))) (live_was past gave hosts_gave.calm h
        (took_listed past h n (Reclaim d) was) l);
    claimed = λ l i. let p = s.claimed l i in (p.0, inr (p.1, hosts_gave.calm.begin));
    taken = λ h d t never here. elim t [
      | inl p ↦ absurd (never (inr (
        own h (its_give h (epoch past) p.0 d p.2.0).0,
        hosts_gave.calm.begin,
      )))
      | inr p ↦ s.taken h d p.0 (λ r. never (inr (r, hosts_gave.calm.begin))) (λ o. here (inr o))
    ];
    taken_only = λ l i. let p = s.taken_only l i in (p.0, inr (p.1, hosts_gave.calm.begin), p.2);
    given_up = λ h i t never here. elim t [
      | inl p ↦ absurd (never (inr (
        own h (sym (names h i p).0),
        hosts_gave.calm.begin,
      )))
      | inr p ↦ s.given_up h i p.0 (λ r. never (inr (r, hosts_gave.calm.begin))) (λ o. here (inr o))
    ];
    given_up_only = λ l i. inr (s.given_up_only l i, hosts_gave.calm.begin);
  }
    where
      s : RecoveryStands past x.server x.recovering.claims x.recovering.taken x.recovering.given_up
      s = c.stands.recovery

      own : (h : HostId) → m.host ≡ h → HasReclaimed past h
      own h e = subst (HasReclaimed past) e c.reclaimed

  stands_gave : Stands (gave ∷ past) y
  stands_gave = record {
    slots = c.stands.slots;
    hosts = hosts_still past gave hosts_gave c.stands.hosts;
    tokens = tokens_up past x.server m.host m.moves (GiveBack g) g.ids c.live (
      (λ p. cc),
      (λ p. cc),
      (λ p. cc),
    ) (λ k p. cc) names names_all x.tokens.grants left c.stands.tokens c.without;
    stamps = stamps_up past x.server m.host m.moves (GiveBack g) g.ids c.live (
      (λ p. cc),
      (λ p. cc),
      (λ p. cc),
    ) (λ k p. cc) names names_all x.tokens.grants left c.stands.tokens c.without c.stands.stamps;
    wants = wants_still past gave hosts_gave.calm x.server wants_gave c.stands.wants;
    queue = queue_still past gave hosts_gave.calm c.stands.queue;
    gives = gives_gave;
    changes = changes_still past gave hosts_gave.calm (record {
      dones = λ h e n d p. cc;
      writes =
          λ w p. cc;
    }) (waits_back past gave hosts_gave.calm x.server wants_gave) c.stands.changes;
    recovery = recovery_gave;
  }

  claims_gave : NoneClaims x.server (gave ∷ past)
  claims_gave h n d t never l all =
      let was : TookNow past h n (Reclaim d) = elim t [ inl p ↦ absurd (let q = p.0 in cc) | inr p ↦ p.0 ] in
      c.claims h n d was (λ r. never (inr (r, hosts_gave.calm.begin))) (live_was past gave hosts_gave.calm h
      (took_listed past h n (Reclaim d) was) l)
      (λ o i k is. let p = all o i k is in elim p.1 [
        | inl q ↦ absurd (never (inr (
          subst (HasReclaimed past) (its_give h
              (epoch past) q.0 p.0 q.2.0).0 c.reclaimed,
          hosts_gave.calm.begin,
        )))
        | inr q ↦ (p.0, q.0, p.2, p.3)
      ])

  settled_gave : IsSettled x.server (gave ∷ past)
  settled_gave = calm_means (gave ∷ past) y stands_gave c.calm claims_gave

  abbrev begun : List Doing
  begun = came ∷ past

  sb : Stands begun y
  sb = subst (λ (a : Doing). Stands (a ∷ past) y) came_is stands_gave

  zb : IsSettled x.server begun
  zb = subst (λ (a : Doing). IsSettled x.server (a ∷ past)) came_is settled_gave

  abbrev answer : Message
  answer = to_host x.server m.host x.hosts.epoch m.moves (Gone (number_of g))

  abbrev sent : Doing
  sent = Sent m.host x.hosts.epoch m.moves (Gone (number_of g))

  blank_gone : IsBlank (Gone (number_of g))
  blank_gone = record { grant = λ d p. cc; done = λ d p. cc; revoke = λ r p. cc }

  sent_still : IsStill x.server y.stamp begun sent
  sent_still = idle x.server y.stamp begun sent (says m.host x.hosts.epoch m.moves (Gone (number_of g)) (blank_word
      (Gone (number_of g)) blank_gone)) (up_to begun m.host x.hosts.epoch m.moves (Gone
      (number_of g)) sb.hosts.epoch_is)

  kept_still : IsStill x.server y.stamp (sent ∷ begun) (Reserves [])
  kept_still = idle x.server y.stamp (sent ∷ begun) (Reserves []) reserves_nothing (no_words (sent ∷ begun))

  abbrev ends : List Doing
  ends = Reserves [] ∷ sent ∷ begun

  pub stands_given : Stands ends y
  stands_given = still (sent ∷ begun) (Reserves []) y kept_still (still begun sent y sent_still sb)

  pub settled_given : IsSettled x.server ends
  settled_given = still_settled (sent ∷ begun) (Reserves []) y (still begun sent y sent_still sb) kept_still
      (still_settled begun sent y sb sent_still zb)

  -- `l` is what is applied
  abbrev step : List AppliedOf → Step
  step l = asking x.server m l (answer ∷ [])

  taken_is : (l : List AppliedOf) (h : HostId) (n : ℕ) (d : Body) → TakenNow past (step l) h n d → (m.host ≡ h) ×
      (m.moves ≡ n) × (GiveBack g ≡ d)
  taken_is l h n d t = let e = the_cause m t.0.0 t.0.1 in (
    ap (λ (z : Message). z.host) e ∙ t.0.2,
    ap (λ (z : Message). z.moves) e ∙ t.0.4,
    sym c.body ∙ (ap (λ (z : Message). z.body) e ∙ t.0.5),
  )

  says_body : (l : List AppliedOf) (n : Message) (d : Body) → (step l).cause ≡ Came n → n.body ≡ d → GiveBack g ≡ d
  says_body l n d p q = sym c.body ∙ (ap (λ (z : Message). z.body) (the_cause m n p) ∙ q)

  only : (l : List AppliedOf) (h : HostId) (d : Body) → SentNow (step l) h d → (m.host ≡ h) × (Gone (number_of g) ≡ d)
  only l h d (n, inl p, q, r) = (ap (λ (z : Message). z.host) (sym p) ∙ q, ap (λ (z : Message). z.body) (sym p) ∙ r)
  only l h d (n, inr p, q, r) = elim p [ ]

  -- a give-back that was applied before: nothing is applied again
  answers : (l : List AppliedOf) → ServerAnswers x.server past (step l)
  answers l = record {
    hello_old = λ h w lives. absurd (let p = says_body l w.0 Hello w.1 w.3 in cc);
    hello = λ h w d. absurd (let p = says_body l w.0 Hello w.1 w.3 in cc);
    bye = λ h w d. absurd (let p = says_body l w.0 Bye w.1 w.3 in cc);
    late = λ h n p is lives other. absurd (other (ap (λ (z : Message). z.epoch) (sym (the_cause m n p)) ∙ c.now));
    restarted = λ line h p. absurd (cc);
    restarted_again = λ h p. absurd (cc);
    restarted_only = λ h w. absurd (let p = (only l h Restarted w).1 in cc);
    gone = λ h n d t here. let k = taken_is l h n (GiveBack d) t in
        (answer, inl refl, k.0, ap (λ (z : Give). Gone (number_of z)) (its (GiveBack d) d k.2 refl));
    gone_only = λ h n w. let k = only l h (Gone n) w in (
      m.moves,
      g,
      ((m, refl, k.0, c.now, refl, c.body), subst (IsLive past) k.0 c.live),
      (let q = k.1 in cc),
    );
    claim_now = λ h n claim t never lives all. absurd (zb.claims h n claim t (λ r. never (was h r)) lives all);
    claim_again = λ h n claim t. absurd (let p = (taken_is l h n (Reclaim claim) t).2 in cc);
  }
    where
      its : (d : Body) (k : Give) → GiveBack g ≡ d → d ≡ GiveBack k → g ≡ k
      its d k p q = cc

      was : (h : HostId) → HasReclaimed begun h → HasReclaimed past h
      was h r = reclaimed_back past gave hosts_gave h (subst (λ (a : Doing). HasReclaimed (a ∷ past) h) (sym came_is) r)

  only_gone : (l : List AppliedOf) → OnlyAnswers past (step l)
  only_gone l = record {
    bye_only = λ h w. absurd (let p = (only l h Bye w).1 in cc);
    reclaimed_only = λ h r w. absurd (let p = (only l h (Reclaimed r) w).1 in cc);
  }

  its_number : (n : AppliedGive) → Gone (number_of g) ≡ Gone n → number_of g ≡ n
  its_number n p = cc

  tokens_may : ServerTokens x.server begun sent
  tokens_may = record {
    epochs = λ h e n b p. (let q : x.hosts.epoch ≡ e = cc in sym q) ∙ sb.hosts.epoch_is;
    grants = λ h e n w p. absurd (cc);
    dones = λ h e n w p. absurd (cc);
    revokes = λ h e n r i p. absurd (cc);
    revokes_here = λ h e n r p. absurd (cc);
    stamps = λ h e n z r p. absurd (cc);
    gones = λ h e n k p. let a : m.host ≡ h = cc in let b : m.moves ≡ n = cc in let d = its_number k (let q : Gone
        (number_of g) ≡ Gone k = cc in q) in
        subst (λ (z : HostId × ℕ × AppliedGive). Here x.server begun z.2.fileset z.1
        × IsApplied x.server begun z.0 z.2) (λ i. (a i, b i, d i)) (c.here, is_applied);
    reclaimed = λ h e n r k p. absurd (cc);
    left_out = λ h e n r i p. absurd (cc);
    admits = λ h ts p. absurd (cc);
    writes = λ v p. absurd (cc);
    writes_once = λ v p. absurd (cc);
    reserves = λ ts t u p. absurd (cc);
  }
    where
      is_applied : IsApplied x.server begun m.host (number_of g)
      is_applied = sb.gives.applied (record { host = m.host; give = number_of g }) (inl refl)

  module _ (script : Script) (start : Tree) (steps : List Step) where
    abbrev tree : Tree
    tree = filesets_kept start x.server steps

    no_decision : (l : List AppliedOf) → deciding l ≡ [] → (Q : List Doing → Type 0) → Q begun → Q (appended
        (deciding l) begun)
    no_decision l d Q q = subst (λ (k : List Doing). Q (appended k begun)) (sym d) q

    -- the rules name what is applied
    core : (l : List AppliedOf) → by_cause l ≡ l → decisions l ≡ [] → deciding l ≡ [] → ((v : Written) → In
        (IsDone v) l → ⊥)
        → ((w : Wanted) → In (IsWanted w) l → ⊥)
        → ((h : HostId) (d : Give) → FirstGiven x.server past (step l) h d → l ≡ stored_of tree h d ++ ended_by h d)
        → (((h : HostId) (d : Give) → FirstGiven x.server past (step l) h d → ⊥) → l ≡ [])
        → ServerMeets script start x.server steps past (step l)
    core l whole none_decided none_deciding none_written none_wanted given rest = record {
      may = record {
        tokens = record {
          writes = subst (λ (k : List Doing). EachInTurn (ServerTokens x.server) k begun) (sym none_deciding) tt;
          admits = tt;
          sends = (no_decision l none_deciding (λ k. ServerTokens x.server k sent) tokens_may, tt);
          reserves = reserves_may x.server (sent ∷ appended (deciding l) begun);
        };
        no_host = no_host_may (step l) m refl (refl, refl, refl, refl, refl, refl, refl);
        answers = only_gone l;
        works = record {
          applies = record {
            given = λ h d f. whole ∙ given h d f;
            down = λ h f. absurd (let p = says_body l f.0.0 Down f.0.1 f.0.3 in cc);
            else_none = λ a b. whole ∙ rest a;
            decided = ap (λ (k : List AppliedOf). list_all is_decision k) none_decided;
            reserves = λ t i. elim i [ ];
          };
          decides = subst (λ (k : List AppliedOf). MayDecideAll x.server (filesets_through (step l).cause
              (by_cause l) tree) past begun (step l) k) (sym none_decided) tt;
          sends = (
            no_decision l none_deciding (λ k. MaySend x.server (filesets_through (step l).cause l tree) (step l) k sent)
                (blank_may x.server (filesets_through (step l).cause l tree)
                (step l) begun m.host x.hosts.epoch m.moves (Gone (number_of g)) blank_gone),
            tt,
          );
        };
      };
      due = record {
        lines = lines_may (lines_of script (Server x.server)) steps (step l) m refl;
        answers = answers l;
        decided = no_decision l none_deciding (λ k. HasDecided x.server (filesets_through
            (step l).cause l tree) past k (step l)) (record {
              news = λ h n r f. absurd (no_request h n r f.taken);
              refused = λ w d refusal waits is so f. elim f [
                | inl r ↦ zb.rested w waits r
                | inr q ↦
                    no_request w.host w.moves w.request q.1.taken
              ];
              effects = λ w d waits is effect accepted r. zb.rested w waits r;
              pinned = λ w d waits is row accepted r. zb.rested w waits (inr r);
            });
        sent = subst (λ (k : List Doing). HasSent x.server (filesets_through (step l).cause l tree) past
            (Reserves [] ∷ sent ∷ appended k begun) (step l)) (sym none_deciding) (record {
              once = (λ i. elim i [ ], tt);
              revokes_once = λ h r q i told. absurd (let p = (only l h (Revoke r) told).1 in cc);
              dones_only = λ h o told. absurd (let p = (only l h (Done o) told).1 in cc);
              written = λ v i. absurd (none_written v i);
              repeats = λ h n d o f. absurd (let p = (taken_is l h n (Change d) f).2 in cc);
              grants = λ w d waits is k. settled_given.rested w waits (inl k);
              uses = λ w d waits is uses accepted k. settled_given.rested w waits (inl k);
              others = λ w d waits is uses accepted row r. settled_given.rested w waits r;
              enters = λ w d waits is enter accepted k. settled_given.rested w waits (inl k);
              revokes = settled_given.asked;
              revokes_again = λ t p. absurd (cc);
            });
      };
    }
      where
        no_request : (h : HostId) (n : ℕ) (r : Request) → TakenNow past (step l) h n (body_of r) → ⊥
        no_request h n (Asks d) f = let p = (taken_is l h n (Fetch d) f).2 in cc
        no_request h n (Changes d) f = let p = (taken_is l h n (Change d) f).2 in cc

    abbrev can_store : Bool
    can_store = takes_gifts tree g.fid && (nat_lt 0 (length g.pieces) || is_some g.length)

    abbrev storing : Bool → List AppliedOf
    storing b = if b then Stored m.host g.fid (map span_of g.pieces) g.length ∷ [] else []

    abbrev ending : Option Ends → List AppliedOf
    ending o = option_map_or (λ e. EndsCall (record {
      host = m.host;
      k = e.k;
      call = e.call;
      reply = Fine;
      first =
          false;
    }) ∷ []) o []

    -- a give-back that is applied for the first time, of which this is stored
    pub meets_given : (IsApplied x.server past m.host (number_of g) → ⊥) → (b : Bool) (o : Option Ends) → can_store
        ≡ b → g.ends ≡ o
        → ServerMeets script start x.server steps past (step (storing b ++ ending o))
    meets_given new b o e k = go b o e k
      where
        the_same : (l : List AppliedOf) (h : HostId) (d : Give) → FirstGiven x.server past (step l) h d → (m.host
            ≡ h) × (g ≡ d)
        the_same l h d f = let p = taken_is l h f.0.0 (GiveBack d) f.0.1 in (p.0, (let q = p.2 in cc))

        is_so : (b : Bool) (o : Option Ends) → can_store ≡ b → g.ends ≡ o → (h : HostId) (d : Give) → (m.host ≡ h) ×
            (g ≡ d)
            → storing b ++ ending o ≡ stored_of tree h d ++ ended_by h d
        is_so b o e k h d p = subst (λ (z : HostId × Give). storing b ++ ending o
            ≡ stored_of tree z.0 z.1 ++ ended_by z.0 z.1) (λ i. (p.0 i, p.1 i))
            (λ i. storing (sym e i) ++ ending (sym k i))

        is_first : (l : List AppliedOf) → FirstGiven x.server past (step l) m.host g
        is_first l = ((m.moves, ((m, refl, refl, c.now, refl, c.body), c.live), c.here), new)

        go : (b : Bool) (o : Option Ends) → can_store ≡ b → g.ends ≡ o → ServerMeets script start x.server steps past
            (step (storing b ++ ending o))
        go true None e k = core (storing true ++ ending None) refl refl refl (λ v i. elim i [
          | inl p ↦
              (cc)
          | inr p ↦ elim p [ ]
        ]) (λ v i. elim i [
          | inl p ↦
              (cc)
          | inr p ↦ elim p [ ]
        ]) (λ h d f. is_so true None e k h d (the_same
            (storing true ++ ending None) h d f)) (λ never. absurd (never m.host g (is_first
            (storing true ++ ending None))))
        go true (Some z) e k = core (storing true ++ ending (Some z)) refl refl refl (λ v i. elim i [
          | inl p ↦
              (cc)
          | inr p ↦ elim p [ inl q ↦ (cc) | inr q ↦ elim q [ ] ]
        ]) (λ v i. elim i [
          | inl p ↦
              (cc)
          | inr p ↦ elim p [ inl q ↦ (cc) | inr q ↦ elim q [ ] ]
        ]) (λ h d f. is_so true (Some z) e k h d
            (the_same (storing true ++ ending (Some z)) h d f)) (λ never. absurd (never m.host g (is_first
            (storing true ++ ending (Some z)))))
        go false None e k = core [] refl refl refl (λ v i. elim i [ ]) (λ v i. elim i [ ])
            (λ h d f. is_so false None e k h d (the_same [] h d f)) (λ never. refl)
        go false (Some z) e k = core (ending (Some z)) refl refl refl (λ v i. elim i [
          | inl p ↦
              (cc)
          | inr p ↦ elim p [ ]
        ]) (λ v i. elim i [
          | inl p ↦
              (cc)
          | inr p ↦ elim p [ ]
        ]) (λ h d f. is_so false (Some z) e k h d (the_same (ending (Some z)) h d f))
            (λ never. absurd (never m.host g (is_first (ending (Some z)))))

    -- one that was applied before is answered by Gone alone
    pub meets_again : IsApplied x.server past m.host (number_of g) → ServerMeets script start x.server steps past
        (step [])
    meets_again old = core [] refl refl refl (λ v i. elim i [ ]) (λ v i. elim i [ ])
        (λ h d f. let p = taken_is [] h f.0.0 (GiveBack d) f.0.1 in let q : g ≡ d = (let r = p.2 in cc) in
        absurd (f.1 (subst (λ (z : HostId × Give). IsApplied x.server past z.0 (number_of z.1)) (λ i. (
          p.0 i,
          q i,
        )) old)))
        (λ never. refl)
