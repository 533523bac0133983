-- A Hello of a host that isn't on the list.
use Rattle.std.proofs.Common.{◌≡◌, ◌⊎◌, ℕ, List, [], ◌∷◌, ◌++◌, inl, inr, refl, sym, ◌∙◌, ap, subst}
use Rattle.base_types.specs.declared.ids.HostId.{HostId}
use Rattle.base_types.specs.declared.ids.ServerId.{ServerId}
use Rattle.tree_answers.specs.declared.tree.Tree.{Tree}
use Rattle.message_types.specs.declared.giving.Reclaim.{Reclaim as ReclaimOf}
use Rattle.message_types.specs.declared.giving.Reclaimed.{Reclaimed as ReclaimedOf}
use Rattle.message_types.specs.declared.message.Body.{Body}
use Rattle.message_types.specs.declared.message.Body.TheVariants.{Hello, Gone, GiveBack, Reclaim, Reclaimed}
use Rattle.message_types.specs.declared.message.Body.TheVariants.{Restarted, Down, Bye}
use Rattle.message_types.specs.declared.message.Message.{Message}
use Rattle.script_lines.specs.declared.script.Script.{Script}
use Rattle.run_rules.specs.Doings.{Doing, Enlists, GoesAway, HasGoneAway, HasGoneDown, HasReclaimed}
use Rattle.run_rules.specs.Doings.{Listed, SentTo, TakenNow, TookNow, after_step, epoch}
use Rattle.run_rules.specs.Doings.Doing.{Took}
use Rattle.run_rules.specs.Past.{In}
use Rattle.run_rules.specs.ServerDue.{ServerAnswers, empty_reclaimed}
use Rattle.run_rules.specs.ServerMay.{OnlyAnswers}
use Rattle.run_tokens.specs.ServerRest.{ServerMeets}
use Rattle.run_rules.specs.Wants.{IsQueued, body_of}
use Rattle.run_rules.specs.declared.applied.Wanted.{Wanted}
use Rattle.run_rules.specs.declared.step.Step.{Step}
use Rattle.server_tables.specs.declared.recovering.Answered.{Answered}
use Rattle.server_tables.specs.declared.tables.Tables.{Tables}
use Rattle.server_tables.specs.declared.hosts.Hosts.{Hosts}
use Rattle.server_tables.specs.Standing.{AnsweredStand, HostsStand, IsSettled, Stands}
use Rattle.server_tables.specs.Steps.{taking, to_host}
use Rattle.server_tables.specs.Greetings.{listing, welcoming}
use Rattle.server_tables.proofs.Still.{HostsCalm, changes_still, claims_of, dones_of, gives_still, queue_still}
use Rattle.server_tables.proofs.Still.{recovery_still, reclaimed_was, stamps_still, tokens_still, took_listed}
use Rattle.server_tables.proofs.Still.{waits_back, wants_still}
use Rattle.server_tables.proofs.Idle.{IsLight, light_answers, light_calm, light_tells, light_tokens, light_wants}
use Rattle.server_tables.proofs.Idle.{took_host}
use Rattle.server_tables.proofs.Resting.{calm_settled}
use Rattle.server_tables.proofs.Quiet.{IsBlank, IsQuiet, TellsSo, blank_may, quiet_meets, the_cause, word_tokens}
use Rattle.server_tables.proofs.Worded.{heard_hears, only, settled_worded, stands_worded, taken_takes}

pub in_end : {A : Type 0} (x : A) (xs : List A) → In x (xs ++ x ∷ [])
in_end x [] = inl refl
in_end x (y ∷ ys) = inr (in_end x ys)

pub in_front : {A : Type 0} (x : A) (xs ys : List A) → In x xs → In x (xs ++ ys)
in_front x [] ys m = elim m [ ]
in_front x (y ∷ xs) ys (inl e) = inl e
in_front x (y ∷ xs) ys (inr m) = inr (in_front x xs ys m)

pub in_parts : {A : Type 0} (x : A) (xs ys : List A) → In x (xs ++ ys) → In x xs ⊎ In x ys
in_parts x [] ys m = inr m
in_parts x (y ∷ xs) ys (inl e) = inl (inl e)
in_parts x (y ∷ xs) ys (inr m) = elim (in_parts x xs ys m) [ inl p ↦ inl (inr p) | inr p ↦ inr p ]

pub blank_welcome : IsBlank (Reclaimed empty_reclaimed)
blank_welcome = record { grant = λ g p. cc; done = λ d p. cc; revoke = λ r p. cc }

the_lists : (r : ReclaimedOf) → Reclaimed empty_reclaimed ≡ Reclaimed r → empty_reclaimed ≡ r
the_lists r p = cc

pub tells_welcome : (server : ServerId) (past : List Doing) (h : HostId) → TellsSo server past h 0
    (Reclaimed empty_reclaimed)
tells_welcome server past h = record {
  blank = blank_welcome;
  gone = λ g p. cc;
  reclaimed = λ r p. let e = the_lists r p in
      (ap (λ (y : ReclaimedOf). y.applied) (sym e), ap (λ (y : ReclaimedOf). y.left_out) (sym e));
}

-- the Hello puts the host on the list
module _ (past : List Doing) (h : HostId) (e n : ℕ) (new : Listed past h → ⊥) (up : HasGoneDown past h → ⊥) where
  abbrev came : Doing
  came = Took h e n Hello

  same : (k : HostId) (f m : ℕ) (b : Body) → came ≡ Took k f m b → h ≡ k
  same k f m b p = took_host h k e f n m Hello b p

  lists : Listed (came ∷ past) h
  lists = inl ((e, n, refl), new, up)

  its : (k : HostId) → Enlists past came k → k ≡ h
  its k (inl p, o) = sym (same k p.0.0 p.0.1 Hello p.0.2)
  its k (inr p, o) = absurd (o p)

  pub goes : (k : HostId) → GoesAway past came k → HasGoneAway past k
  goes k w = absurd (elim w [ inl p ↦ (let q = p.2 in cc) | inr p ↦ (let q = p.0.1 in cc) ])

  pub light : IsLight past h e n Hello
  light = record {
    taken = λ k m d p. absurd (new (subst (Listed past) (sym (same k (epoch past) m d p.0)) p.1.0));
    away = goes;
  }

  pub hosts_listed : (x : Hosts) → HostsStand past x → HostsStand (came ∷ past) (listing x h)
  hosts_listed x s = record {
    epoch_is = s.epoch_is;
    sent_up_to = λ k f m b w. elim w [ inl p ↦ absurd (cc) | inr p ↦ s.sent_up_to k f m b p ];
    listed = λ k m. elim (in_parts k x.listed (h ∷ []) m) [
      | inl p ↦ inr (s.listed k p)
      | inr p ↦
          subst (Listed (came ∷ past)) (sym (one k h p)) lists
    ];
    listed_all = λ k w. elim w [
      | inl p ↦ subst (λ (y : HostId). In y (x.listed ++ h ∷ []))
          (same k p.0.0 p.0.1 Hello p.0.2) (in_end h x.listed)
      | inr p ↦ in_front k x.listed (h ∷ [])
          (s.listed_all k p)
    ];
    down = λ k m. inr (s.down k m);
    down_all = λ k w. elim w [ inl p ↦ absurd (let q = p.2 in cc) | inr p ↦ s.down_all k p ];
    away = λ k m. inr (s.away k m);
    away_all = λ k w. elim w [ inl p ↦ s.away_all k (goes k p) | inr p ↦ s.away_all k p ];
    now = λ k m. elim (in_parts k x.listed_now (h ∷ []) m) [
      | inl p ↦ inr (
        s.now k p,
        λ b. let q = b.1 in
            cc,
      )
      | inr p ↦ inl (subst (Enlists past came) (sym (one k h p)) (lists, new))
    ];
    now_all = λ k w. elim w [
      | inl p ↦ subst (λ (y : HostId). In y (x.listed_now ++ h ∷ [])) (sym (its k p))
          (in_end h x.listed_now)
      | inr p ↦ in_front k x.listed_now (h ∷ []) (s.now_all k p.0)
    ];
    reclaimed = λ k m. elim (in_parts k x.reclaimed (h ∷ []) m) [
      | inl p ↦ inr (
        s.reclaimed k p,
        λ b. let q = b.1 in
            cc,
      )
      | inr p ↦ inl (inr (subst (Enlists past came) (sym (one k h p)) (lists, new)))
    ];
    reclaimed_all = λ k w. elim w [
      | inl p ↦ elim p [
        | inl q ↦ absurd (let r = q.1 in cc)
        | inr q ↦
            subst (λ (y : HostId). In y (x.reclaimed ++ h ∷ [])) (sym (its k q)) (in_end h x.reclaimed)
      ]
      | inr p ↦
          in_front k x.reclaimed (h ∷ []) (s.reclaimed_all k p.0)
    ];
  }
    where
      one : (k g : HostId) → In k (g ∷ []) → k ≡ g
      one k g (inl p) = p
      one k g (inr p) = elim p [ ]

module _ (past : List Doing) (x : Tables) (m : Message) (s : Stands past x)
    (a : AnsweredStand past x.recovering.answers) (z : IsSettled x.server past)
    (hello : m.body ≡ Hello) (new : Listed past m.host → ⊥) (up : HasGoneDown past m.host → ⊥) where
  abbrev y : Tables
  y = welcoming x m.host

  abbrev had : Doing
  had = Took m.host m.epoch m.moves Hello

  waiting : (w : Wanted) → IsQueued past w → GoesAway past had w.host → ⊥
  waiting w p g = (s.wants.live w p).1 (goes past m.host m.epoch m.moves new up w.host g)

  calm : HostsCalm past had
  calm = light_calm x.server x.stamp past m.host m.epoch m.moves Hello (light past m.host m.epoch m.moves new up)
      waiting

  stands_had : Stands (had ∷ past) y
  stands_had =
      let l = light past m.host m.epoch m.moves new up in
      let k = light_tokens x.server x.stamp past m.host m.epoch m.moves Hello l waiting in
      let w = light_wants x.server x.stamp past m.host m.epoch m.moves Hello l waiting in
      let o = light_answers x.server x.stamp past m.host m.epoch m.moves Hello l waiting in
      record {
        slots = s.slots;
        hosts = hosts_listed past m.host m.epoch m.moves new up x.hosts s.hosts;
        tokens = tokens_still past had calm x.server k s.tokens;
        stamps = stamps_still past had calm x.server k (light_tells x.server x.stamp past m.host m.epoch m.moves
            Hello l waiting) s.stamps;
        wants = wants_still past had calm x.server w s.wants;
        queue = queue_still past had calm s.queue;
        gives = gives_still past had calm x.server (claims_of x.server past had o) s.gives;
        changes = changes_still past had calm (dones_of x.server past had o)
            (waits_back past had calm x.server w) s.changes;
        recovery = recovery_still past had calm x.server (claims_of x.server past had o) k.names s.recovery;
      }

  settled_had : IsSettled x.server (had ∷ past)
  settled_had =
      let l = light past m.host m.epoch m.moves new up in
      calm_settled past had x s calm (light_tokens x.server x.stamp past m.host m.epoch m.moves Hello l waiting)
      (light_wants x.server x.stamp past m.host m.epoch m.moves Hello l waiting)
      (light_answers x.server x.stamp past m.host m.epoch m.moves Hello l waiting) z

  abbrev begun : List Doing
  begun = Took m.host m.epoch m.moves m.body ∷ past

  acts_are : had ≡ Took m.host m.epoch m.moves m.body
  acts_are = ap (λ (b : Body). Took m.host m.epoch m.moves b) (sym hello)

  stands_begun : Stands begun y
  stands_begun = subst (λ (c : Doing). Stands (c ∷ past) y) acts_are stands_had

  settled_begun : IsSettled x.server begun
  settled_begun = subst (λ (c : Doing). IsSettled x.server (c ∷ past)) acts_are settled_had

  abbrev answer : Message
  answer = to_host x.server m.host x.hosts.epoch 0 (Reclaimed empty_reclaimed)

  abbrev step : Step
  step = taking x.server m (answer ∷ [])

  pub stands_greeted : Stands (after_step step past) y
  stands_greeted = stands_worded past y m stands_begun settled_begun m.host 0 (Reclaimed empty_reclaimed)
      (tells_welcome x.server past m.host)

  pub settled_greeted : IsSettled x.server (after_step step past)
  settled_greeted = settled_worded past y m stands_begun settled_begun m.host 0 (Reclaimed empty_reclaimed)
      (tells_welcome x.server past m.host)

  its_body : (b : Body) → m.body ≡ b → Hello ≡ b
  its_body b p = sym hello ∙ p

  taken_hello : (h : HostId) (n : ℕ) (b : Body) → TakenNow past step h n b → ⊥
  taken_hello h n b t = let p = taken_takes past x.server m (answer ∷ []) h n b t in
      new (subst (Listed past) (sym (took_host m.host h m.epoch (epoch past) m.moves n m.body b p.0)) p.1.0)

  answers : ServerAnswers x.server past step
  answers = record {
    hello_old = λ h w l. absurd (new (subst (Listed past) (sym (heard_hears past x.server m
        (answer ∷ []) h Hello w).0) l.0));
    hello = λ h w d o. (answer, inl refl, (heard_hears past x.server m (answer ∷ []) h Hello w).0, refl);
    bye = λ h w. absurd (let p = its_body Bye (heard_hears past x.server m (answer ∷ []) h Bye w).1 in cc);
    late = λ h k c is l other not_hello. absurd (not_hello (ap (λ (i : Message). i.body) (sym (the_cause m k c))
        ∙ hello));
    restarted = λ line h c. absurd (cc);
    restarted_again = λ h c. absurd (cc);
    restarted_only = λ h w. absurd (let p = (only x.server m m.host h x.hosts.epoch 0
        (Reclaimed empty_reclaimed) Restarted w).1 in cc);
    gone = λ h n g t. absurd (taken_hello h n (GiveBack g) t);
    gone_only = λ h n w. absurd (let p = (only x.server m m.host h x.hosts.epoch 0 (Reclaimed empty_reclaimed)
        (Gone n) w).1 in cc);
    claim_now = λ h n claim took no l all. absurd (settled_begun.claims h n claim took (λ r. no
        (was h n claim took r)) l all);
    claim_again = λ h n claim t. absurd (taken_hello h n (Reclaim claim) t);
  }
    where
      was : (h : HostId) (n : ℕ) (claim : ReclaimOf) → TookNow begun h n (Reclaim claim) → HasReclaimed begun h
          → HasReclaimed past h
      was h n claim (inl t) r = absurd (new (subst (Listed past) (sym (took_host m.host h m.epoch
          (epoch past) m.moves n m.body (Reclaim claim) t.0)) t.1.0))
      was h n claim (inr t) r = reclaimed_was past had calm h (took_listed past h n (Reclaim claim) t.0) (subst
          (λ (c : Doing). HasReclaimed (c ∷ past) h) (sym acts_are) r)

  says_only : OnlyAnswers past step
  says_only = record {
    bye_only = λ h w. absurd (let p = (only x.server m m.host h x.hosts.epoch 0 (Reclaimed empty_reclaimed) Bye w).1
        in cc);
    reclaimed_only = λ h r w. let p = (only x.server m m.host h x.hosts.epoch 0 (Reclaimed empty_reclaimed)
        (Reclaimed r) w).0 in
        inl (
          (m, refl, p, hello),
          subst (λ (k : HostId). HasGoneDown past k → ⊥) p up,
          inl (λ l. new (subst (Listed past) (sym p) l.0)),
        );
  }

  quiet : IsQuiet x.server past m (answer ∷ [])
  quiet = record {
    given = λ h g f. taken_hello h f.0.0 (GiveBack g) f.0.1;
    down = λ h f. let p = its_body Down (heard_hears past x.server m (answer ∷ []) h Down f.0).1 in cc;
    asks = λ h n r t. taken_hello h n (body_of r) t;
    settled = settled_begun;
    rests = settled_greeted;
    tokens = (
      word_tokens x.server begun m.host x.hosts.epoch 0
          (Reclaimed empty_reclaimed) stands_begun.hosts.epoch_is (tells_welcome x.server begun m.host),
      tt,
    );
    blank = λ n i. elim i [
      | inl p ↦ subst (λ (z : Message). IsBlank z.body) (sym p) blank_welcome
      | inr p ↦
          elim p [ ]
    ];
    sends = λ tree. (
      blank_may x.server tree step begun m.host x.hosts.epoch 0
          (Reclaimed empty_reclaimed) blank_welcome,
      tt,
    );
    once = (λ i. elim i [ ], tt);
    only = says_only;
    answers = answers;
  }

  pub meets_greeted : (script : Script) (start : Tree) (steps : List Step) → ServerMeets script start x.server steps
      past step
  meets_greeted script start steps = quiet_meets script start x.server steps past m (answer ∷ []) quiet

  pub answered_greeted : AnsweredStand (after_step step past) y.recovering.answers
  answered_greeted = record { answers_all = all; answered = each }
    where
      is_new : (h : HostId) → HasReclaimed (after_step step past) h → (h ≡ m.host) ⊎ HasReclaimed past h
      is_new h (inl p) = absurd (elim p [
        | inl q ↦ (let r = q.1 in cc)
        | inr q ↦ elim q.0 [
          | inl r ↦
              (let k = r.0.2 in cc)
          | inr r ↦ q.1 r
        ]
      ])
      is_new h (inr (inl p, o)) = absurd (elim p [
        | inl q ↦ (let r = q.1 in cc)
        | inr q ↦ elim q.0 [
          | inl r ↦
              (let k = r.0.2 in cc)
          | inr r ↦ q.1 r
        ]
      ])
      is_new h (inr (inr (inl p, u), o)) = elim p [
        | inl q ↦ absurd (let r = q.1 in cc)
        | inr q ↦ elim q.0 [
          | inl r ↦ inl (sym (took_host m.host h m.epoch r.0.0 m.moves r.0.1 m.body Hello r.0.2))
          | inr r ↦ absurd (q.1 r)
        ]
      ]
      is_new h (inr (inr (inr (p, i), u), o)) = inr p

      all : (h : HostId) → HasReclaimed (after_step step past) h → (l : Answered) × In l y.recovering.answers ×
          (l.host ≡ h)
      all h r = elim (is_new h r) [
        | inl e ↦ (
          record { host = m.host; answer = empty_reclaimed },
          in_end (record {
            host = m.host;
            answer =
                empty_reclaimed;
          }) x.recovering.answers,
          sym e,
        )
        | inr p ↦ (let q = a.answers_all h p in (
          q.0,
          in_front q.0 x.recovering.answers (record {
            host = m.host;
            answer = empty_reclaimed;
          } ∷ []) q.1,
          q.2,
        ))
      ]

      each : (l : Answered) → In l y.recovering.answers → (n : ℕ) × SentTo (after_step step past) l.host (epoch
          (after_step step past)) n (Reclaimed l.answer)
      each l i = elim (in_parts l x.recovering.answers (record { host = m.host; answer = empty_reclaimed } ∷ []) i) [
        | inl p ↦ (let q = a.answered l p in (q.0, inr (inr (inr q.1))))
        | inr p ↦ elim p [
          | inl e ↦ (
            0,
            inr (inl (let g = ap (λ (o : Answered). o.host) e in let b =
                ap (λ (o : Answered). o.answer) e in let f : x.hosts.epoch ≡ epoch past = s.hosts.epoch_is in cc)),
          )
          | inr q ↦ elim q [ ]
        ]
      ]
