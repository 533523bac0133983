-- The start of a step whose cause is a greeting or a farewell, or isn't taken.
use Rattle.std.proofs.Common.{◌≡◌, ◌≢◌, ◌⊎◌, ℕ, List, [], ◌∷◌, inl, inr, refl, sym, ◌∙◌, subst}
use Rattle.base_types.specs.declared.ids.HostId.{HostId}
use Rattle.base_types.specs.declared.ids.ServerId.{ServerId}
use Rattle.tree_answers.specs.declared.tree.Tree.{Tree}
use Rattle.message_types.specs.declared.giving.Reclaim.{Reclaim as ReclaimOf}
use Rattle.message_types.specs.declared.giving.Reclaimed.{Reclaimed as ReclaimedOf}
use Rattle.message_types.specs.declared.message.Body.{Body}
use Rattle.message_types.specs.declared.message.Body.TheVariants.{Bye, Down, Hello, Reclaim, Reclaimed, Restarted}
use Rattle.message_types.specs.declared.message.Message.{Message}
use Rattle.run_rules.specs.Doings.{Doing, GoesAway, HasGoneAway, HasGoneDown, HasReclaimed, IsLive}
use Rattle.run_rules.specs.Doings.{Listed, ListedNow, TookNow, epoch}
use Rattle.run_rules.specs.Doings.Doing.{Took}
use Rattle.run_rules.specs.Past.{In}
use Rattle.run_rules.specs.ServerDue.{empty_reclaimed}
use Rattle.run_rules.specs.declared.step.Cause.TheVariants.{Message as Came}
use Rattle.store_state.specs.declared.state.StoreState.{StoreState}
use Rattle.server_tables.specs.Standing.{AnsweredStand, Stands}
use Rattle.server_tables.specs.declared.tables.Tables.{Tables}
use Rattle.server_tables.proofs.Dropping.{down_away}
use Rattle.server_tables.proofs.Early.{IsWordOf}
use Rattle.server_tables.proofs.Idle.{IsMild, IsMute, mute}
use Rattle.server_tables.proofs.Quiet.{IsBlank}
use Rattle.server_tables.proofs.Still.{IsStill, answered_still, live_still, live_was, reclaimed_back, still}
use Rattle.server_decides.specs.Drafts.{no_draft, word}
use Rattle.server_decides.specs.Running.{making}
use Rattle.server_decides.specs.Serving.{IsServed}
use Rattle.server_exporter.specs.Machines.{IsAt, Keeps}
use Rattle.server_exporter.specs.declared.exporter.Exporter.{Exporter}
use Rattle.server_exporter.proofs.Onsets.{HasBegun}
use Rattle.server_exporter.proofs.Openings.{IsOnset, begins, none_said, one_said}
use Rattle.server_exporter.proofs.Replies.{TakesNone, caused, none_new, says_bye, says_none, says_restarted}
use Rattle.server_exporter.proofs.Replies.{says_welcome}

-- # Words that say nothing of give-backs

restarted_blank : IsBlank Restarted
restarted_blank = record { grant = λ g e. cc; done = λ d e. cc; revoke = λ r e. cc }

pub bye_blank : IsBlank Bye
bye_blank = record { grant = λ g e. cc; done = λ d e. cc; revoke = λ r e. cc }

pub welcome_blank : IsBlank (Reclaimed empty_reclaimed)
welcome_blank = record { grant = λ g e. cc; done = λ d e. cc; revoke = λ r e. cc }

module _ (server : ServerId) (past : List Doing) (h : HostId) where
  pub restarted_word : IsWordOf server past h 0 Restarted
  restarted_word = record {
    blank = restarted_blank;
    gone = λ g e. absurd (cc);
    reclaimed = λ r g e. absurd (cc);
    left_out = λ r i e. absurd (cc);
  }

  pub bye_word : IsWordOf server past h 0 Bye
  bye_word = record {
    blank = bye_blank;
    gone = λ g e. absurd (cc);
    reclaimed = λ r g e. absurd (cc);
    left_out = λ r i e. absurd (cc);
  }

  its_lists : (r : ReclaimedOf) → Reclaimed empty_reclaimed ≡ Reclaimed r → empty_reclaimed ≡ r
  its_lists r e = cc

  pub welcome_word : IsWordOf server past h 0 (Reclaimed empty_reclaimed)
  welcome_word = record {
    blank = welcome_blank;
    gone = λ g e. absurd (cc);
    reclaimed = λ r g e i.
        absurd (subst (λ (z : ReclaimedOf). In g z.applied) (sym (its_lists r e)) i);
    left_out = λ r j e i.
        absurd (subst (λ (z : ReclaimedOf). In j z.left_out) (sym (its_lists r e)) i);
  }

-- # Messages that change no words of a server

module _ (past : List Doing) (m : Message) where
  abbrev pub took : Doing
  took = Took m.host m.epoch m.moves m.body

  pub took_is : (k : HostId) (e n : ℕ) (b : Body) → took ≡ Took k e n b
      → (m.host ≡ k) × (m.epoch ≡ e) × (m.moves ≡ n) × (m.body ≡ b)
  took_is k e n b p = (cc, cc, cc, cc)

  abbrev pub IsUnheard : Type 0
  IsUnheard = IsMute past m.host m.epoch m.moves m.body

  -- its host isn't live, and it is no greeting and no farewell, or its host is down
  pub vain_mute : (IsLive past m.host → ⊥)
      → HasGoneDown past m.host ⊎ ((m.body ≢ Hello) × (m.body ≢ Bye) × (m.body ≢ Down)) → IsUnheard
  vain_mute dead silent = record {
    light = record {
      taken = λ k n d p. absurd (dead (subst (IsLive past) (sym (took_is k (epoch past) n d p.0).0) p.1));
      away = goes;
    };
    hello = λ k f l d. elim (said k f.0 f.1 Hello f.2) [ inl w ↦ d w | inr q ↦ q.0 refl ];
    down = λ k f. elim (said k f.0 f.1 Down f.2) [ inl d ↦ d | inr q ↦ absurd (q.2 refl) ];
  }
    where
      said : (k : HostId) (e n : ℕ) (b : Body) → took ≡ Took k e n b
          → HasGoneDown past k ⊎ ((b ≢ Hello) × (b ≢ Bye) × (b ≢ Down))
      said k e n b p = subst (λ (y : HostId × Body). HasGoneDown past y.0
          ⊎ ((y.1 ≢ Hello) × (y.1 ≢ Bye) × (y.1 ≢ Down)))
          (λ i. ((took_is k e n b p).0 i, (took_is k e n b p).3 i)) silent

      goes : (k : HostId) → GoesAway past took k → HasGoneAway past k
      goes k (inl f) = elim (said k f.0 f.1 Down f.2) [ inl d ↦ down_away past k d | inr q ↦ absurd (q.2 refl) ]
      goes k (inr f) = elim (said k (epoch past) f.0.0 Bye f.0.1) [
        | inl d ↦ absurd (f.2 d)
        | inr q ↦ absurd (q.1 refl)
      ]

  -- it is of another epoch
  pub late_mute : m.epoch ≢ epoch past → m.body ≢ Hello → m.body ≢ Down → IsUnheard
  late_mute other not_hello not_down = record {
    light = record {
      taken = λ k n d p. absurd (other (took_is k (epoch past) n d p.0).1);
      away = goes;
    };
    hello = λ k f l d. not_hello (took_is k f.0 f.1 Hello f.2).3;
    down = λ k f. absurd (not_down (took_is k f.0 f.1 Down f.2).3);
  }
    where
      goes : (k : HostId) → GoesAway past took k → HasGoneAway past k
      goes k (inl f) = absurd (not_down (took_is k f.0 f.1 Down f.2).3)
      goes k (inr f) = absurd (other (took_is k (epoch past) f.0.0 Bye f.0.1).1)

  -- a host on the list says Hello
  pub hello_mute : m.body ≡ Hello → Listed past m.host → IsUnheard
  hello_mute is listed = record {
    light = record {
      taken = λ k n d p. subst IsMild (sym is ∙ (took_is k (epoch past) n d p.0).3) tt;
      away = goes;
    };
    hello = λ k f l d. l (subst (Listed past) (took_is k f.0 f.1 Hello f.2).0 listed);
    down = λ k f. absurd (let q = sym is ∙ (took_is k f.0 f.1 Down f.2).3 in cc);
  }
    where
      goes : (k : HostId) → GoesAway past took k → HasGoneAway past k
      goes k (inl f) = absurd (let q = sym is ∙ (took_is k f.0 f.1 Down f.2).3 in cc)
      goes k (inr f) = absurd (let q = sym is ∙ (took_is k (epoch past) f.0.0 Bye f.0.1).3 in cc)

  -- a host that has gone away says Bye
  pub bye_mute : m.body ≡ Bye → (Listed past m.host → HasGoneAway past m.host) → IsUnheard
  bye_mute is gone = record {
    light = record {
      taken = λ k n d p. subst IsMild (sym is ∙ (took_is k (epoch past) n d p.0).3) tt;
      away = goes;
    };
    hello = λ k f l d. absurd (let q = sym is ∙ (took_is k f.0 f.1 Hello f.2).3 in cc);
    down = λ k f. absurd (let q = sym is ∙ (took_is k f.0 f.1 Down f.2).3 in cc);
  }
    where
      goes : (k : HostId) → GoesAway past took k → HasGoneAway past k
      goes k (inl f) = absurd (let q = sym is ∙ (took_is k f.0 f.1 Down f.2).3 in cc)
      goes k (inr f) =
          let same = (took_is k (epoch past) f.0.0 Bye f.0.1).0 in
          subst (HasGoneAway past) same (gone (subst (Listed past) (sym same) f.1))

  pub mute_still : (x : Tables) → Stands past x → IsUnheard → IsStill x.server x.stamp past took
  mute_still x s c = mute x.server x.stamp past m.host m.epoch m.moves m.body c
      (λ w u g. (s.wants.live w u).1 (c.light.away w.host g))

-- # The tables stay

module _ (tree : Tree) (past : List Doing) (x : Exporter) (z : IsAt past tree x) (m : Message) (st : StoreState)
    (k : Keeps x.tables tree st) (served : IsServed x.tables st) where
  abbrev t : Tables
  t = x.tables

  abbrev now : List Doing
  now = Took m.host m.epoch m.moves m.body ∷ past

  module _ (c : IsStill t.server t.stamp past (Took m.host m.epoch m.moves m.body)) where
    pub stays_onset : IsOnset t.server tree past m [] t st
    stays_onset = record {
      server_is = refl;
      none = refl;
      undone = λ v i. elim i [ ];
      served = served;
      keeps = k.stands;
      kept_homes = k.homes;
      below = k.taken;
      epoch = k.epoch;
      listed = z.once;
      known = z.known;
      gives = z.gives;
      changes = z.changes;
      enters = z.enters;
      tokens = z.homes;
      waits = λ d i. (let w = z.claims d i in (
        (λ r. w.0 (reclaimed_back past (Took m.host m.epoch m.moves m.body) c.hosts d.host r)),
        live_still past (Took m.host m.epoch m.moves m.body) c.hosts.calm d.host w.1,
      ));
      queued = z.tables.wants.pending;
    }

    pub stays_now : Stands now t
    stays_now = still past (Took m.host m.epoch m.moves m.body) t c z.tables

    pub stays_answered : AnsweredStand now t.recovering.answers
    stays_answered = answered_still past (Took m.host m.epoch m.moves m.body) c.hosts z.answered

    pub never_more : (h : HostId) (n : ℕ) (claim : ReclaimOf) → TookNow now h n (Reclaim claim)
        → (HasReclaimed past h → ⊥) → HasReclaimed now h → ⊥
    never_more h n claim _ never r = never (reclaimed_back past (Took m.host m.epoch m.moves m.body) c.hosts h r)

    pub live_too : IsLive past m.host → IsLive now m.host
    live_too l = live_still past (Took m.host m.epoch m.moves m.body) c.hosts.calm m.host l

    module _ (none : TakesNone t.server tree past m) (gone : m.body ≡ Down → HasGoneDown past m.host) where
      -- nothing is said
      pub silent_opens : (m.body ≡ Hello → HasGoneDown past m.host) → (m.body ≡ Bye → HasGoneDown past m.host)
          → (IsLive past m.host → m.epoch ≢ epoch past → m.body ≢ Hello → m.body ≢ Down → ⊥)
          → HasBegun t.server (Came m) tree past (making t no_draft st)
      silent_opens hello bye late =
          begins t.server tree past m [] t st [] stays_onset (none_said t.server now t stays_now stays_answered)
          (caused t.server tree past m none []
          (says_none t.server tree past m none hello bye late) gone never_more) z.told
          (none_new t.server tree past m none)

      -- it hears of a restart
      pub restarted_opens : IsLive past m.host → (m.body ≡ Hello → ListedNow past m.host → ⊥)
          → (m.body ≡ Bye → m.epoch ≡ epoch past → ⊥)
          → (m.body ≡ Hello) ⊎ ((m.epoch ≢ epoch past) × (m.body ≢ Hello) × (m.body ≢ Down))
          → HasBegun t.server (Came m) tree past
          (making t (record no_draft { sent = word t m.host Restarted ∷ [] }) st)
      restarted_opens live hello bye why =
          begins t.server tree past m [] t st (word t m.host Restarted ∷ []) stays_onset
          (one_said t.server now t stays_now m.host Restarted restarted_blank
          (restarted_word t.server now m.host) (λ r e. absurd (cc)) stays_answered)
          (caused t.server tree past m none (word t m.host Restarted ∷ [])
          (says_restarted t.server tree past m none (word t m.host Restarted) refl refl live hello bye
          (λ s e. elim why [
            | inl q ↦ inl ((m, e, refl, q), hello q)
            | inr q ↦ inr (inl (m, e, refl, q.0, q.1, q.2))
          ])) gone never_more) z.told
          (none_new t.server tree past m none)

      -- it is welcome, again
      pub welcome_opens : m.body ≡ Hello → (HasGoneDown past m.host → ⊥)
          → ((IsLive past m.host → ⊥) ⊎ ListedNow past m.host)
          → HasBegun t.server (Came m) tree past
          (making t (record no_draft { sent = word t m.host (Reclaimed empty_reclaimed) ∷ [] }) st)
      welcome_opens hello up either =
          begins t.server tree past m [] t st (word t m.host (Reclaimed empty_reclaimed) ∷ []) stays_onset
          (one_said t.server now t stays_now m.host (Reclaimed empty_reclaimed) welcome_blank
          (welcome_word t.server now m.host) (λ r e. has either) stays_answered)
          (caused t.server tree past m none (word t m.host (Reclaimed empty_reclaimed) ∷ [])
          (says_welcome t.server tree past m none (word t m.host (Reclaimed empty_reclaimed)) refl refl hello up
          either) gone never_more) z.told
          (none_new t.server tree past m none)
        where
          -- one that came on the list in this epoch has reclaimed
          reclaimed : (l : List Doing) → ListedNow l m.host → HasReclaimed l m.host
          reclaimed [] q = q
          reclaimed (a ∷ l) (inl q) = inl (inr q)
          reclaimed (a ∷ l) (inr q) = inr (reclaimed l q.0, q.1)

          has : (IsLive past m.host → ⊥) ⊎ ListedNow past m.host
              → HasReclaimed now m.host ⊎ (IsLive now m.host → ⊥)
          has (inl dead) = inr (λ l. dead (listed l.0 l))
            where
              listed : Listed now m.host → IsLive now m.host → IsLive past m.host
              listed (inl q) l = absurd (c.hosts.hello m.host q.0 q.1 q.2)
              listed (inr q) l = live_was past (Took m.host m.epoch m.moves m.body) c.hosts.calm m.host q l
          has (inr q) = inl (inr (reclaimed past q, c.hosts.calm.begin))

      -- Bye
      pub bye_opens : m.body ≡ Bye → (HasGoneDown past m.host → ⊥) → (IsLive past m.host → ⊥)
          → HasBegun t.server (Came m) tree past (making t (record no_draft { sent = word t m.host Bye ∷ [] }) st)
      bye_opens bye up dead =
          begins t.server tree past m [] t st (word t m.host Bye ∷ []) stays_onset
          (one_said t.server now t stays_now m.host Bye bye_blank (bye_word t.server now m.host)
          (λ r e. absurd (cc)) stays_answered)
          (caused t.server tree past m none (word t m.host Bye ∷ [])
          (says_bye t.server tree past m none (word t m.host Bye) refl refl bye up (λ l. absurd (dead l))) gone
          never_more) z.told
          (none_new t.server tree past m none)
