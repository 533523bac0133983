-- What a message that is no request is answered by at once: nothing, or one word.
use Rattle.std.proofs.Common.{◌≡◌, ◌≢◌, ◌⊎◌, ℕ, List, [], ◌∷◌, inl, inr, refl, sym, ◌∙◌, ap, subst}
use Rattle.base_types.specs.declared.ids.HostId.{HostId}
use Rattle.base_types.specs.declared.ids.ServerId.{ServerId}
use Rattle.tree_answers.specs.declared.tree.Tree.{Tree}
use Rattle.message_types.specs.declared.giving.Give.{Give}
use Rattle.message_types.specs.declared.giving.Reclaim.{Reclaim as ReclaimOf}
use Rattle.message_types.specs.declared.message.Body.{Body}
use Rattle.message_types.specs.declared.message.Body.TheVariants.{Bye, Change, Down, Fetch, GiveBack, Hello, Reclaim}
use Rattle.message_types.specs.declared.message.Body.TheVariants.{Reclaimed, Restarted}
use Rattle.message_types.specs.declared.message.Message.{Message}
use Rattle.run_rules.specs.Doings.{Doing, HasGoneAway, HasGoneDown, HasReclaimed, HeardNow, IsLive, ListedNow, TakenNow}
use Rattle.run_rules.specs.Doings.{TookNow}
use Rattle.run_rules.specs.Doings.{epoch}
use Rattle.run_rules.specs.ServerDue.{HearsOfRestart, empty_reclaimed}
use Rattle.run_rules.specs.Wants.{body_of}
use Rattle.run_rules.specs.declared.applied.Applied.TheVariants.{IsDown as GoesDown}
use Rattle.run_rules.specs.declared.applied.Request.{Request}
use Rattle.run_rules.specs.declared.applied.Request.TheVariants.{Change as Changes, Fetch as Asks}
use Rattle.run_rules.specs.declared.step.Cause.TheVariants.{Message as Came}
use Rattle.run_rules.specs.declared.step.Step.{Step}
use Rattle.server_tables.proofs.Dropping.{down_away}
use Rattle.server_exporter.proofs.Onsets.{SaysAtOnce, SaysTo}
use Rattle.server_exporter.proofs.Openings.{AreCaused, NoneNew, begun}
use Rattle.server_exporter.proofs.Starts.{same_came}

-- # What a step heard

module _ (past : List Doing) (m : Message) (s : Step) (e : s.cause ≡ Came m) where
  pub heard_m : (h : HostId) (b : Body) → HeardNow s h b → (m.host ≡ h) × (m.body ≡ b)
  heard_m h b q =
      let k = same_came m q.0 (sym e ∙ q.1) in
      (ap (λ (o : Message). o.host) k ∙ q.2, ap (λ (o : Message). o.body) k ∙ q.3)

  pub taken_m : (h : HostId) (n : ℕ) (b : Body) → TakenNow past s h n b
      → (m.host ≡ h) × (m.epoch ≡ epoch past) × (m.moves ≡ n) × (m.body ≡ b) × IsLive past h
  taken_m h n b t =
      let k = same_came m t.0.0 (sym e ∙ t.0.1) in (
        ap (λ (o : Message). o.host) k ∙ t.0.2,
        ap (λ (o : Message). o.epoch) k ∙ t.0.3,
        ap (λ (o : Message). o.moves) k ∙ t.0.4,
        ap (λ (o : Message). o.body) k ∙ t.0.5,
        t.1,
      )

  pub was_m : (h : HostId) (n : Message) → s.cause ≡ Came n → n.host ≡ h
      → (m.host ≡ h) × (m.epoch ≡ n.epoch) × (m.body ≡ n.body)
  was_m h n is host =
      let k = same_came m n (sym e ∙ is) in (
        ap (λ (o : Message). o.host) k ∙ host,
        ap (λ (o : Message). o.epoch) k,
        ap (λ (o : Message). o.body) k,
      )

-- # No request is taken

-- a greeting or a farewell
abbrev pub IsGreeting : Body → Type 0
IsGreeting b = (b ≡ Hello) ⊎ ((b ≡ Bye) ⊎ (b ≡ Down))

module _ (server : ServerId) (tree : Tree) (past : List Doing) (m : Message) where
  -- all that is taken of it
  abbrev pub TakesNone : Type 0
  TakesNone = (s : Step) → s.cause ≡ Came m → (h : HostId) (n : ℕ) (b : Body) → TakenNow past s h n b → IsGreeting b

  module _ (none : TakesNone) where
    no_give : (s : Step) → s.cause ≡ Came m → (h : HostId) (n : ℕ) (g : Give) → TakenNow past s h n (GiveBack g) → ⊥
    no_give s e h n g t = elim (none s e h n (GiveBack g) t) [
      | inl q ↦ (cc)
      | inr q ↦ elim q [ inl p ↦ (cc) | inr p ↦ (cc) ]
    ]

    no_claim : (s : Step) → s.cause ≡ Came m → (h : HostId) (n : ℕ) (c : ReclaimOf) → TakenNow past s h n (Reclaim c)
        → ⊥
    no_claim s e h n c t = elim (none s e h n (Reclaim c) t) [
      | inl q ↦ (cc)
      | inr q ↦ elim q [ inl p ↦ (cc) | inr p ↦ (cc) ]
    ]

    no_ask : (s : Step) → s.cause ≡ Came m → (h : HostId) (n : ℕ) (r : Request) → TakenNow past s h n (body_of r) → ⊥
    no_ask s e h n (Asks f) t = elim (none s e h n (Fetch f) t) [
      | inl q ↦ (cc)
      | inr q ↦ elim q [ inl p ↦ (cc) | inr p ↦ (cc) ]
    ]
    no_ask s e h n (Changes c) t = elim (none s e h n (Change c) t) [
      | inl q ↦ (cc)
      | inr q ↦ elim q [ inl p ↦ (cc) | inr p ↦ (cc) ]
    ]

    pub none_new : NoneNew server tree past m
    none_new s e h n r q = no_ask s e h n r q.taken

    -- # What is said at once

    -- nothing, of a host that is down or that says neither Hello nor Bye
    pub says_none : (m.body ≡ Hello → HasGoneDown past m.host) → (m.body ≡ Bye → HasGoneDown past m.host)
        → (IsLive past m.host → m.epoch ≢ epoch past → m.body ≢ Hello → m.body ≢ Down → ⊥)
        → (s : Step) → s.cause ≡ Came m → SaysAtOnce server past s []
    says_none hello bye late s e = record {
      hello_old = λ h f live old. (let k = heard_m past m s e h Hello f in
          absurd (live.1 (subst (HasGoneAway past) k.0 (down_away past m.host (hello k.1)))));
      hello = λ h f up either. (let k = heard_m past m s e h Hello f in
          absurd (up (subst (HasGoneDown past) k.0 (hello k.1))));
      bye = λ h f up either. (let k = heard_m past m s e h Bye f in
          absurd (up (subst (HasGoneDown past) k.0 (bye k.1))));
      late = λ h n is host live other not_hello not_down. (let k = was_m past m s e h n is host in
          absurd (late (subst (IsLive past) (sym k.0) live) (λ q. other (sym k.1 ∙ q)) (λ q. not_hello (sym k.2 ∙ q))
          (λ q. not_down (sym k.2 ∙ q))));
      restarted_only = λ h w. elim w.1 [ ];
      gone = λ h n g t here. absurd (no_give s e h n g t);
      gone_only = λ h n w. elim w.1 [ ];
      claim_again = λ h n c t r. absurd (no_claim s e h n c t);
      bye_only = λ h w. elim w.1 [ ];
      reclaimed_only = λ h a w. elim w.1 [ ];
      repeats = λ h n c d t here f k last done. absurd (no_ask s e h n (Changes c) t);
      dones_only = λ h d w. elim w.1 [ ];
      no_grant = λ h g w. elim w.1 [ ];
      no_revoke = λ h r w. elim w.1 [ ];
    }

    -- one word to its host
    module _ (w : Message) (host : w.host ≡ m.host) where
      its : (h : HostId) (b : Body) → SaysTo (w ∷ []) h b → (w.host ≡ h) × (w.body ≡ b)
      its h b q = elim q.1 [
        | inl i ↦ (ap (λ (o : Message). o.host) (sym i) ∙ q.2, ap (λ (o : Message). o.body) (sym i) ∙ q.3)
        | inr i ↦ absurd i
      ]

      says : (h : HostId) (b : Body) → m.host ≡ h → w.body ≡ b → SaysTo (w ∷ []) h b
      says h b q p = (w, inl refl, host ∙ q, p)

      -- that the server has restarted
      pub says_restarted : w.body ≡ Restarted → IsLive past m.host → (m.body ≡ Hello → ListedNow past m.host → ⊥)
          → (m.body ≡ Bye → m.epoch ≡ epoch past → ⊥)
          → ((s : Step) → s.cause ≡ Came m → HearsOfRestart past s m.host)
          → (s : Step) → s.cause ≡ Came m → SaysAtOnce server past s (w ∷ [])
      says_restarted body lives hello bye why s e = record {
        hello_old = λ h f live old. (let k = heard_m past m s e h Hello f in says h Restarted k.0 body);
        hello = λ h f up either. (let k = heard_m past m s e h Hello f in absurd (elim either [
          | inl q ↦ q (subst (IsLive past) k.0 lives)
          | inr q ↦ hello k.1 (subst (ListedNow past) (sym k.0) q)
        ]));
        bye = λ h f up either. (let k = heard_m past m s e h Bye f in absurd (elim either [
          | inl q ↦ q (subst (IsLive past) k.0 lives)
          | inr q ↦ bye k.1 (taken_m past m s e h q.0 Bye q.1).1
        ]));
        late = λ h n is to live other not_hello not_down.
            (let k = was_m past m s e h n is to in says h Restarted k.0 body);
        restarted_only = λ h q. (let k = its h Restarted q in
            subst (λ (z : HostId). IsLive past z × HearsOfRestart past s z) (sym host ∙ k.0) (lives, why s e));
        gone = λ h n g t here. absurd (no_give s e h n g t);
        gone_only = λ h n q. absurd (let k = sym body ∙ (its h _ q).1 in cc);
        claim_again = λ h n c t r. absurd (no_claim s e h n c t);
        bye_only = λ h q. absurd (let k = sym body ∙ (its h _ q).1 in cc);
        reclaimed_only = λ h a q. absurd (let k = sym body ∙ (its h _ q).1 in cc);
        repeats = λ h n c d t here f k last done. absurd (no_ask s e h n (Changes c) t);
        dones_only = λ h d q. absurd (let k = sym body ∙ (its h _ q).1 in cc);
        no_grant = λ h g q. let k = sym body ∙ (its h _ q).1 in cc;
        no_revoke = λ h r q. let k = sym body ∙ (its h _ q).1 in cc;
      }

      -- that a host which says Hello may go on
      pub says_welcome : w.body ≡ Reclaimed empty_reclaimed → m.body ≡ Hello → (HasGoneDown past m.host → ⊥)
          → ((IsLive past m.host → ⊥) ⊎ ListedNow past m.host)
          → (s : Step) → s.cause ≡ Came m → SaysAtOnce server past s (w ∷ [])
      says_welcome body hello up either s e = record {
        hello_old = λ h f live old. (let k = heard_m past m s e h Hello f in
            absurd (elim either [
              | inl q ↦ q (subst (IsLive past) (sym k.0) live)
              | inr q ↦ old (subst (ListedNow past) k.0 q)
            ]));
        hello = λ h f o other. (let k = heard_m past m s e h Hello f in says h (Reclaimed empty_reclaimed) k.0 body);
        bye = λ h f o either. absurd (let k = sym hello ∙ (heard_m past m s e h Bye f).1 in cc);
        late = λ h n is to live other not_hello not_down.
            absurd (not_hello (sym (was_m past m s e h n is to).2 ∙ hello));
        restarted_only = λ h q. absurd (let k = sym body ∙ (its h _ q).1 in cc);
        gone = λ h n g t here. absurd (no_give s e h n g t);
        gone_only = λ h n q. absurd (let k = sym body ∙ (its h _ q).1 in cc);
        claim_again = λ h n c t r. absurd (no_claim s e h n c t);
        bye_only = λ h q. absurd (let k = sym body ∙ (its h _ q).1 in cc);
        reclaimed_only = λ h a q. inl (subst (λ (z : HostId). HeardNow s z Hello × (HasGoneDown past z → ⊥)
            × ((IsLive past z → ⊥) ⊎ ListedNow past z)) (sym host ∙ (its h _ q).0)
            ((m, e, refl, hello), up, either));
        repeats = λ h n c d t here f k last done. absurd (no_ask s e h n (Changes c) t);
        dones_only = λ h d q. absurd (let k = sym body ∙ (its h _ q).1 in cc);
        no_grant = λ h g q. let k = sym body ∙ (its h _ q).1 in cc;
        no_revoke = λ h r q. let k = sym body ∙ (its h _ q).1 in cc;
      }

      -- Bye
      pub says_bye : w.body ≡ Bye → m.body ≡ Bye → (HasGoneDown past m.host → ⊥)
          → (IsLive past m.host → m.epoch ≡ epoch past)
          → (s : Step) → s.cause ≡ Came m → SaysAtOnce server past s (w ∷ [])
      says_bye body bye up now s e = record {
        hello_old = λ h f live old. absurd (let k = sym bye ∙ (heard_m past m s e h Hello f).1 in cc);
        hello = λ h f o either. absurd (let k = sym bye ∙ (heard_m past m s e h Hello f).1 in cc);
        bye = λ h f o either. (let k = heard_m past m s e h Bye f in says h Bye k.0 body);
        late = λ h n is to live other not_hello not_down. (let k = was_m past m s e h n is to in
            absurd (other (sym k.1 ∙ now (subst (IsLive past) (sym k.0) live))));
        restarted_only = λ h q. absurd (let k = sym body ∙ (its h _ q).1 in cc);
        gone = λ h n g t here. absurd (no_give s e h n g t);
        gone_only = λ h n q. absurd (let k = sym body ∙ (its h _ q).1 in cc);
        claim_again = λ h n c t r. absurd (no_claim s e h n c t);
        bye_only = λ h q. subst (λ (z : HostId). HeardNow s z Bye × (HasGoneDown past z → ⊥)
            × (IsLive past z → (n : ℕ) × TakenNow past s z n Bye)) (sym host ∙ (its h _ q).0)
            ((m, e, refl, bye), up, λ l. (m.moves, ((m, e, refl, now l, refl, bye), l)));
        reclaimed_only = λ h a q. absurd (let k = sym body ∙ (its h _ q).1 in cc);
        repeats = λ h n c d t here f k last done. absurd (no_ask s e h n (Changes c) t);
        dones_only = λ h d q. absurd (let k = sym body ∙ (its h _ q).1 in cc);
        no_grant = λ h g q. let k = sym body ∙ (its h _ q).1 in cc;
        no_revoke = λ h r q. let k = sym body ∙ (its h _ q).1 in cc;
      }

    -- # What its cause owes

    -- nothing is applied
    pub caused : (sent : List Message) → ((s : Step) → s.cause ≡ Came m → SaysAtOnce server past s sent)
        → (m.body ≡ Down → HasGoneDown past m.host)
        → ((h : HostId) (n : ℕ) (c : ReclaimOf) → TookNow (begun server tree past m) h n (Reclaim c)
        → (HasReclaimed past h → ⊥) → HasReclaimed (begun server tree past m) h → ⊥)
        → AreCaused server tree past m [] sent
    caused sent at_once gone never = record {
      given = λ s e h g f. absurd (no_give s e h f.0.0 g f.0.1);
      down = λ s e h f. (let k = heard_m past m s e h Down f.0 in
          absurd (f.1 (subst (HasGoneDown past) k.0 (gone k.1))));
      else_none = λ s e a b. refl;
      at_once = at_once;
      never = never;
    }

    -- the host is down
    pub caused_down : m.body ≡ Down → (HasGoneDown past m.host → ⊥)
        → ((s : Step) → s.cause ≡ Came m → SaysAtOnce server past s [])
        → ((h : HostId) (n : ℕ) (c : ReclaimOf) → TookNow (begun server tree past m) h n (Reclaim c)
        → (HasReclaimed past h → ⊥) → HasReclaimed (begun server tree past m) h → ⊥)
        → AreCaused server tree past m (GoesDown m.host ∷ []) []
    caused_down is up at_once never = record {
      given = λ s e h g f. absurd (no_give s e h f.0.0 g f.0.1);
      down = λ s e h f. ap (λ (z : HostId). GoesDown z ∷ []) (heard_m past m s e h Down f.0).0;
      else_none = λ s e a b. absurd (b m.host ((m, e, refl, is), up));
      at_once = at_once;
      never = never;
    }
