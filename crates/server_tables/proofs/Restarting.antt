-- A server restarts.
use Rattle.std.proofs.Common.{◌≡◌, ℕ, suc, is_some, List, ◌∷◌, true, inl, inr, sym, ◌∙◌, ap, refl, arith}
use Rattle.std.proofs.lemmas.Bool.{false≢true}
use Rattle.std.specs.FinMap as maps
use Rattle.base_types.specs.declared.ids.HostId.{HostId}
use Rattle.message_types.specs.declared.message.Body.{Body}
use Rattle.message_types.specs.declared.message.Body.TheVariants.{Hello, Done, Reclaim, Down}
use Rattle.token_manager.specs.Grants.{no_grants}
use Rattle.token_table.specs.Marks.{key_cmp, key_of, note_at}
use Rattle.token_types.specs.declared.token.Token.{Token}
use Rattle.token_types.specs.declared.token.TokenId.{TokenId}
use Rattle.run_rules.specs.Doings.{Doing, GoesAway, Granted, HasReclaimed}
use Rattle.run_rules.specs.Doings.{Hears, Listed}
use Rattle.run_rules.specs.Doings.{SentTo, TookNow, epoch}
use Rattle.run_rules.specs.Doings.Doing.{BeginsEpoch}
use Rattle.run_rules.specs.ServerMay.{HasRevoked}
use Rattle.run_rules.specs.Wants.{IsQueued}
use Rattle.run_rules.specs.declared.applied.Wanted.{Wanted}
use Rattle.server_tables.specs.declared.tables.Tables.{Tables}
use Rattle.server_tables.specs.declared.tables.LastChange.{LastChange}
use Rattle.server_tables.specs.Restarts.{restarted}
use Rattle.server_tables.specs.Standing.{AnsweredStand, IsLastChange, IsSettled, Stands}

module _ (past : List Doing) (x : Tables) (s : Stands past x) where
  abbrev a : Doing
  a = BeginsEpoch (suc (epoch past))

  abbrev y : Tables
  y = restarted x

  epoch_is : suc x.hosts.epoch ≡ suc (epoch past)
  epoch_is = ap suc s.hosts.epoch_is

  hears : (h : HostId) (b : Body) → Hears a h b → ⊥
  hears h b p = let q = p.2 in cc

  listed : (h : HostId) → Listed (a ∷ past) h → Listed past h
  listed h (inl p) = absurd (hears h Hello p.0)
  listed h (inr p) = p

  goes : (h : HostId) → GoesAway past a h → ⊥
  goes h (inl p) = hears h Down p
  goes h (inr p) = let q = p.0.1 in cc

  -- what was so in the epoch ended
  granted : (t : Token) → Granted x.server (a ∷ past) t → ⊥
  granted t (inl (inl p)) = elim p.1.3 [ inl q ↦ (let r = q.1 in cc) | inr q ↦ (let r = q.1 in cc) ]
  granted t (inl (inr p)) = let q = p.1 in cc
  granted t (inr p) = p.1 (suc (epoch past), refl)

  waits : (w : Wanted) → IsQueued (a ∷ past) w → ⊥
  waits w (inl p) = cc
  waits w (inr p) = p.1 (inr (inr (inr (suc (epoch past), refl))))

  reclaimed : (h : HostId) → HasReclaimed (a ∷ past) h → ⊥
  reclaimed h (inl p) = elim p [ inl q ↦ (let r = q.1 in cc) | inr q ↦ q.1 (listed h q.0) ]
  reclaimed h (inr p) = p.1 (suc (epoch past), refl)

  took : (h : HostId) (n : ℕ) (b : Body) → TookNow (a ∷ past) h n b → ⊥
  took h n b (inl p) = let q = p.0 in cc
  took h n b (inr p) = p.1 (suc (epoch past), refl)

  none_noted : (i : TokenId) → is_some (note_at (no_grants x.server (suc x.hosts.epoch)).notes i) ≡ true → ⊥
  none_noted i p = false≢true (sym (ap is_some (maps.get-empty key_cmp (key_of i))) ∙ p)

  -- nothing was sent in the new epoch yet
  none_sent : (h : HostId) (n : ℕ) (b : Body) → SentTo (a ∷ past) h (suc (epoch past)) n b → ⊥
  none_sent h n b (inl p) = cc
  none_sent h n b (inr p) = let l = s.hosts.sent_up_to h (suc (epoch past)) n b p in omega (arith, l)

  last_on : (l : LastChange) → IsLastChange past l → IsLastChange (a ∷ past) l
  last_on l z = record {
    n = z.n;
    sent = inr z.sent;
    of = z.of;
    top = λ e n d w f. z.top e n d (elim w [ inl p ↦ absurd (cc) | inr p ↦ p ]) f;
    newest = λ n d w f. absurd (none_sent l.host n (Done d) w);
    wrote = λ w p. let q = z.wrote w p in (inr q.0, q.1, q.2);
    wrote_all = λ w t. z.wrote_all w (elim t [ inl p ↦ absurd (cc) | inr p ↦ p ]);
    reply = z.reply;
    brings = z.brings;
    home = z.home;
  }

  pub stands_begun : Stands (a ∷ past) y
  stands_begun = record {
    slots = s.slots;
    hosts = record {
      epoch_is = epoch_is;
      sent_up_to = λ h e n b w. elim w [
        | inl p ↦ absurd (cc)
        | inr p ↦
            (let l = s.hosts.sent_up_to h e n b p in omega (arith, l))
      ];
      listed = λ h m. inr (s.hosts.listed h m);
      listed_all = λ h w. s.hosts.listed_all h (listed h w);
      down = λ h m. inr (s.hosts.down h m);
      down_all = λ h w. elim w [ inl p ↦ absurd (hears h Down p) | inr p ↦ s.hosts.down_all h p ];
      away = λ h m. inr (s.hosts.away h m);
      away_all = λ h w. elim w [ inl p ↦ absurd (goes h p) | inr p ↦ s.hosts.away_all h p ];
      now = λ h m. elim m [ ];
      now_all = λ h w. elim w [ inl p ↦ absurd (p.1 (listed h p.0)) | inr p ↦ absurd (p.1 (suc (epoch past), refl)) ];
      reclaimed = λ h m. elim m [ ];
      reclaimed_all = λ h w. absurd (reclaimed h w);
    };
    tokens = record {
      server_is = refl;
      epoch_is = epoch_is;
      granted = λ t m. elim m [ ];
      granted_all = λ t g. absurd (granted t g);
      pinned = λ t m. elim m [ ];
      pinned_all = λ t p. absurd (granted t p.1);
      here = λ t g. absurd (granted t g);
      live = λ t g. absurd (granted t g);
      known = λ t m. elim m [ ];
      issued = λ t k i e. elim i [
        | inl p ↦ absurd (elim p.3 [
          | inl q ↦ (let r = q.1 in cc)
          | inr q ↦
              (let r = q.1 in cc)
        ])
        | inr p ↦ absurd (let l = s.tokens.issued_up_to t k p in omega (arith, l, e))
      ];
      issued_up_to = λ t k i. elim i [
        | inl p ↦ absurd (elim p.3 [
          | inl q ↦ (let r = q.1 in cc)
          | inr q ↦
              (let r = q.1 in cc)
        ])
        | inr p ↦ (let l = s.tokens.issued_up_to t k p in omega (arith, l))
      ];
      noted = λ i p. absurd (none_noted i p);
      old = λ t m. elim m [ ];
      none_reserved = λ t r. elim r [ inl p ↦ (let q = p.1 in cc) | inr p ↦ s.tokens.none_reserved t p.0 ];
      one = λ t u k i e g q. absurd (granted u g);
    };
    stamps = record {
      told = λ f z t. elim t [
        | inl p ↦ absurd (elim p [
          | inl q ↦ elim q.4 [
            | inl r ↦ (let u = r.1 in cc)
            | inr r ↦
                (let u = r.1 in cc)
          ]
          | inr q ↦ (let u = q.4 in cc)
        ])
        | inr p ↦ absurd (p.1 (suc (epoch past), refl))
      ];
      revoked = λ t m. elim m [ ];
      revoked_all = λ t m. elim m [ ];
      revoked_old = λ t w. absurd (none_revoked t w);
      revoked_live = λ t w. absurd (none_revoked t w);
    };
    wants = record {
      pending = λ p m. elim m [ ];
      pending_all = λ w u. absurd (waits w u);
      order = λ p q m. elim m [ ];
      order_all = λ p q m. elim m [ ];
      live = λ w u. absurd (waits w u);
      took = λ w u. absurd (waits w u);
      here = λ w u. absurd (waits w u);
      once = λ w v u. absurd (waits w u);
      few = λ p m. elim m [ ];
      below = λ p m. elim m [ ];
    };
    queue = record { calm = λ g. refl; grace = λ g. refl };
    gives = record {
      applied = λ g m. inr (s.gives.applied g m);
      applied_all = λ h n w. elim w [ inl p ↦ absurd (let q = p.1.2.0 in cc) | inr p ↦ s.gives.applied_all h n p ];
    };
    changes = record {
      last = λ l m. last_on l (s.changes.last l m);
      last_all = λ h e n d t. s.changes.last_all h e n d (elim t [ inl p ↦ absurd (cc) | inr p ↦ p ]);
      answered = λ w t. s.changes.answered w (elim t [ inl p ↦ absurd (cc) | inr p ↦ p ]);
      fresh = λ w c u. absurd (waits w u);
      above = λ w c e n d u. absurd (waits w u);
    };
    recovery = record {
      claim = λ h n c t. absurd (took h n (Reclaim c) t);
      claimed = λ l m. elim m [ ];
      taken = λ h g t. absurd (elim t [ inl p ↦ (let q = p.2.0 in cc) | inr p ↦ p.1 (suc (epoch past), refl) ]);
      taken_only = λ l m. elim m [ ];
      given_up = λ h i t. absurd (elim t [
        | inl p ↦ elim p [
          | inl q ↦ (let r = q.1.2.0 in cc)
          | inr q ↦
              (let r = q.1.2.0 in cc)
        ]
        | inr p ↦ p.1 (suc (epoch past), refl)
      ]);
      given_up_only = λ l m. elim m [ ];
    };
  }
    where
      none_revoked : (t : Token) → HasRevoked (a ∷ past) t → ⊥
      none_revoked t (inl p) = let q = p.3 in cc
      none_revoked t (inr p) = p.1 (suc (epoch past), refl)

  pub answered_begun : AnsweredStand (a ∷ past) y.recovering.answers
  answered_begun = record { answers_all = λ h r. absurd (reclaimed h r); answered = λ l m. elim m [ ] }

  pub settled_begun : IsSettled x.server (a ∷ past)
  settled_begun = record {
    rested = λ w u. absurd (waits w u);
    asked = λ t b. absurd (waits b.w b.waits);
    claims = λ h n c t. absurd (took h n (Reclaim c) t);
  }
