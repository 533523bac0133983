-- A server starts: its tables stand for nothing done, and it is settled.
use Rattle.std.proofs.Common.{◌≡◌, ℕ, is_some, List, [], true, inl, inr, sym, ◌∙◌, ap, refl}
use Rattle.std.proofs.lemmas.Bool.{false≢true}
use Rattle.std.specs.FinMap as maps
use Rattle.base_types.specs.declared.ids.HostId.{HostId}
use Rattle.base_types.specs.declared.ids.ServerId.{ServerId}
use Rattle.tree_calls.specs.declared.roster.Roster.{Roster}
use Rattle.message_types.specs.declared.message.Body.{Body}
use Rattle.message_types.specs.declared.message.Body.TheVariants.{Hello, Down, Reclaim}
use Rattle.token_manager.specs.Grants.{no_grants}
use Rattle.token_table.specs.Marks.{key_cmp, key_of, note_at}
use Rattle.token_types.specs.declared.token.Token.{Token}
use Rattle.token_types.specs.declared.token.TokenId.{TokenId}
use Rattle.run_rules.specs.Doings.{Doing, Granted, HasGoneAway, HasReclaimed, Hears, Issued, Listed}
use Rattle.run_rules.specs.Doings.{StayStamp, TookNow, doings_of}
use Rattle.run_rules.specs.Doings.Doing.{BeginsEpoch}
use Rattle.run_rules.specs.ServerMay.{HasRevoked}
use Rattle.run_rules.specs.Wants.{IsQueued}
use Rattle.run_rules.specs.declared.applied.Wanted.{Wanted}
use Rattle.server_tables.specs.Standing.{AnsweredStand, IsSettled, Stands}
use Rattle.server_tables.specs.Starts.{starting}

module _ (server : ServerId) (e : ℕ) (roster : Roster) where
  abbrev past : List Doing
  past = doings_of e server []

  hears : (h : HostId) (b : Body) → Hears (BeginsEpoch e) h b → ⊥
  hears h b p = let q = p.2 in cc

  listed : (h : HostId) → Listed past h → ⊥
  listed h (inl p) = hears h Hello p.0
  listed h (inr p) = p

  away : (h : HostId) → HasGoneAway past h → ⊥
  away h (inl p) = elim p [ inl q ↦ hears h Down q | inr q ↦ (let r = q.0.1 in cc) ]
  away h (inr p) = p

  issued : (t : Token) (k : StayStamp) → Issued past t k → ⊥
  issued t k (inl p) = elim p.3 [ inl q ↦ (let r = q.1 in cc) | inr q ↦ (let r = q.1 in cc) ]
  issued t k (inr p) = p

  granted : (t : Token) → Granted server past t → ⊥
  granted t (inl (inl p)) = elim p.1.3 [ inl q ↦ (let r = q.1 in cc) | inr q ↦ (let r = q.1 in cc) ]
  granted t (inl (inr p)) = let q = p.1 in cc
  granted t (inr p) = p.0

  waits : (w : Wanted) → IsQueued past w → ⊥
  waits w (inl p) = cc
  waits w (inr p) = p.0

  reclaimed : (h : HostId) → HasReclaimed past h → ⊥
  reclaimed h (inl p) = elim p [ inl q ↦ (let r = q.1 in cc) | inr q ↦ listed h q.0 ]
  reclaimed h (inr p) = p.0

  took : (h : HostId) (n : ℕ) (b : Body) → TookNow past h n b → ⊥
  took h n b (inl p) = let q = p.0 in cc
  took h n b (inr p) = p.0

  revoked : (t : Token) → HasRevoked past t → ⊥
  revoked t (inl p) = let q = p.3 in cc
  revoked t (inr p) = p.0

  none_noted : (i : TokenId) → is_some (note_at (no_grants server e).notes i) ≡ true → ⊥
  none_noted i p = false≢true (sym (ap is_some (maps.get-empty key_cmp (key_of i))) ∙ p)

  pub stands_first : Stands past (starting server e roster)
  stands_first = record {
    slots = λ f. refl;
    hosts = record {
      epoch_is = refl;
      sent_up_to = λ h f n b w. absurd (elim w [ inl p ↦ cc | inr p ↦ p ]);
      listed = λ h m. elim m [ ];
      listed_all = λ h w. absurd (listed h w);
      down = λ h m. elim m [ ];
      down_all = λ h w. absurd (elim w [ inl p ↦ hears h Down p | inr p ↦ p ]);
      away = λ h m. elim m [ ];
      away_all = λ h w. absurd (away h w);
      now = λ h m. elim m [ ];
      now_all = λ h w. absurd (elim w [ inl p ↦ listed h p.0 | inr p ↦ p.0 ]);
      reclaimed = λ h m. elim m [ ];
      reclaimed_all = λ h w. absurd (reclaimed h w);
    };
    tokens = record {
      server_is = refl;
      epoch_is = refl;
      granted = λ t m. elim m [ ];
      granted_all = λ t g. absurd (granted t g);
      pinned = λ t m. elim m [ ];
      pinned_all = λ t p. absurd (granted t p.1);
      here = λ t g. absurd (granted t g);
      live = λ t g. absurd (granted t g);
      known = λ t m. elim m [ ];
      issued = λ t k i. absurd (issued t k i);
      issued_up_to = λ t k i. absurd (issued t k i);
      noted = λ i p. absurd (none_noted i p);
      old = λ t m. elim m [ ];
      none_reserved = λ t r. elim r [ inl p ↦ (let q = p.1 in cc) | inr p ↦ p.0 ];
      one = λ t u k i e g q. absurd (issued t k i);
    };
    stamps = record {
      told = λ f z t. absurd (elim t [
        | inl p ↦ elim p [
          | inl q ↦ elim q.4 [
            | inl r ↦ (let u = r.1 in cc)
            | inr r ↦
                (let u = r.1 in cc)
          ]
          | inr q ↦ (let u = q.4 in cc)
        ]
        | inr p ↦ p.0
      ]);
      revoked = λ t m. elim m [ ];
      revoked_all = λ t m. elim m [ ];
      revoked_old = λ t w. absurd (revoked t w);
      revoked_live = λ t w. absurd (revoked t w);
    };
    wants = record {
      pending = λ p m. elim m [ ];
      pending_all = λ w u. absurd (waits w u);
      order = λ p q m. elim m [ ];
      order_all = λ p q m. elim m [ ];
      live = λ w u. absurd (waits w u);
      took = λ w u. absurd (waits w u);
      here = λ w u. absurd (waits w u);
      once = λ w v u. absurd (waits w u);
      few = λ p m. elim m [ ];
      below = λ p m. elim m [ ];
    };
    queue = record { calm = λ g. refl; grace = λ g. refl };
    gives = record {
      applied = λ g m. elim m [ ];
      applied_all = λ h n w. absurd (elim w [
        | inl p ↦
            (let q = p.1.2.0 in cc)
        | inr p ↦ p
      ]);
    };
    changes = record {
      last = λ l m. elim m [ ];
      last_all = λ h f n d t. absurd (elim t [ inl p ↦ cc | inr p ↦ p ]);
      answered = λ w t. absurd (elim t [ inl p ↦ cc | inr p ↦ p ]);
      fresh = λ w c u. absurd (waits w u);
      above = λ w c f n d u. absurd (waits w u);
    };
    recovery = record {
      claim = λ h n c t. absurd (took h n (Reclaim c) t);
      claimed = λ l m. elim m [ ];
      taken = λ h g t. absurd (elim t [ inl p ↦ (let q = p.2.0 in cc) | inr p ↦ p.0 ]);
      taken_only = λ l m. elim m [ ];
      given_up = λ h i t. absurd (elim t [
        | inl p ↦ elim p [
          | inl q ↦ (let r = q.1.2.0 in cc)
          | inr q ↦
              (let r = q.1.2.0 in cc)
        ]
        | inr p ↦ p.0
      ]);
      given_up_only = λ l m. elim m [ ];
    };
  }

  pub answered_first : AnsweredStand past []
  answered_first = record { answers_all = λ h r. absurd (reclaimed h r); answered = λ l m. elim m [ ] }

  pub settled_first : IsSettled server past
  settled_first = record {
    rested = λ w u. absurd (waits w u);
    asked = λ t b. absurd (waits b.w b.waits);
    claims = λ h n c t. absurd (took h n (Reclaim c) t);
  }
