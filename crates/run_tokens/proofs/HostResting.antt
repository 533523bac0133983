-- A host at rest meets all its rules in a lapse in which it does nothing.
use Rattle.run_rules.specs.HostAsks.{HostAsks}
use Rattle.run_rules.specs.HostDue.{CallsDue, HostDue, LeavesDue, RepeatsDue}
use Rattle.run_rules.specs.HostMay.{ClaimsAt, HostAnswers, HostEnds, HostLines, HostMay, HostResends, LearnsRestart}
use Rattle.run_rules.specs.HostTokens.{HostGives, HostLeaves, HostRevoked, HostTakes, HostTokens}
use Rattle.run_rules.specs.Messages.{Asking, Changing, ComesIn, Sends}
use Rattle.run_rules.specs.Steps.{bare, limit_of, lines_of, servers_of}
use Rattle.run_rules.specs.Tokens.{BeginsCall, CauseEnds, HasCall, IsOpen, Learns, Made, Owns, Uses, WaitsBehind}
use Rattle.std.proofs.Common.{List, arith, inl, inr, refl, ℕ, ◌∷◌}
use Rattle.base_types.specs.declared.ids.FilesetId.{FilesetId}
use Rattle.base_types.specs.declared.ids.HostId.{HostId}
use Rattle.base_types.specs.declared.ids.ServerId.{ServerId}
use Rattle.tree_calls.specs.declared.call.Call.{Call}
use Rattle.tree_calls.specs.declared.roster.Roster.{Roster}
use Rattle.script_lines.specs.declared.script.Script.{Script}
use Rattle.message_types.specs.declared.giving.AppliedGive.{AppliedGive}
use Rattle.token_types.specs.declared.token.Token.{Token}
use Rattle.tree_laws.specs.Parts.{settled}
use Rattle.run_rules.specs.declared.step.Step.{Step}
use Rattle.script_lines.specs.declared.script.Line.{Line as ScriptLine}
use Rattle.run_tokens.specs.HostRest.{IsAtRest, HostMayRest}
use Rattle.run_rules.specs.declared.step.Cause.TheVariants.{Lapse}
use Rattle.message_types.specs.declared.message.Body.{Body}
use Rattle.message_types.specs.declared.telling.Bring.{Bring}
use Rattle.message_types.specs.declared.giving.Give.{Give}
use Rattle.run_rules.specs.declared.step.Asked.{Asked}
use Rattle.base_types.specs.declared.ids.Node.TheVariants.{Host}

module _ (roster : Roster) (host : HostId) (past : List Step) (rest : IsAtRest roster host past) where
  abbrev s : Step
  s = bare (Host host) Lapse

  none_comes : (v : ServerId) (e n : ℕ) (b : Body) → ComesIn s v e n b → ⊥
  none_comes v e n b c = let p = c.1 in cc

  none_sent : (v : ServerId) (e n : ℕ) (b : Body) → Sends s v e n b → ⊥
  none_sent v e n b p = elim p.1 [ ]

  none_used : (w : Bring) → Uses past s w → ⊥
  none_used w u = elim u.0 [ inl g ↦ none_comes _ _ _ _ g.1 | inr d ↦ none_comes _ _ _ _ d.1 ]

  none_learnt : (n : AppliedGive) → Learns past s n → ⊥
  none_learnt n (made, inl c) = none_comes _ _ _ _ c
  none_learnt n (made, inr (v, r, c, m)) = none_comes _ _ _ _ c

  not_ended : (c : Asked) → CauseEnds past s c → ⊥
  not_ended c (inl (v, d, r, (settled, q), e)) = elim settled [ inl x ↦ none_comes _ _ _ _ x.1 | inr x ↦ none_comes _ _ _ _ x ]
  not_ended c (inr e) = none_learnt _ e.5

  none_open : (c : Asked) → IsOpen (s ∷ past) c → ⊥
  none_open c (inl e) = cc
  none_open c (inr o) = rest.none_open c o.0

  none_begins : (k : ℕ) (call : Call) → BeginsCall s k call → ⊥
  none_begins k call (inl e) = cc
  none_begins k call (inr b) = elim b.1 [ ]

  none_turn : (k : ℕ) (call : Call) → HasCall past s k call → ⊥
  none_turn k call (inl b) = none_begins k call b
  none_turn k call (inr g) = rest.none_open _ g.0

  none_asking : (fs : FilesetId) (n : ℕ) → Asking (s ∷ past) fs n → ⊥
  none_asking fs n a = elim a.0 [ inl f ↦ none_sent _ _ _ _ f.1.3 | inr p ↦ rest.none_fetched fs n p ]

  none_changing : (v : ServerId) (fs : FilesetId) (n : ℕ) → Changing (s ∷ past) v fs n → ⊥
  none_changing v fs n a = elim a.0 [ inl c ↦ none_sent _ _ _ _ c.1.3 | inr p ↦ rest.none_changed v fs n p ]

  owns : (t : Token) → Owns past t → Owns (s ∷ past) t
  owns t o = (inr o, λ l. elim l [ inl m ↦ elim m.1 [ ] | inr r ↦ none_sent _ _ _ _ r.4 ])

  answers : HostAnswers roster host past s rest.stance
  answers = record {
    answers = λ a m. elim m [ ];
    answers_all = λ k call reply t. absurd (none_turn k call t);
    first = λ a m. elim m [ ];
    asked = λ a c m. elim m [ ];
    answers_one = omega arith;
    answers_alone = λ a fs n m. elim m [ ];
    answers_settled = λ a v fs n m. elim m [ ];
    keeps = λ a m. elim m [ ];
    quiet = λ a m. elim m [ ];
    writes = λ a fid from bytes m. elim m [ ];
    writes_only = λ fid e. absurd (cc);
    locks = λ a fid writing span m. elim m [ ];
    opens = λ a fid kind m. elim m [ ];
    begins = λ u m. elim m [ ];
    begins_one = λ u w m. elim m [ ];
  }

  calls : CallsDue roster host past s rest.stance
  calls = record {
    syncs = λ k place fid t turn. absurd (none_turn k _ turn);
    frees = λ k u turn. absurd (none_turn k _ turn);
    greets = λ v e n p. absurd (none_sent _ _ _ _ p);
  }

  asks : HostAsks roster host past s rest.stance
  asks = record {
    fetches = λ f p. absurd (none_sent _ _ _ _ p.3);
    changes = λ v e n c p. absurd (none_sent _ _ _ _ p);
    one_fetch = λ fs gs n m a. absurd (none_asking fs n a);
    one_change = λ v w fs gs n m a. absurd (none_changing v fs n a);
    one_of_both = λ v fs gs n m a. absurd (none_asking fs n a);
    fetches_welcome = λ v e n f p. absurd (none_sent _ _ _ _ p);
    changes_welcome = λ v e n c p. absurd (none_sent _ _ _ _ p);
    asks = λ c o. absurd (none_open c o);
  }

  gives : HostGives past s
  gives = record {
    names = λ g m. elim m [ ];
    rise = λ g m. elim m [ ];
    one_a_file = λ g k m. elim m [ ];
    next = λ g m. elim m [ ];
    bytes = λ g at x m. elim m [ ];
    bytes_saved = λ fid at d o. inl (o.0, owns o.0 o.1, o.2);
    length = λ g n m. elim m [ ];
    length_too = λ g m. elim m [ ];
    length_saved = λ t o d. inl (owns t o);
    ends = λ g e m. elim m [ ];
    ends_used = λ g u m. elim m [ ];
    sends = λ g o new. absurd (new (record { made = before g o.made; unknown = λ k. o.unknown (inr k); first = λ w. o.first (waits g w) }));
  }
    where
      before : (g : Give) → Made (s ∷ past) g → Made past g
      before g (inl m) = elim m [ ]
      before g (inr m) = m

      waits : (g : Give) → WaitsBehind past g → WaitsBehind (s ∷ past) g
      waits g (first, made, same, less, unknown) =
          (first, inr made, same, less, λ k. elim k [ inl l ↦ none_learnt _ l | inr p ↦ unknown p ])

  revoked : HostRevoked past s
  revoked = record {
    keeps = λ i k. absurd (none_sent _ _ _ _ k.4);
    returns_idle = λ i r. absurd (none_sent _ _ _ _ r.4);
  }

  no_restart : (v : ServerId) → LearnsRestart past s v → ⊥
  no_restart v r = none_comes _ _ _ _ r.2.2

  no_claim : (v : ServerId) → ClaimsAt s v → ⊥
  no_claim v c = none_sent _ _ _ _ c.3

  resends : HostResends past s
  resends = record { claims_only = λ v c. absurd (no_claim v c) }

  repeats : RepeatsDue past s
  repeats = record {
    lapse_all = λ v n b c o. absurd (rest.none_outstanding v n b o);
    lapse_claims = λ v c o. absurd (rest.none_claimed v o);
    lapse_only = λ v e n b c p. absurd (none_sent _ _ _ _ p);
    lapse_quiet = λ c. (refl, refl, refl, refl, refl);
    restarted_gives = λ v n g r. absurd (no_restart v r);
    restarted_claims = λ v r. absurd (no_restart v r);
    reclaimed_all = λ v n r b c. absurd (none_comes _ _ _ _ c);
    again_only = λ v e n b p. absurd (none_sent _ _ _ _ p);
    bye_again = λ v b. absurd (none_sent _ _ _ _ b.2);
    gives_only = λ v e n g p. absurd (none_sent _ _ _ _ p);
  }

  leaves : (limit : ℕ) → HostLeaves roster host limit past s
  leaves limit = record { leaves = λ l m. elim m [ ] }

  leaves_due : (limit : ℕ) → LeavesDue limit past s
  leaves_due limit = record {
    held = λ l m. elim m [ ];
    evicts = λ c. absurd (cc);
    ends = λ c. absurd (cc);
    ends_all = λ l c m w. absurd (cc);
  }

  lines_meet : (lines : List ScriptLine) (servers : List ServerId) (limit : ℕ) → HostLines lines servers limit past s
  lines_meet lines servers limit = record {
    next = λ n c. absurd (cc);
    free = λ n c. absurd (cc);
    begins = λ k call b. absurd (none_begins k call b);
    stops = λ d. absurd (none_sent _ _ _ _ d.3);
    no_server = (λ n c. cc, λ c. cc);
    applies_none = (refl, refl, refl);
  }

  ends : (lines : List ScriptLine) (limit : ℕ) → HostEnds lines limit past s
  ends lines limit = record {
    after = λ c. absurd (cc);
    implied = λ k call c. absurd (cc);
    bye = λ v b. absurd (none_sent _ _ _ _ b.2);
  }

  tokens : HostTokens past s
  tokens = record {
    live = rest.live;
    stops_alone = λ v e n b d p. absurd (none_sent _ _ _ _ p);
    epochs = λ v e n b p. absurd (none_sent _ _ _ _ p);
    takes = λ t m. elim m [ ];
    drops = λ t h l. absurd (elim l [ inl m ↦ elim m.1 [ ] | inr r ↦ none_sent _ _ _ _ r.4 ]);
    drops_only = λ t d. elim d.1 [ ];
    returns = λ i r. absurd (none_sent _ _ _ _ r.4);
    returns_free = λ i g r. absurd (none_sent _ _ _ _ r.4);
    answers = λ w v e n p. absurd (elim p [ inl q ↦ none_sent _ _ _ _ q | inr q ↦ none_sent _ _ _ _ q ]);
    answers_file = λ w v e n t p. absurd (elim p [ inl q ↦ none_sent _ _ _ _ q | inr q ↦ none_sent _ _ _ _ q ]);
    makes = λ g i m. elim m [ ];
    makes_once = λ g k i m. elim m [ ];
    makes_from = λ g m. elim m [ ];
    makes_apart = λ g k m. elim m [ ];
    makes_new = λ g k m. elim m [ ];
    gives = λ g v e n p. absurd (none_sent _ _ _ _ p);
    gives_first = λ g k v e n p. absurd (none_sent _ _ _ _ p);
    fetches = λ f v e n p. absurd (none_sent _ _ _ _ p);
    changes = λ c v e n p. absurd (none_sent _ _ _ _ p);
    claims = λ v e n c p. absurd (none_sent _ _ _ _ p);
    bye_held = λ v e n t p. absurd (none_sent _ _ _ _ p);
    bye_gives = λ v e n g p. absurd (none_sent _ _ _ _ p);
    bye_asking = λ v e n fs k p. absurd (none_sent _ _ _ _ p);
    bye_changing = λ v w e n fs k p. absurd (none_sent _ _ _ _ p);
  }

  takes : HostTakes past s
  takes = record { all = λ w t u. absurd (none_used w u); once = λ t u m. elim m [ ] }

may_step : (script : Script) (host : HostId) (past : List Step) → IsAtRest script.roster host past
    → HostMay script host past (bare (Host host) Lapse)
may_step script host past rest = record {
  tokens = tokens script.roster host past rest;
  takes = takes script.roster host past rest;
  stance = rest.stance;
  answers = answers script.roster host past rest;
  asks = asks script.roster host past rest;
  gives = gives script.roster host past rest;
  revoked = revoked script.roster host past rest;
  resends = resends script.roster host past rest;
  leaves = leaves script.roster host past rest (limit_of script.roster host);
  lines = lines_meet script.roster host past rest (lines_of script (Host host)) (servers_of script.roster) (limit_of script.roster host);
  ends = ends script.roster host past rest (lines_of script (Host host)) (limit_of script.roster host);
}

due_step : (script : Script) (host : HostId) (past : List Step) → IsAtRest script.roster host past
    → HostDue script host past (bare (Host host) Lapse)
due_step script host past rest = record {
  stance = rest.stance;
  calls = calls script.roster host past rest;
  revokes = λ r i c. absurd (none_comes script.roster host past rest _ _ _ _ c);
  repeats = repeats script.roster host past rest;
  leaves = leaves_due script.roster host past rest (limit_of script.roster host);
  once = tt;
  once_taken = tt;
  once_dropped = tt;
  once_made = tt;
}

pub may_rest : HostMayRest
may_rest script host past rest = (may_step script host past rest, due_step script host past rest)
