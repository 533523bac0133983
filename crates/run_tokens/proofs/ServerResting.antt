-- A settled server meets all its rules in a lapse in which it does nothing.
use Rattle.run_rules.specs.Doings.{Doing, HeardNow, SentNow, TakenNow}
use Rattle.run_rules.specs.Doings.Doing.{Reserves}
use Rattle.run_rules.specs.Kept.{filesets_kept}
use Rattle.run_rules.specs.Past.{In}
use Rattle.run_rules.specs.ServerDecides.{ServerApplies}
use Rattle.run_rules.specs.ServerDue.{HasDecided, HasSent, ServerAnswers, ServerLines}
use Rattle.run_rules.specs.ServerMay.{NoHostStep, OnlyAnswers}
use Rattle.run_rules.specs.ServerTokens.{ServerStep}
use Rattle.run_rules.specs.Steps.{bare, lines_of}
use Rattle.run_rules.specs.Wants.{body_of}
use Rattle.std.proofs.Common.{List, [], inl, inr, refl, subst, sym, ℕ, ◌∷◌, ◌≡◌}
use Rattle.base_types.specs.declared.ids.HostId.{HostId}
use Rattle.base_types.specs.declared.ids.ServerId.{ServerId}
use Rattle.tree_answers.specs.declared.tree.Tree.{Tree}
use Rattle.token_types.specs.declared.token.Token.{Token}
use Rattle.run_rules.specs.declared.step.Step.{Step}
use Rattle.script_lines.specs.declared.script.Line.{Line as ScriptLine}
use Rattle.run_tokens.specs.ServerRest.{IsSettled, ServerMayRest}
use Rattle.run_rules.specs.declared.step.Cause.TheVariants.{Lapse}
use Rattle.message_types.specs.declared.message.Body.TheVariants.{Hello, Change, Done, Revoke, GiveBack, Gone, Reclaim, Reclaimed, Restarted, Down, Bye}
use Rattle.message_types.specs.declared.message.Body.{Body}
use Rattle.base_types.specs.declared.ids.Node.TheVariants.{Server}
use Rattle.run_tokens.proofs.Still.{can_grant, owed, ready, waited, asked_back}

module _ (server : ServerId) (tree : Tree) (past : List Doing) (settled : IsSettled server tree past) where
  abbrev s : Step
  s = bare (Server server) Lapse

  none_heard : (h : HostId) (b : Body) → HeardNow s h b → ⊥
  none_heard h b x = let p = x.1 in cc

  none_taken : (h : HostId) (n : ℕ) (b : Body) → TakenNow past s h n b → ⊥
  none_taken h n b x = let p = x.0.1 in cc

  none_now : (h : HostId) (b : Body) → SentNow s h b → ⊥
  none_now h b x = elim x.1 [ ]

  answers : ServerAnswers server past s
  answers = record {
    hello_old = λ h x. absurd (none_heard h Hello x);
    hello = λ h x. absurd (none_heard h Hello x);
    bye = λ h x. absurd (none_heard h Bye x);
    late = λ h m c. absurd (cc);
    restarted = λ line h c. absurd (cc);
    restarted_again = λ h c live not. absurd (not (settled.over h live));
    restarted_only = λ h x. absurd (none_now h Restarted x);
    gone = λ h n g x. absurd (none_taken h n (GiveBack g) x);
    gone_only = λ h n x. absurd (none_now h (Gone n) x);
    claim_now = λ h n claim took not live. absurd (not (settled.over h live));
    claim_again = λ h n claim x. absurd (none_taken h n (Reclaim claim) x);
  }

  only : OnlyAnswers past s
  only = record {
    bye_only = λ h x. absurd (none_now h Bye x);
    reclaimed_only = λ h answer x. absurd (none_now h (Reclaimed answer) x);
  }

  applies : ServerApplies server tree past s
  applies = record {
    given = λ h g x. absurd (none_taken h x.0.0 (GiveBack g) x.0.1);
    down = λ h x. absurd (none_heard h Down x.0);
    else_none = λ a b. refl;
    decided = refl;
    reserves = λ t m. elim m [ ];
  }

  decided : HasDecided server tree past past s
  decided = record {
    news = λ h n r x. absurd (none_taken h n (body_of r) x.taken);
    refused = λ w c refusal waits is so x. elim x [
      | inl r ↦ settled.changes w c waits is r
      | inr y ↦ none_taken w.host w.moves (body_of w.request) y.1.taken
    ];
    effects = λ w c waits is effect not r. settled.changes w c waits is r;
    pinned = λ w c waits is row not r. settled.changes w c waits is (inr r);
  }

  abbrev after : List Doing
  after = Reserves [] ∷ past

  sent : HasSent server tree past after s
  sent = record {
    once = tt;
    revokes_once = λ h r q i x. absurd (none_now h (Revoke r) x);
    dones_only = λ h d x. absurd (none_now h (Done d) x);
    written = λ w m. elim m [ ];
    repeats = λ h n c d x. absurd (none_taken h n (Change c) x);
    grants = λ w f waits is c. settled.fetches w f (waited server past w waits) is (can_grant server past w c);
    uses = λ w c waits is uses not r. settled.changes w c (waited server past w waits) is (inl (can_grant server past w r));
    others = λ w c waits is uses not row r. settled.changes w c (waited server past w waits) is (ready server past w r);
    enters = λ w c waits is enter not r. settled.changes w c (waited server past w waits) is (inl (can_grant server past w r));
    revokes = λ t k. absurd (settled.none_asked_back t (asked_back server past t k));
    revokes_again = λ t c k. absurd (settled.none_owed t (owed server past t k));
  }

  tokens : ServerStep server past s
  tokens = record {
    writes = tt;
    admits = tt;
    sends = tt;
    reserves = record {
      epochs = λ h e n b x. absurd (cc);
      grants = λ h e n w x. absurd (cc);
      dones = λ h e n w x. absurd (cc);
      revokes = λ h e n r i x. absurd (cc);
      revokes_here = λ h e n r x. absurd (cc);
      stamps = λ h e n x r is. absurd (cc);
      gones = λ h e n g x. absurd (cc);
      reclaimed = λ h e n r g x. absurd (cc);
      left_out = λ h e n r i x. absurd (cc);
      admits = λ h tokens x. absurd (cc);
      writes = λ w x. absurd (cc);
      writes_once = λ w x. absurd (cc);
      reserves = λ tokens t u is m. absurd (filesets_kept tokens t is m);
    };
  }
    where
      filesets_kept : (tokens : List Token) (t : Token) → Reserves [] ≡ Reserves tokens → In t tokens → ⊥
      filesets_kept tokens t is m = let p : [] ≡ tokens = cc in elim (subst (In t) (sym p) m) [ ]

  no_host : NoHostStep s
  no_host = record { causes = (λ c. cc, λ c. cc); does_none = (refl, refl, refl, refl, refl, refl, refl) }

  lines_meet : (lines : List ScriptLine) (steps : List Step) → ServerLines lines steps s
  lines_meet lines steps = record { bare = λ n c. absurd (cc); restarts = λ n c. absurd (cc) }

pub may_rest : ServerMayRest
may_rest script start server steps past settled = record {
  may = record {
    tokens = tokens server (filesets_kept start server steps) past settled;
    no_host = no_host server (filesets_kept start server steps) past settled;
    answers = only server (filesets_kept start server steps) past settled;
    works = record {
      applies = applies server (filesets_kept start server steps) past settled;
      decides = tt;
      sends = tt;
    };
  };
  due = record {
    lines = lines_meet server (filesets_kept start server steps) past settled (lines_of script (Server server)) steps;
    answers = answers server (filesets_kept start server steps) past settled;
    decided = decided server (filesets_kept start server steps) past settled;
    sent = sent server (filesets_kept start server steps) past settled;
  };
}
