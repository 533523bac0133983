-- All rules of a step, from what each message and each token owes.
use Rattle.base_types.specs.declared.ids.HostId.{HostId}
use Rattle.base_types.specs.declared.ids.Node.TheVariants.{Host}
use Rattle.base_types.specs.declared.ids.ServerId.{ServerId}
use Rattle.host_tables.specs.Sending.{LinesMay, MayAssembled, MayReturn, MaySay, Moderate}
use Rattle.message_types.specs.declared.message.Body.{Body}
use Rattle.message_types.specs.declared.message.Body.TheVariants.{Bye, Change, Down, Fetch, GiveBack, Kept}
use Rattle.message_types.specs.declared.message.Body.TheVariants.{Reclaim, Returned}
use Rattle.run_rules.specs.HostAsks.{HostAsks}
use Rattle.run_rules.specs.HostMay.{HostEnds, HostLines, HostResends}
use Rattle.run_rules.specs.HostTokens.{HostRevoked, HostTokens}
use Rattle.run_rules.specs.Messages.{ReturnsToken, Sends, Stops, epoch_at}
use Rattle.run_rules.specs.Steps.{limit_of, lines_of, servers_of}
use Rattle.run_rules.specs.Views.{Stance}
use Rattle.run_rules.specs.declared.step.Step.{Step}
use Rattle.script_lines.specs.declared.script.Line.{Line}
use Rattle.script_lines.specs.declared.script.Script.{Script}
use Rattle.std.proofs.Common.{List, ap, inl, inr, subst, sym, ℕ, ◌∙◌, ◌∷◌, ◌≡◌}
use Rattle.token_types.specs.declared.token.TokenId.{TokenId}

module _ (script : Script) (host : HostId) (past : List Step) (s : Step) (stance : Stance script.roster host past s)
    (parts : Moderate script.roster host past s stance) where
  abbrev Say : ServerId → ℕ → Body → Type 0
  Say = MaySay script.roster host past s stance

  says : (v : ServerId) (e n : ℕ) (b : Body) → Sends s v e n b → Say v n b
  says v e n b p =
      subst (λ (x : ServerId × ℕ × Body). Say x.0 x.1 x.2) (λ i. (p.2 i, p.4 i, p.5 i)) (parts.sends p.0 p.1).says

  epoch_is : (v : ServerId) (e n : ℕ) (b : Body) → Sends s v e n b → e ≡ epoch_at (s ∷ past) v
  epoch_is v e n b p = sym p.3 ∙ ((parts.sends p.0 p.1).epoch_is ∙ ap (epoch_at (s ∷ past)) p.2)

  no_down : Stops s → ⊥
  no_down d = says d.0 d.1 d.2 Down d.3

  returned : (i : TokenId) → ReturnsToken s i → MayReturn past s i
  returned i r = (says r.0 r.1 r.2 (Returned r.3) r.4).1 i r.5

  tokens : HostTokens past s
  tokens = record {
    live = parts.live;
    stops_alone = λ v e n b d p. absurd (no_down d);
    epochs = epoch_is;
    takes = parts.takes;
    drops = parts.drops;
    drops_only = λ t d. inl (parts.drops_only t d);
    returns = λ i r. (returned i r).from;
    returns_free = λ i g r mk j. (returned i r).free g mk j;
    answers = λ w v e n p. elim p [
      | inl q ↦ (says v e n (Returned w) q).0.place
      | inr q ↦ (says v e n (Kept w) q).0.place
    ];
    answers_file = λ w v e n t p h j. elim p [
      | inl q ↦ (says v e n (Returned w) q).0.file t h j
      | inr q ↦ (says v e n (Kept w) q).0.file t h j
    ];
    makes = parts.makes;
    makes_once = parts.makes_once;
    makes_from = parts.makes_from;
    makes_apart = parts.makes_apart;
    makes_new = parts.makes_new;
    gives = λ g v e n p. let w = says v e n (GiveBack g) p in (w.made, w.place);
    gives_first = λ g k v e n p. (says v e n (GiveBack g) p).first k;
    fetches = λ f v e n p. let w = says v e n (Fetch f) p in (w.place, w.no_bye);
    changes = λ c v e n p. let w = says v e n (Change c) p in (w.place, w.no_bye);
    claims = λ v e n c p. (says v e n (Reclaim c) p).claims;
    bye_held = λ v e n t p. (says v e n Bye p).none_owned t;
    bye_gives = λ v e n g p. (says v e n Bye p).known g;
    bye_asking = λ v e n fs k p. (says v e n Bye p).none_asked fs k;
    bye_changing = λ v w e n fs k p. (says v e n Bye p).none_changing w fs k;
  }

  asks : HostAsks script.roster host past s stance
  asks = record {
    fetches = λ f p. (says p.0 p.1 p.2 (Fetch f) p.3).why;
    changes = λ v e n c p. (says v e n (Change c) p).why;
    one_fetch = parts.one_fetch;
    one_change = parts.one_change;
    one_of_both = parts.one_of_both;
    fetches_welcome = λ v e n f p. (says v e n (Fetch f) p).welcome;
    changes_welcome = λ v e n c p. (says v e n (Change c) p).welcome;
    asks = λ c o _. parts.asks c o;
  }

  revoked : HostRevoked past s
  revoked = record {
    keeps = λ i k. (says k.0 k.1 k.2 (Kept k.3) k.4).1 i k.5;
    returns_idle = λ i r. (returned i r).idle;
  }

  resends : HostResends past s
  resends = record {
    claims_only = λ v c. (says v c.0 c.1 (Reclaim c.2) c.3).why;
  }

  lines_met : (its : List Line) (limit : ℕ) (servers : List ServerId) → LinesMay its limit servers past s
      → HostLines its servers limit past s × HostEnds its limit past s
  lines_met its limit servers met = (
    record {
      next = met.next;
      free = met.free;
      begins = met.begins;
      stops = λ d. absurd (no_down d);
      no_server = met.no_server;
      applies_none = met.applies_none;
    },
    record {
      after = met.after;
      implied = met.implied;
      bye = λ v b. let w = says v b.0 b.1 Bye b.2 in (w.greeted, w.none_held, w.why);
    },
  )

pub may_assembled : MayAssembled
may_assembled script host past s stance parts takes answers gives leaves lines = record {
  tokens = tokens script host past s stance parts;
  takes = takes;
  stance = stance;
  answers = answers;
  asks = asks script host past s stance parts;
  gives = gives;
  revoked = revoked script host past s stance parts;
  resends = resends script host past s stance parts;
  leaves = leaves;
  lines = (lines_met script host past s stance parts (lines_of script (Host host)) (limit_of script.roster host)
      (servers_of script.roster) lines).0;
  ends = (lines_met script host past s stance parts (lines_of script (Host host)) (limit_of script.roster host)
      (servers_of script.roster) lines).1;
}
