-- All tables of a server once a claim is granted, and the queue is asked anew where that ends the grace period.
use Rattle.std.proofs.Common.{◌≡◌, ◌⊎◌, ℕ, ◌<◌, ◌==◌, not, List, [], ◌∷◌, inl, inr}
use Rattle.std.proofs.Common.{sym, ◌∙◌, ap, subst}
use Rattle.std.specs.List.{filter}
use Rattle.std.proofs.lemmas.Bool.{cases_Bool}
use Rattle.base_types.specs.declared.ids.HostId.{HostId}
use Rattle.message_types.specs.declared.giving.Reclaimed.{Reclaimed as ReclaimedOf}
use Rattle.message_types.specs.declared.message.Body.TheVariants.{Reclaimed}
use Rattle.token_manager.specs.Grants.{with_claims}
use Rattle.token_manager.specs.Managers.{after_admit}
use Rattle.token_manager.specs.declared.grants.Grants.{Grants}
use Rattle.token_types.specs.declared.token.Token.{Token}
use Rattle.run_rules.specs.Doings.{Doing, HasReclaimed, IsLive, SentTo, epoch}
use Rattle.run_rules.specs.Doings.Doing.{Admits}
use Rattle.run_rules.specs.Past.{In}
use Rattle.server_tables.specs.declared.recovering.Answered.{Answered}
use Rattle.server_tables.specs.declared.recovering.Claimed.{Claimed}
use Rattle.server_tables.specs.declared.recovering.GaveUp.{GaveUp}
use Rattle.server_tables.specs.declared.recovering.Recovering.{Recovering}
use Rattle.server_tables.specs.declared.tables.LastGive.{LastGive}
use Rattle.server_tables.specs.declared.tables.Tables.{Tables}
use Rattle.server_tables.specs.Claims.{answered_so}
use Rattle.server_tables.specs.Judging.{forgotten}
use Rattle.server_tables.specs.Listing.{no_grace, reclaiming}
use Rattle.server_tables.specs.Standing.{AnsweredStand, HostsStand, QueueStands, StampsStand, Stands, TokensStand}
use Rattle.server_tables.specs.Updates.{reclaimed_by}
use Rattle.server_tables.proofs.Admitting.{IsForgotten, hosts_admitted, stands_admitted}
use Rattle.server_tables.proofs.Departing.{apart}
use Rattle.server_tables.proofs.Fetching.{same_host}
use Rattle.server_tables.proofs.Greeting.{in_end, in_front, in_parts}
use Rattle.server_tables.proofs.Linking.{AreNew, all_admitted}
use Rattle.server_tables.proofs.Listed.{over_is}
use Rattle.server_tables.proofs.Opening.{opened_grants, queue_opened, queue_was}
use Rattle.server_tables.proofs.Queueing.{one_is}
use Rattle.server_tables.proofs.Without.{in_filter, to_filter}

-- what its claims are judged by is forgotten
pub is_forgotten : (x : Recovering) (h : HostId) → IsForgotten x (forgotten x h) h
is_forgotten x h = record {
  claim_of = λ c m. (in_filter (λ (c : Claimed). not (c.host.0 == h.0)) c x.claims m).0;
  claim_all = λ c m other. to_filter (λ (c : Claimed). not (c.host.0 == h.0)) c x.claims m (apart c.host h other);
  taken_of = λ l m. (in_filter (λ (l : LastGive). not (l.host.0 == h.0)) l x.taken m).0;
  taken_all = λ l m other. to_filter (λ (l : LastGive). not (l.host.0 == h.0)) l x.taken m (apart l.host h other);
  up_of = λ l m. (in_filter (λ (l : GaveUp). not (l.host.0 == h.0)) l x.given_up m).0;
  up_all = λ l m other. to_filter (λ (l : GaveUp). not (l.host.0 == h.0)) l x.given_up m (apart l.host h other);
}

-- The claim is of a live host that hasn't reclaimed; its tokens are the host's, of earlier epochs, and their numbers
-- are new. `answers` are those to all claims then.
module _ (past : List Doing) (x : Tables) (s : Stands past x) (h : HostId) (tokens : List Token)
    (first : HasReclaimed past h → ⊥) (live : IsLive past h) (own : (t : Token) → In t tokens → t.host ≡ h)
    (earlier : (t : Token) → In t tokens → t.id.epoch < epoch past) (new : AreNew x.tokens.grants tokens)
    (answers : List Answered) where
  abbrev after : List Doing
  after = Admits h tokens ∷ past

  abbrev x1 : Tables
  x1 = record x { tokens = after_admit x.tokens tokens; recovering = record x.recovering { answers = answers } }

  abbrev y : Tables
  y = reclaimed_by x1 h

  abbrev told : Tables
  told = record x1 { hosts = reclaiming x.hosts h; recovering = forgotten x1.recovering h }

  hosts_told : HostsStand after (reclaiming x.hosts h)
  hosts_told = hosts_admitted past x.server h tokens first live own earlier x.hosts s.hosts

  queue_told : QueueStands after y.tokens.queue x.pending
  queue_told =
      let q = queue_was past x s.hosts s.queue in
      queue_opened after told hosts_told (no_grace x.hosts) q.0 q.1
      (λ o. absurd (first (over_is past x.hosts s.hosts o h live)))

  grants_are : y.tokens.grants ≡ with_claims x.tokens.grants tokens
  grants_are = opened_grants (no_grace x.hosts) told

  pub stands_reclaimed : Stands after y
  stands_reclaimed =
      let r = stands_admitted past x h tokens first live own earlier (with_claims x.tokens.grants tokens)
      (all_admitted x.tokens.grants tokens new s.tokens.noted) y.tokens.queue queue_told (forgotten x.recovering h)
      (is_forgotten x.recovering h) s in
      record {
        slots = r.slots;
        hosts = r.hosts;
        tokens = subst (TokensStand after x.server) (sym grants_are) r.tokens;
        stamps = subst (λ (g : Grants). StampsStand after g x.stamp) (sym grants_are) r.stamps;
        wants = r.wants;
        queue = queue_told;
        gives = r.gives;
        changes = r.changes;
        recovery = r.recovery;
      }

-- An answer is sent to the host, after which all that have reclaimed have one.
pub answered_told : (past then : List Doing) (answers : List Answered) (h : HostId) (answer : ReclaimedOf)
    → AnsweredStand past answers → epoch then ≡ epoch past
    → ((k : HostId) → HasReclaimed then k → (k ≡ h) ⊎ HasReclaimed past k)
    → ((k : HostId) (n : ℕ) (r : ReclaimedOf) → SentTo past k (epoch past) n (Reclaimed r)
    → SentTo then k (epoch past) n (Reclaimed r))
    → (n : ℕ) → SentTo then h (epoch past) n (Reclaimed answer) → AnsweredStand then (answered_so answers h answer)
answered_told past then answers h answer s same was on n sent = record {
  answers_all = λ k r. elim (was k r) [
    | inl e ↦ (record { host = h; answer = answer }, in_end (record { host = h; answer = answer }) others, sym e)
    | inr p ↦ all k (s.answers_all k p)
  ];
  answered = λ a m. subst (λ (e : ℕ). (i : ℕ) × SentTo then a.host e i (Reclaimed a.answer)) (sym same)
      (elim (in_parts a others (record { host = h; answer = answer } ∷ []) m) [
        | inl p ↦ (let q = s.answered a (in_filter (λ (a : Answered). not (a.host.0 == h.0)) a answers p).0 in
            (q.0, on a.host q.0 a.answer q.1))
        | inr p ↦ (
          n,
          subst (λ (b : Answered). SentTo then b.host (epoch past) n (Reclaimed b.answer)) (sym (one_is a
              (record { host = h; answer = answer }) p)) sent,
        )
      ]);
}
  where
    others : List Answered
    others = filter (λ (a : Answered). not (a.host.0 == h.0)) answers

    all : (k : HostId) → (a : Answered) × In a answers × (a.host ≡ k) → (a : Answered) × In a
        (answered_so answers h answer) × (a.host ≡ k)
    all k p = elim (cases_Bool (p.0.host.0 == h.0)) [
      | inl e ↦ (
        record { host = h; answer = answer },
        in_end (record { host = h; answer = answer }) others,
        sym
            (same_host p.0.host h e) ∙ p.2,
      )
      | inr e ↦ (
        p.0,
        in_front p.0 others (record { host = h; answer = answer } ∷ []) (to_filter (λ
            (a : Answered). not (a.host.0 == h.0)) p.0 answers p.1 (ap not e)),
        p.2,
      )
    ]
