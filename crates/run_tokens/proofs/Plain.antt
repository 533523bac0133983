-- Steps of the small run's host: they only send requests, and take and answer; the rules on what they don't do.
use Rattle.std.proofs.Common.{Bool, List, Option, [], ap, arith, false, inl, inr, refl, suc, sym, true, ℕ}
use Rattle.std.proofs.Common.{◌&&◌, ◌||◌, ◌∙◌, ◌∷◌, ◌≡◌, ◌⊎◌}
use Rattle.base_types.specs.declared.ids.Fid.{Fid}
use Rattle.base_types.specs.declared.ids.ServerId.{ServerId}
use Rattle.token_types.specs.declared.token.Kind.TheVariants.{Status}
use Rattle.token_types.specs.declared.token.Token.{Token}
use Rattle.token_types.specs.declared.token.TokenId.{TokenId}
use Rattle.run_rules.specs.HostMay.{ClaimsAt, HostEnds, HostResends}
use Rattle.run_rules.specs.HostTokens.{HasUnused, HostGives, HostLeaves, HostRevoked, HostTokens}
use Rattle.run_rules.specs.Messages.{Comes, ComesIn, ReturnsToken, Said, Sends, epoch_at, stay_of}
use Rattle.run_rules.specs.Past.{In}
use Rattle.run_rules.specs.Tokens.{HasEndedUse, Held, HoldsId, LabelInUse, Made, Owns, Uses}
use Rattle.run_rules.specs.Views.{UpdatesStatus, is_dirty}
use Rattle.run_tokens.specs.JournalWorked.{roster}
use Rattle.run_tokens.specs.Worked.{client, plain, takes}
use Rattle.run_rules.specs.declared.step.Step.{Step}
use Rattle.run_rules.specs.declared.step.Cause.{Cause}
use Rattle.run_rules.specs.declared.step.Cause.TheVariants.{Lapse, Evict, End}
use Rattle.message_types.specs.declared.message.Body.TheVariants.{Hello, Fetch, Change, Revoke, Returned, Kept, GiveBack, Reclaim, Reclaimed, Restarted, Down, Bye}
use Rattle.message_types.specs.declared.message.Body.{Body}
use Rattle.message_types.specs.declared.tokens.Revoke.{Revoke as RevokeOf}
use Rattle.message_types.specs.declared.giving.Reclaimed.{Reclaimed as ReclaimedOf}
use Rattle.message_types.specs.declared.telling.Bring.{Bring}
use Rattle.message_types.specs.declared.message.Message.{Message}
use Rattle.message_types.specs.declared.giving.Give.{Give}
use Rattle.run_rules.specs.declared.step.Asked.{Asked}
use Rattle.run_rules.specs.declared.step.Labelled.{Labelled}
use Rattle.run_rules.specs.declared.applied.Answer.{Answer}
use Rattle.base_types.specs.declared.ids.Node.TheVariants.{Host}
use Rattle.script_lines.specs.declared.script.Line.{Line as LineOf}
use Rattle.message_types.specs.declared.asking.Fetch.{Fetch as FetchOf}
use Rattle.message_types.specs.declared.asking.Change.{Change as ChangeOf}

-- a message that a host sends without giving anything up
abbrev pub IsPlain : Body → Type 0
IsPlain Hello = Unit {0}
IsPlain (Fetch fetch) = Unit {0}
IsPlain (Change change) = Unit {0}
IsPlain _ = ⊥

-- a give-back that ended a use was made
pub ended_made : (past : List Step) (give : Give) (u : Labelled) → HasEndedUse past give u → Made past give
ended_made [] give u e = elim e [ ]
ended_made (s ∷ past) give u (inl x) = inl x.0
ended_made (s ∷ past) give u (inr e) = inr (ended_made past give u e)

-- a host that has given nothing back, has used no label, and has for reading two tokens at most
pub record IsYoung (a b : Token) (past : List Step) : Type 0 where
  pub no_made : (g : Give) → Made past g → ⊥
  pub no_used : (u : Labelled) → LabelInUse past u → ⊥
  pub no_dirty : (fid : Fid) (at : ℕ) → is_dirty past fid at ≡ false
  pub no_update : (t : Token) → Owns past t → UpdatesStatus t t.fid → ⊥
  pub held : (t : Token) → Held past t → (t ≡ a) ⊎ (t ≡ b)
  pub said : (v : ServerId) (e n : ℕ) (m : Body) → Said past v e n m → IsPlain m

pub young_first : (a b : Token) → IsYoung a b []
young_first a b = record {
  no_made = λ g m. elim m [ ];
  no_used = λ u m. elim m [ ];
  no_dirty = λ fid at. refl;
  no_update = λ t o. elim o [ ];
  held = λ t h. elim h [ ];
  said = λ v e n m p. elim p [ ];
}

module _ (a b : Token) (past : List Step) (cause : Cause) (asked : Option Asked) (answers : List Answer)
    (taken : List Token) (sent : List Message) (young : IsYoung a b past)
    (only : (v : ServerId) (e n : ℕ) (m : Body) → Sends (plain (Host client) cause asked answers taken sent) v e n m → IsPlain m) where
  abbrev s : Step
  s = plain (Host client) cause asked answers taken sent

  pub young_more : ((t : Token) → In t taken → (t ≡ a) ⊎ (t ≡ b)) → ((t : Token) → In t taken → t.kind ≡ Status true → ⊥) → IsYoung a b (s ∷ past)
  young_more two none = record {
    no_made = λ g m. elim m [ inl p ↦ elim p [ ] | inr p ↦ young.no_made g p ];
    no_used = λ u m. elim m [ inl p ↦ elim p [ ] | inr p ↦ young.no_used u p.0 ];
    no_dirty = λ fid at. ap (λ (x : Bool). (false || x) && true) (young.no_dirty fid at);
    no_update = λ t o u. elim o.0 [ inl m ↦ none t m u.1 | inr m ↦ young.no_update t m u ];
    held = λ t h. elim h.0 [ inl m ↦ two t m | inr m ↦ young.held t m ];
    said = λ v e n m p. elim p [ inl q ↦ only v e n m q | inr q ↦ young.said v e n m q ];
  }

  -- of three tokens that it holds two are the same
  pub few : (n : ℕ) → HasUnused past (suc (suc (suc n))) → ⊥
  few n ([], _, e, _) = omega (arith, e)
  few n (t ∷ [], _, e, _) = omega (arith, e)
  few n (t ∷ u ∷ [], _, e, _) = omega (arith, e)
  few n (t ∷ u ∷ w ∷ ts, once, _, all) =
      go (young.held t (all t (inl refl)).0) (young.held u (all u (inr (inl refl))).0) (young.held w (all w (inr (inr (inl refl)))).0)
    where
      go : (t ≡ a) ⊎ (t ≡ b) → (u ≡ a) ⊎ (u ≡ b) → (w ≡ a) ⊎ (w ≡ b) → ⊥
      go (inl p) (inl q) r = once.0 (inl (p ∙ sym q))
      go (inr p) (inr q) r = once.0 (inl (p ∙ sym q))
      go (inl p) (inr q) (inl r) = once.0 (inr (inl (p ∙ sym r)))
      go (inl p) (inr q) (inr r) = once.1.0 (inl (q ∙ sym r))
      go (inr p) (inl q) (inl r) = once.1.0 (inl (q ∙ sym r))
      go (inr p) (inl q) (inr r) = once.0 (inr (inl (p ∙ sym r)))

  no_returned : (i : TokenId) → ReturnsToken s i → ⊥
  no_returned i r = only _ _ _ (Returned r.3) r.4

  owns : (t : Token) → Owns past t → Owns (s ∷ past) t
  owns t o = (inr o, λ l. elim l [ inl m ↦ elim m.1 [ ] | inr r ↦ no_returned t.id r ])

  pub gives : HostGives past s
  gives = record {
    names = λ g m. elim m [ ];
    rise = λ g m. elim m [ ];
    one_a_file = λ g k m. elim m [ ];
    next = λ g m. elim m [ ];
    bytes = λ g at x m. elim m [ ];
    bytes_saved = λ fid at d. absurd (let p = young.no_dirty fid at in let q = sym p ∙ d in cc);
    length = λ g n m. elim m [ ];
    length_too = λ g m. elim m [ ];
    length_saved = λ t o d. inl (owns t o);
    ends = λ g e m. elim m [ ];
    ends_used = λ g usage m. elim m [ ];
    sends = λ g o. elim o.made [ inl m ↦ elim m [ ] | inr m ↦ absurd (young.no_made g m) ];
  }

  pub may : ((t : Token) → In t taken → (w : Bring) × Uses past s w × In t w.tokens × (t.fid ≡ w.fid) × (HoldsId past t.id → ⊥))
      → ((v : ServerId) (e n : ℕ) (m : Body) → Sends s v e n m → e ≡ epoch_at (s ∷ past) v)
      → ((f : FetchOf) (v : ServerId) (e n : ℕ) → Sends s v e n (Fetch f) → stay_of (s ∷ past) f.fid.fileset ≡ record { server = v; moves = n })
      → ((c : ChangeOf) (v : ServerId) (e n : ℕ) → Sends s v e n (Change c) → ((c.fileset.0 ≡ 0) × (n ≡ 0)) ⊎ (stay_of (s ∷ past) c.fileset ≡ record { server = v; moves = n }))
      → HostTokens past s
  may takes now fetched changed = record {
    live = λ d. young.said d.0 d.1 d.2 Down d.3;
    stops_alone = λ v e n m d p. absurd (only _ _ _ Down d.3);
    epochs = now;
    takes = takes;
    drops = λ t h l. absurd (elim l [ inl m ↦ elim m.1 [ ] | inr r ↦ no_returned t.id r ]);
    drops_only = λ t d. elim d.1 [ ];
    returns = λ i r. absurd (no_returned i r);
    returns_free = λ i g r. absurd (no_returned i r);
    answers = λ w v e n p. absurd (elim p [ inl q ↦ only v e n (Returned w) q | inr q ↦ only v e n (Kept w) q ]);
    answers_file = λ w v e n t p. absurd (elim p [ inl q ↦ only v e n (Returned w) q | inr q ↦ only v e n (Kept w) q ]);
    makes = λ g i m. elim m [ ];
    makes_once = λ g k i m. elim m [ ];
    makes_from = λ g m. elim m [ ];
    makes_apart = λ g k m. elim m [ ];
    makes_new = λ g k m. elim m [ ];
    gives = λ g v e n p. absurd (only v e n (GiveBack g) p);
    gives_first = λ g k v e n p. absurd (only v e n (GiveBack g) p);
    fetches = λ f v e n p. (fetched f v e n p, λ w x. young.said w x.0 x.1 Bye x.2);
    changes = λ c v e n p. (changed c v e n p, λ w x. young.said w x.0 x.1 Bye x.2);
    claims = λ v e n c p. absurd (only v e n (Reclaim c) p);
    bye_held = λ v e n t p. absurd (only v e n Bye p);
    bye_gives = λ v e n g p. absurd (only v e n Bye p);
    bye_asking = λ v e n fs k p. absurd (only v e n Bye p);
    bye_changing = λ v w e n fs k p. absurd (only v e n Bye p);
  }

  module _ (no_revoke : (v : ServerId) (e n : ℕ) (r : RevokeOf) → ComesIn s v e n (Revoke r) → ⊥)
      (no_restarted : (v : ServerId) (e n : ℕ) → ComesIn s v e n Restarted → ⊥)
      (no_reclaimed : (v : ServerId) (r : ReclaimedOf) → Comes past s v (Reclaimed r) → ⊥)
      (no_lapse : cause ≡ Lapse → ⊥) (no_evict : cause ≡ Evict → ⊥) (no_end : cause ≡ End → ⊥) where
    pub revoked : HostRevoked past s
    revoked = record {
      keeps = λ i k. absurd (only _ _ _ (Kept k.3) k.4);
      returns_idle = λ i r. absurd (no_returned i r);
    }

    no_claim : (v : ServerId) → ClaimsAt s v → ⊥
    no_claim v c = only v _ _ (Reclaim c.2) c.3

    pub resends : HostResends past s
    resends = record { claims_only = λ v c. absurd (no_claim v c) }

    pub leaves : HostLeaves roster client 64 past s
    leaves = record { leaves = λ l m. elim m [ ] }

    pub ends : (lines : List LineOf) → HostEnds lines 64 past s
    ends lines = record {
      after = λ c. absurd (no_end c);
      implied = λ k call c. absurd (no_end c);
      bye = λ v x. absurd (only v _ _ Bye x.2);
    }
