-- A claim is granted: the rules allow it, and the tables stand then.
use Rattle.std.proofs.Common.{◌≡◌, ◌<◌, ◌==◌, ◌&&◌, ℕ, Bool, true, false, not, is_some, List, [], ◌∷◌, inl, inr}
use Rattle.std.proofs.Common.{map, refl, sym, ◌∙◌, ap, subst, eq-eqb}
use Rattle.std.proofs.lemmas.Bool.{and_from, and_parts, cases_Bool, false≢true}
use Rattle.base_types.specs.declared.ids.HostId.{HostId}
use Rattle.message_types.specs.declared.giving.Reclaimed.{Reclaimed as ReclaimedOf}
use Rattle.message_types.specs.declared.message.Body.TheVariants.{Reclaim, Reclaimed}
use Rattle.token_manager.specs.Grants.{with_claimed}
use Rattle.token_manager.specs.declared.grants.Grants.{Grants}
use Rattle.token_manager.proofs.Noting.{same_self}
use Rattle.token_table.specs.Marks.{note_at}
use Rattle.token_table.specs.Tables.{has_id}
use Rattle.token_types.specs.Conflicts.{same_id}
use Rattle.token_types.specs.declared.token.Token.{Token}
use Rattle.token_types.specs.declared.token.TokenId.{TokenId}
use Rattle.run_rules.specs.Doings.{Doing, HasReclaimed, IsLive, TookNow, epoch}
use Rattle.run_rules.specs.Doings.Doing.{Admits}
use Rattle.run_rules.specs.Past.{In}
use Rattle.run_rules.specs.ServerDue.{AnswersClaim}
use Rattle.run_rules.specs.ServerTokens.{HasTakenGives, MayAdmit}
use Rattle.run_rules.specs.declared.applied.Admission.{Admission}
use Rattle.server_tables.specs.Claims.{names}
use Rattle.server_tables.specs.Judging.{gave_up, has_all}
use Rattle.server_tables.specs.Standing.{Stands, tokens_of}
use Rattle.server_tables.specs.Updates.{reclaimed_by}
use Rattle.server_tables.specs.declared.recovering.Claimed.{Claimed}
use Rattle.server_tables.specs.declared.tables.Tables.{Tables}
use Rattle.server_tables.proofs.Admitting.{IsAdmitted as IsAdded}
use Rattle.server_tables.proofs.Early.{IsWordOf}
use Rattle.server_tables.proofs.Granting.{id_is, in_back}
use Rattle.server_tables.proofs.Judged.{answers_claim, left_so, may_admit, ripe_is, taken_all, was_applied}
use Rattle.server_tables.proofs.Linking.{AreNew, all_admitted}
use Rattle.server_tables.proofs.Reclaiming.{stands_reclaimed}
use Rattle.server_tables.proofs.Settling.{any_in, in_any, in_map}
use Rattle.server_takes.specs.Drafts.{word}
use Rattle.server_takes.specs.declared.draft.Draft.{Draft}
use Rattle.server_says.specs.Claiming.{AreAnswers, IsAdmissionOf, IsAdmitted, all_answered, answer_of, answering}
use Rattle.server_says.specs.Claiming.{is_claimed, to_admit, with_claim}
use Rattle.server_says.specs.Laws.{ClaimsAreGranted}
use Rattle.server_says.proofs.Picks.{AreApart, past_in, picked_apart, picked_are}

-- # Their numbers are new

not_true : (b : Bool) → not b ≡ true → b ≡ false
not_true true e = absurd (false≢true e)
not_true false e = refl

-- tokens none of which is granted, of numbers that differ, are new one after the other
pub new_of : (grants : Grants) (ts : List Token)
    → ((i : TokenId) → is_some (note_at grants.notes i) ≡ true → (u : Token) × In u (tokens_of grants) × (u.id ≡ i))
    → ((t : Token) → In t ts → has_id (tokens_of grants) t.id ≡ false) → AreApart ts → AreNew grants ts
new_of grants [] noted out apart = tt
new_of grants (t ∷ ts) noted out apart = (
  out t (inl refl),
  unknown,
  new_of (with_claimed grants t) ts one.noted still_out apart.1,
)
  where
    there : (i : TokenId) (u : Token) → In u (tokens_of grants) → u.id ≡ i → has_id (tokens_of grants) i ≡ true
    there i u k e = in_any (λ (token : Token). same_id token.id i) u (tokens_of grants) k
        (subst (λ (j : TokenId). same_id u.id j ≡ true) e (same_self u.id))

    unknown : is_some (note_at grants.notes t.id) ≡ false
    unknown = elim (cases_Bool (is_some (note_at grants.notes t.id))) [
      | inl e ↦ (let u = noted t.id e in absurd (false≢true (sym (out t (inl refl)) ∙ there t.id u.0 u.1 u.2)))
      | inr e ↦ e
    ]

    one : IsAdded grants (with_claimed grants t) (t ∷ [])
    one = all_admitted grants (t ∷ []) (out t (inl refl), unknown, tt) noted

    still_out : (u : Token) → In u ts → has_id (tokens_of (with_claimed grants t)) u.id ≡ false
    still_out u i = elim (cases_Bool (has_id (tokens_of (with_claimed grants t)) u.id)) [
      | inl e ↦ (let v = any_in (λ (token : Token). same_id token.id u.id) (tokens_of (with_claimed grants t)) e in
          let q = id_is v.0.id u.id v.2 in
          elim (one.were v.0 v.1) [
            | inl k ↦ absurd (false≢true (sym (out u (inr i)) ∙ there u.id v.0 k q))
            | inr k ↦ absurd (apart.0 u i (sym q ∙ elim k [
              | inl w ↦ ap (λ (token : Token). token.id) w
              | inr w ↦ elim w [ ]
            ]))
          ])
      | inr e ↦ e
    ]

same_answer : (a b : ReclaimedOf) → Reclaimed a ≡ Reclaimed b → a ≡ b
same_answer a b e = cc

-- # A claim is granted

module _ (past : List Doing) (x : Tables) (z : Stands past x) (a : Admission) (next : IsAdmissionOf x a)
    (never : HasReclaimed past next.claimed.host → ⊥) (live : IsLive past next.claimed.host) where
  abbrev c : Claimed
  c = next.claimed

  ripe : In c x.recovering.claims × HasTakenGives x.server past c.host c.claim
  ripe = ripe_is past x.server x.recovering z.slots z.recovery c next.ripe

  -- it was taken, and its give-backs all came
  took : (n : ℕ) × TookNow past c.host n (Reclaim c.claim)
  took = z.recovery.claimed c ripe.0

  its_host : (t : Token) → In t c.claim.tokens → t.host ≡ c.host
  its_host t i = (past_in x c next.past t i).0

  -- the rules allow it
  pub admission_may : MayAdmit x.server past a.host a.tokens
  admission_may =
      subst (λ (h : HostId). MayAdmit x.server past h a.tokens) (sym next.host)
      (subst (MayAdmit x.server past c.host) (sym next.tokens)
      (may_admit past x.server x.recovering z.slots z.recovery c.host never live x.tokens.grants z.tokens c.claim
      (to_admit x c) (picked_are (is_claimed x c) c.claim.tokens) took.0 took.1 ripe.1 its_host))

  -- its tokens are of earlier epochs
  pub admission_past : (t : Token) → In t (to_admit x c) → t.id.epoch < epoch past
  admission_past t i =
      subst (λ (e : ℕ). t.id.epoch < e) z.tokens.epoch_is
      (past_in x c next.past t ((picked_are (is_claimed x c) c.claim.tokens).from t i).0).1

  pub admission_own : (t : Token) → In t (to_admit x c) → t.host ≡ c.host
  admission_own t i = its_host t ((picked_are (is_claimed x c) c.claim.tokens).from t i).0

  admission_new : AreNew x.tokens.grants (to_admit x c)
  admission_new = new_of x.tokens.grants (to_admit x c) z.tokens.noted
      (λ t i. not_true (has_id (tokens_of x.tokens.grants) t.id)
      (and_parts (not (has_id (tokens_of x.tokens.grants) t.id))
      (names c.claim x.server t.fid.fileset && not (gave_up x.recovering.given_up c.host t.id))
      ((picked_are (is_claimed x c) c.claim.tokens).from t i).1).0)
      (picked_apart (is_claimed x c) c.claim.tokens)

  -- and the tables stand then
  pub admission_stands : (d e : Draft) (y : Tables) → IsAdmitted x d a.host a.tokens y e
      → Stands (Admits a.host a.tokens ∷ past) y
  admission_stands d e y so = subst (Stands (Admits a.host a.tokens ∷ past)) (sym so.tables)
      (subst (λ (h : HostId). Stands (Admits h a.tokens ∷ past)
      (reclaimed_by (answering (with_claim x a.tokens) h so.answers) h)) (sym next.host)
      (subst (λ (ts : List Token). Stands (Admits c.host ts ∷ past)
      (reclaimed_by (answering (with_claim x ts) c.host so.answers) c.host)) (sym next.tokens)
      (stands_reclaimed past x z c.host (to_admit x c) never live admission_own admission_past admission_new
      (all_answered x.recovering.answers c.host so.answers))))

-- what is answered to a host that hasn't reclaimed is a word that the rules let the server say
pub answer_word : (past : List Doing) (x : Tables) → Stands past x → (h : HostId) → (HasReclaimed past h → ⊥)
    → IsLive past h → (answers : List ReclaimedOf) → AreAnswers x h x.recovering.claims answers → (a : ReclaimedOf)
    → In a answers → IsWordOf x.server past h 0 (Reclaimed a)
answer_word past x z h never live answers are a i =
    let f = are.of a i in
    subst (λ (b : ReclaimedOf). IsWordOf x.server past h 0 (Reclaimed b)) f.3 (record {
      blank = record { grant = λ g e. cc; done = λ g e. cc; revoke = λ g e. cc };
      gone = λ g e. absurd (cc);
      reclaimed = λ r g e j.
          was_applied past x.server x.recovering z.slots z.recovery h never live.1 f.0.claim g
          (subst (λ (b : ReclaimedOf). In g b.applied) (sym (same_answer (answer_of x.recovering h f.0.claim) r e)) j);
      left_out = λ r k e j.
          left_so past x.server x.recovering z.slots z.recovery h never live.1 f.0.claim k
          (subst (λ (b : ReclaimedOf). In k b.left_out) (sym (same_answer (answer_of x.recovering h f.0.claim) r e)) j);
    })

-- each claim of the host whose give-backs have all come is answered by what the rules say of it
pub answers_say : (past : List Doing) (x : Tables) → Stands past x → (h : HostId) → (HasReclaimed past h → ⊥)
    → IsLive past h → (answers : List ReclaimedOf) → AreAnswers x h x.recovering.claims answers → (c : Claimed)
    → In c x.recovering.claims → c.host ≡ h → HasTakenGives x.server past h c.claim
    → (a : ReclaimedOf) × In a answers × AnswersClaim x.server past h c.claim a
answers_say past x z h never live answers are c i own taken = (
  answer_of x.recovering h c.claim,
  are.all c i (and_from (c.host.0 == h.0) (has_all x.recovering.taken x.server h c.claim)
      (eq-eqb c.host.0 h.0 (ap (λ (k : HostId). k.0) own))
      (taken_all past x.server x.recovering z.slots z.recovery h never live.1 c.claim taken)),
  answers_claim past x.server x.recovering z.slots z.recovery h never live.1 c.claim,
)

-- a claim that is granted is granted as the rules say
pub claims_granted : ClaimsAreGranted
claims_granted past a b one s never live =
    let x = a.tables in
    let c = one.next.claimed in
    let own = subst (λ (h : HostId). HasReclaimed past h → ⊥) one.next.host never in
    let here = subst (IsLive past) one.next.host live in
    record {
      may = admission_may past x s one.admission one.next own here;
      told = λ d i q taken.
          (let r = answers_say past x s one.admission.host never live one.so.answers one.so.are d i q taken in (
            r.0,
            subst (λ (e : Draft). In (word x one.admission.host (Reclaimed r.0)) e.sent) (sym one.so.draft)
                (in_back (word x one.admission.host (Reclaimed r.0)) a.draft.sent
                (map (λ (z : ReclaimedOf). word x one.admission.host (Reclaimed z)) one.so.answers)
                (in_map (λ (z : ReclaimedOf). word x one.admission.host (Reclaimed z)) r.0 one.so.answers r.1)),
            r.2,
          ));
      stands = admission_stands past x s one.admission one.next own here a.draft b.draft b.tables one.so;
    }
