-- What is due of a step in which a call whose turn it is goes on: what it has to give back is given back, all that is
-- said is new, and nothing is done twice.
use Rattle.base_types.specs.declared.ids.FilesetId.{FilesetId}
use Rattle.base_types.specs.declared.ids.HostId.{HostId}
use Rattle.base_types.specs.declared.ids.Node.TheVariants.{Host}
use Rattle.base_types.specs.declared.ids.ServerId.{ServerId}
use Rattle.host_gives.specs.Giving.{IsSound as IsSoundGives, outstanding}
use Rattle.host_leaves.specs.Sending.{message_to, sending_due, sending_give}
use Rattle.host_manager.proofs.Folding.{fold_only, fold_says, giving_only, giving_says}
use Rattle.host_manager.proofs.Repeated.{given_once, sort_of}
use Rattle.host_manager.proofs.Turns.{IsTurn}
use Rattle.host_manager.specs.Running.{RunsOn}
use Rattle.host_tables.proofs.Outstanding.{outstanding_is}
use Rattle.host_tables.specs.Answering.{GivesForCall}
use Rattle.host_tables.specs.Drafts.{step_of}
use Rattle.host_tables.specs.Half.{half, learning}
use Rattle.host_tables.specs.Saying.{IsFirst}
use Rattle.host_tables.specs.Stands.{Stands}
use Rattle.host_tables.specs.Tables.{held_of}
use Rattle.host_tables.specs.Updates.{home_at}
use Rattle.host_tables.specs.declared.draft.Draft.{Draft}
use Rattle.host_tables.specs.declared.tables.Tables.{Tables}
use Rattle.message_types.specs.declared.asking.Change.{Change as ChangeOf}
use Rattle.message_types.specs.declared.asking.Fetch.{Fetch as FetchOf}
use Rattle.message_types.specs.declared.giving.Give.{Give}
use Rattle.message_types.specs.declared.giving.Reclaimed.{Reclaimed as ReclaimedOf}
use Rattle.message_types.specs.declared.message.Body.{Body}
use Rattle.message_types.specs.declared.message.Body.TheVariants.{Bye, Change, Fetch, GiveBack, Hello, Reclaimed}
use Rattle.message_types.specs.declared.message.Body.TheVariants.{Revoke}
use Rattle.message_types.specs.declared.message.Message.{Message}
use Rattle.message_types.specs.declared.tokens.Revoke.{Revoke as RevokeOf}
use Rattle.run_rules.specs.HostAsks.{GoesTo, HasChanged, HasFetched}
use Rattle.run_rules.specs.HostDue.{HostDue, IsNoGiveBack, IsUnanswered}
use Rattle.run_rules.specs.HostMay.{LearnsRestart}
use Rattle.run_rules.specs.Messages.{About, Comes, HasGreeted, IsWelcome, Sends}
use Rattle.run_rules.specs.Past.{EachOnce, In}
use Rattle.run_rules.specs.Tokens.{AtHand, Held as HeldBy, IsOpen, IsOutstanding}
use Rattle.run_rules.specs.Views.{Stance}
use Rattle.run_rules.specs.declared.applied.Answer.{Answer as AnswerOf}
use Rattle.run_rules.specs.declared.applied.Leave.{Leave}
use Rattle.run_rules.specs.declared.applied.Why.TheVariants.{Ended}
use Rattle.run_rules.specs.declared.step.Asked.{Asked}
use Rattle.run_rules.specs.declared.step.Cause.{Cause}
use Rattle.run_rules.specs.declared.step.Cause.TheVariants.{End, Evict, Lapse}
use Rattle.run_rules.specs.declared.step.Step.{Step}
use Rattle.script_lines.specs.declared.script.Script.{Script}
use Rattle.std.proofs.Common.{Bool, List, None, Some, [], ap, arith, false, if◌then◌else◌, inl, inr, map, refl, subst}
use Rattle.std.proofs.Common.{sym, true, ℕ, ◌∙◌, ◌∷◌, ◌≡◌, ◌⊎◌}
use Rattle.token_types.specs.declared.token.Token.{Token}
use Rattle.tree_calls.specs.declared.call.Call.{Call}
use Rattle.host_manager.proofs.Turns as turns
use Rattle.host_tables.proofs.Saying as saying_of
use Rattle.host_tables.proofs.Standing as standing
use Rattle.host_tables.proofs.Unanswered as unanswered

-- by what a host makes such a step: a line, its end, or a message that teaches it neither a restart nor a revoke; and
-- the give-backs that are due are new
pub record IsTurnDue (m : Tables) (past : List Step) (cause : Cause) (came : List Token) (dues : List FilesetId)
    (first : Bool) : Type 0 where
  pub no_lapse : cause ≡ Lapse → ⊥
  pub no_evict : cause ≡ Evict → ⊥
  pub ends_first : cause ≡ End → first ≡ true
  pub no_restart : (v : ServerId) → LearnsRestart past (learning m.host cause came) v → ⊥
  pub no_revoke : (r : RevokeOf) → About past (learning m.host cause came) r.fid.fileset (Revoke r) → ⊥
  -- where a claim was answered nothing is outstanding that is sent again
  pub reclaimed : (s : Step) → s.cause ≡ cause → (v : ServerId) (n : ℕ) (a : ReclaimedOf) (b : Body)
      → Comes past s v (Reclaimed a) → IsNoGiveBack b → IsUnanswered past v n b → IsUnanswered (s ∷ past) v n b → ⊥
  pub fresh : (g : Give) → IsFirst m.gives g → In g.fid.fileset dues → IsOutstanding past g → ⊥
  pub once_came : EachOnce came
  pub once_dues : EachOnce dues

-- What is said wasn't said before.
pub data IsNewIn (past : List Step) (y : Message) : Type 0 where
  OfHello : y.body ≡ Hello → (HasGreeted past y.server → ⊥) → IsNewIn past y
  OfFetch : (f : FetchOf) → y.body ≡ Fetch f → (HasFetched past f → ⊥) → IsNewIn past y
  OfChange : (x : ChangeOf) → y.body ≡ Change x → (HasChanged past y.server x → ⊥) → IsNewIn past y

same_at : (past : List Step) (v : ServerId) (n : ℕ) (b : Body) (y : Message) (other : Body) → y.server ≡ v
    → y.body ≡ b → y.body ≡ other → IsUnanswered past v n b → IsUnanswered past y.server n other
same_at past v n b y other at is body u =
    subst (λ (p : ServerId × Body). IsUnanswered past p.0 n p.1) (λ i. ((sym at) i, (sym is ∙ body) i)) u

pub new_answered : (past : List Step) (v : ServerId) (n : ℕ) (b : Body) (y : Message) → y.server ≡ v → y.body ≡ b
    → IsNewIn past y → IsUnanswered past v n b → ⊥
new_answered past v n b y at is (OfHello body none) u = none (same_at past v n b y Hello at is body u).0
new_answered past v n b y at is (OfFetch f body none) u = none (same_at past v n b y (Fetch f) at is body u).0
new_answered past v n b y at is (OfChange x body none) u = none (same_at past v n b y (Change x) at is body u).0

-- neither a give-back nor a Bye is new
pub new_sort : (past : List Step) (y : Message) → IsNewIn past y → (sort_of y.body ≡ 0) ⊎ (sort_of y.body ≡ 3)
new_sort past y (OfHello body none) = inl (ap sort_of body)
new_sort past y (OfFetch f body none) = inr (ap sort_of body)
new_sort past y (OfChange x body none) = inr (ap sort_of body)

-- the call is left open, where it begins
pub opens_it : (script : Script) (old m : Tables) (past : List Step) (cause : Cause) (came : List Token)
    (dues : List FilesetId) (c : Asked) (first : Bool) (turn : IsTurn script old m past cause came dues c first)
    (d : Draft) → d.asked ≡ (if first then Some c else None) → d.answers ≡ []
    → turns.BeginsTurn script old m past cause came dues c first turn d
opens_it script old m past cause came dues c first turn d asked none = record {
  only = λ n other b. elim b [
    | inl e ↦ by_first first refl n other (sym asked ∙ e)
    | inr a ↦ elim (subst (λ (l : List AnswerOf). In a.0 l) none a.1) [ ]
  ];
  there = λ e. inl (asked ∙ ap (λ (b : Bool). if b then Some c else None) e);
}
  where
    by_first : (b : Bool) → first ≡ b → (n : ℕ) (other : Call)
        → (if first then Some c else None) ≡ Some (record { k = n; call = other })
        → (first ≡ true) × (n ≡ c.k) × (other ≡ c.call)
    by_first true f n other e =
        let p : Some c ≡ Some (record { k = n; call = other }) =
        sym (ap (λ (b : Bool). if b then Some c else None) f) ∙ e in
        let q : c ≡ record { k = n; call = other } = cc in
        (f, sym (ap (λ (a : Asked). a.k) q), sym (ap (λ (a : Asked). a.call) q))
    by_first false f n other e =
        let p : None ≡ Some (record { k = n; call = other }) =
        sym (ap (λ (b : Bool). if b then Some c else None) f) ∙ e in absurd (cc)

module _ (script : Script) (old m : Tables) (past : List Step) (cause : Cause) (came : List Token)
    (dues : List FilesetId) (c : Asked) (first : Bool) (turn : IsTurn script old m past cause came dues c first)
    (by : IsTurnDue m past cause came dues first) (new : Tables) (sound_new : IsSoundGives new.gives) (draft : Draft)
    (taken : draft.taken ≡ came) (begins : turns.BeginsTurn script old m past cause came dues c first turn draft)
    (runs : RunsOn script old new past (step_of (Host m.host) cause (sending_due new draft)))
    (gives : GivesForCall m past (turns.by script old m past cause came dues c first turn draft))
    (own : (y : Message) → In y draft.sent → IsNewIn past y) (own_once : EachOnce draft.sent)
    (fresh : (g : Give) → IsFirst new.gives g → In g.fid.fileset draft.due → IsOutstanding past g → ⊥)
    (due_once : EachOnce draft.due)
    (hand : (l : Leave) → In l draft.dropped
    → AtHand (turns.by script old m past cause came dues c first turn draft) past l.token × (l.why ≡ Ended → ⊥))
    (once_dropped : EachOnce (map (λ (l : Leave). l.token) draft.dropped)) (once_made : EachOnce draft.made) where
  abbrev sent : List Message
  sent = (sending_due new draft).sent

  abbrev d : Draft
  d = record draft { sent = sent }

  abbrev pub s : Step
  s = turns.by script old m past cause came dues c first turn d

  only : sending_due new draft ≡ record d { taken = came }
  only = fold_only (sending_give new) (λ e fs. giving_only new e fs) draft draft.due
      ∙ (λ i. record d { taken = taken i })

  step_is : step_of (Host m.host) cause (sending_due new draft) ≡ s
  step_is = ap (step_of (Host m.host) cause) only

  runs_s : RunsOn script old new past s
  runs_s = subst (RunsOn script old new past) step_is runs

  pub learnt : Stands script m (half s ∷ past)
  learnt = turn.learnt

  stands : Stands script new (s ∷ past)
  stands = runs_s.runs.rests.stands

  pub keeps : (t : Token) → In t (held_of new) → HeldBy (s ∷ past) t
  keeps t i = stands.cache.held t i

  pub cached : (t : Token) → HeldBy (s ∷ past) t → In t (held_of new)
  cached t h = stands.cache.cached t h

  abbrev pub stance : Stance script.roster m.host past s
  stance = standing.stance script m past s learnt (held_of new) keeps cached

  gives_s : GivesForCall m past s
  gives_s = record { syncs = gives.syncs; frees = gives.frees }

  -- # What is said: of its own, and give-backs
  abbrev IsGiven : Message → Type 0
  IsGiven y = (g : Give) × IsFirst new.gives g × In g.fid.fileset draft.due × (y.body ≡ GiveBack g)

  said : (y : Message) → In y sent → In y draft.sent ⊎ IsGiven y
  said y i = elim (fold_says (sending_give new) (λ fs z. (o : Message) × (outstanding new.gives fs ≡ Some o)
      × (z ≡ message_to new (home_at fs) o.body)) (λ e fs z j. giving_says new e fs z j) draft draft.due y i) [
        | inl j ↦ inl j
        | inr r ↦
            let k = outstanding_is new.gives sound_new r.0 r.2.0 r.2.1 in
            inr (
              k.0,
              k.3,
              subst (λ (fs : FilesetId). In fs draft.due) (sym k.2) r.1,
              ap (λ (z : Message). z.body) r.2.2 ∙ k.1,
            )
      ]

  no_give : (y : Message) → In y draft.sent → sort_of y.body ≡ 1 → ⊥
  no_give y i e = elim (new_sort past y (own y i)) [
    | inl p ↦ (let q = e in omega (arith, p, q))
    | inr p ↦ (let q = e in omega (arith, p, q))
  ]

  no_bye : (y : Message) → In y sent → y.body ≡ Bye → ⊥
  no_bye y i is = elim (said y i) [
    | inl j ↦ elim (new_sort past y (own y j)) [
      | inl p ↦ (let q = ap sort_of is in omega (arith, p, q))
      | inr p ↦ (let q = ap sort_of is in omega (arith, p, q))
    ]
    | inr r ↦ (let p = sym r.3 ∙ is in cc)
  ]

  again : (v : ServerId) (e n : ℕ) (b : Body) → Sends s v e n b → IsUnanswered past v n b → ⊥
  again v e n b x u = elim (said x.0 x.1) [
    | inl j ↦ new_answered past v n b x.0 x.2 x.5 (own x.0 j) u
    | inr r ↦ fresh r.0 r.1 r.2 (same_at past v n b x.0 (GiveBack r.0) x.2 x.5 r.3 u).0
  ]

  -- a give-back that is sent is outstanding
  is_out : (v : ServerId) (e n : ℕ) (g : Give) → Sends s v e n (GiveBack g) → IsOutstanding (s ∷ past) g
  is_out v e n g x = elim (said x.0 x.1) [
    | inl j ↦ absurd (no_give x.0 j (ap sort_of x.5))
    | inr r ↦
        let o = saying_of.first_out new.gives (s ∷ past) stands.gives r.0 r.1 in
        let p : GiveBack r.0 ≡ GiveBack g = sym r.3 ∙ x.5 in
        let same : r.0 ≡ g = cc in subst (IsOutstanding (s ∷ past)) same o
  ]

  -- # All of it
  module _ (greets : (y : Message) → In y draft.sent → y.body ≡ Hello → (IsWelcome (s ∷ past) y.server → ⊥)
      × (HasGreeted past y.server → ⊥)
      × ((call : Asked) × IsOpen (s ∷ past) call
      × GoesTo script.roster m.host past s stance call.call y.server)) where
    greets_new : (v : ServerId) (e n : ℕ) → Sends s v e n Hello → (IsWelcome (s ∷ past) v → ⊥)
        × (HasGreeted past v → ⊥)
        × ((call : Asked) × IsOpen (s ∷ past) call × GoesTo script.roster m.host past s stance call.call v)
    greets_new v e n x = elim (said x.0 x.1) [
      | inl j ↦ subst (λ (w : ServerId). (IsWelcome (s ∷ past) w → ⊥) × (HasGreeted past w → ⊥)
          × ((call : Asked) × IsOpen (s ∷ past) call × GoesTo script.roster m.host past s stance call.call w)) x.2
          (greets x.0 j x.5)
      | inr r ↦ absurd (let p = sym r.3 ∙ x.5 in cc)
    ]

    due_m : HostDue script m.host past s
    due_m = record {
      stance = stance;
      calls = record {
        syncs = unanswered.syncs script m past s learnt (held_of new) keeps cached gives_s;
        frees = gives.frees;
        greets = λ v e n x. let g = greets_new v e n x in (g.0, inr (g.1, g.2));
      };
      revokes = λ r i a j. absurd (by.no_revoke r a);
      repeats = record {
        lapse_all = λ v n b e. absurd (by.no_lapse e);
        lapse_claims = λ v e. absurd (by.no_lapse e);
        lapse_only = λ v e n b x. absurd (by.no_lapse x);
        lapse_quiet = λ e. absurd (by.no_lapse e);
        restarted_gives = λ v n g l. absurd (by.no_restart v l);
        restarted_claims = λ v l. absurd (by.no_restart v l);
        reclaimed_all = λ v n a b comes plain was still.
            absurd (by.reclaimed s refl v n a b comes plain was still);
        again_only = λ v e n b x u. absurd (again v e n b x u);
        bye_again = λ v x was had. no_bye x.2.0 x.2.1 x.2.5;
        gives_only = is_out;
      };
      leaves = record {
        held = λ l i. (hand l i).0;
        evicts = λ e. absurd (by.no_evict e);
        ends = λ e. inl (c.k, c.call, begins.there (by.ends_first e));
        ends_all = λ l e i why. absurd ((hand l i).1 why);
      };
      once = given_once new sound_new draft.due due_once draft own_once no_give;
      once_taken = by.once_came;
      once_dropped = once_dropped;
      once_made = once_made;
    }

    pub draft_due : HostDue script old.host past (step_of (Host m.host) cause (sending_due new draft))
    draft_due = subst (λ (x : HostId × Step). HostDue script x.0 past x.1) (λ i. ((sym turn.host) i, (sym step_is) i))
        due_m
