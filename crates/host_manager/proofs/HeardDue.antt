-- What is due of a step in which a host has heard a message, and makes nothing of its open call.
use Rattle.base_types.specs.declared.ids.FilesetId.{FilesetId}
use Rattle.base_types.specs.declared.ids.HostId.{HostId}
use Rattle.base_types.specs.declared.ids.ServerId.{ServerId}
use Rattle.host_asks.specs.Asking.{Doing, doing}
use Rattle.host_asks.specs.Going.{Goes, GoesOn}
use Rattle.host_asks.specs.Going.GoesOn.{IsNone, IsOpen}
use Rattle.host_gives.specs.Giving.{outstanding}
use Rattle.host_leaves.specs.Sending.{message_to, sending_due, sending_give}
use Rattle.host_manager.proofs.Folding.{fold_keeps, fold_says, giving_keeps, giving_says}
use Rattle.host_manager.proofs.HeardOn.{HasHeard, waits_same}
use Rattle.host_manager.proofs.Outlasts.{waits_rest}
use Rattle.host_manager.proofs.Repeated.{given_once, sort_of}
use Rattle.host_tables.proofs.Outstanding.{outstanding_is}
use Rattle.host_tables.proofs.Resting.{idle_rests}
use Rattle.host_tables.specs.Answering.{GivesForCall}
use Rattle.host_tables.specs.Half.{half}
use Rattle.host_tables.specs.Saying.{IsFirst}
use Rattle.host_tables.specs.Stands.{IsAtRest, Stands}
use Rattle.host_tables.specs.Tables.{held_of, site_at}
use Rattle.host_tables.specs.Updates.{home_at}
use Rattle.host_tables.specs.WholeSteps.{hears_says}
use Rattle.host_tables.specs.declared.calls.Request.{Request}
use Rattle.host_tables.specs.declared.draft.Draft.{Draft}
use Rattle.host_tables.specs.declared.tables.Tables.{Tables}
use Rattle.message_types.specs.declared.giving.Give.{Give}
use Rattle.message_types.specs.declared.giving.Reclaimed.{Reclaimed as ReclaimedOf}
use Rattle.message_types.specs.declared.message.Body.{Body}
use Rattle.message_types.specs.declared.message.Body.TheVariants.{Bye, Change, Done, Down, Fetch, GiveBack, Gone, Grant}
use Rattle.message_types.specs.declared.message.Body.TheVariants.{Hello, Kept, NotHere, Reclaim, Reclaimed, Restarted}
use Rattle.message_types.specs.declared.message.Body.TheVariants.{Returned, Revoke, Ship, Shipped}
use Rattle.message_types.specs.declared.message.Message.{Message}
use Rattle.message_types.specs.declared.tokens.Revoke.{Revoke as RevokeOf}
use Rattle.run_rules.specs.HostDue.{HostDue, IsNoGiveBack, IsUnanswered, SendsAgain}
use Rattle.run_rules.specs.HostMay.{LearnsRestart}
use Rattle.run_rules.specs.Messages.{About, Comes, HasBye, Sends, epoch_at}
use Rattle.run_rules.specs.Past.{EachOnce, In}
use Rattle.run_rules.specs.Tokens.{HasCall, Held as HeldBy, IsOutstanding, end_of}
use Rattle.run_rules.specs.declared.step.Asked.{Asked}
use Rattle.run_rules.specs.declared.step.Step.{Step}
use Rattle.script_lines.specs.declared.script.Script.{Script}
use Rattle.std.proofs.Common.{Bool, List, None, Option, Some, ap, false, if◌then◌else◌, inl, inr, refl, subst, sym}
use Rattle.std.proofs.Common.{ℕ, ◌∙◌, ◌∷◌, ◌≡◌, ◌⊎◌}
use Rattle.token_types.specs.declared.token.Token.{Token}
use Rattle.tree_calls.specs.declared.call.Call.{Call}
use Rattle.tree_calls.specs.declared.call.Call.TheVariants.{Sync}
use Rattle.host_tables.proofs.Saying as saying_of
use Rattle.host_tables.proofs.Standing as standing
use Rattle.host_tables.proofs.Unanswered as unanswered

-- the step
abbrev pub heard_step : Tables → Message → Draft → Step
heard_step m message d = hears_says m.host message d.taken (sending_due m d).sent

-- a request, or a Bye
abbrev pub IsAsked : Body → Type 0
IsAsked b = (sort_of b ≡ 3) ⊎ (sort_of b ≡ 4)

-- what was said by then was outstanding at a server that has answered a claim; and the give-backs that are due are new
pub record IsHeardDue (m : Tables) (past : List Step) (message : Message) (d : Draft) : Type 0 where
  pub rest : IsAtRest m past
  pub no_restart : (v : ServerId) → LearnsRestart past (heard_step m message d) v → ⊥
  pub no_revoke : (r : RevokeOf) → About past (heard_step m message d) r.fid.fileset (Revoke r) → ⊥
  pub once_taken : EachOnce d.taken
  pub once_sent : EachOnce d.sent
  pub once_due : EachOnce d.due
  pub plain : (y : Message) → In y d.sent → IsAsked y.body
  pub fresh : (fs : FilesetId) → In fs d.due → (g : Give) → IsFirst m.gives g → g.fid.fileset ≡ fs
      → IsOutstanding past g → ⊥
  pub again : (y : Message) → In y d.sent
      → (a : ReclaimedOf) × Comes past (heard_step m message d) y.server (Reclaimed a)
  pub bye : (y : Message) → In y d.sent → y.body ≡ Bye → HasBye past y.server → ⊥
  pub reclaims : (v : ServerId) (n : ℕ) (a : ReclaimedOf) (b : Body)
      → Comes past (heard_step m message d) v (Reclaimed a) → IsNoGiveBack b → IsUnanswered past v n b
      → IsUnanswered (heard_step m message d ∷ past) v n b
      → (y : Message) × In y d.sent × (y.server ≡ v) × (y.moves ≡ n) × (y.body ≡ b)

again_asked : (past : List Step) (s : Step) (v : ServerId) (b : Body) → IsAsked b
    → (a : ReclaimedOf) × Comes past s v (Reclaimed a) → SendsAgain past s v b
again_asked past s v (GiveBack g) asked a = absurd (elim asked [ inl e ↦ (cc) | inr e ↦ (cc) ])
again_asked past s v Hello asked a = a
again_asked past s v (Fetch f) asked a = a
again_asked past s v (Grant g) asked a = a
again_asked past s v (Change c) asked a = a
again_asked past s v (Done c) asked a = a
again_asked past s v (Revoke r) asked a = a
again_asked past s v (Returned w) asked a = a
again_asked past s v (Kept w) asked a = a
again_asked past s v (Gone n) asked a = a
again_asked past s v (Reclaim c) asked a = a
again_asked past s v (Reclaimed c) asked a = a
again_asked past s v Restarted asked a = a
again_asked past s v Down asked a = a
again_asked past s v Bye asked a = a
again_asked past s v (NotHere n) asked a = a
again_asked past s v (Ship k) asked a = a
again_asked past s v (Shipped k) asked a = a

module _ (script : Script) (old m : Tables) (past : List Step) (message : Message) (d : Draft)
    (it : HasHeard script old m past message d) (due : IsHeardDue m past message d) where
  abbrev d2 : Draft
  d2 = sending_due m d

  abbrev s : Step
  s = heard_step m message d

  learnt : Stands script m (half s ∷ past)
  learnt = it.learnt

  -- # The open call has nothing to give back
  open_call : (k : ℕ) (call : Call) → HasCall past s k call → m.call ≡ Some (record { k = k; call = call })
  open_call k call (inl (inl e)) = absurd (let p = e in cc)
  open_call k call (inl (inr b)) = elim b.1 [ ]
  open_call k call (inr g) =
      learnt.call.asked (record { k = k; call = call }) (inr (g.0, g.1, λ a i. elim i [ ]))

  none_for_call : GivesForCall m past s
  none_for_call = record {
    syncs = λ k place fid t turn finds i at dirty. absurd (due.rest.synced (record { k = k; call = Sync place })
        place fid t (open_call k (Sync place) turn) refl finds i at dirty);
    frees = λ k u turn f. absurd (due.rest.freed (record { k = k; call = end_of u }) u
        (open_call k (end_of u) turn) refl f);
  }

  keeps : (t : Token) → In t (held_of m) → HeldBy (s ∷ past) t
  keeps t i = ((learnt.cache.held t i).0, λ k. elim k.1 [ ])

  cached : (t : Token) → HeldBy (s ∷ past) t → In t (held_of m)
  cached t h = learnt.cache.cached t (h.0, λ k. elim k.1 [ ])

  -- # What is said
  -- it was said by then, or a give-back that is due
  abbrev IsGiven : Message → Type 0
  IsGiven y = (g : Give) × IsFirst m.gives g × In g.fid.fileset d.due × (y.body ≡ GiveBack g)

  said : (y : Message) → In y d2.sent → In y d.sent ⊎ IsGiven y
  said y i = elim (fold_says (sending_give m) (λ fs z. (o : Message) × (outstanding m.gives fs ≡ Some o)
      × (z ≡ message_to m (home_at fs) o.body)) (λ e fs z j. giving_says m e fs z j) d d.due y i) [
        | inl j ↦ inl j
        | inr r ↦
            let k = outstanding_is m.gives it.gives r.0 r.2.0 r.2.1 in
            inr (
              k.0,
              k.3,
              subst (λ (fs : FilesetId). In fs d.due) (sym k.2) r.1,
              ap (λ (z : Message). z.body) r.2.2 ∙ k.1,
            )
      ]

  not_given : (y : Message) → In y d2.sent → ((g : Give) → y.body ≡ GiveBack g → ⊥) → In y d.sent
  not_given y i other = elim (said y i) [ inl j ↦ j | inr r ↦ absurd (other r.0 r.3) ]

  is_out : (g : Give) → IsFirst m.gives g → IsOutstanding (s ∷ past) g
  is_out g first =
      let o = saying_of.first_out m.gives (half s ∷ past) learnt.gives g first in
      record { made = o.made; unknown = o.unknown; first = o.first }

  given_out : (v : ServerId) (e n : ℕ) (g : Give) → Sends s v e n (GiveBack g) → IsOutstanding (s ∷ past) g
  given_out v e n g x = elim (said x.0 x.1) [
    | inl j ↦ absurd (elim (subst IsAsked x.5 (due.plain x.0 j)) [ inl q ↦ (cc) | inr q ↦ (cc) ])
    | inr r ↦
        let p : GiveBack r.0 ≡ GiveBack g = sym r.3 ∙ x.5 in
        let same : r.0 ≡ g = cc in subst (IsOutstanding (s ∷ past)) same (is_out r.0 r.1)
  ]

  again_sent : (v : ServerId) (e n : ℕ) (b : Body) → Sends s v e n b → IsUnanswered past v n b → SendsAgain past s v b
  again_sent v e n b x u = elim (said x.0 x.1) [
    | inl j ↦
        let a = due.again x.0 j in
        again_asked past s v b (subst IsAsked x.5 (due.plain x.0 j))
        (a.0, subst (λ (w : ServerId). Comes past s w (Reclaimed a.0)) x.2 a.1)
    | inr r ↦ absurd (
        let u_g = subst (IsUnanswered past v n) (sym x.5 ∙ r.3) u in
        due.fresh r.0.fid.fileset r.2 r.0 r.1 refl u_g.0
        )
  ]

  sent_again : (y : Message) → In y d.sent → In y d2.sent
  sent_again y i = fold_keeps (sending_give m) (λ e fs z j. giving_keeps m e fs z j) d d.due y i

  reclaimed_sends : (v : ServerId) (n : ℕ) (a : ReclaimedOf) (b : Body) → Comes past s v (Reclaimed a)
      → IsNoGiveBack b → IsUnanswered past v n b → IsUnanswered (s ∷ past) v n b
      → Sends s v (epoch_at (s ∷ past) v) n b
  reclaimed_sends v n a b comes plain u still =
      let r = due.reclaims v n a b comes plain u still in (
        r.0,
        sent_again r.0 r.1,
        r.2,
        (it.says s r.0 r.1).0.repeats.epoch
            ∙ (ap (λ (w : ServerId). (site_at m.sites w).epoch) r.2 ∙ (learnt.sites v).epoch),
        r.3,
        r.4,
      )

  due_m : HostDue script m.host past s
  due_m = record {
    stance = standing.stance script m past s learnt (held_of m) keeps cached;
    calls = record {
      syncs = unanswered.syncs script m past s learnt (held_of m) keeps cached none_for_call;
      frees = none_for_call.frees;
      greets = λ v e n x. absurd (elim (subst IsAsked x.5 (due.plain x.0
          (not_given x.0 x.1 (λ g q. let p = sym x.5 ∙ q in cc)))) [ inl q ↦ (cc) | inr q ↦ (cc) ]);
    };
    revokes = λ r i a j. absurd (due.no_revoke r a);
    repeats = record {
      lapse_all = λ v n b c u. absurd (let p = c in cc);
      lapse_claims = λ v c w. absurd (let p = c in cc);
      lapse_only = λ v e n b c x. absurd (let p = c in cc);
      lapse_quiet = λ c. absurd (let p = c in cc);
      restarted_gives = λ v n g l. absurd (due.no_restart v l);
      restarted_claims = λ v l. absurd (due.no_restart v l);
      reclaimed_all = reclaimed_sends;
      again_only = λ v e n b x u. inr (again_sent v e n b x u);
      bye_again = λ v x had has. due.bye x.2.0
          (not_given x.2.0 x.2.1 (λ g q. let p = sym x.2.5 ∙ q in cc)) x.2.5
          (subst (HasBye past) (sym x.2.2) has);
      gives_only = given_out;
    };
    leaves = record {
      held = λ l i. elim i [ ];
      evicts = λ e. absurd (let p = e in cc);
      ends = λ e. absurd (let p = e in cc);
      ends_all = λ l e. absurd (let p = e in cc);
    };
    once = given_once m it.gives d.due due.once_due d due.once_sent
        (λ y i q. elim (due.plain y i) [
          | inl k ↦ (let p = sym q ∙ k in cc)
          | inr k ↦ (let p = sym q ∙ k in cc)
        ]);
    once_taken = due.once_taken;
    once_dropped = tt;
    once_made = tt;
  }

  pub heard_due : HostDue script old.host past s
  heard_due = subst (λ (h : HostId). HostDue script h past s) (sym it.host) due_m

-- # Whether anything is made of the open call
-- it is gone on with
pub record IsTurned (m : Tables) (d : Draft) (at : Doing) : Type 0 where
  pub c : Asked
  pub open_is : m.call ≡ Some c
  pub idle : m.request ≡ None
  pub gone : Doing
  pub answered : Bool
  pub goes : Goes c.k c.call false (doing (record m { call = None }) d) gone answered
  pub is : at ≡ (if answered then gone else record gone { tables = record gone.tables { call = Some c } })

module _ (script : Script) (old m : Tables) (past : List Step) (message : Message) (d : Draft)
    (it : HasHeard script old m past message d) where
  pub heard_cases : (at : Doing) → GoesOn (doing m d) at
      → (IsAtRest m past × (at ≡ doing m d)) ⊎ IsTurned m d at
  heard_cases at (IsNone none is) = inl (idle_rests m past none (it.idle none), is)
  heard_cases at (IsOpen c open_is gone answered goes is) = by_request m.request refl
    where
      by_request : (r : Option Request) → m.request ≡ r
          → (IsAtRest m past × (at ≡ doing m d)) ⊎ IsTurned m d at
      by_request None e = inr (record {
        c = c;
        open_is = open_is;
        idle = e;
        gone = gone;
        answered = answered;
        goes = goes;
        is = is;
      })
      by_request (Some r) e =
          let busy : m.request ≡ None → ⊥ = λ q. absurd (let p = sym e ∙ q in cc) in
          inl (
            waits_rest m past c open_is busy (it.asking c open_is busy),
            is ∙ waits_same script old m past message d it c open_is busy gone answered goes,
          )
