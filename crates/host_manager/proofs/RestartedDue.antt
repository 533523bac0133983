-- What is due of a Restarted of a server that was greeted: what is on its way goes again, and a claim.
use Rattle.base_types.specs.declared.ids.FilesetId.{FilesetId}
use Rattle.base_types.specs.declared.ids.ServerId.{ServerId}
use Rattle.host_gives.specs.Giving.{IsSound as IsSoundGives, outstanding}
use Rattle.host_asks.specs.Claiming.{claim_of}
use Rattle.host_leaves.specs.Sending.{filesets_given, message_to, saying, sending_give}
use Rattle.host_manager.proofs.Folding.{fold_said, fold_says, giving_keeps, giving_said, giving_says, saying_keeps}
use Rattle.host_manager.proofs.Folding.{saying_says}
use Rattle.host_manager.proofs.Heard.{comes_so}
use Rattle.host_manager.proofs.OnceSaid.{fold_once, once_more}
use Rattle.host_manager.proofs.Repeated.{filesets_have, filesets_once}
use Rattle.host_manager.specs.Learning.{renewed}
use Rattle.host_manager.specs.Running.{IsRunning}
use Rattle.host_manager.specs.Taking.{sending_to}
use Rattle.host_tables.proofs.Declared.{home_is}
use Rattle.host_tables.proofs.Outstanding.{first_outstanding, outstanding_is}
use Rattle.host_tables.proofs.RestingOn.{rest_with}
use Rattle.host_tables.specs.Answering.{GivesForCall}
use Rattle.host_tables.specs.Drafts.{no_draft}
use Rattle.host_tables.specs.Half.{half}
use Rattle.host_tables.specs.Saying.{IsFirst}
use Rattle.host_tables.specs.Stands.{IsAtRest, Stands}
use Rattle.host_tables.specs.Tables.{held_of, site_at}
use Rattle.host_tables.specs.Updates.{home_at}
use Rattle.host_tables.specs.declared.draft.Draft.{Draft}
use Rattle.host_tables.specs.declared.tables.Tables.{Tables}
use Rattle.message_types.specs.Soundness.{IsSound}
use Rattle.message_types.specs.declared.giving.Give.{Give}
use Rattle.message_types.specs.declared.giving.Reclaim.{Reclaim as ReclaimOf}
use Rattle.message_types.specs.declared.message.Body.{Body}
use Rattle.message_types.specs.declared.message.Body.TheVariants.{Bye, GiveBack, Hello, Reclaim, Reclaimed, Restarted}
use Rattle.message_types.specs.declared.message.Body.TheVariants.{Revoke}
use Rattle.message_types.specs.declared.message.Direction.TheVariants.{ToHost}
use Rattle.message_types.specs.declared.message.Message.{Message}
use Rattle.run_rules.specs.HostDue.{HostDue, IsUnanswered, SendsAgain}
use Rattle.run_rules.specs.HostMay.{ClaimsAt, LearnsRestart}
use Rattle.run_rules.specs.Messages.{ComesIn, Sends, Stay, epoch_at, stay_of}
use Rattle.run_rules.specs.Past.{EachOnce, In}
use Rattle.run_rules.specs.Tokens.{HasCall, Held as HeldBy, IsOutstanding, end_of}
use Rattle.run_rules.specs.declared.step.Step.{Step}
use Rattle.script_lines.specs.declared.script.Script.{Script}
use Rattle.std.proofs.Common.{Bool, List, None, Option, Some, [], ap, eq-eqb, eqb-true, false, if◌then◌else◌, inl}
use Rattle.std.proofs.Common.{inr, map, refl, subst, sym, true, ℕ, ◌<◌, ◌==◌, ◌∙◌, ◌∷◌, ◌≡◌, ◌⊎◌}
use Rattle.std.specs.Option.{option_map_or}
use Rattle.token_types.specs.declared.token.Token.{Token}
use Rattle.tree_calls.specs.declared.call.Call.{Call}
use Rattle.tree_calls.specs.declared.call.Call.TheVariants.{Sync}
use Rattle.host_gives.specs.Giving.{give_of, given_in}
use Rattle.host_manager.proofs.Restarted as taught
use Rattle.host_tables.proofs.Saying as saying_of
use Rattle.host_tables.proofs.Standing as standing
use Rattle.host_tables.proofs.Unanswered as unanswered

-- the fileset of a give-back
abbrev fileset_in : Message → FilesetId
fileset_in y = option_map_or (λ (give : Give). give.fid.fileset) (give_of y) (record { 0 = 0 })

module _ (script : Script) (m : Tables) (past : List Step) (message : Message) (running : IsRunning script m past)
    (sound : IsSound script.roster message) (host_is : message.host ≡ m.host) (way : message.direction ≡ ToHost)
    (b : message.body ≡ Restarted) (up : (site_at m.sites message.server).epoch < message.epoch)
    (gives : IsSoundGives m.gives)
    (greeted : (site_at (renewed message.server message.epoch m).sites message.server).greeted ≡ true) where
  abbrev v : ServerId
  v = message.server

  abbrev m1 : Tables
  m1 = renewed v message.epoch m

  abbrev new : Tables
  new = taught.new script m past message running sound host_is way b up gives greeted

  abbrev given : Draft
  given = taught.given script m past message running sound host_is way b up gives greeted

  abbrev claim : Message
  claim = message_to new v (Reclaim (claim_of new v))

  abbrev s : Step
  s = taught.s script m past message running sound host_is way b up gives greeted

  stands : Stands script m past
  stands = running.rests.stands

  learnt : Stands script m1 (half s ∷ past)
  learnt = taught.learnt script m past message running sound host_is way b up gives greeted

  rest : IsAtRest m1 past
  rest = rest_with m m1.sites m1.floors past running.rests.rest

  -- # The open call has nothing to give back
  open_call : (k : ℕ) (call : Call) → HasCall past s k call → m1.call ≡ Some (record { k = k; call = call })
  open_call k call (inl (inl e)) = absurd (let p = e in cc)
  open_call k call (inl (inr b)) = elim b.1 [ ]
  open_call k call (inr g) =
      learnt.call.asked (record { k = k; call = call }) (inr (g.0, g.1, λ a i. elim i [ ]))

  none_for_call : GivesForCall m1 past s
  none_for_call = record {
    syncs = λ k place fid t turn finds i at dirty. absurd (rest.synced (record { k = k; call = Sync place })
        place fid t (open_call k (Sync place) turn) refl finds i at dirty);
    frees = λ k u turn f. absurd (rest.freed (record { k = k; call = end_of u }) u (open_call k (end_of u) turn) refl
        f);
  }

  keeps : (t : Token) → In t (held_of m1) → HeldBy (s ∷ past) t
  keeps t i = ((learnt.cache.held t i).0, λ k. elim k.1 [ ])

  cached : (t : Token) → HeldBy (s ∷ past) t → In t (held_of m1)
  cached t h = learnt.cache.cached t (h.0, λ k. elim k.1 [ ])

  -- # What is said
  abbrev IsGiven : Message → Type 0
  IsGiven y = (g : Give) × IsFirst m.gives g × (y.body ≡ GiveBack g) × (y.server ≡ v)

  one_says : (d : Draft) (fs : FilesetId) (z : Message) → In z (sending_to new v d fs).sent → In z d.sent ⊎ IsGiven z
  one_says d fs z i = by_home ((home_at fs).0 == v.0) refl i
    where
      by_home : (t : Bool) → ((home_at fs).0 == v.0) ≡ t → In z (if t then sending_give new d fs else d).sent
          → In z d.sent ⊎ IsGiven z
      by_home false q j = inl j
      by_home true q j = elim (giving_says new d fs z j) [
        | inl k ↦ inl k
        | inr r ↦
            let k = outstanding_is m.gives gives fs r.0 r.1 in
            let n = eqb-true (home_at fs).0 v.0 q in
            inr (
              k.0,
              k.3,
              ap (λ (y : Message). y.body) r.2 ∙ k.1,
              ap (λ (y : Message). y.server) r.2 ∙ (λ i. record { 0 = n i }),
            )
      ]

  given_is : (y : Message) → In y given.sent → IsGiven y
  given_is y i = elim (fold_says (sending_to new v) (λ fs z. IsGiven z) one_says_in no_draft
      (filesets_given m.gives.gives) y i) [
        | inl n ↦ elim n [ ]
        | inr r ↦ r.2
      ]
    where
      one_says_in : (d : Draft) (fs : FilesetId) (z : Message) → In z (sending_to new v d fs).sent
          → In z d.sent ⊎ IsGiven z
      one_says_in d fs z j = one_says d fs z j

  said : (y : Message) → In y s.sent → IsGiven y ⊎ (y ≡ claim)
  said y i = elim (saying_says new v (Reclaim (claim_of new v)) given y i) [
    | inl j ↦ inl (given_is y j)
    | inr q ↦ inr q
  ]

  not_said : (c : Body) → ((g : Give) → GiveBack g ≡ c → ⊥) → ((k : ReclaimOf) → Reclaim k ≡ c → ⊥) → (y : Message)
      → In y s.sent → y.body ≡ c → ⊥
  not_said c no_give no_claim y i q = elim (said y i) [
    | inl r ↦ no_give r.0 (sym r.2 ∙ q)
    | inr r ↦ no_claim (claim_of new v) (sym (ap (λ (z : Message). z.body) r) ∙ q)
  ]

  is_out : (g : Give) → IsFirst m.gives g → IsOutstanding (s ∷ past) g
  is_out g first =
      let o = saying_of.first_out m.gives (half s ∷ past) learnt.gives g first in
      record { made = o.made; unknown = o.unknown; first = o.first }

  -- all of it is said
  one_keeps : (d : Draft) (fs : FilesetId) (y : Message) → In y d.sent → In y (sending_to new v d fs).sent
  one_keeps d fs y i = by_home ((home_at fs).0 == v.0)
    where
      by_home : (t : Bool) → In y (if t then sending_give new d fs else d).sent
      by_home true = giving_keeps new d fs y i
      by_home false = i

  from_v : (c : Body) (w : ServerId) (k l : ℕ) → ComesIn s w k l c → v ≡ w
  from_v c w k l z = let p : message ≡ z.0 = cc in ap (λ (y : Message). y.server) p ∙ z.2

  gives_all : (n : ℕ) (g : Give) → IsOutstanding past g → stay_of past g.fid.fileset ≡ record { server = v; moves = n }
      → Sends s v (epoch_at (s ∷ past) v) n (GiveBack g)
  gives_all n g o stay =
      let first = saying_of.out_first m.gives past stands.gives g o in
      let z = first_outstanding m.gives gives g first in
      let fs : FilesetId = g.fid.fileset in
      let declared = (running.tidy.gives first.message g first.within first.body).declared in
      let there : home_at fs ≡ v =
      home_is script.roster m running.tidy fs declared ∙ ap (λ (k : Stay). k.server) stay in
      let hit : ((home_at fs).0 == v.0) ≡ true =
      eq-eqb (home_at fs).0 v.0 (ap (λ (w : ServerId). w.0) there) in
      let y : Message = message_to new (home_at fs) z.0.body in
      let in_given : In y given.sent =
      fold_said (sending_to new v) one_keeps fs y
      (λ d. subst (λ (t : Bool). In y (if t then sending_give new d fs else d).sent) (sym hit)
      (giving_said new d fs z.0 z.1))
      no_draft (filesets_given m.gives.gives) (filesets_have m.gives.gives [] first.message g first.within
      first.body) in (
        y,
        saying_keeps new v (Reclaim (claim_of new v)) given y in_given,
        there,
        taught.epochs script m past message running sound host_is way b up gives greeted (home_at fs)
            ∙ (ap (λ (w : ServerId). (site_at m1.sites w).epoch) there ∙ (learnt.sites v).epoch),
        ap (λ (k : Stay). k.moves) stay,
        z.2,
      )

  -- each once
  one_once : (d : Draft) (fs : FilesetId) → EachOnce d.sent
      → ((y : Message) → In y d.sent → Unit {0} → fileset_in y ≡ fs → ⊥) → EachOnce (sending_to new v d fs).sent
  one_once d fs once apart = by_home ((home_at fs).0 == v.0)
    where
      by_out : (o : Option Message) → outstanding m.gives fs ≡ o
          → EachOnce (option_map_or (λ message. saying new (home_at fs) message.body d) o d).sent
      by_out None q = once
      by_out (Some z) q =
          let r = outstanding_is m.gives gives fs z q in
          once_more d.sent (message_to new (home_at fs) z.body) once
          (λ i. apart (message_to new (home_at fs) z.body) i tt
          (ap (λ (b : Body). option_map_or (λ (give : Give). give.fid.fileset) (given_in b) (record { 0 = 0 })) r.1
          ∙ r.2))

      by_home : (t : Bool) → EachOnce (if t then sending_give new d fs else d).sent
      by_home true = by_out (outstanding m.gives fs) refl
      by_home false = once

  fileset_says : (d : Draft) (fs : FilesetId) (y : Message) → In y (sending_to new v d fs).sent
      → In y d.sent ⊎ (fileset_in y ≡ fs)
  fileset_says d fs y i = by_home ((home_at fs).0 == v.0) i
    where
      by_home : (t : Bool) → In y (if t then sending_give new d fs else d).sent → In y d.sent ⊎ (fileset_in y ≡ fs)
      by_home false j = inl j
      by_home true j = elim (giving_says new d fs y j) [
        | inl k ↦ inl k
        | inr r ↦
            let k = outstanding_is m.gives gives fs r.0 r.1 in
            inr (ap fileset_in r.2
            ∙ (ap (λ (b : Body). option_map_or (λ (give : Give). give.fid.fileset) (given_in b) (record { 0 = 0 })) k.1
            ∙ k.2))
      ]

  map_same : (xs : List FilesetId) → map (λ (fs : FilesetId). fs) xs ≡ xs
  map_same [] = refl
  map_same (x ∷ xs) = ap (λ (ys : List FilesetId). x ∷ ys) (map_same xs)

  once_given : EachOnce given.sent
  once_given = fold_once (sending_to new v) (λ (fs : FilesetId). fs) fileset_in (λ y. Unit {0}) one_once fileset_says
      (filesets_given m.gives.gives)
      (subst EachOnce (sym (map_same (filesets_given m.gives.gives))) (filesets_once m.gives.gives [] tt)) no_draft tt
      (λ y i. elim i [ ])

  once_sent : EachOnce s.sent
  once_sent = once_more given.sent claim once_given (λ i.
      let r = given_is claim i in let p = r.2 in absurd (cc))

  pub restarted_due : HostDue script m.host past s
  restarted_due = record {
    stance = standing.stance script m1 past s learnt (held_of m1) keeps cached;
    calls = record {
      syncs = unanswered.syncs script m1 past s learnt (held_of m1) keeps cached none_for_call;
      frees = none_for_call.frees;
      greets = λ w e n x. absurd (not_said Hello (λ g q. absurd (cc)) (λ k q. absurd (cc)) x.0 x.1 x.5);
    };
    revokes = λ r i a j. absurd (let p = comes_is (Revoke r) _ _ _ a in cc);
    repeats = record {
      lapse_all = λ w n c k u. absurd (let p = k in cc);
      lapse_claims = λ w c k. absurd (let p = c in cc);
      lapse_only = λ w e n c k x. absurd (let p = k in cc);
      lapse_quiet = λ c. absurd (let p = c in cc);
      restarted_gives = λ w n g l u.
          let q = from_v Restarted w _ _ l.2.2 in
          subst (λ (z : ServerId). Sends s z (epoch_at (s ∷ past) z) n (GiveBack g)) q
          (gives_all n g u.0 (subst (λ (z : ServerId). stay_of past g.fid.fileset ≡ record { server = z; moves = n })
          (sym q) u.1));
      restarted_claims = λ w l. subst (ClaimsAt s) (from_v Restarted w _ _ l.2.2)
          (taught.claims_here script m past message running sound host_is way b up gives greeted);
      reclaimed_all = λ w n a c z. absurd (let p = comes_is (Reclaimed a) _ _ _ z in cc);
      again_only = λ w e n c x u. inr (again_sent w e n c x u);
      bye_again = λ w x had has.
          not_said Bye (λ g q. absurd (cc)) (λ k q. absurd (cc)) x.2.0 x.2.1 x.2.5;
      gives_only = given_out;
    };
    leaves = record {
      held = λ l i. elim i [ ];
      evicts = λ e. absurd (let p = e in cc);
      ends = λ e. absurd (let p = e in cc);
      ends_all = λ l e. absurd (let p = e in cc);
    };
    once = once_sent;
    once_taken = tt;
    once_dropped = tt;
    once_made = tt;
  }
    where
      comes_is : (c : Body) (w : ServerId) (k l : ℕ) → ComesIn s w k l c → Restarted ≡ c
      comes_is c w k l z =
          comes_so m.host message past Restarted b host_is way w k l c (z.0, z.1, z.2, z.3, z.4, z.5)

      given_out : (w : ServerId) (e n : ℕ) (g : Give) → Sends s w e n (GiveBack g) → IsOutstanding (s ∷ past) g
      given_out w e n g x = elim (said x.0 x.1) [
        | inl r ↦
            let p : GiveBack r.0 ≡ GiveBack g = sym r.2 ∙ x.5 in
            let same : r.0 ≡ g = cc in subst (IsOutstanding (s ∷ past)) same (is_out r.0 r.1)
        | inr r ↦ absurd (let p = sym (ap (λ (z : Message). z.body) r) ∙ x.5 in cc)
      ]

      again_sent : (w : ServerId) (e n : ℕ) (c : Body) → Sends s w e n c → IsUnanswered past w n c
          → SendsAgain past s w c
      again_sent w e n c x u = elim (said x.0 x.1) [
        | inl r ↦ subst (SendsAgain past s w) (sym r.2 ∙ x.5) (inl (subst (LearnsRestart past s) (sym r.3 ∙ x.2)
            (taught.restart script m past message running sound host_is way b up gives greeted)))
        | inr r ↦ absurd (subst (IsUnanswered past w n) (sym x.5 ∙ ap (λ (z : Message). z.body) r) u)
      ]
