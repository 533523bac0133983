-- What is sent where one give-back is made, and nothing is returned.
use Rattle.base_types.specs.declared.ids.FilesetId.{FilesetId}
use Rattle.host_gives.specs.Counters.{last_of}
use Rattle.host_gives.specs.Giving.{IsSound as IsSoundGives, is_of, outstanding}
use Rattle.host_leaves.specs.Sending.{message_to, sending_give}
use Rattle.host_manager.proofs.Folding.{OnlySends, fold_only, fold_said, fold_says, giving_keeps, giving_only}
use Rattle.host_manager.proofs.Folding.{giving_said, giving_says}
use Rattle.host_manager.proofs.Given.{of_body}
use Rattle.host_manager.proofs.Turns.{IsTurn}
use Rattle.host_tables.proofs.Outstanding.{first_outstanding, found_in, found_some, outstanding_is}
use Rattle.host_tables.proofs.Saying.{first_out, out_first}
use Rattle.host_tables.specs.Half.{learning}
use Rattle.host_tables.specs.LeavingSteps.{LeavesRight, Left}
use Rattle.host_tables.specs.Saying.{IsFirst}
use Rattle.host_tables.specs.Updates.{home_at}
use Rattle.host_tables.specs.declared.draft.Draft.{Draft}
use Rattle.host_tables.specs.declared.tables.Tables.{Tables}
use Rattle.message_types.specs.declared.giving.Give.{Give}
use Rattle.message_types.specs.declared.message.Body.TheVariants.{GiveBack}
use Rattle.message_types.specs.declared.message.Message.{Message}
use Rattle.run_rules.specs.Messages.{HasStopped, SendsTo, home, stay_of}
use Rattle.run_rules.specs.Past.{In}
use Rattle.run_rules.specs.Tokens.{IsKnown, IsOutstanding, Made}
use Rattle.run_rules.specs.declared.step.Asked.{Asked}
use Rattle.run_rules.specs.declared.step.Cause.{Cause}
use Rattle.run_rules.specs.declared.step.Step.{Step}
use Rattle.script_lines.specs.declared.script.Script.{Script}
use Rattle.std.proofs.Common.{Bool, List, None, Option, Some, [], ap, arith, eq-eqb, fold, inl, inr, refl, subst, sym}
use Rattle.std.proofs.Common.{◌+◌, ◌<◌, ◌∙◌, ◌∷◌, ◌≡◌, ◌≤◌}
use Rattle.token_types.specs.declared.token.Token.{Token}
use Rattle.host_manager.proofs.Turns as turns

module _ (script : Script) (old m : Tables) (past : List Step) (cause : Cause) (came : List Token)
    (dues : List FilesetId) (c : Asked) (first : Bool) (turn : IsTurn script old m past cause came dues c first)
    (sound : IsSoundGives m.gives) (l : Left) (x : Tables) (gives_are : x.gives ≡ l.gives)
    (sound_l : IsSoundGives l.gives) (g : Give) (number : g.number ≡ last_of m.gives.counters g.fid.fileset + 1)
    (homes : (k : Give) → IsFirst l.gives k → home_at k.fid.fileset ≡ home k.fid.fileset) (all : List FilesetId)
    (more : (fs : FilesetId) → In fs dues → In fs all)
    (has_due : outstanding m.gives g.fid.fileset ≡ None → In g.fid.fileset all) (start : Draft)
    (silent : start.sent ≡ []) where
  abbrev h : Step
  h = learning m.host cause came

  abbrev pub sending : Draft
  sending = fold (sending_give x) start all

  pub only : OnlySends start sending
  only = fold_only (sending_give x) (λ d fs. giving_only x d fs) start all

  pub said : (y : Message) → In y sending.sent → (fs : FilesetId) × (z : Message) × (outstanding x.gives fs ≡ Some z)
      × (y ≡ message_to x (home_at fs) z.body)
  said y i = elim (fold_says (sending_give x) (λ fs z. (o : Message) × (outstanding x.gives fs ≡ Some o)
      × (z ≡ message_to x (home_at fs) o.body)) (λ d fs z j. giving_says x d fs z j) start all y i) [
        | inl j ↦ elim (subst (λ (ys : List Message). In y ys) silent j) [ ]
        | inr r ↦ (r.0, r.2.0, r.2.1, r.2.2)
      ]

  -- an older one of the fileset has a lower number
  older : (y : Message) → outstanding m.gives g.fid.fileset ≡ Some y
      → (r : Give) × In y m.gives.gives × (y.body ≡ GiveBack r) × (r.fid.fileset ≡ g.fid.fileset)
      × (r.number < g.number) × Made (h ∷ past) r × (IsKnown (h ∷ past) r → ⊥)
  older y e =
      let r = outstanding_is m.gives sound g.fid.fileset y e in
      let j = (found_in (is_of g.fid.fileset) m.gives.gives y e).0 in
      let z = turn.learnt.gives.made y j in
      let q : GiveBack r.0 ≡ GiveBack z.0 = sym r.1 ∙ z.1 in
      let is : z.0 ≡ r.0 = cc in
      let made = subst (Made (h ∷ past)) is z.2 in
      let up = subst (λ (fs : FilesetId). r.0.number ≤ last_of m.gives.counters fs) r.2
      (turn.learnt.gives.last r.0 made) in
      let n = number in
      (r.0, j, r.1, r.2, omega (arith, up, n), made, λ known. z.3 (subst (IsKnown (h ∷ past)) (sym is) known))

  module _ (d : Draft) (made_is : d.made ≡ g ∷ []) (sent_is : d.sent ≡ sending.sent)
      (right : LeavesRight m l past (turns.by script old m past cause came dues c first turn d)) where
    abbrev s : Step
    s = turns.by script old m past cause came dues c first turn d

    only_it : (k : Give) → In k s.made → k ≡ g
    only_it k i = elim (subst (λ (gs : List Give). In k gs) made_is i) [ inl e ↦ e | inr n ↦ elim n [ ] ]

    it_made : In g s.made
    it_made = subst (λ (gs : List Give). In g gs) (sym made_is) (inl refl)

    new_first : outstanding m.gives g.fid.fileset ≡ None → IsFirst l.gives g
    new_first e =
        let y = right.gives_new g it_made in record {
          message = y.0;
          within = y.1;
          body = y.2;
          least = λ other j o b fs less. elim (right.gives_from other o) [
            | inl was ↦
                let t = of_body other j g.fid.fileset b
                ∙ eq-eqb j.fid.fileset.0 g.fid.fileset.0 (ap (λ (z : FilesetId). z.0) fs) in
                let r = found_some (is_of g.fid.fileset) m.gives.gives other was t in
                let p = sym e ∙ r.1 in absurd (cc)
            | inr r ↦
                let p : GiveBack j ≡ GiveBack r.0 = sym b ∙ r.1 in
                let is : j ≡ r.0 = cc in
                let q = ap (λ (z : Give). z.number) (is ∙ only_it r.0 r.2) in omega (arith, less, q)
          ];
        }

    -- one that is outstanding then is said, where its fileset is due
    said_first : (k : Give) → IsFirst l.gives k → In k.fid.fileset all
        → SendsTo s (stay_of (s ∷ past) k.fid.fileset) (GiveBack k)
    said_first k one due =
        let r = first_outstanding l.gives sound_l k one in
        let fs : FilesetId = k.fid.fileset in
        let y : Message = message_to x (home_at fs) r.0.body in
        let there = fold_said (sending_give x) (λ d z w j. giving_keeps x d z w j) fs y
        (λ d. giving_said x d fs r.0 (ap (λ z. outstanding z fs) gives_are ∙ r.1)) start all due in
        (y.epoch, (y, subst (λ (ys : List Message). In y ys) (sym sent_is) there, homes k one, refl, refl, r.2))

    -- one that was the first is so still
    first_still : (k : Give) → IsFirst m.gives k → IsFirst l.gives k
    first_still k one = record {
      message = one.message;
      within = right.gives_old one.message one.within;
      body = one.body;
      least = λ other j o b fs less. elim (right.gives_from other o) [
        | inl was ↦ one.least other j was b fs less
        | inr r ↦
            let p : GiveBack j ≡ GiveBack r.0 = sym b ∙ r.1 in
            let is : j ≡ r.0 = cc in
            let same : j ≡ g = is ∙ only_it r.0 r.2 in
            let z = turn.learnt.gives.made one.message one.within in
            let q : GiveBack k ≡ GiveBack z.0 = sym one.body ∙ z.1 in
            let it : z.0 ≡ k = cc in
            let up = turn.learnt.gives.last k (subst (Made (h ∷ past)) it z.2) in
            let at = ap (λ (f : FilesetId). last_of m.gives.counters f)
            (sym fs ∙ ap (λ (w : Give). w.fid.fileset) same) in
            let n = ap (λ (w : Give). w.number) same in omega (arith, less, up, at, n, number)
      ];
    }

    new_sent : outstanding m.gives g.fid.fileset ≡ None
        → SendsTo s (stay_of (s ∷ past) g.fid.fileset) (GiveBack g)
    new_sent e = said_first g (new_first e) (has_due e)

    pub due : (k : Give) → IsFirst l.gives k → (IsFirst old.gives k → ⊥)
        → SendsTo s (stay_of (s ∷ past) k.fid.fileset) (GiveBack k)
    due k one fresh = elim (right.gives_from one.message one.within) [
      | inl was ↦
          let before : IsFirst m.gives k = record {
            message = one.message;
            within = was;
            body = one.body;
            least = λ other j i b fs less. one.least other j (right.gives_old other i) b fs less;
          } in said_first k one (more k.fid.fileset (turn.due k before fresh))
      | inr r ↦
          let p : GiveBack k ≡ GiveBack r.0 = sym one.body ∙ r.1 in
          let is : r.0 ≡ k = cc in
          let same : g ≡ k = sym (only_it r.0 r.2) ∙ is in
          subst (λ (z : Give). SendsTo s (stay_of (s ∷ past) z.fid.fileset) (GiveBack z)) same
          (new_sent (by_one (subst (IsFirst l.gives) (sym same) one) (outstanding m.gives g.fid.fileset) refl))
    ]
      where
        by_one : IsFirst l.gives g → (o : Option Message) → outstanding m.gives g.fid.fileset ≡ o → o ≡ None
        by_one one None e = refl
        by_one one (Some y) e =
            let r = older y e in
            absurd (one.least y r.0 (right.gives_old y r.1) r.2 r.3 r.4)

    none_new : (k : Give) → IsOutstanding (s ∷ past) k → Made past k → IsFirst m.gives k
    none_new k o made = out_first m.gives (h ∷ past) turn.learnt.gives k (record {
      made = inr made;
      unknown = o.unknown;
      first = λ w. o.first (w.0, still w.0 w.1, w.2, w.3, w.4);
    })
      where
        still : (w : Give) → Made (h ∷ past) w → Made (s ∷ past) w
        still w (inl i) = elim i [ ]
        still w (inr i) = inr i

    pub sends : (k : Give) → IsOutstanding (s ∷ past) k → (IsOutstanding past k → ⊥) → (HasStopped (s ∷ past) → ⊥)
        → SendsTo s (stay_of (s ∷ past) k.fid.fileset) (GiveBack k)
    sends k o fresh live = elim o.made [
      | inr made ↦
          let before = none_new k o made in
          said_first k (first_still k before) (more k.fid.fileset (turn.due k before
          (λ f. fresh (first_out old.gives past turn.running.rests.stands.gives k f))))
      | inl i ↦
          let same = only_it k i in
          subst (λ (z : Give). SendsTo s (stay_of (s ∷ past) z.fid.fileset) (GiveBack z)) (sym same)
          (new_sent (by_one (subst (IsOutstanding (s ∷ past)) same o) (outstanding m.gives g.fid.fileset) refl))
    ]
      where
        made_still : (w : Give) → Made (h ∷ past) w → Made (s ∷ past) w
        made_still w (inl i) = elim i [ ]
        made_still w (inr i) = inr i

        by_one : IsOutstanding (s ∷ past) g → (o : Option Message) → outstanding m.gives g.fid.fileset ≡ o → o ≡ None
        by_one out None e = refl
        by_one out (Some y) e =
            let r = older y e in
            absurd (out.first (r.0, made_still r.0 r.5, r.3, r.4, r.6))
