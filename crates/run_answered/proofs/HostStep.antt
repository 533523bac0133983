-- A host's step and the entries of its calls.
use Rattle.run_answered.proofs.Endings.{ends_label}
use Rattle.run_contents.proofs.Calls.{begins_free, begins_next, given_call, one_open}
use Rattle.std.proofs.Common.{◌≡◌, ℕ, ◌≤◌, true, false, Option, Some, None, suc, List, [], ◌∷◌, ◌++◌}
use Rattle.std.proofs.Common.{length, inl, inr, sym, ◌∙◌, ap, subst, refl, arith, append-nil}
use Rattle.std.specs.Prelude.{map}
use Rattle.base_types.specs.declared.ids.FilesetId.{FilesetId}
use Rattle.base_types.specs.declared.ids.HostId.{HostId}
use Rattle.base_types.specs.declared.ids.ServerId.{ServerId}
use Rattle.tree_calls.specs.declared.reply.Reply.{Reply}
use Rattle.message_types.specs.declared.giving.AppliedGive.{AppliedGive}
use Rattle.message_types.specs.declared.giving.Ends.{Ends}
use Rattle.message_types.specs.declared.giving.Give.{Give}
use Rattle.message_types.specs.declared.telling.Done.{Done as DoneOf}
use Rattle.message_types.specs.declared.telling.DoneIs.TheVariants.{Reply as HasReply}
use Rattle.script_lines.specs.declared.script.Script.{Script}
use Rattle.run_answered.proofs.Entering.{entry_own}
use Rattle.run_answered.proofs.State.{Reason, State}
use Rattle.run_answered.proofs.State.Reason.{ByChange, ByGive}
use Rattle.run_answered.proofs.State.State.{Waits, Whole}
use Rattle.run_answered.proofs.Told.{IsReply}
use Rattle.run_answered.specs.Entries.{entered}
use Rattle.run_contents.specs.Steps.{HostRun}
use Rattle.run_due.proofs.Beginning.{first_none, first_one}
use Rattle.run_due.specs.Begun.{asked_as, begun_as, begun_by, first_in}
use Rattle.run_rules.specs.HostMay.{HostMay}
use Rattle.run_rules.specs.Messages.{Changing, DoneComes}
use Rattle.run_rules.specs.Past.{In}
use Rattle.run_rules.specs.Runs.{call_entry}
use Rattle.run_rules.specs.Tokens.{BeginsCall, CauseEnds, DoneCounts, IsEnding, IsOpen, Learns, Made, NoneOpen}
use Rattle.run_rules.specs.Tokens.{calls_begun, number_of}
use Rattle.run_rules.specs.declared.applied.Answer.{Answer}
use Rattle.run_rules.specs.declared.applied.Written.{Written}
use Rattle.run_rules.specs.declared.step.Asked.{Asked}
use Rattle.run_rules.specs.declared.step.Labelled.{Labelled}
use Rattle.run_rules.specs.declared.step.Step.{Step}

-- what holds of the servers when the host takes a step
pub record Around (host : HostId) (A : List Step) (s : Step) (W : ServerId → Written → Type 0)
    (G : ServerId → AppliedGive → Type 0) : Type 0 where
  -- a Done that comes for what was written down has the reply
  pub settled : (v : ServerId) (w : Written) (d : DoneOf) → W v w → w.answer.host ≡ host → DoneComes A s v d
      → d.fileset ≡ w.fileset → d.bring.number ≡ w.number → IsReply d
  -- a reply that counts was written down, for the open call
  pub replied : (v : ServerId) (d : DoneOf) (r : Reply) (x : Asked) → DoneCounts A s v d → d.outcome ≡ HasReply r
      → IsOpen A x → (u : ServerId) × (w : Written) × W u w × (w.answer.host ≡ host) × (w.answer.k ≡ x.k)
  -- what becomes known as applied was applied; what the step makes wasn't
  pub learnt : (g : Give) → Made A g → Learns A s (number_of g) → (v : ServerId) × G v (number_of g)
  pub fresh : (g : Give) (v : ServerId) → In g s.made → G v (number_of g) → ⊥
  -- what was written down is of a call that the host has begun
  pub begun : (v : ServerId) (w : Written) → W v w → w.answer.host ≡ host → w.answer.k ≤ calls_begun A
  -- in a step that answers no use is on its way to its end
  pub none_ends : (a : Answer) → In a s.answers → (u : Labelled) → IsEnding A s u → ⊥

module _ (script : Script) (host : HostId) (A : List Step) (s : Step) (run : HostRun script host (s ∷ A))
    (W : ServerId → Written → Type 0) (G : ServerId → AppliedGive → Type 0) (around : Around host A s W G)
    (E : List Asked) where
  m : HostMay script host A s
  m = run.1

  -- a reason stays as long as the call isn't ended
  reason_on : (x : Asked) → Reason A host W G x → (CauseEnds A s x → ⊥) → Reason (s ∷ A) host W G x
  reason_on x (ByChange v w i h k changing) not = ByChange v w i h k (
    inr changing,
    λ d settles f n.
        let r = around.settled v w d i h settles f n in
        not (inl (
          v,
          d,
          r.0,
          (
            settles,
            subst (λ (y : FilesetId × ℕ). Changing A v y.0 y.1)
                (λ i. (sym f i, sym n i)) changing,
          ),
          r.1,
        )),
  )
  reason_on x (ByGive v g ends made e k at unknown) not = ByGive v g ends (inr made) e k at (λ known. elim known [
    | inl learns ↦ not (inr (g, ends, made, e, k, learns, unknown))
    | inr known ↦ unknown known
  ])

  -- one without an entry isn't ended
  still_waits : (x : Asked) → IsOpen A x
      → ((v : ServerId) (w : Written) → W v w → w.answer.host ≡ host → w.answer.k ≡ x.k → ⊥)
      → ((v : ServerId) (g : Give) (ends : Ends) → Made A g → g.ends ≡ Some ends → ends.k ≡ x.k → G v (number_of g) → ⊥)
      → CauseEnds A s x → ⊥
  still_waits x o none_written none_given (inl (v, d, r, counts, is)) =
      let k = around.replied v d r x counts is o in none_written k.0 k.1 k.2 k.3 k.4
  still_waits x o none_written none_given (inr (g, ends, made, e, k, learns, unknown)) =
      let at = around.learnt g made learns in none_given at.0 g ends made e k at.1

  -- none is answered, and none is begun
  module _ (no_answer : s.answers ≡ []) where
    none_in : (a : Answer) → In a s.answers → ⊥
    none_in a i = elim (subst (In a) no_answer i) [ ]

    same_entries : E ++ entered host (map call_entry s.answers) ≡ E
    same_entries = ap (λ (xs : List Answer). E ++ entered host (map call_entry xs)) no_answer ∙ append-nil E

    module _ (no_call : s.asked ≡ None) where
      same_begun : begun_by (s ∷ A) ≡ begun_by A
      same_begun =
          ap (λ (o : Option Asked). begun_by A ++ begun_as o s.answers) no_call
          ∙ (ap (λ (xs : List Answer). begun_by A ++ first_in xs) no_answer ∙ append-nil (begun_by A))

      quiet : State A host W G E → State (s ∷ A) host W G (E ++ entered host (map call_entry s.answers))
      quiet (Whole e reasons) =
          Whole (same_entries ∙ (e ∙ sym same_begun)) (λ x o. elim o [
            | inl asked ↦ absurd (let q : None ≡ Some x = sym no_call ∙ asked in cc)
            | inr p ↦ reason_on x (reasons x p.0) p.1
          ])
      quiet (Waits x o e none_written none_given) =
          Waits x (inr (o, still_waits x o none_written none_given, λ a i. absurd (none_in a i)))
          (ap (λ z. z ++ x ∷ []) same_entries ∙ (e ∙ sym same_begun)) none_written
          (λ v g ends made q k at. elim made [
            | inl i ↦ around.fresh g v i at
            | inr made ↦ none_given v g ends made q k at
          ])

    module _ (x : Asked) (asked : s.asked ≡ Some x) where
      begins : BeginsCall s x.k x.call
      begins = inl asked

      none_open : NoneOpen A
      none_open = begins_free script host A s m x.k x.call begins

      next : x.k ≡ suc (calls_begun A)
      next = begins_next script host A s m x.k x.call begins

      one_begun : begun_by (s ∷ A) ≡ begun_by A ++ x ∷ []
      one_begun = ap (λ (o : Option Asked). begun_by A ++ begun_as o s.answers) asked

      opens : State A host W G E → State (s ∷ A) host W G (E ++ entered host (map call_entry s.answers))
      opens (Waits y o e none_written none_given) = absurd (none_open y o)
      opens (Whole e reasons) =
          Waits x (inl asked) (ap (λ z. z ++ x ∷ []) (same_entries ∙ e) ∙ sym one_begun)
          (λ v w i h k. let le = around.begun v w i h in omega (arith, le, k, next))
          (λ v g ends made q k at. elim made [
            | inl i ↦ around.fresh g v i at
            | inr made ↦ (
                let le = (given_call script host A run.0 g ends made q).0 in omega (arith, le, k, next)
                )
          ])

  -- one is answered
  module _ (a : Answer) (one : s.answers ≡ a ∷ []) where
    i : In a s.answers
    i = subst (In a) (sym one) (inl refl)

    no_call : s.asked ≡ None
    no_call = go s.asked refl
      where
        go : (o : Option Asked) → s.asked ≡ o → s.asked ≡ None
        go None e = e
        go (Some c) e = absurd (m.answers.asked a c i e)

    entry : E ++ entered host (map call_entry s.answers) ≡ E ++ asked_as a.k a.call ∷ []
    entry =
        ap (λ (xs : List Answer). E ++ entered host (map call_entry xs)) one
        ∙ ap (λ z. E ++ (z ++ [])) (entry_own host a (m.answers.answers a i).0)

    begun_is : begun_by (s ∷ A) ≡ begun_by A ++ first_in (a ∷ [])
    begun_is =
        ap (λ (o : Option Asked). begun_by A ++ begun_as o s.answers) no_call
        ∙ ap (λ (xs : List Answer). begun_by A ++ first_in xs) one

    -- no call is open after it
    none_after : NoneOpen (s ∷ A)
    none_after call (inl begun) = m.answers.asked a call i begun
    none_after call (inr x) =
        elim (m.answers.answers a i).1 [
          | inl begins ↦ begins_free script host A s m a.k a.call begins call x.0
          | inr on ↦ x.2 a i (ap (λ (z : Asked). z.k)
              (one_open script host A run.0 (asked_as a.k a.call) call on.0 x.0))
        ]

    closed : E ++ asked_as a.k a.call ∷ [] ≡ begun_by (s ∷ A)
        → State (s ∷ A) host W G (E ++ entered host (map call_entry s.answers))
    closed e = Whole (entry ∙ e) (λ x o. absurd (none_after x o))

    first : a.first ≡ true → State A host W G E
        → State (s ∷ A) host W G (E ++ entered host (map call_entry s.answers))
    first f (Waits y o e none_written none_given) =
        absurd (begins_free script host A s m a.k a.call (inr (a, i, f, refl, refl)) y o)
    first f (Whole e reasons) =
        closed (ap (λ z. z ++ asked_as a.k a.call ∷ []) e
        ∙ (ap (λ z. begun_by A ++ z) (sym (first_one a f)) ∙ sym begun_is))

    -- a call that has its entry isn't answered
    no_reason : (x : Asked) → Reason A host W G x → (CauseEnds A s x → ⊥) → ⊥
    no_reason x (ByChange v w j h k changing) not =
        by (reason_on x (ByChange v w j h k changing) not)
      where
        by : Reason (s ∷ A) host W G x → ⊥
        by (ByChange u z j h k changing) = m.answers.answers_settled a u z.fileset z.number i changing
        by (ByGive u g ends made e k at unknown) = elim made [
          | inl new ↦ elim (subst (In g) (m.answers.keeps a i).1 new) [ ]
          | inr made ↦ (
              let l = ends_label script host A run.0 g ends made e in
              around.none_ends a i l.0 (g, l.1, unknown)
              )
        ]
    no_reason x (ByGive v g ends made e k at unknown) not =
        let l = ends_label script host A run.0 g ends made e in
        around.none_ends a i l.0 (
          g,
          l.1,
          λ known. elim known [
            | inl learns ↦ not (inr (g, ends, made, e, k, learns, unknown))
            | inr known ↦ unknown known
          ],
        )

    goes_on : a.first ≡ false → IsOpen A (asked_as a.k a.call) → (CauseEnds A s (asked_as a.k a.call) → ⊥)
        → State A host W G E → State (s ∷ A) host W G (E ++ entered host (map call_entry s.answers))
    goes_on f o not (Whole e reasons) = absurd (no_reason (asked_as a.k a.call) (reasons (asked_as a.k a.call) o) not)
    goes_on f o not (Waits y p e none_written none_given) =
        let same = one_open script host A run.0 (asked_as a.k a.call) y o p in
        closed (ap (λ z. E ++ z ∷ []) same
        ∙ (e ∙ (sym (append-nil (begun_by A)) ∙ (ap (λ z. begun_by A ++ z) (sym (first_none a f)) ∙ sym begun_is))))

    answers : State A host W G E → State (s ∷ A) host W G (E ++ entered host (map call_entry s.answers))
    answers state = elim (m.answers.first a i) [
      | inl f ↦ first f state
      | inr f ↦ goes_on f.0 f.1.0 f.1.1 state
    ]

  too_many : (n : ℕ) → suc (suc n) ≤ 1 → ⊥
  too_many n le = let k : suc (suc n) ≤ 1 = le in omega (arith, k)

  pub host_step : State A host W G E → State (s ∷ A) host W G (E ++ entered host (map call_entry s.answers))
  host_step state = go s.answers refl s.asked refl
    where
      go : (xs : List Answer) → s.answers ≡ xs → (o : Option Asked) → s.asked ≡ o
          → State (s ∷ A) host W G (E ++ entered host (map call_entry s.answers))
      go [] e None q = quiet e q state
      go [] e (Some x) q = opens e x q state
      go (a ∷ []) e o q = answers a e state
      go (a ∷ b ∷ xs) e o q =
          absurd (too_many (length xs) (subst (λ (ys : List Answer). length ys ≤ 1) e m.answers.answers_one))
