-- What holds of the servers of a run when a host takes a step.
use Rattle.run_contents.proofs.Calls.{one_open}
use Rattle.run_contents.proofs.Runs.{own_run}
use Rattle.run_contents.specs.Steps.{HostRun}
use Rattle.run_history.proofs.Open.{changing_on, zero_or}
use Rattle.run_history.proofs.State.{firm_now, whole}
use Rattle.run_history.proofs.Waiting.{said_at, zero_home, zero_silent}
use Rattle.std.proofs.Common.{List, ap, arith, inl, inr, refl, subst, sym, ℕ, ◌<◌, ◌≤◌, ◌∙◌, ◌∷◌, ◌≡◌, ◌⊎◌}
use Rattle.std.specs.Prelude.{[]}
use Rattle.base_types.specs.declared.ids.FilesetId.{FilesetId}
use Rattle.base_types.specs.declared.ids.HostId.{HostId}
use Rattle.base_types.specs.declared.ids.Node.TheVariants.{Host}
use Rattle.base_types.specs.declared.ids.ServerId.{ServerId}
use Rattle.tree_calls.specs.declared.reply.Reply.{Reply}
use Rattle.tree_answers.specs.declared.tree.Tree.{Tree}
use Rattle.message_types.specs.declared.asking.Change.{Change as ChangeOf}
use Rattle.message_types.specs.declared.giving.AppliedGive.{AppliedGive}
use Rattle.message_types.specs.declared.giving.Give.{Give}
use Rattle.message_types.specs.declared.message.Body.{Body}
use Rattle.message_types.specs.declared.message.Body.TheVariants.{Change, Done, Gone, Reclaimed}
use Rattle.message_types.specs.declared.telling.Done.{Done as DoneOf}
use Rattle.message_types.specs.declared.telling.DoneIs.TheVariants.{Reply as HasReply}
use Rattle.script_lines.specs.declared.script.Script.{Script}
use Rattle.run_answered.proofs.HostStep.{Around}
use Rattle.run_answered.proofs.Told.{IsReply}
use Rattle.run_answered.proofs.World.{AskedSo, Wrote, all_asked, all_told, heard}
use Rattle.run_answered.proofs.World.{said_begun}
use Rattle.run_rules.specs.Doings.{Doing, IsApplied, SentTo, doings_of}
use Rattle.run_rules.specs.Messages.{Changing, ComesIn, DoneComes, Said, epoch_at, home}
use Rattle.run_rules.specs.Past.{In}
use Rattle.run_rules.specs.Runs.{StepMeets, StepsMeet}
use Rattle.run_rules.specs.ServerMay.{HasWritten}
use Rattle.run_rules.specs.Steps.{steps_of_host}
use Rattle.run_rules.specs.Tokens.{DoneCounts, IsEnding, IsOpen, Learns, Made, calls_begun, number_of}
use Rattle.run_rules.specs.declared.applied.Written.{Written}
use Rattle.run_rules.specs.declared.applied.Answer.{Answer}
use Rattle.run_rules.specs.declared.step.Labelled.{Labelled}
use Rattle.run_rules.specs.declared.step.Asked.{Asked}
use Rattle.run_rules.specs.declared.step.Step.{Step}

abbrev pub WroteBy : (ServerId → ℕ) → List Step → ServerId → Written → Type 0
WroteBy firsts past v w = Wrote (doings_of (firsts v) v past) w

abbrev pub AppliedBy : (ServerId → ℕ) → List Step → HostId → ServerId → AppliedGive → Type 0
AppliedBy firsts past h v n = IsApplied v (doings_of (firsts v) v past) h n

-- what a reply is of
has_written : (S : List Doing) (h : HostId) (d : DoneOf) → HasWritten S h d
    → (w : Written) × Wrote S w × (w.answer.host ≡ h) × (w.fileset ≡ d.fileset) × (w.number ≡ d.bring.number)
has_written [] h d o = elim o [ ]
has_written (a ∷ S) h d (inl q) = (q.0, inl q.1, q.2, q.3, q.4)
has_written (a ∷ S) h d (inr o) =
    let k = has_written S h d o in (k.0, inr k.1, k.2, k.3, k.4)

module _ (script : Script) (start : Tree) (firsts : ServerId → ℕ) (real : (v : ServerId) → 0 < firsts v)
    (past : List Step) (run : StepsMeet script start firsts past) (h : HostId) where
  abbrev A : List Step
  A = steps_of_host h past

  ran : HostRun script h (steps_of_host h past)
  ran = own_run script start firsts past run h

  -- the Change of what was written down is the host's
  pub change_of : (v : ServerId) (w : Written) → WroteBy firsts past v w → w.answer.host ≡ h
      → (c : ChangeOf) × (e : ℕ) × (n : ℕ) × Said A v e n (Change c) × (c.fileset ≡ w.fileset) × (c.number ≡ w.number)
      × (c.k ≡ w.answer.k) × (c.call ≡ w.answer.call)
  change_of v w i host =
      let k = all_asked script start firsts real past run v w i in (
        k.change,
        k.in_epoch,
        k.moves,
        subst (λ (g : HostId). Said (steps_of_host g past) v k.in_epoch k.moves (Change k.change)) host
            (heard script start firsts real w.answer.host k.in_epoch k.moves (Change k.change) past run v k.took),
        k.fileset,
        k.number,
        k.k,
        k.call,
      )

  module _ (s : Step) (met : StepMeets script start firsts (Host h) past s) where
    sent_of : (u : ServerId) (k : ℕ) (b : Body) → ComesIn s u (epoch_at A u) k b
        → SentTo (doings_of (firsts u) u past) h (epoch_at A u) k b
    sent_of u k b (m, cause, server, epoch_is, moves, body) =
        let sent = (met.1 m cause).2 in
        subst (λ (y : ServerId × ℕ × ℕ × Body). SentTo (doings_of (firsts y.0) y.0 past) h y.1 y.2 y.3)
        (λ i. (server i, epoch_is i, moves i, body i)) sent

    -- a Done that settles was sent, in the host's epoch
    done_from : (v : ServerId) (d : DoneOf) → DoneComes A s v d
        → (u : ServerId) × (k : ℕ) × SentTo (doings_of (firsts u) u past) h (epoch_at A u) k (Done d)
        × ((u ≡ v) ⊎ (u ≡ home d.fileset))
    done_from v d (inl (z, comes)) = (v, 0, sent_of v 0 (Done d) comes, inl refl)
    done_from v d (inr about) = (home d.fileset, 0, sent_of (home d.fileset) 0 (Done d) about, inr refl)

    silent : (fs : FilesetId) (u : ServerId) (k : ℕ) (b : Body) → u ≡ home fs → fs.0 ≡ 0
        → SentTo (doings_of (firsts u) u past) h (epoch_at A u) k b → ⊥
    silent fs u k b at z sent =
        zero_silent script start firsts real past run u
        (ap (λ (w : ServerId). w.0) at ∙ zero_home script start firsts real fs z) h (epoch_at A u) k b sent

    settled : (v : ServerId) (w : Written) (d : DoneOf) → WroteBy firsts past v w → w.answer.host ≡ h
        → DoneComes A s v d → d.fileset ≡ w.fileset → d.bring.number ≡ w.number → IsReply d
    unfolding change_of
    settled v w d i host settles f n = elim src.3 [
      | inl same ↦ here same
      | inr at ↦ elim (said_at script start firsts real h A ran v c.1 c.2 c.0 c.3) [
        | inl z ↦ absurd (silent d.fileset src.0 src.1 (Done d) at
            (ap (λ (fs : FilesetId). fs.0) (f ∙ sym c.4) ∙ z) src.2)
        | inr there ↦ here (at ∙ (ap home (f ∙ sym c.4) ∙ there))
      ]
    ]
      where
        src : (u : ServerId) × (k : ℕ) × SentTo (doings_of (firsts u) u past) h (epoch_at A u) k (Done d)
            × ((u ≡ v) ⊎ (u ≡ home d.fileset))
        src = done_from v d settles

        c : (c : ChangeOf) × (e : ℕ) × (n : ℕ) × Said A v e n (Change c) × (c.fileset ≡ w.fileset)
            × (c.number ≡ w.number) × (c.k ≡ w.answer.k) × (c.call ≡ w.answer.call)
        c = change_of v w i host

        asked : AskedSo (doings_of (firsts v) v past) w
        asked = all_asked script start firsts real past run v w i

        here : src.0 ≡ v → IsReply d
        here same =
            elim ((all_told script start firsts real past run v).replied w asked.in_epoch asked.written (epoch_at A v)
            src.1 d
            (subst (λ (g : HostId). SentTo (doings_of (firsts v) v past) g (epoch_at A v) src.1 (Done d)) (sym host)
            (subst (λ (u : ServerId). SentTo (doings_of (firsts u) u past) h (epoch_at A u) src.1 (Done d)) same src.2))
            f n) [
              | inl r ↦ r
              | inr lt ↦ (
                  let le : asked.in_epoch ≤ epoch_at A v =
                  ((whole script start firsts real past run).alone h).said_epoch v c.1 c.2 (Change c.0) c.3 in
                  absurd (omega (arith, le, lt))
                  )
            ]

    replied : (v : ServerId) (d : DoneOf) (r : Reply) (x : Asked) → DoneCounts A s v d → d.outcome ≡ HasReply r
        → IsOpen A x → (u : ServerId) × (w : Written) × WroteBy firsts past u w × (w.answer.host ≡ h)
        × (w.answer.k ≡ x.k)
    replied v d r x counts is o =
        (src.0, w.0, w.1, w.2, sym c.6 ∙ ap (λ (z : Asked). z.k) one)
      where
        src : (u : ServerId) × (k : ℕ) × SentTo (doings_of (firsts u) u past) h (epoch_at A u) k (Done d)
            × ((u ≡ v) ⊎ (u ≡ home d.fileset))
        src = done_from v d counts.0

        w : (w : Written) × Wrote (doings_of (firsts src.0) src.0 past) w × (w.answer.host ≡ h)
            × (w.fileset ≡ d.fileset)
            × (w.number ≡ d.bring.number)
        w = has_written (doings_of (firsts src.0) src.0 past) h d
            ((all_told script start firsts real past run src.0).reasons h (epoch_at A src.0) src.1 d r src.2 is)

        c : (c : ChangeOf) × (e : ℕ) × (n : ℕ) × Said A src.0 e n (Change c) × (c.fileset ≡ w.0.fileset)
            × (c.number ≡ w.0.number) × (c.k ≡ w.0.answer.k) × (c.call ≡ w.0.answer.call)
        c = change_of src.0 w.0 w.1 w.2

        there : Changing A src.0 d.fileset d.bring.number
        there = elim src.3 [
          | inl same ↦ subst (λ (u : ServerId). Changing A u d.fileset d.bring.number) (sym same) counts.1
          | inr at ↦ elim (zero_or d.fileset.0) [
            | inl z ↦ absurd (silent d.fileset src.0 src.1 (Done d) at z src.2)
            | inr some ↦ changing_on A v src.0 d.fileset d.bring.number some counts.1
          ]
        ]

        changing : Changing A src.0 c.0.fileset c.0.number
        changing =
            subst (λ (y : FilesetId × ℕ). Changing A src.0 y.0 y.1)
            (λ i. (sym (c.4 ∙ w.3) i, sym (c.5 ∙ w.4) i)) there

        is_open : IsOpen A (record { k = c.0.k; call = c.0.call })
        is_open =
            ((firm_now script start firsts real past run h).asked src.0 c.0 (src.0, c.1, c.2, c.3, λ z. refl)
            changing).is_open

        one : record { k = c.0.k; call = c.0.call } ≡ x
        one = one_open script h A ran
            (record { k = c.0.k; call = c.0.call }) x is_open o

    learnt : (g : Give) → Made A g → Learns A s (number_of g)
        → (v : ServerId) × AppliedBy firsts past h v (number_of g)
    learnt g made (given, inl about) =
        let u = home g.fid.fileset in (
          u,
          ((whole script start firsts real past run).at u).served.gones h (epoch_at A u) 0 (number_of g)
              (sent_of u 0 (Gone (number_of g)) about),
        )
    learnt g made (given, inr (u, answer, comes, i)) = (
      u,
      ((whole script start firsts real past run).at u).served.reclaimed h (epoch_at A u) 0 answer (number_of g)
          (sent_of u 0 (Reclaimed answer) comes) i,
    )

    fresh : (g : Give) (v : ServerId) → In g s.made → AppliedBy firsts past h v (number_of g) → ⊥
    fresh g v i at =
        let k = (((whole script start firsts real past run).at v).link h).applied_made (number_of g) at in
        let lt = met.0.tokens.makes_new g k.0 i k.1 k.2 in
        let le = k.3 in
        omega (arith, lt, le)

    begun : (v : ServerId) (w : Written) → WroteBy firsts past v w → w.answer.host ≡ h → w.answer.k ≤ calls_begun A
    begun v w i host =
        let c = change_of v w i host in
        let le = said_begun script h A ran v c.1 c.2 c.0 c.3 in
        let same = c.6 in
        omega (arith, le, same)

    pub around : ((a : Answer) → In a s.answers → (u : Labelled) → IsEnding A s u → ⊥)
        → Around h A s (WroteBy firsts past) (AppliedBy firsts past h)
    around none_ends = record {
      settled = settled;
      replied = replied;
      learnt = learnt;
      fresh = fresh;
      begun = begun;
      none_ends = none_ends;
    }
