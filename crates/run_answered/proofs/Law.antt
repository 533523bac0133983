-- In every run the history has the calls of a host that it has begun, in their order, each once, but for one that is
-- open.
use Rattle.run_contents.proofs.Runs.{own_run}
use Rattle.run_parts.proofs.Words.{host_split}
use Rattle.std.proofs.Common.{Bool, List, ap, append-nil, eqb-true, false, if◌then◌else◌, inl, inr, refl, subst, sym}
use Rattle.std.proofs.Common.{true, ℕ, ◌++◌, ◌<◌, ◌≤◌, ◌==◌, ◌∙◌, ◌∷◌, ◌≡◌, ◌⊎◌}
use Rattle.std.proofs.lemmas.Bool.{eq-eqb}
use Rattle.std.specs.Prelude.{[], flat_map, map}
use Rattle.base_types.specs.declared.ids.HostId.{HostId}
use Rattle.base_types.specs.declared.ids.Node.{Node}
use Rattle.base_types.specs.declared.ids.Node.TheVariants.{Host, Server}
use Rattle.base_types.specs.declared.ids.ServerId.{ServerId}
use Rattle.tree_answers.specs.declared.tree.Tree.{Tree}
use Rattle.message_types.specs.declared.giving.AppliedGive.{AppliedGive}
use Rattle.message_types.specs.declared.giving.Give.{Give}
use Rattle.message_types.specs.declared.message.Body.{Body}
use Rattle.message_types.specs.declared.message.Body.TheVariants.{GiveBack}
use Rattle.token_types.specs.declared.token.Token.{Token}
use Rattle.script_lines.specs.declared.script.Script.{Script}
use Rattle.run_answered.proofs.Arounds.{AppliedBy, WroteBy, around}
use Rattle.run_answered.proofs.Back.{back_written, on_written}
use Rattle.run_answered.proofs.HostStep.{host_step}
use Rattle.run_answered.proofs.ServerStep.{applied_state, map_state, step_on}
use Rattle.run_answered.proofs.Entering.{entered_both, others_none}
use Rattle.run_answered.proofs.State.{State}
use Rattle.run_answered.proofs.State.State.{Waits, Whole}
use Rattle.run_answered.proofs.World.{Wrote}
use Rattle.run_answered.proofs.Endings.{no_ending}
use Rattle.run_answered.specs.Entries.{entered}
use Rattle.run_rules.specs.Doings.{Doing, IsApplied, TakesOf, after_deciding, after_step, doings_of}
use Rattle.run_rules.specs.Doings.Doing.{Admits, Reserves, Sent, WritesDown}
use Rattle.run_rules.specs.Past.{Once}
use Rattle.run_rules.specs.Runs.{StepMeets, StepsMeet, applied_entries, call_entry, entries_in, entries_of}
use Rattle.run_tokens.specs.Pasts.{history}
use Rattle.run_rules.specs.Steps.{steps_of_host}
use Rattle.run_rules.specs.Tokens.{NoneOpen}
use Rattle.run_due.specs.Begun.{begun_by}
use Rattle.run_tokens.proofs.Words.{acts_after, if_server, own_after}
use Rattle.run_rules.specs.declared.applied.Answer.{Answer}
use Rattle.run_rules.specs.declared.applied.Written.{Written}
use Rattle.run_rules.specs.declared.step.Asked.{Asked}
use Rattle.run_rules.specs.Doings.Doing.{Puts}
use Rattle.run_rules.specs.declared.step.Step.{Step}

module _ (script : Script) (start : Tree) (firsts : ServerId → ℕ) (real : (v : ServerId) → 0 < firsts v)
    (h : HostId) where
  module _ (past : List Step) (s : Step) (run : StepsMeet script start firsts (s ∷ past)) (E : List Asked)
      (state : State (steps_of_host h past) h (WroteBy firsts past) (AppliedBy firsts past h) E) where
    -- the state after a step of a node
    abbrev After : Node → Type 0
    After n = State (own_after h n s (steps_of_host h past)) h
        (λ v w. Wrote (acts_after v n s (doings_of (firsts v) v past)) w)
        (λ v m. IsApplied v (acts_after v n s (doings_of (firsts v) v past)) h m)
        (E ++ entered h (map call_entry s.answers ++ applied_entries n s.applied))

    -- of a host: its answers
    answers_all : E ++ entered h (map call_entry s.answers ++ []) ≡ E ++ entered h (map call_entry s.answers)
    answers_all = ap (λ z. E ++ entered h z) (append-nil (map call_entry s.answers))

    of_host : (k : HostId) → s.node ≡ Host k → StepMeets script start firsts (Host k) past s → After (Host k)
    of_host k e met =
        host_split (λ L. State L h (WroteBy firsts past) (AppliedBy firsts past h)
        (E ++ entered h (map call_entry s.answers ++ []))) k h (s ∷ steps_of_host h past) (steps_of_host h past) mine
        others
      where
        mine : k ≡ h → State (s ∷ steps_of_host h past) h (WroteBy firsts past) (AppliedBy firsts past h)
            (E ++ entered h (map call_entry s.answers ++ []))
        mine same =
            subst (State (s ∷ steps_of_host h past) h (WroteBy firsts past) (AppliedBy firsts past h)) (sym answers_all)
            (host_step script h (steps_of_host h past) s (own_run script start firsts past run.0 h, met_h.0)
            (WroteBy firsts past) (AppliedBy firsts past h)
            (around script start firsts real past run.0 h s met_h
            (λ a i u ending. no_ending script start firsts real past s run h (e ∙ ap Host same) a i u ending)) E state)
          where
            met_h : StepMeets script start firsts (Host h) past s
            met_h = subst (λ (g : HostId). StepMeets script start firsts (Host g) past s) same met

        others : (k ≡ h → ⊥) → State (steps_of_host h past) h (WroteBy firsts past) (AppliedBy firsts past h)
            (E ++ entered h (map call_entry s.answers ++ []))
        others two =
            subst (State (steps_of_host h past) h (WroteBy firsts past) (AppliedBy firsts past h))
            (sym (answers_all ∙ (ap (λ z. E ++ z)
            (others_none h k two s.answers (λ a i. (met.0.answers.answers a i).0)) ∙ append-nil E))) state

    -- of a server: what it applies
    module _ (v : ServerId) (met : StepMeets script start firsts (Server v) past s) where
      abbrev S : List Doing
      S = doings_of (firsts v) v past

      abbrev PW : Written → List Doing → Doing → Type 0
      PW w before a = a ≡ WritesDown w

      abbrev PG : AppliedGive → ServerId → List Doing → Doing → Type 0
      PG n u before a = (give : Give) × TakesOf u before a h n.fileset (GiveBack give)
          × (give.fid.fileset ≡ n.fileset) × (n.number ≤ give.number)

      -- what is once so of a server's doings, before and after
      module _ (P : ServerId → List Doing → Doing → Type 0) where
        on : (u : ServerId) → Once (P u) (doings_of (firsts u) u past) ⊎ ((u ≡ v) × Once (P v) (after_deciding s S))
            → Once (P u) (acts_after u (Server v) s (doings_of (firsts u) u past))
        on u (inl o) =
            if_server (λ X. Once (P u) X) v u (after_step s (doings_of (firsts u) u past)) (doings_of (firsts u) u past)
            (λ q. step_on (P u) s (doings_of (firsts u) u past) o) o
        on u (inr (q, o)) =
            subst (λ (y : ServerId). Once (P y) (acts_after y (Server v) s (doings_of (firsts y) y past))) (sym q)
            (subst (λ (b : Bool). Once (P v) (if b then after_step s S else S)) (sym (eq-eqb v.0 v.0 refl))
            (on_written (P v) s S o))

        back : ((before : List Doing) (g : HostId) (e n : ℕ) (b : Body) → P v before (Sent g e n b) → ⊥)
            → ((before : List Doing) (g : HostId) (ts : List Token) → P v before (Admits g ts) → ⊥)
            → ((before : List Doing) (ts : List Token) → P v before (Reserves ts) → ⊥)
            → ((before : List Doing) (to : ServerId) (n : ℕ) (b : Body) → P v before (Puts to n b) → ⊥) → (u : ServerId)
            → Once (P u) (acts_after u (Server v) s (doings_of (firsts u) u past))
            → Once (P u) (doings_of (firsts u) u past) ⊎ ((u ≡ v) × Once (P v) (after_deciding s S))
        back sent admits reserves puts u o =
            if_server_or (λ X. Once (P u) X
            → Once (P u) (doings_of (firsts u) u past) ⊎ ((u ≡ v) × Once (P v) (after_deciding s S))) (v.0 == u.0)
            refl o
          where
            if_server_or : (Q : List Doing → Type 0) (b : Bool) → (v.0 == u.0) ≡ b
                → Once (P u) (if b then after_step s (doings_of (firsts u) u past) else doings_of (firsts u) u past)
                → Once (P u) (doings_of (firsts u) u past) ⊎ ((u ≡ v) × Once (P v) (after_deciding s S))
            if_server_or Q true e p =
                let q : v ≡ u = ap (λ (n : ℕ). record { 0 = n }) (eqb-true v.0 u.0 e) in
                inr (
                  sym q,
                  back_written (P v) sent admits reserves puts s S
                      (subst (λ (y : ServerId). Once (P y) (after_step s (doings_of (firsts y) y past))) (sym q) p),
                )
            if_server_or Q false e p = inl p

      of_server : After (Server v)
      of_server =
          subst (State (steps_of_host h past) h
          (λ u w. Wrote (acts_after u (Server v) s (doings_of (firsts u) u past)) w)
          (λ u m. IsApplied u (acts_after u (Server v) s (doings_of (firsts u) u past)) h m))
          (ap (λ (xs : List Answer). E ++ entered h (map call_entry xs ++ flat_map (entries_in v) s.applied))
          (sym met.0.no_host.does_none.2))
          (map_state (steps_of_host h past) h _
          (λ u w. Wrote (acts_after u (Server v) s (doings_of (firsts u) u past)) w) _
          (λ u m. IsApplied u (acts_after u (Server v) s (doings_of (firsts u) u past)) h m)
          (λ u w i. on (λ y. PW w) u i)
          (λ u w hh i. back (λ y. PW w) (λ before g e n b q. cc) (λ before g ts q. cc) (λ before ts q. cc)
          (λ before to n b q. cc) u i)
          (λ u n i. on (PG n) u i)
          (λ u n i. back (PG n) (λ before g e k b q. absurd (sent_none before g e k b n q))
          (λ before g ts q. absurd (admits_none before g ts n q))
          (λ before ts q. absurd (reserves_none before ts n q))
          (λ before to k b q. absurd (puts_none before to k b n q)) u i)
          (E ++ entered h (flat_map (entries_in v) s.applied))
          (applied_state script start firsts real past run.0 h v s met E state))
        where
          sent_none : (before : List Doing) (g : HostId) (e k : ℕ) (b : Body) (n : AppliedGive)
              → PG n v before (Sent g e k b) → ⊥
          sent_none before g e k b n (give, (moves, here, (q, live)), f, le) = cc

          admits_none : (before : List Doing) (g : HostId) (ts : List Token) (n : AppliedGive)
              → PG n v before (Admits g ts) → ⊥
          admits_none before g ts n (give, (moves, here, (q, live)), f, le) = cc

          reserves_none : (before : List Doing) (ts : List Token) (n : AppliedGive) → PG n v before (Reserves ts) → ⊥
          reserves_none before ts n (give, (moves, here, (q, live)), f, le) = cc

          puts_none : (before : List Doing) (to : ServerId) (k : ℕ) (b : Body) (n : AppliedGive)
              → PG n v before (Puts to k b) → ⊥
          puts_none before to k b n (give, (moves, here, (q, live)), f, le) = cc

    step_state : (n : Node) → s.node ≡ n → StepMeets script start firsts n past s → After n
    step_state (Host k) e met = of_host k e met
    step_state (Server v) e met = of_server v met

  pub all_states : (past : List Step) → StepsMeet script start firsts past
      → State (steps_of_host h past) h (WroteBy firsts past) (AppliedBy firsts past h) (entered h (history past))
  all_states [] run = Whole refl (λ x o. elim o [ ])
  all_states (s ∷ past) run =
      subst (State (steps_of_host h (s ∷ past)) h (WroteBy firsts (s ∷ past)) (AppliedBy firsts (s ∷ past) h))
      (sym (entered_both h (history past) (entries_of s)))
      (step_state past s run (entered h (history past)) (all_states past run.0) s.node refl run.1.0)

  -- where no call is open the history has all
  pub all_entered : (past : List Step) → StepsMeet script start firsts past → NoneOpen (steps_of_host h past)
      → entered h (history past) ≡ begun_by (steps_of_host h past)
  all_entered past run none = go (all_states past run)
    where
      go : State (steps_of_host h past) h (WroteBy firsts past) (AppliedBy firsts past h) (entered h (history past))
          → entered h (history past) ≡ begun_by (steps_of_host h past)
      go (Whole e reasons) = e
      go (Waits x o e none_written none_given) = absurd (none x o)
