-- In every run a host without an open call has just its own labels of those in use in the tree.
use Rattle.std.proofs.Common.{List, Some, ap, inl, inr, refl, subst, sym, ℕ, ◌<◌, ◌∙◌, ◌∷◌, ◌≡◌, ◌⊎◌}
use Rattle.std.specs.Prelude.{[]}
use Rattle.base_types.specs.declared.ids.HostId.{HostId}
use Rattle.base_types.specs.declared.ids.Node.{Node}
use Rattle.base_types.specs.declared.ids.Node.TheVariants.{Host}
use Rattle.base_types.specs.declared.ids.ServerId.{ServerId}
use Rattle.tree_answers.specs.declared.tree.Tree.{Tree}
use Rattle.script_lines.specs.declared.script.Deed.{Deed}
use Rattle.script_lines.specs.declared.script.Deed.TheVariants.{Stop}
use Rattle.script_lines.specs.declared.script.Line.{Line}
use Rattle.script_lines.specs.declared.script.Script.{Script}
use Rattle.run_rules.specs.Doings.{HasGoneAway, doings_of}
use Rattle.run_rules.specs.HostMay.{DoesLine, HostMay}
use Rattle.run_rules.specs.Messages.{HasStopped, Stops}
use Rattle.run_rules.specs.Past.{Always, In, appended}
use Rattle.run_rules.specs.Runs.{StepMeets, StepsMeet, firsts_of, past_of}
use Rattle.run_tokens.specs.Pasts.{tree_at}
use Rattle.run_rules.specs.Steps.{servers_of, steps_of_host}
use Rattle.run_rules.specs.Tokens.{IsOpen, LabelInUse, NoneOpen, end_of}
use Rattle.run_rules.specs.Views.{IsLock, IsOpening}
use Rattle.run_parts.proofs.Words.{host_split}
use Rattle.run_history.proofs.Instance.{contents_of, is_of_run}
use Rattle.run_parts.specs.Uses.{Locked}
use Rattle.run_history.proofs.Law.{histories_make_the_tree}
use Rattle.run_history.specs.Idle.{AnswersLeaveIdle, HasItsLabels, IdleHostsHaveLabels, IsIdleHost, LabelsAreTheRuns}
use Rattle.run_history.specs.Idle.{LabelsMeet, LeavesIdle}
use Rattle.run_history.specs.Past.{IsOfPast, IsThroughout}
use Rattle.run_parts.specs.Contents.{Contents}
use Rattle.run_contents.proofs.Calls.{begins_free, one_open, use_owned}
use Rattle.run_contents.specs.Steps.{HostRun}
use Rattle.run_tokens.proofs.Words.{own_after}
use Rattle.run_rules.specs.declared.applied.Answer.{Answer}
use Rattle.run_rules.specs.declared.step.Asked.{Asked}
use Rattle.run_rules.specs.declared.step.Labelled.{Labelled}
use Rattle.run_rules.specs.declared.step.Step.{Step}
use Rattle.run_history.proofs.UseHostLaw.{from_one}
use Rattle.run_history.proofs.Open.{given_made}
use Rattle.run_history.proofs.State.{all, firm_now, host_run, locked_had, whole}
use Rattle.run_history.specs.UseStanding.{LabelsStand}

-- the next line is one
line_same : (a b : Line) → Some a ≡ Some b → a ≡ b
line_same a b e = cc

-- what is so of a run is so of its earlier part
always_before : (P : List Step → Step → Type 0) (more past : List Step) → Always P (appended more past) → Always P past
always_before P [] past all = all
always_before P (x ∷ more) past all = (always_before P more (x ∷ past) all).0

module _ (start : Tree) (firsts : ServerId → ℕ) (c : Contents) where
  throughout_before : (more past : List Step) → IsThroughout start firsts c (appended more past)
      → IsThroughout start firsts c past
  throughout_before [] past all = all
  throughout_before (x ∷ more) past all = (throughout_before more (x ∷ past) all).0

  at_last : (past : List Step) → IsThroughout start firsts c past
      → IsOfPast start firsts c past (tree_at start past)
  at_last [] all = all
  at_last (s ∷ past) all = all.1

module _ (script : Script) (start : Tree) (firsts : ServerId → ℕ) (real : (v : ServerId) → 0 < firsts v) where
  module _ (past : List Step) (run : StepsMeet script start firsts past) (h : HostId) where
    abbrev A : List Step
    A = steps_of_host h past

    -- no server takes a host for away that has something in use and hasn't stopped
    not_away : (u : Labelled) → LabelInUse A u → (HasStopped A → ⊥) → (v : ServerId) → HasGoneAway (doings_of (firsts v) v past) h → ⊥
    not_away u usage live v away =
        let w = whole script start firsts real past run in
        elim (((w.at v).link h).away away) [
          | inl stopped ↦ live stopped
          | inr bye ↦ (w.alone h).bye_held u.token v bye
              (use_owned script h A (host_run script start firsts real past run h) u usage)
        ]

    used_locked : (u : Labelled) → LabelInUse A u → (HasStopped A → ⊥) → Locked firsts past h u
    used_locked u usage live =
        ((all script start firsts real past run).uses h u.token.id.server).use_locked u refl usage
        (not_away u usage live u.token.id.server)

    -- what isn't in use any more is in a give-back for the open call
    locked_used : (u : Labelled) → Locked firsts past h u
        → LabelInUse A u ⊎ ((k : ℕ) × IsOpen A (record { k = k; call = end_of u }))
    locked_used u l =
        elim (locked_had script start firsts real past run h u l) [
          | inl usage ↦ inl usage
          | inr (g, given, gives, unknown) ↦ inr (
            gives.0.k,
            subst (λ call. IsOpen A (record { k = gives.0.k; call = call })) gives.2
                ((firm_now script start firsts real past run h).given_open g gives.0 (given_made A u g given) gives.1
                unknown),
          )
        ]

    idle_used : NoneOpen A → (u : Labelled) → Locked firsts past h u → LabelInUse A u
    idle_used none u l = elim (locked_used u l) [
      | inl usage ↦ usage
      | inr (k, o) ↦ absurd (none (record { k = k; call = end_of u }) o)
    ]

    pub meet : LabelsMeet start firsts past h
    meet = record {
      locked = used_locked;
      used = locked_used;
      same = λ idle u. (λ usage. used_locked u usage idle.0, λ l. idle_used idle.1 u l);
    }

    -- in a tree in which the labels stand
    module _ (tree : Tree) (stands : LabelsStand firsts past tree) (idle : IsIdleHost past h) where
      pub has_labels : HasItsLabels past h tree
      has_labels = record {
        locks = λ lock. (
          λ (i, e). (
              let k = (stands.locks lock).0 i in (
                k.0,
                idle_used idle.1 k.0 (subst (λ (g : HostId). Locked firsts past g k.0) e k.1),
                subst (λ (g : HostId). IsLock g lock k.0) e k.2,
              )
              ),
          λ (u, usage, is). (
            (stands.locks lock).1 (
              u,
              subst (λ (g : HostId). Locked firsts past g u) (sym is.0) (used_locked u usage idle.0),
              subst (λ (g : HostId). IsLock g lock u) (sym is.0) is,
            ),
            is.0,
          ),
        );
        opens = λ opened. (
          λ (i, e). (
              let k = (stands.opens opened).0 i in (
                k.0,
                idle_used idle.1 k.0 (subst (λ (g : HostId). Locked firsts past g k.0) e k.1),
                subst (λ (g : HostId). IsOpening g opened k.0) e k.2,
              )
              ),
          λ (u, usage, is). (
            (stands.opens opened).1 (
              u,
              subst (λ (g : HostId). Locked firsts past g u) (sym is.0) (used_locked u usage idle.0),
              subst (λ (g : HostId). IsOpening g opened u) (sym is.0) is,
            ),
            is.0,
          ),
        );
      }

  -- a step that answers ends the open call, and isn't the host's stop
  module _ (h : HostId) (mine : List Step) (s : Step) (run : HostRun script h mine) (m : HostMay script h mine s)
      (a : Answer) (i : In a s.answers) where
    none_after : NoneOpen (s ∷ mine)
    none_after call (inl begun) = m.answers.asked a call i begun
    none_after call (inr x) =
        elim (m.answers.answers a i).1 [
          | inl begins ↦ begins_free script h mine s m a.k a.call begins call x.0
          | inr on ↦ x.2 a i (ap (λ (z : Asked). z.k)
              (one_open script h mine run (record { k = a.k; call = a.call }) call on.0 x.0))
        ]

    no_stop : Stops s → ⊥
    no_stop x =
        let stop = m.lines.stops x in
        let next = m.lines.next stop.0 stop.2 in
        let deed : next.0.deed ≡ Stop =
        ap (λ (line : Line). line.deed) (line_same next.0 stop.1 (sym next.1.0 ∙ stop.3.0)) ∙ stop.4 in
        let none = subst (λ (d : Deed). DoesLine (servers_of script.roster) mine s d) deed next.2 in
        elim (subst (In a) none.3 i) [ ]

    idle_after : (HasStopped (s ∷ mine) → ⊥) × NoneOpen (s ∷ mine)
    idle_after = (
      λ x. elim x.3 [
        | inl sends ↦ no_stop (x.0, x.1, x.2, sends)
        | inr old ↦ m.tokens.live (x.0, x.1, x.2, old)
      ],
      none_after,
    )

  each_leaves : (past : List Step) → StepsMeet script start firsts past → Always (LeavesIdle script firsts) past
  each_leaves [] run = tt
  each_leaves (s ∷ past) run = (each_leaves past run.0, leaves)
    where
      leaves : LeavesIdle script firsts past s
      leaves h a node i =
          subst (λ (n : Node). Idle (own_after h n s (steps_of_host h past))) (sym node)
          (host_split Idle h h (s ∷ steps_of_host h past) (steps_of_host h past)
          (λ _. idle_after h (steps_of_host h past) s (host_run script start firsts real past run.0 h) met.0 a i)
          (λ two. absurd (two refl)))
        where
          Idle : List Step → Type 0
          Idle mine = (HasStopped mine → ⊥) × NoneOpen mine

          met : StepMeets script start firsts (Host h) past s
          met = subst (λ (n : Node). StepMeets script start firsts n past s) node run.1.0

pub labels_are_the_runs : LabelsAreTheRuns
labels_are_the_runs script journal run past more e h =
    meet script run.start (firsts_of journal) (λ v. from_one _) past
    (always_before _ more past (subst (StepsMeet script run.start (firsts_of journal)) (sym e) run.steps)) h

pub idle_hosts_have_labels : IdleHostsHaveLabels
idle_hosts_have_labels script journal run past more e h idle =
    let start = run.start in
    let firsts = firsts_of journal in
    let c = contents_of start firsts in
    let all = histories_make_the_tree script journal run c (is_of_run start firsts) in
    let now = at_last start firsts c past
    (throughout_before start firsts c more past (subst (IsThroughout start firsts c) (sym e) all)) in
    has_labels script start firsts (λ v. from_one _) past
    (always_before _ more past (subst (StepsMeet script start firsts) (sym e) run.steps)) h (tree_at start past)
    now.labels idle

pub answers_leave_idle : AnswersLeaveIdle
answers_leave_idle script journal run =
    each_leaves script run.start (firsts_of journal) (λ v. from_one _) (past_of journal) run.steps
