-- A host that answers a call knows which labels in use in the tree are its own, and none of another host is in the way.
use Rattle.std.proofs.Common.{Bool, List, ap, eqb-true, false, inl, inr, not, refl, subst, sym, true, ℕ, ◌&&◌, ◌<◌}
use Rattle.std.proofs.Common.{◌==◌, ◌∙◌, ◌∷◌, ◌≡◌}
use Rattle.base_types.specs.Ids.{same_fid}
use Rattle.base_types.specs.declared.ids.Fid.{Fid}
use Rattle.base_types.specs.declared.ids.HostId.{HostId}
use Rattle.base_types.specs.declared.ids.Node.{Node}
use Rattle.base_types.specs.declared.ids.Node.TheVariants.{Host, Server}
use Rattle.base_types.specs.declared.ids.ServerId.{ServerId}
use Rattle.tree_answers.proofs.Followed.{same_fid_itself}
use Rattle.tree_answers.specs.declared.tree.LockUse.{LockUse}
use Rattle.tree_answers.specs.declared.tree.OpenUse.{OpenUse}
use Rattle.tree_answers.specs.declared.tree.Tree.{Tree}
use Rattle.script_lines.specs.declared.script.Script.{Script}
use Rattle.token_types.specs.Conflicts.{conflict, kinds_conflict}
use Rattle.token_types.specs.declared.token.Kind.{Kind}
use Rattle.token_types.specs.declared.token.Token.{Token}
use Rattle.run_rules.specs.Doings.{HasGoneAway, doings_of}
use Rattle.run_rules.specs.Past.{In}
use Rattle.run_rules.specs.Runs.{StepMeets, StepsMeet}
use Rattle.run_rules.specs.Steps.{steps_of_host}
use Rattle.run_rules.specs.Tokens.{LabelInUse, number_of}
use Rattle.run_rules.specs.Views.{HasLabel, IsLock, IsOpening}
use Rattle.run_tokens.specs.TokenLaws.{IsTokenRun}
use Rattle.run_parts.proofs.Words.{host_split}
use Rattle.run_parts.proofs.LabelLaw.{given_ended, locked_owed, locks_apart}
use Rattle.run_parts.specs.Uses.{Locked, LockedAfter, UsesRun}
use Rattle.run_contents.proofs.Calls.{use_owned}
use Rattle.run_contents.proofs.Words.{both}
use Rattle.run_contents.specs.Steps.{HostRun}
use Rattle.run_tokens.proofs.Invariant.{Link}
use Rattle.run_tokens.proofs.Law.{Whole}
use Rattle.run_tokens.proofs.Words.{acts_after, own_after}
use Rattle.run_rules.specs.declared.applied.Answer.{Answer}
use Rattle.run_rules.specs.declared.step.Labelled.{Labelled}
use Rattle.run_rules.specs.declared.step.Step.{Step}
use Rattle.run_history.proofs.Open.{none_ends}
use Rattle.run_history.proofs.State.{all, also, host_run, locked_live, rules, tokens, whole}
use Rattle.run_history.specs.UseStanding.{LabelsStand, UsesAt}

-- two hosts' tokens that are in one another's way conflict
apart_hosts : (a b : HostId) → (a ≡ b → ⊥) → not (a.0 == b.0) ≡ true
apart_hosts a b two = go (a.0 == b.0) refl
  where
    go : (q : Bool) → (a.0 == b.0) ≡ q → not q ≡ true
    go true e = absurd (two (ap (λ (n : ℕ). record { 0 = n }) (eqb-true a.0 b.0 e)))
    go false e = refl

tokens_conflict : (t u : Token) → (t.host ≡ u.host → ⊥) → t.fid ≡ u.fid → kinds_conflict t.kind u.kind ≡ true
    → conflict t u ≡ true
tokens_conflict t u two file kinds =
    both (not (t.host.0 == u.host.0)) (same_fid t.fid u.fid && kinds_conflict t.kind u.kind)
    (apart_hosts t.host u.host two)
    (both (same_fid t.fid u.fid) (kinds_conflict t.kind u.kind)
    (ap (λ (f : Fid). same_fid t.fid f) (sym file) ∙ same_fid_itself t.fid) kinds)

module _ (script : Script) (start : Tree) (firsts : ServerId → ℕ) (real : (v : ServerId) → 0 < firsts v)
    (past : List Step) (s : Step) (run : StepsMeet script start firsts (s ∷ past)) (h : HostId)
    (node : s.node ≡ Host h) where
  abbrev A : List Step
  A = steps_of_host h past

  pub met : StepMeets script start firsts (Host h) past s
  met = subst (λ (n : Node). StepMeets script start firsts n past s) node run.1.0

  pub my_run : HostRun script h (s ∷ A)
  my_run = (host_run script start firsts real past run.0 h, met.0)

  -- what the host learns, a server applied
  pub known : (v : ServerId) → Link h v (s ∷ A) (doings_of (firsts v) v past)
  known v =
      subst (λ L. Link h v L (doings_of (firsts v) v past))
      (host_split (λ L. L ≡ s ∷ A) h h (s ∷ A) A (λ _. refl) (λ two. absurd (two refl)))
      (((subst (λ (n : Node). Whole (λ k. own_after k n s (steps_of_host k past)) (λ w. acts_after w n s (doings_of
      (firsts w) w past)))
      node (whole script start firsts real (s ∷ past) run)).at v).link h)

  -- while it takes steps no server takes it for away, if it has something in use
  pub not_away : (u : Labelled) → LabelInUse A u → (v : ServerId) → HasGoneAway (doings_of (firsts v) v past) h → ⊥
  not_away u usage v away =
      let w = whole script start firsts real past run.0 in
      elim (((w.at v).link h).away away) [
        | inl stopped ↦ met.0.tokens.live stopped
        | inr bye ↦ (w.alone h).bye_held u.token v bye
            (use_owned script h A (host_run script start firsts real past run.0 h) u usage)
      ]

  pub used_locked : (u : Labelled) → LabelInUse A u → Locked firsts past h u
  used_locked u usage =
      ((all script start firsts real past run.0).uses h u.token.id.server).use_locked u refl usage
      (not_away u usage u.token.id.server)

  module _ (a : Answer) (i : In a s.answers) where
    pub locked_used : (u : Labelled) → Locked firsts past h u → LabelInUse A u
    locked_used u l =
        let v = u.token.id.server in
        elim (((all script start firsts real past run.0).uses h v).locked_is u refl l
        (locked_live script start firsts real past run.0 h u l)) [
          | inl usage ↦ usage
          | inr g ↦ absurd (none_ends script h A s my_run (also script start firsts real past run.0 h) a i u (
            g.0,
            given_ended A u g.0 g.1.given g.1.gives,
            λ k. g.1.not_applied ((known v).known (number_of g.0)
                ((((whole script start firsts real past run.0).at v).link h).made_id g.0 u.token.id g.1.made
                g.1.gives.3 refl) k),
          ))
        ]

    pub has_used : (u : Labelled) → HasLabel A s u → LabelInUse A u
    has_used u (inl usage) = usage
    has_used u (inr ending) =
        absurd (none_ends script h A s my_run (also script start firsts real past run.0 h) a i u ending)

    module _ (tree : Tree) (stands : LabelsStand firsts past tree) where
      locks_are : (lock : LockUse) → In lock tree.locks → lock.host ≡ h
          → (u : Labelled) × HasLabel A s u × IsLock h lock u
      locks_are lock j e =
          let k = (stands.locks lock).0 j in (
            k.0,
            inl (locked_used k.0 (subst (λ (g : HostId). Locked firsts past g k.0) e k.1)),
            subst (λ (g : HostId). IsLock g lock k.0) e k.2,
          )

      are_locks : (lock : LockUse) (u : Labelled) → HasLabel A s u → IsLock h lock u
          → In lock tree.locks × (lock.host ≡ h)
      are_locks lock u has is = (
        (stands.locks lock).1 (
          u,
          subst (λ (g : HostId). Locked firsts past g u) (sym is.0) (used_locked u (has_used u has)),
          subst (λ (g : HostId). IsLock g lock u) (sym is.0) is,
        ),
        is.0,
      )

      opens_are : (opened : OpenUse) → In opened tree.opens → opened.host ≡ h
          → (u : Labelled) × HasLabel A s u × IsOpening h opened u
      opens_are opened j e =
          let k = (stands.opens opened).0 j in (
            k.0,
            inl (locked_used k.0 (subst (λ (g : HostId). Locked firsts past g k.0) e k.1)),
            subst (λ (g : HostId). IsOpening g opened k.0) e k.2,
          )

      are_opens : (opened : OpenUse) (u : Labelled) → HasLabel A s u → IsOpening h opened u
          → In opened tree.opens × (opened.host ≡ h)
      are_opens opened u has is = (
        (stands.opens opened).1 (
          u,
          subst (λ (g : HostId). Locked firsts past g u) (sym is.0) (used_locked u (has_used u has)),
          subst (λ (g : HostId). IsOpening g opened u) (sym is.0) is,
        ),
        is.0,
      )

      -- another host's label doesn't conflict with one that begins
      begins_free : (k : HostId) (t u : Labelled) → (k ≡ h → ⊥) → Locked firsts past k t → In u s.begun
          → t.token.fid ≡ u.token.fid → kinds_conflict t.token.kind u.token.kind ≡ true → ⊥
      begins_free k t u two l m file kinds =
          locks_apart firsts (s ∷ past) ran ruled k h t u theirs mine (live k t theirs) (live h u mine)
          (tokens_conflict t.token u.token (λ e. two (sym (owner k t theirs) ∙ (e ∙ owner h u mine))) file kinds)
        where
          ran : IsTokenRun firsts (s ∷ past)
          ran = tokens script start firsts real (s ∷ past) run

          ruled : UsesRun (s ∷ past)
          ruled = rules script start firsts real (s ∷ past) run

          theirs : Locked firsts (s ∷ past) k t
          theirs = at s.node node
            where
              at : (n : Node) → n ≡ Host h
                  → LockedAfter firsts n s past (Locked firsts past k t) k t
              at (Host g) e = inr (l, λ same. absurd (two (sym same ∙ (let q : Host g ≡ Host h = e in cc))))
              at (Server v) e = absurd (let q : Server v ≡ Host h = e in cc)

          mine : Locked firsts (s ∷ past) h u
          mine = at s.node node
            where
              at : (n : Node) → n ≡ Host h
                  → LockedAfter firsts n s past (Locked firsts past h u) h u
              at (Host g) e = inl ((let q : Host g ≡ Host h = e in cc), m)
              at (Server v) e = absurd (let q : Server v ≡ Host h = e in cc)

          live : (g : HostId) (w : Labelled) → Locked firsts (s ∷ past) g w
              → HasGoneAway (doings_of (firsts w.token.id.server) w.token.id.server (s ∷ past)) g → ⊥
          live g w = locked_live script start firsts real (s ∷ past) run g w

          owner : (g : HostId) (w : Labelled) → Locked firsts (s ∷ past) g w → w.token.host ≡ g
          owner g w x = (locked_owed firsts (s ∷ past) ran ruled g w x (live g w x)).1

      pub uses_at : UsesAt past h s tree
      uses_at = record {
        uses = stands.agree;
        locks = λ lock. (λ k. locks_are lock k.0 k.1, λ k. are_locks lock k.0 k.1 k.2);
        opens = λ opened. (λ k. opens_are opened k.0 k.1, λ k. are_opens opened k.0 k.1 k.2);
        locks_free = λ lock u j two m file kinds. (
            let k = (stands.locks lock).0 j in
            begins_free lock.host k.0 u two k.1 m (sym k.2.2 ∙ file)
            (subst (λ (x : Kind). kinds_conflict x u.token.kind ≡ true) (sym k.2.3) kinds)
            );
        opens_free = λ opened u j two m file kinds. (
            let k = (stands.opens opened).0 j in
            begins_free opened.host k.0 u two k.1 m (sym k.2.2 ∙ file)
            (subst (λ (x : Kind). kinds_conflict x u.token.kind ≡ true) (sym k.2.3) kinds)
            );
      }
