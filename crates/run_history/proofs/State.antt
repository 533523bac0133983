-- What is so of labels after each prefix of a run, and trees in which they stand.
use Rattle.std.proofs.Common.{List, arith, inl, inr, refl, subst, sym, ℕ, ◌<◌, ◌∷◌, ◌≡◌}
use Rattle.std.specs.Prelude.{[]}
use Rattle.base_types.specs.declared.ids.HostId.{HostId}
use Rattle.base_types.specs.declared.ids.Node.{Node}
use Rattle.base_types.specs.declared.ids.Node.TheVariants.{Host, Server}
use Rattle.base_types.specs.declared.ids.ServerId.{ServerId}
use Rattle.tree_answers.specs.declared.tree.LockUse.{LockUse}
use Rattle.tree_answers.specs.declared.tree.OpenUse.{OpenUse}
use Rattle.tree_answers.specs.declared.tree.Tree.{Tree}
use Rattle.tree_laws.specs.Labels.{UsesAgree}
use Rattle.script_lines.specs.declared.script.Script.{Script}
use Rattle.run_tokens.proofs.TokenRun.{token_run}
use Rattle.run_rules.specs.Doings.{HasGoneAway, doings_of}
use Rattle.run_rules.specs.Runs.{StepsMeet}
use Rattle.run_rules.specs.Steps.{steps_of_host}
use Rattle.run_rules.specs.Tokens.{end_of}
use Rattle.run_rules.specs.Views.{IsLock, IsOpening}
use Rattle.run_tokens.specs.TokenLaws.{IsTokenRun}
use Rattle.run_parts.proofs.Words.{host_split}
use Rattle.run_parts.proofs.LabelLaw.{AllUses, all_uses}
use Rattle.run_parts.specs.Uses.{Locked, LockedAfter, UsesRun}
use Rattle.run_contents.proofs.Runs.{own_run}
use Rattle.run_contents.proofs.Uses.{uses_run}
use Rattle.run_contents.specs.Steps.{HostRun}
use Rattle.run_tokens.proofs.Invariant.{Link}
use Rattle.run_tokens.proofs.Law.{Whole, always}
use Rattle.run_tokens.proofs.Words.{own_after}
use Rattle.run_rules.specs.declared.step.Labelled.{Labelled}
use Rattle.run_rules.specs.declared.step.Step.{Step}
use Rattle.run_history.proofs.Open.{Also, Firm, Has, MadeOnce, SendsReal, firm}
use Rattle.run_history.proofs.Tying.{Tied}
use Rattle.run_history.specs.UseStanding.{LabelsStand}

-- locks, and open files, each with its label
abbrev pub TiedLocks : (HostId → Labelled → Type 0) → List LockUse → Type 0
TiedLocks had locks = Tied (λ (lock : LockUse). lock.host) (λ (lock : LockUse) u. IsLock lock.host lock u) had locks

abbrev pub TiedOpens : (HostId → Labelled → Type 0) → List OpenUse → Type 0
TiedOpens had opens =
    Tied (λ (opened : OpenUse). opened.host) (λ (opened : OpenUse) u. IsOpening opened.host opened u) had opens

pub record StandsWith (had : HostId → Labelled → Type 0) (tree : Tree) : Type 0 where
  pub locks : TiedLocks had tree.locks
  pub opens : TiedOpens had tree.opens
  pub agree : UsesAgree tree

pub to_stand : (firsts : ServerId → ℕ) (past : List Step) (tree : Tree) → StandsWith (Locked firsts past) tree
    → LabelsStand firsts past tree
to_stand firsts past tree x = record { locks = x.locks; opens = x.opens; agree = x.agree }

pub of_stand : (firsts : ServerId → ℕ) (past : List Step) (tree : Tree) → LabelsStand firsts past tree
    → StandsWith (Locked firsts past) tree
of_stand firsts past tree x = record { locks = x.locks; opens = x.opens; agree = x.agree }

-- the labels in use after a step of a node
abbrev pub LockedNow : (ServerId → ℕ) → List Step → Step → Node → HostId → Labelled → Type 0
LockedNow firsts past s n h u = LockedAfter firsts n s past (Locked firsts past h u) h u

pub stand_after : (firsts : ServerId → ℕ) (past : List Step) (s : Step) (n : Node) (tree : Tree) → s.node ≡ n
    → StandsWith (LockedNow firsts past s n) tree → LabelsStand firsts (s ∷ past) tree
stand_after firsts past s n tree e x =
    to_stand firsts (s ∷ past) tree
    (subst (λ (k : Node). StandsWith (LockedNow firsts past s k) tree) (sym e) x)

module _ (script : Script) (start : Tree) (firsts : ServerId → ℕ) (real : (v : ServerId) → 0 < firsts v) where
  pub tokens : (past : List Step) → StepsMeet script start firsts past → IsTokenRun firsts past
  tokens past run = token_run script start firsts past real run

  pub rules : (past : List Step) → StepsMeet script start firsts past → UsesRun past
  rules past run = uses_run script start firsts past run

  pub whole : (past : List Step) → StepsMeet script start firsts past
      → Whole (λ h. steps_of_host h past) (λ v. doings_of (firsts v) v past)
  whole past run = always firsts past (tokens past run)

  pub all : (past : List Step) → StepsMeet script start firsts past → AllUses firsts past
  all past run = all_uses firsts past (tokens past run) (rules past run)

  pub also : (past : List Step) → StepsMeet script start firsts past → (h : HostId) → Also (steps_of_host h past)
  also [] run h = tt
  also (s ∷ past) run h = at_node s.node sends (also past run.0 h) made
    where
      sends : SendsReal s
      sends m i z = let k = (run.1.3 m i).1.server.first in absurd (omega (arith, k, z))

      made : MadeOnce (own_after h s.node s (steps_of_host h past))
      made g k i a b c d = (((whole (s ∷ past) run).at i.server).link h).made_once g k i refl a b c d

      at_node : (n : Node) → SendsReal s → Also (steps_of_host h past) → MadeOnce (own_after h n s (steps_of_host h past))
          → Also (own_after h n s (steps_of_host h past))
      at_node (Server v) sends old made = old
      at_node (Host k) sends old made =
          host_split (λ L. MadeOnce L → Also L) k h (s ∷ steps_of_host h past) (steps_of_host h past) (λ e now. (old, sends, now))
          (λ e now. old) made

  pub host_run : (past : List Step) → StepsMeet script start firsts past → (h : HostId) → HostRun script h (steps_of_host h past)
  host_run past run h = own_run script start firsts past run h

  pub firm_now : (past : List Step) → StepsMeet script start firsts past → (h : HostId) → Firm h (steps_of_host h past)
  firm_now past run h = firm script h (steps_of_host h past) (host_run past run h) (also past run h)

  module _ (past : List Step) (run : StepsMeet script start firsts past) (h : HostId) where
    abbrev A : List Step
    A = steps_of_host h past

    -- a label in use in the tree is the host's
    pub locked_live : (u : Labelled) → Locked firsts past h u
        → HasGoneAway (doings_of (firsts u.token.id.server) u.token.id.server past) h → ⊥
    locked_live u l = ((all past run).uses h u.token.id.server).none_away u refl l

    pub locked_had : (u : Labelled) → Locked firsts past h u → Has A u
    locked_had u l =
        let v = u.token.id.server in
        let S = doings_of (firsts v) v past in
        let link : Link h v A S = ((whole past run).at v).link h in
        elim (((all past run).uses h v).locked_is u refl l (locked_live u l)) [
          | inl usage ↦ inl usage
          | inr g ↦ inr (
            g.0,
            g.1.given,
            g.1.gives,
            λ k. g.1.not_applied (link.known _ (link.made_id g.0 u.token.id g.1.made g.1.gives.3 refl) k),
          )
        ]

    -- of a host it stands once
    pub locked_once : (u w : Labelled) → Locked firsts past h u → Locked firsts past h w → end_of u ≡ end_of w → u ≡ w
    locked_once u w a b e = (firm_now past run h).once u w (locked_had u a) (locked_had w b) e
