-- The labels in use in a tree, and those of a run. Lists of steps have the newest first.
use Rattle.std.specs.Prelude.{List, true, ℕ, ◌≡◌, ◌↔◌}
use Rattle.base_types.specs.declared.ids.HostId.{HostId}
use Rattle.base_types.specs.declared.ids.ServerId.{ServerId}
use Rattle.tree_answers.specs.declared.tree.LockUse.{LockUse}
use Rattle.tree_answers.specs.declared.tree.OpenUse.{OpenUse}
use Rattle.tree_answers.specs.declared.tree.Tree.{Tree}
use Rattle.tree_laws.specs.Labels.{UsesAgree}
use Rattle.token_types.specs.Conflicts.{kinds_conflict}
use Rattle.token_types.specs.declared.token.Kind.TheVariants.{Lock as LockToken, Opening}
use Rattle.run_rules.specs.Past.{In}
use Rattle.run_rules.specs.Steps.{steps_of_host}
use Rattle.run_rules.specs.Views.{HasLabel, IsLock, IsOpening}
use Rattle.run_parts.specs.Uses.{Locked}
use Rattle.run_rules.specs.declared.step.Labelled.{Labelled}
use Rattle.run_rules.specs.declared.step.Step.{Step}

-- The labels in use in a tree are those of the run: of each host just those that began and that neither the host ended
-- nor the server of the token freed; and they agree with one another.
pub record LabelsStand (firsts : ServerId → ℕ) (past : List Step) (tree_is : Tree) : Type 0 where
  pub locks : (lock : LockUse) → In lock tree_is.locks
      ↔ ((u : Labelled) × Locked firsts past lock.host u × IsLock lock.host lock u)
  pub opens : (opened : OpenUse) → In opened tree_is.opens
      ↔ ((u : Labelled) × Locked firsts past opened.host u × IsOpening opened.host opened u)
  pub agree : UsesAgree tree_is

-- What a tree has in use agrees with a host that takes a step: the host has just its own labels of these, and no label
-- of
-- another host conflicts with one that begins.
pub record UsesAt (past : List Step) (h : HostId) (s : Step) (tree_is : Tree) : Type 0 where
  pub uses : UsesAgree tree_is
  pub locks : (lock : LockUse) → (In lock tree_is.locks × (lock.host ≡ h))
      ↔ ((u : Labelled) × HasLabel (steps_of_host h past) s u × IsLock h lock u)
  pub opens : (opened : OpenUse) → (In opened tree_is.opens × (opened.host ≡ h))
      ↔ ((u : Labelled) × HasLabel (steps_of_host h past) s u × IsOpening h opened u)
  pub locks_free : (lock : LockUse) (u : Labelled) → In lock tree_is.locks → (lock.host ≡ h → ⊥) → In u s.begun
      → lock.fid ≡ u.token.fid → kinds_conflict (LockToken lock.writing lock.span) u.token.kind ≡ true → ⊥
  pub opens_free : (opened : OpenUse) (u : Labelled) → In opened tree_is.opens → (opened.host ≡ h → ⊥) → In u s.begun
      → opened.fid ≡ u.token.fid → kinds_conflict (Opening opened.kind) u.token.kind ≡ true → ⊥
