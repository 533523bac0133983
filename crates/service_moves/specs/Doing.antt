-- Steps of the stores of servers, each an act of one of them.
use Rattle.std.specs.Prelude.{
  ◌≡◌,
  ◌≤◌,
  ◌+◌,
  ℕ,
  ◌==◌,
  List,
  [],
  ◌∷◌,
  length,
  map,
  take,
  if◌then◌else◌,
  slice_get,
  Some,
  Result,
  OnOk,
}
use Rattle.base_types.specs.declared.limits.TheConstants.{BATCH_ACTS_MAX}
use Rattle.store_acts.specs.Acts.{state_after}
use Rattle.store_acts.specs.declared.act.Act.{Act}
use Rattle.store_memory.specs.Views.{View, Leaves, IsFirstOf}

-- the store at a place, from 0, does an act
pub record Step : Type 0 where
  pub place : ℕ
  pub act : Act

-- the acts of the store at a place, in their order
abbrev pub acts_at : ℕ → List Step → List Act
acts_at place [] = []
acts_at place (step ∷ steps) =
    if step.place == place then step.act ∷ acts_at place steps else acts_at place steps

-- steps of one store
abbrev pub steps_of : ℕ → List Act → List Step
steps_of place acts = map (λ act. record { place = place; act = act }) acts

-- each store keeps what its acts among these steps made
abbrev pub AreAfter : {S : Type 0} → (S → View) → List Step → List S → List S → Type 0
AreAfter {S = S} view steps old new =
    (k : ℕ) (before after : S) → slice_get old k ≡ Some before → slice_get new k ≡ Some after
    → (view after).state ≡ state_after (view before).state (acts_at k steps)

-- Stores do steps in their order: all of them where the answer is Ok; and however it is, each keeps what its acts among
-- the first steps made, up to one and the same step for all. A crash at any moment leaves of each what the first of its
-- acts made, none of which lies more than a batch behind that step.
pub record DoSteps {S T E : Type 0} (view : S → View) (result : Result T E) (steps : List Step) (old new : List S) :
    Type 0 where
  pub cut : ℕ
  pub within : cut ≤ length steps
  pub all : OnOk result (cut ≡ length steps)
  pub count : length new ≡ length old
  pub states : AreAfter view (take cut steps) old new
  pub leaves : (k : ℕ) (before after : S) → slice_get old k ≡ Some before → slice_get new k ≡ Some after
      → Leaves (IsFirstOf (view before).state (acts_at k (take (cut + BATCH_ACTS_MAX) steps))) (view before) (view after)
