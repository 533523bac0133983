-- What became of a store since it was first seen.
use Rattle.std.specs.Prelude.{◌≡◌, ◌≤◌, ⊤, ℕ, List, [], ◌∷◌, ◌++◌, length, take, Option, Some}
use Rattle.message_types.specs.Soundness.{Each}
use Rattle.store_acts.specs.Acts.{state_after}
use Rattle.store_acts.specs.Sound.{AreActs, IsAct}
use Rattle.store_acts.specs.declared.act.Act.{Act}
use Rattle.store_memory.specs.Views.{View, IsSameStore, Leaves}
use Rattle.store_state.specs.declared.state.StoreState.{StoreState}

-- What a crash at some moment may leave of a store that has done these acts: the record that the first of them made,
-- and perhaps some of one batch more, which wasn't answered.
abbrev pub IsLeftOf : StoreState → List Act → Option StoreState → Type 0
IsLeftOf from acts found = (k : ℕ) × (more : List Act) × (k ≤ length acts) × AreActs from.roster from.server more
    × (found ≡ Some (state_after from (take k acts ++ more)))

-- A store has done some acts since it was seen so, each one that it may be given; and a crash at any moment since may
-- leave what the first of them made, or what one could have left before.
pub record HasGone (from now : View) : Type 0 where
  pub acts : List Act
  pub each : Each (IsAct from.state.roster from.state.server) acts
  pub same : IsSameStore from now
  pub state : now.state ≡ state_after from.state acts
  pub leaves : Leaves (IsLeftOf from.state acts) from now

-- so it is of each of these stores, for some acts, where that of the server of a number was first seen so
abbrev pub HaveGone : {S : Type 0} → (ℕ → View) → (S → View) → List S → Type 0
HaveGone from view [] = ⊤
HaveGone from view (store ∷ stores) =
    ∥ HasGone (from (view store).state.server.0) (view store) ∥₁ × HaveGone from view stores
