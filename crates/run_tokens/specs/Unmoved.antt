-- When no fileset moves: then a server has just the filesets that were made at it.
use Rattle.std.specs.List.{list_any}
use Rattle.std.specs.Prelude.{Bool, List, false, true, ℕ, ◌≡◌}
use Rattle.base_types.specs.declared.ids.FilesetId.{FilesetId}
use Rattle.base_types.specs.declared.ids.ServerId.{ServerId}
use Rattle.run_rules.specs.Doings.{Doing, Here}
use Rattle.run_rules.specs.Doings.Doing.{Moves}
use Rattle.run_rules.specs.Messages.{first_stay}
use Rattle.run_rules.specs.Past.{Once}
use Rattle.run_rules.specs.declared.applied.Applied.{Applied}
use Rattle.run_rules.specs.declared.applied.Applied.TheVariants.{Moves as IsMoved}
use Rattle.run_rules.specs.declared.applied.Move.{Move}
use Rattle.run_rules.specs.declared.step.Step.{Step}

abbrev pub is_move : Applied → Bool
is_move (IsMoved move) = true
is_move _ = false

-- the step moves no fileset
abbrev pub MovesNone : Step → Type 0
MovesNone step = list_any is_move step.applied ≡ false

-- the doing is one of a fileset that moves
abbrev pub MovesOne : Doing → Type 0
MovesOne a = (move : Move) × (a ≡ Moves move)

-- a server's filesets are those that were made at it, after these doings
abbrev pub StaysPut : List Doing → Type 0
StaysPut past = Once (λ before a. MovesOne a) past → ⊥

-- What follows from it.
pub record Unmoved : Type 0 where
  pub here_is : (v : ServerId) (past : List Doing) (fs : FilesetId) (m : ℕ) → StaysPut past → Here v past fs m
      → first_stay fs ≡ record { server = v; moves = m }
  pub here_was : (v : ServerId) (past : List Doing) (fs : FilesetId) (m : ℕ) → StaysPut past
      → first_stay fs ≡ record { server = v; moves = m } → Here v past fs m
