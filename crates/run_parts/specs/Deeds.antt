-- What a server does, with what that does to parts. The newest stands first.
use Rattle.std.specs.Prelude.{List, [], ◌∷◌}
use Rattle.base_types.specs.declared.ids.Fid.{Fid}
use Rattle.tree_laws.specs.Parts.{Part, Seen}
use Rattle.run_parts.specs.Cells.{Does}
use Rattle.run_rules.specs.Doings.{Doing}

-- a doing, with what it does to each part
pub record Deed : Type 0 where
  pub act : Doing
  pub does : Fid → (part : Part) → Does (Seen part)

abbrev pub acts_in : List Deed → List Doing
acts_in [] = []
acts_in (d ∷ deeds) = d.act ∷ acts_in deeds
