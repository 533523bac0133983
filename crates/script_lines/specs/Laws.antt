-- Where the names of clones are placed.
use Rattle.std.specs.Prelude.{◌≡◌, ℕ, ◌≤◌, ◌&&◌, Bool, true, List, [], ◌∷◌, ◌++◌, length, Some, None, is_some}
use Rattle.std.specs.List.{AllByRecursion, list_any}
use Rattle.base_types.specs.Name.{same_name}
use Rattle.base_types.specs.declared.ids.ServerId.{ServerId}
use Rattle.script_lines.specs.Context.{server_of}
use Rattle.script_lines.specs.Clones.{most_steps, clone_place}
use Rattle.script_lines.specs.declared.clones.CloneLine.{CloneLine}
use Rattle.script_lines.specs.declared.context.Placed.{Placed}

-- names that no header places, and of which each clone has its source among them
pub record AreCircular (placed : List Placed) (clones : List CloneLine) (among : List ℕ → Bool) : Type 0 where
  pub headers : (name : List ℕ) → among name ≡ true → server_of placed name ≡ None
  pub sources : AllByRecursion (λ clone. among clone.new ≡ true → among clone.source ≡ true) clones

-- lines that place each other in a circle place nothing
abbrev pub CirclesPlaceNothing : Type 0
CirclesPlaceNothing =
    (placed : List Placed) (clones : List CloneLine) (among : List ℕ → Bool)
    → AreCircular placed clones among
    → (name : List ℕ) → among name ≡ true → clone_place placed clones name ≡ None

-- whether a clone is among these
abbrev pub is_one_of : List CloneLine → CloneLine → Bool
is_one_of clones clone = list_any (λ other. same_name other.source clone.source && same_name other.new clone.new) clones

-- whether clones lead from one name to another, each from the name that the one before it makes
abbrev pub leads_to : List ℕ → List CloneLine → List ℕ → Bool
leads_to from [] to = same_name from to
leads_to from (clone ∷ chain) to = same_name clone.source from && leads_to clone.new chain to

-- a clone of a clone of a fileset is placed, in whatever order their lines stand
abbrev pub ChainsPlace : Type 0
ChainsPlace =
    (placed : List Placed) (clones chain : List CloneLine) (from to : List ℕ)
    → is_some (server_of placed from) ≡ true
    → AllByRecursion (λ clone. is_one_of clones clone ≡ true) chain → length chain ≤ most_steps
    → leads_to from chain to ≡ true
    → is_some (clone_place placed clones to) ≡ true

-- a name that no header places is placed by the first clone of it whose source is placed
abbrev pub FirstClonePlaces : Type 0
FirstClonePlaces =
    (placed : List Placed) (before after : List CloneLine) (clone : CloneLine) (server : ServerId)
    → server_of placed clone.new ≡ None
    → AllByRecursion (λ other. same_name other.new clone.new ≡ true
    → clone_place placed (before ++ clone ∷ after) other.source ≡ None) before
    → server_of placed clone.source ≡ Some server
    → clone_place placed (before ++ clone ∷ after) clone.new ≡ Some server
