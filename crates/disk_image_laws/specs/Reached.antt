-- What is reached from the root of a fileset.
use Rattle.std.specs.Prelude.{◌≡◌, ℕ, suc, Bool, true, List}
use Rattle.std.specs.List.{AllByRecursion}
use Rattle.disk_image.specs.Reach.{is_within, is_reached}
use Rattle.disk_image.specs.declared.found.Link.{Link}

-- a set of anodes has what the entries of its directories lead to
abbrev pub IsClosed : (ℕ → Bool) → List Link → Type 0
IsClosed anodes links = AllByRecursion (λ link. anodes link.from ≡ true → anodes link.to ≡ true) links

-- what is reached lies in each such set that has the root
abbrev pub ReachIsLeast : Type 0
ReachIsLeast = (links : List Link) (anodes : ℕ → Bool) (anode : ℕ) → anodes 1 ≡ true → IsClosed anodes links
    → is_reached links anode ≡ true → anodes anode ≡ true

-- the root is reached, and in one step more what an entry of a directory within some steps leads to
abbrev pub RootIsReached : Type 0
RootIsReached = (links : List Link) → is_reached links 1 ≡ true

abbrev pub StepsLead : Type 0
StepsLead = (links : List Link) (steps : ℕ)
    → AllByRecursion (λ link. is_within links steps link.from ≡ true → is_within links (suc steps) link.to ≡ true) links
