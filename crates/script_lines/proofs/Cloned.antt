use Rattle.std.proofs.Common.{◌≡◌, ℕ, List, [], ◌∷◌, ◌++◌, refl, ap, ◌∙◌}
use Rattle.std.specs.List.{AllByRecursion}
use Rattle.script_lines.specs.Clones.{ClonesNothing, clone_in, clones_from, with_clone, with_clones}
use Rattle.script_lines.specs.declared.context.Context.{Context}
use Rattle.script_lines.specs.declared.clones.CloneLine.{CloneLine}

-- lines that clone nothing add no clones
pub no_clones : (clones : List CloneLine) (more : List (List ℕ)) → AllByRecursion ClonesNothing more → clones_from clones more ≡ clones
no_clones clones [] h = refl
no_clones clones (line ∷ more) h = ap (λ c. clones_from (with_clone clones c) more) h.0 ∙ no_clones clones more h.1

pub same_clones : (clones : List CloneLine) (lines more : List (List ℕ)) → AllByRecursion ClonesNothing more → clones_from clones (lines ++ more) ≡ clones_from clones lines
same_clones clones [] more h = no_clones clones more h
same_clones clones (line ∷ lines) more h = same_clones (with_clone clones (clone_in line)) lines more h

-- so they place nothing
pub same_places : (context : Context) (lines more : List (List ℕ)) → AllByRecursion ClonesNothing more → with_clones context (lines ++ more) ≡ with_clones context lines
unfolding with_clones
same_places context lines more h = rw (same_clones [] lines more h) refl
