-- Where no host is down nothing is lost.
use Rattle.std.proofs.Common.{◌≡◌, List, [], ◌∷◌, false, refl, ap, ◌∙◌}
use Rattle.std.specs.List.{list_any}
use Rattle.std.proofs.lemmas.Bool.{or_parts}
use Rattle.tree_calls.specs.declared.entry.Entry.{Entry}
use Rattle.tree_calls.specs.declared.entry.Entry.TheVariants.{Call, Stored, Down, Left}
use Rattle.tree_answers.specs.declared.tree.Tree.{Tree}
use Rattle.tree_answers.specs.Histories.{after_entry, lost_at, lost_in}
use Rattle.script_output.specs.Reports.{is_down, by_host}

none_at : (tree : Tree) (entry : Entry) → is_down entry ≡ false → lost_at tree entry ≡ []
none_at tree (Call host k call reply) e = refl
none_at tree (Stored host fid spans len) e = refl
none_at tree (Left server id) e = refl
none_at tree (Down host server) e = absurd (cc)

none_in : (tree : Tree) (history : List Entry) → list_any is_down history ≡ false → lost_in tree history ≡ []
none_in tree [] e = refl
none_in tree (entry ∷ history) e =
    let parts = or_parts (is_down entry) (list_any is_down history) e in
    rw (none_at tree entry parts.0) (none_in (after_entry tree entry) history parts.1)

none_ordered : by_host [] ≡ []
unfolding by_host
none_ordered = refl

pub none_lost : (tree : Tree) (history : List Entry) → list_any is_down history ≡ false → by_host (lost_in tree history) ≡ []
none_lost tree history e = ap by_host (none_in tree history e) ∙ none_ordered
