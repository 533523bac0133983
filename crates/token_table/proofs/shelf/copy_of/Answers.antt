use Rattle.std.proofs.Common.{rules}
use Rattle.std.proofs.lemmas.List.Elements.{same_from_all_zip}
use Rattle.token_table.proofs.shelf.copy_of.Goals as goal

pub returns : goal.returns
returns c = same_from_all_zip _ _ _ c.in_ok-copy.ensures.cases (λ x y h. search rules)
