use Rattle.std.proofs.Common.{ap, ◌∙◌}
use Rattle.std.specs.List.{find}
use Rattle.std.specs.Map.{lookup}
use Rattle.std.specs.BTreeMap.{is_at, values}
use Rattle.token_types.specs.Conflicts.{same_id}
use Rattle.token_table.specs.Places.{place_cmp, place_of}
use Rattle.token_table.proofs.Placing.{lookup_placed}
use Rattle.token_table.proofs.shelf.Shelf.get.Goals as goal

pub returns : goal.returns
returns c =
    let s = c.self.inside in
    c.get.ensures.value
    ∙ ap (λ k. lookup (is_at (place_cmp k)) s.tokens.entries) c.place_of.ensures
    ∙ ap (lookup (is_at (place_cmp (place_of s.server s.epoch c.args.id)))) c.self.invariant.placed
    ∙ lookup_placed s.server s.epoch c.args.id (values s.tokens)
    ∙ ap (λ v. find (λ token. same_id token.id c.args.id) v.tokens) c.self.view_is
