use Rattle.std.proofs.Common.{ap, ◌∙◌}
use Rattle.std.specs.List.{filter}
use Rattle.std.specs.BTreeMap.{values}
use Rattle.std.specs.Map.{values_of}
use Rattle.token_table.proofs.Shelving.{in_file, is_shelf}
use Rattle.token_table.proofs.shelf.ShelfPlain.copy.Goals as goal

pub invariant_of-result : goal.invariant_of-result
invariant_of-result c =
    let s = c.self.inside in
    is_shelf s.server s.epoch s.tokens c.in_ok-tokens.tokens s.files c.in_ok-files.files (values s.tokens)
    (c.in_ok-tokens.ensures ∙ c.self.invariant.placed)
    (λ key. c.in_ok-files.ensures key ∙ ap (filter (in_file key)) (c.as_slice.ensures ∙ c.in_ok-list.ensures))

pub returns : goal.returns
returns c =
    let s = c.self.inside in
    (λ i. record {
      server = s.server;
      epoch = s.epoch;
      tokens = values_of (c.in_ok-tokens.ensures i);
    }) ∙ c.self.view_is
